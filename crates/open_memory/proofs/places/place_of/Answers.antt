-- The first name that is not below ends the search.
use Rattle.std.proofs.Common.{◌≡◌, ◌∙◌, arith, rules}
use Rattle.open_memory.proofs.WalkLaws.{rank_start, rank_next, rank_here, rank_last}
use Rattle.open_memory.proofs.places.place_of.Goals as goal

pub loop-i-init : goal.loop-i-init
loop-i-init c = rank_start c.args.job (search rules) c.requires c.args.name

pub returns-then-name-job : goal.returns-then-name-job
returns-then-name-job c = rank_here c.args.job (search rules) c.requires c.args.name c.loop-i.invariant (omega arith) c.if-name-job.true

pub loop-i-preserved : goal.loop-i-preserved
loop-i-preserved c = rank_next c.args.job (search rules) c.requires c.args.name c.loop-i.invariant (omega arith) c.if-name-job.false

pub returns : goal.returns
returns c =
    let last : c.args.job.header.count ≡ c.loop-i.i = omega (arith, c.loop-i.invariant.most, c.loop-i-test.false) in
    last ∙ rank_last c.args.job (search rules) c.requires c.args.name c.loop-i.invariant c.loop-i-test.false
