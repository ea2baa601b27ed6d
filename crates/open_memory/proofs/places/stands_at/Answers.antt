-- `open_memory::places::stands_at` meets its contract: where names rise, a name stands at its place or nowhere. Assumes nothing.
use Rattle.std.proofs.Common.{◌≡◌, length, arith, rules}
use Rattle.open_memory.proofs.RuleLaws.{open_count}
use Rattle.open_memory.proofs.WalkLaws.{stands_tested, stands_beyond}
use Rattle.open_memory.proofs.places.stands_at.Goals as goal

pub offset_bounds-job-at : goal.offset_bounds-job-at
offset_bounds-job-at c = omega (arith, open_count c.args.job c.requires.job_open)

pub bounds-job-at : goal.bounds-job-at
bounds-job-at c = omega (arith, open_count c.args.job c.requires.job_open)

pub returns-then-at-header : goal.returns-then-at-header
returns-then-at-header c =
    let size : length c.args.job.hazards ≡ 256 = search rules in
    stands_tested c.args.job c.requires.job_open size c.args.name c.args.at c.requires.at_rank c.if-at-header.true

pub returns : goal.returns
returns c =
    let size : length c.args.job.hazards ≡ 256 = search rules in
    stands_beyond c.args.job c.requires.job_open size c.args.name c.args.at c.requires.at_rank c.if-at-header.false
