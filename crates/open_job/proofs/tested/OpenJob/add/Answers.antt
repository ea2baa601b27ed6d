-- The name, the room, then the tests of the hazard, and then it is put in.
use Rattle.std.proofs.Common.{◌≡◌, length, sym, arith, rules, ◌∙◌}
use borrow.Author.Tests.{le-leb, lt-leb}
use Rattle.refusal.proofs.RefuseLaws.{passed_on}
use Rattle.open_memory.specs.Memory.{hazard_given, standing}
use Rattle.open_memory.proofs.RuleLaws.{open_header, open_count, open_clear}
use Rattle.open_memory.proofs.PlaceLaws.{rank_most}
use Rattle.open_memory.proofs.WalkLaws.{standing_length}
use Rattle.open_job.specs.Calls.{add_to}
use Rattle.open_job.proofs.CallLaws.{full_count, add_refused, add_done}
use Rattle.open_job.proofs.tested.OpenJob.add.Goals as goal

pub place_of-at-requires : goal.place_of-at-requires
place_of-at-requires c = open_count c.args.self.state c.args.self.keeps_rules

pub returns-then-stands_at : goal.returns-then-stands_at
unfolding add_to
returns-then-stands_at c = rw (← c.stands_at.ensures, c.if-stands_at.true)

pub returns-then-full : goal.returns-then-full
unfolding add_to
returns-then-full c =
    let job = c.args.self.state in
    let size : length job.hazards ≡ 256 = search rules in
    rw (← c.stands_at.ensures, c.if-stands_at.false, full_count job c.args.self.keeps_rules size ∙ le-leb 256 job.header.count (omega arith))

pub admitted-requires : goal.admitted-requires
admitted-requires c = open_header c.args.self.state c.args.self.keeps_rules

pub returns-in_err-new : goal.returns-in_err-new
returns-in_err-new c =
    let job = c.args.self.state in
    let size : length job.hazards ≡ 256 = search rules in
    passed_on c.from_residual.result c.in_err-new.field-0.0 c.from_residual.ensures.1
    ∙ add_refused job c.args.self.keeps_rules c.args.name (hazard_given c.args.hazard) (sym c.stands_at.ensures ∙ c.if-stands_at.false)
    (full_count job c.args.self.keeps_rules size ∙ lt-leb 256 job.header.count (omega arith)) c.in_err-new.field-0.0 c.in_err-new.ensures

pub put_in-requires-clause-zeros_after : goal.put_in-requires-clause-zeros_after
put_in-requires-clause-zeros_after c = open_clear c.args.self.state c.args.self.keeps_rules (search rules)

pub put_in-requires-clause-at_le_count : goal.put_in-requires-clause-at_le_count
put_in-requires-clause-at_le_count c =
    let job = c.args.self.state in
    let size : length job.hazards ≡ 256 = search rules in
    omega (arith, c.place_of-at.ensures, rank_most c.args.name (standing job), standing_length job size (open_count job c.args.self.keeps_rules))

pub returns : goal.returns
returns c =
    let job = c.args.self.state in
    let size : length job.hazards ≡ 256 = search rules in
    rw c.put_in.ensures (sym (add_done job c.args.self.keeps_rules c.args.name (hazard_given c.args.hazard) (sym c.stands_at.ensures ∙ c.if-stands_at.false)
    (full_count job c.args.self.keeps_rules size ∙ lt-leb 256 job.header.count (omega arith)) _ c.in_ok-new.ensures _ c.place_of-at.ensures))
