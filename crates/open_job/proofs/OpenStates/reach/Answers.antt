-- The memory is tested, and then the call is that on the present state.
use Rattle.std.proofs.Common.{sym, ◌∙◌}
use Rattle.refusal.proofs.RefuseLaws.{passed_on}
use Rattle.open_job.specs.Calls.{reach_under, reach_in}
use Rattle.open_job.proofs.WholeLaws.{test_passed, under_refused, under_passed}
use Rattle.open_job.proofs.OpenStates.reach.Goals as goal

pub invariant_of-present : goal.invariant_of-present
invariant_of-present c = record { keeps_rules = test_passed c.args.self.now c.in_ok-test.field-0 c.in_ok-test.ensures.sound }

pub returns : goal.returns
unfolding reach_in
returns c =
    c.reach.ensures ∙ sym (under_passed c.args.self.now c.in_ok-test.field-0 (reach_under c.args.self.now.present c.args.name) c.in_ok-test.ensures.sound)

pub returns-in_err-test : goal.returns-in_err-test
unfolding reach_in
returns-in_err-test c =
    let q = c.in_err-test.field-0.0 in
    passed_on c.from_residual.result q c.from_residual.ensures.1
    ∙ sym (under_refused c.args.self.now q (reach_under c.args.self.now.present c.args.name) c.in_err-test.ensures.sound)
