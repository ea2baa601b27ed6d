-- The memory's test and the number, and then what was found.
use Rattle.std.proofs.Common.{◌≡◌, ℕ, refl, ◌∙◌}
use mathlib.Core.Bool.{Bool, true, false}
use Rattle.base.specs.Answer.{accepted, ◌>>=◌}
use Rattle.refusal.specs.Refusal.{unless_refuse}
use Rattle.refusal.specs.declared.Refusal.TheVariants as Row
use Rattle.refusal.proofs.RefuseLaws.{passed_on}
use Rattle.job.specs.declared.Header.{Header}
use Rattle.open_job.specs.declared.KeptState.{KeptState}
use Rattle.open_job.specs.States.{state_of, is_used}
use Rattle.open_job.specs.Calls.{under_rules, test_state, kept_job}
use Rattle.open_job.proofs.tested.return_to.Goals as goal

-- The tests in their order.
in_order : (passed : Bool) (h : Header) (number : ℕ) (k : KeptState) → under_rules passed (kept_job h number k)
    ≡ (under_rules passed (test_state number) >>= λ _. unless_refuse (is_used k) Row.State >>= λ _. accepted (state_of h k))
unfolding kept_job
in_order true h number k = refl
in_order false h number k = refl

pub returns-in_err-test_state : goal.returns-in_err-test_state
returns-in_err-test_state c =
    let a = c.args in
    passed_on c.from_residual.result c.in_err-test_state.field-0.0 c.from_residual.ensures.1
    ∙ rw (in_order a.passed a.header a.number a.kept, ← c.in_err-test_state.ensures)

pub returns-then-is_used : goal.returns-then-is_used
returns-then-is_used c =
    let a = c.args in
    rw (in_order a.passed a.header a.number a.kept, ← c.in_ok-test_state.ensures, ← c.is_used.ensures, c.if-is_used.true, c.state_of.ensures)

pub returns-else-is_used : goal.returns-else-is_used
returns-else-is_used c =
    let a = c.args in rw (in_order a.passed a.header a.number a.kept, ← c.in_ok-test_state.ensures, ← c.is_used.ensures, c.if-is_used.false)
