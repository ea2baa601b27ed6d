-- `planning::side::side_runs` meets its contract: the required runs of the side as it is accepted. Assumes nothing.
use Rattle.std.proofs.Common.{ℕ, List, ◌≡◌, refl, sym, ap, ◌∙◌}
use Rattle.base.specs.Answer.{accepted}
use Rattle.refusal.specs.Refusal.{refusal}
use Rattle.runs.specs.Required.{required_runs}
use Rattle.runs.proofs.StoredLaws.{runs_stored}
use Rattle.planning.specs.declared.window.Window.TheVariants.{All}
use Rattle.planning.specs.Accept.{AcceptedSide, side_within}
use Rattle.planning.specs.Reply.{accepted_runs}
use Rattle.planning.proofs.WalkLaws.{the_err}
use Rattle.planning.proofs.AcceptedSideLaws.{side_sound, runs_side}
use Rattle.planning.proofs.side.side_runs.Goals as goal

-- The runs are those of the side that was accepted.
runs_accepted : (s : List ℕ) (side : ℕ) (x : AcceptedSide) → side_within s side All ≡ accepted x → accepted_runs s side ≡ accepted (required_runs x.cuts.envelopes x.continuity)
runs_accepted s side x e = runs_side s side ∙ rw e

pub returns-in_err-read-clause-answer : goal.returns-in_err-read-clause-answer
returns-in_err-read-clause-answer c =
    let a = c.args in
    let e = sym c.in_err-read.ensures.answer in
    let whole : accepted_runs a.s.now a.side ≡ refusal c.in_err-read.field-0.0 = runs_side a.s.now a.side ∙ rw e in
    rw (the_err c.from_residual.result c.in_err-read.field-0.0 c.from_residual.ensures.1, whole) refl

pub required_runs-requires-clause-all_sound : goal.required_runs-requires-clause-all_sound
required_runs-requires-clause-all_sound c = side_sound c.args.s.now c.args.side All _ (sym c.in_ok-read.ensures.answer)

pub returns-clause-answer : goal.returns-clause-answer
returns-clause-answer c =
    let whole = runs_accepted c.args.s.now c.args.side _ (sym c.in_ok-read.ensures.answer) in
    rw (whole, c.required_runs.ensures) (ap accepted (runs_stored _))

pub returns-clause-runs_stored : goal.returns-clause-runs_stored
returns-clause-runs_stored c =
    let whole = runs_accepted c.args.s.now c.args.side _ (sym c.in_ok-read.ensures.answer) in
    rw (whole, c.required_runs.ensures) refl
