-- 8 before anything is read, then 14, or the corners of the hazard asked for.
-- Assumes nothing.
use native.Mathlib.Omega.{arith}
use mathlib.Core.Path.{sym, ap, ◌∙◌}
use Rattle.base.specs.Answer.{accepted}
use Rattle.refusal.specs.Refusal.{answer_of}
use Rattle.refusal.proofs.RefuseLaws.{passed_on}
use Rattle.planning.proofs.ApproachedLaws.{indexed_reached}
use Rattle.planning.proofs.TestedLaws.{clear_passes}
use Rattle.corners.specs.Reply.{corners_answer}
use Rattle.corners.proofs.CallLaws.{off_tested, on_tested, off_sheet, corners_refused, corners_unreached, corners_reached}
use Rattle.corners.proofs.call.corners.Goals as goal

pub returns-then-sheet_station-sheet_offset : goal.returns-then-sheet_station-sheet_offset
unfolding corners_answer
returns-then-sheet_station-sheet_offset c =
    let a = c.args in
    rw (off_sheet a.sheet_station a.sheet_offset a.job.now a.hazard (off_tested a.sheet_station a.sheet_offset c.if-sheet_station-sheet_offset.true))

pub returns-then-asked : goal.returns-then-asked
unfolding corners_answer
returns-then-asked c =
    let a = c.args in
    let on = on_tested a.sheet_station a.sheet_offset c.if-sheet_station-sheet_offset.false in
    let found = sym c.indexed_hazard.ensures ∙ ap answer_of c.in_ok-asked.was in
    rw (corners_unreached a.sheet_station a.sheet_offset a.job.now a.hazard on.0 on.1 _ _ found (omega (arith, c.if-asked.true)))

pub invariant_of-sheet : goal.invariant_of-sheet
invariant_of-sheet c =
    let on = on_tested c.args.sheet_station c.args.sheet_offset c.if-sheet_station-sheet_offset.false in
    record { on_sheet = record { station_top = on.0; offset_top = on.1 } }

pub invariant_of-tested : goal.invariant_of-tested
invariant_of-tested c =
    let found = sym c.indexed_hazard.ensures ∙ ap answer_of c.in_ok-asked.was in
    let fits = indexed_reached c.args.job.now c.args.hazard _ _ found (omega (arith, c.if-asked.false)) in
    record { header_fits = fits.header; hazard_fits = fits.hazard; passed = clear_passes _ _ fits.clear }

pub returns : goal.returns
unfolding corners_answer
returns c =
    let a = c.args in
    let on = on_tested a.sheet_station a.sheet_offset c.if-sheet_station-sheet_offset.false in
    let found = sym c.indexed_hazard.ensures ∙ ap answer_of c.in_ok-asked.was in
    rw (corners_reached a.sheet_station a.sheet_offset a.job.now a.hazard on.0 on.1 _ _ found (omega (arith, c.if-asked.false)))
    (ap accepted c.hazard_corners.ensures)

pub returns-in_err-asked : goal.returns-in_err-asked
unfolding corners_answer
returns-in_err-asked c =
    let a = c.args in
    let on = on_tested a.sheet_station a.sheet_offset c.if-sheet_station-sheet_offset.false in
    passed_on c.from_residual.result c.in_err-asked.field-0.0 c.from_residual.ensures.1
    ∙ rw (corners_refused a.sheet_station a.sheet_offset a.job.now a.hazard on.0 on.1 (sym c.indexed_hazard.ensures ∙ ap answer_of c.in_err-asked.was))
