-- `queries::walk::read_record`: two numbers, one after the other, and the run that they and the level make. Assumes nothing.
use mathlib.Core.Path.{refl, sym, ap, ◌∙◌}
use Rattle.number.proofs.ReadLaws.{read_bounds}
use Rattle.queries.specs.Walk.{as_record}
use Rattle.queries.proofs.WalkLaws.{none_found, some_found, no_gap, no_length, two_numbers}
use Rattle.queries.proofs.walk.read_record.Goals as goal

pub returns-in_default : goal.returns-in_default
returns-in_default c = ap as_record (sym (no_gap _ _ _ _ _ refl (none_found _ _ c.find_number.ensures c.in_default.not-Some)))

pub returns-in_default-find_number : goal.returns-in_default-find_number
returns-in_default-find_number c =
    let gap = some_found _ _ c.find_number.ensures _ c.in-Some.is in
    ap as_record (sym (no_length _ _ _ _ _ _ gap _ refl (none_found _ _ c.find_number-2.ensures c.in_default-find_number.not-Some)))

pub read_run-requires-clause-gap_le_greatest_number : goal.read_run-requires-clause-gap_le_greatest_number
read_run-requires-clause-gap_le_greatest_number c = (read_bounds _ _ _ _ (some_found _ _ c.find_number.ensures _ c.in-Some.is)).fits

pub read_run-requires-clause-length_le_greatest_number : goal.read_run-requires-clause-length_le_greatest_number
read_run-requires-clause-length_le_greatest_number c = (read_bounds _ _ _ _ (some_found _ _ c.find_number-2.ensures _ c.in-Some-find_number.is)).fits

pub returns : goal.returns
returns c =
    let gap = some_found _ _ c.find_number.ensures _ c.in-Some.is in
    let length = some_found _ _ c.find_number-2.ensures _ c.in-Some-find_number.is in
    c.read_run.ensures ∙ ap as_record (sym (two_numbers _ _ _ _ _ _ gap _ _ length))
