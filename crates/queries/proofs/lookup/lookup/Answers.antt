-- `queries::lookup::lookup`: where a record is found, it lies within the slice of the side asked for. Assumes nothing.
use mathlib.Core.Path.{◌≡◌, ap, ◌∙◌}
use native.Mathlib.Omega.{arith}
use lib.ListN.{length}
use borrow.Author.Tests.{eq-eqb, ne_eqb}
use Rattle.number.proofs.ByteLaws.{index_bytes}
use Rattle.queries.specs.Lookup.{asked}
use Rattle.queries.proofs.PlaceLaws.{place_inside, asked_now}
use Rattle.queries.proofs.lookup.lookup.Goals as goal
use Rattle.queries.proofs.lookup.lookup.Goals.{then-side-eq1, else-side-eq1}

pub slice_bounds-result-count : goal.slice_bounds-result-count
slice_bounds-result-count c =
    (place_inside _ _ _ _ _ (index_bytes _ (λ i. omega (arith, c.type_inv.right i))) (index_bytes _ (λ i. omega (arith, c.type_inv.left i)))
    (rw c.in-Ok-Some.field-0-is at c.in-Ok-Some.ensures)).0

pub slice_bounds-result-start : goal.slice_bounds-result-start
slice_bounds-result-start c =
    (place_inside _ _ _ _ _ (index_bytes _ (λ i. omega (arith, c.type_inv.right i))) (index_bytes _ (λ i. omega (arith, c.type_inv.left i)))
    (rw c.in-Ok-Some.field-0-is at c.in-Ok-Some.ensures)).0

pub slice_bounds-result-end : goal.slice_bounds-result-end
slice_bounds-result-end c =
    let a = c.args in
    let inside = place_inside a.right.now a.left.now a.side a.station c.in-Ok-Some.place (index_bytes _ (λ i. omega (arith, c.type_inv.right i)))
    (index_bytes _ (λ i. omega (arith, c.type_inv.left i))) (rw c.in-Ok-Some.field-0-is at c.in-Ok-Some.ensures) in
    let chosen : c.if-side-eq1.asked ≡ asked a.side a.right a.left =
    elim c.if-side-eq1.branch [ then-side-eq1 w ↦ rw (eq-eqb a.side 1 w.if-side-eq1.true) w.asked-is | else-side-eq1 w ↦ rw (ne_eqb a.side 1 w.if-side-eq1.false) w.asked-is ] in
    omega (arith, inside.1, ap length (ap (λ x. x.now) chosen ∙ asked_now a.side a.right a.left))
