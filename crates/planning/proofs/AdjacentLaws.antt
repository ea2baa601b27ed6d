-- The adjacent traffic of a side: it is there, it is adjacent, and it reaches the hazards whose near offset lies in the clear zone.
-- Assumes nothing.
use Prim.Native.Nat.{ℕ, ◌≤◌}
use native.Mathlib.Omega.{arith}
use native.Mathlib.Decide.{ℕ_discrete}
use mathlib.Core.Path.{◌≡◌, refl, ap, ◌∙◌}
use mathlib.Core.Bool.{Bool, true, ◌&&◌, ◌||◌}
use lib.Dec.{ltb, eqb}
use borrow.Author.Tests.{lt-ltb, eq-eqb, ne_eqb}
use Rattle.std.proofs.lemmas.Bool.{or_left, or_right}
use Rattle.job.specs.declared.Header.{Header}
use Rattle.job.specs.declared.Hazard.{Hazard}
use Rattle.planning.specs.Envelope.{adjacent_traffic, reaches, Adjacent}
use Rattle.planning.proofs.ReachLaws.{reaches_adjacent}

-- "The adjacent traffic of the right side is forward; of the left side opposite. With LO = 0, forward is adjacent to both sides."
pub is_adjacent : (h : Header) (side : ℕ) → side ≤ 1 → Adjacent h side (adjacent_traffic h side)
unfolding adjacent_traffic
is_adjacent h side l = go (ℕ_discrete side 0) (ℕ_discrete h.opposite 0)
  where
    first : (eqb side 0 || eqb h.opposite 0) ≡ true → Adjacent h side (adjacent_traffic h side)
    first e = rw e (record { there = refl; beside = e })

    go : Dec (side ≡ 0) → Dec (h.opposite ≡ 0) → Adjacent h side (adjacent_traffic h side)
    go (yes a) b = first (or_left _ _ (eq-eqb side 0 a))
    go (no a) (yes b) = first (or_right (eqb side 0) _ (eq-eqb h.opposite 0 b))
    go (no a) (no b) =
        rw (ne_eqb side 0 a, ne_eqb h.opposite 0 b) (record { there = lt-ltb 0 h.opposite (omega arith); beside = eq-eqb side 1 (omega arith) })

-- "Adjacent traffic reaches the hazard if n < C."
pub adjacent_reaches_lem : (h : Header) (z : Hazard) → z.side ≤ 1 → reaches h z (adjacent_traffic h z.side) ≡ ltb z.near h.zone
adjacent_reaches_lem h z l =
    let a = is_adjacent h z.side l in
    (reaches_adjacent h z (adjacent_traffic h z.side) a.beside).0 ∙ ap (λ (there : Bool). there && ltb z.near h.zone) a.there
