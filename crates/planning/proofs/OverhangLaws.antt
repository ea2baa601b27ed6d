-- Overhangs: the greater of two, and the greatest of a side's.
-- Assumes nothing.
use Rattle.std.specs.Prelude.{if◌then◌else◌}
use Prim.Native.Nat.{ℕ, ◌+◌, ◌≤◌, ◌<◌, max}
use native.Mathlib.Omega.{arith}
use native.Mathlib.Decide.{dec_le}
use mathlib.Core.Path.{◌≡◌, refl, sym, ap, ◌∙◌}
use mathlib.Core.Logic.{◌⊎◌, inl, inr, ◌↔◌}
use mathlib.Core.Bool.{Bool, true, false, ◌&&◌, false≢true}
use mathlib.Core.List.Memᴰ
use mathlib.Core.List.{List, [], ◌∷◌, Memᴰ}
use lib.Dec.{eqb}
use borrow.Author.Tests.{eqb-true, eq-eqb}
use Rattle.std.proofs.lemmas.Bool.{and_from, and_parts}
use Rattle.job.specs.declared.Header.{Header}
use Rattle.job.specs.declared.Hazard.{Hazard}
use Rattle.job.specs.Job.{Job}
use Rattle.planning.specs.declared.Overhangs.{Overhangs}
use Rattle.planning.specs.Envelope.{forward, opposite, reached, lengthening, overhang, no_overhang, greater, overhangs, side_overhangs}
use Rattle.planning.specs.Overhang.{SideHazard, Greatest}

-- The greater of two

pub greater_assoc : (a b c : Overhangs) → greater a (greater b c) ≡ greater (greater a b) c
unfolding greater
greater_assoc a b c = λ i. record { before = max_assoc a.before b.before c.before i; after = max_assoc a.after b.after c.after i }
  where
    max_assoc : (x y z : ℕ) → max x (max y z) ≡ max (max x y) z
    max_assoc x y z = omega arith

pub greater_none : (a : Overhangs) → greater a no_overhang ≡ a
unfolding greater
greater_none a = λ i. record { before = max_zero a.before i; after = max_zero a.after i }
  where
    max_zero : (x : ℕ) → max x 0 ≡ x
    max_zero x = omega arith

pub none_greater : (a : Overhangs) → greater no_overhang a ≡ a
unfolding greater
none_greater a = λ i. record { before = zero_max a.before i; after = zero_max a.after i }
  where
    zero_max : (x : ℕ) → max 0 x ≡ x
    zero_max x = omega arith

-- One hazard's overhang is the least number of millimetres by which the road would have to be longer there for its envelope to stay on it.
pub overhang_before : (h : Header) (z : Hazard) (d : ℕ) → ((overhang h z).before ≤ d) ↔ (h.begin + lengthening h z forward ≤ z.start + d)
unfolding overhang
overhang_before h z d = (λ l. omega arith, λ l. omega arith)

pub overhang_after : (h : Header) (z : Hazard) (d : ℕ) → ((overhang h z).after ≤ d) ↔ (z.end + lengthening h z opposite ≤ h.end + d)
unfolding overhang
overhang_after h z d = (λ l. omega arith, λ l. omega arith)

-- The greatest

-- At one end.
module _ (h : Header) (side : ℕ) (end : Overhangs → ℕ) (nothing : end no_overhang ≡ 0)
    (picks : (a b : Overhangs) → end (greater a b) ≡ max (end a) (end b)) where
  abbrev job_with : List Hazard → Job
  job_with zs = record { header = h; hazards = zs }

  later : {z x : Hazard} {zs : List Hazard} → SideHazard (job_with zs) side x → SideHazard (job_with (z ∷ zs)) side x
  later s = record { member = Memᴰ.tail s.member; on_side = s.on_side; reach = s.reach }

  -- One hazard more.
  with_one : (z : Hazard) (zs : List Hazard) (on : eqb z.side side && reached h z ≡ true) (r : Overhangs) → Greatest (job_with zs) side end (end r)
      → Greatest (job_with (z ∷ zs)) side end (end (greater (overhang h z) r))
  with_one z zs on r g = record { none_greater = λ x s. below x s (Memᴰ.cases_cons s.member); attained = pick (dec_le (end r) (end (overhang h z))) }
    where
      below : (x : Hazard) → SideHazard (job_with (z ∷ zs)) side x → (x ≡ z) ⊎ Memᴰ x zs → end (overhang h x) ≤ end (greater (overhang h z) r)
      below x s (inl q) = rw q (omega (arith, picks (overhang h z) r))
      below x s (inr m) = omega (arith, picks (overhang h z) r, g.none_greater x (record { member = m; on_side = s.on_side; reach = s.reach }))

      pick : Dec (end r ≤ end (overhang h z)) → 0 < end (greater (overhang h z) r)
          → (x : Hazard) × SideHazard (job_with (z ∷ zs)) side x × (end (overhang h x) ≡ end (greater (overhang h z) r))
      pick (yes l) some = (
        z,
        record { member = Memᴰ.head refl; on_side = eqb-true _ _ ((and_parts _ (reached h z) on).0); reach = (and_parts (eqb z.side side) _ on).1 },
        omega (arith, picks (overhang h z) r),
      )
      pick (no l) some =
          let w = g.attained (omega (arith, picks (overhang h z) r)) in
          (w.0, later w.1, omega (arith, picks (overhang h z) r, w.2))

  without_one : (z : Hazard) (zs : List Hazard) (off : eqb z.side side && reached h z ≡ false) (n : ℕ) → Greatest (job_with zs) side end n
      → Greatest (job_with (z ∷ zs)) side end n
  without_one z zs off n g =
      record { none_greater = λ x s. below x s (Memᴰ.cases_cons s.member); attained = λ some. let w = g.attained some in (w.0, later w.1, w.2) }
    where
      below : (x : Hazard) → SideHazard (job_with (z ∷ zs)) side x → (x ≡ z) ⊎ Memᴰ x zs → end (overhang h x) ≤ n
      below x s (inl q) = absurd (false≢true (sym off ∙ and_from _ _ (eq-eqb _ _ (ap (λ (y : Hazard). y.side) (sym q) ∙ s.on_side)) (rw q at s.reach)))
      below x s (inr m) = g.none_greater x (record { member = m; on_side = s.on_side; reach = s.reach })

  greatest : (zs : List Hazard) → Greatest (job_with zs) side end (end (overhangs h side zs))
  unfolding overhangs
  greatest [] = record { none_greater = λ x s. absurd (Memᴰ.not-nil s.member); attained = λ some. absurd (omega (arith, nothing)) }
  greatest (z ∷ zs) = go (eqb z.side side && reached h z) refl (greatest zs)
    where
      go : (b : Bool) → (eqb z.side side && reached h z) ≡ b → Greatest (job_with zs) side end (end (overhangs h side zs))
          → Greatest (job_with (z ∷ zs)) side end (end (if b then greater (overhang h z) (overhangs h side zs) else overhangs h side zs))
      go true on g = with_one z zs on (overhangs h side zs) g
      go false off g = without_one z zs off (end (overhangs h side zs)) g

-- "Among the asked side's hazards, the greatest overhang in millimetres at each end, 0 where none."
pub greatest_before : (j : Job) (side : ℕ) → Greatest j side (λ o. o.before) (side_overhangs j side).before
unfolding greater
greatest_before j side = greatest j.header side (λ (o : Overhangs). o.before) refl (λ a b. refl) j.hazards

pub greatest_after : (j : Job) (side : ℕ) → Greatest j side (λ o. o.after) (side_overhangs j side).after
unfolding greater
greatest_after j side = greatest j.header side (λ (o : Overhangs). o.after) refl (λ a b. refl) j.hazards

-- Two jobs

-- What is greatest depends on which hazards stand, and not on their order.
pub greatest_only : (j k : Job) (side : ℕ) (end : Overhangs → ℕ) {n m : ℕ}
    → ((z : Hazard) → SideHazard j side z → SideHazard k side z × (end (overhang j.header z) ≡ end (overhang k.header z)))
    → Greatest j side end n → Greatest k side end m → n ≤ m
greatest_only j k side end {n} {m} more g f = go (dec_le n 0)
  where
    go : Dec (n ≤ 0) → n ≤ m
    go (yes l) = omega arith
    go (no l) =
        let w = g.attained (omega arith) in
        let s = more w.0 w.1 in
        omega (arith, w.2, s.1, f.none_greater w.0 s.0)
