-- The approach length falls as the barrier's offset rises: through the formula and its rounding, the rule for the straight part, and the raising.
-- Assumes nothing.
use Prim.Native.Nat.{ℕ, ◌+◌, ◌-◌, ◌*◌, ◌≤◌, ◌<◌}
use native.Mathlib.Omega.{arith}
use native.Mathlib.Nat.{mul-le-mul_left}
use native.Mathlib.Decide.{dec_le}
use Rattle.approach.specs.Approach.{formula_length, approach_length}
use Rattle.approach.specs.Panel.{raised_length, LengthFalls}
use Rattle.approach.proofs.FormulaLaws.{formula_exactly, flare_shortens}
use Rattle.approach.proofs.ApproachLaws.{approach_unflared, approach_flared, nothing_cut_off, divisor_some}
use Rattle.approach.proofs.PanelLaws.{raised_monotone}

module _ (a b T L R m k : ℕ) (some : 0 < a * R) (l : m ≤ k) where
  formula_falls : formula_length a b T L R k ≤ formula_length a b T L R m
  formula_falls =
      let n = formula_length a b T L R m in
      let less : a * R + b * T - a * k ≤ a * R + b * T - a * m = omega (arith, mul-le-mul_left a l) in
      (formula_exactly a b T L R k (omega arith) n).1 (omega (arith, mul-le-mul_left L less, (formula_exactly a b T L R m (omega arith) n).0 (omega arith)))

-- Where only the smaller offset's barrier passes its straight part, its flare leaves it longer than T.
module _ (a b T L R m k : ℕ) (some : 0 < a * R) (uncut : a * m ≤ a * R) (l : m ≤ k) where
  approach_falls : approach_length a b T L R k ≤ approach_length a b T L R m
  approach_falls = go (dec_le (formula_length a 0 T L R m) T) (dec_le (formula_length a 0 T L R k) T)
    where
      shorter : formula_length a 0 T L R k ≤ formula_length a 0 T L R m
      shorter = formula_falls a 0 T L R m k some l

      go : Dec (formula_length a 0 T L R m ≤ T) → Dec (formula_length a 0 T L R k ≤ T) → approach_length a b T L R k ≤ approach_length a b T L R m
      go (yes p) q = omega (arith, approach_unflared a b T L R m p, approach_unflared a b T L R k (omega (arith, shorter)), shorter)
      go (no p) (yes q) =
          let h : T < formula_length a 0 T L R m = omega arith in
          omega (arith, approach_unflared a b T L R k q, approach_flared a b T L R m h, (flare_shortens a b T L R m some uncut h).0)
      go (no p) (no q) =
          omega (arith, approach_flared a b T L R m (omega arith), approach_flared a b T L R k (omega arith), formula_falls a b T L R m k some l)

pub length_falls : LengthFalls
unfolding raised_length
length_falls p a b T L R m k panel d l =
    raised_monotone p _ _ panel
    (approach_falls a b T L R m k (divisor_some a b T L R k d) (omega (arith, mul-le-mul_left a l, nothing_cut_off a b T L R k d)) l)
