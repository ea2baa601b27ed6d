-- The test of the lengths' ranges, one by one.
-- Assumes nothing.
use Prim.Native.Nat.{ℕ, ◌+◌, ◌<◌, ◌≤◌}
use native.Mathlib.Numerals.{add-one}
use mathlib.Core.Path.{◌≡◌}
use mathlib.Core.Bool.{Bool, true, false}
use mathlib.Core.List.{List}
use lib.ListN.{length, get_or, drop}
use lib.Seq.{drop-cons}
use lib.Dec.{ltb}
use borrow.Author.Tests.{lt-ltb, le-ltb}
use Rattle.std.proofs.lemmas.Bool.{or_left, or_right}
use Rattle.panels.specs.Panels.{out_of_range}
use Rattle.base.specs.Choice.{some_of}

module _ (p : ℕ → Bool) (ls : List ℕ) (i : ℕ) (h : i < length ls) where
  pub found_here : p (get_or ls i 0) ≡ true → some_of p (drop i ls) ≡ true
  unfolding some_of
  found_here e = rw (drop-cons ls i 0 h, e)

  pub passed_here : p (get_or ls i 0) ≡ false → some_of p (drop i ls) ≡ some_of p (drop (i + 1) ls)
  unfolding some_of
  passed_here e = rw (drop-cons ls i 0 h, e, add-one)

pub too_low : (l : ℕ) → l < 1 → out_of_range l ≡ true
too_low l h = or_left _ (ltb 20000 l) (lt-ltb l 1 h)

pub too_high : (l : ℕ) → 20000 < l → out_of_range l ≡ true
too_high l h = or_right (ltb l 1) _ (lt-ltb 20000 l h)

pub in_range : (l : ℕ) → 1 ≤ l → l ≤ 20000 → out_of_range l ≡ false
in_range l p q = rw (le-ltb l 1 p, le-ltb 20000 l q)
