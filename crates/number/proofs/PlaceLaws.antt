-- Bytes placed in lent memory.
-- Assumes nothing.
use Rattle.std.specs.Prelude.{if◌then◌else◌}
use Prim.Native.Nat.{ℕ, suc, ◌+◌, ◌≤◌, ◌<◌}
use native.Mathlib.Nat.{add-zero}
use native.Mathlib.Omega.{arith}
use native.Mathlib.Decide.{dec_lt}
use mathlib.Core.Path.{◌≡◌, refl, sym, ap, ◌∙◌}
use mathlib.Core.Bool.{Bool, true, false}
use mathlib.Core.List.{List, [], ◌∷◌, ◌++◌, append_assoc}
use lib.ListN.{length, take, drop, set, length-append, take-append-drop}
use lib.Seq.{sets, sets-eq, length-sets}
use lib.Dec.{leb}
use borrow.Author.Tests.{lt-leb, le-leb}
use Rattle.number.specs.Number.{placed}

pub placed_fits : (s : List ℕ) (at : ℕ) (w : List ℕ) → at + length w ≤ length s → placed s at w ≡ take at s ++ (w ++ drop (at + length w) s)
unfolding placed
placed_fits s at w h = rw (le-leb (at + length w) (length s) h)

pub placed_full : (s : List ℕ) (at : ℕ) (w : List ℕ) → length s < at + length w → placed s at w ≡ s
unfolding placed
placed_full s at w h = rw (lt-leb (at + length w) (length s) h)

-- Placed bytes are a run of stores.
pub placed_sets : (s : List ℕ) (at : ℕ) (w : List ℕ) → at + length w ≤ length s → placed s at w ≡ sets s at w
placed_sets s at w h = placed_fits s at w h ∙ sym (append_assoc (take at s) w _) ∙ sym (sets-eq w s at h)

pub placed_length : (s : List ℕ) (at : ℕ) (w : List ℕ) → length (placed s at w) ≡ length s
placed_length s at w = go (dec_lt (length s) (at + length w))
  where
    go : Dec (length s < at + length w) → length (placed s at w) ≡ length s
    go (yes h) = ap length (placed_full s at w h)
    go (no h) = ap length (placed_sets s at w (omega arith)) ∙ length-sets s at w

sets_append : (s : List ℕ) (at : ℕ) (v w : List ℕ) → sets (sets s at v) (at + length v) w ≡ sets s at (v ++ w)
sets_append s at [] w = ap (λ (i : ℕ). sets s i w) (add-zero at)
sets_append s at (x ∷ v) w =
    ap (λ (i : ℕ). sets (sets (set s at x) (suc at) v) i w) (let e : at + suc (length v) ≡ suc at + length v = omega arith in e)
    ∙ sets_append (set s at x) (suc at) v w

-- No bytes change nothing.
pub placed_none : (s : List ℕ) (at : ℕ) → placed s at [] ≡ s
unfolding placed
placed_none s at = go (leb (at + 0) (length s))
  where
    go : (b : Bool) → (if b then take at s ++ ([] ++ drop (at + 0) s) else s) ≡ s
    go true = rw (let e : at + 0 ≡ at = omega arith in e) (take-append-drop at s)
    go false = refl

-- One writing behind another is the writing of both.
pub placed_append : (s : List ℕ) (at : ℕ) (v w : List ℕ) → at + length v + length w ≤ length s → placed (placed s at v) (at + length v) w ≡ placed s at (v ++ w)
placed_append s at v w h =
    let both = length-append v w in
    placed_sets (placed s at v) (at + length v) w (omega (arith, placed_length s at v))
    ∙ ap (λ (l : List ℕ). sets l (at + length v) w) (placed_sets s at v (omega arith))
    ∙ sets_append s at v w
    ∙ sym (placed_sets s at (v ++ w) (omega arith))
