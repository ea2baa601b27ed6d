-- The first bytes of memory, and some of what is put behind them. Assumes nothing.
use Rattle.std.specs.Prelude.{ℕ, ◌≡◌, ◌≤◌, ◌+◌, List, ◌++◌, length, take}
use mathlib.Core.Path.{ap, sym, ◌∙◌}
use Rattle.std.proofs.Math.Seq.{take-append-add}
use Rattle.std.proofs.lemmas.List.{length-take-le, take-append-le}
use borrow.Rule.Slice.PartMut.{put_mid, post_of}

take_behind : (p q : List ℕ) (a n : ℕ) → length p ≡ a → take (a + n) (p ++ q) ≡ p ++ take n q
take_behind p q a n e = rw (sym e) (take-append-add p q n)

-- The first elements, and some of what was put behind them.
pub take_both : (a k n : ℕ) (xs ys : List ℕ) → a ≤ length xs → n ≤ length ys → take (a + n) (put_mid a k xs ys) ≡ take a xs ++ take n ys
take_both a k n xs ys h l =
    take_behind (take a xs) (ys ++ post_of a k xs) a n (length-take-le a xs h) ∙ ap (λ z. take a xs ++ z) (take-append-le n ys (post_of a k xs) l)
