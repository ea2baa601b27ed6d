-- The call, step by step: the sheet corner, the hazard asked for, its corners.
-- Assumes nothing.
use Prim.Native.Nat.{ℕ, ◌≤◌, ◌<◌}
use mathlib.Core.Path.{◌≡◌, ◌∙◌}
use mathlib.Core.Logic.{◌⊎◌, inl, inr, ⊎_elim}
use mathlib.Core.Bool.{true, false, ◌||◌, and-false}
use mathlib.Core.List.{List}
use lib.Dec.{ltb, leb}
use borrow.Author.Tests.{ltb-true, lt-leb, le-leb, ltb-false}
use Rattle.base.specs.Answer.{accepted, refused, ◌>>=◌}
use Rattle.std.proofs.lemmas.Bool.{or_cases, or_parts}
use Rattle.job.specs.declared.Header.{Header}
use Rattle.job.specs.declared.Hazard.{Hazard}
use Rattle.planning.specs.Envelope.{accept_job}
use Rattle.planning.specs.Approached.{approached_hazard}
use Rattle.planning.specs.Accept.{indexed_hazard}
use Rattle.planning.proofs.ApproachedLaws.{asked_refused, asked_unreached, asked_reached}
use Rattle.corners.specs.Corners.{sheet_top, corners_of}
use Rattle.corners.specs.Steps.{hazard_corners}

-- The sheet corner.
module _ (x y : ℕ) where
  pub off_tested : (ltb sheet_top x || ltb sheet_top y) ≡ true → (sheet_top < x) ⊎ (sheet_top < y)
  off_tested e = ⊎_elim (λ t. inl (ltb-true sheet_top x t)) (λ t. inr (ltb-true sheet_top y t)) (or_cases (ltb sheet_top x) (ltb sheet_top y) e)

  pub on_tested : (ltb sheet_top x || ltb sheet_top y) ≡ false → (x ≤ sheet_top) × (y ≤ sheet_top)
  on_tested e = let w = or_parts (ltb sheet_top x) (ltb sheet_top y) e in (ltb-false sheet_top x w.0, ltb-false sheet_top y w.1)

  module _ (s : List ℕ) (i : ℕ) where
    pub off_sheet : (sheet_top < x) ⊎ (sheet_top < y) → corners_of s i x y ≡ refused 8 0
    unfolding corners_of
    off_sheet (inl l) = rw (lt-leb x sheet_top l)
    off_sheet (inr l) = rw (lt-leb y sheet_top l, and-false (leb x sheet_top))

    pub on_sheet_lem : x ≤ sheet_top → y ≤ sheet_top
        → corners_of s i x y ≡ (accept_job s >>= λ j. approached_hazard j i >>= λ z. accepted (hazard_corners x y j.header z))
    unfolding corners_of
    on_sheet_lem k l = rw (le-leb x sheet_top k, le-leb y sheet_top l)

    -- By what `indexed_hazard` answers.
    module _ (k : x ≤ sheet_top) (l : y ≤ sheet_top) where
      pub corners_refused : {n v : ℕ} → indexed_hazard s i ≡ refused n v → corners_of s i x y ≡ refused n v
      corners_refused e = on_sheet_lem k l ∙ asked_refused s i (λ h z. accepted (hazard_corners x y h z)) e

      module _ (h : Header) (z : Hazard) (e : indexed_hazard s i ≡ accepted (record { header = h; hazard = z })) where
        pub corners_unreached : h.zone ≤ z.near → corners_of s i x y ≡ refused 14 0
        corners_unreached far = on_sheet_lem k l ∙ asked_unreached s i (λ h z. accepted (hazard_corners x y h z)) h z e far

        pub corners_reached : z.near < h.zone → corners_of s i x y ≡ accepted (hazard_corners x y h z)
        corners_reached near = on_sheet_lem k l ∙ asked_reached s i (λ h z. accepted (hazard_corners x y h z)) h z e near
