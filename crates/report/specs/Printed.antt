-- What document 01's job on paper prints.
-- Assumes nothing.
use Rattle.std.specs.Prelude.{ℕ, List, [], ◌∷◌}

-- `R 155773 210000 3`, and `total 54227 0`.
unfoldable pub printed_text : List ℕ
printed_text =
    82 ∷ 32 ∷ 49 ∷ 53 ∷ 53 ∷ 55 ∷ 55 ∷ 51 ∷ 32 ∷ 50 ∷ 49 ∷ 48 ∷ 48 ∷ 48 ∷ 48 ∷ 32 ∷ 51 ∷ 10
    ∷ 116 ∷ 111 ∷ 116 ∷ 97 ∷ 108 ∷ 32 ∷ 53 ∷ 52 ∷ 50 ∷ 50 ∷ 55 ∷ 32 ∷ 48 ∷ 10 ∷ []
