-- A number in a word: four or eight bytes as they lie in memory, lowest first.
-- Assumes nothing.
use Rattle.std.specs.Prelude.{ℕ, zero, suc, ◌+◌, ◌*◌, ◌/◌, ◌%◌, Bool, ◌&&◌, List, get_or, eqb}

-- The word from an index on.
abbrev pub word_at : List ℕ → (at : ℕ) → ℕ
word_at s at = get_or s at 0 + get_or s (at + 1) 0 * 256 + get_or s (at + 2) 0 * 65536 + get_or s (at + 3) 0 * 16777216

abbrev pub long_word_at : List ℕ → (at : ℕ) → ℕ
long_word_at s at = word_at s at + word_at s (at + 4) * 4294967296

-- Its first k bytes have the top bit and the next has not, as one number's bytes do.
abbrev pub is_number : (k w : ℕ) → Bool
is_number zero w = eqb (w / 128 % 2) 0
is_number (suc k) w = eqb (w / 128 % 2) 1 && is_number k (w / 256)

-- What the groups of these bytes make.
abbrev pub word_number : (k w : ℕ) → ℕ
word_number zero w = w % 128
word_number (suc k) w = w % 128 + 128 * word_number k (w / 256)

-- What two bytes make, and the two behind them, 16 bits higher.
abbrev pub twos_of : (w : ℕ) → ℕ
twos_of w = word_number 1 w + 65536 * word_number 1 (w / 65536)
