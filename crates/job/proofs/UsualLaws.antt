-- Two stations of one width that stand in words are read there.
-- Assumes nothing.
use Prim.Native.Nat.{ℕ, suc, ◌+◌, ◌^◌, ◌≤◌, ◌<◌}
use native.Mathlib.Omega.{arith}
use mathlib.Core.Path.{◌≡◌, refl}
use mathlib.Core.Bool.{Bool, true, ◌&&◌}
use mathlib.Core.List.{List}
use lib.ListN.{length, get_or}
use Rattle.std.proofs.lemmas.Bool.{and_parts}
use Rattle.number.specs.Word.{is_number, word_number}
use Rattle.number.proofs.WordLaws.{bytes, behind, read_behind}
use Rattle.job.specs.Usual.{StationsAt}

pub both : (a b : Bool) → a && b ≡ true → (a ≡ true) × (b ≡ true)
both a b e = ((and_parts a b e).0, (and_parts a b e).1)

-- Each has k + 1 bytes; the first begins the eight of a word at `at`, and the second stands behind i bytes of a word of i + j at `from`.
pub two_stations : (s : List ℕ) (byte : (n : ℕ) → get_or s n 0 < 256) (k i j at from : ℕ) {w x v start end : ℕ} → k ≤ 5 → k < j → at + suc k ≡ from + i
    → at + suc k + suc k ≤ length s → w ≡ bytes s byte 8 at → x ≡ bytes s byte (i + j) from → v ≡ behind i x → is_number k w ≡ true → is_number k v ≡ true
    → start ≡ word_number k w → end ≡ word_number k v → 128 ^ k ≤ start
    → StationsAt s at (record { width = suc k; start = start; end = end })
two_stations s byte k i j at from {w} {x} {v} {start} {end} most few meets there w-lies x-lies later w-tops v-tops start-made end-made least =
    record {
      few = omega arith;
      start = read_behind s byte 0 k 8 at {w = w} {u = w} (omega arith) most w-lies refl (omega arith) start-made refl (omega arith) w-tops least;
      end = λ rise. read_behind s byte i k j from {w = x} {u = v} few most x-lies later meets end-made refl there v-tops (omega arith);
    }
