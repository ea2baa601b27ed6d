-- A number that stands in a word is read there; and its groups in parts.
-- Assumes nothing.
use Prim.Native.Nat.{ℕ, zero, suc, ◌+◌, ◌*◌, ◌/◌, ◌%◌, ◌^◌, ◌≤◌, ◌<◌}
use native.Mathlib.Nat.{pow-le-pow_right, pow-succ', mul_assoc, mul_comm, zero-add, add-zero, suc-add, add-suc, add_assoc, add_comm}
use native.Mathlib.Numerals.{add-one}
use native.Mathlib.Omega.{arith}
use mathlib.Core.Path.{◌≡◌, sym, ap, ap₂, ◌∙◌}
use mathlib.Core.Bool.{true}
use mathlib.Core.List.{List, ◌∷◌, ◌++◌}
use lib.ListN.{length, get_or, take, drop}
use lib.Seq.{drop-cons, get_or-drop, get_or-take}
use lib.Arith.{digits_div, digits_mod}
use lib.Dec.{eqb}
use borrow.Author.Tests.{eqb-true}
use Rattle.std.proofs.lemmas.Bool.{and_parts}
use Rattle.number.specs.Number.{write_number, greatest_number, number, read_number}
use Rattle.number.specs.Word.{word_at, long_word_at, is_number, word_number, twos_of}
use Rattle.number.proofs.WriteLaws.{write_one, write_step}
use Rattle.number.proofs.ReadLaws.{read_writing}

-- What lies low in a sum, and what above it.
pub parted : (d a b : ℕ) {m : ℕ} → m ≡ a + d * b → a < d → (m % d ≡ a) × (m / d ≡ b)
parted d a b {m} e small =
    let turned : m ≡ b * d + a = e ∙ add_comm a (d * b) ∙ ap (λ (x : ℕ). x + a) (mul_comm d b) in
    (ap (λ (x : ℕ). x % d) turned ∙ digits_mod b small, ap (λ (x : ℕ). x / d) turned ∙ digits_div b small)

-- k + 1 groups make less than 128 ^ (k + 1).
pub number_under : (k w : ℕ) → word_number k w < 128 ^ suc k
number_under zero w = omega arith
number_under (suc k) w = omega (arith, number_under k (w / 256), pow-succ' 128 (suc k))

number_fits : (k w : ℕ) → k ≤ 5 → word_number k w ≤ greatest_number
number_fits k w most = omega (arith, number_under k w, pow-le-pow_right {n = 128} (omega arith) {i = suc k} {j = 6} (omega arith))

-- What is left of a word behind its first j bytes.
abbrev pub behind : (j w : ℕ) → ℕ
behind zero w = w
behind (suc j) w = behind j (w / 256)

-- Groups in two parts: j + 1 of them, and k + 1 behind these.
pub number_parts : (j k w : ℕ) → word_number (j + suc k) w ≡ word_number j w + 128 ^ suc j * word_number k (behind (suc j) w)
number_parts zero k w = ap (λ (m : ℕ). word_number m w) (zero-add (suc k))
number_parts (suc j) k w =
    let n = word_number k (behind (suc j) (w / 256)) in
    let higher : 128 ^ suc (suc j) * n ≡ 128 * (128 ^ suc j * n) = ap (λ (m : ℕ). m * n) (pow-succ' 128 (suc j)) ∙ mul_assoc 128 (128 ^ suc j) n in
    let all : w % 128 + 128 * word_number (j + suc k) (w / 256) ≡ w % 128 + 128 * word_number j (w / 256) + 128 ^ suc (suc j) * n =
    omega (arith, number_parts j k (w / 256), higher) in
    ap (λ (m : ℕ). word_number m w) (suc-add j (suc k)) ∙ all

-- One group more.
pub number_last : (j w : ℕ) {n v : ℕ} → n ≡ word_number j w → v ≡ behind (suc j) w → n + v % 128 * 128 ^ suc j ≡ word_number (j + 1) w
number_last j w {n} {v} made later = rw (made, later) (omega (arith, number_parts j 0 w, mul_comm (behind (suc j) w % 128) (128 ^ suc j)))

-- The numbers of two bytes, and the sum that brings them together.
twos_under : (w : ℕ) → twos_of w < 1073741824
twos_under w = under (word_number 1 w) (word_number 1 (w / 65536)) (number_under 1 w) (number_under 1 (w / 65536))
  where
    under : (a b : ℕ) → a < 16384 → b < 16384 → a + 65536 * b < 1073741824
    under a b small large = omega arith

twos_joined : (w p : ℕ) → p ≡ twos_of w → p + p % 65536 * 3 ≡ 4 * word_number 3 w
twos_joined w p e =
    let two : w / 256 / 256 ≡ w / 65536 = omega arith in
    let parts : word_number 3 w ≡ word_number 1 w + 16384 * word_number 1 (w / 65536) =
    number_parts 1 1 w ∙ ap (λ (v : ℕ). word_number 1 w + 16384 * word_number 1 v) two in
    joined p (word_number 1 w) (word_number 1 (w / 65536)) (word_number 3 w) e (number_under 1 w) parts
  where
    joined : (p a b n : ℕ) → p ≡ a + 65536 * b → a < 16384 → n ≡ a + 16384 * b → p + p % 65536 * 3 ≡ 4 * n
    joined p a b n e small parts = let low : p % 65536 ≡ a = omega arith in rw low (omega arith)

pub four_made : (w p : ℕ) → p ≡ twos_of w → ((p + p % 65536 * 3) / 4 ≡ word_number 3 w) × ((p + p % 65536 * 3) / 4 < 268435456)
four_made w p e = quarter (p + p % 65536 * 3) (word_number 3 w) (twos_joined w p e) (number_under 3 w)
  where
    quarter : (m n : ℕ) → m ≡ 4 * n → n < 268435456 → (m / 4 ≡ n) × (m / 4 < 268435456)
    quarter m n e small = (omega arith, omega arith)

-- The same of both halves of eight bytes.
module _ (w p : ℕ) (made : p ≡ twos_of w + twos_of (w / 4294967296) * 4294967296) where
  halves : (p % 4294967296 ≡ twos_of w) × (p / 4294967296 ≡ twos_of (w / 4294967296))
  halves = parted 4294967296 (twos_of w) (twos_of (w / 4294967296)) (omega arith) (omega (arith, twos_under w))

  pub fours_made : (p + (p % 65536 + p / 4294967296 % 65536 * 4294967296) * 3) / 4 ≡ word_number 3 w + 4294967296 * word_number 3 (w / 4294967296)
  fours_made =
      joined p (p % 4294967296) (p / 4294967296) (word_number 3 w) (word_number 3 (w / 4294967296)) (omega arith)
      (twos_joined w (p % 4294967296) halves.0) (twos_joined (w / 4294967296) (p / 4294967296) halves.1)
    where
      joined : (p t u m n : ℕ) → p ≡ t + u * 4294967296 → t + t % 65536 * 3 ≡ 4 * m → u + u % 65536 * 3 ≡ 4 * n
          → (p + (p % 65536 + u % 65536 * 4294967296) * 3) / 4 ≡ m + 4294967296 * n
      joined p t u m n e first second = let low : p % 65536 ≡ t % 65536 = omega arith in rw low (omega arith)

  pub fours_room : p + (p % 65536 + p / 4294967296 % 65536 * 4294967296) * 3 < 18446744073709551616
  fours_room = under p (p / 4294967296) (rw halves.1 (twos_under (w / 4294967296))) (omega arith)
    where
      under : (p u : ℕ) → u < 1073741824 → p < (u + 1) * 4294967296 → p + (p % 65536 + u % 65536 * 4294967296) * 3 < 18446744073709551616
      under p u small less = omega arith

-- A word of a part of the bytes.
pub word_behind : (s : List ℕ) (at n i : ℕ) → i + 4 ≤ n → word_at (take n (drop at s)) i ≡ word_at s (at + i)
word_behind s at n i room =
    let byte : (k : ℕ) → k < 4 → get_or (take n (drop at s)) (i + k) 0 ≡ get_or s (at + i + k) 0 =
    λ k few. get_or-take n (drop at s) (i + k) 0 (omega arith) ∙ get_or-drop at s (i + k) 0 ∙ ap (λ (j : ℕ). get_or s j 0) (sym (add_assoc at i k)) in
    let first : get_or (take n (drop at s)) i 0 ≡ get_or s (at + i) 0 = get_or-take n (drop at s) i 0 (omega arith) ∙ get_or-drop at s i 0 in
    rw (first, byte 1 (omega arith), byte 2 (omega arith), byte 3 (omega arith))

module _ (s : List ℕ) (byte : (i : ℕ) → get_or s i 0 < 256) where
  -- j bytes from an index on, one behind the other.
  abbrev pub bytes : (j at : ℕ) → ℕ
  bytes zero at = 0
  bytes (suc j) at = get_or s at 0 + 256 * bytes j (suc at)

  -- Those that have the top bits of one number are its writing, if fewer groups are too few.
  stands : (k j at w : ℕ) → k < j → k ≤ 5 → w ≡ bytes j at → at + k < length s → is_number k w ≡ true → 128 ^ k ≤ word_number k w
      → (drop at s ≡ write_number (word_number k w) ++ drop (at + suc k) s) × (length (write_number (word_number k w)) ≡ suc k)
  stands k zero at w few most e there tops least = absurd (omega arith)
  stands zero (suc j) at w few most e there tops least =
      let a : w % 128 ≡ get_or s at 0 = omega (arith, byte at, eqb-true (w / 128 % 2) 0 tops) in
      let one = write_one (w % 128) (omega arith) in
      (drop-cons s at 0 (omega arith) ∙ rw (one, a, add-one at), ap length one)
  stands (suc k) (suc j) at w few most e there tops least =
      let n = word_number k (w / 256) in
      let p = eqb (w / 128 % 2) 1 in
      let q = is_number k (w / 256) in
      let a : w % 128 + 128 ≡ get_or s at 0 = omega (arith, byte at, eqb-true (w / 128 % 2) 1 ((and_parts p q tops).0)) in
      let some : 1 ≤ 128 ^ k = pow-le-pow_right {n = 128} (omega arith) {i = 0} {j = k} (omega arith) in
      let more : 128 ^ k ≤ n = omega (arith, pow-succ' 128 k) in
      let later = stands k j (suc at) (w / 256) (omega arith) (omega arith) (omega (arith, byte at)) (omega arith) ((and_parts p q tops).1) more in
      let group : (w % 128 + 128 * n) % 128 + 128 ≡ get_or s at 0 = omega arith in
      let others : (w % 128 + 128 * n) / 128 ≡ n = omega arith in
      let written : write_number (word_number (suc k) w) ≡ get_or s at 0 ∷ write_number n =
      write_step (w % 128 + 128 * n) (omega arith) (number_fits (suc k) w (omega arith)) ∙ rw (group, others) in
      let behind : suc at + suc k ≡ at + suc (suc k) = omega arith in
      (drop-cons s at 0 (omega arith) ∙ rw (written, sym behind) (ap (◌∷◌ (get_or s at 0)) later.0), ap length written ∙ ap suc later.1)

  behind_bytes : (i j at : ℕ) → behind i (bytes (i + j) at) ≡ bytes j (at + i)
  behind_bytes zero j at = ap₂ bytes (zero-add j) (sym (add-zero at))
  behind_bytes (suc i) j at =
      let rest : (get_or s at 0 + 256 * bytes (i + j) (suc at)) / 256 ≡ bytes (i + j) (suc at) = omega (arith, byte at) in
      ap (λ (m : ℕ). behind i (bytes m at / 256)) (suc-add i j) ∙ ap (behind i) rest ∙ behind_bytes i j (suc at)
      ∙ ap (bytes j) (suc-add at i ∙ sym (add-suc at i))

  -- A number of k + 1 bytes behind the first i of a word.
  pub read_behind : (i k j at : ℕ) {w u v from next : ℕ} → k < j → k ≤ 5 → w ≡ bytes (i + j) at → u ≡ behind i w → from ≡ at + i → v ≡ word_number k u
      → next ≡ from + suc k → next ≤ length s → is_number k u ≡ true → 128 ^ k ≤ v
      → read_number s from ≡ number v next
  read_behind i k j at {w} {u} {v} {from} {next} few most e later begins made ends there tops least =
      let lies : u ≡ bytes j from = later ∙ ap (behind i) e ∙ behind_bytes i j at ∙ ap (bytes j) (sym begins) in
      let whole = stands k j from u few most lies (omega arith) tops (omega arith) in
      rw (made, ends) (read_writing s from (word_number k u) (drop (from + suc k) s) (number_fits k u most) whole.0
      ∙ ap (λ (l : ℕ). number (word_number k u) (from + l)) whole.1)

  pub word_bytes : (at : ℕ) → word_at s at ≡ bytes 4 at
  word_bytes at =
      let two : at + 2 ≡ suc (suc at) = omega arith in
      let three : at + 3 ≡ suc (suc (suc at)) = omega arith in
      rw (add-one at, two, three) (omega arith)

  pub long_bytes : (at : ℕ) → long_word_at s at ≡ bytes 8 at
  long_bytes at =
      let four : at + 4 ≡ suc (suc (suc (suc at))) = omega arith in
      ap₂ (λ (l h : ℕ). l + h * 4294967296) (word_bytes at) (word_bytes (at + 4) ∙ ap (bytes 4) four) ∙ omega arith
