-- The header's numbers read one by one into an array of fourteen.
-- Assumes nothing.
use Rattle.std.specs.Prelude.{if◌then◌else◌}
use Prim.Native.Nat.{ℕ, zero, suc, ◌+◌, ◌≤◌, ◌<◌}
use native.Mathlib.Omega.{arith}
use mathlib.Core.Path.{◌≡◌, refl, sym, subst, ap, ◌∙◌}
use mathlib.Core.Bool.{Bool, true, false}
use mathlib.Core.List.{List, [], ◌∷◌, ◌++◌}
use lib.ListN.{length, get_or, set, take, get_or-append}
use lib.Seq.{length-take-le, get_or-take, get_or-set_other}
use lib.Dec.{eqb}
use borrow.Author.Tests.{eq-eqb, ne_eqb}
use Rattle.base.specs.Answer.{accepted}
use Rattle.refusal.specs.Refusal.{refusal, answer_of}
use Rattle.refusal.specs.declared.Refusal.{Refusal}
use Rattle.refusal.specs.declared.Refusal.TheVariants.{HeaderRange}
use Rattle.std.specs.Prelude.{Result, Ok, Err}
use Rattle.number.specs.declared.Reading.{Reading}
use Rattle.job.specs.declared.Bounds.{Bounds}
use Rattle.job.specs.Job.{◌to◌, shared_ranges, last_ranges, header_ranges, header_size, next_in_header, read_fields, read_header, header_with, header_of}
use Rattle.job.specs.Job.{outside_header}
use Rattle.job.specs.Reply.{field_at, header_at, header_from}
use Rattle.job.proofs.FieldLaws.{fields_more, fields_refused}
use Rattle.job.proofs.ArrayLaws.{NumbersLeft, one_less, next_refused, all_read}
use Rattle.job.proofs.RangeLaws.{road_top}
use Rattle.job.proofs.JobLaws.{listed}

-- Only the third range goes by where the road begins.
range_elsewhere : (kind A k : ℕ) → (k ≡ 2 → ⊥) → get_or (header_ranges kind A) k (0 to 0) ≡ get_or (header_ranges kind 0) k (0 to 0)
unfolding header_ranges shared_ranges
range_elsewhere kind A k other = get_or-set_other (header_ranges kind 0) 2 k ((A + 1) to road_top A) (0 to 0) other

-- The table has as many rows as a header has numbers.
pub header_size_lem : (kind A : ℕ) → length (header_ranges kind A) ≡ header_size kind
unfolding header_ranges shared_ranges
header_size_lem kind A = go (eqb kind 2)
  where
    go : (t : Bool) → length (shared_ranges A ++ (if t then 1 to 10000 ∷ 0 to 256 ∷ [] else 0 to 256 ∷ [])) ≡ (if t then 15 else 14)
    go true = refl
    go false = refl

-- Only the numbers after the thirteenth go by the kind.
range_shared : (kind k : ℕ) → k < 13 → get_or (header_ranges kind 0) k (0 to 0) ≡ get_or (shared_ranges 0) k (0 to 0)
unfolding header_ranges shared_ranges
range_shared kind k l = get_or-append (shared_ranges 0) (last_ranges kind) (0 to 0) k l

-- The first thirteen ranges but the third depend neither on the kind nor on A.
pub range_plain : (kind A k : ℕ) → k < 13 → (k ≡ 2 → ⊥) → get_or (header_ranges 2 0) k (0 to 0) ≡ get_or (header_ranges kind A) k (0 to 0)
range_plain kind A k l other = range_shared 2 k l ∙ sym (range_shared kind k l) ∙ sym (range_elsewhere kind A k other)

-- The next range goes by the array's first and second number as soon as they count.
next_in_header_lem : (numbers : List ℕ) (k : ℕ) → k ≤ length numbers
    → next_in_header (take k numbers) ≡ get_or (header_ranges (get_or numbers 0 0) (get_or numbers 1 0)) k (0 to 0)
unfolding header_ranges shared_ranges
next_in_header_lem numbers k room = rw (length-take-le k numbers room) (go k)
  where
    go : (k : ℕ) → get_or (header_ranges (get_or (take k numbers) 0 0) (get_or (take k numbers) 1 0)) k (0 to 0)
        ≡ get_or (header_ranges (get_or numbers 0 0) (get_or numbers 1 0)) k (0 to 0)
    go zero = refl
    go (suc zero) = refl
    go (suc (suc zero)) = ap (λ (A : ℕ). (A + 1) to road_top A) (get_or-take 2 numbers 1 0 (omega arith))
    go (suc (suc (suc k))) =
        ap (λ (kind : ℕ). get_or (header_ranges kind 0) (suc (suc (suc k))) (0 to 0)) (get_or-take (suc (suc (suc k))) numbers 0 0 (omega arith))

-- k of the header's first fourteen numbers stand in the array, and the others are left from index `at` on.
abbrev pub HeaderLeft : (s numbers : List ℕ) (at k : ℕ) → Type 0
HeaderLeft s = NumbersLeft next_in_header outside_header 14 999999999999 s 0

module _ {s numbers : List ℕ} {at k : ℕ} (left : HeaderLeft s numbers at k) where
  -- The next number, which is `f`, was read for its range.
  module _ (more : k < 14) {range : Bounds} (f : Result Reading Refusal) (its : range ≡ get_or (header_ranges (get_or numbers 0 0) (get_or numbers 1 0)) k (0 to 0))
      (read : answer_of f ≡ field_at range (HeaderRange (k + 1)) s at) where
    its_next : range ≡ next_in_header (take k numbers)
    its_next = its ∙ sym (next_in_header_lem numbers k (omega (arith, left.room)))

    own : outside_header (take k numbers) ≡ HeaderRange (k + 1)
    own = ap (λ (n : ℕ). HeaderRange (n + 1)) (length-take-le k numbers (omega (arith, left.room)))

    begin_top : k ≡ 1 → range.high ≤ 999999999999
    unfolding header_ranges shared_ranges
    begin_top e = rw (its, e) (omega arith)

    pub header_number : {n : Reading} → f ≡ Ok n → HeaderLeft s (set numbers k n.value) n.next (k + 1)
    header_number e = one_less left more f its_next own read begin_top e

    pub header_refused : {r : Refusal} → f ≡ Err r → refusal r ≡ header_at s
    unfolding header_at read_header
    header_refused {r} e = rw (next_refused left more f its_next own read e)

  -- All fourteen were read. Kind 1 has no more.
  module _ (done : 14 ≤ k) where
    pub header_plain : (get_or numbers 0 0 ≡ 2 → ⊥) → accepted (record { header = header_with numbers 1 (get_or numbers 13 0); next = at }) ≡ header_at s
    unfolding header_at read_header read_fields
    header_plain other = simp (all_read left done, ne_eqb (get_or numbers 0 0) 2 other)

    -- Kind 2 has one more.
    pub header_counted : get_or numbers 0 0 ≡ 2 → header_from numbers s at ≡ header_at s
    unfolding header_at read_header header_from
    header_counted two = rw (all_read left done, eq-eqb (get_or numbers 0 0) 2 two)

-- A kind 2 header has the numbers of its first fourteen.
header_more : (first : List ℕ) (x : ℕ) → length first ≡ 14 → get_or first 0 0 ≡ 2 → header_of (first ++ x ∷ []) ≡ header_with first (get_or first 13 0) x
header_more first x long kind =
    subst (λ (l : List ℕ). header_of (l ++ x ∷ []) ≡ header_with l (get_or l 13 0) x) (listed 0 14 first long) (rw (eq-eqb (get_or first 0 0) 2 kind))

-- The range of the fifteenth number.
fifteenth : (first : List ℕ) → length first ≡ 14 → eqb (get_or first 0 0) 2 ≡ true → next_in_header first ≡ 0 to 256
unfolding header_ranges shared_ranges
fifteenth first long e = rw (long, e)

-- The fifteenth number of a kind 2 header, which is `f`.
module _ (s numbers : List ℕ) (at : ℕ) (f : Result Reading Refusal) (long : length numbers ≡ 14) (two : get_or numbers 0 0 ≡ 2)
    (read : answer_of f ≡ field_at (0 to 256) (HeaderRange 15) s at) where
  number_fifteen : length numbers + 1 ≡ 15
  number_fifteen = omega arith

  read_fifteenth : answer_of f ≡ field_at (next_in_header numbers) (HeaderRange 15) s at
  read_fifteenth = rw (fifteenth numbers long (eq-eqb (get_or numbers 0 0) 2 two)) read

  pub count_read : {n : Reading} → f ≡ Ok n
      → accepted (record { header = header_with numbers (get_or numbers 13 0) n.value; next = n.next }) ≡ header_from numbers s at
  unfolding header_from read_fields
  count_read {n} e =
      rw (
        fields_more next_in_header outside_header (HeaderRange 15) 0 numbers s at f (ap HeaderRange number_fifteen) read_fifteenth n e,
        header_more numbers n.value long two,
      )

  pub count_refused : {r : Refusal} → f ≡ Err r → refusal r ≡ header_from numbers s at
  unfolding header_from
  count_refused {r} e =
      rw (fields_refused next_in_header outside_header (HeaderRange 15) 0 numbers s at f (ap HeaderRange number_fifteen) read_fifteenth r e)
