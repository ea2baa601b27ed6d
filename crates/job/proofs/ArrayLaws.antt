-- The numbers of one group, the header or a hazard, read one by one into an array.
-- Assumes nothing.
use Prim.Native.Nat.{ℕ, suc, ◌+◌, ◌-◌, ◌≤◌, ◌<◌}
use native.Mathlib.Omega.{arith}
use native.Mathlib.Nat.{sub-zero}
use native.Mathlib.Decide.{ℕ_discrete}
use mathlib.Core.Path.{◌≡◌, sym, ap, ◌∙◌}
use mathlib.Core.List.{List, []}
use lib.ListN.{length, get_or, set, take, length-set}
use lib.Seq.{get_or-set_same, get_or-set_other, take_all}
use Rattle.base.specs.Answer.{accepted}
use Rattle.refusal.specs.Refusal.{refusal, answer_of}
use Rattle.refusal.specs.declared.Refusal.{Refusal}
use Rattle.std.specs.Prelude.{Result, Ok, Err}
use Rattle.number.specs.declared.Reading.{Reading}
use Rattle.job.specs.declared.Bounds.{Bounds}
use Rattle.job.specs.Job.{read_fields}
use Rattle.job.specs.Reply.{field_at}
use Rattle.job.proofs.FieldLaws.{take_stored, field_within, fields_more, fields_refused}
use Rattle.job.proofs.RangeLaws.{within_high}

-- A group of `size` numbers from index `first` on, of which the second is at most `top`.
module _ (range_of : List ℕ → Bounds) (outside : List ℕ → Refusal) (size top : ℕ) (s : List ℕ) (first : ℕ) where
  -- k of them stand in the array, and the others are left from index `at` on.
  pub record NumbersLeft (numbers : List ℕ) (at k : ℕ) : Type 0 where
    pub most : k ≤ size
    pub room : length numbers ≡ size
    pub second : get_or numbers 1 0 ≤ top
    pub same : read_fields range_of outside size [] s first ≡ read_fields range_of outside (size - k) (take k numbers) s at

module _ {range_of : List ℕ → Bounds} {outside : List ℕ → Refusal} {size top : ℕ} {s : List ℕ} {first : ℕ} where
  pub all_left : (numbers : List ℕ) → length numbers ≡ size → get_or numbers 1 0 ≤ top → NumbersLeft range_of outside size top s first numbers first 0
  all_left numbers room second = record { most = omega arith; room = room; second = second; same = rw sub-zero }

  module _ {numbers : List ℕ} {at k : ℕ} (left : NumbersLeft range_of outside size top s first numbers at k) where
    -- The next number, which is `f`, was read for its range.
    module _ (more : k < size) {range : Bounds} {value : Refusal} (f : Result Reading Refusal) (its : range ≡ range_of (take k numbers)) (own : outside (take k numbers) ≡ value)
        (read : answer_of f ≡ field_at range value s at) where
      read_next : answer_of f ≡ field_at (range_of (take k numbers)) value s at
      read_next = rw (sym its) read

      left_next : read_fields range_of outside size [] s first ≡ read_fields range_of outside (suc (size - (k + 1))) (take k numbers) s at
      left_next =
          let count : size - k ≡ suc (size - (k + 1)) = omega arith in
          left.same ∙ ap (λ (m : ℕ). read_fields range_of outside m (take k numbers) s at) count

      second_kept : (k ≡ 1 → range.high ≤ top) → (n : Reading) → f ≡ Ok n → get_or (set numbers k n.value) 1 0 ≤ top
      second_kept within n e = go (ℕ_discrete 1 k)
        where
          go : Dec (1 ≡ k) → get_or (set numbers k n.value) 1 0 ≤ top
          go (yes same) =
              rw (sym same, get_or-set_same numbers 1 n.value 0 (omega (arith, left.room)))
              (omega (arith, within (sym same), within_high range n.value (field_within range value s at f n read e)))
          go (no other) = rw (get_or-set_other numbers k 1 n.value 0 other) left.second

      pub one_less : (k ≡ 1 → range.high ≤ top) → {n : Reading} → f ≡ Ok n
          → NumbersLeft range_of outside size top s first (set numbers k n.value) n.next (k + 1)
      one_less within {n} e =
          record {
            most = omega arith;
            room = length-set numbers k n.value ∙ left.room;
            second = second_kept within n e;
            same =
                rw (take_stored numbers k n.value (omega (arith, left.room)))
                (left_next ∙ fields_more range_of outside value (size - (k + 1)) (take k numbers) s at f own read_next n e);
          }

      pub next_refused : {r : Refusal} → f ≡ Err r → read_fields range_of outside size [] s first ≡ refusal r
      next_refused {r} e = left_next ∙ fields_refused range_of outside value (size - (k + 1)) (take k numbers) s at f own read_next r e

    pub all_read : size ≤ k → read_fields range_of outside size [] s first ≡ accepted (record { numbers = numbers; next = at })
    unfolding read_fields
    all_read done =
        let all : k ≡ size = omega (arith, left.most) in
        let none : size - size ≡ 0 = omega arith in
        left.same ∙ rw (all, none, take_all size numbers (omega (arith, left.room)))
