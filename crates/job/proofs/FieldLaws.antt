-- Numbers with their ranges, read one by one: `read_fields` goes by `field_at`.
-- Assumes nothing.
use Prim.Native.Nat.{ℕ, suc, ◌+◌, ◌≤◌, ◌<◌}
use native.Mathlib.Numerals.{add-one}
use mathlib.Core.Path.{◌≡◌, refl, sym, ap, subst, ◌∙◌}
use mathlib.Core.Bool.{true}
use mathlib.Core.List.{List, [], ◌∷◌, ◌++◌}
use lib.ListN.{length, take, set}
use lib.Seq.{take-suc-set}
use borrow.Author.Tests.{le-leb}
use Rattle.base.specs.Answer.{Answer, accepted, refused, ◌>>=◌}
use Rattle.refusal.specs.Refusal.{unless_refuse, refusal, answer_of}
use Rattle.refusal.specs.declared.Refusal.{Refusal}
use Rattle.base.proofs.AnswerLaws.{bound, bind_assoc}
use Rattle.refusal.proofs.RefuseLaws.{tested}
use Rattle.number.specs.declared.Reading.{Reading}
use Rattle.number.specs.Number.{number, read_number, number_at}
use Rattle.std.specs.Prelude.{Result, Ok, Err, IsErrAnd}
use Rattle.job.specs.declared.Bounds.{Bounds}
use Rattle.job.specs.Job.{within, read_fields}
use Rattle.job.specs.Reply.{field_at, moved}

-- An array's part in use, after a store behind it.
pub take_stored : {A : Type 0} (l : List A) (i : ℕ) (a : A) → i < length l → take (i + 1) (set l i a) ≡ take i l ++ a ∷ []
take_stored l i a h = rw (add-one, take-suc-set)

-- What the exit of a `?` returns where a reader was moved.
pub moved_on : (r : Result ℕ Refusal) (n : ℕ) (q : Refusal) → IsErrAnd r (λ e. e ≡ q) → answer_of (moved r n) ≡ refusal q
moved_on (Ok a) n q h = absurd h
moved_on (Err e) n q h = ap refusal h

-- A test between an answer and what follows it.
bind_tested : {A B : Type 0} (m : Answer A) (test : A → Answer (Unit {0})) (rest : A → Answer B)
    → m >>= (λ x. test x >>= λ _. rest x) ≡ m >>= (λ x. test x >>= λ _. accepted x) >>= rest
bind_tested (accepted a) test rest = sym (bind_assoc (test a) (λ _. accepted a) rest)
bind_tested (refused k v) test rest = refl

-- A number that was read is in its range.
within_tested : (range : Bounds) (outside : Refusal) (m : Answer Reading) (x : Reading)
    → m >>= (λ y. unless_refuse (within range y.value) outside >>= λ _. accepted y) ≡ accepted x → within range x.value ≡ true
within_tested range outside (accepted y) x e =
    let b = bound (unless_refuse (within range y.value) outside) (λ _. accepted y) x e in
    let same : y ≡ x = cc in
    subst (λ (z : Reading). within range z.value ≡ true) same (tested _ outside b.first b.taken)
within_tested range outside (refused a b) x e = cc

pub field_within : (range : Bounds) (outside : Refusal) (s : List ℕ) (at : ℕ) (f : Result Reading Refusal) (n : Reading)
    → answer_of f ≡ field_at range outside s at → f ≡ Ok n → within range n.value ≡ true
unfolding field_at
field_within range outside s at f n read e = within_tested range outside (number_at s at) n (sym read ∙ rw e)

-- k numbers more behind the next one, which stands there in its range.
pub fields_next : (range_of : List ℕ → Bounds) (outside : List ℕ → Refusal) (k : ℕ) (got s : List ℕ) (at v n : ℕ) → read_number s at ≡ number v n
    → (range_of got).low ≤ v → v ≤ (range_of got).high
    → read_fields range_of outside (suc k) got s at ≡ read_fields range_of outside k (got ++ v ∷ []) s n
unfolding read_fields number_at
fields_next range_of outside k got s at v n e low high = rw (e, le-leb (range_of got).low v low, le-leb v (range_of got).high high)

-- k numbers more behind the next one, which is `f`.
module _ (range_of : List ℕ → Bounds) (outsideAt : List ℕ → Refusal) (outside : Refusal) (k : ℕ) (got s : List ℕ) (at : ℕ) (f : Result Reading Refusal)
    (its : outsideAt got ≡ outside) (read : answer_of f ≡ field_at (range_of got) outside s at) where
  fields_step : read_fields range_of outsideAt (suc k) got s at ≡ answer_of f >>= λ x. read_fields range_of outsideAt k (got ++ x.value ∷ []) s x.next
  unfolding read_fields field_at
  fields_step =
      rw (read, its)
      (bind_tested (number_at s at) (λ x. unless_refuse (within (range_of got) x.value) outside)
      (λ x. read_fields range_of outsideAt k (got ++ x.value ∷ []) s x.next))

  pub fields_more : (n : Reading) → f ≡ Ok n
      → read_fields range_of outsideAt (suc k) got s at ≡ read_fields range_of outsideAt k (got ++ n.value ∷ []) s n.next
  fields_more n e = fields_step ∙ rw e

  pub fields_refused : (r : Refusal) → f ≡ Err r → read_fields range_of outsideAt (suc k) got s at ≡ refusal r
  fields_refused r e = fields_step ∙ rw e
