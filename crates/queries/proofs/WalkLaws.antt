-- Laws of the code's steps through one record: its two numbers, the level's byte, and the run that they make.
-- Assumes nothing.
use Prim.Native.Nat.{ℕ, ◌+◌, ◌≤◌, ◌<◌}
use native.Mathlib.Omega.{arith}
use native.Mathlib.Decide.{dec_lt}
use Rattle.std.specs.Prelude.{Option, Some, Result, Ok, Err}
use Rattle.std.specs.Result.{result_ok}
use mathlib.Core.Path.{◌≡◌, refl, sym, ap, ◌∙◌}
use mathlib.Core.Bool.{Bool, true, false}
use mathlib.Core.List.{List, ◌∷◌, ◌++◌}
use lib.ListN.{length, get_or, drop}
use lib.Seq.{drop-cons}
use Rattle.base.specs.Answer.{Answer, accepted, refused, ◌>>=◌}
use Rattle.refusal.specs.Refusal.{unless_refuse}
use Rattle.refusal.specs.declared.Refusal.TheVariants as Row
use Rattle.number.specs.Number.{number, number_at, read_number, write_number}
use Rattle.number.specs.declared.Reading.{Reading}
use Rattle.refusal.specs.Refusal.{answer_of}
use Rattle.refusal.specs.declared.Refusal.{Refusal}
use Rattle.number.specs.Form.{Bytes}
use Rattle.number.proofs.WriteLaws.{write_one}
use Rattle.number.proofs.ReadLaws.{read_stands}
use Rattle.number.proofs.GroupWalk.{read_none, read_one}
use Rattle.runs.specs.RunList.{may_follow, MayFollow}
use Rattle.runs.proofs.RunLaws.{follows}
use Rattle.schedule.specs.Schedule.{or_ten, ReadRun, read_record}
use Rattle.schedule.proofs.ScheduleLaws.{run_after, may_follow_lem}
use Rattle.queries.specs.Walk.{record_at, following_run, run_with_level_at}

-- What a `let` finds that is no number.
abbrev pub NoNumber : Result Reading Refusal → Type 0
NoNumber r = (a : Reading) → r ≡ Ok a → ⊥

pub no_number : {B : Type 0} (at : ℕ) (f : Reading → Answer B) (r : Result Reading Refusal) → NoNumber r → or_ten (answer_of r >>= f) ≡ refused 10 0
no_number at f (Ok a) k = absurd (k a refl)
no_number at f (Err x) k = refl

-- What was found, as it is read.
pub none_found : (r : Result Reading Refusal) (o : Option Reading) → o ≡ result_ok r → ((a : Reading) → o ≡ Some a → ⊥) → NoNumber r
none_found r o e k = λ a q. k a (e ∙ ap result_ok q)

pub some_found : (r : Result Reading Refusal) (o : Option Reading) → o ≡ result_ok r → (a : Reading) → o ≡ Some a → r ≡ Ok a
some_found (Ok b) o e a q = cc
some_found (Err x) o e a q = cc

-- The first two numbers

module _ (e v : ℕ) (s : List ℕ) (at : ℕ) where
  pub no_gap : (r : Result Reading Refusal) → read_number s at ≡ r → NoNumber r → record_at e v s at ≡ refused 10 0
  unfolding read_record number_at
  no_gap r q k = rw q (no_number at _ r k)

  module _ (gap i : ℕ) (first : read_number s at ≡ number gap i) where
    pub no_length : (r : Result Reading Refusal) → read_number s i ≡ r → NoNumber r → record_at e v s at ≡ refused 10 0
    unfolding read_record number_at
    no_length r q k = rw (first, q) (no_number i _ r k)

    pub two_numbers : (len j : ℕ) → read_number s i ≡ number len j → record_at e v s at ≡ run_with_level_at e v gap len s j
    unfolding read_record run_with_level_at following_run number_at
    two_numbers len j second = rw (first, second)

-- The run

module _ (e v gap len lev next : ℕ) where
  pub run_follows : MayFollow e v (run_after e gap len lev) → following_run e v gap len lev next ≡ accepted (record { run = run_after e gap len lev; next = next })
  unfolding following_run
  run_follows n = rw (may_follow_lem e v (run_after e gap len lev) n)

  pub run_refused : (MayFollow e v (run_after e gap len lev) → ⊥) → following_run e v gap len lev next ≡ refused 10 0
  unfolding following_run
  run_refused n = go (may_follow e v (run_after e gap len lev)) refl
    where
      go : (b : Bool) → may_follow e v (run_after e gap len lev) ≡ b
          → ◌>>=◌ {B = ReadRun} (unless_refuse b Row.Schedule) (λ _. accepted (record { run = run_after e gap len lev; next = next })) ≡ refused 10 0
      go true h = absurd (n (follows e v (run_after e gap len lev) h))
      go false h = refl

-- The level's byte

module _ (e v gap len : ℕ) (s : List ℕ) (at : ℕ) where
  pub level_ended : length s ≤ at → run_with_level_at e v gap len s at ≡ refused 10 0
  unfolding run_with_level_at number_at
  level_ended h = rw (read_none s at h)

  or_ten_run : (lev next : ℕ) → or_ten (following_run e v gap len lev next) ≡ following_run e v gap len lev next
  unfolding following_run
  or_ten_run lev next = go (may_follow e v (run_after e gap len lev))
    where
      go : (b : Bool) → let a = ◌>>=◌ {B = ReadRun} (unless_refuse b Row.Schedule) (λ _. accepted (record { run = run_after e gap len lev; next = next })) in
          or_ten a ≡ a
      go true = refl
      go false = refl

  -- A number above 6 is no level.
  no_level : (lev next : ℕ) → 6 < lev → following_run e v gap len lev next ≡ refused 10 0
  no_level lev next h = run_refused e v gap len lev next (λ n. omega (arith, n.top))

  -- The number that stands at an index is its byte, or has no level's value.
  pub level_byte : Bytes s → at < length s → run_with_level_at e v gap len s at ≡ following_run e v gap len (get_or s at 0) (at + 1)
  unfolding run_with_level_at number_at
  level_byte b there = go (dec_lt (get_or s at 0) 128)
    where
      go : Dec (get_or s at 0 < 128) → run_with_level_at e v gap len s at ≡ following_run e v gap len (get_or s at 0) (at + 1)
      go (yes h) = rw (read_one s at there h) (or_ten_run (get_or s at 0) (at + 1))
      go (no h) = turn (read_number s at) refl ∙ sym (no_level (get_or s at 0) (at + 1) (omega arith))
        where
          above : (x n : ℕ) → read_number s at ≡ number x n → Dec (x < 128) → 128 ≤ x
          above x n e (yes l) =
              let one : write_number x ++ drop n s ≡ x ∷ drop n s = rw (write_one x l) in
              let two = sym (drop-cons s at 0 there) ∙ (read_stands s at x n b e).split ∙ one in
              let same : get_or s at 0 ≡ x = cc in absurd (omega arith)
          above x n e (no l) = omega arith

          turn : (r : Result Reading Refusal) → read_number s at ≡ r → or_ten (answer_of r >>= λ lev. following_run e v gap len lev.value lev.next) ≡ refused 10 0
          turn (Ok a) e = rw (no_level a.value a.next (omega (arith, above a.value a.next e (dec_lt a.value 128))))
          turn (Err x) e = refl
