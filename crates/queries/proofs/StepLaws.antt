-- A walk of a schedule's records, step by step: its start, a record passed, its end, and what they say of what the runs come to.
-- Assumes nothing.
use Prim.Native.Nat.{ℕ, zero, suc, ◌-◌, ◌≤◌, ◌<◌}
use native.Mathlib.Omega.{arith}
use mathlib.Core.Path.{◌≡◌, refl, sym, ap, ap₂, ◌∙◌}
use mathlib.Core.List.{List, [], ◌∷◌}
use lib.ListN.{length}
use lib.Dec.{leb}
use borrow.Author.Tests.{eq-eqb, ne_eqb, leb-true}
use Rattle.base.specs.Answer.{Answer, accepted, refused, ◌>>=◌}
use Rattle.base.proofs.AnswerLaws.{bound, bind_same}
use Rattle.refusal.specs.declared.Refusal.TheVariants as Row
use Rattle.refusal.proofs.RefuseLaws.{passed}
use Rattle.number.specs.Number.{number_at, write_number}
use Rattle.number.specs.declared.Reading.{Reading}
use Rattle.number.specs.Form.{Bytes}
use Rattle.number.proofs.ReadLaws.{number_read}
use Rattle.runs.specs.declared.Stretch.{Stretch}
use Rattle.runs.specs.RunList.{most_runs, MayFollow}
use Rattle.runs.proofs.RunLaws.{follows}
use Rattle.schedule.specs.Schedule.{read_head, ReadRun, read_record, or_ten, read_records, read_schedule}
use Rattle.schedule.proofs.ScheduleLaws.{or_ten_lem, record_read, schedule_parts, records_rise}
use Rattle.queries.specs.Walk.{head_at, record_at, as_head, as_record, run_count, Between, Next}
use Rattle.queries.specs.Visits.{then_runs, Rest}
use Rattle.queries.specs.declared.walk.Head.{Head}
use Rattle.queries.specs.declared.walk.Record.{Record}

-- A step that is never refused.
pub given_refused : {A B : Type 0} (w : Answer A) (f : A → B) (x y : ℕ) → (w >>= λ a. accepted (f a)) ≡ refused x y → w ≡ refused x y
given_refused (accepted a) f x y q = cc
given_refused (refused k v) f x y q = let number : k ≡ x = cc in let value : v ≡ y = cc in rw (number, value)

-- The head and a record, as the code's structs give them.
pub head_is : (a : Answer Reading) (h : Head) → accepted h ≡ as_head a → a ≡ accepted (record { value = h.count; next = h.next })
head_is (accepted n) h q = let next : n.next ≡ h.next = cc in let count : n.value ≡ h.count = cc in rw (← next, ← count) refl
head_is (refused k v) h q = cc

pub record_is : (a : Answer ReadRun) (r : Record) → accepted r ≡ as_record a → a ≡ accepted (record { run = r.run; next = r.next })
record_is (accepted p) r q = let next : p.next ≡ r.next = cc in let run : p.run ≡ r.run = cc in rw (← next, ← run) refl
record_is (refused k v) r q = cc

-- What follows a part that is refused is not read.
then_ten : {A B : Type 0} (m : Answer A) (f : A → Answer B) (x y : ℕ) → or_ten m ≡ refused x y → or_ten (m >>= f) ≡ refused x y
then_ten (accepted a) f x y q = cc
then_ten (refused k v) f x y q = let number : 10 ≡ x = cc in let value : 0 ≡ y = cc in ap₂ refused number value

-- The head

module _ (s : List ℕ) where
  pub head_refused : (x y : ℕ) → head_at s ≡ refused x y → read_schedule s ≡ refused x y
  unfolding read_schedule
  head_refused x y h = then_ten (read_head s) (λ n. read_records n.value 0 0 s n.next) x y h

  module _ (n : Reading) (h : head_at s ≡ accepted n) where
    pub walk_start : {A : Type 0} (f g : List Stretch → A) → ((rs : List Stretch) → read_schedule s ≡ accepted rs → f rs ≡ g rs)
        → Rest s f n.value 0 0 n.next g
    unfolding read_schedule
    walk_start f g same =
        record {
          same = bind_same (read_schedule s) (λ rs. accepted (f rs)) (λ rs. accepted (g rs)) (λ rs e. ap accepted (same rs e)) ∙ rw (or_ten_lem (read_head s) n h);
        }

    pub head_few : n.value ≤ most_runs
    unfolding read_head
    head_few =
        let b = bound (number_at s 0) _ n (or_ten_lem (read_head s) n h) in
        let t = passed (leb b.first.value most_runs) Row.Schedule _ n b.rest in
        let same : b.first ≡ n = let z = t.1 in cc in
        rw same at (leb-true b.first.value most_runs t.0)

    -- The index behind the head is that behind the writing of the run count.
    pub head_length : (rs : List Stretch) → Bytes s → read_schedule s ≡ accepted rs → length (write_number (length rs)) ≡ n.next
    head_length rs b e =
        let w = schedule_parts s rs e in
        let same : w.head ≡ n = (let z = sym w.head_found ∙ or_ten_lem (read_head s) n h in cc) in
        let stands = number_read s 0 n b (w.head_read ∙ ap accepted same) in
        rw (records_rise s n.value 0 0 n.next rs (rw same at w.records)).0 (omega (arith, stands.next))

-- What is refused is the run count too.
pub count_refused : (s : List ℕ) (x y : ℕ) → refused x y ≡ run_count s → read_schedule s ≡ refused x y
unfolding run_count
count_refused s x y q = given_refused (read_schedule s) (λ rs. length rs) x y (sym q)

pub count_head : (s : List ℕ) (x y : ℕ) → refused x y ≡ as_head (head_at s) → refused x y ≡ run_count s
unfolding run_count
count_head s x y q =
    sym (ap (λ (w : Answer (List Stretch)). then_runs w (λ rs. length rs)) (head_refused s x y (given_refused (head_at s) (λ n. record { next = n.next; count = n.value }) x y (sym q))))

-- A record

pub record_follows : (e v : ℕ) (s : List ℕ) (at : ℕ) (p : ReadRun) → record_at e v s at ≡ accepted p → MayFollow e v p.run
record_follows e v s at p r = follows e v p.run (record_read s e v at p (or_ten_lem _ p r)).may

walk_step : (k e v : ℕ) (s : List ℕ) (at : ℕ) → 0 < k
    → read_records k e v s at ≡ (read_record e v s at >>= λ p. read_records (k - 1) p.run.end p.run.level s p.next >>= λ rs. accepted (p.run ∷ rs))
unfolding read_records
walk_step zero e v s at h = absurd (omega arith)
walk_step (suc k) e v s at h = let one : suc k - 1 ≡ k = omega arith in rw one

module _ {A : Type 0} {s : List ℕ} {f g : List Stretch → A} {k e v at : ℕ} (w : Rest s f k e v at g) where
  -- The run of the record passed counts, and then those behind it.
  pub walk_passed : (p : ReadRun) (g' : List Stretch → A) → 0 < k → record_at e v s at ≡ accepted p → ((rs : List Stretch) → g (p.run ∷ rs) ≡ g' rs)
      → Rest s f (k - 1) p.run.end p.run.level p.next g'
  walk_passed p g' some r same =
      record {
        same = w.same ∙ rw (walk_step k e v s at some, or_ten_lem (read_record e v s at) p r) (go (read_records (k - 1) p.run.end p.run.level s p.next));
      }
    where
      go : (rest : Answer (List Stretch)) → then_runs (or_ten (rest >>= λ rs. accepted (p.run ∷ rs))) g ≡ then_runs (or_ten rest) g'
      go (accepted rs) = ap accepted (same rs)
      go (refused x y) = refl

  pub walk_refused : (x y : ℕ) → 0 < k → record_at e v s at ≡ refused x y → refused x y ≡ then_runs (read_schedule s) f
  walk_refused x y some r =
      sym (w.same ∙ ap (λ (a : Answer (List Stretch)). then_runs a g)
      (ap (λ (a : Answer (List Stretch)). or_ten a) (walk_step k e v s at some) ∙ then_ten (read_record e v s at) _ x y r))

  -- The end

  pub walk_over : k ≡ 0 → at ≡ length s → accepted (g []) ≡ then_runs (read_schedule s) f
  unfolding read_records
  walk_over none h = sym (w.same ∙ rw (none, eq-eqb at (length s) h))

  pub walk_left_over : k ≡ 0 → (at ≡ length s → ⊥) → refused 10 0 ≡ then_runs (read_schedule s) f
  unfolding read_records
  walk_left_over none h = sym (w.same ∙ rw (none, ne_eqb at (length s) h))

-- The next record's run may follow.
pub next_follows : (s : List ℕ) (b : Between) (at : ℕ) (r : Record) → Next s b at r → MayFollow b.end b.level r.run
next_follows s b at r n = record_follows b.end b.level s b.at (record { run = r.run; next = r.next }) n.reads
