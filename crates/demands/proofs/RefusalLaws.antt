-- Plan's refusals, exactly: 8 for the side, 1 to 5 and 7 for the job, 9 for the room, and else the schedule is written.
-- Assumes nothing.
use Prim.Native.Nat.{ℕ, zero, suc, ◌+◌, ◌≤◌, ◌<◌}
use native.Mathlib.Omega.{arith}
use native.Mathlib.Decide.{dec_le}
use mathlib.Core.Path.{◌≡◌, refl, sym, subst, ap, ap₂, ◌∙◌}
use mathlib.Core.Logic.{◌↔◌, ◌≢◌}
use mathlib.Core.Bool.{Bool, true, false, not}
use mathlib.Core.List.{List, [], ◌∷◌, ◌++◌}
use lib.ListN.{length}
use lib.Dec.{leb}
use borrow.Author.Tests.{le-leb}
use Rattle.base.specs.Answer.{Answer, accepted, refused, ◌>>=◌}
use Rattle.refusal.specs.Refusal.{unless_refuse, number_of, value_of, refusal}
use Rattle.refusal.specs.declared.Refusal.TheVariants as Row
use Rattle.number.specs.Number.{number_at}
use Rattle.number.proofs.ReadLaws.{Reads, a_number, ended_there, malformed_there, reads}
use Rattle.job.specs.declared.Header.{Header}
use Rattle.job.specs.declared.Hazard.{Hazard}
use Rattle.job.specs.declared.Bounds.{Bounds}
use Rattle.job.specs.Job.{Job, within, next_in_header, next_in_hazard, read_fields, more_numbers, read_header, header_of, hazard_of, read_hazards, read_job, read_rest}
use Rattle.job.specs.Job.{outside_header, outside_hazard}
use Rattle.planning.specs.Envelope.{side_overhangs, stands_near, test_hazard, test_hazards, accept_job}
use Rattle.planning.proofs.OverhangLaws.{greatest_before, greatest_after}
use Rattle.schedule.specs.Plan.{PlannedSide, fitted, plan}
use Rattle.schedule.proofs.PlanLaws.{fitted_fits, fitted_short}
use Rattle.schedule.proofs.PlanLaws.{plan_bad_side}
use Rattle.demands.specs.Road.{Overhanging, PlanOverhangs, PlanSix}
use Rattle.refusal.specs.declared.Refusal.{Refusal}
use Rattle.refusal.proofs.RowLaws.{some_number, no_six, same_row}
use Rattle.demands.specs.PlanTable.{side_schedule, side_planned, PlanRow, bad_side, of_job, no_room, PlanExactly, Fits, PlanWritten, PlanAnswer}
use Rattle.demands.specs.PlanTable.{refused_by, schedule_written, PlanAnswers}
use Rattle.number.specs.Form.{Bytes}
use Rattle.planning.proofs.RowLaws.{refused_exactly}

-- The job's refusals

-- An answer that refuses with 1 to 5 and 7 only, "number 6 no longer occurs", and by a row of the table.
abbrev pub OneToSeven : {A : Type 0} → Answer A → Type 0
OneToSeven (accepted a) = Unit {0}
OneToSeven (refused k v) = (1 ≤ k) × (k ≤ 7) × (k ≢ 6) × ((r : Refusal) × (number_of r ≡ k) × (value_of r ≡ v))

both : {A B : Type 0} (m : Answer A) (f : A → Answer B) → OneToSeven m → ((a : A) → OneToSeven (f a)) → OneToSeven (m >>= f)
both (accepted a) f p q = q a
both (refused k v) f p q = p

test : (t : Bool) (r : Refusal) → number_of r ≤ 7 → OneToSeven (unless_refuse t r)
test true r h = tt
test false r h = (some_number r, h, no_six r, (r, refl, refl))

number_refusals : (s : List ℕ) (at : ℕ) → OneToSeven (number_at s at)
unfolding number_at
number_refusals s at = go (reads s at)
  where
    go : Reads s at → OneToSeven (number_at s at)
    go (a_number r e) = rw e tt
    go (ended_there e) = rw e (omega arith, omega arith, omega arith, (Row.Ended at, refl, refl))
    go (malformed_there e) = rw e (omega arith, omega arith, omega arith, (Row.Malformed at, refl, refl))

fields_refusals : (range_of : List ℕ → Bounds) (outside : List ℕ → Refusal) (k : ℕ) (got s : List ℕ) (at : ℕ) → ((l : List ℕ) → number_of (outside l) ≤ 7)
    → OneToSeven (read_fields range_of outside k got s at)
unfolding read_fields
fields_refusals range_of outside zero got s at h = tt
fields_refusals range_of outside (suc k) got s at h =
    both (number_at s at) _ (number_refusals s at) (λ x.
    both (unless_refuse (within (range_of got) x.value) (outside got)) _ (test (within (range_of got) x.value) (outside got) (h got)) (λ _.
    fields_refusals range_of outside k (got ++ x.value ∷ []) s x.next h))

hazards_refusals : (h : Header) (k : ℕ) (got : List Hazard) (s : List ℕ) (at : ℕ) → OneToSeven (read_hazards h k got s at)
unfolding read_hazards
hazards_refusals h zero got s at = tt
hazards_refusals h (suc k) got s at =
    both (read_fields (next_in_hazard h) (outside_hazard (length got)) 6 [] s at)
    _ (fields_refusals (next_in_hazard h) (outside_hazard (length got)) 6 [] s at (λ _. omega arith)) (λ z.
    hazards_refusals h k (got ++ hazard_of z.numbers ∷ []) s z.next)

read_refusals : (s : List ℕ) → OneToSeven (read_job s)
unfolding read_job read_rest read_header
read_refusals s =
    both (read_header s) _
    (both (read_fields next_in_header outside_header 14 [] s 0) _ (fields_refusals next_in_header outside_header 14 [] s 0 (λ _. omega arith)) (λ f.
    fields_refusals next_in_header outside_header (more_numbers f.numbers) f.numbers s f.next (λ _. omega arith))) (λ f.
    both (read_hazards (header_of f.numbers) (header_of f.numbers).count [] s f.next)
    _ (hazards_refusals (header_of f.numbers) (header_of f.numbers).count [] s f.next) (λ r.
    both (unless_refuse (leb (length s) r.next) (Row.LeftOver r.next)) _ (test (leb (length s) r.next) (Row.LeftOver r.next) (omega arith))
    (λ _. tt)))

test_refusals : (h : Header) (i : ℕ) (zs : List Hazard) → OneToSeven (test_hazards h i zs)
unfolding test_hazards test_hazard
test_refusals h i [] = tt
test_refusals h i (z ∷ zs) = both (test_hazard h i z) _ (test (not (stands_near h z)) (Row.NearBarrier i) (omega arith)) (λ _. test_refusals h (i + 1) zs)

pub accept_refusals : (s : List ℕ) → OneToSeven (accept_job s)
unfolding accept_job
accept_refusals s =
    both (read_job s) _ (read_refusals s) (λ j. both (test_hazards j.header 0 j.hazards) _ (test_refusals j.header 0 j.hazards) (λ _. tt))

-- Plan

module _ (s : List ℕ) (side room : ℕ) where
  -- What plan answers, and why.
  pub data PlanVerdict : Type 0 where
    wrong_side : 1 < side → plan s side room ≡ refused 8 0 → PlanVerdict
    bad_job : side ≤ 1 → (k v : ℕ) → accept_job s ≡ refused k v → 1 ≤ k → k ≤ 7 → k ≢ 6 → plan s side room ≡ refused k v → PlanVerdict
    short_room : side ≤ 1 → (j : Job) → accept_job s ≡ accepted j → room < length (side_schedule j side)
        → plan s side room ≡ refused 9 (length (side_schedule j side)) → PlanVerdict
    written : side ≤ 1 → (j : Job) → accept_job s ≡ accepted j → length (side_schedule j side) ≤ room → plan s side room ≡ accepted (side_planned j side)
        → PlanVerdict

  by_job : side ≤ 1 → plan s side room ≡ (accept_job s >>= λ j. fitted (side_schedule j side) (side_overhangs j side) room)
  unfolding plan
  by_job h = rw (le-leb side 1 h)

  pub plan_verdict : PlanVerdict
  plan_verdict = sided (dec_le side 1)
    where
      fitting : side ≤ 1 → (j : Job) → accept_job s ≡ accepted j → plan s side room ≡ fitted (side_schedule j side) (side_overhangs j side) room
          → Dec (length (side_schedule j side) ≤ room) → PlanVerdict
      fitting h j e p (yes l) = written h j e l (p ∙ fitted_fits (side_schedule j side) (side_overhangs j side) room l)
      fitting h j e p (no l) = short_room h j e (omega arith) (p ∙ fitted_short (side_schedule j side) (side_overhangs j side) room (omega arith))

      job : side ≤ 1 → (a : Answer Job) → accept_job s ≡ a → OneToSeven a
          → plan s side room ≡ (a >>= λ j. fitted (side_schedule j side) (side_overhangs j side) room) → PlanVerdict
      job h (accepted j) e o p = fitting h j e p (dec_le (length (side_schedule j side)) room)
      job h (refused k v) e o p = bad_job h k v e o.0 o.1 o.2 p

      sided : Dec (side ≤ 1) → PlanVerdict
      sided (yes h) = job h (accept_job s) refl (accept_refusals s) (by_job h)
      sided (no h) = wrong_side (omega arith) (plan_bad_side s side room (omega arith))

  -- On a good side plan's refusals but 9 are the job's.
  pub plan_refuses : side ≤ 1 → (k v : ℕ) → (accept_job s ≡ refused k v) ↔ ((plan s side room ≡ refused k v) × (k ≢ 9))
  plan_refuses h k v = (λ e. (by_job h ∙ rw e, nine e (accept_refusals s)), λ w. go w.0 w.1 plan_verdict)
    where
      nine : accept_job s ≡ refused k v → OneToSeven (accept_job s) → k ≢ 9
      nine e o q = let few : k ≤ 7 = (rw e at o).1 in omega arith

      go : plan s side room ≡ refused k v → k ≢ 9 → PlanVerdict → accept_job s ≡ refused k v
      go e n (wrong_side b p) = absurd (omega arith)
      go e n (bad_job b i w a l u x p) = let number : i ≡ k = cc in let value : w ≡ v = cc in a ∙ ap₂ refused number value
      go e n (short_room b j a l p) = absurd (n (let number : 9 ≡ k = cc in sym number))
      go e n (written b j a l p) = cc

  -- So are those of a call that answers for each accepted job.
  pub answer_refuses : {A : Type 0} (tell : Job → A) → side ≤ 1 → (k v : ℕ)
      → ((accept_job s >>= λ j. accepted (tell j)) ≡ refused k v) ↔ ((plan s side room ≡ refused k v) × (k ≢ 9))
  answer_refuses {A} tell h k v = let plans = plan_refuses h k v in (λ e. plans.0 ((alike (accept_job s)).0 e), λ w. (alike (accept_job s)).1 (plans.1 w))
    where
      alike : (a : Answer Job) → ((a >>= λ j. accepted (tell j)) ≡ refused k v) ↔ (a ≡ refused k v)
      alike (accepted j) = (λ e. cc, λ e. cc)
      alike (refused i w) = (
        λ e. let number : i ≡ k = cc in let value : w ≡ v = cc in ap₂ refused number value,
        λ e. let number : i ≡ k = cc in let value : w ≡ v = cc in ap₂ refused number value,
      )

  -- The table's rows.
  exactly : (r : Refusal) → Bytes s → (plan s side room ≡ refusal r) ↔ PlanRow r s side room
  exactly r b = (λ e. to e plan_verdict, from)
    where
      to : plan s side room ≡ refusal r → PlanVerdict → PlanRow r s side room
      to e (wrong_side h p) = bad_side (same_row r Row.Argument (let z : number_of r ≡ 8 = cc in z) (let z : value_of r ≡ 0 = cc in z)) h
      to e (bad_job h k v a l u n p) =
          of_job h ((refused_exactly s r b).0 (let number : k ≡ number_of r = cc in let value : v ≡ value_of r = cc in a ∙ ap₂ refused number value))
      to e (short_room h j a l p) =
          let needed = length (side_schedule j side) in
          no_room needed (same_row r (Row.Room needed) (let z : number_of r ≡ 9 = cc in z) (let z : value_of r ≡ needed = cc in z))
          (record { good_side = h; job = j; taken = a; needed = refl; short = l })
      to e (written h j a l p) = cc

      from : PlanRow r s side room → plan s side room ≡ refusal r
      from (bad_side e h) = plan_bad_side s side room h ∙ ap refusal (sym e)
      from (of_job h w) = by_job h ∙ rw ((refused_exactly s r b).1 w)
      from (no_room n e w) =
          by_job w.good_side
          ∙ rw w.taken (fitted_short (side_schedule w.job side) (side_overhangs w.job side) room (omega (arith, w.needed, w.short))
          ∙ (ap (λ (m : ℕ). refusal (Row.Room m)) w.needed ∙ ap refusal (sym e)))

  by_written : (p : PlannedSide) → (plan s side room ≡ accepted p) ↔ Fits s side room p
  by_written p = (
    λ e. go e plan_verdict,
    λ f. by_job f.good_side
        ∙ rw f.taken (fitted_fits (side_schedule f.job side) (side_overhangs f.job side) room
        (subst (λ (q : PlannedSide). length q.schedule ≤ room) (sym f.is) f.room_enough) ∙ ap accepted f.is),
  )
    where
      go : plan s side room ≡ accepted p → PlanVerdict → Fits s side room p
      go e (wrong_side h q) = cc
      go e (bad_job h k v a l u n q) = cc
      go e (short_room h j a l q) = cc
      go e (written h j a l q) =
          let same : side_planned j side ≡ p = cc in
          record { good_side = h; job = j; taken = a; is = same; room_enough = subst (λ (x : PlannedSide). length x.schedule ≤ room) same l }

  answers : Bytes s → PlanAnswer s side room
  answers b = go plan_verdict
    where
      row : (r : Refusal) → plan s side room ≡ refusal r → PlanAnswer s side room
      row r e = refused_by r e ((exactly r b).0 e)

      go : PlanVerdict → PlanAnswer s side room
      go (wrong_side h p) = row Row.Argument p
      go (bad_job h k v a l u n p) = let few = rw a at (accept_refusals s) in let w = few.3 in row w.0 (p ∙ ap₂ refused (sym w.1) (sym w.2))
      go (short_room h j a l p) = row (Row.Room (length (side_schedule j side))) p
      go (written h j a l p) = schedule_written (side_planned j side) p ((by_written (side_planned j side)).0 p)

pub plan_exactly : PlanExactly
plan_exactly = exactly

pub plan_written : PlanWritten
plan_written = by_written

pub plan_answers : PlanAnswers
plan_answers = answers

-- Document 02, request 8

pub plan_six : PlanSix
plan_six s side room k v e = go (plan_verdict s side room)
  where
    go : PlanVerdict s side room → k ≢ 6
    go (wrong_side h p) six = let z : 8 ≡ k = cc in omega arith
    go (bad_job h i w a l u n p) six = let z : i ≡ k = cc in n (omega arith)
    go (short_room h j a l p) six = let z : 9 ≡ k = cc in omega arith
    go (written h j a l p) six = cc

pub plan_overhangs : PlanOverhangs
plan_overhangs s j side room p a e =
    let f = (plan_written s side room p).0 e in
    let same : f.job ≡ j = let q = sym f.taken ∙ a in cc in
    let own : side_overhangs j side ≡ p.overhangs = ap (λ (i : Job). side_overhangs i side) (sym same) ∙ ap (λ (q : PlannedSide). q.overhangs) f.is in
    subst (Overhanging j side) own (record { before = greatest_before j side; after = greatest_after j side })
