-- The calls quantity and lookup as the paper says them: when each gives which refusal, what a quantity counts, and that quantities of neighbours add up.
-- Assumes nothing.
use Prim.Native.Nat.{ℕ, ◌≤◌, ◌<◌}
use native.Mathlib.Omega.{arith}
use native.Mathlib.Decide.{dec_le}
use mathlib.Core.Path.{◌≡◌, refl, sym, ap, ◌∙◌}
use mathlib.Core.Logic.{◌↔◌}
use mathlib.Core.Bool.{Bool, true, false, ◌&&◌, false≢true}
use mathlib.Core.List.{List}
use lib.ListN.{length}
use lib.Dec.{leb}
use borrow.Author.Tests.{le-leb, leb-true}
use Rattle.base.specs.Answer.{Answer, accepted, refused, ◌>>=◌}
use Rattle.refusal.specs.Refusal.{unless_refuse}
use Rattle.refusal.specs.declared.Refusal.TheVariants as Row
use Rattle.base.proofs.AnswerLaws.{bound}
use Rattle.refusal.proofs.RefuseLaws.{passed}
use Rattle.number.specs.Number.{write_number}
use Rattle.number.specs.Form.{Bytes}
use Rattle.runs.specs.declared.Stretch.{Stretch}
use Rattle.runs.specs.RunList.{shown_level}
use Rattle.schedule.specs.Schedule.{IsSchedule, read_schedule}
use Rattle.queries.specs.Quantity.{millimetres, quantity}
use Rattle.queries.specs.Lookup.{asked, lookup, Found, find_record, place_in}
use Rattle.schedule.proofs.ScheduleLaws.{schedule_runs, refused_ten, schedule_read}
use Rattle.queries.proofs.QuantityLaws.{ranged}
use Rattle.demands.proofs.DemandLaws.{millimetres_add}
use Rattle.demands.specs.Queries.{Counts, QuantityCounts, QuantityAdd, QuantityEight, QuantityTen, LookupEight, LookupTen}

-- Schedules

-- Bytes are the writing of a run list, which is then what reading gives; or they are not, and 10 is returned.
data Verdict (s : List ℕ) : Type 0 where
  reads : (w : IsSchedule s) → read_schedule s ≡ accepted w.runs → Verdict s
  other : (IsSchedule s → ⊥) → read_schedule s ≡ refused 10 0 → Verdict s

verdict : (s : List ℕ) → Bytes s → Verdict s
verdict s b = go (read_schedule s) refl
  where
    go : (a : Answer (List Stretch)) → read_schedule s ≡ a → Verdict s
    go (accepted rs) e = let w = schedule_read s rs b e in reads (record { runs = rs; run_list = w.0; writes = w.1 }) e
    go (refused k v) e = other (λ w. let p = schedule_runs s w in cc) (refused_ten s k v e)

-- "A schedule that isn't the writing of a run list", and no other.
pub schedule_ten : (s : List ℕ) → Bytes s → (read_schedule s ≡ refused 10 0) ↔ (IsSchedule s → ⊥)
schedule_ten s b = go (verdict s b)
  where
    go : Verdict s → (read_schedule s ≡ refused 10 0) ↔ (IsSchedule s → ⊥)
    go (reads w e) = (λ t i. cc, λ n. absurd (n w))
    go (other n e) = (λ t. n, λ m. e)

-- A call on a schedule: 8 where its first test fails, 11 where its second does, then 10, and then what the runs come to.
abbrev pub query : {A : Type 0} → List ℕ → (List Stretch → A) → (t u : Bool) → Answer A
query w f t u = unless_refuse t Row.Argument >>= λ _. unless_refuse u Row.Ranges >>= λ _. read_schedule w >>= λ rs. accepted (f rs)

module _ {A : Type 0} (w : List ℕ) (f : List Stretch → A) (b : Bytes w) where
  -- Behind the tests.
  read_refused : (k : ℕ) → query w f true true ≡ refused k 0 → (k ≡ 10) × (IsSchedule w → ⊥)
  read_refused k = go (verdict w b)
    where
      go : Verdict w → query w f true true ≡ refused k 0 → (k ≡ 10) × (IsSchedule w → ⊥)
      go (reads i r) e = let q = rw r at e in cc
      go (other n r) e = let q = rw r at e in (let z : k ≡ 10 = cc in z, n)

  read_ten : (IsSchedule w → ⊥) → query w f true true ≡ refused 10 0
  read_ten n = rw ((schedule_ten w b).1 n)

  pub query_eight : (t u : Bool) → (query w f t u ≡ refused 8 0) ↔ (t ≡ true → ⊥)
  query_eight false u = (λ e. false≢true, λ n. refl)
  query_eight true false = (λ e h. let z : ◌≡◌ {A = ℕ} 11 8 = cc in omega arith, λ n. absurd (n refl))
  query_eight true true = (λ e h. omega (arith, (read_refused 8 e).0), λ n. absurd (n refl))

  pub query_eleven : (t u : Bool) → (query w f t u ≡ refused 11 0) ↔ ((t ≡ true) × (u ≡ true → ⊥))
  query_eleven false u = (λ e. absurd (let z : ◌≡◌ {A = ℕ} 8 11 = cc in omega arith), λ h. absurd (false≢true h.0))
  query_eleven true false = (λ e. (refl, false≢true), λ h. refl)
  query_eleven true true = (λ e. absurd (omega (arith, (read_refused 11 e).0)), λ h. absurd (h.1 refl))

  pub query_ten : (t u : Bool) → (query w f t u ≡ refused 10 0) ↔ ((t ≡ true) × (u ≡ true) × (IsSchedule w → ⊥))
  query_ten false u = (λ e. absurd (let z : ◌≡◌ {A = ℕ} 8 10 = cc in omega arith), λ h. absurd (false≢true h.0))
  query_ten true false = (λ e. absurd (let z : ◌≡◌ {A = ℕ} 11 10 = cc in omega arith), λ h. absurd (false≢true h.1))
  query_ten true true = (λ e. (refl, refl, (read_refused 10 e).1), λ h. read_ten h.2)

  -- What is given is what the runs of a schedule come to.
  pub query_given : (t u : Bool) (a : A) → query w f t u ≡ accepted a
      → (t ≡ true) × (u ≡ true) × (i : IsSchedule w) × (read_schedule w ≡ accepted i.runs) × (f i.runs ≡ a)
  query_given t u a e =
      let first = passed t Row.Argument _ a e in
      let second = passed u Row.Ranges _ a first.1 in
      let read = bound (read_schedule w) _ a second.1 in
      let is = schedule_read w read.first b read.taken in
      let same : f read.first ≡ a = let z = read.rest in cc in
      (first.0, second.0, record { runs = read.first; run_list = is.0; writes = is.1 }, read.taken, same)

-- A test that does not pass.
pub not_within : (n most : ℕ) → (leb n most ≡ true → ⊥) → most < n
not_within n most h = go (dec_le n most)
  where
    go : Dec (n ≤ most) → most < n
    go (yes l) = absurd (h (le-leb n most l))
    go (no l) = omega arith

-- Quantity

pub quantity_counts : QuantityCounts
unfolding quantity
quantity_counts s v p q n = (to, from)
  where
    to : quantity s v p q ≡ accepted n → Counts s v p q n
    to e =
        let first = passed (leb 1 v && leb v 6 && leb p q) Row.Argument _ n e in
        let read = bound (read_schedule s) _ n first.1 in
        let same : accepted (millimetres (shown_level read.first) v p q) ≡ accepted n = read.rest in
        record { ranged = (ranged v p q).0 first.0; runs = read.first; read = read.taken; count = (cc) }

    from : Counts s v p q n → quantity s v p q ≡ accepted n
    from c = rw ((ranged v p q).1 c.ranged, c.read) (ap accepted c.count)

pub quantity_add : QuantityAdd
quantity_add s w v p r q low top a b =
    let read = schedule_runs s w in
    let counted : (x y : ℕ) → x ≤ y → quantity s v x y ≡ accepted (millimetres (shown_level w.runs) v x y) =
    λ x y h. (quantity_counts s v x y (millimetres (shown_level w.runs) v x y)).1
    (record { ranged = (low, top, h); runs = w.runs; read = read; count = refl }) in
    (counted p r a, counted r q b, counted p q (omega arith) ∙ ap accepted (sym (millimetres_add (shown_level w.runs) v p r q a b)))

pub quantity_eight : QuantityEight
unfolding quantity
quantity_eight s v p q b =
    let e = query_eight s (λ rs. millimetres (shown_level rs) v p q) b (leb 1 v && leb v 6 && leb p q) true in
    let r = ranged v p q in
    (λ x h. e.0 x (r.1 h), λ n. e.1 (λ t. n (r.0 t)))

pub quantity_ten : QuantityTen
unfolding quantity
quantity_ten s v p q b =
    let e = query_ten s (λ rs. millimetres (shown_level rs) v p q) b (leb 1 v && leb v 6 && leb p q) true in
    let r = ranged v p q in
    (λ x. (r.0 (e.0 x).0, (e.0 x).2), λ h. e.1 (r.1 h.0, refl, h.1))

-- Lookup

module _ (right left : List ℕ) (side t : ℕ) (b : Bytes (asked side right left)) where
  find : List Stretch → Found
  find rs = find_record 0 (length (write_number (length rs))) rs t

  by_eight : (lookup right left side t ≡ refused 8 0) ↔ (1 < side)
  unfolding lookup place_in find
  by_eight =
      let e = query_eight (asked side right left) find b (leb side 1) true in
      (λ x. not_within side 1 (e.0 x), λ h. e.1 (λ l. omega (arith, leb-true side 1 l)))

  by_ten : (lookup right left side t ≡ refused 10 0) ↔ ((side ≤ 1) × (IsSchedule (asked side right left) → ⊥))
  unfolding lookup place_in find
  by_ten =
      let e = query_ten (asked side right left) find b (leb side 1) true in
      (λ x. (leb-true side 1 (e.0 x).0, (e.0 x).2), λ h. e.1 (le-leb side 1 h.0, refl, h.1))

pub lookup_eight : LookupEight
lookup_eight = by_eight

pub lookup_ten : LookupTen
lookup_ten = by_ten
