-- Laws of the record's place: lookup's walk, and that the place lies within the schedule.
-- Assumes nothing.
use Rattle.std.specs.Prelude.{if◌then◌else◌, Option, Some, None, is_some}
use Prim.Native.Nat.{ℕ, ◌+◌, ◌-◌, ◌≤◌, ◌<◌}
use native.Mathlib.Omega.{arith}
use mathlib.Core.Path.{◌≡◌, refl, sym, subst, ap, ◌∙◌}
use mathlib.Core.Bool.{Bool, true, false, ◌&&◌}
use mathlib.Core.List.{List, [], ◌∷◌, ◌++◌}
use lib.ListN.{length, length-append}
use lib.Dec.{leb, ltb, eqb}
use borrow.Author.Tests.{le-leb, lt-leb, lt-ltb, le-ltb}
use denote.Ref.{Bor}
use Rattle.base.specs.Answer.{Answer, accepted, refused}
use Rattle.refusal.specs.Refusal.{unless_refuse}
use Rattle.refusal.specs.declared.Refusal.TheVariants as Row
use Rattle.base.proofs.AnswerLaws.{bound}
use Rattle.number.specs.Number.{write_number}
use Rattle.number.specs.declared.Reading.{Reading}
use Rattle.number.specs.Form.{Bytes}
use Rattle.number.proofs.WriteLaws.{small_length}
use Rattle.runs.specs.declared.Stretch.{Stretch}
use Rattle.runs.specs.RunList.{MayFollow, Rising}
use Rattle.schedule.specs.Schedule.{write_record, write_records, write_schedule, ReadRun, read_schedule}
use Rattle.queries.specs.Walk.{head_at, run_count, Between, at_first, after, Next}
use Rattle.queries.specs.Lookup.{Part, Found, found, nowhere, find_record, place_in, asked, lookup, part_of, outcome_of}
use Rattle.queries.specs.Place.{IsPart, part_between, found_at, companion}
use Rattle.queries.specs.Visits.{or_later, so_far, Seeking}
use Rattle.queries.specs.declared.reply.Place.{Place}
use Rattle.queries.specs.declared.walk.Record.{Record}
use Rattle.schedule.proofs.ScheduleLaws.{or_ten_lem, record_stands, schedule_read}
use Rattle.queries.proofs.QuantityLaws.{read_rising}
use Rattle.queries.proofs.StepLaws.{walk_start, head_length, count_refused, next_follows, walk_passed, walk_over}

-- A record, as it is written.
abbrev as_read : Record → ReadRun
as_read r = record { run = r.run; next = r.next }

-- What was found, where its run reaches beyond t, and where it does not.
pub so_far_here : (p : Place) (reached t : ℕ) → t < reached → so_far p reached t ≡ found_at (Some p)
so_far_here p reached t h = rw (lt-ltb t reached h)

pub so_far_none : (p : Place) (reached t : ℕ) → reached ≤ t → so_far p reached t ≡ nowhere
so_far_none p reached t h = rw (le-ltb t reached h)

-- Before the first record.
pub seek_start : (s : List ℕ) (t : ℕ) (h : Reading) → Bytes s → head_at s ≡ accepted h → (p : Place) → Seeking s t (at_first h) p 0
seek_start s t h b e p = record {
  sought = walk_start s h e (λ rs. find_record 0 (length (write_number (length rs))) rs t)
      (λ rs. or_later (so_far p 0 t) (find_record 0 h.next rs t))
      (λ rs q. rw (so_far_none p 0 t (omega arith)) (ap (λ (i : ℕ). find_record 0 i rs t) (head_length s h e rs b q)));
  near = omega arith;
}

-- A record passed: a run that starts after the station does not have it, nor does any that ended before this one starts.
module _ (s : List ℕ) (t : ℕ) (b : Between) (at : ℕ) (r : Record) (n : Next s b at r) (p : Place) (reached : ℕ) (w : Seeking s t b p reached) where
  stands : r.next ≡ b.at + length (write_record b.end r.run)
  stands = (record_stands s n.bytes b.end b.level b.at (as_read r) (or_ten_lem _ (as_read r) n.reads)).next

  may : MayFollow b.end b.level r.run
  may = next_follows s b at r n

  turned : (p' : Place) (reached' : ℕ)
      → ((rs : List Stretch) → or_later (so_far p reached t) (find_record b.end b.at (r.run ∷ rs) t)
      ≡ or_later (so_far p' reached' t) (find_record r.run.end (b.at + length (write_record b.end r.run)) rs t))
      → reached' ≤ r.run.end
      → Seeking s t (after b r) p' reached'
  turned p' reached' same near = record {
    sought = walk_passed w.sought (as_read r) (λ rs. or_later (so_far p' reached' t) (find_record r.run.end r.next rs t)) n.some n.reads
        (λ rs. same rs ∙ ap (λ (i : ℕ). or_later (so_far p' reached' t) (find_record r.run.end i rs t)) (sym stands));
    near = near;
  }

  pub seek_by : t < r.run.start → Seeking s t (after b r) p reached
  unfolding find_record
  seek_by h = turned p reached (λ rs. rw (lt-leb r.run.start t h)) (omega (arith, w.near, may.after, may.long))

  pub seek_here : r.run.start ≤ t → Seeking s t (after b r) (record { start = at; end = r.next }) r.run.end
  unfolding find_record
  seek_here h = rw n.here at (turned (record { start = b.at; end = r.next }) r.run.end
      (λ rs. rw (so_far_none p reached t (omega (arith, w.near, may.after)), le-leb r.run.start t h, long) (go rs (ltb t r.run.end))) (omega arith))
    where
      long : r.next - b.at ≡ length (write_record b.end r.run)
      long = omega (arith, stands)

      go : (rs : List Stretch) (c : Bool) → let m = length (write_record b.end r.run) in let rest = find_record r.run.end (b.at + m) rs t in
          (if true && c then found (record { at = b.at; len = m }) else rest) ≡ or_later (if c then found (record { at = b.at; len = m }) else nowhere) rest
      go rs true = refl
      go rs false = refl

-- After the last record: what was found.
pub seek_over : (s : List ℕ) (t : ℕ) (b : Between) (p : Place) (reached : ℕ) → Seeking s t b p reached → b.left ≡ 0 → b.at ≡ length s
    → accepted (so_far p reached t) ≡ place_in s t
unfolding place_in find_record
seek_over s t b p reached w none over = go (so_far p reached t) ∙ walk_over w.sought none over
  where
    go : (f : Found) → accepted f ≡ accepted (or_later f nowhere)
    go (found p) = refl
    go nowhere = refl

pub place_refused : (s : List ℕ) (t x y : ℕ) → refused x y ≡ run_count s → refused x y ≡ place_in s t
unfolding place_in
place_refused s t x y q = rw (count_refused s x y q)

-- What the companion says.
pub outcome_at : (o : Option Place) → companion (accepted (is_some o)) ≡ outcome_of (accepted (found_at o))
unfolding outcome_of
outcome_at None = refl
outcome_at (Some p) = refl

-- By side
module _ (right left : List ℕ) (side t : ℕ) where
  pub lookup_side : side ≤ 1 → (s : List ℕ) → asked side right left ≡ s → lookup right left side t ≡ place_in s t
  unfolding lookup
  lookup_side h s e = rw (le-leb side 1 h, e)

  pub lookup_argument : 1 < side → lookup right left side t ≡ refused 8 0
  unfolding lookup
  lookup_argument h = rw (lt-leb side 1 h)

-- The place is within the schedule

-- A part that is not empty, between two indices.
pub record Within (i n : ℕ) (p : Part) : Type 0 where
  pub some : 0 < p.len
  pub after : i ≤ p.at
  pub ends : p.at + p.len ≤ n

find_within : (e v i : ℕ) (rs : List Stretch) (t : ℕ) (p : Part) → Rising e v rs → find_record e i rs t ≡ found p → Within i (i + length (write_records e rs)) p
unfolding find_record write_records write_record
find_within e v i [] t p up q = cc
find_within e v i (r ∷ rs) t p up q = go (leb r.start t && ltb t r.end) q (find_within r.end r.level (i + length (write_record e r)) rs t p up.1)
  where
    all : length (write_record e r ++ write_records r.end rs) ≡ length (write_record e r) + length (write_records r.end rs)
    all = length-append (write_record e r) (write_records r.end rs)

    some : 0 < length (write_record e r)
    some = simp length-append (omega (arith, small_length r.level (omega (arith, up.0.top))))

    go : (b : Bool) → (if b then found (record { at = i; len = length (write_record e r) }) else find_record r.end (i + length (write_record e r)) rs t)
        ≡ found p
        → (find_record r.end (i + length (write_record e r)) rs t ≡ found p
        → Within (i + length (write_record e r)) (i + length (write_record e r) + length (write_records r.end rs)) p)
        → Within i (i + length (write_record e r ++ write_records r.end rs)) p
    go true c later =
        let same : record { at = i; len = length (write_record e r) } ≡ p = cc in
        subst (Within i (i + length (write_record e r ++ write_records r.end rs))) same
        (record { some = some; after = omega arith; ends = omega (arith, all) })
    go false c later = let w = later c in record { some = w.some; after = omega (arith, w.after); ends = omega (arith, all, w.ends) }

pub place_within : (s : List ℕ) (t : ℕ) (p : Part) → Bytes s → place_in s t ≡ accepted (found p) → Within 0 (length s) p
unfolding place_in write_schedule
place_within s t p b e =
    let f = bound (read_schedule s) _ (found p) e in
    let rs = f.first in
    let w = schedule_read s rs b f.taken in
    let is : find_record 0 (length (write_number (length rs))) rs t ≡ found p = cc in
    let i = find_within 0 0 (length (write_number (length rs))) rs t p (read_rising s rs f.taken) is in
    record { some = i.some; after = omega arith; ends = omega (arith, i.ends, ap length w.1, length-append (write_number (length rs)) (write_records 0 rs)) }

-- The place that lookup finds is within the schedule of the side asked for.
pub lookup_within : (right left : List ℕ) (side t : ℕ) (p : Part) → Bytes right → Bytes left → lookup right left side t ≡ accepted (found p)
    → Within 0 (length (asked side right left)) p
unfolding lookup
lookup_within right left side t p br bl e =
    place_within (asked side right left) t p (go (eqb side 1)) (bound (unless_refuse (leb side 1) Row.Argument) _ (found p) e).rest
  where
    go : (b : Bool) → Bytes (if b then left else right)
    go true = bl
    go false = br

pub place_inside : (right left : List ℕ) (side t : ℕ) (p : Place) → Bytes right → Bytes left → accepted (found (part_between p.start p.end)) ≡ lookup right left side t
    → (p.start ≤ p.end) × (p.end ≤ length (asked side right left))
place_inside right left side t p br bl e =
    let w = lookup_within right left side t (part_between p.start p.end) br bl (sym e) in (omega (arith, w.some), omega (arith, w.some, w.ends))

-- The slice of the side asked for

pub asked_now : (side : ℕ) (right left : Bor (List ℕ)) → (asked side right left).now ≡ asked side right.now left.now
asked_now side right left = go (eqb side 1)
  where
    go : (b : Bool) → (if b then left else right).now ≡ (if b then left.now else right.now)
    go true = refl
    go false = refl

pub is_part : (r a A : Bor (List ℕ)) (L M : Answer Found) → a ≡ A → L ≡ M → IsPart r a (part_of L) → IsPart r A (part_of M)
is_part r a A L M p q h = subst (λ (x : Bor (List ℕ)). IsPart r x (part_of M)) p (subst (λ (x : Answer Found). IsPart r a (part_of x)) q h)
