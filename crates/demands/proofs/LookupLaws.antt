-- Lookup in every schedule that is the writing of a run list: the part found is the record of the run that has the station, and nothing
-- is found exactly where no run has it.
-- Assumes nothing.
use Rattle.std.specs.Prelude.{if◌then◌else◌}
use Prim.Native.Nat.{ℕ, ◌+◌}
use native.Mathlib.Omega.{arith}
use mathlib.Core.Path.{◌≡◌, refl, sym, subst, ap, ◌∙◌}
use mathlib.Core.Logic.{◌⊎◌, inl, inr}
use mathlib.Core.Bool.{Bool, true, false, ◌&&◌}
use mathlib.Core.List.Memᴰ
use mathlib.Core.List.{List, [], ◌∷◌, ◌++◌, append_assoc, append-nil, Memᴰ}
use lib.ListN.{length, take, drop, length-append}
use lib.Seq.{take-append_seam}
use lib.Dec.{ltb, leb}
use borrow.Author.Tests.{ltb-true, ltb-false, lt-ltb, leb-true, leb-false, le-leb}
use Rattle.base.proofs.ListLaws.{drop_after}
use Rattle.std.proofs.lemmas.Bool.{and_from, both_ways}
use Rattle.number.specs.Number.{write_number}
use Rattle.runs.specs.declared.Stretch.{Stretch}
use Rattle.runs.specs.Level.{Has, has}
use Rattle.runs.specs.RunList.{shown_level, Rising}
use Rattle.runs.proofs.RunLaws.{shown_in, shown_before, shown_after, run_list_rising}
use Rattle.schedule.specs.Schedule.{write_record, write_records, write_schedule}
use Rattle.queries.specs.Lookup.{Part, Found, found, nowhere, find_record, place_in, asked, lookup, FoundRun}
use Rattle.schedule.proofs.ScheduleLaws.{schedule_runs}
use Rattle.demands.specs.Queries.{Finds, LookupWritten}

part_of_split : (s : List ℕ) (i : ℕ) (w rest : List ℕ) → drop i s ≡ w ++ rest → take (length w) (drop i s) ≡ w
part_of_split s i w rest e = rw e (take-append_seam w rest)

find_found : (s : List ℕ) (e v i : ℕ) (rs : List Stretch) (rest : List ℕ) (t : ℕ) (p : Part) → Rising e v rs → drop i s ≡ write_records e rs ++ rest
    → find_record e i rs t ≡ found p → FoundRun s e i rs t p
unfolding find_record write_records
find_found s e v i [] rest t p up q f = cc
find_found s e v i (r ∷ rs) rest t p up q f =
    go (leb r.start t) refl (ltb t r.end) refl f (find_found s r.end r.level (i + length (write_record e r)) rs rest t p up.1 later)
  where
    split : drop i s ≡ write_record e r ++ (write_records r.end rs ++ rest)
    split = q ∙ append_assoc (write_record e r) (write_records r.end rs) rest

    later : drop (i + length (write_record e r)) s ≡ write_records r.end rs ++ rest
    later = drop_after s i (write_record e r) (write_records r.end rs ++ rest) split

    Rec : Type 0
    Rec = find_record r.end (i + length (write_record e r)) rs t ≡ found p → FoundRun s r.end (i + length (write_record e r)) rs t p

    further : shown_level (r ∷ rs) t ≡ shown_level rs t → FoundRun s r.end (i + length (write_record e r)) rs t p → FoundRun s e i (r ∷ rs) t p
    further l w =
        record {
          run = w.run;
          before = r ∷ w.before;
          after = w.after;
          split = ap (λ (others : List Stretch). r ∷ others) w.split;
          member = Memᴰ.tail w.member;
          has = w.has;
          bytes = w.bytes;
          place = w.place ∙ sym (rw (length-append (write_record e r) (write_records r.end w.before)) (omega arith));
          level = l ∙ w.level;
        }

    go : (a : Bool) → leb r.start t ≡ a → (b : Bool) → ltb t r.end ≡ b
        → (if a && b then found (record { at = i; len = length (write_record e r) }) else find_record r.end (i + length (write_record e r)) rs t) ≡ found p
        → Rec → FoundRun s e i (r ∷ rs) t p
    go true x true y c rec =
        let w : record { at = i; len = length (write_record e r) } ≡ p = cc in
        subst (FoundRun s e i (r ∷ rs) t) w (record {
          run = r;
          before = [];
          after = rs;
          split = refl;
          member = Memᴰ.head refl;
          has = (leb-true _ _ x, ltb-true _ _ y);
          bytes = part_of_split s i (write_record e r) (write_records r.end rs ++ rest) split;
          place = omega arith;
          level = shown_in r rs t (leb-true _ _ x) (ltb-true _ _ y);
        })
    go true x false y c rec = further (shown_after r rs t (ltb-false _ _ y)) (rec c)
    go false x b y c rec = further (shown_before r rs t (leb-false _ _ x)) (rec c)

-- No run has the station where nothing is found.
find_none : (e i : ℕ) (rs : List Stretch) (t : ℕ) → find_record e i rs t ≡ nowhere → (r : Stretch) → Memᴰ r rs → Has r t → ⊥
unfolding find_record
find_none e i [] t q r m h = Memᴰ.not-nil m
find_none e i (x ∷ rs) t q r m h = go (has x t) refl q (Memᴰ.cases_cons m) (λ c k. find_none x.end (i + length (write_record e x)) rs t c r k h)
  where
    go : (a : Bool) → has x t ≡ a → (if a then found (record { at = i; len = length (write_record e x) }) else find_record x.end (i + length (write_record e x))
        rs t) ≡ nowhere
        → (r ≡ x) ⊎ Memᴰ r rs → (find_record x.end (i + length (write_record e x)) rs t ≡ nowhere → Memᴰ r rs → ⊥) → ⊥
    go true p c w rec = cc
    go false p c (inl s) rec = let k : Has x t = subst (λ (y : Stretch). Has y t) s h in both_ways _ p (and_from _ _ (le-leb _ _ k.0) (lt-ltb _ _ k.1))
    go false p c (inr k) rec = rec c k

-- The level 0 is shown where no run has the millimetre.
pub none_shown : (rs : List Stretch) (t : ℕ) → ((r : Stretch) → Memᴰ r rs → Has r t → ⊥) → shown_level rs t ≡ 0
unfolding shown_level
none_shown [] t n = refl
none_shown (x ∷ rs) t n = go (leb x.start t) refl (ltb t x.end) refl (none_shown rs t (λ r m. n r (Memᴰ.tail m)))
  where
    go : (a : Bool) → leb x.start t ≡ a → (b : Bool) → ltb t x.end ≡ b → shown_level rs t ≡ 0 → (if a && b then x.level else shown_level rs t) ≡ 0
    go true p true q rec = absurd (n x (Memᴰ.head refl) (leb-true _ _ p, ltb-true _ _ q))
    go true p false q rec = rec
    go false p b q rec = rec

pub lookup_written : LookupWritten
unfolding lookup place_in write_schedule
lookup_written right left side t h w =
    record { answer = answer; replies = rw (le-leb side 1 h, schedule_runs (asked side right left) w); finds = go answer refl }
  where
    s : List ℕ
    s = asked side right left

    rs : List Stretch
    rs = w.runs

    answer : Found
    answer = find_record 0 (length (write_number (length rs))) rs t

    after : drop (0 + length (write_number (length rs))) s ≡ write_records 0 rs ++ []
    after = drop_after s 0 (write_number (length rs)) (write_records 0 rs) w.writes ∙ sym (append-nil (write_records 0 rs))

    go : (f : Found) → find_record 0 (length (write_number (length rs))) rs t ≡ f → Finds s rs t f
    go (found p) e =
        find_found s 0 0 (length (write_number (length rs))) rs [] t p (run_list_rising rs w.run_list)
        (ap (λ (i : ℕ). drop i s) (let z : length (write_number (length rs)) ≡ 0 + length (write_number (length rs)) = omega arith in z) ∙ after) e
    go nowhere e = find_none 0 (length (write_number (length rs))) rs t e
