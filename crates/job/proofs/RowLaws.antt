-- The rows of document 01's table that the reading of a job returns: exactly when, and with what value.
-- Assumes nothing.
use Rattle.std.specs.Prelude.{if◌then◌else◌}
use Prim.Native.Nat.{ℕ, zero, suc, ◌+◌, ◌-◌, ◌<◌}
use native.Mathlib.Omega.{arith}
use native.Mathlib.Nat.{zero-add}
use mathlib.Core.Path.{◌≡◌, refl, sym, subst, ap, ◌∙◌}
use mathlib.Core.Logic.{◌↔◌}
use mathlib.Core.Bool.{Bool, true, false}
use mathlib.Core.List.Memᴰ
use mathlib.Core.List.{List, [], ◌∷◌, ◌++◌, append_assoc, append-nil}
use lib.ListN.{length, get_or, drop, length-append, length-drop, drop_of_length-le, get_or-append}
use lib.Dec.{leb, eqb}
use borrow.Author.Tests.{leb-true, leb-false}
use Rattle.base.specs.Answer.{Answer, accepted, refused, ◌>>=◌}
use Rattle.refusal.specs.Refusal.{unless_refuse, number_of, value_of, refusal, answer_of}
use Rattle.refusal.specs.declared.Refusal.TheVariants as Row
use Rattle.refusal.specs.declared.Refusal.{Refusal}
use Rattle.std.proofs.lemmas.Bool.{and_from}
use Rattle.base.proofs.ListLaws.{snoc_each}
use Rattle.refusal.proofs.RowLaws.{same_row}
use Rattle.number.specs.Number.{write_number, number, read_number, number_at}
use Rattle.number.specs.Form.{Bytes}
use Rattle.number.proofs.ReadLaws.{Reads, a_number, ended_there, malformed_there, reads, read_stands}
use Rattle.number.proofs.FormLaws.{read_ended, read_malformed}
use Rattle.job.specs.declared.Header.{Header}
use Rattle.job.specs.declared.Hazard.{Hazard}
use Rattle.job.specs.declared.Bounds.{Bounds}
use Rattle.job.specs.Job.{Job, within, next_in_header, next_in_hazard, Fields, read_fields, more_numbers, read_header, header_of, hazard_of, Hazards, read_hazards}
use Rattle.job.specs.Job.{read_rest, read_job, outside_header, outside_hazard}
use Rattle.job.specs.Writing.{header_numbers, hazard_numbers, hazards_numbers, numbers_of, write_numbers, write_job}
use Rattle.job.specs.Fits.{in_ranges, HazardFits}
use Rattle.job.specs.Rows.{Group, of_header, of_hazard, HasGroup, size_of, next_in, numbers_before, BeforeFits, BeginsWith, index_after, NextNumber, OutOfRange}
use Rattle.job.specs.Rows.{ReadRow, ended, malformed, header_range, hazard_range, left_over}
use Rattle.job.proofs.RangeLaws.{ranges_parts}
use Rattle.job.proofs.JobLaws.{FieldsIn, fields_in, HeaderIn, header_in, header_own, header_fits, hazard_own, hazard_fits}
use Rattle.job.proofs.StandLaws.{numbers_append, outside_of, row_refused}

-- A number more behind others that are in their ranges.
ranges_more : (range_of : List ℕ → Bounds) (xs : List ℕ) (x : ℕ) → in_ranges range_of [] xs ≡ true → within (range_of xs) x ≡ true
    → in_ranges range_of [] (xs ++ x ∷ []) ≡ true
unfolding in_ranges
ranges_more range_of xs x fit w = ranges_parts range_of [] xs (x ∷ []) ∙ and_from _ _ fit (and_from _ _ w refl)

hazards_append : (zs ys : List Hazard) → hazards_numbers (zs ++ ys) ≡ hazards_numbers zs ++ hazards_numbers ys
unfolding hazards_numbers
hazards_append [] ys = refl
hazards_append (z ∷ zs) ys = rw (hazards_append zs ys) (sym (append_assoc (hazard_numbers z) (hazards_numbers zs) (hazards_numbers ys)))

module _ (s : List ℕ) where
  -- The reading has come to a place.
  record At (g : Group) (got : List ℕ) (at : ℕ) : Type 0 where
    stands : BeginsWith s g got (drop at s)
    index : at ≡ index_after g got

  -- The row of a number and a value holds.
  record Holds (n v : ℕ) : Type 0 where
    which : Refusal
    number : number_of which ≡ n
    value : value_of which ≡ v
    row : ReadRow which s

  -- What an answer of each reader says.
  abbrev GroupSaid : Group → Answer Fields → Type 0
  GroupSaid g (accepted f) = At g f.numbers f.next
  GroupSaid g (refused n v) = Holds n v

  abbrev HazardsSaid : Header → Answer Hazards → Type 0
  HazardsSaid h (accepted r) = At (of_hazard h r.list) [] r.next × (length r.list ≡ h.count)
  HazardsSaid h (refused n v) = Holds n v

  abbrev JobSaid : Answer Job → Type 0
  JobSaid (accepted j) = s ≡ write_job j
  JobSaid (refused n v) = Holds n v

-- A group has room for k numbers behind `got`.
abbrev HasRoom : Group → (k : ℕ) (got : List ℕ) → Type 0
HasRoom g k got = (ys : List ℕ) → length ys < k → length (got ++ ys) < size_of g (got ++ ys)

-- A header has room for fourteen, and then for as many more as its kind has.
first_room : HasRoom of_header 14 []
first_room ys l = go (eqb (get_or ys 0 0) 2)
  where
    go : (t : Bool) → length ys < (if t then 15 else 14)
    go true = omega arith
    go false = l

more_room : (first : List ℕ) → length first ≡ 14 → HasRoom of_header (more_numbers first) first
more_room first long ys l = go (eqb (get_or first 0 0) 2) refl l
  where
    same : get_or (first ++ ys) 0 0 ≡ get_or first 0 0
    same = get_or-append first ys 0 0 (omega arith)

    go : (t : Bool) → eqb (get_or first 0 0) 2 ≡ t → length ys < (if t then 15 else 14) - 14 → length (first ++ ys) < size_of of_header (first ++ ys)
    go true e few = rw (same, e, length-append first ys) (omega arith)
    go false e few = absurd (omega arith)

module _ {s : List ℕ} (b : Bytes s) where
  at_more : {g : Group} {got : List ℕ} {at : ℕ} (x n : ℕ) → At s g got at → read_number s at ≡ number x n → within (next_in g got) x ≡ true
      → At s g (got ++ x ∷ []) n
  unfolding write_numbers
  at_more {g} {got} {at} x n here e w =
      let number = read_stands s at x n b e in
      let W = write_numbers (numbers_before g ++ got) in
      let more : write_numbers (numbers_before g ++ (got ++ x ∷ [])) ≡ W ++ write_number x =
      rw (← append_assoc) (numbers_append (numbers_before g ++ got) (x ∷ []) ∙ rw append-nil) in
      record {
        stands = record {
          before = here.stands.before;
          own = ranges_more (next_in g) got x here.stands.own w;
          bytes = here.stands.bytes ∙ rw (number.split, more) (sym (append_assoc W (write_number x) (drop n s)));
        };
        index = omega (arith, here.index, number.next, ap length more, length-append W (write_number x));
      }

  outside_holds : (g : Group) (got : List ℕ) → OutOfRange s g got → Holds s (number_of (outside_of g got)) (value_of (outside_of g got))
  outside_holds of_header got o = record { which = Row.HeaderRange (length got + 1); number = refl; value = refl; row = header_range got refl o }
  outside_holds (of_hazard h zs) got o = record { which = Row.HazardRange (length zs); number = refl; value = refl; row = hazard_range h zs got refl o }

  -- k numbers more behind `got`, for which the group has room.
  group_read : (g : Group) → HasGroup g → (k : ℕ) (got : List ℕ) (at : ℕ) → HasRoom g k got → At s g got at
      → GroupSaid s g (read_fields (next_in g) (outside_of g) k got s at)
  unfolding read_fields number_at
  group_read g has zero got at room here = here
  group_read g has (suc k) got at room here = go (reads s at) (group_read g has k)
    where
      next : NextNumber s g got (drop at s)
      next = record { has = has; more = rw append-nil at (room [] (omega arith)); stands = here.stands }

      Later : Type 0
      Later = (l : List ℕ) (i : ℕ) → HasRoom g k l → At s g l i → GroupSaid s g (read_fields (next_in g) (outside_of g) k l s i)

      tested : (x n : ℕ) → read_number s at ≡ number x n → (t : Bool) → within (next_in g got) x ≡ t → Later
          → GroupSaid s g (unless_refuse t (outside_of g got) >>= λ _. read_fields (next_in g) (outside_of g) k (got ++ x ∷ []) s n)
      tested x n e true w later = later (got ++ x ∷ []) n (λ ys l. rw (append_assoc got (x ∷ []) ys) (room (x ∷ ys) (omega arith))) (at_more x n here e w)
      tested x n e false w later =
          let number = read_stands s at x n b e in
          outside_holds g got (record { number = x; rest = drop n s; next = subst (NextNumber s g got) number.split next; fits = number.fits; outside = w })

      go : Reads s at → Later
          → GroupSaid s g (answer_of (read_number s at) >>= λ x. unless_refuse (within (next_in g got) x.value) (outside_of g got)
          >>= λ _. read_fields (next_in g) (outside_of g) k (got ++ x.value ∷ []) s x.next)
      go (a_number r e) later = rw e (tested r.value r.next e (within (next_in g got) r.value) refl later)
      go (ended_there e) later = rw e (record {
        which = Row.Ended at;
        number = refl;
        value = refl;
        row = ended at refl (record { group = g; got = got; rest = drop at s; next = next; fault = (read_ended s at).0 e; begins = here.index });
      })
      go (malformed_there e) later = rw e (record {
        which = Row.Malformed at;
        number = refl;
        value = refl;
        row = malformed at refl (record { group = g; got = got; rest = drop at s; next = next; fault = (read_malformed s at b).0 e; begins = here.index });
      })

  -- The same numbers, taken to another group.
  at_group : {g q : Group} {got own : List ℕ} {at : ℕ} → numbers_before g ++ got ≡ numbers_before q ++ own → BeforeFits q → in_ranges (next_in q) [] own ≡ true
      → At s g got at → At s q own at
  at_group {at = at} same before fit here =
      record {
        stands = record { before = before; own = fit; bytes = here.stands.bytes ∙ ap (λ (l : List ℕ). write_numbers l ++ drop at s) same };
        index = here.index ∙ ap (λ (l : List ℕ). length (write_numbers l)) same;
      }

  at_first : {numbers : List ℕ} {at : ℕ} → HeaderIn numbers → At s of_header numbers at → At s (of_hazard (header_of numbers) []) [] at
  unfolding numbers_of hazards_numbers in_ranges
  at_first {numbers} fit here =
      at_group (sym (header_own numbers fit.size) ∙ simp append-nil) (header_fits numbers fit, λ z m. absurd (Memᴰ.not-nil m)) refl here

  at_next : {h : Header} {zs : List Hazard} {numbers : List ℕ} {at : ℕ} → FieldsIn (next_in_hazard h) 6 [] numbers → At s (of_hazard h zs) numbers at
      → At s (of_hazard h (zs ++ hazard_of numbers ∷ [])) [] at
  unfolding numbers_of hazards_numbers in_ranges
  at_next {h} {zs} {numbers} fit here =
      let own = hazard_own numbers (ap length fit.whole ∙ fit.size) in
      let more : hazards_numbers (zs ++ hazard_of numbers ∷ []) ≡ hazards_numbers zs ++ numbers =
      hazards_append zs (hazard_of numbers ∷ []) ∙ simp (append-nil, own) in
      at_group (append_assoc (header_numbers h) (hazards_numbers zs) numbers ∙ ap (λ (l : List ℕ). header_numbers h ++ l) (sym more)
      ∙ sym (append-nil (header_numbers h ++ hazards_numbers (zs ++ hazard_of numbers ∷ []))))
      (here.stands.before.0, snoc_each (HazardFits h) zs here.stands.before.1 (hazard_fits h numbers fit)) refl here

  hazards_read : (h : Header) (k : ℕ) (zs : List Hazard) (at : ℕ) → length zs + k ≡ h.count → At s (of_hazard h zs) [] at
      → HazardsSaid s h (read_hazards h k zs s at)
  unfolding read_hazards
  hazards_read h zero zs at size here = (here, omega arith)
  hazards_read h (suc k) zs at size here =
      go (read_fields (next_in_hazard h) (outside_hazard (length zs)) 6 [] s at) refl (group_read (of_hazard h zs) (omega arith) 6 [] at (λ ys l. l) here)
      (hazards_read h k)
    where
      go : (a : Answer Fields) → read_fields (next_in_hazard h) (outside_hazard (length zs)) 6 [] s at ≡ a → GroupSaid s (of_hazard h zs) a
          → ((ys : List Hazard) (i : ℕ) → length ys + k ≡ h.count → At s (of_hazard h ys) [] i → HazardsSaid s h (read_hazards h k ys s i))
          → HazardsSaid s h (a >>= λ f. read_hazards h k (zs ++ hazard_of f.numbers ∷ []) s f.next)
      go (accepted f) e r later =
          later (zs ++ hazard_of f.numbers ∷ []) f.next (rw length-append (omega arith))
          (at_next (fields_in (next_in_hazard h) (outside_hazard (length zs)) 6 [] s at f e) r)
      go (refused n v) e r later = r

  header_group : GroupSaid s of_header (read_header s)
  unfolding read_header write_numbers in_ranges
  header_group =
      go (read_fields next_in_header outside_header 14 [] s 0) refl
      (group_read of_header tt 14 [] 0 first_room (record { stands = record { before = tt; own = refl; bytes = refl }; index = refl }))
    where
      go : (a : Answer Fields) → read_fields next_in_header outside_header 14 [] s 0 ≡ a → GroupSaid s of_header a
          → GroupSaid s of_header (a >>= λ f. read_fields next_in_header outside_header (more_numbers f.numbers) f.numbers s f.next)
      go (accepted f) e w =
          group_read of_header tt (more_numbers f.numbers) f.numbers f.next
          (let first = fields_in next_in_header outside_header 14 [] s 0 f e in more_room f.numbers (ap length first.whole ∙ first.size)) w
      go (refused n v) e w = w

  job_read : JobSaid s (read_job s)
  unfolding read_job read_rest write_job
  job_read = header (read_header s) refl header_group
    where
      over : (h : Header) (r : Hazards) → At s (of_hazard h r.list) [] r.next → length r.list ≡ h.count → (t : Bool) → leb (length s) r.next ≡ t
          → JobSaid s (unless_refuse t (Row.LeftOver r.next) >>= λ _. accepted (record { header = h; hazards = r.list }))
      over h r here size true l = here.stands.bytes ∙ rw (drop_of_length-le s (leb-true _ _ l)) (simp append-nil)
      over h r here size false l =
          record {
            which = Row.LeftOver r.next;
            number = refl;
            value = refl;
            row = left_over r.next refl (record {
              job = record { header = h; hazards = r.list };
              rest = drop r.next s;
              all = size;
              stands = here.stands;
              some = rw length-drop (omega (arith, leb-false (length s) r.next l));
              first = here.index;
            });
          }

      hazards : (h : Header) (a : Answer Hazards) → HazardsSaid s h a
          → JobSaid s (a >>= λ r. unless_refuse (leb (length s) r.next) (Row.LeftOver r.next)
          >>= λ _. accepted (record { header = h; hazards = r.list }))
      hazards h (accepted r) w = over h r w.0 w.1 (leb (length s) r.next) refl
      hazards h (refused n v) w = w

      header : (a : Answer Fields) → read_header s ≡ a → GroupSaid s of_header a
          → JobSaid s (a >>= λ f. let h = header_of f.numbers in read_rest h h.count [] s f.next)
      header (accepted f) e w =
          let h = header_of f.numbers in
          hazards h (read_hazards h h.count [] s f.next) (hazards_read h h.count [] f.next (zero-add h.count) (at_first (header_in s f e) w))
      header (refused n v) e w = w

-- What was read is the writing of its job.
pub job_is_written : (s : List ℕ) (j : Job) → Bytes s → read_job s ≡ accepted j → s ≡ write_job j
job_is_written s j b e = subst (JobSaid s) e (job_read b)

-- The reading refuses a job for what its row says, and for nothing else.
pub read_exactly : (s : List ℕ) (r : Refusal) → Bytes s → (read_job s ≡ refusal r) ↔ ReadRow r s
read_exactly s r b = (to, row_refused s r)
  where
    to : read_job s ≡ refusal r → ReadRow r s
    to e =
        let h : Holds s (number_of r) (value_of r) = subst (JobSaid s) e (job_read b) in
        subst (λ (q : Refusal). ReadRow q s) (same_row h.which r h.number h.value) h.row
