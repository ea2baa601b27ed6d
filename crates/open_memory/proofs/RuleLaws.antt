-- The rules of an open job's memory as facts: what each test means.
-- Assumes nothing.
use Prim.Native.Nat.{ℕ, ◌+◌, ◌-◌, ◌≤◌}
use native.Mathlib.Omega.{arith}
use mathlib.Core.Path.{◌≡◌, refl, ap, ap₂, subst, ◌∙◌}
use mathlib.Core.Logic.{◌⊎◌, inl, inr}
use mathlib.Core.Bool.{Bool, true, false, ◌&&◌, false≢true}
use mathlib.Core.List.Memᴰ
use mathlib.Core.List.{List, [], ◌∷◌, map, Memᴰ}
use lib.ListN.{length, drop, replicate, length-map, length-drop}
use lib.Seq.{length-take-le}
use lib.Dec.{leb, eqb}
use borrow.Author.Tests.{le-leb, leb-true, eqb-true}
use Rattle.base.specs.Choice.{all_of}
use Rattle.base.specs.Answer.{Answer, accepted, refused, ◌>>=◌, is_accepted}
use Rattle.refusal.specs.Refusal.{unless_refuse}
use Rattle.refusal.specs.declared.Refusal.TheVariants as Row
use Rattle.std.proofs.lemmas.Bool.{and_parts}
use Rattle.job.specs.declared.Header.{Header}
use Rattle.job.specs.declared.Hazard.{Hazard}
use Rattle.job.specs.declared.NamedHazard.{NamedHazard}
use Rattle.job.specs.declared.StoredJob.{StoredJob}
use Rattle.job.specs.Job.{unnamed, job_of, counted, made_from}
use Rattle.job.specs.Reply.{unused}
use Rattle.job.specs.Fits.{HeaderFits, HazardFits}
use Rattle.job.proofs.RangeLaws.{header_bounds}
use Rattle.planning.specs.Envelope.{reached, reaches, farther, stands_near, test_hazard}
use Rattle.planning.specs.Rows.{Passed, AcceptedFits}
use Rattle.planning.proofs.EnvelopeLaws.{hazard_passed}
use Rattle.planning.proofs.AcceptedLaws.{hazard_passes}
use Rattle.job.specs.Fits.{header_in_range, hazard_in_range}
use Rattle.open_memory.specs.Memory.{greatest_name, standing, admit, admissible, names_rise, is_unused, is_open_job}
use Rattle.open_memory.specs.Steps.{ZerosAfter}
use Rattle.open_memory.proofs.RangeLaws.{counted_fits}

-- A hazard that can be added
pub record Admitted (h : Header) (z : Hazard) : Type 0 where
  pub fits : HazardFits h z
  pub passed : Passed h z

module _ (h : Header) (name : ℕ) (z : Hazard) where
  pub admitted : is_accepted (admit h name z) ≡ true → Admitted h z
  unfolding admit
  admitted e = ranged (hazard_in_range h z) refl e
    where
      tested : HazardFits h z → (a : Answer (Unit {0})) → test_hazard h name z ≡ a → is_accepted a ≡ true → Admitted h z
      tested f (accepted u) p t = record { fits = f; passed = hazard_passed h name z u p }
      tested f (refused k v) p t = absurd (false≢true t)

      ranged : (b : Bool) → hazard_in_range h z ≡ b → is_accepted (unless_refuse b (Row.HazardRange name) >>= λ _. test_hazard h name z) ≡ true → Admitted h z
      ranged true p t = tested p (test_hazard h name z) refl t
      ranged false p t = absurd (false≢true t)

  pub admits : Admitted h z → admit h name z ≡ accepted tt
  unfolding admit
  admits a = rw a.fits (hazard_passes h name z a.passed)

  -- Answer by answer.
  pub admit_unranged : hazard_in_range h z ≡ false → refused 4 name ≡ admit h name z
  unfolding admit
  admit_unranged e = rw e

  pub admit_ranged : hazard_in_range h z ≡ true → admit h name z ≡ test_hazard h name z
  unfolding admit
  admit_ranged e = rw e

  -- The hazard count has no part in it.
  pub admit_counted : (n : ℕ) → admit (counted h n) name z ≡ admit h name z
  unfolding admit hazard_in_range test_hazard stands_near reached reaches farther
  admit_counted n = refl

module _ (h : Header) (n : ℕ) (z : Hazard) (a : Admitted h z) where
  pub counted_hazard : HazardFits (counted h n) z
  unfolding hazard_in_range
  counted_hazard = a.fits

  pub counted_passed : Passed (counted h n) z
  unfolding reached reaches farther
  counted_passed = record { clear = a.passed.clear }

-- So a job made from hazards each of which could be added is accepted.
pub made_fits : (h : Header) (zs : List Hazard) → HeaderFits h → length zs ≤ 256 → ((z : Hazard) → Memᴰ z zs → Admitted h z) → AcceptedFits (made_from h zs)
made_fits h zs fits few all = record {
  fits = record { header = counted_fits h (length zs) fits few; hazards = record { count = refl; each = λ z m. counted_hazard h (length zs) z (all z m) } };
  passed = λ z m. counted_passed h (length zs) z (all z m);
}

-- The hazards that stand: names that rise, and each could be added.
abbrev pub Stand : Header → (low : ℕ) → List NamedHazard → Type 0
Stand h low [] = Unit {0}
Stand h low (p ∷ ps) = (low ≤ p.name) × (p.name ≤ greatest_name) × Admitted h (unnamed p) × Stand h (p.name + 1) ps

pub stand_facts : (h : Header) (low : ℕ) (ps : List NamedHazard) → names_rise low ps ≡ true → all_of (admissible h) ps ≡ true → Stand h low ps
unfolding names_rise all_of
stand_facts h low [] names may = tt
stand_facts h low (p ∷ ps) names may =
    let own = leb low p.name && leb p.name greatest_name in
    let here = (and_parts own (names_rise (p.name + 1) ps) names).0 in (
      leb-true _ _ ((and_parts (leb low p.name) (leb p.name greatest_name) here).0),
      leb-true _ _ ((and_parts (leb low p.name) (leb p.name greatest_name) here).1),
      admitted h p.name (unnamed p) ((and_parts (admissible h p) (all_of (admissible h) ps) may).0),
      stand_facts h (p.name + 1) ps ((and_parts own (names_rise (p.name + 1) ps) names).1) ((and_parts (admissible h p) (all_of (admissible h) ps) may).1),
    )

pub stand_names : (h : Header) (low : ℕ) (ps : List NamedHazard) → Stand h low ps → names_rise low ps ≡ true
unfolding names_rise
stand_names h low [] t = refl
stand_names h low (p ∷ ps) t = rw (le-leb low p.name t.0, le-leb p.name greatest_name t.1) (stand_names h (p.name + 1) ps t.3)

pub stand_admissible : (h : Header) (low : ℕ) (ps : List NamedHazard) → Stand h low ps → all_of (admissible h) ps ≡ true
unfolding all_of
stand_admissible h low [] t = refl
stand_admissible h low (p ∷ ps) t = rw (admits h p.name (unnamed p) t.2) (stand_admissible h (p.name + 1) ps t.3)

pub stand_each : (h : Header) (low : ℕ) (ps : List NamedHazard) → Stand h low ps → {p : NamedHazard} → Memᴰ p ps → Admitted h (unnamed p)
stand_each h low [] t m = absurd (Memᴰ.not-nil m)
stand_each h low (q ∷ qs) t {p} m = go (Memᴰ.cases_cons m) (stand_each h (q.name + 1) qs t.3)
  where
    go : (p ≡ q) ⊎ Memᴰ p qs → (Memᴰ p qs → Admitted h (unnamed p)) → Admitted h (unnamed p)
    go (inl e) r = rw e t.2
    go (inr k) r = r k

-- Places in which no hazard stands
unused_is : (p : NamedHazard) → is_unused p ≡ true → p ≡ unused
unfolding is_unused
unused_is p e =
    let a1 = eqb p.start 0 in let a2 = a1 && eqb p.end 0 in let a3 = a2 && eqb p.near 0 in
    let a4 = a3 && eqb p.far 0 in let a5 = a4 && eqb p.name 0 in let a6 = a5 && eqb p.side 0 in
    let e6 : a6 ≡ true = (and_parts a6 (eqb p.level 0) e).0 in
    let e5 : a5 ≡ true = (and_parts a5 (eqb p.side 0) e6).0 in
    let e4 : a4 ≡ true = (and_parts a4 (eqb p.name 0) e5).0 in
    let e3 : a3 ≡ true = (and_parts a3 (eqb p.far 0) e4).0 in
    let e2 : a2 ≡ true = (and_parts a2 (eqb p.near 0) e3).0 in
    let level : p.level ≡ 0 = eqb-true _ _ ((and_parts a6 (eqb p.level 0) e).1) in
    let side : p.side ≡ 0 = eqb-true _ _ ((and_parts a5 (eqb p.side 0) e6).1) in
    let name : p.name ≡ 0 = eqb-true _ _ ((and_parts a4 (eqb p.name 0) e5).1) in
    let far : p.far ≡ 0 = eqb-true _ _ ((and_parts a3 (eqb p.far 0) e4).1) in
    let near : p.near ≡ 0 = eqb-true _ _ ((and_parts a2 (eqb p.near 0) e3).1) in
    let end : p.end ≡ 0 = eqb-true _ _ ((and_parts a1 (eqb p.end 0) e2).1) in
    let start : p.start ≡ 0 = eqb-true _ _ ((and_parts a1 (eqb p.end 0) e2).0) in
    λ i. record { start = start i; end = end i; near = near i; far = far i; name = name i; side = side i; level = level i }

pub unused_are : (l : List NamedHazard) → all_of is_unused l ≡ true → l ≡ replicate (length l) unused
unfolding all_of
unused_are [] e = refl
unused_are (p ∷ ps) e = ap₂ ◌∷◌ (unused_is p ((and_parts (is_unused p) (all_of is_unused ps) e).0)) (unused_are ps ((and_parts (is_unused p) (all_of is_unused ps) e).1))

-- Memory that keeps the rules
module _ (m : StoredJob) (good : is_open_job m ≡ true) where
  names : header_in_range m.header && names_rise 0 (standing m) && all_of (admissible m.header) (standing m) ≡ true
  unfolding is_open_job
  names = (and_parts (header_in_range m.header && names_rise 0 (standing m) && all_of (admissible m.header) (standing m)) (all_of is_unused (drop m.header.count m.hazards)) good).0

  header : header_in_range m.header && names_rise 0 (standing m) ≡ true
  header = (and_parts (header_in_range m.header && names_rise 0 (standing m)) (all_of (admissible m.header) (standing m)) names).0

  pub open_header : HeaderFits m.header
  open_header = (and_parts (header_in_range m.header) (names_rise 0 (standing m)) header).0

  pub open_count : m.header.count ≤ 256
  open_count = (header_bounds m.header open_header).count

  pub open_standing : Stand m.header 0 (standing m)
  open_standing =
      stand_facts m.header 0 (standing m) ((and_parts (header_in_range m.header) (names_rise 0 (standing m)) header).1)
      ((and_parts (header_in_range m.header && names_rise 0 (standing m)) (all_of (admissible m.header) (standing m)) names).1)

  pub open_unused : all_of is_unused (drop m.header.count m.hazards) ≡ true
  unfolding is_open_job
  open_unused = (and_parts (header_in_range m.header && names_rise 0 (standing m) && all_of (admissible m.header) (standing m)) (all_of is_unused (drop m.header.count m.hazards)) good).1

  module _ (size : length m.hazards ≡ 256) where
    pub open_clear : ZerosAfter m
    open_clear = record {
      behind = unused_are _ open_unused ∙ ap (λ (n : ℕ). replicate n unused)
          (length-drop m.header.count m.hazards ∙ ap (λ (n : ℕ). n - m.header.count) size);
    }

    pub open_accepted : AcceptedFits (job_of m)
    open_accepted =
        let number : length (standing m) ≡ m.header.count = length-take-le m.header.count m.hazards (omega (arith, open_count)) in
        record {
          fits = record { header = open_header; hazards = record { count = length-map (standing m) unnamed ∙ number; each = λ z k. (one z k).fits } };
          passed = λ z k. (one z k).passed;
        }
      where
        one : (z : Hazard) → Memᴰ z (map unnamed (standing m)) → Admitted m.header z
        one z k = let w = Memᴰ.of_map unnamed (standing m) k in subst (Admitted m.header) w.2 (stand_each m.header 0 (standing m) open_standing w.1)
