-- The rows of document 01's table that a job is refused with: exactly when, and with what value.
-- Assumes nothing.
use Prim.Native.Nat.{ℕ, suc, ◌+◌}
use native.Mathlib.Omega.{arith}
use native.Mathlib.Nat.{zero-add}
use mathlib.Core.Path.{◌≡◌, refl, sym, subst, ap, ap₂, ◌∙◌}
use mathlib.Core.Logic.{◌↔◌, ◌⊎◌, inl, inr}
use mathlib.Core.Bool.{Bool, true, false, ◌&&◌, not}
use mathlib.Core.List.Memᴰ
use mathlib.Core.List.{List, [], ◌∷◌}
use lib.ListN.{length}
use lib.Dec.{ltb}
use borrow.Author.Tests.{ltb-true, lt-ltb}
use Rattle.base.specs.Answer.{Answer, accepted, refused, ◌>>=◌}
use Rattle.refusal.specs.Refusal.{unless_refuse, number_of, value_of, refusal}
use Rattle.refusal.specs.declared.Refusal.TheVariants as Row
use Rattle.refusal.specs.declared.Refusal.{Refusal}
use Rattle.refusal.proofs.RowLaws.{same_row}
use Rattle.base.proofs.ListLaws.{cons_each}
use Rattle.job.specs.declared.Header.{Header}
use Rattle.job.specs.declared.Hazard.{Hazard}
use Rattle.job.specs.Job.{Job, read_job}
use Rattle.number.specs.Form.{Bytes}
use Rattle.job.proofs.RowLaws.{read_exactly}
use Rattle.planning.specs.Envelope.{reached, stands_near, test_hazard, test_hazards, accept_job}
use Rattle.planning.specs.Rows.{Near, Passed, FirstNear, FirstNearOf, JobRow, of_reading, near_barrier}
use Rattle.planning.proofs.EnvelopeLaws.{hazard_passed}
use Rattle.planning.proofs.AcceptedLaws.{hazards_pass}

test_exactly : (h : Header) (i n v : ℕ) (z : Hazard) → (test_hazard h i z ≡ refused n v) ↔ ((n ≡ 5) × (v ≡ i) × Near h z)
unfolding test_hazard stands_near
test_exactly h i n v z = (λ e. to _ _ refl refl e, λ w. back w.2 ∙ ap₂ refused (sym w.0) (sym w.1))
  where
    to : (r near : Bool) → reached h z ≡ r → ltb z.near (h.offset + h.deflection) ≡ near
        → unless_refuse (not (r && near)) (Row.NearBarrier i) ≡ refused n v → (n ≡ 5) × (v ≡ i) × Near h z
    to true true p q e = ((cc), (cc), record { reach = p; near = ltb-true _ _ q })
    to true false p q e = cc
    to false near p q e = cc

    back : Near h z → test_hazard h i z ≡ refused 5 i
    back f = simp (f.reach, lt-ltb z.near (h.offset + h.deflection) f.near)

-- The hazards in order

first_refused : (h : Header) (zs : List Hazard) (i v : ℕ) → FirstNear h zs v → test_hazards h i zs ≡ refused 5 (i + v)
unfolding test_hazards
first_refused h zs i v f =
    rw f.split
    (hazards_pass h i f.before (f.hazard ∷ f.after) f.passed
    ∙ rw ((test_exactly h (i + length f.before) 5 (i + v) f.hazard).1 (refl, ap (λ (k : ℕ). i + k) f.place, f.fault)))

refused_first : (h : Header) (zs : List Hazard) (i n v : ℕ) → test_hazards h i zs ≡ refused n v → (n ≡ 5) × ((k : ℕ) × (v ≡ i + k) × FirstNear h zs k)
unfolding test_hazards
refused_first h [] i n v e = cc
refused_first h (z ∷ zs) i n v e = go (test_hazard h i z) refl e (refused_first h zs (i + 1) n v)
  where
    later : Passed h z → (n ≡ 5) × ((k : ℕ) × (v ≡ i + 1 + k) × FirstNear h zs k) → (n ≡ 5) × ((k : ℕ) × (v ≡ i + k) × FirstNear h (z ∷ zs) k)
    later p (five, (k, at, f)) = (
      five,
      (
        suc k,
        omega arith,
        record {
          before = z ∷ f.before;
          hazard = f.hazard;
          after = f.after;
          split = ap (λ (l : List Hazard). z ∷ l) f.split;
          passed = cons_each (Passed h) p f.passed;
          fault = f.fault;
          place = ap suc f.place;
        },
      ),
    )

    go : (a : Answer (Unit {0})) → test_hazard h i z ≡ a → (a >>= λ _. test_hazards h (i + 1) zs) ≡ refused n v
        → (test_hazards h (i + 1) zs ≡ refused n v → (n ≡ 5) × ((k : ℕ) × (v ≡ i + 1 + k) × FirstNear h zs k))
        → (n ≡ 5) × ((k : ℕ) × (v ≡ i + k) × FirstNear h (z ∷ zs) k)
    go (accepted u) p q rest = later (hazard_passed h i z u p) (rest q)
    go (refused m w) p q rest =
        let t = (test_exactly h i n v z).0 (p ∙ q) in (
          t.0,
          (
            0,
            omega (arith, t.1),
            record { before = []; hazard = z; after = zs; split = refl; passed = λ y m. absurd (Memᴰ.not-nil m); fault = t.2; place = refl },
          ),
        )

-- The job

module _ (s : List ℕ) where
  job_exactly : (n v : ℕ) → (accept_job s ≡ refused n v) ↔ ((read_job s ≡ refused n v) ⊎ ((n ≡ 5) × FirstNearOf s v))
  unfolding accept_job
  job_exactly n v = (to (read_job s) refl, back)
    where
      tests : (j : Job) (a : Answer (Unit {0})) → (a >>= λ _. accepted j) ≡ refused n v → a ≡ refused n v
      tests j (accepted u) e = cc
      tests j (refused m w) e = ap₂ refused (cc) (cc)

      to : (a : Answer Job) → read_job s ≡ a → (a >>= λ j. test_hazards j.header 0 j.hazards >>= λ _. accepted j) ≡ refused n v
          → (read_job s ≡ refused n v) ⊎ ((n ≡ 5) × FirstNearOf s v)
      to (accepted j) p e =
          let (five, (k, at, f)) = refused_first j.header j.hazards 0 n v (tests j (test_hazards j.header 0 j.hazards) e) in
          inr (five, (j, p, subst (FirstNear j.header j.hazards) (let w : k ≡ v = omega arith in w) f))
      to (refused m w) p e = inl (p ∙ ap₂ refused (cc) (cc))

      back : (read_job s ≡ refused n v) ⊎ ((n ≡ 5) × FirstNearOf s v) → accept_job s ≡ refused n v
      back (inl e) = rw e
      back (inr (five, (j, p, f))) = rw (p, first_refused j.header j.hazards 0 v f) (ap₂ refused (sym five) (zero-add v))

-- The job is refused for what its row says, and for nothing else.
pub refused_exactly : (s : List ℕ) (r : Refusal) → Bytes s → (accept_job s ≡ refusal r) ↔ JobRow r s
refused_exactly s r b = (λ e. to ((job_exactly s (number_of r) (value_of r)).0 e), back)
  where
    to : (read_job s ≡ refusal r) ⊎ ((number_of r ≡ 5) × FirstNearOf s (value_of r)) → JobRow r s
    to (inl e) = of_reading ((read_exactly s r b).0 e)
    to (inr (five, f)) = near_barrier (value_of r) (same_row r (Row.NearBarrier (value_of r)) five refl) f

    back : JobRow r s → accept_job s ≡ refusal r
    back (of_reading w) = (job_exactly s (number_of r) (value_of r)).1 (inl ((read_exactly s r b).1 w))
    back (near_barrier index e f) = (job_exactly s 5 index).1 (inr (refl, f)) ∙ ap refusal (sym e)
