-- Lists of named hazards, one put in or taken out: which are then in them, how many, and that no two have the same name.
-- Assumes nothing.
use Rattle.std.specs.Prelude.{if◌then◌else◌}
use Prim.Native.Nat.{ℕ, suc, ◌+◌, ◌≤◌}
use native.Mathlib.Omega.{arith}
use mathlib.Core.Path.{◌≡◌, refl, sym, ap, subst, ◌∙◌}
use mathlib.Core.Logic.{◌⊎◌, inl, inr, ◌↔◌, ⊎_elim}
use mathlib.Core.Bool.{Bool, true, false, ◌||◌, not, false≢true}
use mathlib.Core.List.Memᴰ
use mathlib.Core.List.{List, [], ◌∷◌, ◌++◌, map, Memᴰ}
use lib.ListN.{length, take, drop, get_or, take-append-drop}
use lib.Dec.{eqb}
use borrow.Author.Tests.{eq-eqb, ne_eqb, eqb-true}
use Rattle.base.specs.Choice.{some_of, filter}
use Rattle.base.proofs.TestLaws.{any_elim, filter_elim, filter_intro}
use Rattle.std.proofs.lemmas.Bool.{cases_Bool}
use Rattle.job.specs.declared.Header.{Header}
use Rattle.job.specs.declared.Hazard.{Hazard}
use Rattle.job.specs.declared.NamedHazard.{NamedHazard}
use Rattle.job.specs.Job.{unnamed}
use Rattle.job.specs.Reply.{unused}
use Rattle.open_memory.specs.Memory.{stands, hazard_under, inserted, without}
use Rattle.open_memory.specs.Steps.{rank}
use Rattle.open_memory.proofs.RuleLaws.{Stand}
use Rattle.open_memory.proofs.PlaceLaws.{standing_named, other_name, none_below, inserted_at}

-- Which hazards

put_which : (xs ys : List NamedHazard) (p x : NamedHazard) → Memᴰ x (xs ++ p ∷ ys) ↔ ((x ≡ p) ⊎ Memᴰ x (xs ++ ys))
put_which xs ys p x = (
  λ m. ⊎_elim (λ k. inr (Memᴰ.append_left ys k)) (λ k. ⊎_elim inl (λ l. inr (Memᴰ.append_right xs l)) (Memᴰ.cases_cons k)) (Memᴰ.append_cases xs m),
  λ w. ⊎_elim (λ e. Memᴰ.append_right xs (Memᴰ.head e))
      (λ m. ⊎_elim (λ k. Memᴰ.append_left (p ∷ ys) k) (λ k. Memᴰ.append_right xs (Memᴰ.tail k)) (Memᴰ.append_cases xs m)) w,
)

-- A hazard whose name does not stand, put in at its place.
pub inserted_which : (p x : NamedHazard) (ps : List NamedHazard) → stands p.name ps ≡ false → Memᴰ x (inserted p ps) ↔ ((x ≡ p) ⊎ Memᴰ x ps)
inserted_which p x ps fresh = let n = rank p.name ps in rw (inserted_at p ps fresh) (rw (take-append-drop n ps) at (put_which (take n ps) (drop n ps) p x))

pub without_cases : (name : ℕ) (x : NamedHazard) (ps : List NamedHazard) → Memᴰ x (without name ps) → Memᴰ x ps × (x.name ≡ name → ⊥)
unfolding without
without_cases name x ps m =
    let w = filter_elim (λ (p : NamedHazard). not (eqb p.name name)) ps m in
    (w.0, λ same. absurd (false≢true (rw (eq-eqb x.name name same) at w.1)))

pub without_other : (name : ℕ) (x : NamedHazard) (ps : List NamedHazard) → Memᴰ x ps → (x.name ≡ name → ⊥) → Memᴰ x (without name ps)
unfolding without
without_other name x ps m differ = filter_intro (λ (p : NamedHazard). not (eqb p.name name)) m (rw (ne_eqb x.name name differ))

-- The same without their names.
pub unnamed_among : {ps qs : List NamedHazard} → ((p : NamedHazard) → Memᴰ p ps → Memᴰ p qs) → (z : Hazard) → Memᴰ z (map unnamed ps)
    → Memᴰ z (map unnamed qs)
unnamed_among {ps} {qs} among z m = let w = Memᴰ.of_map unnamed ps m in
    subst (λ (y : Hazard). Memᴰ y (map unnamed qs)) w.2 (Memᴰ.map unnamed (among w.0 w.1))

-- Which names

-- A name stands exactly if a hazard has it.
pub stands_which : (name : ℕ) (ps : List NamedHazard) → stands name ps ≡ true → (p : NamedHazard) × Memᴰ p ps × (p.name ≡ name)
unfolding stands
stands_which name ps e = let w = any_elim (λ (p : NamedHazard). eqb p.name name) ps e in (w.one, w.member, eqb-true _ _ w.passes)

pub stands_none : (name : ℕ) (ps : List NamedHazard) → ((p : NamedHazard) → Memᴰ p ps → p.name ≡ name → ⊥) → stands name ps ≡ false
stands_none name ps none = go (cases_Bool (stands name ps))
  where
    go : (stands name ps ≡ true) ⊎ (stands name ps ≡ false) → stands name ps ≡ false
    go (inr f) = f
    go (inl t) = let w = stands_which name ps t in absurd (none w.0 w.1 w.2)

-- The same hazards have the same names.
pub stands_alike : (name : ℕ) (ps qs : List NamedHazard) → ((p : NamedHazard) → Memᴰ p ps ↔ Memᴰ p qs) → stands name ps ≡ stands name qs
stands_alike name ps qs same = go (cases_Bool (stands name qs))
  where
    go : (stands name qs ≡ true) ⊎ (stands name qs ≡ false) → stands name ps ≡ stands name qs
    go (inl t) = let w = stands_which name qs t in (rw w.2 at (standing_named ((same w.0).1 w.1))) ∙ sym t
    go (inr f) = stands_none name ps (λ p m. other_name name qs p f ((same p).0 m)) ∙ sym f

-- The hazard under a name that stands is one of them, and has the name.
pub under_which : (name : ℕ) (ps : List NamedHazard) → stands name ps ≡ true → Memᴰ (hazard_under name ps) ps × ((hazard_under name ps).name ≡ name)
unfolding hazard_under stands some_of filter
under_which name [] e = absurd (false≢true e)
under_which name (p ∷ ps) e = go (eqb p.name name) refl e (under_which name ps)
  where
    go : (b : Bool) → eqb p.name name ≡ b → (b || stands name ps) ≡ true
        → (stands name ps ≡ true → Memᴰ (hazard_under name ps) ps × ((hazard_under name ps).name ≡ name))
        → Memᴰ (get_or (if b then p ∷ filter (λ (q : NamedHazard). eqb q.name name) ps else filter (λ (q : NamedHazard). eqb q.name name) ps) 0 unused)
        (p ∷ ps)
        × ((get_or (if b then p ∷ filter (λ (q : NamedHazard). eqb q.name name) ps else filter (λ (q : NamedHazard). eqb q.name name) ps) 0 unused).name
        ≡ name)
    go true q f r = (Memᴰ.head refl, eqb-true _ _ q)
    go false q f r = let w = r f in (Memᴰ.tail w.0, w.1)

-- The names of some of the hazards are no others.
pub stands_fewer : (name : ℕ) (ps qs : List NamedHazard) → ((p : NamedHazard) → Memᴰ p qs → Memᴰ p ps) → stands name ps ≡ false
    → stands name qs ≡ false
stands_fewer name ps qs among fresh = stands_none name qs (λ p m. other_name name ps p fresh (among p m))

pub without_stands : (name : ℕ) (ps : List NamedHazard) → stands name (without name ps) ≡ false
without_stands name ps = stands_none name (without name ps) (λ p m. (without_cases name p ps m).1)

pub none_taken : (name : ℕ) (ps : List NamedHazard) → stands name ps ≡ false → without name ps ≡ ps
unfolding without filter
none_taken name [] e = refl
none_taken name (p ∷ ps) e = rw (ne_eqb p.name name (other_name name (p ∷ ps) p e (Memᴰ.head refl)))
    (ap (◌∷◌ p) (none_taken name ps (stands_fewer name (p ∷ ps) ps (λ x m. Memᴰ.tail m) e)))

-- Names by which no two hazards stand

abbrev pub Distinct : List NamedHazard → Type 0
Distinct [] = Unit {0}
Distinct (p ∷ ps) = (stands p.name ps ≡ false) × Distinct ps

pub stand_distinct : (h : Header) (low : ℕ) (ps : List NamedHazard) → Stand h low ps → Distinct ps
stand_distinct h low [] t = tt
stand_distinct h low (p ∷ ps) t = (none_below h (p.name + 1) p.name ps t.3 (omega arith), stand_distinct h (p.name + 1) ps t.3)

pub distinct_alone : (ps : List NamedHazard) → Distinct ps → (p q : NamedHazard) → Memᴰ p ps → Memᴰ q ps → q.name ≡ p.name → q ≡ p
distinct_alone [] d p q m k e = absurd (Memᴰ.not-nil m)
distinct_alone (x ∷ xs) d p q m k e = go (Memᴰ.cases_cons m) (Memᴰ.cases_cons k) (λ a b. distinct_alone xs d.1 p q a b e)
  where
    go : (p ≡ x) ⊎ Memᴰ p xs → (q ≡ x) ⊎ Memᴰ q xs → (Memᴰ p xs → Memᴰ q xs → q ≡ p) → q ≡ p
    go (inl a) (inl b) r = b ∙ sym a
    go (inl a) (inr b) r = absurd (other_name x.name xs q d.0 b (e ∙ ap (λ (y : NamedHazard). y.name) a))
    go (inr a) (inl b) r = absurd (other_name x.name xs p d.0 a (sym e ∙ ap (λ (y : NamedHazard). y.name) b))
    go (inr a) (inr b) r = r a b

pub distinct_more : (past : List NamedHazard) (p : NamedHazard) → Distinct past → stands p.name past ≡ false → Distinct (past ++ p ∷ [])
unfolding stands some_of
distinct_more [] p d e = (refl, tt)
distinct_more (q ∷ qs) p d e =
    (stands_none q.name (qs ++ p ∷ []) there, distinct_more qs p d.1 (stands_fewer p.name (q ∷ qs) qs (λ x m. Memᴰ.tail m) e))
  where
    there : (x : NamedHazard) → Memᴰ x (qs ++ p ∷ []) → x.name ≡ q.name → ⊥
    there x m same =
        ⊎_elim (λ k. other_name q.name qs x d.0 k same)
        (λ k. other_name p.name (q ∷ qs) q e (Memᴰ.head refl) (sym same ∙ ap (λ (y : NamedHazard). y.name) (Memᴰ.eq_of_singleton k)))
        (Memᴰ.append_cases qs m)

pub distinct_less : (name : ℕ) (ps : List NamedHazard) → Distinct ps → Distinct (without name ps)
unfolding without filter
distinct_less name [] d = tt
distinct_less name (p ∷ ps) d = go (eqb p.name name) (distinct_less name ps d.1)
  where
    go : (b : Bool) → Distinct (without name ps) → Distinct (if not b then p ∷ without name ps else without name ps)
    go true r = r
    go false r = (stands_fewer p.name ps (without name ps) (λ x m. (without_cases name x ps m).0) d.0, r)

-- How many

pub without_length : (name : ℕ) (ps : List NamedHazard) → length (without name ps) ≤ length ps
unfolding without filter
without_length name [] = omega arith
without_length name (p ∷ ps) = go (eqb p.name name) (without_length name ps)
  where
    go : (b : Bool) → length (without name ps) ≤ length ps → length (if not b then p ∷ without name ps else without name ps) ≤ suc (length ps)
    go true r = omega arith
    go false r = omega arith

-- One hazard less, where the name stands.
pub one_less : (name : ℕ) (ps : List NamedHazard) → Distinct ps → stands name ps ≡ true → suc (length (without name ps)) ≡ length ps
unfolding without filter stands some_of
one_less name [] d e = absurd (false≢true e)
one_less name (p ∷ ps) d e = go (eqb p.name name) refl e (one_less name ps d.1)
  where
    go : (b : Bool) → eqb p.name name ≡ b → (b || stands name ps) ≡ true → (stands name ps ≡ true → suc (length (without name ps)) ≡ length ps)
        → suc (length (if not b then p ∷ without name ps else without name ps)) ≡ suc (length ps)
    go true q f r = ap (λ (l : List NamedHazard). suc (length l)) (none_taken name ps (ap (λ (n : ℕ). stands n ps) (sym (eqb-true _ _ q)) ∙ d.0))
    go false q f r = ap suc (r f)
