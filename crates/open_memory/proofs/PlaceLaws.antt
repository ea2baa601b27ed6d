-- Hazards put in and taken out: the rules are kept, and which then stand.
-- Assumes nothing.
use Rattle.std.specs.Prelude.{if◌then◌else◌}
use Prim.Native.Nat.{ℕ, suc, ◌+◌, ◌≤◌, ◌<◌}
use native.Mathlib.Omega.{arith}
use native.Mathlib.Decide.{dec_lt, ℕ_discrete}
use mathlib.Core.Path.{◌≡◌, refl, sym, ap}
use mathlib.Core.Bool.{Bool, true, false, ◌||◌, not, false≢true}
use mathlib.Core.List.{List, [], ◌∷◌, Memᴰ}
use lib.ListN.{length, get_or}
use lib.Dec.{ltb, eqb}
use borrow.Author.Tests.{lt-ltb, le-ltb, eq-eqb, ne_eqb}
use Rattle.base.specs.Choice.{some_of, filter}
use Rattle.base.proofs.TestLaws.{any_intro}
use Rattle.std.proofs.lemmas.Bool.{both_ways}
use Rattle.job.specs.declared.Header.{Header}
use Rattle.job.specs.declared.NamedHazard.{NamedHazard}
use Rattle.job.specs.Job.{unnamed}
use Rattle.job.specs.Reply.{unused}
use Rattle.open_memory.specs.Memory.{greatest_name, stands, hazard_under, inserted, without}
use Rattle.open_memory.specs.Steps.{rank, put_at, taken_at}
use Rattle.open_memory.proofs.RuleLaws.{Admitted, Stand}

-- Names

-- A name stands exactly if a hazard with it does.
pub standing_named : {q : NamedHazard} {ps : List NamedHazard} → Memᴰ q ps → stands q.name ps ≡ true
unfolding stands
standing_named {q} m = any_intro (λ (p : NamedHazard). eqb p.name q.name) m (eq-eqb q.name q.name refl)

pub other_name : (name : ℕ) (ps : List NamedHazard) (q : NamedHazard) → stands name ps ≡ false → Memᴰ q ps → q.name ≡ name → ⊥
unfolding stands
other_name name ps q e m same = both_ways _ e (any_intro (λ (p : NamedHazard). eqb p.name name) m (eq-eqb q.name name same))

stands_here : (name : ℕ) (p : NamedHazard) (ps : List NamedHazard) → stands name (p ∷ ps) ≡ false → (p.name ≡ name → ⊥) × (stands name ps ≡ false)
unfolding stands some_of
stands_here name p ps e = go (eqb p.name name) refl e
  where
    go : (b : Bool) → eqb p.name name ≡ b → (b || some_of (λ (q : NamedHazard). eqb q.name name) ps) ≡ false
        → (p.name ≡ name → ⊥) × (some_of (λ (q : NamedHazard). eqb q.name name) ps ≡ false)
    go true q f = absurd (false≢true (sym f))
    go false q f = ((λ same. both_ways _ q (eq-eqb p.name name same)), f)

-- Rising names

stand_from : (h : Header) (low high : ℕ) (ps : List NamedHazard) → low ≤ high → Stand h high ps → Stand h low ps
stand_from h low high [] l t = tt
stand_from h low high (p ∷ ps) l t = (omega (arith, t.0), t.1, t.2, t.3)

-- A name below all of them does not stand, and its place is the first.
pub none_below : (h : Header) (low name : ℕ) (ps : List NamedHazard) → Stand h low ps → name < low → stands name ps ≡ false
unfolding stands some_of
none_below h low name [] t l = refl
none_below h low name (p ∷ ps) t l = rw (ne_eqb p.name name (λ e. omega (arith, t.0))) (none_below h (p.name + 1) name ps t.3 (omega (arith, t.0)))

all_kept : (h : Header) (low name : ℕ) (ps : List NamedHazard) → Stand h low ps → name < low → without name ps ≡ ps
unfolding without filter
all_kept h low name [] t l = refl
all_kept h low name (p ∷ ps) t l =
    rw (ne_eqb p.name name (λ e. omega (arith, t.0))) (ap (◌∷◌ p) (all_kept h (p.name + 1) name ps t.3 (omega (arith, t.0))))

-- The place of a name

pub rank_most : (name : ℕ) (ps : List NamedHazard) → rank name ps ≤ length ps
unfolding rank
rank_most name [] = omega arith
rank_most name (p ∷ ps) = go (ltb p.name name) (rank_most name ps)
  where
    go : (b : Bool) → rank name ps ≤ length ps → (if b then suc (rank name ps) else 0) ≤ suc (length ps)
    go true l = omega arith
    go false l = omega arith

-- A name that does not stand is put in at its place.
pub inserted_at : (p : NamedHazard) (ps : List NamedHazard) → stands p.name ps ≡ false → inserted p ps ≡ put_at (rank p.name ps) p ps
unfolding inserted rank
inserted_at p [] e = refl
inserted_at p (q ∷ qs) e = go (dec_lt q.name p.name) (inserted_at p qs)
  where
    differ : (q.name ≡ p.name → ⊥) × (stands p.name qs ≡ false)
    differ = stands_here p.name q qs e

    go : Dec (q.name < p.name) → (stands p.name qs ≡ false → inserted p qs ≡ put_at (rank p.name qs) p qs)
        → (if ltb p.name q.name then p ∷ q ∷ qs else q ∷ inserted p qs)
        ≡ put_at (if ltb q.name p.name then suc (rank p.name qs) else 0) p (q ∷ qs)
    go (yes l) r = rw (le-ltb p.name q.name (omega arith), lt-ltb q.name p.name l) (ap (◌∷◌ q) (r differ.1))
    go (no l) r = rw (lt-ltb p.name q.name (let apart = differ.0 in omega arith), le-ltb q.name p.name (omega arith))

module _ (h : Header) (name : ℕ) (d : NamedHazard) where
  -- Whether a hazard at the name's place has it.
  abbrev AtPlace : List NamedHazard → Type 0
  AtPlace ps = (rank name ps < length ps) × ((get_or ps (rank name ps) d).name ≡ name)

  pub stands_place : (low : ℕ) (ps : List NamedHazard) → Stand h low ps → AtPlace ps → stands name ps ≡ true
  unfolding rank stands some_of
  stands_place low [] t w = absurd (omega (arith, w.0))
  stands_place low (p ∷ ps) t w = go (dec_lt p.name name) w (stands_place (p.name + 1) ps t.3)
    where
      go : Dec (p.name < name) → (((if ltb p.name name then suc (rank name ps) else 0) < suc (length ps))
          × ((get_or (p ∷ ps) (if ltb p.name name then suc (rank name ps) else 0) d).name ≡ name))
          → (AtPlace ps → some_of (λ (q : NamedHazard). eqb q.name name) ps ≡ true)
          → (eqb p.name name || some_of (λ (q : NamedHazard). eqb q.name name) ps) ≡ true
      go (yes l) v r = let u = rw (lt-ltb p.name name l) at v in rw (ne_eqb p.name name (λ e. omega arith)) (r (omega (arith, u.0), u.1))
      go (no l) v r = let u = rw (le-ltb p.name name (omega arith)) at v in rw (eq-eqb p.name name u.1)

  pub not_at_place : (low : ℕ) (ps : List NamedHazard) → Stand h low ps → (AtPlace ps → ⊥) → stands name ps ≡ false
  unfolding rank stands some_of
  not_at_place low [] t w = refl
  not_at_place low (p ∷ ps) t w = go (dec_lt p.name name) w (not_at_place (p.name + 1) ps t.3)
    where
      go : Dec (p.name < name) → ((((if ltb p.name name then suc (rank name ps) else 0) < suc (length ps))
          × ((get_or (p ∷ ps) (if ltb p.name name then suc (rank name ps) else 0) d).name ≡ name)) → ⊥)
          → ((AtPlace ps → ⊥) → some_of (λ (q : NamedHazard). eqb q.name name) ps ≡ false)
          → (eqb p.name name || some_of (λ (q : NamedHazard). eqb q.name name) ps) ≡ false
      go (yes l) v r = let u = rw (lt-ltb p.name name l) at v in rw (ne_eqb p.name name (λ e. omega arith)) (r (λ k. u (omega (arith, k.0), k.1)))
      go (no l) v r =
          let u = rw (le-ltb p.name name (omega arith)) at v in
          let apart : p.name ≡ name → ⊥ = λ e. u (omega arith, e) in
          rw (ne_eqb p.name name apart) (none_below h (p.name + 1) name ps t.3 (omega arith))

-- A name that stands is taken out at its place.
module _ (h : Header) (name : ℕ) where
  pub without_at_lem : (low : ℕ) (ps : List NamedHazard) → Stand h low ps → stands name ps ≡ true → without name ps ≡ taken_at (rank name ps) ps
  unfolding rank stands some_of without filter
  without_at_lem low [] t e = absurd (false≢true e)
  without_at_lem low (p ∷ ps) t e = go (dec_lt p.name name) (ℕ_discrete p.name name) (without_at_lem (p.name + 1) ps t.3) e
    where
      go : Dec (p.name < name) → Dec (p.name ≡ name)
          → (some_of (λ (q : NamedHazard). eqb q.name name) ps ≡ true → without name ps ≡ taken_at (rank name ps) ps)
          → (eqb p.name name || some_of (λ (q : NamedHazard). eqb q.name name) ps) ≡ true
          → (if not (eqb p.name name) then p ∷ without name ps else without name ps)
          ≡ taken_at (if ltb p.name name then suc (rank name ps) else 0) (p ∷ ps)
      go (yes l) s r f =
          let apart : eqb p.name name ≡ false = ne_eqb p.name name (λ q. omega arith) in
          rw (apart, lt-ltb p.name name l) (ap (◌∷◌ p) (r (rw apart at f)))
      go (no l) (yes s) r f = rw (eq-eqb p.name name s, le-ltb p.name name (omega arith)) (all_kept h (p.name + 1) name ps t.3 (omega arith))
      go (no l) (no s) r f =
          let apart = ne_eqb p.name name s in
          absurd (both_ways _ (none_below h (p.name + 1) name ps t.3 (omega arith)) (rw apart at f))

  pub rank_within : (low : ℕ) (ps : List NamedHazard) → Stand h low ps → stands name ps ≡ true → rank name ps < length ps
  unfolding rank stands some_of
  rank_within low [] t e = absurd (false≢true e)
  rank_within low (p ∷ ps) t e = go (dec_lt p.name name) (rank_within (p.name + 1) ps t.3) e
    where
      go : Dec (p.name < name) → (some_of (λ (q : NamedHazard). eqb q.name name) ps ≡ true → rank name ps < length ps)
          → (eqb p.name name || some_of (λ (q : NamedHazard). eqb q.name name) ps) ≡ true
          → (if ltb p.name name then suc (rank name ps) else 0) < suc (length ps)
      go (yes l) r f =
          let within = r (rw (ne_eqb p.name name (λ q. omega arith)) at f) in
          rw (lt-ltb p.name name l) (omega arith)
      go (no l) r f = rw (le-ltb p.name name (omega arith)) (omega arith)

  -- The hazard under a name that stands is the one at its place.
  pub under_at : (low : ℕ) (ps : List NamedHazard) → Stand h low ps → stands name ps ≡ true → hazard_under name ps ≡ get_or ps (rank name ps) unused
  unfolding rank stands some_of hazard_under filter
  under_at low [] t e = absurd (false≢true e)
  under_at low (p ∷ ps) t e = go (dec_lt p.name name) (ℕ_discrete p.name name) (under_at (p.name + 1) ps t.3) e
    where
      own : NamedHazard → Bool
      own q = eqb q.name name

      go : Dec (p.name < name) → Dec (p.name ≡ name) → (some_of own ps ≡ true → get_or (filter own ps) 0 unused ≡ get_or ps (rank name ps) unused)
          → (eqb p.name name || some_of own ps) ≡ true
          → get_or (if eqb p.name name then p ∷ filter own ps else filter own ps) 0 unused
          ≡ get_or (p ∷ ps) (if ltb p.name name then suc (rank name ps) else 0) unused
      go (yes l) s r f =
          let apart : eqb p.name name ≡ false = ne_eqb p.name name (λ q. omega arith) in
          rw (apart, lt-ltb p.name name l) (r (rw apart at f))
      go (no l) (yes s) r f = rw (eq-eqb p.name name s, le-ltb p.name name (omega arith))
      go (no l) (no s) r f =
          let apart = ne_eqb p.name name s in
          absurd (both_ways _ (none_below h (p.name + 1) name ps t.3 (omega arith)) (rw apart at f))

-- Putting in keeps the rules

pub inserted_stand : (h : Header) (low : ℕ) (p : NamedHazard) (ps : List NamedHazard) → low ≤ p.name → p.name ≤ greatest_name → Admitted h (unnamed p)
    → stands p.name ps ≡ false → Stand h low ps → Stand h low (inserted p ps)
unfolding inserted
inserted_stand h low p [] l top may none t = (l, top, may, tt)
inserted_stand h low p (q ∷ qs) l top may none t =
    go (dec_lt p.name q.name) (λ after fresh. inserted_stand h (q.name + 1) p qs after top may fresh t.3)
  where
    differ : (q.name ≡ p.name → ⊥) × (stands p.name qs ≡ false)
    differ = stands_here p.name q qs none

    above : (a b : ℕ) → (b < a → ⊥) → (a ≡ b → ⊥) → a + 1 ≤ b
    above a b n m = omega arith

    go : Dec (p.name < q.name) → (q.name + 1 ≤ p.name → stands p.name qs ≡ false → Stand h (q.name + 1) (inserted p qs))
        → Stand h low (if ltb p.name q.name then p ∷ q ∷ qs else q ∷ inserted p qs)
    go (yes d) later = rw (lt-ltb p.name q.name d) (l, top, may, (omega arith, t.1, t.2, t.3))
    go (no d) later =
        let after : q.name + 1 ≤ p.name = above q.name p.name d differ.0 in
        rw (le-ltb p.name q.name (omega arith)) (t.0, t.1, t.2, later after differ.1)

pub inserted_length : (p : NamedHazard) (ps : List NamedHazard) → length (inserted p ps) ≡ suc (length ps)
unfolding inserted
inserted_length p [] = refl
inserted_length p (q ∷ qs) = go (ltb p.name q.name) (inserted_length p qs)
  where
    go : (b : Bool) → length (inserted p qs) ≡ suc (length qs) → length (if b then p ∷ q ∷ qs else q ∷ inserted p qs) ≡ suc (suc (length qs))
    go true e = refl
    go false e = ap suc e

-- So does taking out

pub without_stand : (h : Header) (low name : ℕ) (ps : List NamedHazard) → Stand h low ps → Stand h low (without name ps)
unfolding without filter
without_stand h low name [] t = tt
without_stand h low name (q ∷ qs) t = go (eqb q.name name) (without_stand h (q.name + 1) name qs t.3)
  where
    go : (b : Bool) → Stand h (q.name + 1) (without name qs) → Stand h low (if not b then q ∷ without name qs else without name qs)
    go true r = stand_from h low (q.name + 1) (without name qs) (omega (arith, t.0)) r
    go false r = (t.0, t.1, t.2, r)
