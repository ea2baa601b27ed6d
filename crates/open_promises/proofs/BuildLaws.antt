-- Calls that make given states from an empty job: hazards added in the order of their names, kept, and withdrawn again.
-- Assumes nothing.
use Rattle.std.specs.Prelude.{if◌then◌else◌}
use Prim.Native.Nat.{ℕ, zero, suc, ◌+◌, ◌≤◌, ◌<◌}
use native.Mathlib.Omega.{arith}
use native.Mathlib.Decide.{ℕ_discrete}
use mathlib.Core.Path.{◌≡◌, refl, sym, ap, subst, ◌∙◌}
use mathlib.Core.Logic.{⊎_elim}
use mathlib.Core.Bool.{false}
use mathlib.Core.List.Memᴰ
use mathlib.Core.List.{List, [], ◌∷◌, ◌++◌, map, foldl, foldl-append, append_assoc, append-nil, Memᴰ}
use lib.ListN.{length, length-append}
use lib.Dec.{eqb}
use borrow.Author.Tests.{lt-leb, le-ltb, eq-eqb, ne_eqb}
use Rattle.base.specs.Choice.{some_of, filter}
use Rattle.job.specs.declared.Header.{Header}
use Rattle.job.specs.declared.NamedHazard.{NamedHazard}
use Rattle.job.specs.Job.{unnamed}
use Rattle.open_memory.specs.Memory.{most_standing, stands, inserted, without}
use Rattle.open_memory.proofs.RuleLaws.{admits, Stand, stand_each}
use Rattle.open_memory.proofs.PlaceLaws.{none_below}
use Rattle.open_promises.specs.Lists.{Edit, add, withdraw, Call, edit, keep_as, Nameable, Kept, nothing, state, States, opened, states_after}
use Rattle.open_promises.proofs.HazardLaws.{none_taken}
use Rattle.open_promises.proofs.StandingLaws.{placed_after}
use Rattle.open_promises.proofs.ModelLaws.{keep_most}

abbrev pub adds : List NamedHazard → List Call
adds ps = map (λ (p : NamedHazard). edit (add p.name (unnamed p))) ps

abbrev withdrawals : List NamedHazard → List Call
withdrawals ps = map (λ (p : NamedHazard). edit (withdraw p.name)) ps

-- A state, kept from an empty job to an empty job; and those below a number.
keep_number : Kept (List NamedHazard) → (number : ℕ) → List Call
keep_number nothing number = []
keep_number (state ps) number = adds ps ++ keep_as number ∷ withdrawals ps

pub keep_below : (what : ℕ → Kept (List NamedHazard)) → ℕ → List Call
keep_below what zero = []
keep_below what (suc n) = keep_below what n ++ keep_number (what n) n

-- What they leave

abbrev pub holding : List NamedHazard → (ℕ → Kept (List NamedHazard)) → States (List NamedHazard)
holding ps kept = record { present = ps; kept = kept }

-- The last name is above the others, and its hazard is put behind theirs.
module _ (h : Header) (p : NamedHazard) (ps : List NamedHazard) where
  above : (low : ℕ) (qs : List NamedHazard) → Stand h low (qs ++ p ∷ ps) → low ≤ p.name
  above low [] t = t.0
  above low (q ∷ qs) t = omega (arith, t.0, above (q.name + 1) qs t.3)

  last_fresh : (low : ℕ) (qs : List NamedHazard) → Stand h low (qs ++ p ∷ ps) → stands p.name qs ≡ false
  unfolding stands some_of
  last_fresh low [] t = refl
  last_fresh low (q ∷ qs) t = rw (ne_eqb q.name p.name (λ e. omega (arith, above (q.name + 1) qs t.3))) (last_fresh (q.name + 1) qs t.3)

  last_inserted : (low : ℕ) (qs : List NamedHazard) → Stand h low (qs ++ p ∷ ps) → inserted p qs ≡ qs ++ p ∷ []
  unfolding inserted
  last_inserted low [] t = refl
  last_inserted low (q ∷ qs) t =
      rw (le-ltb p.name q.name (omega (arith, above (q.name + 1) qs t.3))) (ap (◌∷◌ q) (last_inserted (q.name + 1) qs t.3))

module _ (h : Header) where
  abbrev pub placed_after_all : States (List NamedHazard) → List Call → States (List NamedHazard)
  placed_after_all t calls = foldl (states_after (placed_after h)) t calls

  add_last : (qs : List NamedHazard) (p : NamedHazard) (ps : List NamedHazard) → Stand h 0 (qs ++ p ∷ ps) → length qs < most_standing
      → placed_after h qs (add p.name (unnamed p)) ≡ qs ++ p ∷ []
  unfolding placed_after
  add_last qs p ps t room =
      rw (
        last_fresh h p ps 0 qs t,
        lt-leb most_standing (length qs) room,
        admits h p.name (unnamed p) (stand_each h 0 (qs ++ p ∷ ps) t (Memᴰ.append_right qs (Memᴰ.head refl))),
      ) (last_inserted h p ps 0 qs t)

  withdraw_first : (low : ℕ) (p : NamedHazard) (ps : List NamedHazard) → Stand h low (p ∷ ps) → placed_after h (p ∷ ps) (withdraw p.name) ≡ ps
  unfolding placed_after without filter
  withdraw_first low p ps t = rw (eq-eqb p.name p.name refl) (none_taken p.name ps (none_below h (p.name + 1) p.name ps t.3 (omega arith)))

  module _ (kept : ℕ → Kept (List NamedHazard)) where
    pub adds_leave : (qs ps : List NamedHazard) → Stand h 0 (qs ++ ps) → length qs + length ps ≤ most_standing
        → placed_after_all (holding qs kept) (adds ps) ≡ holding (qs ++ ps) kept
    unfolding states_after
    adds_leave qs [] t few = ap (λ (l : List NamedHazard). holding l kept) (sym (append-nil qs))
    adds_leave qs (p ∷ ps) t few =
        ap (λ (l : List NamedHazard). placed_after_all (holding l kept) (adds ps)) (add_last qs p ps t (omega arith))
        ∙ adds_leave (qs ++ p ∷ []) ps (rw (append_assoc qs (p ∷ []) ps) t) (omega (arith, length-append qs (p ∷ [])))
        ∙ ap (λ (l : List NamedHazard). holding l kept) (append_assoc qs (p ∷ []) ps)

    withdrawals_leave : (low : ℕ) (ps : List NamedHazard) → Stand h low ps → placed_after_all (holding ps kept) (withdrawals ps) ≡ holding [] kept
    unfolding states_after
    withdrawals_leave low [] t = refl
    withdrawals_leave low (p ∷ ps) t =
        ap (λ (l : List NamedHazard). placed_after_all (holding l kept) (withdrawals ps)) (withdraw_first low p ps t) ∙ withdrawals_leave (p.name + 1) ps t.3

-- Each state that is kept, by the rules.
abbrev pub StandKept : Header → Kept (List NamedHazard) → Type 0
StandKept h nothing = Unit {0}
StandKept h (state ps) = Stand h 0 ps × (length ps ≤ most_standing)

pub kept_below : (what : ℕ → Kept (List NamedHazard)) → ℕ → ℕ → Kept (List NamedHazard)
kept_below what zero k = nothing
kept_below what (suc n) k = if eqb n k then what n else kept_below what n k

module _ (h : Header) (what : ℕ → Kept (List NamedHazard)) (rules : (number : ℕ) → StandKept h (what number)) where
  pub kept_others : (n k : ℕ) → n ≤ k → kept_below what n k ≡ nothing
  unfolding kept_below
  kept_others zero k l = refl
  kept_others (suc n) k l = rw (ne_eqb n k (λ q. omega arith)) (kept_others n k (omega arith))

  pub kept_lower : (n k : ℕ) → k < n → kept_below what n k ≡ what k
  unfolding kept_below
  kept_lower zero k l = absurd (omega arith)
  kept_lower (suc n) k l = go (ℕ_discrete n k) (kept_lower n k)
    where
      go : Dec (n ≡ k) → (k < n → kept_below what n k ≡ what k) → (if eqb n k then what n else kept_below what n k) ≡ what k
      go (yes q) r = rw (eq-eqb n k q) (ap what q)
      go (no q) r = rw (ne_eqb n k q) (r (omega arith))

  one_kept : (n : ℕ) (x : Kept (List NamedHazard)) → StandKept h x → n ≤ 7 → (kept : ℕ → Kept (List NamedHazard)) → kept n ≡ nothing
      → placed_after_all h (holding [] kept) (keep_number x n) ≡ holding [] (λ k. if eqb n k then x else kept k)
  unfolding keep_number
  one_kept n nothing r most kept none = λ i. holding [] (λ k. same k (ℕ_discrete n k) i)
    where
      same : (k : ℕ) → Dec (n ≡ k) → kept k ≡ (if eqb n k then nothing else kept k)
      same k (yes q) = rw (eq-eqb n k q) (ap kept (sym q) ∙ none)
      same k (no q) = rw (ne_eqb n k q)
  one_kept n (state ps) r most kept none =
      foldl-append (states_after (placed_after h)) (holding [] kept) (adds ps) (keep_as n ∷ withdrawals ps)
      ∙ ap (λ (t : States (List NamedHazard)). placed_after_all h t (keep_as n ∷ withdrawals ps)) (adds_leave h kept [] ps r.0 (omega (arith, r.1)))
      ∙ ap (λ (t : States (List NamedHazard)). placed_after_all h t (withdrawals ps)) (keep_most (placed_after h) n (holding ps kept) most)
      ∙ withdrawals_leave h (λ k. if eqb n k then state ps else kept k) 0 ps r.0

  pub below_kept : (n : ℕ) → n ≤ 8 → placed_after_all h (opened []) (keep_below what n) ≡ holding [] (kept_below what n)
  unfolding keep_below kept_below
  below_kept zero most = refl
  below_kept (suc n) most =
      foldl-append (states_after (placed_after h)) (opened []) (keep_below what n) (keep_number (what n) n)
      ∙ ap (λ (t : States (List NamedHazard)). placed_after_all h t (keep_number (what n) n)) (below_kept n (omega arith))
      ∙ one_kept n (what n) (rules n) (omega arith) (kept_below what n) (kept_others n n (omega arith))

-- Their edits can be made

abbrev pub CanMake : List Call → Type 0
CanMake cs = (e : Edit) → Memᴰ (edit e) cs → Nameable e

pub can_both : (xs ys : List Call) → CanMake xs → CanMake ys → CanMake (xs ++ ys)
can_both xs ys f g e m = ⊎_elim (f e) (g e) (Memᴰ.append_cases xs m)

pub can_add : (h : Header) (low : ℕ) (ps : List NamedHazard) → Stand h low ps → CanMake (adds ps)
can_add h low [] t e m = absurd (Memᴰ.not-nil m)
can_add h low (p ∷ ps) t e m =
    ⊎_elim (λ (q : edit e ≡ edit (add p.name (unnamed p))). let same : e ≡ add p.name (unnamed p) = cc in subst Nameable (sym same) t.1)
    (can_add h (p.name + 1) ps t.3 e) (Memᴰ.cases_cons m)

can_withdraw : (ps : List NamedHazard) → CanMake (withdrawals ps)
can_withdraw ps e m =
    let w = Memᴰ.of_map (λ (p : NamedHazard). edit (withdraw p.name)) ps m in
    let same : withdraw w.0.name ≡ e = let q = w.2 in cc in
    subst Nameable same tt

can_one : (h : Header) (x : Kept (List NamedHazard)) (n : ℕ) → StandKept h x → CanMake (keep_number x n)
unfolding keep_number
can_one h nothing n r = λ e m. absurd (Memᴰ.not-nil m)
can_one h (state ps) n r =
    can_both (adds ps) (keep_as n ∷ withdrawals ps) (can_add h 0 ps r.0)
    (λ e m. ⊎_elim (λ (q : edit e ≡ keep_as n). cc) (can_withdraw ps e) (Memᴰ.cases_cons m))

pub can_below : (h : Header) (what : ℕ → Kept (List NamedHazard)) → ((number : ℕ) → StandKept h (what number)) → (n : ℕ) → CanMake (keep_below what n)
unfolding keep_below
can_below h what rules zero = λ e m. absurd (Memᴰ.not-nil m)
can_below h what rules (suc n) = can_both (keep_below what n) (keep_number (what n) n) (can_below h what rules n) (can_one h (what n) n (rules n))
