-- 'The hazards added and not withdrawn since', in the paper's words and edit by edit: the same.
-- Assumes nothing.
use Rattle.std.specs.Prelude.{if◌then◌else◌}
use Prim.Native.Nat.{ℕ}
use mathlib.Core.Path.{◌≡◌, refl, sym, ap, ap₂, subst, ◌∙◌}
use mathlib.Core.Logic.{◌⊎◌, inl, inr, ⊎_elim}
use mathlib.Core.Bool.{Bool, true, false}
use mathlib.Core.List.Memᴰ
use mathlib.Core.List.{List, [], ◌∷◌, ◌++◌, foldl, foldl-append, Memᴰ}
use Rattle.base.specs.Answer.{is_accepted}
use Rattle.job.specs.declared.Header.{Header}
use Rattle.job.specs.declared.Hazard.{Hazard}
use Rattle.job.specs.declared.NamedHazard.{NamedHazard}
use Rattle.job.specs.Job.{named, unnamed}
use Rattle.open_job.specs.Calls.{test_add}
use Rattle.open_promises.specs.Lists.{Edit, add, withdraw, Call, stand_after, Added, AddedPromise, CountPromise, added_since, edits_that_count, opened}
use Rattle.open_promises.proofs.HazardLaws.{without_cases, without_other}
use Rattle.open_promises.proofs.ModelLaws.{returned, agree_opened, agree_calls}

-- One edit

-- A hazard that an edit adds.
record Adds (h : Header) (past : List NamedHazard) (c : Edit) (p : NamedHazard) : Type 0 where
  is : c ≡ add p.name (unnamed p)
  not_refused : is_accepted (test_add h past p.name (unnamed p)) ≡ true

-- What stands after it: what stood and is not withdrawn, and what it adds.
abbrev StaysOrComes : Header → List NamedHazard → Edit → NamedHazard → Type 0
StaysOrComes h past c p = (Memᴰ p past × (withdraw p.name ≡ c → ⊥)) ⊎ Adds h past c p

module _ (h : Header) (past : List NamedHazard) (p : NamedHazard) where
  one_to : (c : Edit) → Memᴰ p (stand_after (test_add h) past c) → StaysOrComes h past c p
  unfolding stand_after
  one_to (withdraw name) m = let w = without_cases name p past m in inl (w.0, λ e. w.1 (let same : p.name ≡ name = cc in same))
  one_to (add name z) m = go (is_accepted (test_add h past name z)) refl m
    where
      stays : Memᴰ p past → StaysOrComes h past (add name z) p
      stays k = inl (k, λ e. cc)

      go : (b : Bool) → is_accepted (test_add h past name z) ≡ b → Memᴰ p (if b then past ++ named name z ∷ [] else past)
          → StaysOrComes h past (add name z) p
      go false e k = stays k
      go true e k = ⊎_elim stays (λ (l : Memᴰ p (named name z ∷ [])). inr
          (subst (Adds h past (add name z)) (sym (Memᴰ.eq_of_singleton l)) (record { is = refl; not_refused = e }))) (Memᴰ.append_cases past k)

  one_from : (c : Edit) → StaysOrComes h past c p → Memᴰ p (stand_after (test_add h) past c)
  unfolding stand_after
  one_from (withdraw name) (inl w) = without_other name p past w.0 (λ e. w.1 (ap withdraw e))
  one_from (withdraw name) (inr a) = let e = a.is in cc
  one_from (add name z) (inl w) = go (is_accepted (test_add h past name z))
    where
      go : (b : Bool) → Memᴰ p (if b then past ++ named name z ∷ [] else past)
      go true = Memᴰ.append_left (named name z ∷ []) w.0
      go false = w.0
  one_from (add name z) (inr a) =
      let e = a.is in
      let same : name ≡ p.name = cc in
      let hazard : z ≡ unnamed p = cc in
      rw (ap₂ (λ (n : ℕ) (y : Hazard). is_accepted (test_add h past n y)) same hazard ∙ a.not_refused)
      (Memᴰ.append_right past (Memᴰ.head (sym (ap₂ named same hazard))))

-- A list of edits

abbrev StoodOrAdded : Header → List NamedHazard → List Edit → NamedHazard → Type 0
StoodOrAdded h past cs p = (Memᴰ p past × (Memᴰ (withdraw p.name) cs → ⊥)) ⊎ Added h past cs p

-- One edit before others.
module _ (h : Header) (past : List NamedHazard) (c : Edit) (cs : List Edit) (p : NamedHazard) where
  went : StoodOrAdded h (stand_after (test_add h) past c) cs p → StoodOrAdded h past (c ∷ cs) p
  went (inr a) =
      inr (record { before = c ∷ a.before; since = a.since; split = ap (◌∷◌ c) a.split; not_refused = a.not_refused; not_withdrawn = a.not_withdrawn })
  went (inl w) = go (one_to h past p c w.0)
    where
      go : StaysOrComes h past c p → StoodOrAdded h past (c ∷ cs) p
      go (inl k) = inl (k.0, λ m. ⊎_elim k.1 w.1 (Memᴰ.cases_cons m))
      go (inr k) = inr (record { before = []; since = cs; split = ap (λ (x : Edit). x ∷ cs) k.is; not_refused = k.not_refused; not_withdrawn = w.1 })

  came : StoodOrAdded h past (c ∷ cs) p → StoodOrAdded h (stand_after (test_add h) past c) cs p
  came (inl w) = inl (one_from h past p c (inl (w.0, λ e. w.1 (Memᴰ.head e))), λ k. w.1 (Memᴰ.tail k))
  came (inr a) = go a.before a.split a.not_refused
    where
      go : (before : List Edit) → c ∷ cs ≡ before ++ add p.name (unnamed p) ∷ a.since
          → is_accepted (test_add h (foldl (stand_after (test_add h)) past before) p.name (unnamed p)) ≡ true
          → StoodOrAdded h (stand_after (test_add h) past c) cs p
      go [] e f =
          let first : c ≡ add p.name (unnamed p) = cc in
          let rest : a.since ≡ cs = cc in
          inl (one_from h past p c (inr (record { is = first; not_refused = f })), rw rest at a.not_withdrawn)
      go (b ∷ bs) e f =
          let first : b ≡ c = cc in
          let rest : cs ≡ bs ++ add p.name (unnamed p) ∷ a.since = cc in
          inr (record { before = bs; since = a.since; split = rest; not_refused = rw first at f; not_withdrawn = a.not_withdrawn })

list_to : (h : Header) (past : List NamedHazard) (cs : List Edit) (p : NamedHazard) → Memᴰ p (foldl (stand_after (test_add h)) past cs)
    → StoodOrAdded h past cs p
list_to h past [] p m = inl (m, Memᴰ.not-nil)
list_to h past (c ∷ cs) p m = went h past c cs p (list_to h (stand_after (test_add h) past c) cs p m)

list_from : (h : Header) (past : List NamedHazard) (cs : List Edit) (p : NamedHazard) → StoodOrAdded h past cs p
    → Memᴰ p (foldl (stand_after (test_add h)) past cs)
list_from h past [] p (inl w) = w.0
list_from h past [] p (inr a) = none a.before a.split
  where
    none : (before : List Edit) → [] ≡ before ++ add p.name (unnamed p) ∷ a.since → Memᴰ p past
    none [] e = cc
    none (b ∷ bs) e = cc
list_from h past (c ∷ cs) p s = list_from h (stand_after (test_add h) past c) cs p (came h past c cs p s)

-- The edits that count make the hazards that stand.
abbrev Makes : Header → List NamedHazard → List Edit → Type 0
Makes h past edits = past ≡ foldl (stand_after (test_add h)) [] edits

edits_that_count_lem : (h : Header) (calls : List Call) → Makes h (added_since h calls) (edits_that_count calls)
edits_that_count_lem h calls =
    (agree_calls (Makes h) (stand_after (test_add h)) (λ (edits : List Edit) (e : Edit). edits ++ e ∷ []) (λ e. Unit {0})
    (λ past edits made e u. ap (λ (l : List NamedHazard). stand_after (test_add h) l e) made ∙ sym (foldl-append (stand_after (test_add h)) [] edits (e ∷ [])))
    (opened []) (opened []) (agree_opened (Makes h) refl) calls (λ e m. tt)).present

pub added_promise : AddedPromise
added_promise h calls p = (
  λ m. ⊎_elim (λ w. absurd (Memᴰ.not-nil w.0)) (λ a. a) (list_to h [] (edits_that_count calls) p (rw (edits_that_count_lem h calls) at m)),
  λ a. rw (edits_that_count_lem h calls) (list_from h [] (edits_that_count calls) p (inr a)),
)

pub count_promise : CountPromise
count_promise h before since number most other = returned (stand_after (test_add h)) number (opened []) before since most other
