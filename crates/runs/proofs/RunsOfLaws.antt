-- The run list of a level: made by stretches put in front, its members are the level's longest stretches, and it is the only one.
-- Assumes nothing.
use Rattle.std.proofs.Common.{◌≡◌, ℕ, ◌-◌, ◌<◌, ◌≤◌, ◌≢◌, ◌⊎◌, List, [], ◌∷◌, sym, refl, ap, ◌∙◌, subst, inl, inr, arith}
use native.Mathlib.Decide.{dec_lt}
use mathlib.Core.List.Memᴰ
use mathlib.Core.List.{Memᴰ}
use Rattle.base.proofs.ListLaws.{cons_each}
use Rattle.runs.specs.declared.Stretch.{Stretch}
use Rattle.runs.specs.Level.{Has}
use Rattle.runs.specs.RunList.{IsRun, shown_level, MayFollow, Rising, RunsOf}
use Rattle.base.proofs.OrderLaws.{le_of_not_lt}
use Rattle.runs.proofs.RunLaws.{rising_back, shown_in, shown_before, shown_after, shown_zero, not_shown, shown_run}

-- From e on, where level v ended, the runs show f.
pub record RunsFrom (f : ℕ → ℕ) (e v : ℕ) (rs : List Stretch) : Type 0 where
  pub rising : Rising e v rs
  pub shows : (t : ℕ) → e ≤ t → shown_level rs t ≡ f t

-- 1. Runs made from the last to the first.

module _ {f : ℕ → ℕ} {rs : List Stretch} where
  -- A stretch of one level, in front.
  pub runs_cons : (r : Stretch) (v : ℕ) → MayFollow r.start v r → ((t : ℕ) → Has r t → r.level ≡ f t) → RunsFrom f r.end r.level rs
      → RunsFrom f r.start v (r ∷ rs)
  runs_cons r v n flat s = record { rising = (n, s.rising); shows = λ t h. at t h (dec_lt t r.end) }
    where
      at : (t : ℕ) → r.start ≤ t → Dec (t < r.end) → shown_level (r ∷ rs) t ≡ f t
      at t h (yes k) = shown_in r rs t h k ∙ flat t (h, k)
      at t h (no k) = shown_after r rs t (omega arith) ∙ s.shows t (omega arith)

  -- A stretch of level 0, left out.
  pub runs_skip : (e v p w : ℕ) → p ≤ e → (p ≡ e → w ≡ 0) → ((t : ℕ) → p ≤ t → t < e → f t ≡ 0) → RunsFrom f e v rs → RunsFrom f p w rs
  runs_skip e v p w l z none s = record { rising = rising_back e v p w rs s.rising l z; shows = λ t h. at t h (dec_lt t e) }
    where
      at : (t : ℕ) → p ≤ t → Dec (t < e) → shown_level rs t ≡ f t
      at t h (yes k) = shown_zero e v rs s.rising t k ∙ sym (none t h k)
      at t h (no k) = s.shows t (omega arith)

  pub runs_all : (e v : ℕ) → ((t : ℕ) → t < e → f t ≡ 0) → RunsFrom f e v rs → RunsOf f rs
  runs_all e v none s =
      let w = runs_skip e v 0 0 (omega arith) (λ _. refl) (λ t _ k. none t k) s in
      record { rising = w.rising; shows = λ t. w.shows t (omega arith) }

  -- The runs after the first.
  pub runs_rest : (e v : ℕ) (r : Stretch) → RunsFrom f e v (r ∷ rs) → RunsFrom f r.end r.level rs
  runs_rest e v r s =
      let n = s.rising.0 in
      record { rising = s.rising.1; shows = λ t h. sym (shown_after r rs t h) ∙ s.shows t (omega (arith, n.after, n.long)) }

-- 2. Members and longest stretches.

-- A member is a longest stretch of its level.
member_run : {f : ℕ → ℕ} (e v : ℕ) (rs : List Stretch) → RunsFrom f e v rs → (0 < e → f (e - 1) ≡ v) → (r : Stretch) → Memᴰ r rs → IsRun f r
member_run e v [] s last = λ r m. absurd (Memᴰ.not-nil m)
member_run {f} e v (x ∷ xs) s last =
    cons_each (IsRun f) first (member_run x.end x.level xs rest (λ _. flat (x.end - 1) (omega (arith, n.long), omega (arith, n.long))))
  where
    n : MayFollow e v x
    n = s.rising.0

    rest : RunsFrom f x.end x.level xs
    rest = runs_rest e v x s

    flat : (t : ℕ) → Has x t → f t ≡ x.level
    flat t h = sym (s.shows t (omega (arith, n.after, h.0))) ∙ shown_in x xs t h.0 h.1

    starts : 0 < x.start → Dec (e < x.start) → f (x.start - 1) ≢ x.level
    starts p (yes l) q =
        let z = shown_before x xs (x.start - 1) (omega arith) ∙ shown_zero x.end x.level xs rest.rising (x.start - 1) (omega (arith, n.long)) in
        omega (arith, n.low, q, z, s.shows (x.start - 1) (omega arith))
    starts p (no l) q =
        let same : e ≡ x.start = omega (arith, n.after) in
        n.differs same (sym (last (omega arith)) ∙ ap (λ (t : ℕ). f (t - 1)) same ∙ q)

    first : IsRun f x
    first = record {
      long = n.long;
      above = n.low;
      one_level = flat;
      starts = λ p. starts p (dec_lt e x.start);
      ends = λ q. not_shown x.end x.level xs rest.rising n.low (rest.shows x.end (omega arith) ∙ q);
    }

pub stretch_path : (r s : Stretch) → r.start ≡ s.start → r.end ≡ s.end → r.level ≡ s.level → r ≡ s
stretch_path r s p q w = λ i. record { start = p i; end = q i; level = w i }

-- Two longest stretches of one level that have a common millimetre are one: neither reaches further.
run_within : {f : ℕ → ℕ} (r s : Stretch) (t : ℕ) → IsRun f r → IsRun f s → Has r t → Has s t → r.level ≡ s.level → (s.start ≤ r.start) × (r.end ≤ s.end)
run_within r s t p q h k l = (
  le_of_not_lt (λ a. q.starts (omega arith) (p.one_level (s.start - 1) (omega arith, omega (arith, h.1, k.0)) ∙ l)),
  le_of_not_lt (λ a. q.ends (p.one_level s.end (omega (arith, h.0, k.1), a) ∙ l)),
)

run_same : {f : ℕ → ℕ} (r s : Stretch) (t : ℕ) → IsRun f r → IsRun f s → Has r t → Has s t → r.level ≡ s.level → r ≡ s
run_same r s t p q h k l =
    let a = run_within r s t p q h k l in
    let b = run_within s r t q p k h (sym l) in
    stretch_path r s (omega (arith, a.0, b.0)) (omega (arith, a.1, b.1)) l

-- The members of the run list of a level are its runs.
module _ (f : ℕ → ℕ) (rs : List Stretch) (of : RunsOf f rs) where
  pub member→run : (r : Stretch) → Memᴰ r rs → IsRun f r
  member→run = member_run 0 0 rs (record { rising = of.rising; shows = λ t _. of.shows t }) (λ p. absurd (omega arith))

  pub run→member : (r : Stretch) → IsRun f r → Memᴰ r rs
  run→member r p =
      let here = of.shows r.start ∙ p.one_level r.start (omega arith, p.long) in
      let w = shown_run rs r.start (omega (arith, here, p.above)) in
      let m = subst (Memᴰ w.run) (sym w.split) (Memᴰ.append_right w.before (Memᴰ.head refl)) in
      let e : r ≡ w.run = run_same r w.run r.start p (member→run w.run m) (omega arith, p.long) w.has (sym here ∙ w.level) in
      subst (λ (x : Stretch). Memᴰ x rs) (sym e) m

-- 3. It is the only one.

member_after : (e v : ℕ) (rs : List Stretch) → Rising e v rs → (r : Stretch) → Memᴰ r rs → e ≤ r.start
member_after e v [] h = λ r m. absurd (Memᴰ.not-nil m)
member_after e v (x ∷ xs) h =
    cons_each (λ r. e ≤ r.start) h.0.after (λ r m. omega (arith, h.0.after, h.0.long, member_after x.end x.level xs h.1 r m))

-- Without a common first run the members of one list are still members of the other.
same_rest : (e v : ℕ) (r s : Stretch) (rs ss : List Stretch) → Rising e v (r ∷ rs) → r ≡ s → ((x : Stretch) → Memᴰ x (r ∷ rs) → Memᴰ x (s ∷ ss))
    → (x : Stretch) → Memᴰ x rs → Memᴰ x ss
same_rest e v r s rs ss h same to x m = go (Memᴰ.cases_cons (to x (Memᴰ.tail m)))
  where
    go : (x ≡ s) ⊎ Memᴰ x ss → Memᴰ x ss
    go (inl q) = absurd (omega (arith, member_after r.end r.level rs h.1 x m, h.0.long, ap (λ (y : Stretch). y.start) (q ∙ sym same)))
    go (inr k) = k

-- Rising lists with the same members are equal.
members_same : (e v e' v' : ℕ) (rs ss : List Stretch) → Rising e v rs → Rising e' v' ss → ((x : Stretch) → Memᴰ x rs → Memᴰ x ss)
    → ((x : Stretch) → Memᴰ x ss → Memᴰ x rs) → rs ≡ ss
members_same e v e' v' [] [] h k to from = refl
members_same e v e' v' [] (s ∷ ss) h k to from = absurd (Memᴰ.not-nil (from s (Memᴰ.head refl)))
members_same e v e' v' (r ∷ rs) [] h k to from = absurd (Memᴰ.not-nil (to r (Memᴰ.head refl)))
members_same e v e' v' (r ∷ rs) (s ∷ ss) h k to from =
    λ i. first i ∷ members_same r.end r.level s.end s.level rs ss h.1 k.1 (same_rest e v r s rs ss h first to)
    (same_rest e' v' s r ss rs k (sym first) from) i
  where
    go : (r ≡ s) ⊎ Memᴰ r ss → (s ≡ r) ⊎ Memᴰ s rs → r ≡ s
    go (inl q) w = q
    go (inr m) (inl q) = sym q
    go (inr m) (inr o) =
        absurd (omega (arith, h.0.long, k.0.long, member_after s.end s.level ss k.1 r m, member_after r.end r.level rs h.1 s o))

    first : r ≡ s
    first = go (Memᴰ.cases_cons (to r (Memᴰ.head refl))) (Memᴰ.cases_cons (from s (Memᴰ.head refl)))

pub runs_of_unique : {f : ℕ → ℕ} (rs ss : List Stretch) → RunsOf f rs → RunsOf f ss → rs ≡ ss
runs_of_unique {f} rs ss p q =
    members_same 0 0 0 0 rs ss p.rising q.rising (λ r m. run→member f ss q r (member→run f rs p r m)) (λ r m. run→member f rs p r (member→run f ss q r m))
