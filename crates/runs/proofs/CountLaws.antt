-- Laws of counting millimetres: those of a stretch, and those whose level in a rising list of runs passes a test.
-- Assumes nothing.
use Rattle.std.proofs.Common.{◌≡◌, ℕ, zero, suc, ◌+◌, ◌-◌, ◌<◌, ◌≤◌, min, max, Bool, true, false, ◌||◌, leb, List, ◌∷◌, sym, refl, ap, ◌∙◌, arith, ltb-true, le-ltb, lt-ltb, le-leb, if◌then◌else◌}
use native.Mathlib.Decide.{dec_lt}
use mathlib.Core.Path.{fun_ext}
use borrow.Author.Tests.{lt-leb}
use Rattle.std.proofs.lemmas.Bool.{and_parts, both_ways}
use Rattle.runs.specs.declared.Stretch.{Stretch}
use Rattle.runs.specs.Level.{has}
use Rattle.runs.specs.RunList.{shown_level, Rising}
use Rattle.runs.specs.Count.{count_from}
use Rattle.runs.proofs.RunLaws.{shown_zero}

pub count_same : (f g : ℕ → Bool) → ((t : ℕ) → f t ≡ g t) → (p n : ℕ) → count_from f p n ≡ count_from g p n
count_same f g e p n = ap (λ (h : ℕ → Bool). count_from h p n) (fun_ext e)

pub count_none : (f : ℕ → Bool) → ((t : ℕ) → f t ≡ false) → (p n : ℕ) → count_from f p n ≡ 0
unfolding count_from
count_none f h p zero = refl
count_none f h p (suc n) = rw (h p) (count_none f h (suc p) n)

-- Two tests that are never both true: their counts add up.
count_or : (f g k : ℕ → Bool) → ((t : ℕ) → k t ≡ (f t || g t)) → ((t : ℕ) → f t ≡ true → g t ≡ false) → (p n : ℕ)
    → count_from k p n ≡ count_from f p n + count_from g p n
unfolding count_from
count_or f g k h d p zero = omega arith
count_or f g k h d p (suc n) = rw (h p) (go (f p) refl (g p) refl (count_or f g k h d (suc p) n))
  where
    go : (a : Bool) → f p ≡ a → (b : Bool) → g p ≡ b → count_from k (suc p) n ≡ count_from f (suc p) n + count_from g (suc p) n
        → (if a || b then suc (count_from k (suc p) n) else count_from k (suc p) n) ≡ (if a then suc (count_from f (suc p) n) else count_from f (suc p) n)
        + (if b then suc (count_from g (suc p) n) else count_from g (suc p) n)
    go true x true y r = absurd (both_ways _ (d p x) y)
    go true x false y r = omega arith
    go false x true y r = omega arith
    go false x false y r = r

-- Neighbouring parts: their counts add up.
pub count_add : (f : ℕ → Bool) (p n m : ℕ) → count_from f p (n + m) ≡ count_from f p n + count_from f (p + n) m
unfolding count_from
count_add f p zero m =
    rw (let a : 0 + m ≡ m = omega arith in a, let b : p + 0 ≡ p = omega arith in b) (let c : count_from f p m ≡ 0 + count_from f p m = omega arith in c)
count_add f p (suc n) m =
    rw (let a : suc n + m ≡ suc (n + m) = omega arith in a, let b : p + suc n ≡ suc p + n = omega arith in b) (go (f p) (count_add f (suc p) n m))
  where
    go : (b : Bool) → count_from f (suc p) (n + m) ≡ count_from f (suc p) n + count_from f (suc p + n) m
        → (if b then suc (count_from f (suc p) (n + m)) else count_from f (suc p) (n + m)) ≡ (if b then suc (count_from f (suc p) n) else count_from f (suc p) n)
        + count_from f (suc p + n) m
    go true r = omega arith
    go false r = r

-- The millimetres of a stretch.
count_stretch : (r : Stretch) → r.start ≤ r.end → (p n : ℕ) → count_from (has r) p n ≡ min (p + n) r.end - max p r.start
unfolding count_from
count_stretch r h p zero = omega arith
count_stretch r h p (suc n) = go (dec_lt p r.start) (dec_lt p r.end) (count_stretch r h (suc p) n)
  where
    go : Dec (p < r.start) → Dec (p < r.end) → count_from (has r) (suc p) n ≡ min (suc p + n) r.end - max (suc p) r.start
        → (if has r p then suc (count_from (has r) (suc p) n) else count_from (has r) (suc p) n) ≡ min (p + suc n) r.end - max p r.start
    go (yes a) b i = rw (lt-leb r.start p a) (omega arith)
    go (no a) (yes b) i = rw (le-leb r.start p (omega arith), lt-ltb p r.end b) (omega arith)
    go (no a) (no b) i = rw (le-leb r.start p (omega arith), le-ltb p r.end (omega arith)) (omega arith)

-- Rising runs and a test of levels that level 0 does not pass: the first run counts by its own level, and the others as without it.
pub count_run : (e u : ℕ) (r : Stretch) (rs : List Stretch) → Rising e u (r ∷ rs) → (passes : ℕ → Bool) → passes 0 ≡ false → (p n : ℕ)
    → count_from (λ (t : ℕ). passes (shown_level (r ∷ rs) t)) p n
    ≡ (if passes r.level then min (p + n) r.end - max p r.start else 0) + count_from (λ (t : ℕ). passes (shown_level rs t)) p n
unfolding shown_level
count_run e u r rs up passes zero-fails p n = go (passes r.level) refl
  where
    here : ℕ → Bool
    here t = passes (shown_level (r ∷ rs) t)

    rest : ℕ → Bool
    rest t = passes (shown_level rs t)

    -- In the first run the others show nothing.
    alone : (t : ℕ) → has r t ≡ true → rest t ≡ false
    alone t h = ap passes (shown_zero r.end r.level rs up.1 t (ltb-true _ _ ((and_parts (leb r.start t) _ h).1))) ∙ zero-fails

    go : (b : Bool) → passes r.level ≡ b → count_from here p n ≡ (if b then min (p + n) r.end - max p r.start else 0) + count_from rest p n
    go true q = count_or (has r) rest here (λ t. either t (has r t)) alone p n
        ∙ ap (λ (m : ℕ). m + count_from rest p n) (count_stretch r (omega (arith, up.0.long)) p n)
      where
        either : (t : ℕ) (c : Bool) → passes (if c then r.level else shown_level rs t) ≡ (c || rest t)
        either t true = q
        either t false = refl
    go false q = let e = count_same here rest (λ t. same t (has r t) refl) p n in omega arith
      where
        same : (t : ℕ) (c : Bool) → has r t ≡ c → passes (if c then r.level else shown_level rs t) ≡ rest t
        same t true h = q ∙ sym (alone t h)
        same t false h = refl
