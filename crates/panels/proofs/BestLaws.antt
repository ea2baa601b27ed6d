-- The smallest overrun of a list of layouts: what it is, that parts of the list may be judged by themselves, and that none means none.
-- Assumes nothing.
use Rattle.std.specs.Prelude.{if◌then◌else◌}
use Prim.Native.Nat.{ℕ, zero, suc, ◌≤◌, ◌<◌}
use native.Mathlib.Omega.{arith}
use mathlib.Core.Path.{◌≡◌, refl, sym, ap, ◌∙◌, subst}
use mathlib.Core.Logic.{◌↔◌, ◌⊎◌, inl, inr}
use mathlib.Core.Bool.{Bool, true, false}
use mathlib.Core.List.Memᴰ
use mathlib.Core.List.{List, [], ◌∷◌, ◌++◌, Memᴰ}
use lib.ListN.{get_or}
use lib.Dec.{leb}
use borrow.Author.Tests.{le-leb, lt-leb, leb-true, leb-false}
use Rattle.std.proofs.lemmas.Bool.{both_ways, cases_Bool}
use Rattle.panels.specs.Layout.{covers, overrun, BestLayout, none, found, if_covering, better, best}
use Rattle.panels.specs.Promised.{FirstSmallest, NoneCovers}

-- Of three, it does not matter which two are compared first.
pub better_none : (a : BestLayout) → better a none ≡ a
better_none none = refl
better_none (found o l) = refl

pub better_assoc : (a b c : BestLayout) → better (better a b) c ≡ better a (better b c)
better_assoc none b c = refl
better_assoc (found o l) none c = refl
better_assoc (found o l) (found p m) none = better_none (if leb o p then found o l else found p m)
better_assoc (found o l) (found p m) (found q n) = go (leb o p) refl (leb p q) refl
  where
    go : (s : Bool) → leb o p ≡ s → (t : Bool) → leb p q ≡ t
        → better (if s then found o l else found p m) (found q n) ≡ better (found o l) (if t then found p m else found q n)
    go true a true b = rw (a, le-leb o q (omega (arith, leb-true o p a, leb-true p q b)))
    go true a false b = refl
    go false a true b = rw (a, b)
    go false a false b = rw (b, lt-leb o q (omega (arith, leb-false o p a, leb-false p q b)))

module _ (lengths : List ℕ) (run : ℕ) where
  pub best_append : (xs ys : List (List ℕ)) → best lengths run (xs ++ ys) ≡ better (best lengths run xs) (best lengths run ys)
  unfolding best
  best_append [] ys = refl
  best_append (x ∷ xs) ys =
      ap (better (if_covering lengths run x)) (best_append xs ys) ∙ sym (better_assoc (if_covering lengths run x) (best lengths run xs) (best lengths run ys))

  pub judged_covers : (l : List ℕ) → covers lengths run l ≡ true → if_covering lengths run l ≡ found (overrun lengths run l) l
  unfolding if_covering
  judged_covers l e = rw e

  pub judged_short : (l : List ℕ) → covers lengths run l ≡ false → if_covering lengths run l ≡ none
  unfolding if_covering
  judged_short l e = rw e

  -- None exactly if no layout of the list covers.
  found_not_none : {o : ℕ} {c : List ℕ} {A : Type 0} → found o c ≡ none → A
  found_not_none e = cc

  better_is_none : (a b : BestLayout) → better a b ≡ none → (a ≡ none) × (b ≡ none)
  better_is_none none b e = (refl, e)
  better_is_none (found o l) none e = found_not_none e
  better_is_none (found o l) (found p m) e = go (leb o p) e
    where
      go : (t : Bool) → (if t then found o l else found p m) ≡ none → (found o l ≡ none) × (found p m ≡ none)
      go true q = found_not_none q
      go false q = found_not_none q

  judged_none : (l : List ℕ) → if_covering lengths run l ≡ none → covers lengths run l ≡ false
  judged_none l e = go (cases_Bool (covers lengths run l))
    where
      go : (covers lengths run l ≡ true) ⊎ (covers lengths run l ≡ false) → covers lengths run l ≡ false
      go (inl c) = found_not_none (sym (judged_covers l c) ∙ e)
      go (inr c) = c

  pub none_short : (ls : List (List ℕ)) → best lengths run ls ≡ none → NoneCovers lengths run ls
  unfolding best
  none_short [] e l m = absurd (Memᴰ.not-nil m)
  none_short (x ∷ xs) e l m =
      let p = better_is_none (if_covering lengths run x) (best lengths run xs) e in
      go (judged_none x p.0) (none_short xs p.1 l) (Memᴰ.cases_cons m)
    where
      go : covers lengths run x ≡ false → (Memᴰ l xs → covers lengths run l ≡ false) → (l ≡ x) ⊎ Memᴰ l xs → covers lengths run l ≡ false
      go c r (inl q) = rw q c
      go c r (inr k) = r k

  pub short_none : (ls : List (List ℕ)) → NoneCovers lengths run ls → best lengths run ls ≡ none
  unfolding best
  short_none [] s = refl
  short_none (x ∷ xs) s = rw (judged_short x (s x (Memᴰ.head refl))) (short_none xs (λ l m. s l (Memᴰ.tail m)))

  pub best_none : (ls : List (List ℕ)) → (best lengths run ls ≡ none) ↔ NoneCovers lengths run ls
  best_none ls = (none_short ls, short_none ls)

  -- What is found is the smallest overrun and its first layout.
  found_same : {o p : ℕ} {c d : List ℕ} → found o c ≡ found p d → (o ≡ p) × (c ≡ d)
  found_same e = (cc, cc)

  pub best_first : (ls : List (List ℕ)) (o : ℕ) (c : List ℕ) → best lengths run ls ≡ found o c → FirstSmallest lengths run ls o c
  unfolding best
  best_first [] o c e = found_not_none (sym e)
  best_first (x ∷ xs) o c e = go (cases_Bool (covers lengths run x)) (best lengths run xs) refl (best_first xs)
    where
      IH : Type 0
      IH = (p : ℕ) (m : List ℕ) → best lengths run xs ≡ found p m → FirstSmallest lengths run xs p m

      later : (p : ℕ) (m : List ℕ) → FirstSmallest lengths run xs p m → (covers lengths run x ≡ true → p < overrun lengths run x)
          → FirstSmallest lengths run (x ∷ xs) p m
      later p m f g = record {
        place = suc f.place;
        among = let h = f.among in omega arith;
        there = f.there;
        covers = f.covers;
        its = f.its;
        smallest = λ l k. less l (Memᴰ.cases_cons k);
        first = before;
      }
        where
          less : (l : List ℕ) → (l ≡ x) ⊎ Memᴰ l xs → covers lengths run l ≡ true → p ≤ overrun lengths run l
          less l (inl q) h = let w : covers lengths run x ≡ true = ap (covers lengths run) (sym q) ∙ h in rw q (let u = g w in omega arith)
          less l (inr k) h = f.smallest l k h

          before : (i : ℕ) → i < suc f.place → covers lengths run (get_or (x ∷ xs) i []) ≡ true → p < overrun lengths run (get_or (x ∷ xs) i [])
          before zero i h = g h
          before (suc i) h k = f.first i (omega arith) k

      at_once : (covers lengths run x ≡ true) → ((l : List ℕ) → Memᴰ l xs → covers lengths run l ≡ true → overrun lengths run x ≤ overrun lengths run l)
          → FirstSmallest lengths run (x ∷ xs) (overrun lengths run x) x
      at_once h g = record {
        place = 0;
        among = omega arith;
        there = refl;
        covers = h;
        its = refl;
        smallest = λ l k. less l (Memᴰ.cases_cons k);
        first = λ i q. absurd (omega arith);
      }
        where
          less : (l : List ℕ) → (l ≡ x) ⊎ Memᴰ l xs → covers lengths run l ≡ true → overrun lengths run x ≤ overrun lengths run l
          less l (inl q) h = rw q (omega arith)
          less l (inr k) h = g l k h

      both : (h : covers lengths run x ≡ true) (p : ℕ) (m : List ℕ) → FirstSmallest lengths run xs p m → (t : Bool) → leb (overrun lengths run x) p ≡ t
          → (if t then found (overrun lengths run x) x else found p m) ≡ found o c → FirstSmallest lengths run (x ∷ xs) o c
      both h p m f true l q =
          let s = found_same q in
          subst (λ (y : ℕ). FirstSmallest lengths run (x ∷ xs) y c) s.0
          (subst (λ (y : List ℕ). FirstSmallest lengths run (x ∷ xs) (overrun lengths run x) y) s.1
          (at_once h (λ y k w. let a = leb-true (overrun lengths run x) p l in let b = f.smallest y k w in omega arith)))
      both h p m f false l q =
          let s = found_same q in
          subst (λ (y : ℕ). FirstSmallest lengths run (x ∷ xs) y c) s.0
          (subst (λ (y : List ℕ). FirstSmallest lengths run (x ∷ xs) p y) s.1
          (later p m f (λ w. leb-false (overrun lengths run x) p l)))

      go : (covers lengths run x ≡ true) ⊎ (covers lengths run x ≡ false) → (b : BestLayout) → best lengths run xs ≡ b → IH
          → FirstSmallest lengths run (x ∷ xs) o c
      go (inr h) b q r = later o c (r o c (sym (ap (λ (j : BestLayout). better j (best lengths run xs)) (judged_short x h)) ∙ e)) (λ w. absurd (both_ways _ h w))
      go (inl h) none q r =
          let s = found_same (sym (ap (λ (j : BestLayout). better j (best lengths run xs)) (judged_covers x h)
          ∙ ap (better (found (overrun lengths run x) x)) q) ∙ e) in
          subst (λ (y : ℕ). FirstSmallest lengths run (x ∷ xs) y c) s.0
          (subst (λ (y : List ℕ). FirstSmallest lengths run (x ∷ xs) (overrun lengths run x) y) s.1
          (at_once h (λ y k w. absurd (both_ways _ (none_short xs q y k) w))))
      go (inl h) (found p m) q r =
          both h p m (r p m q) (leb (overrun lengths run x) p) refl
          (sym (ap (λ (j : BestLayout). better j (best lengths run xs)) (judged_covers x h) ∙ ap (better (found (overrun lengths run x) x)) q) ∙ e)
