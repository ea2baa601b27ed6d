-- When the call is refused: the tests of 16 and 17 as facts.
-- Assumes nothing.
use Prim.Native.Nat.{ℕ, ◌≤◌, ◌<◌}
use native.Mathlib.Omega.{arith}
use mathlib.Core.Path.{◌≡◌, refl, sym}
use mathlib.Core.Logic.{◌↔◌, ◌⊎◌, inl, inr}
use mathlib.Core.Bool.{Bool, true, false, ◌||◌, not}
use mathlib.Core.List.{List, Memᴰ}
use lib.ListN.{length}
use lib.Dec.{ltb, eqb}
use borrow.Author.Tests.{ltb-true, ltb-false, lt-ltb, le-ltb, eqb-true, eqb-false, eq-eqb, ne_eqb}
use Rattle.base.specs.Answer.{accepted, refused, ◌>>=◌}
use Rattle.refusal.specs.Refusal.{unless_refuse}
use Rattle.refusal.specs.declared.Refusal.TheVariants as Row
use Rattle.base.specs.Choice.{some_of}
use Rattle.base.proofs.TestLaws.{any_intro, any_elim}
use Rattle.std.proofs.lemmas.Bool.{both_ways, cases_Bool, or_cases, or_left, or_parts, or_right}
use Rattle.panels.specs.Panels.{Panels, out_of_range, panels_for}
use Rattle.panels.specs.Promised.{StockLengths, Limit, Unfit, PanelsSixteen, PanelsSeventeen, PanelsAnswered}

none_out : (ls : List ℕ) → some_of out_of_range ls ≡ false → (l : ℕ) → Memᴰ l ls → (1 ≤ l) × (l ≤ 20000)
none_out ls e l m = go (cases_Bool (out_of_range l))
  where
    go : ((ltb l 1 || ltb 20000 l) ≡ true) ⊎ ((ltb l 1 || ltb 20000 l) ≡ false) → (1 ≤ l) × (l ≤ 20000)
    go (inl t) = absurd (both_ways _ e (any_intro out_of_range m t))
    go (inr f) = let w = or_parts (ltb l 1) (ltb 20000 l) f in (ltb-false l 1 w.0, ltb-false 20000 l w.1)

pub yard : (ls : List ℕ) → 1 ≤ length ls → length ls ≤ 4 → some_of out_of_range ls ≡ false → StockLengths ls
yard ls some four all = record {
  proper = record { some = some; each = λ l m. (none_out ls all l m).0 };
  four = four;
  to = λ l m. (none_out ls all l m).1;
}

-- The tests of 16 and 17 as facts.
abbrev pub unfit : (ls : List ℕ) → Bool
unfit ls = eqb (length ls) 0 || ltb 4 (length ls) || some_of out_of_range ls

abbrev pub unlimited : (limit : ℕ) → Bool
unlimited limit = eqb limit 0 || ltb 65536 limit

pub fit_yard : (ls : List ℕ) → unfit ls ≡ false → StockLengths ls
fit_yard ls e =
    let parts = or_parts (eqb (length ls) 0 || ltb 4 (length ls)) (some_of out_of_range ls) e in
    let front = or_parts (eqb (length ls) 0) (ltb 4 (length ls)) parts.0 in
    let some = eqb-false (length ls) 0 front.0 in
    let four = ltb-false 4 (length ls) front.1 in
    yard ls (omega arith) four parts.1

pub fit_limit : (limit : ℕ) → unlimited limit ≡ false → Limit limit
fit_limit limit e =
    let parts = or_parts (eqb limit 0) (ltb 65536 limit) e in
    let low = eqb-false limit 0 parts.0 in
    record { low = omega arith; top = ltb-false 65536 limit parts.1 }

-- "No length, over four, or one out of range is 16, tested first; a limit of 0 or above 65,536 is 17, next": exactly then.
sixteen_only : (t u : Bool) (p : Panels) (v : ℕ)
    → (unless_refuse (not t) Row.Lengths >>= λ _. unless_refuse (not u) Row.Tries >>= λ _. accepted p) ≡ refused 16 v → (v ≡ 0) × (t ≡ true)
sixteen_only true u p v e = let none : ◌≡◌ {A = ℕ} 0 v = cc in (sym none, refl)
sixteen_only false true p v e = let z : ◌≡◌ {A = ℕ} 17 16 = cc in absurd (omega arith)
sixteen_only false false p v e = cc

seventeen_only : (t u : Bool) (p : Panels) (v : ℕ)
    → (unless_refuse (not t) Row.Lengths >>= λ _. unless_refuse (not u) Row.Tries >>= λ _. accepted p) ≡ refused 17 v → (v ≡ 0) × (t ≡ false) × (u ≡ true)
seventeen_only true u p v e = let z : ◌≡◌ {A = ℕ} 16 17 = cc in absurd (omega arith)
seventeen_only false true p v e = let none : ◌≡◌ {A = ℕ} 0 v = cc in (sym none, refl, refl)
seventeen_only false false p v e = cc

yard_fit : (ls : List ℕ) → StockLengths ls → unfit ls ≡ false
yard_fit ls y =
    let some = y.proper.some in
    rw (ne_eqb (length ls) 0 (λ e. omega arith), le-ltb 4 (length ls) y.four) (all (cases_Bool (some_of out_of_range ls)))
  where
    all : (some_of out_of_range ls ≡ true) ⊎ (some_of out_of_range ls ≡ false) → some_of out_of_range ls ≡ false
    all (inr e) = e
    all (inl e) =
        let w = any_elim out_of_range ls e in
        absurd (both_ways _ (let l = y.proper.each w.one w.member in
        rw (le-ltb w.one 1 l, le-ltb 20000 w.one (y.to w.one w.member))) w.passes)

module _ (ls : List ℕ) (run limit v : ℕ) where
  sixteen : (panels_for ls run limit ≡ refused 16 v) ↔ ((v ≡ 0) × Unfit ls)
  unfolding panels_for
  sixteen = ((λ e. let w = sixteen_only (unfit ls) (unlimited limit) _ v e in (w.0, to w.1)), (λ h. rw (h.0, test h.1)))
    where
      last : ((eqb (length ls) 0 || ltb 4 (length ls)) ≡ true) ⊎ (some_of out_of_range ls ≡ true) → Unfit ls
      last (inr p) = inr (inr (any_elim out_of_range ls p))
      last (inl p) = first (or_cases (eqb (length ls) 0) (ltb 4 (length ls)) p)
        where
          first : (eqb (length ls) 0 ≡ true) ⊎ (ltb 4 (length ls) ≡ true) → Unfit ls
          first (inl q) = inl (eqb-true (length ls) 0 q)
          first (inr q) = inr (inl (ltb-true 4 (length ls) q))

      to : unfit ls ≡ true → Unfit ls
      to e = last (or_cases (eqb (length ls) 0 || ltb 4 (length ls)) (some_of out_of_range ls) e)

      test : Unfit ls → unfit ls ≡ true
      test (inl e) = or_left _ (some_of out_of_range ls) (or_left _ (ltb 4 (length ls)) (eq-eqb (length ls) 0 e))
      test (inr (inl h)) = or_left _ (some_of out_of_range ls) (or_right (eqb (length ls) 0) _ (lt-ltb 4 (length ls) h))
      test (inr (inr w)) = or_right (eqb (length ls) 0 || ltb 4 (length ls)) _ (any_intro out_of_range w.member w.passes)

  seventeen : (panels_for ls run limit ≡ refused 17 v) ↔ ((v ≡ 0) × StockLengths ls × ((limit ≡ 0) ⊎ (65536 < limit)))
  unfolding panels_for
  seventeen = (
    (λ e. let w = seventeen_only (unfit ls) (unlimited limit) _ v e in (w.0, fit_yard ls w.1, to (or_cases (eqb limit 0) (ltb 65536 limit) w.2))),
    (λ h. rw (h.0, yard_fit ls h.1, test h.2)),
  )
    where
      to : (eqb limit 0 ≡ true) ⊎ (ltb 65536 limit ≡ true) → (limit ≡ 0) ⊎ (65536 < limit)
      to (inl q) = inl (eqb-true limit 0 q)
      to (inr q) = inr (ltb-true 65536 limit q)

      test : (limit ≡ 0) ⊎ (65536 < limit) → unlimited limit ≡ true
      test (inl e) = or_left _ (ltb 65536 limit) (eq-eqb limit 0 e)
      test (inr h) = or_right (eqb limit 0) _ (lt-ltb 65536 limit h)

pub sixteen_exactly : PanelsSixteen
sixteen_exactly = sixteen

pub seventeen_exactly : PanelsSeventeen
seventeen_exactly = seventeen

pub panels_answered : PanelsAnswered
unfolding panels_for
panels_answered ls run limit y l = let low = l.low in rw (yard_fit ls y, ne_eqb limit 0 (λ e. omega arith), le-ltb 65536 limit l.top)
