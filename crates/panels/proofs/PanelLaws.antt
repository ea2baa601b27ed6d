-- What the call promises of every call that is not refused, in the paper's words.
-- Assumes nothing.
use Rattle.std.specs.Prelude.{if◌then◌else◌}
use Prim.Native.Nat.{ℕ, zero, suc, ◌-◌, ◌≤◌, ◌<◌, min}
use native.Mathlib.Omega.{arith}
use native.Mathlib.Nat.{dvd-zero}
use mathlib.Core.Path.{◌≡◌, refl, sym, ap, ◌∙◌, subst}
use mathlib.Core.Logic.{◌↔◌}
use mathlib.Core.Bool.{Bool, true, false, not}
use mathlib.Core.List.{List, [], ◌∷◌, Memᴰ}
use lib.ListN.{length, take, drop, get_or, replicate, length-take, take-append-drop}
use lib.Seq.{take_all, take-take, get_or-take}
use lib.Dec.{leb}
use borrow.Author.Tests.{le-leb, leb-false, not-true}
use Rattle.base.specs.Answer.{accepted}
use Rattle.refusal.specs.Refusal.{unless_refuse}
use Rattle.refusal.specs.declared.Refusal.TheVariants as Row
use Rattle.base.specs.Least.{next_multiple}
use Rattle.base.proofs.AnswerLaws.{bound}
use Rattle.refusal.proofs.RefuseLaws.{tested}
use Rattle.base.proofs.ListLaws.{get_d_member}
use Rattle.base.proofs.LeastLaws.{multiple_least}
use Rattle.panels.specs.Layout.{IsLayout, zero_to_fifteen, each_before, layouts, tried, total, covers, overrun, BestLayout, none, found, if_covering, better}
use Rattle.panels.specs.Layout.{best}
use Rattle.panels.specs.Panels.{Panels, gcd, floor, panels_for}
use Rattle.panels.specs.Promised.{StockLengths, Limit, FirstSmallest, NoneCovers, NoWorse, PanelsGiven, AllPanelsGiven, MoreTries, RunZero}
use Rattle.panels.proofs.RefusedLaws.{unfit, unlimited, fit_yard, fit_limit}
use Rattle.panels.proofs.PlaceLaws.{layouts_number, layouts_exactly}
use Rattle.panels.proofs.BestLaws.{best_append, best_first, best_none}
use Rattle.panels.proofs.FloorLaws.{gcd_some, floor_distance, floor_under}

-- What an accepted call is known to satisfy, and its reply.
pub record Taken (lengths : List ℕ) (run limit : ℕ) (p : Panels) : Type 0 where
  pub yard : StockLengths lengths
  pub limit_is : Limit limit
  pub best_is : p.best ≡ best lengths run (tried lengths limit)
  pub tries_is : p.tries ≡ length (tried lengths limit)
  pub floor_is : p.floor ≡ floor lengths run

pub taken : (lengths : List ℕ) (run limit : ℕ) (p : Panels) → panels_for lengths run limit ≡ accepted p → Taken lengths run limit p
unfolding panels_for
taken ls run limit p e =
    let b1 = bound (unless_refuse (not (unfit ls)) Row.Lengths) _ p e in
    let b2 = bound (unless_refuse (not (unlimited limit)) Row.Tries) _ p b1.rest in
    let same : record { best = best ls run (tried ls limit); tries = length (tried ls limit); floor = floor ls run } ≡ p = cc in
    record {
      yard = fit_yard ls (not-true (unfit ls) (tested (not (unfit ls)) Row.Lengths _ b1.taken));
      limit_is = fit_limit limit (not-true (unlimited limit) (tested (not (unlimited limit)) Row.Tries _ b2.taken));
      best_is = sym (ap (λ (q : Panels). q.best) same);
      tries_is = sym (ap (λ (q : Panels). q.tries) same);
      floor_is = sym (ap (λ (q : Panels). q.floor) same);
    }

-- One call.
module _ (lengths : List ℕ) (run limit : ℕ) (p : Panels) (e : panels_for lengths run limit ≡ accepted p) where
  smallest : (o : ℕ) (counts : List ℕ) → p.best ≡ found o counts → FirstSmallest lengths run (tried lengths limit) o counts
  smallest o counts q = best_first lengths run (tried lengths limit) o counts (sym (taken lengths run limit p e).best_is ∙ q)

  is_layout : (o : ℕ) (counts : List ℕ) → p.best ≡ found o counts → IsLayout lengths counts
  unfolding tried
  is_layout o counts q =
      let f = smallest o counts q in
      let k = length lengths in
      let b : f.place < min limit (length (layouts k)) = rw length-take at f.among in
      let g : get_or (layouts k) f.place [] ≡ counts = sym (get_or-take limit (layouts k) f.place [] (omega arith)) ∙ f.there in
      (layouts_exactly lengths counts).0 (subst (λ (l : List ℕ). Memᴰ l (layouts k)) g (get_d_member (layouts k) f.place [] (omega arith)))

  none_said : (p.best ≡ none) ↔ NoneCovers lengths run (tried lengths limit)
  none_said =
      let w = (taken lengths run limit p e).best_is in
      let n = best_none lengths run (tried lengths limit) in
      ((λ q. n.0 (sym w ∙ q)), (λ c. w ∙ n.1 c))

  all_tried : length (layouts (length lengths)) ≤ limit → tried lengths limit ≡ layouts (length lengths)
  unfolding tried
  all_tried h = take_all limit (layouts (length lengths)) h

  all_least : length (layouts (length lengths)) ≤ limit → (o : ℕ) (counts : List ℕ) → p.best ≡ found o counts
      → FirstSmallest lengths run (layouts (length lengths)) o counts
  all_least h o counts q = subst (λ (ls : List (List ℕ)). FirstSmallest lengths run ls o counts) (all_tried h) (smallest o counts q)

  all_none : length (layouts (length lengths)) ≤ limit → p.best ≡ none → NoneCovers lengths run (layouts (length lengths))
  all_none h q = subst (λ (ls : List (List ℕ)). NoneCovers lengths run ls) (all_tried h) (none_said.0 q)

  given : PanelsGiven lengths run limit p
  unfolding tried
  given =
      let t = taken lengths run limit p e in
      record {
        tries_made = (t.tries_is, t.tries_is ∙ length-take limit (layouts (length lengths)), layouts_number (length lengths));
        smallest = smallest;
        is_layout = is_layout;
        none_said = none_said;
        floor_is = rw t.floor_is (floor_distance lengths t.yard.proper run);
        floor_under = λ counts c. rw t.floor_is (floor_under lengths t.yard.proper run counts c);
        all_least = all_least;
        all_none = all_none;
        layout_least = λ h o counts q l i. (all_least h o counts q).smallest l ((layouts_exactly lengths l).1 i);
        layout_none = λ h q l i. all_none h q l ((layouts_exactly lengths l).1 i);
      }

pub panels_given : AllPanelsGiven
panels_given lengths run limit p e = given lengths run limit p e

no_worse_refl : (a : BestLayout) → NoWorse a a
no_worse_refl none = tt
no_worse_refl (found o l) = omega arith

better_no_worse : (a b : BestLayout) → NoWorse (better a b) a
better_no_worse none b = tt
better_no_worse (found o l) none = omega arith
better_no_worse (found o l) (found q m) = go (leb o q) refl
  where
    go : (t : Bool) → leb o q ≡ t → NoWorse (if t then found o l else found q m) (found o l)
    go true h = omega arith
    go false h = let k = leb-false o q h in omega arith

pub more_tries : MoreTries
unfolding tried
more_tries lengths run limit more p q e f h =
    let a = (taken lengths run limit p e).best_is in
    let b = (taken lengths run more q f).best_is in
    let all = take more (layouts (length lengths)) in
    let c : best lengths run all ≡ better (best lengths run (take limit all)) (best lengths run (drop limit all)) =
    ap (best lengths run) (sym (take-append-drop limit all)) ∙ best_append lengths run (take limit all) (drop limit all) in
    let d : take limit all ≡ take limit (layouts (length lengths)) = take-take limit more (layouts (length lengths)) h in
    rw (b, c, d, a) (better_no_worse (best lengths run (take limit (layouts (length lengths)))) (best lengths run (drop limit all)))

-- A run of length 0 is covered by no panels, with nothing over.
first_layout : (k : ℕ) → (rest : List (List ℕ)) × (layouts k ≡ replicate k 0 ∷ rest)
unfolding layouts each_before
first_layout zero = ([], refl)
first_layout (suc k) = let w = first_layout k in (_, ap (each_before zero_to_fifteen) w.1)

no_panels : (ls : List ℕ) (k : ℕ) → total ls (replicate k 0) ≡ 0
unfolding total
no_panels [] k = refl
no_panels (l ∷ ls) zero = refl
no_panels (l ∷ ls) (suc k) = omega (arith, no_panels ls k)

nothing_over : (l : List ℕ) (b : BestLayout) → better (found 0 l) b ≡ found 0 l
nothing_over l none = refl
nothing_over l (found p m) = rw (le-leb 0 p (omega arith))

pub run_zero : RunZero
unfolding tried best if_covering covers overrun floor
run_zero lengths limit p e =
    let t = taken lengths 0 limit p e in
    let first = first_layout (length lengths) in
    let zeros : List ℕ = replicate (length lengths) 0 in
    let rest = best lengths 0 (take (limit - 1) first.0) in
    let some : limit ≡ suc (limit - 1) = omega (arith, t.limit_is.low) in
    let those : take limit (layouts (length lengths)) ≡ zeros ∷ take (limit - 1) first.0 =
    ap (take limit) first.1 ∙ ap (λ (n : ℕ). take n (zeros ∷ first.0)) some in
    let own : if_covering lengths 0 zeros ≡ found 0 zeros = rw (no_panels lengths (length lengths)) in
    let low = multiple_least (gcd lengths) 0 0 (gcd_some lengths t.yard.proper) (dvd-zero (gcd lengths)) (omega arith) in (
      t.best_is ∙ ap (best lengths 0) those ∙ ap (λ (f : BestLayout). better f rest) own ∙ nothing_over zeros rest,
      t.floor_is ∙ (let z : next_multiple (gcd lengths) 0 - 0 ≡ 0 = omega arith in z),
    )
