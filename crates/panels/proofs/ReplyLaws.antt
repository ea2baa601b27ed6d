-- What the call answers: 16, 17, or the reply.
-- Assumes nothing.
use Prim.Native.Nat.{ℕ, ◌^◌, ◌≤◌, ◌<◌, min}
use native.Mathlib.Omega.{arith}
use native.Mathlib.Decide.{dec_le}
use mathlib.Core.Path.{◌≡◌, sym, ap, ◌∙◌, refl}
use mathlib.Core.Logic.{inl, inr}
use mathlib.Core.Bool.{true}
use mathlib.Core.List.{List}
use lib.ListN.{length, take}
use lib.Seq.{take_all}
use Rattle.base.specs.Choice.{some_of}
use Rattle.base.specs.Answer.{accepted, refused}
use Rattle.base.proofs.TestLaws.{any_elim}
use Rattle.panels.specs.declared.search.Tried.{Tried}
use Rattle.panels.specs.Layout.{layouts, tried, best}
use Rattle.panels.specs.Panels.{out_of_range, floor, panels_for}
use Rattle.panels.specs.Promised.{StockLengths, Limit}
use Rattle.panels.specs.Reply.{replied_best, layout_replied}
use Rattle.panels.specs.Steps.{layouts_from, best_kept, Searched}
use Rattle.panels.proofs.PlaceLaws.{layouts_from_lem, layouts_taken, layouts_number, from_length}
use Rattle.panels.proofs.RefusedLaws.{sixteen_exactly, seventeen_exactly, panels_answered}

module _ (ls : List ℕ) (run limit : ℕ) where
  pub none_given : length ls ≡ 0 → panels_for ls run limit ≡ refused 16 0
  none_given e = (sixteen_exactly ls run limit 0).1 (refl, inl e)

  pub over_four : 4 < length ls → panels_for ls run limit ≡ refused 16 0
  over_four h = (sixteen_exactly ls run limit 0).1 (refl, inr (inl h))

  pub one_out : some_of out_of_range ls ≡ true → panels_for ls run limit ≡ refused 16 0
  one_out e = (sixteen_exactly ls run limit 0).1 (refl, inr (inr (any_elim out_of_range ls e)))

  pub no_tries : StockLengths ls → limit ≡ 0 → panels_for ls run limit ≡ refused 17 0
  no_tries y e = (seventeen_exactly ls run limit 0).1 (refl, y, inl e)

  pub too_many : StockLengths ls → 65536 < limit → panels_for ls run limit ≡ refused 17 0
  too_many y h = (seventeen_exactly ls run limit 0).1 (refl, y, inr h)

-- What is tried, by places.
tried_from : (ls : List ℕ) (limit : ℕ) → tried ls limit ≡ layouts_from (length ls) 0 (min limit (16 ^ length ls))
unfolding tried
tried_from ls limit = go (dec_le limit (16 ^ length ls))
  where
    go : Dec (limit ≤ 16 ^ length ls) → take limit (layouts (length ls)) ≡ layouts_from (length ls) 0 (min limit (16 ^ length ls))
    go (yes h) = layouts_taken (length ls) limit h ∙ ap (layouts_from (length ls) 0) (let e : limit ≡ min limit (16 ^ length ls) = omega arith in e)
    go (no h) =
        let n = layouts_number (length ls) in
        take_all limit (layouts (length ls)) (omega arith)
        ∙ layouts_from_lem (length ls)
        ∙ ap (layouts_from (length ls) 0) (let e : 16 ^ length ls ≡ min limit (16 ^ length ls) = omega arith in e)

-- The reply, from the tries and the floor.
module _ (ls : List ℕ) (run limit : ℕ) (y : StockLengths ls) (l : Limit limit) (t : Tried) (end f : ℕ) (s : Searched ls run end t)
    (e : end ≡ min limit (16 ^ length ls)) (g : f ≡ floor ls run) where
  pub from_tries : accepted (record { best = replied_best (best_kept (length ls) run t.best); tries = t.tries; floor = f }) ≡ layout_replied (panels_for ls run limit)
  unfolding layout_replied
  from_tries =
      let those : layouts_from (length ls) 0 t.tries ≡ tried ls limit = ap (layouts_from (length ls) 0) (s.made ∙ e) ∙ sym (tried_from ls limit) in
      let kept : best_kept (length ls) run t.best ≡ best ls run (tried ls limit) = s.kept ∙ ap (best ls run) those in
      let number : t.tries ≡ length (tried ls limit) = sym (from_length (length ls) 0 t.tries) ∙ ap length those in
      rw (panels_answered ls run limit y l, kept, number, g)
