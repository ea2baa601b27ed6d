-- What C is told of what a call returned is what it is told of the call's answer.
-- Assumes nothing.
use Prim.Native.Nat.{ℕ, ◌+◌, ◌-◌, ◌≤◌}
use native.Mathlib.Omega.{arith}
use mathlib.Core.Path.{◌≡◌, refl, ap}
use Rattle.std.specs.Prelude.{Option, Some, None}
use Rattle.base.specs.Answer.{Answer, accepted, refused}
use Rattle.corners.specs.Corners.{Points}
use Rattle.corners.specs.Reply.{corners_answer, corners_replied}
use Rattle.panels.specs.Layout.{BestLayout, none, found}
use Rattle.panels.specs.Panels.{Panels}
use Rattle.panels.specs.Reply.{replied_best, layout_replied}
use Rattle.queries.specs.Lookup.{found as found_part}
use Rattle.queries.specs.Place.{located, part_between}
use Rattle.queries.specs.Ranges.{Counted, quantities_replied, replies}
use Rattle.queries.specs.declared.reply.Place.{Place}
use Rattle.replies.specs.Interface.{reply_of, record_of, record_told, quantities_of, quantities_told, corners_reply_of, corners_told, layout_done, layout_of, best_told, layout_told}

pub corners_same : (a : Answer Points) → corners_told (corners_answer a) ≡ corners_reply_of a
unfolding reply_of corners_reply_of corners_replied corners_answer
corners_same (accepted p) = refl
corners_same (refused k v) = refl

pub quantities_same : (a : Answer Counted) → quantities_told (replies a) ≡ quantities_of a
unfolding reply_of quantities_of quantities_replied
quantities_same (accepted c) = refl
quantities_same (refused k v) = refl

best_same : (b : BestLayout) (t f : ℕ) → best_told (replied_best b) t f ≡ layout_done b t f
best_same (found o counts) t f = refl
best_same none t f = refl

pub layout_same : (a : Answer Panels) → layout_told (layout_replied a) ≡ layout_of a
unfolding layout_replied layout_of
layout_same (accepted p) = best_same p.best p.tries p.floor
layout_same (refused number value) = refl

-- A found record by its two ends.
by_ends : (start end : ℕ) → end ≡ start + (end - start)
    → record { number = 0; found = 1; start = start; end = end } ≡ record_of (accepted (found_part (part_between start end)))
unfolding record_of
by_ends start end e = ap (λ (n : ℕ). record { number = 0; found = 1; start = start; end = n }) e

-- Where the place, if there is one, does not end before it starts.
pub record_same : (a : Answer (Option Place)) → ((p : Place) → a ≡ accepted (Some p) → p.start ≤ p.end) → record_told a ≡ record_of (located a)
unfolding record_of
record_same (accepted (Some p)) h = by_ends p.start p.end (omega (arith, h p refl))
record_same (accepted None) h = refl
record_same (refused k v) h = refl
