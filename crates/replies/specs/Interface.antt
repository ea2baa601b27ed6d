-- The C interface's structs for each answer of the calls.
-- Assumes nothing.
use Rattle.std.specs.Prelude.{ℕ, ◌+◌, ◌*◌, [], Option, Some, None}
use lib.ListN.{replicate}
use Rattle.base.specs.Answer.{Answer, accepted, refused, replied}
use Rattle.schedule.specs.declared.reply.Written.{Written}
use Rattle.corners.specs.Corners.{Points}
use Rattle.corners.specs.declared.reply.Corners.{Corners as FoundCorners}
use Rattle.corners.specs.Reply.{corners_as, no_points, corners_replied}
use Rattle.clear_offset.specs.Offset.{Smallest, offset, none}
use Rattle.withdrawal.specs.declared.reply.Reach.{Reach}
use Rattle.panels.specs.declared.reply.Best.{Best}
use Rattle.panels.specs.declared.reply.Layout.{Layout as TriedLayout}
use Rattle.panels.specs.Layout as spec
use Rattle.panels.specs.Layout.{BestLayout}
use Rattle.panels.specs.Panels.{Panels}
use Rattle.panels.specs.Reply.{count_places}
use Rattle.queries.specs.Lookup.{Found, found, nowhere}
use Rattle.queries.specs.Ranges.{Counted, quantities_replied}
use Rattle.queries.specs.declared.reply.Place.{Place}
use Rattle.queries.specs.declared.reply.Quantities.{Quantities as CountedPlaces}
use Rattle.replies.specs.declared.Reply.{Reply}
use Rattle.replies.specs.declared.PlanReply.{PlanReply}
use Rattle.replies.specs.declared.Record.{Record}
use Rattle.replies.specs.declared.Quantities.{Quantities}
use Rattle.replies.specs.declared.Corners.{Corners}
use Rattle.replies.specs.declared.SmallestOffset.{SmallestOffset}
use Rattle.replies.specs.declared.ReachReply.{ReachReply}
use Rattle.replies.specs.declared.LayoutReply.{LayoutReply}

abbrev pub reply : (number value : ℕ) → Reply
reply number value = record { number = number; value = value }

-- Number 0 is done; else the refusal's number and what it returns.
unfoldable pub reply_of : Answer ℕ → Reply
reply_of (accepted value) = reply 0 value
reply_of (refused number value) = reply number value

-- Plan's reply: the bytes written and the overhangs; 0 and 0 after a refusal.
abbrev pub plan_reply_with : (number value before after : ℕ) → PlanReply
plan_reply_with number value before after = record { number = number; value = value; before = before; after = after }

unfoldable pub plan_reply_of : Answer Written → PlanReply
plan_reply_of (accepted w) = plan_reply_with 0 w.bytes w.overhangs.before w.overhangs.after
plan_reply_of (refused number value) = plan_reply_with number value 0 0

-- The record's first byte, and the index behind its last.
unfoldable pub record_of : Answer Found → Record
record_of (accepted (found p)) = record { number = 0; found = 1; start = p.at; end = p.at + p.len }
record_of (accepted nowhere) = record { number = 0; found = 0; start = 0; end = 0 }
record_of (refused number value) = record { number = number; found = 0; start = 0; end = 0 }

-- The same, of a place by its two ends.
abbrev pub record_told : Answer (Option Place) → Record
record_told (accepted (Some p)) = record { number = 0; found = 1; start = p.start; end = p.end }
record_told (accepted None) = record { number = 0; found = 0; start = 0; end = 0 }
record_told (refused number value) = record { number = number; found = 0; start = 0; end = 0 }

-- What the call replies: the records read, a quantity for each range and zeros after them; beside a refusal zeros only.
unfoldable pub quantities_of : Answer Counted → Quantities
quantities_of a =
    let r = quantities_replied a in
    let how = reply_of (replied r.answer) in
    record { number = how.number; value = how.value; records = r.records; quantities = r.places }

-- The same, of quantities in their 64 places.
abbrev pub quantities_told : Answer CountedPlaces → Quantities
quantities_told (accepted c) = record { number = 0; value = 0; records = c.records; quantities = c.quantities }
quantities_told (refused number value) = record { number = number; value = value; records = 0; quantities = replicate 64 0 }

-- The corners as floats; zeros beside a refusal.
unfoldable pub corners_reply_of : Answer Points → Corners
corners_reply_of a =
    let r = corners_replied a in
    let how = reply_of (replied r.answer) in
    record { number = how.number; value = how.value; upstream = r.upstream; flare = r.flare; hazard = r.hazard }

-- The same, of corners in floats.
abbrev pub corners_told : Answer FoundCorners → Corners
corners_told (accepted c) = record { number = 0; value = 0; upstream = c.upstream; flare = c.flare; hazard = c.hazard }
corners_told (refused number value) =
    let none = corners_as no_points in
    record { number = number; value = value; upstream = none.upstream; flare = none.flare; hazard = none.hazard }

-- The smallest offset, or that there is none.
unfoldable pub smallest_of : Answer Smallest → SmallestOffset
smallest_of (accepted (offset M)) = record { number = 0; value = M; found = 1 }
smallest_of (accepted none) = record { number = 0; value = 0; found = 0 }
smallest_of (refused number value) = record { number = number; value = value; found = 0 }

-- How far a withdrawal reaches; zeros beside a refusal.
unfoldable pub reach_reply_of : Answer Reach → ReachReply
reach_reply_of (accepted r) = record {
  number = 0;
  value = 0;
  side = r.side;
  start = r.start;
  end = r.end;
  before = r.overhangs.before;
  after = r.overhangs.after;
  from = r.from;
  to = r.to;
}
reach_reply_of (refused number value) = record { number = number; value = value; side = 0; start = 0; end = 0; before = 0; after = 0; from = 0; to = 0 }

-- The smallest overrun and its first layout, a count for each length and zeros after them; zeros where no tried layout covers. Tries and floor
-- stand in both; beside a refusal zeros only.
abbrev pub layout_done : BestLayout → (tries floor : ℕ) → LayoutReply
layout_done (spec.found o counts) t f =
    record { number = 0; value = 0; found = 1; overrun = o; counts = count_places counts; tries = t; floor = f }
layout_done spec.none t f = record { number = 0; value = 0; found = 0; overrun = 0; counts = count_places []; tries = t; floor = f }

unfoldable pub layout_of : Answer Panels → LayoutReply
layout_of (accepted p) = layout_done p.best p.tries p.floor
layout_of (refused number value) =
    record { number = number; value = value; found = 0; overrun = 0; counts = count_places []; tries = 0; floor = 0 }

-- The same, of counts in their four places.
abbrev pub best_told : Option Best → (tries floor : ℕ) → LayoutReply
best_told (Some b) t f = record { number = 0; value = 0; found = 1; overrun = b.overrun; counts = b.counts; tries = t; floor = f }
best_told None t f = record { number = 0; value = 0; found = 0; overrun = 0; counts = count_places []; tries = t; floor = f }

abbrev pub layout_told : Answer TriedLayout → LayoutReply
layout_told (accepted l) = best_told l.best l.tries l.floor
layout_told (refused number value) =
    record { number = number; value = value; found = 0; overrun = 0; counts = count_places []; tries = 0; floor = 0 }

-- Version 3.3.2, as one number.
abbrev pub version : ℕ
version = 3 * 1000000 + 3 * 1000 + 2
