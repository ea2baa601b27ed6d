-- What the call's struct says: the complete reply, by equation.
-- Assumes nothing.
use Rattle.std.specs.Prelude.{ℕ, List, Option, Some, None}
use Rattle.base.specs.Answer.{Answer, accepted, refused}
use Rattle.base.specs.Stored.{padded}
use Rattle.panels.specs.declared.reply.Best.{Best}
use Rattle.panels.specs.declared.reply.Layout.{Layout}
use Rattle.panels.specs.Layout.{BestLayout, none, found}
use Rattle.panels.specs.Panels.{Panels, most_lengths}

-- A count for each length, in their order, and zeros behind them.
abbrev pub count_places : List ℕ → List ℕ
count_places counts = padded most_lengths 0 counts

-- None where no tried layout covers.
abbrev pub replied_best : BestLayout → Option Best
replied_best (found o counts) = Some (record { overrun = o; counts = count_places counts })
replied_best none = None

-- The reply, complete: the best with tries and floor beside it, or the refusal.
unfoldable pub layout_replied : Answer Panels → Answer Layout
layout_replied (accepted p) = accepted (record { best = replied_best p.best; tries = p.tries; floor = p.floor })
layout_replied (refused number value) = refused number value
