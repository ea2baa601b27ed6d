-- Behind the places that n envelopes can use the starts are zeros all the while.
-- Assumes nothing.
use Rattle.std.proofs.Common.{◌≡◌, ◌-◌, ◌*◌, length, drop, replicate}
use Rattle.runs.proofs.PlaceLaws.{InPlace}
use Rattle.runs.proofs.sweep.fill_runs.Given as goal

abbrev pub invariant-loop-i : goal.invariant-loop-i
invariant-loop-i l = (length l.list.starts ≡ 512) × (length l.list.ends ≡ 512) × (length l.list.levels ≡ 512)
    × InPlace l.initial.list.starts l.levels l.list l.k l.i l.start × (drop (l.envelopes.count * 2) l.list.starts ≡ replicate (512 - l.envelopes.count * 2) 0)
