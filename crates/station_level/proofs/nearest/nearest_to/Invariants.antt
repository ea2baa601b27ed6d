-- What is kept of the envelopes passed.
-- Assumes nothing.
use Rattle.std.proofs.Common.{◌≡◌, length}
use Rattle.runs.specs.Keys.{keyed_envelopes}
use Rattle.station_level.specs.Nearest.{NearestOf}
use Rattle.station_level.proofs.nearest.nearest_to.Given as goal

abbrev pub invariant-loop-i : goal.invariant-loop-i
invariant-loop-i l = record {
  ends_full : length l.ends ≡ 8;
  starts_full : length l.starts ≡ 8;
  kept : NearestOf (keyed_envelopes l.keys l.lasts l.i) l.station (record { ends = l.ends; starts = l.starts });
}
