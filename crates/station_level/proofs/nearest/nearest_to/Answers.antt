-- One envelope more, which has begun at the station or lies ahead.
-- Assumes nothing.
use mathlib.Core.Path.{refl}
use lib.ListN.{length-set}
use Rattle.station_level.proofs.NearestLaws.{none_kept, begun_turn, ahead_turn}
use Rattle.station_level.proofs.nearest.nearest_to.Goals.{then-start-station, else-start-station}
use Rattle.station_level.proofs.nearest.nearest_to.Goals as goal

pub loop-i-init : goal.loop-i-init
loop-i-init c = record { ends_full = refl; starts_full = refl; kept = none_kept c.args.keys.now c.args.lasts.now c.args.station }

pub loop-i-preserved : goal.loop-i-preserved
loop-i-preserved c =
    let a = c.args in
    let l = c.loop-i in
    elim c.if-start-station.branch [
      | then-start-station w ↦ rw (w.ends-is, w.starts-is) (record {
        ends_full = simp length-set l.invariant.ends_full;
        starts_full = l.invariant.starts_full;
        kept = begun_turn a.keys.now a.lasts.now a.count c.requires l.i a.station c.loop-i-test.true (record { ends = l.ends; starts = l.starts })
            l.invariant.kept w.if-start-station.true l.invariant.ends_full w.max.ensures;
      })
      | else-start-station w ↦ rw (w.ends-is, w.starts-is) (record {
        ends_full = l.invariant.ends_full;
        starts_full = simp length-set l.invariant.starts_full;
        kept = ahead_turn a.keys.now a.lasts.now a.count c.requires l.i a.station c.loop-i-test.true (record { ends = l.ends; starts = l.starts })
            l.invariant.kept w.if-start-station.false l.invariant.starts_full w.min.ensures;
      })
    ]
