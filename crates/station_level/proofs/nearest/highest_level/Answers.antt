-- Each level is tried, from 6 down.
-- Assumes nothing.
use Prim.Native.Nat.{◌-◌}
use native.Mathlib.Omega.{arith}
use mathlib.Core.Path.{sym, ◌∙◌}
use Rattle.station_level.proofs.NearestLaws.{read_none, level_found_lem, level_lower}
use Rattle.station_level.proofs.nearest.highest_level.Goals as goal

pub loop-v-init : goal.loop-v-init
loop-v-init c = record { end_known = omega arith; read = λ es sound kept. read_none es sound c.args.continuity c.args.station }

pub returns-then-has_station : goal.returns-then-has_station
returns-then-has_station c =
    let a = c.args in
    let l = c.loop-v in
    λ es sound kept. level_found_lem es sound a.near a.continuity a.station (l.v - 1) l.end l.start kept (l.invariant.read es sound kept)
    (omega (arith, c.loop-v-test.true)) (omega (arith, l.auto.v)) c.max-end.ensures c.min-start.ensures
    (omega (arith, c.requires.continuity_bound)) (sym c.has_station.ensures ∙ c.if-has_station.true)

pub loop-v-preserved : goal.loop-v-preserved
loop-v-preserved c =
    let a = c.args in
    let l = c.loop-v in
    record {
      end_known = omega (arith, c.max-end.ensures, l.invariant.end_known, c.requires.ends_bound (l.v - 1) (omega (arith, l.auto.v)));
      read = λ es sound kept. level_lower es sound a.near a.continuity a.station (l.v - 1) l.end l.start kept (l.invariant.read es sound kept)
          (omega (arith, c.loop-v-test.true)) (omega (arith, l.auto.v)) c.max-end.ensures c.min-start.ensures
          (sym c.has_station.ensures ∙ c.if-has_station.false);
    }
