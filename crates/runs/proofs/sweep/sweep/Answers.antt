-- Assumes nothing.
use Rattle.std.proofs.Common.{◌≡◌, get_or, take, refl, arith, rules}
use Rattle.std.proofs.lemmas.List.{get_or-take, length-take-le}
use Rattle.runs.specs.Steps.{envelopes_to}
use Rattle.runs.proofs.IndexLaws.{zeros}
use Rattle.runs.proofs.SweptLaws.{sweeping_first, sweeping_turn, sweeping_room, room_left}
use Rattle.runs.proofs.sweep.sweep.Goals as goal

pub loop-key-init : goal.loop-key-init
loop-key-init c =
    let a = c.args in
    (refl, refl, sweeping_first a.envelopes.keys.now a.envelopes.ends.now a.envelopes.count a.g _ a.starts.now a.levels.now (rw c.none-tops.ensures (zeros 8)))

pub step-p-requires : goal.step-p-requires
step-p-requires c =
    let l = c.loop-key in
    let long = length-take-le c.args.envelopes.count c.args.envelopes.keys.now (omega arith) in
    room_left _ _ _ _ _ _ _ (search rules) (omega (arith, c.requires.n_in_bounds, l.invariant.0)) l.invariant.2

pub loop-key-preserved : goal.loop-key-preserved
loop-key-preserved c =
    let l = c.loop-key in
    let a = c.args in
    let long = length-take-le a.envelopes.count a.envelopes.keys.now (omega arith) in
    let same : get_or (take a.envelopes.count a.envelopes.keys.now) l.key-index 0 ≡ get_or a.envelopes.keys.now l.key-index 0 = get_or-take a.envelopes.count a.envelopes.keys.now l.key-index 0 (omega arith) in (
      search rules,
      search rules,
      sweeping_turn a.envelopes.keys.now a.envelopes.ends.now a.envelopes.count a.g c.args.envelopes.sweepable l.key-index (omega arith) l.invariant.2 (rw same at c.step-p.ensures)
          (rw same at c.raise.ensures),
    )

pub drain-last-requires : goal.drain-last-requires
drain-last-requires c =
    let l = c.loop-key in
    let long = length-take-le c.args.envelopes.count c.args.envelopes.keys.now (omega arith) in
    room_left _ _ _ _ _ _ _ (search rules) (omega (arith, c.requires.n_in_bounds, l.invariant)) l.invariant.2

pub returns : goal.returns
returns c =
    let l = c.loop-key in
    let a = c.args in
    let drained = c.drain-last in
    let long = length-take-le a.envelopes.count a.envelopes.keys.now (omega arith) in
    let same : l.key-index ≡ a.envelopes.count = omega arith in
    record {
      within = omega (arith, drained.ensures.within, sweeping_room _ _ _ _ _ _ _ l.invariant.2);
      tops = l.tops.ends;
      level = drained.result.level.number;
      stands = rw same at (drained.ensures.stands (envelopes_to a.envelopes.keys.now a.envelopes.ends.now l.key-index) a.g l.invariant.2.at l.invariant.2.early
          l.invariant.2.stands);
    }
