-- The taker of a side meets its contract: by whether the hazard gives an envelope. Assumes nothing.
use Rattle.std.proofs.Common.{arith}
use Rattle.planning.proofs.TakerLaws.{given_level, given_start, room_keys, room_ends, few, side_more, side_ready, side_none}
use Rattle.planning.proofs.taker.SideTakerTaker.take.Goals as goal

pub overflow_cast-stretch : goal.overflow_cast-stretch
overflow_cast-stretch c =
    let t = c.args.self.now in
    omega (arith, given_level c.args.tested.header.now t.side t.window c.args.tested.hazard c.args.tested.header_fits c.args.tested.hazard_fits c.in-Some.ensures)

pub key_of-requires-clause-start_le_last_station : goal.key_of-requires-clause-start_le_last_station
key_of-requires-clause-start_le_last_station c =
    let t = c.args.self.now in
    given_start c.args.tested.header.now t.side t.window c.args.tested.hazard c.args.tested.header_fits c.args.tested.hazard_fits c.in-Some.ensures

pub bounds-self-count : goal.bounds-self-count
bounds-self-count c =
    let t = c.args.self.now in
    room_keys c.args.tested.header.now t.side t.window c.args.tested.hazard c.args.tested.header_fits c.args.tested.hazard_fits c.in-Some.ensures c.requires.ready_old c.requires.index_bound

pub bounds-self-count-in-Some : goal.bounds-self-count-in-Some
bounds-self-count-in-Some c =
    let t = c.args.self.now in
    room_ends c.args.tested.header.now t.side t.window c.args.tested.hazard c.args.tested.header_fits c.args.tested.hazard_fits c.in-Some.ensures c.requires.ready_old c.requires.index_bound

pub key_of-requires-clause-index_bound : goal.key_of-requires-clause-index_bound
key_of-requires-clause-index_bound c =
    let t = c.args.self.now in
    few c.args.tested.header.now t.side t.window c.args.tested.hazard c.args.tested.header_fits c.args.tested.hazard_fits c.in-Some.ensures c.requires.ready_old c.requires.index_bound

pub returns-in-Some-clause-took : goal.returns-in-Some-clause-took
returns-in-Some-clause-took c =
    let t = c.args.self.now in
    λ zs long took.
    rw c.key_of.ensures
    (side_more c.args.tested.header.now t.side t.window c.args.tested.hazard c.args.tested.header_fits c.args.tested.hazard_fits c.in-Some.ensures c.requires.ready_old
    c.requires.index_bound t.overhangs c.greater_of-self.result c.greater_of-self.ensures zs took)

pub returns-in-Some-clause-ready_new : goal.returns-in-Some-clause-ready_new
returns-in-Some-clause-ready_new c =
    let t = c.args.self.now in
    rw c.key_of.ensures
    (side_ready c.args.tested.header.now t.side t.window c.args.tested.hazard c.args.tested.header_fits c.args.tested.hazard_fits c.in-Some.ensures c.requires.ready_old
    c.requires.index_bound)

pub returns-in_default-clause-took : goal.returns-in_default-clause-took
returns-in_default-clause-took c =
    let t = c.args.self.now in
    λ zs long took.
    side_none c.args.tested.header.now t.side t.window c.args.tested.hazard t.keys.now t.ends.now t.count t.overhangs c.in_default.ensures zs took
