-- `planning::accept::side_behind` meets its contract: the walk, with the arrays as they are lent. Assumes nothing.
use Rattle.std.proofs.Common.{arith}
use Rattle.job.proofs.RangeLaws.{header_bounds}
use Rattle.planning.proofs.TakerLaws.{none_keyed, side_begun}
use Rattle.planning.proofs.accept.side_behind.Goals as goal

pub walk-requires-clause-ready_old : goal.walk-requires-clause-ready_old
walk-requires-clause-ready_old g c =
    let count = (header_bounds c.args.header c.requires.header_fits).count in
    record {
      keyed = none_keyed c.args.keys.now c.args.ends.now;
      few = omega arith;
      for_keys = λ l. omega (arith, c.requires.keys_len, count);
      for_ends = λ l. omega (arith, c.requires.ends_len, count);
    }

pub walk-requires-clause-none_taken : goal.walk-requires-clause-none_taken
walk-requires-clause-none_taken g c = side_begun c.args.keys.now c.args.ends.now c.args.side c.args.window c.args.header
