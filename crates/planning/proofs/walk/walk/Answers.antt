-- `planning::walk::walk` meets its contract: hazard by hazard, and then what is left over. Assumes nothing.
use Rattle.std.proofs.Common.{sym, ◌∙◌}
use Rattle.refusal.proofs.RefuseLaws.{passed_on}
use Rattle.planning.proofs.WalkLaws.{walk_begun, walk_next, walk_refused}
use Rattle.planning.proofs.walk.walk.Goals as goal

pub loop-i-init : goal.loop-i-init
loop-i-init g c = record {
  so_far = walk_begun g.S.Hazards.rest g.T.Taker.took c.args.header c.args.source.now c.args.taker.now c.requires.none_taken;
  fits = c.requires.source_fits;
  ready = c.requires.ready_old;
  same = g.met.T.Taker.same_at_once c.args.taker.now;
}

pub returns-in_err-hazard-clause-answer : goal.returns-in_err-hazard-clause-answer
returns-in_err-hazard-clause-answer g c =
    passed_on c.from_residual.result c.in_err-hazard.field-0.0 c.from_residual.ensures.1
    ∙ sym (walk_refused g.S.Hazards.rest g.T.Taker.took c.args.header c.args.source.now c.loop-i.invariant.so_far c.loop-i-test.true c.next.new.self
    c.next.result c.next.ensures.rest c.in_err-hazard.field-0.0 c.in_err-hazard.was)

pub loop-i-preserved : goal.loop-i-preserved
loop-i-preserved g c = record {
  so_far = walk_next g.S.Hazards.rest g.T.Taker.took c.args.header c.args.source.now c.loop-i.invariant.so_far c.loop-i-test.true c.next.new.self
      c.next.result c.next.ensures.rest c.in_ok-hazard.hazard c.in_ok-hazard.was c.test-near.new.taker c.test-near.result c.test-near.ensures.near
      c.test-near.ensures.took;
  fits = c.next.ensures.still_fits;
  ready = c.test-near.ensures.ready_new;
  same = g.met.T.Taker.same_later _ _ _ c.loop-i.invariant.same c.test-near.ensures.same;
}
