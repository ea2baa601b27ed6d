-- `planning::walk::walk`: the hazards had, their tests, and what is left of the source. Assumes nothing.
use Rattle.planning.proofs.WalkLaws.{SoFar}
use Rattle.planning.proofs.walk.walk.Given as goal

abbrev pub invariant-loop-i : goal.invariant-loop-i
invariant-loop-i g l = record {
  so_far : SoFar g.S.Hazards.rest g.T.Taker.took l.header l.fn.source l.source l.taker l.near l.i;
  fits : g.S.Hazards.fits l.source l.header;
  ready : g.T.Taker.ready l.taker l.header l.i;
  same : g.T.Taker.same l.fn.taker l.taker;
}
