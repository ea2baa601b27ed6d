-- `planning::own::own_envelope` meets its contract: a hazard is reached exactly if n < C. Assumes nothing.
use Rattle.std.proofs.Common.{ap, ◌∙◌, Some}
use Rattle.job.proofs.RangeLaws.{hazard_bounds}
use Rattle.planning.specs.declared.envelope.CutEnvelope.{CutEnvelope}
use Rattle.planning.proofs.OwnLaws.{own_none, own_some, own_passed}
use Rattle.planning.proofs.own.own_envelope.Goals as goal

pub returns-then-header-hazard : goal.returns-then-header-hazard
returns-then-header-hazard c =
    own_none c.args.header c.args.hazard (hazard_bounds c.args.header c.args.hazard c.requires.hazard_fits).side c.if-header-hazard.true

pub invariant_of-tested : goal.invariant_of-tested
invariant_of-tested c =
    record {
      header_fits = c.requires.header_fits;
      hazard_fits = c.requires.hazard_fits;
      passed = own_passed c.args.header c.args.hazard c.requires.passed;
    }

pub returns : goal.returns
returns c =
    ap (λ (e : CutEnvelope). Some e) c.cut_envelope.ensures
    ∙ own_some c.args.header c.args.hazard (hazard_bounds c.args.header c.args.hazard c.requires.hazard_fits).side c.if-header-hazard.false
