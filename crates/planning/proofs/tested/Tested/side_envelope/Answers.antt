-- `planning::tested::Tested::side_envelope` meets its contract: what the hazard gives to the side. Assumes nothing.
use Rattle.std.proofs.Common.{sym, ap, ◌∙◌, Some}
use Rattle.job.proofs.RangeLaws.{hazard_bounds}
use Rattle.planning.specs.declared.envelope.CutEnvelope.{CutEnvelope}
use Rattle.planning.specs.Reply.{cuts_given}
use Rattle.planning.proofs.TestedLaws.{other_cuts, outside_none, given_envelope, unreached_none}
use Rattle.planning.proofs.tested.Tested.side_envelope.Goals as goal

pub returns-then-self-hazard : goal.returns-then-self-hazard
returns-then-self-hazard c =
    let a = c.args in
    unreached_none a.self.header.now a.self.hazard (hazard_bounds a.self.header.now a.self.hazard c.args.self.hazard_fits).side a.side a.window c.if-self-hazard.true

pub returns-then-hazard-side : goal.returns-then-hazard-side
returns-then-hazard-side c =
    let a = c.args in
    other_cuts a.self.header.now a.self.hazard (hazard_bounds a.self.header.now a.self.hazard c.args.self.hazard_fits).side a.side a.window c.if-hazard-side.true

pub returns-then-stands_in : goal.returns-then-stands_in
returns-then-stands_in c =
    let a = c.args in
    ap (λ (e : CutEnvelope). cuts_given (Some e)) c.cut_envelope.ensures
    ∙ given_envelope a.self.header.now a.self.hazard (hazard_bounds a.self.header.now a.self.hazard c.args.self.hazard_fits).side a.side a.window c.if-self-hazard.false
    c.if-hazard-side.false (sym c.stands_in.ensures ∙ c.if-stands_in.true)

pub returns : goal.returns
returns c =
    let a = c.args in
    outside_none a.self.header.now a.self.hazard (hazard_bounds a.self.header.now a.self.hazard c.args.self.hazard_fits).side a.side a.window (sym c.stands_in.ensures ∙ c.if-stands_in.false)
