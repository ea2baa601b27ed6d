-- A job of kind 1 has panel length 1, which raises nothing.
-- Assumes nothing.
use mathlib.Core.Path.{◌≡◌}
use borrow.Author.Tests.{eqb-true}
use Rattle.approach.proofs.PanelLaws.{raised_length_one}
use Rattle.job.specs.declared.Header.{Header}
use Rattle.job.specs.Fits.{HeaderFits}
use Rattle.job.proofs.RangeLaws.{header_split}
use Rattle.planning.specs.Envelope.{lengthening}
use Rattle.planning.proofs.EnvelopeLaws.{accepted_fits}
use Rattle.demands.specs.Panels.{KindOne}

one_panel : (h : Header) → HeaderFits h → h.kind ≡ 1 → h.panel ≡ 1
one_panel h fits kind = let plain = rw kind at (header_split h fits).1 in eqb-true h.panel 1 plain

pub kind_one : KindOne
unfolding lengthening
kind_one s j a kind =
    let panel = one_panel j.header (accepted_fits s j a).fits.header kind in
    record { panel = panel; lengths = λ z t reach. rw (reach, panel) (raised_length_one _ _ _ _ _ _) }
