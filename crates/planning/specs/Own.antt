-- The envelope of one hazard.
-- Assumes nothing.
use Rattle.std.specs.Prelude.{Option, Some, None, if◌then◌else◌}
use Rattle.job.specs.declared.Header.{Header}
use Rattle.job.specs.declared.Hazard.{Hazard}
use Rattle.planning.specs.declared.envelope.CutEnvelope.{CutEnvelope}
use Rattle.planning.specs.Envelope.{reached, cut_envelope, overhang}

-- The envelope of a reached hazard, cut, and its overhangs. "A hazard that nobody reaches has none."
unfoldable pub own_envelope : Header → Hazard → Option CutEnvelope
own_envelope h z = if reached h z then Some (record { stretch = cut_envelope h z; overhangs = overhang h z }) else None
