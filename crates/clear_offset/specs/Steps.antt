-- What the search is asked with.
-- Assumes nothing.
use Rattle.std.specs.Prelude.{◌≤◌, ◌<◌}
use Rattle.job.specs.declared.Header.{Header}
use Rattle.job.specs.declared.Hazard.{Hazard}
use Rattle.job.specs.Fits.{HeaderFits, HazardFits}

-- A hazard in its ranges that adjacent traffic reaches and that a barrier can stand clear of.
pub record Clear (h : Header) (z : Hazard) : Type 0 where
  pub header : HeaderFits h
  pub hazard : HazardFits h z
  pub reach : z.near < h.zone
  pub free : h.deflection ≤ z.near
