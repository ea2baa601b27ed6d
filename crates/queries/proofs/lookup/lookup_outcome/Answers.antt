-- `queries::lookup::lookup_outcome`: what `locate` says, without the place. Assumes nothing.
use mathlib.Core.Path.{ap, ◌∙◌}
use Rattle.refusal.proofs.RefuseLaws.{passed_on}
use Rattle.queries.specs.Lookup.{outcome_of}
use Rattle.queries.specs.Place.{companion}
use Rattle.queries.proofs.PlaceLaws.{outcome_at}
use Rattle.queries.proofs.lookup.lookup_outcome.Goals as goal

pub returns-in_err-place : goal.returns-in_err-place
unfolding outcome_of
returns-in_err-place c =
    ap companion (passed_on c.from_residual.result c.in_err-place.field-0.0 c.from_residual.ensures.1)
    ∙ ap outcome_of c.in_err-place.ensures

pub returns : goal.returns
returns c = rw c.is_some.ensures (outcome_at c.in_ok-place.place ∙ ap outcome_of c.in_ok-place.ensures)
