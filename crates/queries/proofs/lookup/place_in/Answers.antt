-- `queries::lookup::place_in`: the place that the walk found, none, or its refusal. Assumes nothing.
use mathlib.Core.Path.{sym, ap, ◌∙◌}
use Rattle.base.specs.Answer.{accepted}
use Rattle.refusal.proofs.RefuseLaws.{passed_on}
use Rattle.queries.specs.Place.{located}
use Rattle.queries.proofs.PlaceLaws.{so_far_here, so_far_none, seek_start, seek_over, place_refused}
use Rattle.queries.proofs.lookup.place_in.Goals as goal

pub walk-requires : goal.walk-requires
walk-requires c = λ n b e. seek_start _ _ n b e _

pub returns-in_err-walk : goal.returns-in_err-walk
returns-in_err-walk c =
    ap located (passed_on c.from_residual.result c.in_err-walk.field-0.0 c.from_residual.ensures.1)
    ∙ place_refused _ _ _ _ c.in_err-walk.ensures.count

pub returns-then-station-found : goal.returns-then-station-found
returns-then-station-found c =
    let w = c.in_ok-walk.ensures.found in
    sym (ap accepted (so_far_here _ _ _ c.if-station-found.true)) ∙ seek_over _ _ w.last _ _ w.known w.none w.over

pub returns-else-station-found : goal.returns-else-station-found
returns-else-station-found c =
    let w = c.in_ok-walk.ensures.found in
    sym (ap accepted (so_far_none _ _ _ c.if-station-found.false)) ∙ seek_over _ _ w.last _ _ w.known w.none w.over
