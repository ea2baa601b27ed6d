-- The last ends that are kept are ends of envelopes, and the level is read off.
-- Assumes nothing.
use Rattle.station_level.proofs.NearestLaws.{ends_known}
use Rattle.station_level.proofs.nearest.required_level.Goals as goal

pub highest_level-requires-clause-ends_bound : goal.highest_level-requires-clause-ends_bound
highest_level-requires-clause-ends_bound c = ends_known _ c.requires.all_sound c.args.station c.nearest_to-near.result c.nearest_to-near.ensures
