-- No state has more hazards than may stand.
use Rattle.open_job.proofs.SoundLaws.{held_most}
use Rattle.open_job.proofs.kept.is_sound.Goals as goal

pub places_pass-requires-clause-few : goal.places_pass-requires-clause-few
places_pass-requires-clause-few c = held_most c.args.kept.now.used c.args.kept.now.count c.in-Some.count c.in-Some.ensures
