-- `queries::level_runs::LevelRuns::note`: a run more. Assumes nothing.
use mathlib.Core.Path.{refl}
use Rattle.queries.proofs.NotedLaws.{noted_later, passed_here}
use Rattle.queries.proofs.level_runs.LevelRuns.note.Goals as goal

pub invariant_of-self : goal.invariant_of-self
invariant_of-self c =
    let w = passed_here _ _ _ c.args.run _ c.requires.long c.requires.after refl c.requires.room _ refl in
    record { noted = noted_later w.noted _ c.requires.ends }

pub returns : goal.returns
returns c = passed_here _ _ _ _ _ c.requires.long c.requires.after refl c.requires.room _ refl
