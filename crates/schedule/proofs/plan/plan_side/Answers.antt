-- The required runs are a run list, and it is placed.
-- Assumes nothing.
use native.Mathlib.Omega.{arith}
use Rattle.runs.specs.Keys.{keyed_envelopes}
use Rattle.runs.specs.Required.{required_runs}
use Rattle.runs.proofs.KeyLaws.{runs_listed, keyed_length}
use Rattle.runs.proofs.StoredLaws.{runs_stored}
use Rattle.schedule.proofs.plan.plan_side.Goals as goal

pub place-requires : goal.place-requires
place-requires c =
    let a = c.args in
    let es = keyed_envelopes a.keys.now a.ends.now a.count in
    let few = keyed_length a.keys.now a.ends.now a.count (omega (arith, c.requires.keys_len, c.requires.count_bound)) in
    rw (c.required_runs.ensures, runs_stored (required_runs es a.continuity))
    (record { run_list = runs_listed es a.continuity c.requires.all_sound (omega (arith, few, c.requires.count_bound)); written_bound = c.requires.written_bound })

pub returns : goal.returns
returns c =
    let a = c.args in
    rw (c.required_runs.ensures, runs_stored (required_runs (keyed_envelopes a.keys.now a.ends.now a.count) a.continuity)) at c.place.ensures
