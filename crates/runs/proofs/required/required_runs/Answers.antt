-- The sorted keys are those of the same envelopes.
-- Assumes nothing.
use Rattle.std.proofs.Common.{ap, ◌∙◌, arith}
use Rattle.runs.specs.Stored.{stored_runs}
use Rattle.runs.proofs.SortLaws.{sorted_front}
use Rattle.runs.proofs.KeyLaws.{sweepable, sorted_runs}
use Rattle.runs.proofs.required.required_runs.Goals as goal

pub invariant_of-envelopes : goal.invariant_of-envelopes
invariant_of-envelopes c =
    let a = c.args in
    let r = c.requires in
    let sorted = sorted_front a.count a.keys.now _ (omega (arith, r.keys_len, r.count_bound)) c.sort.ensures in
    record { sweepable = sweepable a.keys.now a.ends.now a.count r.keys_len r.count_bound r.all_sound _ sorted r.ends_len }

pub returns : goal.returns
returns c =
    let a = c.args in
    let r = c.requires in
    let sorted = sorted_front a.count a.keys.now _ (omega (arith, r.keys_len, r.count_bound)) c.sort.ensures in
    c.swept_runs.ensures ∙ ap stored_runs (sorted_runs a.keys.now a.ends.now a.count r.keys_len r.count_bound r.all_sound _ sorted a.continuity)
