-- The memory is tested, and what is found under the number is stored as the present state.
use Rattle.std.proofs.Common.{refl}
use Rattle.open_job.specs.Calls.{kept_job, return_in}
use Rattle.open_job.specs.Parts.{looked_for}
use Rattle.open_job.proofs.WholeLaws.{test_passed, return_whole, return_broken, change_refused, change_done}
use Rattle.open_job.proofs.OpenStates.return_to.Goals as goal

pub invariant_of-present : goal.invariant_of-present
invariant_of-present c = record { keeps_rules = test_passed c.args.self.now c.in_ok-test.field-0 c.in_ok-test.ensures.sound }

pub returns-in_err-test : goal.returns-in_err-test
returns-in_err-test c =
    let leaves = return_broken c.args.self.now c.args.number c.from_residual.result c.in_err-test.field-0.0 c.from_residual.ensures.1 c.in_err-test.ensures.sound in
    record { memory = leaves.memory; reply = leaves.reply }

pub returns-in_err-self : goal.returns-in_err-self
returns-in_err-self c =
    let m = c.args.self.now in
    let call = kept_job m.present.header c.args.number (looked_for m c.args.number) in
    let leaves = change_refused m (c.in_ok-test.ensures.size refl) call (return_in m c.args.number) (return_whole m c.args.number) c.in_ok-test.field-0
    c.in_ok-test.ensures.sound c.from_residual-in_err-self.result c.in_err-self.field-0.0 c.from_residual-in_err-self.ensures.1
    (rw c.kept_under-found.ensures at c.in_err-self.ensures) in
    record { memory = leaves.memory; reply = leaves.reply }

pub returns : goal.returns
returns c =
    let m = c.args.self.now in
    let call = kept_job m.present.header c.args.number (looked_for m c.args.number) in
    let leaves = change_done m (c.in_ok-test.ensures.size refl) call (return_in m c.args.number) (return_whole m c.args.number) c.in_ok-test.field-0
    c.in_ok-test.ensures.sound c.in_ok-self.field-0 (rw c.kept_under-found.ensures at c.in_ok-self.ensures) in
    record { memory = leaves.memory; reply = leaves.reply }
