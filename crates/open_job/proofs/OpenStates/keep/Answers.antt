-- The memory is tested, then the number, and the present state is kept under it.
use Rattle.std.proofs.Common.{refl}
use Rattle.open_job.proofs.WholeLaws.{test_passed, keep_broken, keep_refused, keep_done}
use Rattle.open_job.proofs.OpenStates.keep.Goals as goal

pub invariant_of-present : goal.invariant_of-present
invariant_of-present c = record { keeps_rules = test_passed c.args.self.now c.in_ok-test.field-0 c.in_ok-test.ensures.sound }

pub returns-in_err-test : goal.returns-in_err-test
returns-in_err-test c =
    let leaves = keep_broken c.args.self.now c.args.number c.from_residual.result c.in_err-test.field-0.0 c.from_residual.ensures.1 c.in_err-test.ensures.sound in
    record { memory = leaves.memory; reply = leaves.reply }

pub returns-in_err-test_state : goal.returns-in_err-test_state
returns-in_err-test_state c =
    let leaves = keep_refused c.args.self.now (c.in_ok-test.ensures.size refl) c.args.number c.in_ok-test.field-0 c.in_ok-test.ensures.sound c.from_residual-in_err-test_state.result
    c.in_err-test_state.field-0.0 c.from_residual-in_err-test_state.ensures.1 c.in_err-test_state.ensures in
    record { memory = leaves.memory; reply = leaves.reply }

pub returns : goal.returns
returns c =
    let leaves = keep_done c.args.self.now (c.in_ok-test.ensures.size refl) c.args.number c.in_ok-test.field-0 c.in_ok-test.ensures.sound c.in_ok-test_state.field-0
    c.in_ok-test_state.ensures in
    rw c.kept_from-new.ensures (record { memory = leaves.memory; reply = leaves.reply })
