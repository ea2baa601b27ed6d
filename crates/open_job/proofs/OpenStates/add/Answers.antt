-- The memory is tested, and the call on the present state is stored.
use Rattle.std.proofs.Common.{refl}
use Rattle.open_memory.specs.Memory.{hazard_given}
use Rattle.open_job.specs.Calls.{add_to, add_in}
use Rattle.open_job.proofs.WholeLaws.{test_passed, change_whole, change_broken, change_refused, change_done}
use Rattle.open_job.proofs.OpenStates.add.Goals as goal

pub invariant_of-present : goal.invariant_of-present
invariant_of-present c = record { keeps_rules = test_passed c.args.self.now c.in_ok-test.field-0 c.in_ok-test.ensures.sound }

pub returns-in_err-test : goal.returns-in_err-test
unfolding add_in
returns-in_err-test c =
    let leaves = change_broken c.args.self.now (add_to c.args.self.now.present c.args.name (hazard_given c.args.hazard)) (add_in c.args.self.now c.args.name (hazard_given c.args.hazard)) (change_whole c.args.self.now (add_to c.args.self.now.present c.args.name (hazard_given c.args.hazard))) c.from_residual.result c.in_err-test.field-0.0 c.from_residual.ensures.1 c.in_err-test.ensures.sound in
    record { memory = leaves.memory; reply = leaves.reply }

pub returns-in_err-self : goal.returns-in_err-self
unfolding add_in
returns-in_err-self c =
    let leaves = change_refused c.args.self.now (c.in_ok-test.ensures.size refl) (add_to c.args.self.now.present c.args.name (hazard_given c.args.hazard)) (add_in c.args.self.now c.args.name (hazard_given c.args.hazard)) (change_whole c.args.self.now (add_to c.args.self.now.present c.args.name (hazard_given c.args.hazard))) c.in_ok-test.field-0 c.in_ok-test.ensures.sound c.from_residual-in_err-self.result c.in_err-self.field-0.0
    c.from_residual-in_err-self.ensures.1 c.in_err-self.ensures in
    record { memory = leaves.memory; reply = leaves.reply }

pub returns : goal.returns
unfolding add_in
returns c =
    let leaves = change_done c.args.self.now (c.in_ok-test.ensures.size refl) (add_to c.args.self.now.present c.args.name (hazard_given c.args.hazard)) (add_in c.args.self.now c.args.name (hazard_given c.args.hazard)) (change_whole c.args.self.now (add_to c.args.self.now.present c.args.name (hazard_given c.args.hazard))) c.in_ok-test.field-0 c.in_ok-test.ensures.sound c.in_ok-self.field-0 c.in_ok-self.ensures in
    record { memory = leaves.memory; reply = leaves.reply }
