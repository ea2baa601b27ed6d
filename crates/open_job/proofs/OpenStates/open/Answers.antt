-- A done opening is laid out with nothing kept, and a refused one leaves the memory as it was.
use Rattle.std.proofs.Common.{[], ap, ◌∙◌}
use Rattle.base.specs.Answer.{replied}
use Rattle.refusal.proofs.RefuseLaws.{passed_on}
use Rattle.open_memory.specs.Memory.{laid_out}
use Rattle.open_job.proofs.WholeLaws.{open_refused, open_done}
use Rattle.open_job.proofs.OpenStates.open.Goals as goal

pub returns : goal.returns
returns c =
    let leaves = open_done c.args.self.now c.args.bytes.now (laid_out c.in_ok-header.header []) c.in_ok-header.ensures.opened_job in
    rw (c.empty_state-self.ensures, c.nothing_kept-self.ensures) (record { memory = leaves.memory; reply = leaves.reply })

pub returns-in_err-header : goal.returns-in_err-header
returns-in_err-header c =
    let q = c.in_err-header.field-0.0 in
    let leaves = open_refused c.args.self.now c.args.bytes.now q c.in_err-header.ensures.opened_job in
    record { memory = leaves.memory; reply = ap replied (passed_on c.from_residual.result q c.from_residual.ensures.1) ∙ leaves.reply }
