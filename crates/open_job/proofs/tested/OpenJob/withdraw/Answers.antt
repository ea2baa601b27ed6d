-- The name, and then the hazard is taken out.
use Rattle.std.proofs.Common.{◌≡◌, true, length, sym, arith, rules, ◌∙◌}
use Rattle.open_memory.specs.Memory.{standing, stands}
use Rattle.open_memory.proofs.RuleLaws.{open_count, open_clear}
use Rattle.open_job.specs.Calls.{withdraw_from}
use Rattle.open_job.proofs.CallLaws.{withdraw_done, place_within}
use Rattle.open_job.proofs.tested.OpenJob.withdraw.Goals as goal

pub place_of-at-requires : goal.place_of-at-requires
place_of-at-requires c = open_count c.args.self.state c.args.self.keeps_rules

pub taken_out-requires : goal.taken_out-requires
taken_out-requires c =
    let job = c.args.self.state in
    let size : length job.hazards ≡ 256 = search rules in
    let there : stands c.args.name (standing job) ≡ true = sym c.stands_at.ensures ∙ c.if-stands_at.true in
    record {
      zeros_after = open_clear job c.args.self.keeps_rules size;
      count_bound = open_count job c.args.self.keeps_rules;
      at_lt_count = omega (arith, place_within job c.args.self.keeps_rules size c.args.name there _ c.place_of-at.ensures);
    }

pub returns-then-stands_at : goal.returns-then-stands_at
returns-then-stands_at c =
    let there : stands c.args.name (standing c.args.self.state) ≡ true = sym c.stands_at.ensures ∙ c.if-stands_at.true in
    rw c.taken_out.ensures (sym (withdraw_done c.args.self.state c.args.self.keeps_rules c.args.name there _ c.place_of-at.ensures))

pub returns-else-stands_at : goal.returns-else-stands_at
unfolding withdraw_from
returns-else-stands_at c = rw (← c.stands_at.ensures, c.if-stands_at.false, c.from.ensures)
