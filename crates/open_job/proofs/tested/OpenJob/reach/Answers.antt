-- The name, and then the hazard at its place.
use Rattle.std.proofs.Common.{◌≡◌, true, length, sym, arith, rules, ◌∙◌}
use Rattle.open_memory.specs.Memory.{standing, stands}
use Rattle.open_memory.proofs.RuleLaws.{open_header, open_count}
use Rattle.open_job.specs.Calls.{reach_under}
use Rattle.open_job.proofs.CallLaws.{place_within, place_admitted, reach_done}
use Rattle.open_job.proofs.tested.OpenJob.reach.Goals as goal

pub place_of-at-requires : goal.place_of-at-requires
place_of-at-requires c = open_count c.args.self.state c.args.self.keeps_rules

pub bounds-job-at : goal.bounds-job-at
bounds-job-at c =
    let job = c.args.self.state in
    let size : length job.hazards ≡ 256 = search rules in
    let there : stands c.args.name (standing job) ≡ true = sym c.stands_at.ensures ∙ c.if-stands_at.true in
    omega (arith, place_within job c.args.self.keeps_rules size c.args.name there _ c.place_of-at.ensures, open_count job c.args.self.keeps_rules)

pub offset_bounds-job-at : goal.offset_bounds-job-at
offset_bounds-job-at c =
    let job = c.args.self.state in
    let size : length job.hazards ≡ 256 = search rules in
    let there : stands c.args.name (standing job) ≡ true = sym c.stands_at.ensures ∙ c.if-stands_at.true in
    omega (arith, place_within job c.args.self.keeps_rules size c.args.name there _ c.place_of-at.ensures, open_count job c.args.self.keeps_rules)

pub hazard_reach-requires : goal.hazard_reach-requires
hazard_reach-requires c =
    let job = c.args.self.state in
    let size : length job.hazards ≡ 256 = search rules in
    let there : stands c.args.name (standing job) ≡ true = sym c.stands_at.ensures ∙ c.if-stands_at.true in
    let may = place_admitted job c.args.self.keeps_rules size c.args.name there _ c.place_of-at.ensures _ c.from.ensures in
    record { header_fits = open_header job c.args.self.keeps_rules; hazard_fits = may.fits; passed = may.passed }

pub returns-then-stands_at : goal.returns-then-stands_at
returns-then-stands_at c =
    let job = c.args.self.state in
    let size : length job.hazards ≡ 256 = search rules in
    let there : stands c.args.name (standing job) ≡ true = sym c.stands_at.ensures ∙ c.if-stands_at.true in
    reach_done job c.args.self.keeps_rules size c.args.name there _ c.place_of-at.ensures _ c.from.ensures c.hazard_reach.ensures

pub returns-else-stands_at : goal.returns-else-stands_at
unfolding reach_under
returns-else-stands_at c = rw (← c.stands_at.ensures, c.if-stands_at.false)
