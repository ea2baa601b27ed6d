-- The ranges, and then the test of the hazard.
use Rattle.std.proofs.Common.{refl, sym, ap, ◌∙◌}
use Rattle.planning.specs.Envelope.{stands_near}
use Rattle.open_memory.specs.Memory.{hazard_given}
use Rattle.open_memory.proofs.RuleLaws.{admit_unranged}
use Rattle.open_job.proofs.CallLaws.{given_near, given_clear}
use Rattle.open_job.proofs.tested.admitted.Goals as goal

pub returns-then-stands_near : goal.returns-then-stands_near
returns-then-stands_near c =
    let a = c.args in
    rw (← given_near a.header a.name (hazard_given a.hazard) c.in-Some.ensures.ranged.0
    (ap (stands_near a.header) (sym c.in-Some.ensures.ranged.1) ∙ sym c.stands_near.ensures ∙ c.if-stands_near.true))

pub returns-else-stands_near : goal.returns-else-stands_near
returns-else-stands_near c =
    let a = c.args in
    rw (
      ← given_clear a.header a.name (hazard_given a.hazard) c.in-Some.ensures.ranged.0
          (ap (stands_near a.header) (sym c.in-Some.ensures.ranged.1) ∙ sym c.stands_near.ensures ∙ c.if-stands_near.false),
      c.named.ensures,
      c.in-Some.ensures.ranged.1,
    )

pub returns-in-None : goal.returns-in-None
returns-in-None c = rw (← admit_unranged c.args.header c.args.name (hazard_given c.args.hazard) (c.in-None.ensures.outside refl))
