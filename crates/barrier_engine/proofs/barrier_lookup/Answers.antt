-- What C is told is that of the answer; the place does not end before it starts.
use native.Mathlib.Omega.{arith}
use Rattle.std.proofs.Common.{ap, sym, ◌∙◌}
use Rattle.number.proofs.ByteLaws.{index_bytes}
use Rattle.queries.specs.Place.{located}
use Rattle.queries.proofs.PlaceLaws.{place_inside}
use Rattle.replies.specs.Interface.{record_of}
use Rattle.replies.proofs.ToldLaws.{record_same}
use Rattle.barrier_engine.proofs.barrier_lookup.Goals as goal

pub returns : goal.returns
returns c =
    let a = c.args in
    c.from.ensures ∙ record_same _ (λ p is. (place_inside a.right.now a.left.now a.side a.station p (index_bytes _ (λ i. omega (arith, c.type_inv.right i)))
    (index_bytes _ (λ i. omega (arith, c.type_inv.left i))) (sym (ap located is) ∙ c.locate.ensures)).0) ∙ ap record_of c.locate.ensures
