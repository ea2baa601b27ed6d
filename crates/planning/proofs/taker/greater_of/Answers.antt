-- `planning::taker::greater_of` meets its contract: the greater at each end. Assumes nothing.
use Rattle.std.proofs.Common.{◌≡◌, sym, ap, ◌∙◌}
use lib.Dec.{eqb}
use borrow.Author.Tests.{eqb-true}
use Rattle.std.proofs.lemmas.Bool.{and_parts}
use Rattle.planning.specs.Envelope.{no_overhang, greater}
use Rattle.planning.proofs.OverhangLaws.{greater_none}
use Rattle.planning.proofs.taker.greater_of.Goals as goal

pub returns-then-b : goal.returns-then-b
returns-then-b c =
    let a = c.args in
    let both = c.if-b.true in
    let none : a.b ≡ no_overhang = λ i. record {
      before = eqb-true a.b.before 0 ((and_parts (eqb a.b.before 0) (eqb a.b.after 0) both).0) i;
      after = eqb-true a.b.after 0 ((and_parts (eqb a.b.before 0) (eqb a.b.after 0) both).1) i;
    } in
    sym (ap (greater a.a) none ∙ greater_none a.a)

pub returns : goal.returns
unfolding greater
returns c = λ i. record { before = c.max.ensures i; after = c.max-2.ensures i }
