-- `number::put_number` meets its contract: in a turn `rest` has several groups, and after the loop one. Assumes nothing.
use Rattle.std.proofs.Common.{◌≡◌, ◌+◌, ◌/◌, ◌%◌, ◌≤◌, ℕ, ◌∷◌, length, sym, ap, ◌∙◌, arith}
use native.Mathlib.Nat.{add_comm}
use native.Mathlib.Numerals.{add-one}
use lib.ListN.{length-set}
use lib.Seq.{sets}
use Rattle.number.specs.Number.{write_number, greatest_number}
use Rattle.number.proofs.WriteLaws.{write_one, write_step}
use Rattle.number.proofs.PlaceLaws.{placed_sets}
use Rattle.number.proofs.put_number.Goals as goal

more : (r : ℕ) → 128 ≤ r → r ≤ greatest_number → write_number r ≡ (128 + r % 128) ∷ write_number (r / 128)
more r large fits = write_step r large fits ∙ ap (λ (b : ℕ). b ∷ write_number (r / 128)) (add_comm (r % 128) 128)

pub loop-rest-preserved : goal.loop-rest-preserved
loop-rest-preserved c =
    let l = c.loop-rest in
    let step = more l.rest c.loop-rest-test.true l.invariant.0 in (
      omega arith,
      omega (arith, ap length step),
      simp length-set (omega arith),
      rw (add-one l.i) (ap (sets l.out l.i) (sym step) ∙ l.invariant.3),
    )

pub returns : goal.returns
returns c =
    let l = c.loop-rest in
    let a = c.args in
    let last = write_one l.rest c.loop-rest-test.false in
    record {
      value = omega (arith, ap length last);
      out_after = ap (sets l.out l.i) (sym last) ∙ l.invariant.3 ∙ sym (placed_sets a.out.now a.at (write_number a.x) c.requires.number_fits);
    }

pub bounds-out-i : goal.bounds-out-i
bounds-out-i c = let l = c.loop-rest in omega (arith, ap length (more l.rest c.loop-rest-test.true l.invariant.0))

pub bounds-out-i-2 : goal.bounds-out-i-2
bounds-out-i-2 c = let l = c.loop-rest in omega (arith, ap length (write_one l.rest c.loop-rest-test.false))
