-- The walk for a quantity: its start, a record passed, and its end.
-- Assumes nothing.
use Prim.Native.Nat.{ℕ, ◌+◌, ◌≤◌}
use native.Mathlib.Omega.{arith}
use mathlib.Core.Path.{◌≡◌, refl, sym, ◌∙◌}
use mathlib.Core.List.{List}
use lib.ListN.{length}
use Rattle.queries.specs.Quantity.{Ranged, quantity}
use Rattle.base.specs.Answer.{accepted, refused}
use Rattle.queries.specs.Walk.{head_at, overlap_at, overlap_sum, run_count, Between, at_first, after, Next}
use Rattle.queries.specs.Visits.{Summing}
use Rattle.number.specs.declared.Reading.{Reading}
use Rattle.queries.specs.declared.walk.Record.{Record}
use Rattle.queries.proofs.StepLaws.{count_refused, next_follows}
use Rattle.queries.proofs.OverlapLaws.{overlap_most, summed_start, summed_turn, summed_over}
use Rattle.queries.proofs.QuantityLaws.{quantity_sum}

pub summing_start : (s : List ℕ) (v p q : ℕ) (h : Reading) → head_at s ≡ accepted h → Summing s v p q (at_first h) 0
summing_start s v p q h e = record { summed = summed_start s v p q 0 h refl e; fits = omega arith }

module _ (s : List ℕ) (v p q : ℕ) (b : Between) (at : ℕ) (r : Record) (n : Next s b at r) (sum : ℕ) (w : Summing s v p q b sum) where
  -- The sum grows by the run's overlap, and has room.
  pub summing_most : sum + overlap_at r.run v p q ≤ r.run.end
  summing_most = omega (arith, overlap_most b.end b.level r.run (next_follows s b at r n) v p q, w.fits)

  pub summing_turn : (sum' : ℕ) → sum' ≡ sum + overlap_at r.run v p q → Summing s v p q (after b r) sum'
  summing_turn sum' m = record { summed = summed_turn s v p q sum sum' (record { run = r.run; next = r.next }) w.summed n.some n.reads m; fits = omega (arith, m, summing_most) }

-- What the call gives.
module _ (s : List ℕ) (v p q : ℕ) (a : Ranged v p q) where
  pub quantity_refused : (x y : ℕ) → refused x y ≡ run_count s → refused x y ≡ quantity s v p q
  unfolding overlap_sum
  quantity_refused x y e = sym (quantity_sum s v p q a ∙ rw (count_refused s x y e) refl)

  pub quantity_given : (b : Between) (sum : ℕ) → Summing s v p q b sum → b.left ≡ 0 → b.at ≡ length s → accepted sum ≡ quantity s v p q
  quantity_given b sum w none over = summed_over s v p q w.summed none over ∙ sym (quantity_sum s v p q a)
