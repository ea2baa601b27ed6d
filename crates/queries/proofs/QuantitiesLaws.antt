-- The call quantities, case by case: what it gives where its arguments are in range, the ranges few and the schedule one, and each refusal.
-- Assumes nothing.
use Prim.Native.Nat.{ℕ, zero, suc, ◌≤◌, ◌<◌}
use native.Mathlib.Omega.{arith}
use mathlib.Core.Path.{◌≡◌, refl, ap, ◌∙◌}
use mathlib.Core.Logic.{◌↔◌}
use mathlib.Core.Bool.{true, ◌&&◌}
use mathlib.Core.List.{List, [], ◌∷◌, map}
use lib.ListN.{length, get_or}
use lib.Dec.{leb}
use borrow.Author.Tests.{le-leb, lt-leb}
use Rattle.base.specs.Answer.{accepted, refused}
use Rattle.runs.specs.declared.Stretch.{Stretch}
use Rattle.runs.specs.RunList.{shown_level}
use Rattle.schedule.specs.Schedule.{read_schedule}
use Rattle.queries.specs.Quantity.{millimetres}
use Rattle.queries.specs.Ranges.{Range, ranges_of, are_ranges, most_ranges, Counted, quantities, range_at, AllRanged}
use Rattle.queries.proofs.QuantityLaws.{level_tested, argument_refused}
use Rattle.queries.proofs.RangeLaws.{ranges_at, whole_ranges}

-- The quantity of one range in runs.
abbrev pub priced : List Stretch → (level : ℕ) → Range → ℕ
priced rs level z = millimetres (shown_level rs) level z.p z.q

abbrev pub counted : List Stretch → (level : ℕ) → List Range → Counted
counted rs level zs = record { records = length rs; quantities = map (priced rs level) zs }

get_d_map_in : (f : Range → ℕ) (l : List Range) (i e : ℕ) (d : Range) → i < length l → get_or (map f l) i e ≡ f (get_or l i d)
get_d_map_in f [] i e d h = absurd (omega arith)
get_d_map_in f (x ∷ l) zero e d h = refl
get_d_map_in f (x ∷ l) (suc i) e d h = get_d_map_in f l i e d (omega arith)

-- The quantity at an index is that of the range there.
pub priced_at : (f : Range → ℕ) (l : List ℕ) (i : ℕ) → i < length (ranges_of l) → get_or (map f (ranges_of l)) i 0 ≡ f (range_at l i)
priced_at f l i h = get_d_map_in f (ranges_of l) i 0 (range_at l i) h ∙ ap f (ranges_at l i h (range_at l i))

pub all_ranged : (v : ℕ) (l : List ℕ) → ((leb 1 v && leb v 6 && are_ranges l) ≡ true) ↔ AllRanged v l
all_ranged v l = level_tested v (are_ranges l) (whole_ranges l)

-- What the call comes to

module _ (s : List ℕ) (v : ℕ) (l : List ℕ) where
  -- Where the arguments are right, the ranges few and the schedule one, the call is accepted.
  pub quantities_accepted : AllRanged v l → length (ranges_of l) ≤ most_ranges → (rs : List Stretch) → read_schedule s ≡ accepted rs
      → quantities s v l ≡ accepted (counted rs v (ranges_of l))
  unfolding quantities
  quantities_accepted a few rs read = rw ((all_ranged v l).1 a, le-leb (length (ranges_of l)) most_ranges few, read)

  pub quantities_argument : (AllRanged v l → ⊥) → quantities s v l ≡ refused 8 0
  unfolding quantities
  quantities_argument n = argument_refused (leb 1 v && leb v 6 && are_ranges l) _ (all_ranged v l).0 n

  pub quantities_many : AllRanged v l → most_ranges < length (ranges_of l) → quantities s v l ≡ refused 11 0
  unfolding quantities
  quantities_many a many = rw ((all_ranged v l).1 a, lt-leb (length (ranges_of l)) most_ranges many)

  pub quantities_none : AllRanged v l → length (ranges_of l) ≤ most_ranges → read_schedule s ≡ refused 10 0 → quantities s v l ≡ refused 10 0
  unfolding quantities
  quantities_none a few none = rw ((all_ranged v l).1 a, le-leb (length (ranges_of l)) most_ranges few, none)
