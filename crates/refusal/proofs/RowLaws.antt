-- No two refusals have the same number and value, and none has number 6.
-- Assumes nothing.
use Prim.Native.Nat.{ℕ, ◌≤◌}
use native.Mathlib.Omega.{arith}
use mathlib.Core.Logic.{◌≢◌}
use mathlib.Core.Path.{◌≡◌, refl, sym, ap₂, ◌∙◌}
use mathlib.Core.List.{[], ◌∷◌}
use lib.ListN.{get_or}
use Rattle.refusal.specs.declared.Refusal.{Refusal}
use Rattle.refusal.specs.declared.Refusal.TheVariants.{Ended, Malformed, HeaderRange, HazardRange, NearBarrier, LeftOver, Argument, Room, Schedule}
use Rattle.refusal.specs.declared.Refusal.TheVariants.{Ranges, Name, State, Hazard, Full, Lengths, Tries}
use Rattle.refusal.specs.Refusal.{number_of, value_of}

-- The refusal with a number and a value; there is none with 6.
abbrev row_at : (number value : ℕ) → Refusal
row_at number value =
    get_or (Argument ∷ Ended value ∷ Malformed value ∷ HeaderRange value ∷ HazardRange value ∷ NearBarrier value ∷ Argument ∷ LeftOver value ∷ Argument
    ∷ Room value ∷ Schedule ∷ Ranges ∷ Name value ∷ State ∷ Hazard ∷ Full ∷ Lengths ∷ Tries ∷ []) number Argument

row_back : (r : Refusal) → row_at (number_of r) (value_of r) ≡ r
row_back (Ended at) = refl
row_back (Malformed at) = refl
row_back (HeaderRange number) = refl
row_back (HazardRange index) = refl
row_back (NearBarrier index) = refl
row_back (LeftOver at) = refl
row_back Argument = refl
row_back (Room needed) = refl
row_back Schedule = refl
row_back Ranges = refl
row_back (Name name) = refl
row_back State = refl
row_back Hazard = refl
row_back Full = refl
row_back Lengths = refl
row_back Tries = refl

pub same_row : (r q : Refusal) → number_of r ≡ number_of q → value_of r ≡ value_of q → r ≡ q
same_row r q n v = sym (row_back r) ∙ ap₂ row_at n v ∙ row_back q

-- A row has a number, and not 6.
row_number : (r : Refusal) → (1 ≤ number_of r) × (number_of r ≢ 6)
row_number (Ended at) = (omega arith, omega arith)
row_number (Malformed at) = (omega arith, omega arith)
row_number (HeaderRange number) = (omega arith, omega arith)
row_number (HazardRange index) = (omega arith, omega arith)
row_number (NearBarrier index) = (omega arith, omega arith)
row_number (LeftOver at) = (omega arith, omega arith)
row_number Argument = (omega arith, omega arith)
row_number (Room needed) = (omega arith, omega arith)
row_number Schedule = (omega arith, omega arith)
row_number Ranges = (omega arith, omega arith)
row_number (Name name) = (omega arith, omega arith)
row_number State = (omega arith, omega arith)
row_number Hazard = (omega arith, omega arith)
row_number Full = (omega arith, omega arith)
row_number Lengths = (omega arith, omega arith)
row_number Tries = (omega arith, omega arith)

pub some_number : (r : Refusal) → 1 ≤ number_of r
some_number r = (row_number r).0

-- Document 02, request 8: "number 6 no longer occurs anywhere".
pub no_six : (r : Refusal) → number_of r ≢ 6
no_six r = (row_number r).1
