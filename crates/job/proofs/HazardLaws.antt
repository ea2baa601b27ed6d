-- A hazard's numbers read one by one into an array of six.
-- Assumes nothing.
use Prim.Native.Nat.{ℕ, zero, suc, ◌+◌, ◌-◌, ◌≤◌, ◌<◌}
use native.Mathlib.Omega.{arith}
use mathlib.Core.Path.{◌≡◌, refl, sym, ap, ap₂, ◌∙◌}
use mathlib.Core.List.{List, [], ◌∷◌, map}
use lib.ListN.{length, get_or, set, take, get_or-map}
use lib.Seq.{length-take-le, get_or-take}
use Rattle.base.specs.Answer.{accepted}
use Rattle.refusal.specs.Refusal.{refusal, answer_of}
use Rattle.refusal.specs.declared.Refusal.{Refusal}
use Rattle.refusal.specs.declared.Refusal.TheVariants.{HazardRange}
use Rattle.job.specs.declared.Header.{Header}
use Rattle.job.specs.declared.Hazard.{Hazard}
use Rattle.number.specs.declared.Reading.{Reading}
use Rattle.number.specs.Number.{number, read_number}
use Rattle.std.specs.Prelude.{Result, Ok, Err}
use Rattle.job.specs.declared.Bounds.{Bounds}
use Rattle.job.specs.Job.{◌to◌, hazard_ranges, hazard_of, next_in_hazard, read_fields, outside_hazard}
use Rattle.job.specs.Fits.{HazardFits}
use Rattle.job.specs.Reply.{field_at, read_hazard_at}
use Rattle.job.proofs.FieldLaws.{fields_next}
use Rattle.job.proofs.ArrayLaws.{NumbersLeft, one_less, next_refused, all_read}
use Rattle.job.proofs.RangeLaws.{HazardBounds, hazard_bounds}
use Rattle.job.proofs.JobLaws.{fields_in, hazard_fits}

-- A table as its low ends and its high ends.
pub range_at_lem : (rs : List Bounds) (k : ℕ) → get_or (map (λ (r : Bounds). r.low) rs) k 0 to get_or (map (λ (r : Bounds). r.high) rs) k 0 ≡ get_or rs k (0 to 0)
range_at_lem rs k = ap₂ ◌to◌ (get_or-map (λ (r : Bounds). r.low) rs k (0 to 0)) (get_or-map (λ (r : Bounds). r.high) rs k (0 to 0))

-- The next range goes by the array's second and fourth number as soon as they count.
next_in_hazard_lem : (h : Header) (numbers : List ℕ) (k : ℕ) → k ≤ length numbers
    → next_in_hazard h (take k numbers) ≡ get_or (hazard_ranges h.begin h.end (get_or numbers 1 0) (get_or numbers 3 0)) k (0 to 0)
unfolding hazard_ranges
next_in_hazard_lem h numbers k room = rw (length-take-le k numbers room) (go k)
  where
    go : (k : ℕ) → get_or (hazard_ranges h.begin h.end (get_or (take k numbers) 1 0) (get_or (take k numbers) 3 0)) k (0 to 0)
        ≡ get_or (hazard_ranges h.begin h.end (get_or numbers 1 0) (get_or numbers 3 0)) k (0 to 0)
    go zero = refl
    go (suc zero) = refl
    go (suc (suc zero)) = ap (λ (s : ℕ). (s + 1) to h.end) (get_or-take 2 numbers 1 0 (omega arith))
    go (suc (suc (suc zero))) = refl
    go (suc (suc (suc (suc zero)))) = ap (λ (n : ℕ). n to 60000) (get_or-take 4 numbers 3 0 (omega arith))
    go (suc (suc (suc (suc (suc k))))) = refl

-- k of the hazard's six numbers stand in the array, and the others are left from index `at` on.
abbrev pub HazardLeft : Header → (index : ℕ) (s : List ℕ) (first : ℕ) (numbers : List ℕ) (at k : ℕ) → Type 0
HazardLeft h index s first = NumbersLeft (next_in_hazard h) (outside_hazard index) 6 (h.end - 1) s first

module _ (h : Header) {index : ℕ} {s : List ℕ} {first : ℕ} {numbers : List ℕ} {at k : ℕ} (left : HazardLeft h index s first numbers at k) where
  -- The next number, which is `f`, was read for its range.
  module _ (more : k < 6) {range : Bounds} (f : Result Reading Refusal) (its : range ≡ get_or (hazard_ranges h.begin h.end (get_or numbers 1 0) (get_or numbers 3 0)) k (0 to 0))
      (read : answer_of f ≡ field_at range (HazardRange index) s at) where
    its_next : range ≡ next_in_hazard h (take k numbers)
    its_next = its ∙ sym (next_in_hazard_lem h numbers k (omega (arith, left.room)))

    start_top : k ≡ 1 → range.high ≤ h.end - 1
    unfolding hazard_ranges
    start_top e = rw (its, e) (omega arith)

    pub hazard_number : {n : Reading} → f ≡ Ok n → HazardLeft h index s first (set numbers k n.value) n.next (k + 1)
    hazard_number e = one_less left more f its_next refl read start_top e

    pub hazard_refused : {r : Refusal} → f ≡ Err r → refusal r ≡ read_hazard_at h index s first
    unfolding read_hazard_at
    hazard_refused e = rw (next_refused left more f its_next refl read e)

  -- All six were read.
  module _ (done : 6 ≤ k) where
    pub hazard_read : accepted (record { hazard = hazard_of numbers; next = at }) ≡ read_hazard_at h index s first
    unfolding read_hazard_at
    hazard_read = rw (all_read left done)

    pub numbers_bounds : HazardBounds h (hazard_of numbers)
    numbers_bounds = hazard_bounds h (hazard_of numbers)
        (hazard_fits h numbers (fields_in (next_in_hazard h) (outside_hazard index) 6 [] s first (record { numbers = numbers; next = at }) (all_read left done)))

-- A hazard whose six numbers stand one behind the other, each in its range.
pub hazard_whole : (h : Header) (index : ℕ) (s : List ℕ) (at : ℕ) (z : Hazard) (a b c d e next : ℕ) → HazardFits h z
    → read_number s at ≡ number z.side a → read_number s a ≡ number z.start b → read_number s b ≡ number z.end c
    → read_number s c ≡ number z.near d → read_number s d ≡ number z.far e → read_number s e ≡ number z.level next
    → accepted (record { hazard = z; next = next }) ≡ read_hazard_at h index s at
unfolding read_hazard_at hazard_ranges read_fields
hazard_whole h index s at z a b c d e next fits side start end near far level =
    let f = hazard_bounds h z fits in
    let go = fields_next (next_in_hazard h) (outside_hazard index) in
    rw (
      go 5 [] s at z.side a side (omega arith) f.side,
      go 4 (z.side ∷ []) s a z.start b start f.begins (omega (arith, f.long, f.ends)),
      go 3 (z.side ∷ z.start ∷ []) s b z.end c end (omega (arith, f.long)) f.ends,
      go 2 (z.side ∷ z.start ∷ z.end ∷ []) s c z.near d near (omega arith) (omega (arith, f.offsets, f.far_top)),
      go 1 (z.side ∷ z.start ∷ z.end ∷ z.near ∷ []) s d z.far e far f.offsets f.far_top,
      go 0 (z.side ∷ z.start ∷ z.end ∷ z.near ∷ z.far ∷ []) s e z.level next level f.level_low f.level_top,
    )
