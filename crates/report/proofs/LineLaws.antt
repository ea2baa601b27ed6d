-- Laws of run lines and of the covered millimetres: run by run, and how great they are.
-- Assumes nothing.
use Prim.Native.Nat.{ℕ, ◌+◌, ◌-◌, ◌≤◌, ◌<◌}
use native.Mathlib.Omega.{arith}
use mathlib.Core.Path.{◌≡◌, refl, sym}
use mathlib.Core.List.{List, [], ◌∷◌, ◌++◌, append_assoc, append-nil}
use lib.ListN.{length, get_or, length-append}
use Rattle.runs.specs.declared.Stretch.{Stretch}
use Rattle.runs.specs.RunList.{last_station, Rising}
use Rattle.report.specs.Text.{run_line, run_lines, covered}
use Rattle.runs.proofs.StoredLaws.{run, first_runs, runs_more, behind}

-- Run lines

abbrev pub line_of : List ℕ → Stretch → List ℕ
line_of word r = run_line word r.start r.end r.level

pub lines_append : (word : List ℕ) (rs ss : List Stretch) → run_lines word (rs ++ ss) ≡ run_lines word rs ++ run_lines word ss
unfolding run_lines
lines_append word [] ss = refl
lines_append word (r ∷ rs) ss = rw (lines_append word rs ss) (sym (append_assoc (line_of word r) (run_lines word rs) (run_lines word ss)))

pub lines_nothing : (word : List ℕ) → run_lines word [] ≡ []
unfolding run_lines
lines_nothing word = refl

lines_one : (word : List ℕ) (r : Stretch) → run_lines word (r ∷ []) ≡ line_of word r
unfolding run_lines
lines_one word r = append-nil (line_of word r)

-- Covered millimetres

covered_append : (rs ss : List Stretch) → covered (rs ++ ss) ≡ covered rs + covered ss
unfolding covered
covered_append [] ss = omega arith
covered_append (r ∷ rs) ss = omega (arith, covered_append rs ss)

pub covered_nothing : covered [] ≡ 0
unfolding covered
covered_nothing = refl

covered_one : (r : Stretch) (rs : List Stretch) → covered (r ∷ rs) ≡ (r.end - r.start) + covered rs
unfolding covered
covered_one r rs = refl

-- Rising runs lie behind each other and end by the last station.
covered_room : (e v : ℕ) (rs : List Stretch) → Rising e v rs → e ≤ last_station → covered rs + e ≤ last_station
unfolding covered
covered_room e v [] h l = omega arith
covered_room e v (r ∷ rs) h l =
    let n = h.0 in
    omega (arith, n.after, n.long, covered_room r.end r.level rs h.1 n.ends)

pub covered_top : (rs : List Stretch) → Rising 0 0 rs → covered rs ≤ last_station
covered_top rs h = omega (arith, covered_room 0 0 rs h (omega arith))

-- The runs of a stored list one after the other.
module _ (starts ends levels : List ℕ) where
  pub lines_more : (word : List ℕ) (i : ℕ)
      → run_lines word (first_runs starts ends levels (i + 1)) ≡ run_lines word (first_runs starts ends levels i) ++ line_of word (run starts ends levels i)
  lines_more word i =
      rw (
        runs_more starts ends levels i,
        lines_append word (first_runs starts ends levels i) (run starts ends levels i ∷ []),
        lines_one word (run starts ends levels i),
      )

  pub lines_within : (word : List ℕ) (i n : ℕ) → i < n
      → length (run_lines word (first_runs starts ends levels i) ++ line_of word (run starts ends levels i))
      ≤ length (run_lines word (first_runs starts ends levels n))
  unfolding run_lines
  lines_within word i n h =
      let b = behind starts ends levels i n h in
      let first = run_lines word (first_runs starts ends levels i) in
      let line = line_of word (run starts ends levels i) in
      rw (b.split, lines_append word (first_runs starts ends levels i) (run starts ends levels i ∷ b.rest))
      (omega (arith, length-append first line, length-append first (line ++ run_lines word b.rest), length-append line (run_lines word b.rest)))

  pub covered_more : (i : ℕ) → covered (first_runs starts ends levels (i + 1)) ≡ covered (first_runs starts ends levels i) + (get_or ends i 0 - get_or starts i 0)
  covered_more i =
      let r = run starts ends levels i in
      rw (runs_more starts ends levels i)
      (omega (arith, covered_append (first_runs starts ends levels i) (r ∷ []), covered_one r [], covered_nothing))

  pub covered_within : (i n : ℕ) → i < n → covered (first_runs starts ends levels i) + (get_or ends i 0 - get_or starts i 0)
      ≤ covered (first_runs starts ends levels n)
  covered_within i n h =
      let b = behind starts ends levels i n h in
      let r = run starts ends levels i in
      rw b.split (omega (arith, covered_append (first_runs starts ends levels i) (r ∷ b.rest), covered_one r b.rest))
