-- The report fits into 32,768 bytes, and what it is for the printed job.
-- Assumes nothing.
use Prim.Native.Nat.{ℕ, ◌+◌, ◌*◌, ◌≤◌}
use native.Mathlib.Omega.{arith}
use mathlib.Core.Path.{◌≡◌, refl}
use mathlib.Core.Bool.{true}
use mathlib.Core.List.{List, [], ◌∷◌, ◌++◌}
use lib.ListN.{length, length-append}
use Rattle.base.specs.Choice.{some_of, filter}
use Rattle.base.specs.Answer.{Answer, accepted, refused}
use Rattle.number.specs.Number.{write_in, write_number, scan, read_number, number_at}
use Rattle.approach.specs.Approach.{ceil_div, formula_length, approach_length}
use Rattle.base.specs.Least.{next_multiple}
use Rattle.approach.specs.Panel.{raised_length}
use Rattle.job.specs.Writing.{write_numbers, printed_job}
use Rattle.job.specs.Job.{Job, shared_ranges, header_ranges, hazard_ranges, read_fields, read_header, read_hazards, read_job, read_rest}
use Rattle.runs.specs.declared.Stretch.{Stretch}
use Rattle.runs.specs.Level.{filled, highest, required_level}
use Rattle.runs.specs.Required.{insert_station, end_points, put, runs_between, required_runs}
use Rattle.runs.specs.RunList.{is_run_list, last_station, MayFollow, Rising}
use Rattle.runs.proofs.RunLaws.{run_list_rising, run_list_short}
use Rattle.planning.specs.Envelope.{farther, reach_of, offset_of, reaches, reached, lengthening, envelope, envelopes, cut_to_road, stands_near, test_hazard}
use Rattle.planning.specs.Envelope.{test_hazards, accept_job}
use Rattle.planning.specs.Required.{job_runs}
use Rattle.planning.proofs.EnvelopeLaws.{accepted_fits}
use Rattle.planning.proofs.JobRunLaws.{job_run_list}
use Rattle.report.specs.Text.{digits_in, decimal, fields, line, right_word, left_word, total_word, refused_word, run_lines, covered, total_line, refused_line}
use Rattle.report.specs.Text.{runs_report, report_of, reported}
use Rattle.report.specs.Printed.{printed_text}
use Rattle.report.specs.Printing.{most_text}
use Rattle.report.proofs.DigitLaws.{decimal_within, decimal_most}
use Rattle.report.proofs.LineLaws.{line_of, covered_top}

-- How long the lines are

line_length : (word numbers : List ℕ) → length (line word numbers) ≡ length word + length (fields numbers) + 1
unfolding line
line_length word numbers = omega (arith, length-append (word ++ fields numbers) (0x0A ∷ []), length-append word (fields numbers))

fields_length : (n : ℕ) (ns : List ℕ) → length (fields (n ∷ ns)) ≡ 1 + length (decimal n) + length (fields ns)
unfolding fields
fields_length n ns = omega (arith, length-append (decimal n) (fields ns))

fields_nothing : length (fields []) ≡ 0
unfolding fields
fields_nothing = refl

-- A station has at most 13 digits.
station : (n : ℕ) → n ≤ last_station → length (decimal n) ≤ 13
station n h = decimal_within 12 n (omega arith)

-- The line of a run: a letter, two stations and a level.
run_line_short : (word : List ℕ) (e v : ℕ) (r : Stretch) → length word ≡ 1 → MayFollow e v r → length (line_of word r) ≤ 32
run_line_short word e v r w n =
    omega (
      arith,
      line_length word (r.start ∷ r.end ∷ r.level ∷ []),
      fields_length r.start (r.end ∷ r.level ∷ []),
      fields_length r.end (r.level ∷ []),
      fields_length r.level [],
      fields_nothing,
      station r.start (omega (arith, n.long, n.ends)),
      station r.end n.ends,
      decimal_within 0 r.level (omega (arith, n.top)),
    )

run_lines_short : (word : List ℕ) (e v : ℕ) (rs : List Stretch) → length word ≡ 1 → Rising e v rs → length (run_lines word rs) ≤ 32 * length rs
unfolding run_lines
run_lines_short word e v [] w h = omega arith
run_lines_short word e v (r ∷ rs) w h =
    omega (arith, run_line_short word e v r w h.0, run_lines_short word r.end r.level rs w h.1, length-append (line_of word r) (run_lines word rs))

-- A word and two numbers, of which each is at most k digits long.
pair_short : (word : List ℕ) (a b k : ℕ) → length (decimal a) ≤ k → length (decimal b) ≤ k → length (line word (a ∷ b ∷ [])) ≤ length word + 2 * k + 3
pair_short word a b k p q = omega (arith, line_length word (a ∷ b ∷ []), fields_length a (b ∷ []), fields_length b [], fields_nothing)

pub runs_report_fits : (right left : List Stretch) → is_run_list right ≡ true → is_run_list left ≡ true → length (runs_report right left) ≤ most_text
unfolding runs_report
runs_report_fits right left r l =
    let total = total_line (covered right) (covered left) in
    let up = run_list_rising right r in
    let down = run_list_rising left l in
    omega (
      arith,
      length-append (run_lines right_word right ++ run_lines left_word left) total,
      length-append (run_lines right_word right) (run_lines left_word left),
      run_lines_short right_word 0 0 right refl up,
      run_lines_short left_word 0 0 left refl down,
      run_list_short right r,
      run_list_short left l,
      pair_short total_word (covered right) (covered left) 13 (station (covered right) (covered_top right up)) (station (covered left) (covered_top left down)),
    )

pub refused_fits : (number value : ℕ) → length (refused_line number value) ≤ most_text
refused_fits number value = omega (arith, pair_short refused_word number value 20 (decimal_most number) (decimal_most value))

-- Every report fits.
pub report_fits : (s : List ℕ) → length (reported s) ≤ most_text
unfolding reported
report_fits s = go (accept_job s) refl
  where
    go : (a : Answer Job) → accept_job s ≡ a → length (report_of a) ≤ most_text
    go (accepted j) e =
        let fits = accepted_fits s j e in
        runs_report_fits (job_runs j 0) (job_runs j 1) (job_run_list j 0 fits) (job_run_list j 1 fits)
    go (refused k v) e = refused_fits k v

-- The job on paper

pub printed_report : reported (write_numbers printed_job) ≡ printed_text
unfolding write_numbers printed_job printed_text some_of filter write_in write_number scan read_number number_at ceil_div formula_length approach_length next_multiple
    raised_length shared_ranges header_ranges hazard_ranges read_fields read_header read_hazards read_rest read_job farther reach_of offset_of reaches reached lengthening
    envelope envelopes cut_to_road stands_near test_hazard test_hazards accept_job filled highest required_level insert_station end_points put runs_between required_runs
    job_runs digits_in decimal fields line run_lines covered runs_report reported
printed_report = refl
