-- The text that program `barrier` prints: its lines, byte by byte.
-- Assumes nothing.
use Rattle.std.specs.Prelude.{ℕ, zero, suc, ◌+◌, ◌-◌, ◌/◌, ◌%◌, ◌≤◌, ◌≡◌, List, [], ◌∷◌, ◌++◌, ltb, eqb, Bool, if◌then◌else◌}
use Rattle.base.specs.Answer.{Answer, accepted, refused}
use Rattle.job.specs.Job.{Job}
use Rattle.runs.specs.declared.Stretch.{Stretch}
use Rattle.planning.specs.Envelope.{accept_job}
use Rattle.planning.specs.Required.{job_runs}
use Rattle.runs.specs.Level.{Has}

-- Numbers

-- A digit in ASCII: 48 is 0.
abbrev pub digit : ℕ → ℕ
digit n = 48 + n % 10

-- The last k digits of n, without zeros before its first: those of its tenth part, and the last one.
unfoldable pub digits_in : (k n : ℕ) → List ℕ
digits_in zero n = []
digits_in (suc k) n = let higher = digits_in k (n / 10) in (if ltb n 10 then [] else higher) ++ digit n ∷ []

-- A number of 64 bits has at most 20 digits.
unfoldable pub decimal : ℕ → List ℕ
decimal n = digits_in 20 n

-- Lines

-- "One space parts fields": a number with the space before it.
abbrev pub field : ℕ → List ℕ
field n = 32 ∷ decimal n

unfoldable pub fields : (numbers : List ℕ) → List ℕ
fields [] = []
fields (n ∷ ns) = field n ++ fields ns

-- "Hex 0A ends each line."
unfoldable pub line : (word numbers : List ℕ) → List ℕ
line word numbers = (word ++ fields numbers) ++ 0x0A ∷ []

-- "A run line is side (R, L), start, end, level."
abbrev pub right_word : List ℕ
right_word = 82 ∷ []

abbrev pub left_word : List ℕ
left_word = 76 ∷ []

abbrev pub run_line : (word : List ℕ) (start end level : ℕ) → List ℕ
run_line word start end level = line word (start ∷ end ∷ level ∷ [])

unfoldable pub run_lines : (word : List ℕ) → List Stretch → List ℕ
run_lines word [] = []
run_lines word (r ∷ rs) = run_line word r.start r.end r.level ++ run_lines word rs

-- The millimetres of the runs; the laws count them one by one, those of a level above 0.
abbrev pub above : ℕ → Bool
above level = ltb 0 level

unfoldable pub covered : List Stretch → ℕ
covered [] = 0
covered (r ∷ rs) = (r.end - r.start) + covered rs

-- "The last line has the covered millimetres right and left": `total`.
abbrev pub total_word : List ℕ
total_word = 116 ∷ 111 ∷ 116 ∷ 97 ∷ 108 ∷ []

abbrev pub total_line : (right left : ℕ) → List ℕ
total_line right left = line total_word (right ∷ left ∷ [])

-- "A refusal prints only `refused`, number, returned value."
abbrev pub refused_word : List ℕ
refused_word = 114 ∷ 101 ∷ 102 ∷ 117 ∷ 115 ∷ 101 ∷ 100 ∷ []

abbrev pub refused_line : (number value : ℕ) → List ℕ
refused_line number value = line refused_word (number ∷ value ∷ [])

-- The report

-- "Right side first, rising."
unfoldable pub runs_report : (right left : List Stretch) → List ℕ
runs_report right left = (run_lines right_word right ++ run_lines left_word left) ++ total_line (covered right) (covered left)

abbrev pub report_of : Answer Job → List ℕ
report_of (accepted j) = runs_report (job_runs j 0) (job_runs j 1)
report_of (refused k v) = refused_line k v

-- What is printed for the job bytes s.
unfoldable pub reported : (s : List ℕ) → List ℕ
reported s = report_of (accept_job s)

-- The word that a side's lines begin with.
abbrev pub side_word : (side : ℕ) → List ℕ
side_word side = if eqb side 0 then right_word else left_word

-- A run of level v or higher that has t, and its line in the text printed for s.
pub record PrintedRun (s word : List ℕ) (v t : ℕ) : Type 0 where
  pub run : Stretch
  pub has : Has run t
  pub level : v ≤ run.level
  pub before : List ℕ
  pub after : List ℕ
  pub text : reported s ≡ before ++ (run_line word run.start run.end run.level ++ after)
