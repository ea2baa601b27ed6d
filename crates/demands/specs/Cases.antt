-- Document 01's cases K1 to K10 in one list: each job with its runs on the right and its overhangs there, or its refusal.
-- Assumes nothing.
use Rattle.std.specs.Prelude.{ℕ, ◌+◌, ◌-◌, ◌≤◌, ◌≡◌, List, [], ◌∷◌, ◌++◌}
use Rattle.base.specs.Answer.{Answer, accepted, refused, ◌>>=◌}
use Rattle.job.specs.Writing.{write_numbers, printed_job}
use Rattle.runs.specs.declared.Stretch.{Stretch}
use Rattle.planning.specs.declared.Overhangs.{Overhangs}
use Rattle.planning.specs.Envelope.{no_overhang}
use Rattle.schedule.specs.Schedule.{write_schedule}
use Rattle.schedule.specs.Plan.{PlannedSide, plan}

-- The numbers of a header: what the cases change; the rest is as printed.
unfoldable pub header : (LF LO C W M b G h : ℕ) → List ℕ
header LF LO C W M b G h = 1 ∷ 0 ∷ 1000000 ∷ LF ∷ LO ∷ C ∷ W ∷ M ∷ 1000 ∷ 15 ∷ b ∷ 13340 ∷ G ∷ h ∷ []

-- A right hazard [s, e) with near offset n and far offset 9000.
unfoldable pub hazard : (s e n level : ℕ) → List ℕ
hazard s e n level = 0 ∷ s ∷ e ∷ n ∷ 9000 ∷ level ∷ []

abbrev pub run : (start end level : ℕ) → Stretch
run s e l = record { start = s; end = e; level = l }

-- A job's numbers, its runs on the right or its refusal, and the overhangs there.
pub record Case : Type 0 where
  pub job : List ℕ
  pub expected : Answer (List Stretch)
  pub overhangs : Overhangs

abbrev pub case : List ℕ → Answer (List Stretch) → Case
case j e = record { job = j; expected = e; overhangs = no_overhang }

-- A case whose approach hangs over before A.
abbrev pub hanging_over : (before : ℕ) → Case → Case
hanging_over before c = record { job = c.job; expected = c.expected; overhangs = record { before = before; after = 0 } }

unfoldable pub cases : List Case
cases =
    -- K1: as printed, length 44,227
    case (header 101000 0 9000 0 3000 1 0 1 ++ hazard 200000 210000 5000 3) (accepted (run (200000 - 44227) 210000 3 ∷ []))
    -- K2: b = 0, length 67,334
    ∷ case (header 101000 0 9000 0 3000 0 0 1 ++ hazard 200000 210000 5000 3) (accepted (run (200000 - 67334) 210000 3 ∷ []))
    -- K3: b = 0, LF 88,000, C 8,500, M 2,000: 67,295
    ∷ case (header 88000 0 8500 0 2000 0 0 1 ++ hazard 200000 210000 5000 3) (accepted (run (200000 - 67295) 210000 3 ∷ []))
    -- K4: K2 with LO 101,000 and W 3,500: [132666, 238056)
    ∷ case (header 101000 101000 9000 3500 3000 0 0 1 ++ hazard 200000 210000 5000 3) (accepted (run 132666 238056 3 ∷ []))
    -- K5: K4 with n 5,500: ends at 210,000
    ∷ case (header 101000 101000 9000 3500 3000 0 0 1 ++ hazard 200000 210000 5500 3) (accepted (run 132666 210000 3 ∷ []))
    -- K6: n 8,999 covered; n 9,000 no run
    ∷ case (header 101000 0 9000 0 3000 1 0 1 ++ hazard 200000 210000 8999 3) (accepted (run 155773 210000 3 ∷ []))
    ∷ case (header 101000 0 9000 0 3000 1 0 1 ++ hazard 200000 210000 9000 3) (accepted [])
    -- K7: n 4,000 planned; 3,999 refused 5
    ∷ case (header 101000 0 9000 0 3000 1 0 1 ++ hazard 200000 210000 4000 3) (accepted (run 155773 210000 3 ∷ []))
    ∷ case (header 101000 0 9000 0 3000 1 0 1 ++ hazard 200000 210000 3999 3) (refused 5 0)
    -- K8: K2 with s 67,334 begins at 0; s 67,333: "the second job of K8 now begins at 0 with overhang 1"
    ∷ case (header 101000 0 9000 0 3000 0 0 1 ++ hazard 67334 210000 5000 3) (accepted (run 0 210000 3 ∷ []))
    ∷ hanging_over 1 (case (header 101000 0 9000 0 3000 0 0 1 ++ hazard 67333 210000 5000 3) (accepted (run 0 210000 3 ∷ [])))
    -- K9: level-2 envelopes 49,999 apart at G = 50,000 make one run; 50,000 apart two
    ∷ case (header 101000 0 9000 0 3000 1 50000 2 ++ (hazard 200000 210000 5000 2 ++ hazard (210000 + 49999 + 44227) 310000 5000 2))
    (accepted (run 155773 310000 2 ∷ []))
    ∷ case (header 101000 0 9000 0 3000 1 50000 2 ++ (hazard 200000 210000 5000 2 ++ hazard (210000 + 50000 + 44227) 310000 5000 2))
    (accepted (run 155773 210000 2 ∷ run 260000 310000 2 ∷ []))
    -- K10: with G 50, envelopes [0, 100) at 3 and [140, 200) at 1 (LF 1 and b = 0 make each approach 1): runs [0, 100) at 3, [100, 200) at 1
    ∷ case (header 1 0 9000 0 3000 0 50 2 ++ (hazard 1 100 5000 3 ++ hazard 141 200 5000 1)) (accepted (run 0 100 3 ∷ run 100 200 1 ∷ []))
    ∷ []

-- What plan gives for the right side with room for 64 bytes, and the writing of what is expected.
unfoldable pub case_planned : Case → Answer PlannedSide
case_planned c = plan (write_numbers c.job) 0 64

unfoldable pub case_written : Case → Answer PlannedSide
case_written c = c.expected >>= λ rs. accepted (record { schedule = write_schedule rs; overhangs = c.overhangs })

-- Of the job on paper "the right schedule is hex 01 FD C0 09 D3 A7 03 03", and nothing hangs over.
abbrev pub printed_side : PlannedSide
printed_side = record { schedule = 0x01 ∷ 0xFD ∷ 0xC0 ∷ 0x09 ∷ 0xD3 ∷ 0xA7 ∷ 0x03 ∷ 0x03 ∷ []; overhangs = no_overhang }

-- That is what plan writes of it, "into any output long enough".
abbrev pub PrintedPlan : Type 0
PrintedPlan = (room : ℕ) → 8 ≤ room → plan (write_numbers printed_job) 0 room ≡ accepted printed_side
