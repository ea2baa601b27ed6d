-- Worked jobs of document 02's request 9, with their corners (law corner_cases_hold).
-- Assumes nothing.
use Rattle.std.specs.Prelude.{ℕ, List, [], ◌∷◌, ◌++◌, ℤ, pos, negsuc}
use Rattle.base.specs.Answer.{Answer, accepted}
use Rattle.job.specs.Writing.{write_numbers}
use Rattle.corners.specs.Corners.{Point, Points, corners_of}
use Rattle.demands.specs.Cases.{header, hazard}

-- A job's numbers, a sheet corner, and the corners of its first hazard.
pub record CornerCase : Type 0 where
  pub job : List ℕ
  pub station : ℕ
  pub offset : ℕ
  pub corners : Points

abbrev pub point : (station offset : ℤ) → Point
point s o = record { station = s; offset = o }

abbrev pub corner_case : List ℕ → (x y : ℕ) → (upstream flare hazard : Point) → CornerCase
corner_case j x y u f h = record { job = j; station = x; offset = y; corners = record { upstream = u; flare = f; hazard = h } }

unfoldable pub corner_cases : List CornerCase
corner_cases =
    -- K1, length 44,227: the flare leads (44,227 − 13,340) / 15 away, 2,059.1 rounded down
    corner_case (header 101000 0 9000 0 3000 1 0 1 ++ hazard 200000 210000 5000 3) 0 0 (point (pos 155773) (pos 5059)) (point (pos 186660) (pos 3000))
    (point (pos 200000) (pos 3000))
    -- the same on the left, approached by opposite traffic
    ∷ corner_case (header 101000 101000 9000 0 3000 1 0 1 ++ (1 ∷ 200000 ∷ 210000 ∷ 5000 ∷ 9000 ∷ 3 ∷ [])) 0 0 (point (pos 254227) (pos 5059))
    (point (pos 223340) (pos 3000)) (point (pos 210000) (pos 3000))
    -- K2: no flare, length 67,334, from a sheet corner beyond it
    ∷ corner_case (header 101000 0 9000 0 3000 0 0 1 ++ hazard 200000 210000 5000 3) 250000 4000 (point (negsuc 117333) (negsuc 999))
    (point (negsuc 117333) (negsuc 999)) (point (negsuc 49999) (negsuc 999))
    -- K8's second job: not cut at A, the upstream end lies before station 0
    ∷ corner_case (header 101000 0 9000 0 3000 0 0 1 ++ hazard 67333 210000 5000 3) 0 0 (point (negsuc 0) (pos 3000)) (point (negsuc 0) (pos 3000))
    (point (pos 67333) (pos 3000))
    -- K1 in panels of 4,000: 48,000 long, and (48,000 − 13,340) / 15 away, 2,310.6 rounded down
    ∷ corner_case (2 ∷ 0 ∷ 1000000 ∷ 101000 ∷ 0 ∷ 9000 ∷ 0 ∷ 3000 ∷ 1000 ∷ 15 ∷ 1 ∷ 13340 ∷ 0 ∷ 4000 ∷ 1 ∷ hazard 200000 210000 5000 3) 0 0
    (point (pos 152000) (pos 5310)) (point (pos 186660) (pos 3000)) (point (pos 200000) (pos 3000))
    -- K1 on the left of a one-way road: approached by forward traffic
    ∷ corner_case (header 101000 0 9000 0 3000 1 0 1 ++ (1 ∷ 200000 ∷ 210000 ∷ 5000 ∷ 9000 ∷ 3 ∷ [])) 0 0 (point (pos 155773) (pos 5059))
    (point (pos 186660) (pos 3000)) (point (pos 200000) (pos 3000))
    -- in panels of 4,000, with T 67,500: the length before raising, 67,334, does not pass T; the raised length, 68,000, does
    ∷ corner_case (2 ∷ 0 ∷ 1000000 ∷ 101000 ∷ 0 ∷ 9000 ∷ 0 ∷ 3000 ∷ 1000 ∷ 15 ∷ 1 ∷ 67500 ∷ 0 ∷ 4000 ∷ 1 ∷ hazard 200000 210000 5000 3) 0 0
    (point (pos 132000) (pos 3000)) (point (pos 132000) (pos 3000)) (point (pos 200000) (pos 3000))
    ∷ []

-- What the call gives for the first hazard, and what is expected.
unfoldable pub drawn_corners : CornerCase → Answer Points
drawn_corners c = corners_of (write_numbers c.job) 0 c.station c.offset

unfoldable pub expected_corners : CornerCase → Answer Points
expected_corners c = accepted c.corners
