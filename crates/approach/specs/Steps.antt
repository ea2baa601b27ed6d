-- Steps of the code: where a length is asked for, and which b the formula is asked with.
-- Assumes nothing.
use Rattle.std.specs.Prelude.{ℕ, ◌-◌, ◌*◌, leb, if◌then◌else◌}
use Rattle.approach.specs.declared.Approach.{Approach}
use Rattle.approach.specs.Approach.{Domain}

-- An approach for which the formula is asked.
abbrev pub InDomain : Approach → Type 0
InDomain x = Domain x.along x.across x.straight x.runout x.reach x.offset

-- 0 where the length without flare, L × (R − m) / R, is at most T; else b.
unfoldable pub flare_across : (b T L R m : ℕ) → ℕ
flare_across b T L R m = if leb (L * (R - m)) (T * R) then 0 else b
