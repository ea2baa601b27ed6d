-- What program `barrier` passes on of its standard input.
-- Assumes nothing.
use Rattle.std.specs.Prelude.{ℕ}

-- "It passes on the first 8,192 bytes (no accepted job is that long)."
abbrev pub passed_on : ℕ
passed_on = 8192
