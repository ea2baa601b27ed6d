-- What the program does to an input and an output whose bytes are known.
use Rattle.std.specs.Prelude.{ℕ, ◌≤◌, List, Option, length}
use Rattle.std.specs.Io.KnownBytes.{Appends, Consumes}
use Rattle.report.specs.Input.{passed_on}
use Rattle.report.specs.Text.{reported}

-- The input has given some bytes, no more than are passed on, and the output has got their report behind what it had.
pub record Passes (input input' output output' : Option (List ℕ)) : Type 0 where
  pub job : List ℕ
  pub few : length job ≤ passed_on
  pub given : Consumes input input' job
  pub printed : Appends output output' (reported job)
