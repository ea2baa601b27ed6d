-- What writing into lent memory comes to.
-- Assumes nothing.
use Rattle.std.specs.Prelude.{ℕ, ◌+◌, ◌≡◌, List, length}
use Rattle.number.specs.Number.{placed}
use Rattle.report.specs.declared.text.Writer.{Writer}

-- The bytes w were written into the memory `text` from `at` on: the index behind them, and the memory afterwards.
pub record Written (text : List ℕ) (at : ℕ) (w : List ℕ) (next : ℕ) (after : List ℕ) : Type 0 where
  pub index : next ≡ at + length w
  pub memory : after ≡ placed text at w

-- A writer wrote the bytes w from its place on, into the memory that it has been lent.
pub record Wrote (old : Writer) (w : List ℕ) (new : Writer) : Type 0 where
  pub same_memory : new.text.ghost_name ≡ old.text.ghost_name
  pub written : Written old.text.now old.at w new.at new.text.now
