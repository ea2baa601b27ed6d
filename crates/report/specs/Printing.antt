-- The call's complete reply, and the text memory.
-- Assumes nothing.
use Rattle.std.specs.Prelude.{ℕ, List, Option, None, Some, length, leb, if◌then◌else◌}
use Rattle.number.specs.Number.{placed}
use Rattle.report.specs.Text.{reported}

-- Every report fits into this many bytes.
abbrev pub most_text : ℕ
most_text = 32768

-- How many bytes were printed; memory shorter than `most_text` is refused whatever the job.
unfoldable pub printing : (s text : List ℕ) → Option ℕ
printing s text = if leb most_text (length text) then Some (length (reported s)) else None

-- The memory afterwards: the report from the first byte on, and the bytes behind it untouched; unchanged where the memory is short.
unfoldable pub text_after : (s text : List ℕ) → List ℕ
text_after s text = if leb most_text (length text) then placed text 0 (reported s) else text
