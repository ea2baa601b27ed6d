-- Where lookup's record lies: a part of a slice with its bytes and its place in the slice's memory.
-- Assumes nothing.
use Rattle.std.specs.Prelude.{ℕ, ◌+◌, ◌-◌, ◌≡◌, List, Bool, Option, Some, None, if◌then◌else◌}
use Rattle.std.specs.Borrow.{Bor}
use Rattle.base.specs.Answer.{Answer, accepted, ◌>>=◌}
use Rattle.queries.specs.Lookup.{Part, Found, found, nowhere, part_bytes, Companion, some_run, no_run}
use Rattle.queries.specs.declared.reply.Place.{Place}

-- r is the part p of s: its bytes, in the same memory, from the part's first index on.
pub record IsPart (r s : Bor (List ℕ)) (p : Part) : Type 0 where
  pub bytes : r.now ≡ part_bytes p s.now
  pub block : r.ref_ptr.0 ≡ s.ref_ptr.0
  pub offset : r.ref_ptr.1 ≡ s.ref_ptr.1 + p.at

-- The part between two indices.
abbrev pub part_between : (start end : ℕ) → Part
part_between start end = record { at = start; len = end - start }

-- What the code says of a place, as lookup says it.
abbrev pub found_at : Option Place → Found
found_at (Some p) = found (part_between p.start p.end)
found_at None = nowhere

abbrev pub located : Answer (Option Place) → Answer Found
located a = a >>= λ o. accepted (found_at o)

-- What the code says to whether a run has the station, as the companion says it.
abbrev pub companion : Answer Bool → Answer Companion
companion a = a >>= λ b. accepted (if b then some_run else no_run)
