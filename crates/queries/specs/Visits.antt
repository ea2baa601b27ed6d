-- What is known between two records of a walk, for each call that makes one.
-- Assumes nothing.
use Rattle.std.specs.Prelude.{ℕ, ◌+◌, ◌≤◌, ◌≡◌, List, length, Some, ltb, if◌then◌else◌}
use Rattle.base.specs.Answer.{Answer, accepted, ◌>>=◌}
use Rattle.number.specs.Number.{write_number}
use Rattle.runs.specs.declared.Stretch.{Stretch}
use Rattle.runs.specs.RunList.{most_runs}
use Rattle.schedule.specs.Schedule.{or_ten, read_records, read_schedule}
use Rattle.queries.specs.Lookup.{Found, found, nowhere, find_record}
use Rattle.queries.specs.Place.{found_at}
use Rattle.queries.specs.Walk.{overlaps, Between}
use Rattle.queries.specs.Sums.{below, Noted}
use Rattle.queries.specs.declared.reply.Place.{Place}

-- What the runs read come to.
abbrev pub then_runs : {A : Type 0} → Answer (List Stretch) → (List Stretch → A) → Answer A
then_runs w f = w >>= λ rs. accepted (f rs)

-- Between two records, k before the end: what all runs come to, f, is what those from here on come to, g.
pub record Rest {A : Type 0} (s : List ℕ) (f : List Stretch → A) (k e v at : ℕ) (g : List Stretch → A) : Type 0 where
  pub same : then_runs (read_schedule s) f ≡ then_runs (or_ten (read_records k e v s at)) g

-- For a quantity: the overlaps are the sum so far and those of the runs from here on, and the sum has room.
abbrev pub Summed : (s : List ℕ) (v p q sum k e last at : ℕ) → Type 0
Summed s v p q sum k e last at = Rest s (λ rs. overlaps rs v p q) k e last at (λ rs. sum + overlaps rs v p q)

pub record Summing (s : List ℕ) (v p q : ℕ) (b : Between) (sum : ℕ) : Type 0 where
  pub summed : Summed s v p q sum b.left b.end b.level b.at
  pub fits : sum ≤ b.end

-- For lookup: where the record is among all runs is what was found so far, or what the runs from here on have.
abbrev pub or_later : Found → Found → Found
or_later (found p) later = found p
or_later nowhere later = later

-- The place found so far, where its run reaches beyond t.
abbrev pub so_far : (p : Place) (reached t : ℕ) → Found
so_far p reached t = if ltb t reached then found_at (Some p) else nowhere

pub record Seeking (s : List ℕ) (t : ℕ) (b : Between) (p : Place) (reached : ℕ) : Type 0 where
  pub sought : Rest s (λ rs. find_record 0 (length (write_number (length rs))) rs t) b.left b.end b.level b.at
      (λ rs. or_later (so_far p reached t) (find_record b.end b.at rs t))
  pub near : reached ≤ b.end

-- For quantities: of each station, what lies below it is what the runs noted have there and what the runs from here on have.
pub record Tallying (s : List ℕ) (level : ℕ) (b : Between) (starts sums : List ℕ) (noted : ℕ) : Type 0 where
  pub kept : Noted starts sums noted b.end
  pub few : noted + b.left ≤ most_runs
  pub runs : (t : ℕ) → Summed s level 0 t (below starts sums noted t) b.left b.end b.level b.at
