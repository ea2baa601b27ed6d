-- The required runs: the runs of the required level, made to compute.
-- Assumes nothing.
use Rattle.std.specs.Prelude.{ℕ, ◌&&◌, List, [], ◌∷◌, ◌==◌, nat_le, nat_lt, if◌then◌else◌}
use Rattle.runs.specs.declared.Stretch.{Stretch}
use Rattle.runs.specs.Level.{required_level}

-- A station put into a rising list (insertion sort).
unfoldable pub insert_station : ℕ → List ℕ → List ℕ
insert_station x [] = x ∷ []
insert_station x (y ∷ ys) = let r = insert_station x ys in if nat_le x y then x ∷ y ∷ ys else y ∷ r

-- The starts and ends of the envelopes, rising: the level can change only there.
unfoldable pub end_points : List Stretch → List ℕ
end_points [] = []
end_points (e ∷ es) = insert_station e.start (insert_station e.end (end_points es))

-- A stretch put before a rising list of runs: left out where it is empty or has level 0; made one with the first run where the two touch and have one level.
unfoldable pub put : Stretch → List Stretch → List Stretch
put r [] = if nat_lt r.start r.end && nat_lt 0 r.level then r ∷ [] else []
put r (x ∷ xs) =
    if nat_lt r.start r.end && nat_lt 0 r.level
    then if r.end == x.start && r.level == x.level
    then record { start = r.start; end = x.end; level = r.level } ∷ xs
    else r ∷ x ∷ xs
    else x ∷ xs

-- The runs of a level f that changes only at the stations of a rising list.
unfoldable pub runs_between : (f : ℕ → ℕ) → List ℕ → List Stretch
runs_between f [] = []
runs_between f (p ∷ []) = []
runs_between f (p ∷ q ∷ ps) = put (record { start = p; end = q; level = f p }) (runs_between f (q ∷ ps))

-- The runs of the required level; `IsRun` has the paper's words, and the laws show that these are the runs so described.
unfoldable pub required_runs : List Stretch → (G : ℕ) → List Stretch
required_runs es G = runs_between (required_level es G) (end_points es)
