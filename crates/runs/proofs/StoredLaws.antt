-- Laws of stored runs, for loops that take them one by one or put them behind each other.
-- Assumes nothing.
use Rattle.std.proofs.Common.{◌≡◌, ℕ, zero, suc, ◌+◌, ◌-◌, ◌<◌, ◌≤◌, true, List, [], ◌∷◌, ◌++◌, map, length, get_or, take, drop, set, replicate, sym, refl, ap, ◌∙◌, append_assoc, append-nil, add-one, arith, length-append, take-append-drop, length-take-le, drop-cons, ext_get_or, drop_at, set-set}
use native.Mathlib.Decide.{dec_lt}
use mathlib.Core.List.{map-append}
use lib.ListN.{length-map, length-replicate, replicate-append-replicate, get_or-append, get_or-map}
use lib.Seq.{get_or_at, set_at}
use Rattle.base.specs.Stored.{padded}
use Rattle.base.proofs.StoredLaws.{padded_more, padded_clear}
use Rattle.runs.specs.declared.Stretch.{Stretch}
use Rattle.runs.specs.declared.RunList.{RunList}
use Rattle.runs.specs.RunList.{most_runs, is_run_list, last_end, runs_to, runs_of, MayFollow, Rising}
use Rattle.runs.specs.Stored.{column, stored_runs}
use Rattle.runs.proofs.RunLaws.{run_list_rising, run_list_short}
use Rattle.runs.proofs.RunsOfLaws.{stretch_path}

-- The level of the last of the runs; v where there is none.
abbrev pub last_level : ℕ → List Stretch → ℕ
last_level v [] = v
last_level v (r ∷ rs) = last_level r.level rs

-- Behind rising runs the next one follows the last.
pub next_after : (e v : ℕ) (rs : List Stretch) (r : Stretch) (ss : List Stretch) → Rising e v (rs ++ r ∷ ss) → MayFollow (last_end e rs) (last_level v rs) r
next_after e v [] r ss h = h.0
next_after e v (x ∷ rs) r ss h = next_after x.end x.level rs r ss h.1

abbrev pub no_stretch : Stretch
no_stretch = record { start = 0; end = 0; level = 0 }

module _ (starts ends levels : List ℕ) where
  -- The i-th run, and the first i.
  abbrev pub run : ℕ → Stretch
  run i = record { start = get_or starts i 0; end = get_or ends i 0; level = get_or levels i 0 }

  abbrev pub first_runs : ℕ → List Stretch
  first_runs i = runs_to starts ends levels i

  pub runs_none : first_runs 0 ≡ []
  unfolding runs_to
  runs_none = refl

  pub runs_more : (i : ℕ) → first_runs (i + 1) ≡ first_runs i ++ run i ∷ []
  unfolding runs_to
  runs_more i = rw (add-one i)

  pub runs_length : (i : ℕ) → length (first_runs i) ≡ i
  unfolding runs_to
  runs_length zero = refl
  runs_length (suc i) = rw (length-append (first_runs i) (run i ∷ [])) (omega (arith, runs_length i))

  -- Run i among the first n.
  pub record Behind (i n : ℕ) : Type 0 where
    pub rest : List Stretch
    pub split : first_runs n ≡ first_runs i ++ run i ∷ rest

  pub behind : (i n : ℕ) → i < n → Behind i n
  unfolding runs_to
  behind i zero h = absurd (omega arith)
  behind i (suc n) h = go (dec_lt i n) (behind i n)
    where
      go : Dec (i < n) → (i < n → Behind i n) → Behind i (suc n)
      go (yes l) r = let b = r l in record { rest = b.rest ++ run n ∷ []; split = rw b.split (append_assoc (first_runs i) (run i ∷ b.rest) (run n ∷ [])) }
      go (no l) r = record { rest = []; split = ap (λ (k : ℕ). first_runs k ++ run k ∷ []) (let e : n ≡ i = omega arith in e) }

  run_at : (i n : ℕ) → i < n → get_or (first_runs n) i no_stretch ≡ run i
  run_at i n h = let b = behind i n h in rw b.split (get_or_at (first_runs i) (run i) b.rest no_stretch i (runs_length i))

  module _ (n : ℕ) (list : is_run_list (first_runs n) ≡ true) where
    -- Each run of a run list follows those before it.
    pub run_next : (i : ℕ) → i < n → MayFollow (last_end 0 (first_runs i)) (last_level 0 (first_runs i)) (run i)
    run_next i l =
        let b = behind i n l in
        next_after 0 0 (first_runs i) (run i) b.rest (rw b.split at (run_list_rising (first_runs n) list))

    pub count_top : n ≤ most_runs
    count_top = omega (arith, runs_length n, run_list_short (first_runs n) list)

-- Runs as they are stored.

module _ (places : ℕ) (number : Stretch → ℕ) (rs : List Stretch) where
  column_at : (i : ℕ) → i < length rs → get_or (column places number rs) i (number no_stretch) ≡ number (get_or rs i no_stretch)
  column_at i h = get_or-append (map number rs) _ _ i (omega (arith, length-map rs number)) ∙ get_or-map number rs i no_stretch

  column_clear : set (column places number rs) (length rs) 0 ≡ column places number rs
  column_clear = rw (sym (length-map rs number)) (padded_clear places 0 (map number rs))

  pub column_more : (r : Stretch) → length rs < places → set (column places number rs) (length rs) (number r) ≡ column places number (rs ++ r ∷ [])
  column_more r h =
      let same = length-map rs number in
      rw (map-append number rs (r ∷ []), sym same) (padded_more places 0 (map number rs) (number r) (omega arith))

-- The arrays store what they were made of.
pub columns_stored : (places : ℕ) (rs : List Stretch)
    → runs_to (column places (λ r. r.start) rs) (column places (λ r. r.end) rs) (column places (λ r. r.level) rs) (length rs) ≡ rs
columns_stored places rs =
    let n = runs_length (column places (λ r. r.start) rs) (column places (λ r. r.end) rs) (column places (λ r. r.level) rs) (length rs) in
    ext_get_or no_stretch _ rs n
    (λ i h. run_at _ _ _ i (length rs) (omega arith)
    ∙ stretch_path _ _ (column_at places (λ r. r.start) rs i (omega arith)) (column_at places (λ r. r.end) rs i (omega arith))
    (column_at places (λ r. r.level) rs i (omega arith)))

pub runs_stored : (rs : List Stretch) → runs_of (stored_runs rs) ≡ rs
runs_stored = columns_stored 512

-- Zeros stored from a place on, one by one: those up to place i.
module _ (old : List ℕ) (first : ℕ) where
  pub zeros_none : old ≡ take first old ++ replicate (first - first) 0 ++ drop first old
  zeros_none =
      let none : first - first ≡ 0 = omega arith in
      rw (none, append-nil (take first old)) (sym (take-append-drop first old))

  pub zeros_more : (i : ℕ) → first ≤ i → i < length old
      → set (take first old ++ replicate (i - first) 0 ++ drop i old) i 0 ≡ take first old ++ replicate (i + 1 - first) 0 ++ drop (i + 1) old
  zeros_more i h k =
      let more : i + 1 - first ≡ i - first + 1 = omega arith in
      let front = take first old ++ replicate (i - first) 0 in
      let long : length front ≡ i =
      length-append (take first old) (replicate (i - first) 0)
      ∙ omega (arith, length-take-le first old (omega arith), length-replicate {A = ℕ} (i - first) 0) in
      rw (drop-cons old i 0 k, more, sym (replicate-append-replicate {A = ℕ} (i - first) 1 0), add-one i)
      (set_at front (get_or old i 0) (drop (suc i) old) 0 i long ∙ sym (append_assoc front (0 ∷ []) (drop (suc i) old))
      ∙ ap (λ (x : List ℕ). x ++ drop (suc i) old) (append_assoc (take first old) (replicate (i - first) 0) (0 ∷ [])))

  -- Where zeros stand behind those, there are zeros up to the end.
  pub zeros_all : (n i : ℕ) → first ≤ i → i ≤ n → n ≤ length old → drop i old ≡ replicate (n - i) 0
      → take first old ++ replicate (i - first) 0 ++ drop i old ≡ padded n 0 (take first old)
  zeros_all n i h k l e =
      let all : i - first + (n - i) ≡ n - first = omega arith in
      rw (e, length-take-le first old (omega arith), sym all, sym (replicate-append-replicate {A = ℕ} (i - first) (n - i) 0))
      (append_assoc (take first old) (replicate (i - first) 0) (replicate (n - i) 0))

-- Behind the first i of n zeros there are zeros.
pub zeros_left : (n i : ℕ) → i ≤ n → drop {A = ℕ} i (replicate n 0) ≡ replicate (n - i) 0
zeros_left n i h =
    let all : i + (n - i) ≡ n = omega arith in
    ap (λ (m : ℕ). drop {A = ℕ} i (replicate m 0)) (sym all)
    ∙ rw (sym (replicate-append-replicate {A = ℕ} i (n - i) 0)) (drop_at (replicate i 0) (replicate (n - i) 0) i (length-replicate {A = ℕ} i 0))

-- A stretch put behind the runs of a list, which then has n of them; and zeros put there.
abbrev pub with_next : RunList → Stretch → (n : ℕ) → RunList
with_next l r n = record {
  count = n;
  starts = set l.starts l.count r.start;
  ends = set l.ends l.count r.end;
  levels = set l.levels l.count r.level;
}

abbrev pub cleared : RunList → RunList
cleared l = with_next l no_stretch l.count

stored_cleared : (rs : List Stretch) → cleared (stored_runs rs) ≡ stored_runs rs
stored_cleared rs = cc (column_clear 512 (λ x. x.start) rs, column_clear 512 (λ x. x.end) rs, column_clear 512 (λ x. x.level) rs)

next_stored : (l : RunList) (rs : List Stretch) (r : Stretch) → l ≡ stored_runs rs → l.count < 512 → with_next l r (l.count + 1) ≡ stored_runs (rs ++ r ∷ [])
next_stored l rs r e room =
    let h : length rs < 512 = omega (arith, ap (λ (x : RunList). x.count) e) in
    rw e (cc (length-append rs (r ∷ []), column_more 512 (λ x. x.start) rs r h, column_more 512 (λ x. x.end) rs r h, column_more 512 (λ x. x.level) rs r h))

-- What is put behind stored runs is one more of them, or nothing where it is not counted.
module _ (l : RunList) (rs : List Stretch) (r : Stretch) (e : cleared l ≡ stored_runs rs) where
  pub stored_more : l.count < 512 → cleared (with_next l r (l.count + 1)) ≡ stored_runs (rs ++ r ∷ [])
  stored_more room = ap cleared (simp set-set at (next_stored (cleared l) rs r e room)) ∙ stored_cleared (rs ++ r ∷ [])

  pub stored_same : cleared (with_next l r l.count) ≡ stored_runs rs
  stored_same = simp set-set e
