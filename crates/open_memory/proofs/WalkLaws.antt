-- The loops of the code, turn by turn.
-- Assumes nothing.
use Rattle.std.specs.Prelude.{if◌then◌else◌}
use Prim.Native.Nat.{ℕ, suc, ◌+◌, ◌-◌, ◌≤◌, ◌<◌}
use native.Mathlib.Omega.{arith}
use native.Mathlib.Decide.{ℕ_discrete}
use native.Mathlib.Nat.{zero-add}
use native.Mathlib.Numerals.{add-one}
use mathlib.Core.Path.{◌≡◌, refl, sym, ap, ap₂, subst, ◌∙◌}
use mathlib.Core.Bool.{true, false}
use mathlib.Core.List.{List, [], ◌∷◌, ◌++◌, append_assoc, append-nil}
use lib.ListN.{length, get_or, set, take, drop, replicate, length-set, length-append, length-drop, drop_of_length-le}
use lib.Seq.{drop-cons, take-take, get_or-take, get_or-drop, take-suc-set, length-take-le, drop-set-lt, drop-drop, set_split, take-set-le, drop-append_seam}
use lib.Dec.{ltb, eqb}
use borrow.Author.Tests.{lt-ltb, le-ltb, eq-eqb, ne_eqb}
use Rattle.job.specs.declared.NamedHazard.{NamedHazard}
use Rattle.job.specs.declared.StoredJob.{StoredJob}
use Rattle.job.specs.Reply.{unused}
use Rattle.open_memory.specs.Memory.{standing, laid_out, stands, is_open_job}
use Rattle.open_memory.specs.Steps.{ZerosAfter, rank, put_at, taken_at}
use Rattle.open_memory.proofs.RuleLaws.{open_count, open_standing}
use Rattle.open_memory.proofs.PlaceLaws.{stands_place, not_at_place}
use Rattle.job.specs.Job.{counted}

-- The element with an index before those behind it.
behind : (l : List NamedHazard) (i : ℕ) → i < length l → drop i l ≡ get_or l i unused ∷ drop (i + 1) l
behind l i h = drop-cons l i unused h ∙ ap (λ (n : ℕ). get_or l i unused ∷ drop n l) (sym (add-one i))

-- What is known in each loop

pub record RankLeft (job : StoredJob) (name i : ℕ) : Type 0 where
  pub most : i ≤ job.header.count
  pub same : i + rank name (drop i (standing job)) ≡ rank name (standing job)

-- The hazards from index i on stand one place up, and those before it are as they were.
pub record MovingUp (job : StoredJob) (at : ℕ) (hazards : List NamedHazard) (i : ℕ) : Type 0 where
  pub most : i ≤ job.header.count
  pub least : at ≤ i
  pub room : length hazards ≡ 256
  pub front : take i hazards ≡ take i job.hazards
  pub moved : drop (suc i) hazards ≡ drop i (standing job) ++ replicate (256 - (job.header.count + 1)) unused

-- The hazards before index i are in place, the one there is to go, and the others are as they were.
pub record MovingDown (job : StoredJob) (at : ℕ) (hazards : List NamedHazard) (i : ℕ) : Type 0 where
  pub most : i < job.header.count
  pub room : length hazards ≡ 256
  pub rest : drop i hazards ≡ drop i job.hazards
  pub same : take i hazards ++ drop (i + 1) (standing job) ≡ taken_at at (standing job)

-- The memory's array, and a count that fits it.
module _ (job : StoredJob) (size : length job.hazards ≡ 256) (few : job.header.count ≤ 256) where
  pub standing_length : length (standing job) ≡ job.header.count
  standing_length = length-take-le job.header.count job.hazards (omega arith)

  -- The hazard with an index among those that stand.
  ahead : (i : ℕ) → i < job.header.count → drop i (standing job) ≡ get_or job.hazards i unused ∷ drop (i + 1) (standing job)
  ahead i l = behind (standing job) i (omega (arith, standing_length))
      ∙ ap (λ (p : NamedHazard). p ∷ drop (i + 1) (standing job)) (get_or-take job.header.count job.hazards i unused l)

  none_ahead : (i : ℕ) → job.header.count ≤ i → drop i (standing job) ≡ []
  none_ahead i e = drop_of_length-le (standing job) {i = i} (omega (arith, standing_length))

  -- The place of a name

  module _ (name : ℕ) where
    pub rank_start : RankLeft job name 0
    rank_start = record { most = omega arith; same = zero-add (rank name (standing job)) }

    module _ {i : ℕ} (left : RankLeft job name i) (l : i < job.header.count) where
      rank_turn : i + (if ltb (get_or job.hazards i unused).name name then suc (rank name (drop (i + 1) (standing job))) else 0) ≡ rank name (standing job)
      unfolding rank
      rank_turn = sym (ap (λ (ps : List NamedHazard). i + rank name ps) (ahead i l)) ∙ left.same

      pub rank_next : (get_or job.hazards i unused).name < name → RankLeft job name (i + 1)
      rank_next e = record { most = omega arith; same = omega (arith, rw (lt-ltb (get_or job.hazards i unused).name name e) at rank_turn) }

      pub rank_here : name ≤ (get_or job.hazards i unused).name → i ≡ rank name (standing job)
      rank_here e = omega (arith, rw (le-ltb (get_or job.hazards i unused).name name e) at rank_turn)

    pub rank_last : {i : ℕ} → RankLeft job name i → job.header.count ≤ i → i ≡ rank name (standing job)
    unfolding rank
    rank_last {i} left e = omega (arith, sym (ap (λ (ps : List NamedHazard). i + rank name ps) (none_ahead i e)) ∙ left.same)

-- One place on, the others are as they were.
rest_next : (old hazards : List NamedHazard) (i : ℕ) (p : NamedHazard) → drop i hazards ≡ drop i old → drop (i + 1) (set hazards i p) ≡ drop (i + 1) old
rest_next old hazards i p e = drop-set-lt (i + 1) hazards i p (omega arith) ∙ sym (drop-drop 1 i hazards) ∙ ap (drop 1) e ∙ drop-drop 1 i old

pub rest_element : (old hazards : List NamedHazard) (i k : ℕ) → drop i hazards ≡ drop i old → get_or hazards (i + k) unused ≡ get_or old (i + k) unused
rest_element old hazards i k e = sym (get_or-drop i hazards k unused) ∙ ap (λ (l : List NamedHazard). get_or l k unused) e ∙ get_or-drop i old k unused

-- A hazard stored behind others.
stored_behind : (hazards : List NamedHazard) (p : NamedHazard) (i : ℕ) → i < length hazards → (rest : List NamedHazard)
    → take (i + 1) (set hazards i p) ++ rest ≡ take i hazards ++ p ∷ rest
stored_behind hazards p i l rest = ap (λ (front : List NamedHazard). front ++ rest)
    (ap (λ (k : ℕ). take k (set hazards i p)) (add-one i) ∙ take-suc-set hazards i p l) ∙ append_assoc (take i hazards) (p ∷ []) rest

-- One unused place less.
unused_tail : (i : ℕ) (l : List NamedHazard) → i < 256 → drop i l ≡ replicate (256 - i) unused → drop (suc i) l ≡ replicate (256 - (i + 1)) unused
unused_tail i l h e =
    let n : 256 - i ≡ suc (256 - (i + 1)) = omega arith in
    ap (λ (k : ℕ). drop k l) (sym (add-one i)) ∙ sym (drop-drop 1 i l) ∙ ap (drop 1) (e ∙ ap (λ (k : ℕ). replicate k unused) n)

module _ (job : StoredJob) (size : length job.hazards ≡ 256) (clear : ZerosAfter job) where
  -- Hazards laid out behind the header.
  laid : (n : ℕ) (ps hazards : List NamedHazard) → length ps ≡ n → hazards ≡ ps ++ replicate (256 - n) unused
      → record { header = counted job.header n; hazards = hazards } ≡ laid_out job.header ps
  laid n ps hazards e b = subst (λ (k : ℕ). record { header = counted job.header k; hazards = hazards } ≡ laid_out job.header ps) e
      (ap (λ (l : List NamedHazard). record { header = counted job.header (length ps); hazards = l })
      (b ∙ ap (λ (k : ℕ). ps ++ replicate (256 - k) unused) (sym e)))

  -- Putting in
  module _ (few : job.header.count < 256) (at : ℕ) (within : at ≤ job.header.count) (new : NamedHazard) where
    abbrev zeros : List NamedHazard
    zeros = replicate (256 - (job.header.count + 1)) unused

    pub up_start : MovingUp job at job.hazards job.header.count
    up_start = record {
      most = omega arith;
      least = within;
      room = size;
      front = refl;
      moved = unused_tail job.header.count job.hazards few clear.behind
          ∙ ap (λ (l : List NamedHazard). l ++ zeros) (sym (none_ahead job size (omega arith) job.header.count (omega arith)));
    }

    pub up_next : {hazards : List NamedHazard} {i : ℕ} → MovingUp job at hazards i → at < i → MovingUp job at (set hazards i (get_or hazards (i - 1) unused))
        (i - 1)
    up_next {hazards} {i} so l =
        let k = i - 1 in
        let x = get_or hazards k unused in
        let up : suc k ≡ i = omega arith in
        let next : x ≡ get_or job.hazards k unused = sym (get_or-take i hazards k unused (omega arith)) ∙ ap (λ (q : List NamedHazard). get_or q k unused) so.front
        ∙ get_or-take i job.hazards k unused (omega arith) in
        let behind_it : drop i (set hazards i x) ≡ x ∷ drop (suc i) hazards = ap (drop i) (set_split hazards i x (omega (arith, so.room, so.most)))
        ∙ subst (λ (n : ℕ). drop n (take i hazards ++ x ∷ drop (suc i) hazards) ≡ x ∷ drop (suc i) hazards)
        (length-take-le i hazards (omega (arith, so.room, so.most))) (drop-append_seam (take i hazards) (x ∷ drop (suc i) hazards)) in
        record {
          most = omega (arith, so.most);
          least = omega arith;
          room = rw length-set so.room;
          front = take-set-le k hazards i x (omega arith) ∙ sym (take-take k i hazards (omega arith)) ∙ ap (take k) so.front
              ∙ take-take k i job.hazards (omega arith);
          moved = ap (λ (n : ℕ). drop n (set hazards i x)) up ∙ behind_it ∙ ap (λ (q : List NamedHazard). x ∷ q) so.moved
              ∙ ap (λ (q : List NamedHazard). q ++ zeros)
              (ap₂ (λ (p : NamedHazard) (n : ℕ). p ∷ drop n (standing job)) next (sym up ∙ sym (add-one k)) ∙ sym (ahead job size (omega arith) k (omega
              (arith, so.most))));
        }

    pub up_end : {hazards : List NamedHazard} {i : ℕ} → MovingUp job at hazards i → i ≤ at
        → record { header = counted job.header (job.header.count + 1); hazards = set hazards at new } ≡ laid_out job.header (put_at at new (standing job))
    up_end {hazards} {i} so e =
        let n = job.header.count in
        let here = subst (λ (k : ℕ). (take k hazards ≡ take k job.hazards) × (drop (suc k) hazards ≡ drop k (standing job) ++ zeros))
        (let last : i ≡ at = omega (arith, so.least) in last) (so.front, so.moved) in
        let whole : length (standing job) ≡ n = standing_length job size (omega arith) in
        let number : length (put_at at new (standing job)) ≡ n + 1 = length-append (take at (standing job)) (new ∷ drop at (standing job))
        ∙ (let z : length (take at (standing job)) + suc (length (drop at (standing job))) ≡ n + 1 =
        omega (arith, length-take-le at (standing job) (omega (arith, whole)), length-drop at (standing job)) in z) in
        laid (n + 1) (put_at at new (standing job)) (set hazards at new) number
        (set_split hazards at new (omega (arith, so.room))
        ∙ ap₂ (λ (a b : List NamedHazard). a ++ new ∷ b) (here.0 ∙ sym (take-take at n job.hazards within)) here.1
        ∙ sym (append_assoc (take at (standing job)) (new ∷ drop at (standing job)) zeros))

  -- Taking out
  module _ (few : job.header.count ≤ 256) (at : ℕ) (within : at < job.header.count) where
    pub down_start : MovingDown job at job.hazards at
    down_start = record {
      most = within;
      room = size;
      rest = refl;
      same = ap₂ (λ (l : List NamedHazard) (k : ℕ). l ++ drop k (standing job)) (sym (take-take at job.header.count job.hazards (omega arith)))
          (add-one at);
    }

    pub down_next : {hazards : List NamedHazard} {i : ℕ} → MovingDown job at hazards i → i + 1 < job.header.count
        → MovingDown job at (set hazards i (get_or hazards (i + 1) unused)) (i + 1)
    down_next {hazards} {i} so l =
        let p = get_or hazards (i + 1) unused in
        let next : p ≡ get_or job.hazards (i + 1) unused = rest_element job.hazards hazards i 1 so.rest in
        record {
          most = l;
          room = rw length-set so.room;
          rest = rest_next job.hazards hazards i p so.rest;
          same =
              stored_behind hazards p i (omega (arith, so.room)) (drop (i + 1 + 1) (standing job))
              ∙ ap (λ (l : List NamedHazard). take i hazards ++ l)
              (ap (λ (q : NamedHazard). q ∷ drop (i + 1 + 1) (standing job)) next ∙ sym (ahead job size few (i + 1) l))
              ∙ so.same;
        }

    pub down_end : {hazards : List NamedHazard} {i : ℕ} → MovingDown job at hazards i → job.header.count ≤ i + 1
        → record { header = counted job.header (job.header.count - 1); hazards = set hazards (job.header.count - 1) unused }
        ≡ laid_out job.header (taken_at at (standing job))
    down_end {hazards} {i} so e =
        let n = job.header.count in
        let k = n - 1 in
        let here = subst (λ (x : ℕ). (drop x hazards ≡ drop x job.hazards) × (take x hazards ++ drop (x + 1) (standing job) ≡ taken_at at (standing job)))
        (let last : i ≡ k = omega (arith, so.most) in last) (so.rest, so.same) in
        let whole : take k hazards ≡ taken_at at (standing job) = sym (append-nil (take k hazards))
        ∙ ap (λ (l : List NamedHazard). take k hazards ++ l) (sym (none_ahead job size few (k + 1) (omega arith))) ∙ here.1 in
        let up : k + 1 ≡ n = omega arith in
        let rest : drop (suc k) hazards ≡ replicate (256 - n) unused =
        ap (λ (x : ℕ). drop x hazards) (sym (add-one k)) ∙ sym (drop-drop 1 k hazards) ∙ ap (drop 1) here.0 ∙ drop-drop 1 k job.hazards
        ∙ ap (λ (x : ℕ). drop x job.hazards) up ∙ clear.behind in
        let number : length (taken_at at (standing job)) ≡ k = sym (ap length whole) ∙ length-take-le k hazards (omega (arith, so.room)) in
        let more : suc (256 - n) ≡ 256 - k = omega arith in
        laid k (taken_at at (standing job)) (set hazards k unused) number
        (set_split hazards k unused (omega (arith, so.room)) ∙ ap₂ (λ (a b : List NamedHazard). a ++ unused ∷ b) whole rest
        ∙ ap (λ (x : ℕ). taken_at at (standing job) ++ replicate x unused) more)

-- Whether a name stands, by the hazard at its place
module _ (m : StoredJob) (good : is_open_job m ≡ true) (size : length m.hazards ≡ 256) (name at : ℕ) (place : at ≡ rank name (standing m)) where
  there : Dec ((get_or m.hazards at unused).name ≡ name) → at < m.header.count → eqb (get_or m.hazards at unused).name name ≡ stands name (standing m)
  there d l =
      let number = standing_length m size (open_count m good) in
      let own : get_or (standing m) (rank name (standing m)) unused ≡ get_or m.hazards at unused =
      ap (λ (k : ℕ). get_or (standing m) k unused) (sym place) ∙ get_or-take m.header.count m.hazards at unused l in
      go d own (omega arith)
    where
      go : Dec ((get_or m.hazards at unused).name ≡ name) → get_or (standing m) (rank name (standing m)) unused ≡ get_or m.hazards at unused
          → rank name (standing m) < length (standing m) → eqb (get_or m.hazards at unused).name name ≡ stands name (standing m)
      go (yes e) own within = eq-eqb _ name e ∙ sym
          (stands_place m.header name unused 0 (standing m) (open_standing m good) (within, ap (λ (p : NamedHazard). p.name) own ∙ e))
      go (no e) own within = ne_eqb _ name e ∙ sym
          (not_at_place m.header name unused 0 (standing m) (open_standing m good) (λ w. e (sym (ap (λ (p : NamedHazard). p.name) own) ∙ w.1)))

  pub stands_tested : at < m.header.count → eqb (get_or m.hazards at unused).name name ≡ stands name (standing m)
  stands_tested l = there (ℕ_discrete (get_or m.hazards at unused).name name) l

  pub stands_beyond : m.header.count ≤ at → false ≡ stands name (standing m)
  stands_beyond l =
      let number = standing_length m size (open_count m good) in
      sym (not_at_place m.header name unused 0 (standing m) (open_standing m good) (λ w. omega (arith, w.0)))
