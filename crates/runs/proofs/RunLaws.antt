-- Run lists: rising runs as facts, what such a list shows at a millimetre, and the run that shows it.
-- Assumes nothing.
use Rattle.std.proofs.Common.{◌≡◌, ℕ, ◌<◌, ◌≤◌, Bool, true, false, not, ◌&&◌, eqb, ltb, leb, ◌≢◌, ◌⊎◌, List, [], ◌∷◌, ◌++◌, length, sym, refl, ap, ◌∙◌, inl, inr, arith, ltb-true, le-ltb, lt-ltb, eq-eqb, eqb-true, le-leb, leb-true, if◌then◌else◌}
use native.Mathlib.Decide.{dec_lt}
use borrow.Author.Tests.{lt-leb, not-true}
use Rattle.std.proofs.lemmas.Bool.{and_from, and_parts, both_ways, cases_Bool}
use Rattle.runs.specs.declared.Stretch.{Stretch}
use Rattle.runs.specs.Level.{Has}
use Rattle.runs.specs.RunList.{most_runs, last_station, may_follow, rising_runs, is_run_list, shown_level, MayFollow, Rising}

apart : (a b c d : ℕ) → (a ≡ b → c ≢ d) → not (eqb a b && eqb c d) ≡ true
apart a b c d h = go (cases_Bool (eqb a b)) (cases_Bool (eqb c d))
  where
    go : (eqb a b ≡ true) ⊎ (eqb a b ≡ false) → (eqb c d ≡ true) ⊎ (eqb c d ≡ false) → not (eqb a b && eqb c d) ≡ true
    go (inl p) (inl q) = absurd (h (eqb-true _ _ p) (eqb-true _ _ q))
    go (inl p) (inr q) = rw (p, q)
    go (inr p) d = rw p

-- The tests, and the facts that they tell.
pub follows : (e v : ℕ) (r : Stretch) → may_follow e v r ≡ true → MayFollow e v r
unfolding may_follow
follows e v r h =
    let c2 = leb e r.start && ltb r.start r.end in
    let c3 = c2 && leb r.end last_station in
    let c4 = c3 && leb 1 r.level in
    let c5 = c4 && leb r.level 6 in
    let h5 = (and_parts c5 _ h).0 in
    let h4 = (and_parts c4 _ h5).0 in
    let h3 = (and_parts c3 _ h4).0 in
    let h2 = (and_parts c2 _ h3).0 in
    record {
      after = leb-true _ _ ((and_parts (leb e r.start) _ h2).0);
      long = ltb-true _ _ ((and_parts (leb e r.start) _ h2).1);
      ends = leb-true _ _ ((and_parts c2 _ h3).1);
      low = leb-true _ _ ((and_parts c3 _ h4).1);
      top = leb-true _ _ ((and_parts c4 _ h5).1);
      differs = λ p q. both_ways _ (not-true _ ((and_parts c5 _ h).1)) (and_from _ _ (eq-eqb _ _ p) (eq-eqb _ _ q));
    }

pub rising : (e v : ℕ) (rs : List Stretch) → rising_runs e v rs ≡ true → Rising e v rs
unfolding rising_runs
rising e v [] h = tt
rising e v (r ∷ rs) h = (follows e v r ((and_parts (may_follow e v r) _ h).0), rising r.end r.level rs ((and_parts (may_follow e v r) _ h).1))

pub rising_test : (e v : ℕ) (rs : List Stretch) → Rising e v rs → rising_runs e v rs ≡ true
unfolding rising_runs may_follow
rising_test e v [] h = refl
rising_test e v (r ∷ rs) h =
    let n = h.0 in
    and_from _ _ (and_from _ _ (and_from _ _ (and_from _ _ (and_from _ _ (and_from _ _ (le-leb _ _ n.after) (lt-ltb _ _ n.long)) (le-leb _ _ n.ends))
    (le-leb _ _ n.low)) (le-leb _ _ n.top))
    (apart e r.start v r.level n.differs)) (rising_test r.end r.level rs h.1)

-- A run list is short, and its runs rise.
pub run_list_short : (rs : List Stretch) → is_run_list rs ≡ true → length rs ≤ most_runs
unfolding is_run_list
run_list_short rs h = leb-true (length rs) most_runs ((and_parts _ (rising_runs 0 0 rs) h).0)

pub run_list_rising : (rs : List Stretch) → is_run_list rs ≡ true → Rising 0 0 rs
unfolding is_run_list
run_list_rising rs h = rising 0 0 rs ((and_parts (leb (length rs) most_runs) _ h).1)

pub list_test : (rs : List Stretch) → length rs ≤ most_runs → Rising 0 0 rs → is_run_list rs ≡ true
unfolding is_run_list
list_test rs short h = and_from _ _ (le-leb (length rs) most_runs short) (rising_test 0 0 rs h)

-- A run that follows one may follow another.
pub follow_other : {e v p w : ℕ} {r : Stretch} → p ≤ r.start → (p ≡ r.start → w ≢ r.level) → MayFollow e v r → MayFollow p w r
follow_other after differs n = record { after = after; long = n.long; ends = n.ends; low = n.low; top = n.top; differs = differs }

-- Rising runs may be seen from further back; where that is no further, with nothing before them.
pub rising_back : (e v p w : ℕ) (rs : List Stretch) → Rising e v rs → p ≤ e → (p ≡ e → w ≡ 0) → Rising p w rs
rising_back e v p w [] h l z = tt
rising_back e v p w (r ∷ rs) h l z =
    let n = h.0 in
    (follow_other (omega (arith, n.after)) (λ q k. omega (arith, n.low, z (omega (arith, n.after)))) n, h.1)

-- What a run list shows, by where t lies from its first run.
module _ (r : Stretch) (rs : List Stretch) (t : ℕ) where
  pub shown_in : r.start ≤ t → t < r.end → shown_level (r ∷ rs) t ≡ r.level
  unfolding shown_level
  shown_in a b = rw (le-leb _ _ a, lt-ltb _ _ b)

  pub shown_before : t < r.start → shown_level (r ∷ rs) t ≡ shown_level rs t
  unfolding shown_level
  shown_before a = rw (lt-leb r.start t a)

  pub shown_after : r.end ≤ t → shown_level (r ∷ rs) t ≡ shown_level rs t
  unfolding shown_level
  shown_after a = go (leb r.start t)
    where
      go : (b : Bool) → (if b && ltb t r.end then r.level else shown_level rs t) ≡ shown_level rs t
      go true = rw (le-ltb t r.end a)
      go false = refl

pub shown_nothing : (t : ℕ) → shown_level [] t ≡ 0
unfolding shown_level
shown_nothing t = refl

-- Nothing is shown before a rising list.
pub shown_zero : (e v : ℕ) (rs : List Stretch) → Rising e v rs → (t : ℕ) → t < e → shown_level rs t ≡ 0
unfolding shown_level
shown_zero e v [] h t l = refl
shown_zero e v (r ∷ rs) h t l =
    let n = h.0 in
    shown_before r rs t (omega arith) ∙ shown_zero r.end r.level rs h.1 t (omega arith)

-- A level above 0 is shown by a run that has the millimetre.
pub record ShownRun (rs : List Stretch) (t : ℕ) : Type 0 where
  pub run : Stretch
  pub before : List Stretch
  pub after : List Stretch
  pub split : rs ≡ before ++ run ∷ after
  pub has : Has run t
  pub level : shown_level rs t ≡ run.level

pub shown_run : (rs : List Stretch) (t : ℕ) → 0 < shown_level rs t → ShownRun rs t
shown_run [] t h = absurd (omega (arith, shown_nothing t))
shown_run (r ∷ rs) t h = go (dec_lt t r.start) (dec_lt t r.end) (shown_run rs t)
  where
    Rec : Type 0
    Rec = 0 < shown_level rs t → ShownRun rs t

    later : shown_level (r ∷ rs) t ≡ shown_level rs t → Rec → ShownRun (r ∷ rs) t
    later e rec =
        let w = rec (omega arith) in
        record {
          run = w.run;
          before = r ∷ w.before;
          after = w.after;
          split = ap (λ (l : List Stretch). r ∷ l) w.split;
          has = w.has;
          level = e ∙ w.level;
        }

    go : Dec (t < r.start) → Dec (t < r.end) → Rec → ShownRun (r ∷ rs) t
    go (yes a) b rec = later (shown_before r rs t a) rec
    go (no a) (yes b) rec = record { run = r; before = []; after = rs; split = refl; has = (omega arith, b); level = shown_in r rs t (omega arith) b }
    go (no a) (no b) rec = later (shown_after r rs t (omega arith)) rec

-- Just after a run its level is not shown.
pub not_shown : (e v : ℕ) (rs : List Stretch) → Rising e v rs → 1 ≤ v → shown_level rs e ≢ v
unfolding shown_level
not_shown e v [] h p q = absurd (omega arith)
not_shown e v (r ∷ rs) h p q = go (dec_lt e r.start)
  where
    n : MayFollow e v r
    n = h.0

    go : Dec (e < r.start) → ⊥
    go (yes l) =
        let z : shown_level (r ∷ rs) e ≡ 0 = shown_before r rs e l ∙ shown_zero r.end r.level rs h.1 e (omega (arith, n.long)) in
        let q' : shown_level (r ∷ rs) e ≡ v = q in
        omega arith
    go (no l) =
        let same : e ≡ r.start = omega (arith, n.after) in
        let z : shown_level (r ∷ rs) e ≡ r.level = shown_in r rs e (omega arith) (omega (arith, n.long)) in
        let q' : shown_level (r ∷ rs) e ≡ v = q in
        n.differs same (sym q' ∙ z)
