-- The required runs are the run list of the required level, and few enough for one.
-- Assumes nothing.
use Rattle.std.proofs.Common.{◌≡◌, ℕ, suc, ◌-◌, ◌<◌, ◌≤◌, Bool, true, false, ◌&&◌, eqb, ltb, ◌⊎◌, List, [], ◌∷◌, length, sym, refl, ◌∙◌, subst, inl, inr, arith, ltb-true, lt-ltb, eq-eqb, eqb-true, if◌then◌else◌}
use native.Mathlib.Decide.{dec_lt}
use mathlib.Core.List.Memᴰ
use mathlib.Core.List.{Memᴰ}
use Rattle.std.proofs.lemmas.Bool.{and_from, and_parts, both_ways}
use Rattle.base.proofs.ListLaws.{cons_each}
use Rattle.runs.specs.declared.Stretch.{Stretch}
use Rattle.runs.specs.Level.{Has, required_level, Proper}
use Rattle.runs.specs.Required.{put, end_points, runs_between, required_runs}
use Rattle.runs.specs.RunList.{last_station, is_run_list, MayFollow, RunsOf}
use Rattle.base.proofs.OrderLaws.{le_of_not_lt}
use Rattle.runs.proofs.LevelLaws.{EndsBy, level_top}
use Rattle.runs.proofs.RunLaws.{list_test, follow_other, shown_in, shown_nothing}
use Rattle.runs.proofs.RunsOfLaws.{RunsFrom, runs_cons, runs_skip, runs_all, runs_rest}
use Rattle.runs.proofs.PointLaws.{RisingPoints, points_rise, points_length, points_each, level_past, level_early, level_stays}

-- A stretch of one level put before runs: left out, in front, or made one with the first.
module _ (f : ℕ → ℕ) (r : Stretch) (order : r.start ≤ r.end) (top : r.level ≤ 6) (ends : r.end ≤ last_station)
    (flat : (t : ℕ) → Has r t → r.level ≡ f t) where
  real : Bool
  real = ltb r.start r.end && ltb 0 r.level

  -- Runs from the start of the stretch on, at most one more than there were.
  Put : (rs new : List Stretch) → Type 0
  Put rs new = RunsFrom f r.start 0 new × (length new ≤ suc (length rs))

  left_out : real ≡ false → (rs : List Stretch) → RunsFrom f r.end 0 rs → Put rs rs
  unfolding real Put
  left_out e rs s = (runs_skip r.end 0 r.start 0 order (λ _. refl) (λ t a b. omega (arith, flat t (a, b), none t a b)) s, omega arith)
    where
      none : (t : ℕ) → r.start ≤ t → t < r.end → r.level ≤ 0
      none t a b = le_of_not_lt (λ p. both_ways _ e (and_from _ _ (lt-ltb r.start r.end (omega arith)) (lt-ltb 0 r.level p)))

  first_run : real ≡ true → MayFollow r.start 0 r
  unfolding real
  first_run e =
      let long : r.start < r.end = ltb-true _ _ ((and_parts _ (ltb 0 r.level) e).0) in
      let low : 0 < r.level = ltb-true _ _ ((and_parts (ltb r.start r.end) _ e).1) in
      record { after = omega arith; long = long; ends = ends; low = low; top = top; differs = λ _ q. absurd (omega arith) }

  in_front : real ≡ true → (rs : List Stretch) → RunsFrom f r.end r.level rs → Put rs (r ∷ rs)
  unfolding Put
  in_front e rs s = (runs_cons r 0 (first_run e) flat s, omega arith)

  made_one : real ≡ true → (x : Stretch) (xs : List Stretch) → r.end ≡ x.start → r.level ≡ x.level → RunsFrom f r.end 0 (x ∷ xs)
      → Put (x ∷ xs) (record { start = r.start; end = x.end; level = r.level } ∷ xs)
  unfolding Put
  made_one e x xs p l s =
      let n = s.rising.0 in
      let m = first_run e in (
        runs_cons (record { start = r.start; end = x.end; level = r.level }) 0
            (record { after = omega arith; long = omega (arith, n.long, m.long); ends = n.ends; low = m.low; top = top; differs = m.differs })
            (λ t h. at t h (dec_lt t r.end)) (subst (λ (v : ℕ). RunsFrom f x.end v xs) (sym l) (runs_rest r.end 0 x s)),
        omega arith,
      )
    where
      at : (t : ℕ) → (r.start ≤ t) × (t < x.end) → Dec (t < r.end) → r.level ≡ f t
      at t h (yes k) = flat t (h.0, k)
      at t h (no k) = l ∙ sym (shown_in x xs t (omega arith) h.1) ∙ s.shows t (omega arith)

  pub put_runs : (rs : List Stretch) → RunsFrom f r.end 0 rs → RunsFrom f r.start 0 (put r rs) × (length (put r rs) ≤ suc (length rs))
  unfolding put real Put
  put_runs [] s = go real refl
    where
      go : (b : Bool) → real ≡ b → Put [] (if b then r ∷ [] else [])
      go true e = in_front e [] (record { rising = tt; shows = s.shows })
      go false e = left_out e [] s
  put_runs (x ∷ xs) s = go real refl (eqb r.end x.start && eqb r.level x.level) refl
    where
      go : (b : Bool) → real ≡ b → (c : Bool) → (eqb r.end x.start && eqb r.level x.level) ≡ c
          → Put (x ∷ xs) (if b then if c then record { start = r.start; end = x.end; level = r.level } ∷ xs else r ∷ x ∷ xs else x ∷ xs)
      go false e c d = left_out e (x ∷ xs) s
      go true e true d = made_one e x xs (eqb-true _ _ ((and_parts _ (eqb r.level x.level) d).0)) (eqb-true _ _ ((and_parts (eqb r.end x.start) _ d).1)) s
      go true e false d =
          let n = s.rising.0 in
          in_front e (x ∷ xs) (record {
            rising = (follow_other n.after (λ p q. both_ways _ d (and_from _ _ (eq-eqb _ _ p) (eq-eqb _ _ q))) n, s.rising.1);
            shows = s.shows;
          })

-- What stands behind the first of a rising list.
not_first : {x p : ℕ} {ps : List ℕ} → Memᴰ x (p ∷ ps) → p < x → Memᴰ x ps
not_first {x} {p} {ps} m h = go (Memᴰ.cases_cons m)
  where
    go : (x ≡ p) ⊎ Memᴰ x ps → Memᴰ x ps
    go (inl e) = absurd (omega arith)
    go (inr k) = k

module _ (es : List Stretch) (G : ℕ) where
  f : ℕ → ℕ
  f = required_level es G

  -- The end points from p on are left.
  runs_on : (p : ℕ) (ps : List ℕ) → RisingPoints (p ∷ ps) → ((x : ℕ) → Memᴰ x ps → x ≤ last_station)
      → ((x : ℕ) → Memᴰ x (end_points es) → p < x → Memᴰ x ps)
      → RunsFrom f p 0 (runs_between f (p ∷ ps)) × (length (runs_between f (p ∷ ps)) ≤ length ps)
  unfolding runs_between f
  runs_on p [] s by left = (
    record { rising = tt; shows = λ t h. shown_nothing t ∙ sym (level_past es G t (λ x m. le_of_not_lt (λ k. Memᴰ.not-nil (left x m (omega arith))))) },
    omega arith,
  )
  runs_on p (q ∷ ps) s by left =
      let le : p ≤ q = s.0 q (Memᴰ.head refl) in
      let rest = runs_on q ps s.1 (λ x m. by x (Memᴰ.tail m)) (λ x m h. not_first (left x m (omega arith)) h) in
      let least = cons_each (λ x. q ≤ x) {y = q} (omega arith) s.1.0 in
      let w =
      put_runs f (record { start = p; end = q; level = f p }) le (level_top es G p) (by q (Memᴰ.head refl))
      (λ t h. sym (level_stays es G t p h.0 (λ x m k. omega (arith, least x (left x m k), h.1)))) (runs_between f (q ∷ ps)) rest.0
      in
      (w.0, omega (arith, w.1, rest.1))

  runs_points : (ps : List ℕ) → end_points es ≡ ps → ((x : ℕ) → Memᴰ x ps → x ≤ last_station) → RisingPoints ps
      → RunsOf f (runs_between f ps) × (length (runs_between f ps) ≤ length ps - 1)
  unfolding runs_between f
  runs_points [] e by s =
      (record { rising = tt; shows = λ t. shown_nothing t ∙ sym (level_past es G t (λ x m. absurd (Memᴰ.not-nil (rw e at m)))) }, omega arith)
  runs_points (p ∷ ps) e by s =
      let w = runs_on p ps s (λ x m. by x (Memᴰ.tail m)) (λ x m h. not_first (rw e at m) h) in
      let least = cons_each (λ x. p ≤ x) {y = p} (omega arith) s.0 in
      (runs_all p 0 (λ t h. level_early es G t (λ x m. omega (arith, least x (rw e at m)))) w.0, omega (arith, w.1))

  module _ (proper : Proper es) (by : EndsBy last_station es) where
    required : RunsOf f (required_runs es G) × (length (required_runs es G) ≤ length (end_points es) - 1)
    unfolding required_runs f
    required = runs_points (end_points es) refl (points_each (λ x. x ≤ last_station) es (λ e m. (omega (arith, proper e m, by e m), by e m))) (points_rise es)

    -- The required runs show the required level at every millimetre.
    pub required_runs_lem : RunsOf (required_level es G) (required_runs es G)
    unfolding f
    required_runs_lem = required.0

    -- Of up to 256 envelopes there are up to 511 runs.
    pub required_run_list : length es ≤ 256 → is_run_list (required_runs es G) ≡ true
    required_run_list h = list_test (required_runs es G) (omega (arith, required.1, points_length es)) required_runs_lem.rising
