-- Laws of break points: cutting, setting a level from a station on, the runs between them.
-- Assumes nothing.
use Rattle.std.proofs.Common.{◌≡◌, ℕ, suc, ◌+◌, ◌-◌, ◌<◌, ◌≤◌, Bool, true, false, eqb, ltb, leb, ◌≢◌, List, [], ◌∷◌, ◌++◌, length, sym, refl, ap, ◌∙◌, subst, append_assoc, append-nil, arith, ltb-false, ltb-true, le-ltb, eqb-true, le-leb, leb-false, leb-true, if◌then◌else◌}
use native.Mathlib.Decide.{dec_le}
use borrow.Author.Tests.{lt-leb, eqb-false}
use Rattle.runs.specs.declared.Stretch.{Stretch}
use Rattle.runs.specs.RunList.{last_station, MayFollow, RunsOf}
use Rattle.runs.specs.Breaks.{Break, break_level, level_of, Shape, breaks_before, set_from, runs_below}
use Rattle.runs.proofs.RunLaws.{shown_nothing}
use Rattle.runs.proofs.RunsOfLaws.{RunsFrom, runs_cons, runs_skip, runs_all}

-- The level at t, by where t lies from the last break point.
module _ (b : Break) (bs : List Break) (t : ℕ) where
  pub at_last : b.start ≤ t → break_level (b ∷ bs) t ≡ b.level
  unfolding break_level
  at_last h = rw (le-leb _ _ h)

  pub at_earlier : t < b.start → break_level (b ∷ bs) t ≡ break_level bs t
  unfolding break_level
  at_earlier h = rw (lt-leb _ _ h)

pub shape_on : (u w : ℕ) (bs : List Break) → u ≤ w → Shape u bs → Shape w bs
shape_on u w [] h s = tt
shape_on u w (b ∷ bs) h s = (omega (arith, s.0), s.1, s.2)

-- From the last break point on the level is the last.
pub level_on : (u t : ℕ) (bs : List Break) → Shape u bs → u ≤ suc t → break_level bs t ≡ level_of bs
unfolding break_level
level_on u t [] s h = refl
level_on u t (b ∷ bs) s h = at_last b bs t (omega (arith, s.0))

cut_shape : (u t : ℕ) (bs : List Break) → Shape u bs → Shape t (breaks_before t bs)
unfolding breaks_before
cut_shape u t [] s = tt
cut_shape u t (b ∷ bs) s = go (leb t b.start) refl (cut_shape b.start t bs s.2)
  where
    go : (c : Bool) → leb t b.start ≡ c → Shape t (breaks_before t bs) → Shape t (if c then breaks_before t bs else b ∷ bs)
    go true e r = r
    go false e r = (leb-false _ _ e, s.1, s.2)

cut_level : (t u : ℕ) (bs : List Break) → u < t → break_level (breaks_before t bs) u ≡ break_level bs u
unfolding breaks_before
cut_level t u [] h = refl
cut_level t u (b ∷ bs) h = go (leb t b.start) refl (cut_level t u bs h)
  where
    go : (c : Bool) → leb t b.start ≡ c → break_level (breaks_before t bs) u ≡ break_level bs u
        → break_level (if c then breaks_before t bs else b ∷ bs) u ≡ break_level (b ∷ bs) u
    go true e r = r ∙ sym (at_earlier b bs u (omega (arith, leb-true t b.start e)))
    go false e r = refl

module _ (t v : ℕ) (bs : List Break) where
  set_step : (P : List Break → Type 0) → (level_of (breaks_before t bs) ≡ v → P (breaks_before t bs))
      → (level_of (breaks_before t bs) ≢ v → P (record { start = t; level = v } ∷ breaks_before t bs)) → P (set_from t v bs)
  unfolding set_from
  set_step P f g = go (eqb (level_of (breaks_before t bs)) v) refl
    where
      go : (c : Bool) → eqb (level_of (breaks_before t bs)) v ≡ c → P (if c then breaks_before t bs else record { start = t; level = v } ∷ breaks_before t bs)
      go true e = f (eqb-true _ _ e)
      go false e = g (eqb-false _ _ e)

  pub set_shape : (u : ℕ) → Shape u bs → Shape (suc t) (set_from t v bs)
  set_shape u s =
      set_step (λ (p : List Break). Shape (suc t) p)
      (λ e. shape_on t (suc t) (breaks_before t bs) (omega arith) (cut_shape u t bs s))
      (λ n. (omega arith, λ e. n (sym e), cut_shape u t bs s))

  pub set_before : (u : ℕ) → u < t → break_level (set_from t v bs) u ≡ break_level bs u
  set_before u h =
      set_step (λ (p : List Break). break_level p u ≡ break_level bs u)
      (λ e. cut_level t u bs h)
      (λ n. at_earlier (record { start = t; level = v }) (breaks_before t bs) u h ∙ cut_level t u bs h)

  pub set_after : (w u : ℕ) → Shape w bs → t ≤ u → break_level (set_from t v bs) u ≡ v
  set_after w u s h =
      set_step (λ (p : List Break). break_level p u ≡ v)
      (λ e. level_on t u (breaks_before t bs) (cut_shape w t bs s) (omega arith) ∙ e)
      (λ n. at_last (record { start = t; level = v }) (breaks_before t bs) u h)

  set_length : length (set_from t v bs) ≤ length (breaks_before t bs) + 1
  set_length = set_step (λ (p : List Break). length p ≤ length (breaks_before t bs) + 1) (λ e. omega arith) (λ n. omega arith)

cut_shorter : (t : ℕ) (bs : List Break) → length (breaks_before t bs) ≤ length bs
unfolding breaks_before
cut_shorter t [] = omega arith
cut_shorter t (b ∷ bs) = go (leb t b.start) (cut_shorter t bs)
  where
    go : (c : Bool) → length (breaks_before t bs) ≤ length bs → length (if c then breaks_before t bs else b ∷ bs) ≤ suc (length bs)
    go true r = omega arith
    go false r = omega arith

-- Setting a level adds a break point at most; none where the level has fallen below it from then on.
pub set_more : (t v : ℕ) (bs : List Break) → length (set_from t v bs) ≤ length bs + 1
set_more t v bs = omega (arith, set_length t v bs, cut_shorter t bs)

pub set_cuts : (t v : ℕ) (bs : List Break) → v ≤ break_level bs (t - 1) → level_of bs < v → length (set_from t v bs) ≤ length bs
unfolding breaks_before
set_cuts t v [] p q = absurd (omega (arith, level_on 0 (t - 1) [] tt (omega arith)))
set_cuts t v (b ∷ bs) p q = go (dec_le t b.start)
  where
    go : Dec (t ≤ b.start) → length (set_from t v (b ∷ bs)) ≤ suc (length bs)
    go (yes h) =
        let e : breaks_before t (b ∷ bs) ≡ breaks_before t bs = rw (le-leb t b.start h) in
        omega (arith, set_length t v (b ∷ bs), ap length e, cut_shorter t bs)
    go (no h) = absurd (omega (arith, at_last b bs (t - 1) (omega arith)))

module _ (f : ℕ → ℕ) (top : (t : ℕ) → f t ≤ 6) where
  -- Runs from e on, and break points before e: their runs stand in front.
  below_runs : (bs : List Break) (e : ℕ) (rs : List Stretch) → e ≤ last_station → Shape e bs → ((t : ℕ) → t < e → break_level bs t ≡ f t)
      → RunsFrom f e (level_of bs) rs → RunsOf f (runs_below e bs ++ rs)
  unfolding runs_below break_level
  below_runs [] e rs by s shows r = runs_all e 0 (λ t h. sym (shows t h)) r
  below_runs (b ∷ bs) e rs by s shows r = go (ltb 0 b.level) refl (below_runs bs b.start)
    where
      one : Stretch
      one = record { start = b.start; end = e; level = b.level }

      here : (t : ℕ) → b.start ≤ t → t < e → b.level ≡ f t
      here t h k = sym (at_last b bs t h) ∙ shows t k

      earlier : (t : ℕ) → t < b.start → break_level bs t ≡ f t
      earlier t h = sym (at_earlier b bs t h) ∙ shows t (omega (arith, s.0))

      go : (c : Bool) → ltb 0 b.level ≡ c
          → ((ss : List Stretch) → b.start ≤ last_station → Shape b.start bs → ((t : ℕ) → t < b.start → break_level bs t ≡ f t)
          → RunsFrom f b.start (level_of bs) ss → RunsOf f (runs_below b.start bs ++ ss))
          → RunsOf f ((if c then runs_below b.start bs ++ one ∷ [] else runs_below b.start bs) ++ rs)
      go true q i =
          subst (RunsOf f) (sym (append_assoc (runs_below b.start bs) (one ∷ []) rs))
          (i (one ∷ rs) (omega (arith, s.0)) s.2 earlier (runs_cons one (level_of bs) next (λ t h. here t h.0 h.1) r))
        where
          next : MayFollow b.start (level_of bs) one
          next = record {
            after = omega arith;
            long = s.0;
            ends = by;
            low = ltb-true _ _ q;
            top = omega (arith, here b.start (omega arith) s.0, top b.start);
            differs = λ _ z. s.1 (sym z);
          }
      go false q i =
          i rs (omega (arith, s.0)) s.2 earlier
          (runs_skip e b.level b.start (level_of bs) (omega (arith, s.0)) (λ z. absurd (omega (arith, s.0)))
          (λ t h k. omega (arith, here t h k, ltb-false 0 b.level q)) r)

  -- Break points up to the last station, from the last of which on the level is 0, give the runs of their level.
  pub breaks_runs : (bs : List Break) (e : ℕ) → Shape (suc last_station) bs → level_of bs ≡ 0 → ((t : ℕ) → break_level bs t ≡ f t) → RunsOf f (runs_below e bs)
  unfolding runs_below break_level
  breaks_runs [] e s z shows = record { rising = tt; shows = λ t. shown_nothing t ∙ shows t }
  breaks_runs (b ∷ bs) e s z shows =
      rw (le-ltb 0 b.level (omega arith))
      (subst (RunsOf f) (append-nil (runs_below b.start bs))
      (below_runs bs b.start [] (omega (arith, s.0)) s.2 (λ t h. sym (at_earlier b bs t h) ∙ shows t) last))
    where
      last : RunsFrom f b.start (level_of bs) []
      last = record { rising = tt; shows = λ t h. shown_nothing t ∙ sym z ∙ sym (at_last b bs t h) ∙ shows t }
