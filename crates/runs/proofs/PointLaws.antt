-- End points: they rise, hold the starts and ends of all envelopes, and the required level changes only there.
-- Assumes nothing.
use Rattle.std.proofs.Common.{◌≡◌, ℕ, suc, ◌+◌, ◌<◌, ◌≤◌, Bool, true, false, leb, List, [], ◌∷◌, length, refl, arith, leb-false, leb-true, if◌then◌else◌}
use mathlib.Core.List.Memᴰ
use mathlib.Core.List.{Memᴰ}
use Rattle.base.proofs.ListLaws.{cons_each}
use Rattle.runs.specs.declared.Stretch.{Stretch}
use Rattle.runs.specs.Level.{required_level}
use Rattle.runs.specs.Required.{insert_station, end_points}
use Rattle.base.proofs.OrderLaws.{le_of_not_lt}
use Rattle.runs.proofs.LevelLaws.{Joined, covered, bridged, level_is, level_le}

-- 1. A station put into a rising list: what holds of it there, and of the lists so made.

module _ (x : ℕ) where
  insert_step : (P : List ℕ → List ℕ → Type 0) → P [] (x ∷ []) → ((y : ℕ) (ys : List ℕ) → x ≤ y → P (y ∷ ys) (x ∷ y ∷ ys))
      → ((y : ℕ) (ys : List ℕ) → y ≤ x → P ys (insert_station x ys) → P (y ∷ ys) (y ∷ insert_station x ys)) → (l : List ℕ) → P l (insert_station x l)
  unfolding insert_station
  insert_step P none here later [] = none
  insert_step P none here later (y ∷ ys) = go (leb x y) refl (insert_step P none here later ys)
    where
      go : (b : Bool) → leb x y ≡ b → P ys (insert_station x ys) → P (y ∷ ys) (if b then x ∷ y ∷ ys else y ∷ insert_station x ys)
      go true e r = here y ys (leb-true x y e)
      go false e r = later y ys (omega (arith, leb-false x y e)) r

  insert_self : (l : List ℕ) → Memᴰ x (insert_station x l)
  insert_self = insert_step (λ l m. Memᴰ x m) (Memᴰ.head refl) (λ y ys h. Memᴰ.head refl) (λ y ys h r. Memᴰ.tail r)

  insert_keeps : (l : List ℕ) (z : ℕ) → Memᴰ z l → Memᴰ z (insert_station x l)
  insert_keeps =
      insert_step (λ l m. (z : ℕ) → Memᴰ z l → Memᴰ z m) (λ z k. Memᴰ.tail k) (λ y ys h z k. Memᴰ.tail k)
      (λ y ys h r. cons_each (λ z. Memᴰ z (y ∷ insert_station x ys)) (Memᴰ.head refl) (λ z k. Memᴰ.tail (r z k)))

  insert_each : (Q : ℕ → Type 0) → Q x → (l : List ℕ) → ((z : ℕ) → Memᴰ z l → Q z) → (z : ℕ) → Memᴰ z (insert_station x l) → Q z
  insert_each Q q =
      insert_step (λ l m. ((z : ℕ) → Memᴰ z l → Q z) → (z : ℕ) → Memᴰ z m → Q z) (cons_each Q q) (λ y ys h. cons_each Q q)
      (λ y ys h r all. cons_each Q (all y (Memᴰ.head refl)) (r (λ z k. all z (Memᴰ.tail k))))

  insert_length : (l : List ℕ) → length (insert_station x l) ≡ suc (length l)
  insert_length = insert_step (λ l m. length m ≡ suc (length l)) refl (λ y ys h. refl) (λ y ys h r. omega arith)

-- No station is below one before it.
abbrev pub RisingPoints : List ℕ → Type 0
RisingPoints [] = Unit {0}
RisingPoints (p ∷ ps) = ((x : ℕ) → Memᴰ x ps → p ≤ x) × RisingPoints ps

insert_rises : (x : ℕ) (l : List ℕ) → RisingPoints l → RisingPoints (insert_station x l)
insert_rises x =
    insert_step x (λ l m. RisingPoints l → RisingPoints m) (λ s. (λ z k. absurd (Memᴰ.not-nil k), tt))
    (λ y ys h s. (cons_each (λ z. x ≤ z) h (λ z k. omega (arith, h, s.0 z k)), s))
    (λ y ys h r s. (insert_each x (λ z. y ≤ z) h ys s.0, r s.1))

-- 2. The end points.

pub points_rise : (es : List Stretch) → RisingPoints (end_points es)
unfolding end_points
points_rise [] = tt
points_rise (e ∷ es) = insert_rises e.start _ (insert_rises e.end _ (points_rise es))

pub points_length : (es : List Stretch) → length (end_points es) ≡ length es + length es
unfolding end_points
points_length [] = omega arith
points_length (e ∷ es) =
    omega (arith, insert_length e.start (insert_station e.end (end_points es)), insert_length e.end (end_points es), points_length es)

-- What holds of every start and end holds of every end point; and the other way round each of them is one.
pub points_each : (Q : ℕ → Type 0) (es : List Stretch) → ((e : Stretch) → Memᴰ e es → Q e.start × Q e.end) → (x : ℕ) → Memᴰ x (end_points es)
    → Q x
unfolding end_points
points_each Q [] all = λ x m. absurd (Memᴰ.not-nil m)
points_each Q (e ∷ es) all =
    let here = all e (Memᴰ.head refl) in
    insert_each e.start Q here.0 _ (insert_each e.end Q here.1 _ (points_each Q es (λ f m. all f (Memᴰ.tail m))))

points_of : (es : List Stretch) (e : Stretch) → Memᴰ e es → Memᴰ e.start (end_points es) × Memᴰ e.end (end_points es)
unfolding end_points
points_of [] = λ e m. absurd (Memᴰ.not-nil m)
points_of (x ∷ xs) =
    cons_each (λ e. Memᴰ e.start (end_points (x ∷ xs)) × Memᴰ e.end (end_points (x ∷ xs)))
    (insert_self x.start _, insert_keeps x.start _ _ (insert_self x.end _))
    (λ e m. let w = points_of xs e m in (
      insert_keeps x.start _ _ (insert_keeps x.end _ _ w.0),
      insert_keeps x.start _ _ (insert_keeps x.end _ _ w.1),
    ))

-- 3. The level between end points.

-- A filled set has t with a whole stretch, from an end point to an end point.
record Amid (es : List Stretch) (v G t : ℕ) : Type 0 where
  from : ℕ
  to : ℕ
  from_point : Memᴰ from (end_points es)
  to_point : Memᴰ to (end_points es)
  lower : from ≤ t
  upper : t < to
  all : (u : ℕ) → from ≤ u → u < to → Joined es v G u

amid : (es : List Stretch) (v G t : ℕ) → Joined es v G t → Amid es v G t
amid es v G t (covered e m h k) = record {
  from = e.start;
  to = e.end;
  from_point = (points_of es e m).0;
  to_point = (points_of es e m).1;
  lower = k.0;
  upper = k.1;
  all = λ u a b. covered e m h (a, b);
}
amid es v G t (bridged a b m o h k x y z) = record {
  from = a.end;
  to = b.start;
  from_point = (points_of es a m).1;
  to_point = (points_of es b o).0;
  lower = x;
  upper = y;
  all = λ u c d. bridged a b m o h k c d z;
}

module _ (es : List Stretch) (G t : ℕ) where
  -- Before the first and from the last on it is 0.
  level_none : ((v : ℕ) → ¬ Amid es v G t) → required_level es G t ≡ 0
  level_none n = level_is es G t 0 (omega arith) (λ p. absurd (omega arith)) (λ v p j. absurd (n v (amid es v G t j)))

  pub level_past : ((x : ℕ) → Memᴰ x (end_points es) → x ≤ t) → required_level es G t ≡ 0
  level_past past = level_none (λ v w. omega (arith, past w.to w.to_point, w.upper))

  pub level_early : ((x : ℕ) → Memᴰ x (end_points es) → t < x) → required_level es G t ≡ 0
  level_early early = level_none (λ v w. omega (arith, early w.from w.from_point, w.lower))

  -- From p on it stays the same as far as no end point comes.
  pub level_stays : (p : ℕ) → p ≤ t → ((x : ℕ) → Memᴰ x (end_points es) → p < x → t < x) → required_level es G t ≡ required_level es G p
  level_stays p le clear = omega (arith, level_le es es G t p (λ v _ j. back v (amid es v G t j)), level_le es es G p t (λ v _ j. on v (amid es v G p j)))
    where
      on : (v : ℕ) → Amid es v G p → Joined es v G t
      on v w = w.all t (omega (arith, w.lower)) (clear w.to w.to_point w.upper)

      back : (v : ℕ) → Amid es v G t → Joined es v G p
      back v w = w.all p (le_of_not_lt (λ h. omega (arith, clear w.from w.from_point h, w.lower))) (omega (arith, w.upper))
