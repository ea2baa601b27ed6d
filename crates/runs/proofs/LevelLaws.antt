-- The required level: it is v or higher exactly where t is in the filled set of v, and so it is known from these sets.
-- Assumes nothing.
use Rattle.std.proofs.Common.{◌≡◌, ℕ, zero, suc, ◌+◌, ◌<◌, ◌≤◌, Bool, true, false, ◌&&◌, ltb, leb, ◌⊎◌, List, refl, inl, inr, arith, ltb-true, lt-ltb, le-leb, leb-true, if◌then◌else◌}
use mathlib.Core.List.{Memᴰ}
use Rattle.base.specs.Choice.{some_of, Passing}
use Rattle.runs.specs.declared.Stretch.{Stretch}
use Rattle.runs.specs.Level.{Has, InSet, Proper, has, between, at_least, filled, highest, required_level}
use Rattle.base.proofs.TestLaws.{any_elim, any_intro, filter_elim, filter_intro}
use Rattle.std.proofs.lemmas.Bool.{and_from, and_parts, both_ways, or_cases, or_left, or_right}
use Rattle.base.proofs.OrderLaws.{le_of_not_lt}

-- t is in an envelope of level v or higher, or between two that are less than G apart.
pub data Joined (es : List Stretch) (v G t : ℕ) : Type 0 where
  covered : (e : Stretch) → Memᴰ e es → v ≤ e.level → Has e t → Joined es v G t
  bridged : (a b : Stretch) → Memᴰ a es → Memᴰ b es → v ≤ a.level → v ≤ b.level → a.end ≤ t → t < b.start → b.start < a.end + G
      → Joined es v G t

-- Levels 1 to 6.
abbrev pub Levelled : List Stretch → Type 0
Levelled es = (e : Stretch) → Memᴰ e es → (1 ≤ e.level) × (e.level ≤ 6)

-- Every envelope ends by a station.
abbrev pub EndsBy : ℕ → List Stretch → Type 0
EndsBy n es = (e : Stretch) → Memᴰ e es → e.end ≤ n

abbrev reaches : ℕ → Stretch → Bool
reaches v e = leb v e.level

module _ (es : List Stretch) (v t : ℕ) where
  -- The executable set is the paper's.
  pub test→set : some_of (λ (e : Stretch). has e t) (at_least v es) ≡ true → InSet es v t
  test→set h =
      let w = any_elim (λ (e : Stretch). has e t) (at_least v es) h in
      let k = filter_elim (reaches v) es w.member in
      record {
        one = w.one;
        member = k.0;
        high = leb-true _ _ k.1;
        has = (leb-true _ _ ((and_parts _ _ w.passes).0), ltb-true _ _ ((and_parts (leb w.one.start t) _ w.passes).1));
      }

  pub set→test : InSet es v t → some_of (λ (e : Stretch). has e t) (at_least v es) ≡ true
  set→test s = any_intro (λ (e : Stretch). has e t) (filter_intro (reaches v) s.member (le-leb _ _ s.high))
      (and_from _ _ (le-leb _ _ s.has.0) (lt-ltb _ _ s.has.1))

  module _ (G : ℕ) where
    in_pair : (a : Stretch) → Memᴰ a (at_least v es) → Passing (between G t a) (at_least v es) → Joined es v G t
    in_pair a m w =
        let k = filter_elim (reaches v) es m in
        let l = filter_elim (reaches v) es w.member in
        let h = w.passes in
        let b = w.one in
        bridged a b k.0 l.0 (leb-true _ _ k.1) (leb-true _ _ l.1)
        (leb-true _ _ ((and_parts _ _ ((and_parts _ _ h).0)).0)) (ltb-true _ _ ((and_parts (leb a.end t) _ ((and_parts _ _ h).0)).1))
        (ltb-true _ _ ((and_parts (leb a.end t && ltb t b.start) _ h).1))

    filled→joined : filled (at_least v es) G t ≡ true → Joined es v G t
    unfolding filled
    filled→joined e = go (or_cases (some_of (λ (e : Stretch). has e t) (at_least v es)) _ e)
      where
        go : (some_of (λ (e : Stretch). has e t) (at_least v es) ≡ true) ⊎ (some_of (λ (a : Stretch). some_of (between G t a) (at_least v es)) (at_least v es) ≡ true)
            → Joined es v G t
        go (inl h) = let s = test→set h in covered s.one s.member s.high s.has
        go (inr h) =
            let w = any_elim (λ (a : Stretch). some_of (between G t a) (at_least v es)) (at_least v es) h in
            in_pair w.one w.member (any_elim (between G t w.one) (at_least v es) w.passes)

    joined→filled : Joined es v G t → filled (at_least v es) G t ≡ true
    unfolding filled
    joined→filled (covered e m h x) = or_left _ _ (set→test (record { one = e; member = m; high = h; has = x }))
    joined→filled (bridged a b m n h k x y z) =
        or_right (some_of (λ (e : Stretch). has e t) (at_least v es)) _
        (any_intro (λ (a : Stretch). some_of (between G t a) (at_least v es)) (filter_intro (reaches v) m (le-leb _ _ h))
        (any_intro (between G t a) (filter_intro (reaches v) n (le-leb _ _ k)) (and_from _ _ (and_from _ _ (le-leb _ _ x) (lt-ltb _ _ y)) (lt-ltb _ _ z))))

-- Filling is monotone in the level and in the envelopes.
joined_lower : {es : List Stretch} {u v G t : ℕ} → u ≤ v → Joined es v G t → Joined es u G t
joined_lower le (covered e m h x) = covered e m (omega arith) x
joined_lower le (bridged a b m n h k x y z) = bridged a b m n (omega arith) (omega arith) x y z

joined_more : {es fs : List Stretch} {v G t : ℕ} → ((e : Stretch) → Memᴰ e es → Memᴰ e fs) → Joined es v G t → Joined fs v G t
joined_more s (covered e m h x) = covered e (s e m) h x
joined_more s (bridged a b m n h k x y z) = bridged a b (s a m) (s b n) h k x y z

-- The highest of n levels.
module _ (es : List Stretch) (G t : ℕ) where
  highest_le : (n : ℕ) → highest es G t n ≤ n
  unfolding highest
  highest_le zero = omega arith
  highest_le (suc n) = go (filled (at_least (suc n) es) G t) (highest_le n)
    where
      go : (b : Bool) → highest es G t n ≤ n → (if b then suc n else highest es G t n) ≤ suc n
      go true h = omega arith
      go false h = omega arith

  highest_least : (n v : ℕ) → 1 ≤ v → v ≤ n → Joined es v G t → v ≤ highest es G t n
  unfolding highest
  highest_least zero v p q j = absurd (omega arith)
  highest_least (suc n) v p q j = go (filled (at_least (suc n) es) G t) refl (highest_least n v p)
    where
      go : (b : Bool) → filled (at_least (suc n) es) G t ≡ b → (v ≤ n → Joined es v G t → v ≤ highest es G t n) → v ≤ (if b then suc n else highest es G t n)
      go true e r = q
      go false e r = r (le_of_not_lt (λ h. both_ways _ e (joined→filled es (suc n) t G (let top : v ≡ suc n = omega arith in rw top at j)))) j

  highest_joined : (n v : ℕ) → 1 ≤ v → v ≤ highest es G t n → Joined es v G t
  unfolding highest
  highest_joined zero v p q = absurd (omega arith)
  highest_joined (suc n) v p q = go (filled (at_least (suc n) es) G t) refl q (highest_joined n v p)
    where
      go : (b : Bool) → filled (at_least (suc n) es) G t ≡ b → v ≤ (if b then suc n else highest es G t n) → (v ≤ highest es G t n → Joined es v G t)
          → Joined es v G t
      go true e h r = joined_lower h (filled→joined es (suc n) t G e)
      go false e h r = r h

  pub level_top : required_level es G t ≤ 6
  unfolding required_level
  level_top = highest_le 6

  -- From level 1 to 6: the required level is v or higher exactly where t is in the filled set of v.
  pub level→joined : (v : ℕ) → 1 ≤ v → v ≤ required_level es G t → Joined es v G t
  unfolding required_level
  level→joined v p q = highest_joined 6 v p q

  pub joined→level : (v : ℕ) → 1 ≤ v → v ≤ 6 → Joined es v G t → v ≤ required_level es G t
  unfolding required_level
  joined→level v p q j = highest_least 6 v p q j

  -- What bounds every level whose filled set has t bounds the required level.
  pub level_below : (n : ℕ) → ((v : ℕ) → 1 ≤ v → v ≤ 6 → Joined es v G t → v ≤ n) → required_level es G t ≤ n
  level_below n bound =
      le_of_not_lt (λ l. omega (arith, bound (required_level es G t) (omega arith) level_top (level→joined (required_level es G t) (omega arith) (omega arith))))

  -- The required level is n where the sets of exactly the levels up to n have t.
  pub level_is : (n : ℕ) → n ≤ 6 → (1 ≤ n → Joined es n G t) → ((v : ℕ) → 1 ≤ v → Joined es v G t → v ≤ n) → required_level es G t ≡ n
  level_is n top low high =
      let up : n ≤ required_level es G t = le_of_not_lt (λ l. omega (arith, joined→level n (omega arith) top (low (omega arith)))) in
      omega (arith, up, level_below n (λ v p q j. high v p j))

-- Where each filled set of one list has t, that of another has u: there the other requires no less.
pub level_le : (es fs : List Stretch) (G t u : ℕ) → ((v : ℕ) → 1 ≤ v → Joined es v G t → Joined fs v G u) → required_level es G t ≤ required_level fs G u
level_le es fs G t u s = level_below es G t (required_level fs G u) (λ v p q j. joined→level fs G u v p q (s v p j))

-- More envelopes, nowhere lower.
pub required_more : (es fs : List Stretch) (G t : ℕ) → ((e : Stretch) → Memᴰ e es → Memᴰ e fs) → required_level es G t ≤ required_level fs G t
required_more es fs G t s = level_le es fs G t t (λ v p. joined_more s)

-- The same envelopes, in whatever order and however often, require the same level.
pub level_same : (es fs : List Stretch) (G t : ℕ) → ((x : Stretch) → Memᴰ x es → Memᴰ x fs) → ((x : Stretch) → Memᴰ x fs → Memᴰ x es)
    → required_level es G t ≡ required_level fs G t
level_same es fs G t to from = omega (arith, required_more es fs G t to, required_more fs es G t from)

-- An envelope farther than G from a station has no part in the level there: those that are nearer require as much as all.
pub level_near : (es near : List Stretch) (G t : ℕ) → Proper es → ((e : Stretch) → Memᴰ e near → Memᴰ e es)
    → ((e : Stretch) → Memᴰ e es → e.start ≤ t + G → t ≤ e.end + G → Memᴰ e near)
    → required_level near G t ≡ required_level es G t
level_near es near G t proper some kept = omega (arith, required_more near es G t some, level_le es near G t t (λ v p. joined v))
  where
    joined : (v : ℕ) → Joined es v G t → Joined near v G t
    joined v (covered e m h x) = covered e (kept e m (omega (arith, x.0)) (omega (arith, x.1))) h x
    joined v (bridged a b m n h k x y z) =
        bridged a b (kept a m (omega (arith, proper a m)) (omega arith)) (kept b n (omega arith) (omega (arith, proper b n))) h k x y z
