-- Gaps: the gap around a millimetre, and that the executable filling is the paper's.
-- Assumes nothing.
use Rattle.std.proofs.Common.{◌≡◌, ℕ, suc, ◌+◌, ◌-◌, ◌<◌, ◌≤◌, true, false, ◌⊎◌, List, subst, inl, inr, arith}
use native.Mathlib.Decide.{dec_lt}
use Rattle.base.specs.Choice.{some_of}
use Rattle.std.proofs.lemmas.Bool.{both_ways, cases_Bool}
use Rattle.runs.specs.declared.Stretch.{Stretch}
use Rattle.runs.specs.Level.{InSet, Gap, Filled, Highest, has, at_least, required_level, Proper}
use Rattle.base.proofs.OrderLaws.{le_of_not_lt}
use Rattle.base.proofs.LeastLaws.{LeastTo, least_to}
use Rattle.runs.proofs.LevelLaws.{Joined, covered, bridged, test→set, set→test, level_top, level→joined, joined→level}

-- A set of which it is cases_Bool what it has.
module _ (S : ℕ → Type 0) (dec : (t : ℕ) → Dec (S t)) where
  -- Between a member p and a member q, the gap around a millimetre that is not one.
  pub record Around (p t q : ℕ) : Type 0 where
    pub from : ℕ
    pub to : ℕ
    pub gap : Gap S from to
    pub low : p < from
    pub lower : from ≤ t
    pub upper : t < to
    pub up : to ≤ q

  -- It is found by looking for a member from t downwards and from t upwards.
  pub around : (p t q : ℕ) → S p → p < t → ¬ S t → t < q → S q → Around p t q
  around p t q sp pt nt tq sq =
      build (least_to (λ (k : ℕ). S (t - k)) (λ k. dec (t - k)) (t - p) (subst S (let e : p ≡ t - (t - p) = omega arith in e) sp))
      (least_to (λ (k : ℕ). S (t + k)) (λ k. dec (t + k)) (q - t) (subst S (let e : q ≡ t + (q - t) = omega arith in e) sq))
    where
      build : LeastTo (λ (k : ℕ). S (t - k)) (t - p) → LeastTo (λ (k : ℕ). S (t + k)) (q - t) → Around p t q
      build l f = record {
        from = suc (t - l.at);
        to = t + f.at;
        low = omega (arith, l.by);
        lower = omega (arith, l.by, below);
        upper = omega (arith, above);
        up = omega (arith, f.by);
        gap = record {
          some = omega (arith, l.by, below, above);
          after_start = omega arith;
          before = subst S (let e : t - l.at ≡ suc (t - l.at) - 1 = omega arith in e) l.is.holds;
          after = f.is.holds;
          none = λ z a b. none' z a b (dec_lt t z);
        };
      }
        where
          below : 0 < l.at
          below = le_of_not_lt (λ z. nt (subst S (let e : t - l.at ≡ t = omega arith in e) l.is.holds))

          above : 0 < f.at
          above = le_of_not_lt (λ z. nt (subst S (let e : t + f.at ≡ t = omega arith in e) f.is.holds))

          none' : (z : ℕ) → suc (t - l.at) ≤ z → z < t + f.at → Dec (t < z) → ¬ S z
          none' z a b (yes h) = λ s. omega (arith, f.is.least (z - t) (subst S (let e : z ≡ t + (z - t) = omega arith in e) s))
          none' z a b (no h) = λ s. omega (arith, l.is.least (t - z) (subst S (let e : z ≡ t - (t - z) = omega arith in e) s))

module _ (es : List Stretch) (v : ℕ) where
  set? : (t : ℕ) → Dec (InSet es v t)
  set? t = go (cases_Bool (some_of (λ (e : Stretch). has e t) (at_least v es)))
    where
      go : (some_of (λ (e : Stretch). has e t) (at_least v es) ≡ true) ⊎ (some_of (λ (e : Stretch). has e t) (at_least v es) ≡ false) → Dec (InSet es v t)
      go (inl h) = yes (test→set es v t h)
      go (inr h) = no (λ s. both_ways _ h (set→test es v t s))

  module _ (G : ℕ) where
    joined→Filled : Proper es → (t : ℕ) → Joined es v G t → Filled G (InSet es v) t
    joined→Filled proper t (covered e m h x) = inl (record { one = e; member = m; high = h; has = x })
    joined→Filled proper t (bridged a b m o h k x y z) = go (set? t)
      where
        go : Dec (InSet es v t) → Filled G (InSet es v) t
        go (yes s) = inl s
        go (no s) =
            let pa = proper a m in
            let pb = proper b o in
            let r = around (InSet es v) set? (a.end - 1) t b.start
            (record { one = a; member = m; high = h; has = (omega arith, omega arith) }) (omega arith) s y
            (record { one = b; member = o; high = k; has = (omega arith, omega arith) }) in
            inr (record {
              from = r.from;
              to = r.to;
              gap = r.gap;
              short = omega (arith, r.low, r.up, r.lower, r.upper);
              lower = r.lower;
              upper = r.upper;
            })

    -- Before a gap an envelope ends, and after it one starts.
    pub Filled→joined : (t : ℕ) → Filled G (InSet es v) t → Joined es v G t
    Filled→joined t (inl s) = covered s.one s.member s.high s.has
    Filled→joined t (inr g) =
        let n = g.gap in
        let b = n.before in
        let a = n.after in
        let ends : b.one.end ≤ g.from = le_of_not_lt
        (λ l. n.none g.from (omega arith) n.some (record { one = b.one; member = b.member; high = b.high; has = (omega (arith, b.has.0), l) })) in
        let starts : g.to ≤ a.one.start = le_of_not_lt
        (λ l. n.none (g.to - 1) (omega (arith, n.some)) (omega (arith, n.some))
        (record { one = a.one; member = a.member; high = a.high; has = (omega arith, omega (arith, a.has.1)) })) in
        bridged b.one a.one b.member a.member b.high a.high (omega (arith, ends, g.lower)) (omega (arith, starts, g.upper))
        (omega (arith, g.short, n.some, b.has.1, a.has.0))

-- The paper's words: the required level is the highest v whose set, gaps added, has t; else 0.
pub required_is_highest : (es : List Stretch) (G t : ℕ) → Proper es → Highest (λ (v : ℕ). Filled G (InSet es v) t) (required_level es G t)
required_is_highest es G t proper = record {
  top = level_top es G t;
  holds = λ h. joined→Filled es (required_level es G t) G proper t (level→joined es G t (required_level es G t) (omega arith) (omega arith));
  above = λ u a b w. omega (arith, joined→level es G t u (omega arith) b (Filled→joined es u G t w));
}
