-- Tops: how many levels have one above a station, what an envelope raises, and to how many different ones the level will fall.
-- Assumes nothing.
use Rattle.std.proofs.Common.{◌≡◌, ℕ, zero, suc, ◌+◌, ◌<◌, ◌≤◌, max, Bool, true, false, ltb, List, length, get_or, set, refl, ap, ◌∙◌, arith, get_or-set_other, ltb-false, ltb-true, le-ltb, lt-ltb, le-leb}
use native.Mathlib.Decide.{dec_le, dec_lt}
use borrow.Author.Tests.{lt-leb}
use Rattle.std.specs.Int.{from_bool}
use Rattle.runs.specs.Sweep.{above_to, Falling, raised_top, Raised, fresh, distinct_to}
use Rattle.base.proofs.OrderLaws.{le_of_not_lt}
use Rattle.runs.proofs.IndexLaws.{store_next}

pub bit_small : (b : Bool) → from_bool b ≤ 1
bit_small true = omega arith
bit_small false = omega arith

module _ (tops : List ℕ) where
  distinct_suc : (n : ℕ) → distinct_to tops (suc n) ≡ distinct_to tops n + from_bool (fresh tops n)
  unfolding distinct_to
  distinct_suc n = refl

  distinct_more : (a b : ℕ) → a ≤ b → distinct_to tops a ≤ distinct_to tops b
  distinct_more a zero h = let e : a ≡ 0 = omega arith in rw e (omega arith)
  distinct_more a (suc b) h = go (dec_le a b) (distinct_more a b)
    where
      go : Dec (a ≤ b) → (a ≤ b → distinct_to tops a ≤ distinct_to tops b) → distinct_to tops a ≤ distinct_to tops (suc b)
      go (yes l) r = omega (arith, r l, distinct_suc b)
      go (no l) r = let e : a ≡ suc b = omega arith in rw e (omega arith)

  -- Where the top of level d is above that of the level after it, that one counts.
  distinct_falls : (d n : ℕ) → d < n → (0 < d → get_or tops (suc d) 0 < get_or tops d 0) → distinct_to tops d + 1 ≤ distinct_to tops n
  distinct_falls d n h l = omega (arith, distinct_suc d, distinct_more (suc d) n h, one d l)
    where
      one : (d : ℕ) → (0 < d → get_or tops (suc d) 0 < get_or tops d 0) → from_bool (fresh tops d) ≡ 1
      one zero l = refl
      one (suc d) l = ap from_bool (lt-ltb _ _ (l (omega arith)))

  pub distinct_some : (n : ℕ) → 0 < n → 0 < distinct_to tops n
  distinct_some n h = omega (arith, distinct_falls 0 n h (λ p. absurd (omega arith)))

  -- At the top of a level that stands the level falls to d, the last level whose top is above: one top less is left.
  module _ (level d : ℕ) (some : 0 < level) (low : (v : ℕ) → 1 ≤ v → v ≤ d → get_or tops level 0 < get_or tops v 0) where
    pub level_falls : d < level
    level_falls = le_of_not_lt (λ l. omega (arith, low level some (omega arith)))

    pub distinct_less : get_or tops (suc d) 0 ≤ get_or tops level 0 → distinct_to tops d + 1 ≤ distinct_to tops level
    distinct_less h = distinct_falls d level level_falls (λ p. omega (arith, low d p (omega arith), h))

-- Of the levels up to n those up to c have a top above t.
pub record UpTo (tops : List ℕ) (t n c : ℕ) : Type 0 where
  pub most : c ≤ n
  pub low : (v : ℕ) → 1 ≤ v → v ≤ c → t < get_or tops v 0
  pub high : (v : ℕ) → v ≤ n → t < get_or tops v 0 → v ≤ c

-- Where no top is above that of a lower level, the levels with a top above t are counted from 1.
module _ (tops : List ℕ) (fall : Falling tops) where
  pub above_count : (t n : ℕ) → UpTo tops t n (above_to tops t n)
  unfolding above_to
  above_count t zero = record { most = omega arith; low = λ v p q. absurd (omega arith); high = λ v p q. omega arith }
  above_count t (suc n) = go (ltb t (get_or tops (suc n) 0)) refl (above_count t n)
    where
      go : (b : Bool) → ltb t (get_or tops (suc n) 0) ≡ b → UpTo tops t n (above_to tops t n) → UpTo tops t (suc n) (above_to tops t n + from_bool b)
      go true e i =
          let h : t < get_or tops (suc n) 0 = ltb-true _ _ e in
          let k : n ≤ above_to tops t n = i.high n (omega arith) (omega (arith, fall n (suc n) (omega arith))) in
          record { most = omega (arith, i.most); low = λ v p q. omega (arith, fall v (suc n) (omega (arith, i.most))); high = λ v p q. omega arith }
      go false e i = record { most = omega (arith, i.most); low = λ v p q. i.low v p (omega arith); high = λ v p q. up v p q (dec_le v n) }
        where
          up : (v : ℕ) → v ≤ suc n → t < get_or tops v 0 → Dec (v ≤ n) → v ≤ above_to tops t n + 0
          up v p q (yes h) = omega (arith, i.high v h q)
          up v p q (no h) =
              let same : v ≡ suc n = omega arith in
              absurd (omega (arith, ltb-false t (get_or tops (suc n) 0) e, ap (λ (x : ℕ). get_or tops x 0) same))

  -- Where level 1 has no top above t, no level has.
  pub above_none : (t n : ℕ) → get_or tops 1 0 ≤ t → above_to tops t n ≡ 0
  above_none t n h =
      let none : above_to tops t n ≤ 0 = le_of_not_lt (λ l. omega (arith, (above_count t n).low 1 (omega arith) l)) in
      omega arith

  pub count_falls : (level : ℕ) → 0 < level → above_to tops (get_or tops level 0) 6 < level
  count_falls level p = level_falls tops level _ p (above_count (get_or tops level 0) 6).low

  pub count_distinct : (level : ℕ) → 0 < level → level ≤ 6 → distinct_to tops (above_to tops (get_or tops level 0) 6) + 1 ≤ distinct_to tops level
  count_distinct level p q =
      let c = above_count (get_or tops level 0) 6 in
      distinct_less tops level _ p c.low (le_of_not_lt
      (λ l. omega (arith, c.high (suc (above_to tops (get_or tops level 0) 6)) (omega (arith, count_falls level p)) l)))

module _ (l e : ℕ) (tops tops' : List ℕ) (raised : Raised l e tops tops') where
  pub raised_high : (v : ℕ) → v ≤ l → get_or tops' v 0 ≡ max (get_or tops v 0) e
  raised_high v h = let q = raised v in rw (le-leb v l h) at q

  pub raised_low : (v : ℕ) → l < v → get_or tops' v 0 ≡ get_or tops v 0
  raised_low v h = let q = raised v in rw (lt-leb v l h) at q

  fresh_less : (n : ℕ) → suc n ≤ l → from_bool (fresh tops' n) ≤ from_bool (fresh tops n)
  fresh_less zero h = omega arith
  fresh_less (suc n) h = go (dec_lt (get_or tops' (suc (suc n)) 0) (get_or tops' (suc n) 0))
    where
      go : Dec (get_or tops' (suc (suc n)) 0 < get_or tops' (suc n) 0)
          → from_bool (ltb (get_or tops' (suc (suc n)) 0) (get_or tops' (suc n) 0)) ≤ from_bool (ltb (get_or tops (suc (suc n)) 0) (get_or tops (suc n) 0))
      go (yes k) =
          let a = raised_high (suc (suc n)) h in
          let b = raised_high (suc n) (omega arith) in
          rw (lt-ltb _ _ k, lt-ltb (get_or tops (suc (suc n)) 0) (get_or tops (suc n) 0) (omega arith)) (omega arith)
      go (no k) = rw (le-ltb (get_or tops' (suc (suc n)) 0) (get_or tops' (suc n) 0) (omega arith)) (omega arith)

  distinct_within : (n : ℕ) → n ≤ l → distinct_to tops' n ≤ distinct_to tops n
  unfolding distinct_to
  distinct_within zero h = omega arith
  distinct_within (suc n) h = omega (arith, distinct_within n (omega arith), fresh_less n h)

  -- One top more at most: as far as the level that stood, where it is not below l; else as far as l.
  pub distinct_skip : (n : ℕ) → l ≤ n → distinct_to tops' n ≤ distinct_to tops n + 1
  unfolding distinct_to
  distinct_skip zero h = omega arith
  distinct_skip (suc n) h = go (dec_le l n) (distinct_skip n)
    where
      same : (n : ℕ) → l < n → from_bool (fresh tops' n) ≡ from_bool (fresh tops n)
      same zero k = refl
      same (suc n) k = rw (raised_low (suc (suc n)) (omega arith), raised_low (suc n) k)

      go : Dec (l ≤ n) → (l ≤ n → distinct_to tops' n ≤ distinct_to tops n + 1)
          → distinct_to tops' n + from_bool (fresh tops' n) ≤ distinct_to tops n + from_bool (fresh tops n) + 1
      go (no k) r = omega (arith, distinct_within n (omega arith), fresh_less n (omega arith))
      go (yes k) r = pick (dec_lt l n)
        where
          pick : Dec (l < n) → distinct_to tops' n + from_bool (fresh tops' n) ≤ distinct_to tops n + from_bool (fresh tops n) + 1
          pick (yes m) = omega (arith, r k, same n m)
          pick (no m) = omega (arith, distinct_within n (omega arith), bit_small (fresh tops' n))

  module _ (c : ℕ) (low : (v : ℕ) → c < v → get_or tops v 0 ≤ e) where
    top_is : (v : ℕ) → c < v → v ≤ l → get_or tops' v 0 ≡ e
    top_is v k m = omega (arith, raised_high v m, low v k)

    no_fresh : (n : ℕ) → c < n → suc n ≤ l → from_bool (fresh tops' n) ≡ 0
    no_fresh zero k m = absurd (omega arith)
    no_fresh (suc n) k m = ap from_bool (le-ltb (get_or tops' (suc (suc n)) 0) (get_or tops' (suc n) 0)
        (omega (arith, top_is (suc (suc n)) (omega arith) m, top_is (suc n) k (omega arith))))

    distinct_flat : (n : ℕ) → c ≤ n → n ≤ l → distinct_to tops' n ≤ distinct_to tops' c + 1
    unfolding distinct_to
    distinct_flat zero k m = omega arith
    distinct_flat (suc n) k m = go (dec_lt c n) (dec_le c n) (distinct_flat n)
      where
        go : Dec (c < n) → Dec (c ≤ n) → (c ≤ n → n ≤ l → distinct_to tops' n ≤ distinct_to tops' c + 1) → distinct_to tops' (suc n) ≤ distinct_to tops' c + 1
        go (yes a) b r = omega (arith, r (omega arith) (omega arith), no_fresh n a m)
        go (no a) (yes b) r =
            let q : c ≡ n = omega arith in
            omega (arith, ap (distinct_to tops') q, bit_small (fresh tops' n))
        go (no a) (no b) r =
            let q : c ≡ suc n = omega arith in
            omega (arith, ap (distinct_to tops') q)

    pub distinct_lift : c ≤ l → distinct_to tops' l ≤ distinct_to tops c + 1
    distinct_lift h = omega (arith, distinct_flat l h (omega arith), distinct_within c h)

-- The tops, raised one after the other.
pub record Raising (l e v : ℕ) (old new : List ℕ) : Type 0 where
  pub passed : (w : ℕ) → w < v → get_or new w 0 ≡ raised_top l e w (get_or old w 0)
  pub ahead : (w : ℕ) → v ≤ w → get_or new w 0 ≡ get_or old w 0

pub raising_none : (l e : ℕ) (tops : List ℕ) → Raising l e 0 tops tops
raising_none l e tops = record { passed = λ w h. absurd (omega arith); ahead = λ w h. refl }

pub raising_turn : (l e v x : ℕ) (old new : List ℕ) → Raising l e v old new → v < length new → x ≡ raised_top l e v (get_or new v 0)
    → Raising l e (v + 1) old (set new v x)
raising_turn l e v x old new r h q = record {
  passed = store_next (λ w y. y ≡ raised_top l e w (get_or old w 0)) new v x h r.passed (q ∙ ap (raised_top l e v) (r.ahead v (omega arith)));
  ahead = λ w k. get_or-set_other new v w x 0 (λ z. omega arith) ∙ r.ahead w (omega arith);
}

pub raising_end : (l e v : ℕ) (old new : List ℕ) → Raising l e v old new → l < v → Raised l e old new
raising_end l e v old new r h w = go (dec_lt w v)
  where
    go : Dec (w < v) → get_or new w 0 ≡ raised_top l e w (get_or old w 0)
    go (yes k) = r.passed w k
    go (no k) = rw (lt-leb w l (omega arith)) (r.ahead w (omega arith))

-- Where the first v tops are raised, from level 0 up, still none is above that of a lower level.
top_grows : (l e v x : ℕ) → x ≤ raised_top l e v x
top_grows l e v x = go (dec_le v l)
  where
    go : Dec (v ≤ l) → x ≤ raised_top l e v x
    go (yes h) = rw (le-leb v l h) (omega arith)
    go (no h) = rw (lt-leb v l (omega arith)) (omega arith)

tops_order : (l e v w x y : ℕ) → v ≤ w → y ≤ x → raised_top l e w y ≤ raised_top l e v x
tops_order l e v w x y h k = go (dec_le w l)
  where
    go : Dec (w ≤ l) → raised_top l e w y ≤ raised_top l e v x
    go (yes m) = rw (le-leb w l m, le-leb v l (omega arith)) (omega arith)
    go (no m) = rw (lt-leb w l (omega arith)) (omega (arith, top_grows l e v x))

pub raising_falls : (l e n : ℕ) (old new : List ℕ) → Raising l e n old new → Falling old → Falling new
raising_falls l e n old new r fall v w h = go (dec_lt v n) (dec_lt w n)
  where
    go : Dec (v < n) → Dec (w < n) → get_or new w 0 ≤ get_or new v 0
    go (yes a) (yes b) = rw (r.passed v a, r.passed w b) (tops_order l e v w _ _ h (fall v w h))
    go (yes a) (no b) =
        rw (r.passed v a, r.ahead w (omega arith)) (omega (arith, fall v w h, top_grows l e v (get_or old v 0)))
    go (no a) (yes b) = absurd (omega arith)
    go (no a) (no b) = rw (r.ahead v (omega arith), r.ahead w (omega arith)) (fall v w h)
