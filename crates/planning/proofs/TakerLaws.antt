-- What the takers of a walk have taken, with one hazard more.
-- Assumes nothing.
use Rattle.std.specs.Prelude.{if◌then◌else◌, Option, Some}
use Prim.Native.Nat.{ℕ, ◌+◌, ◌≤◌, ◌<◌}
use native.Mathlib.Omega.{arith}
use native.Mathlib.Decide.{dec_lt}
use mathlib.Core.Path.{◌≡◌, refl, sym, ap, ◌∙◌}
use mathlib.Core.Logic.{◌≢◌}
use mathlib.Core.Bool.{Bool, true, false, ◌&&◌}
use mathlib.Core.List.{List, [], ◌∷◌, ◌++◌, map, append_assoc, append-nil}
use lib.ListN.{length, set, length-append, length-set, get_or-append}
use lib.Seq.{get_or_at}
use lib.Dec.{eqb}
use borrow.Author.Tests.{lt-ltb, le-ltb, eqb-true}
use Rattle.job.specs.declared.Header.{Header}
use Rattle.job.specs.declared.Hazard.{Hazard}
use Rattle.job.specs.Job.{hazard_of}
use Rattle.job.specs.Fits.{HeaderFits, HazardFits}
use Rattle.job.proofs.RangeLaws.{header_bounds, hazard_bounds}
use Rattle.runs.specs.declared.Stretch.{Stretch}
use Rattle.runs.specs.RunList.{last_station}
use Rattle.runs.specs.Keys.{key_of, Keyed}
use Rattle.runs.proofs.KeyLaws.{keyed_none, keyed_more, more_keyed}
use Rattle.planning.specs.declared.Overhangs.{Overhangs}
use Rattle.planning.specs.declared.window.Window.{Window}
use Rattle.planning.specs.Envelope.{reached, envelope, envelopes, cut_to_road, cut_envelope, overhang, no_overhang, greater, overhangs}
use Rattle.planning.specs.Window.{stands_in, standing_in}
use Rattle.planning.specs.Reply.{Cuts, no_cuts, cuts_of, ◌followed_by◌}
use Rattle.planning.specs.Taker.{SideReady, side_took, asked_took}
use Rattle.planning.proofs.OverhangLaws.{greater_assoc, greater_none, none_greater}
use Rattle.planning.proofs.WindowLaws.{standing_append, standing_none, standing_one}

-- The cuts of hazards, and of one behind them

then_assoc : (a b c : Cuts) → (a followed_by (b followed_by c)) ≡ ((a followed_by b) followed_by c)
then_assoc a b c = λ i. record {
  envelopes = sym (append_assoc a.envelopes b.envelopes c.envelopes) i;
  overhangs = greater_assoc a.overhangs b.overhangs c.overhangs i;
}

then_none : (a : Cuts) → (a followed_by no_cuts) ≡ a
then_none a = λ i. record { envelopes = append-nil a.envelopes i; overhangs = greater_none a.overhangs i }

none_then : (a : Cuts) → (no_cuts followed_by a) ≡ a
none_then a = λ i. record { envelopes = a.envelopes; overhangs = none_greater a.overhangs i }

-- What a hazard gives to a side, before what the others give.
own_first : (h : Header) (side : ℕ) (z : Hazard) (left : List Hazard) → cuts_of h side (z ∷ left) ≡ (cuts_of h side (z ∷ []) followed_by cuts_of h side left)
unfolding envelopes overhangs
own_first h side z left = go (eqb z.side side && reached h z)
  where
    of : Bool → List Stretch → Overhangs → Cuts
    of b es o = record { envelopes = map (cut_to_road h) (if b then envelope h z ∷ es else es); overhangs = if b then greater (overhang h z) o else o }

    go : (b : Bool) → of b (envelopes h side left) (overhangs h side left) ≡ (of b [] no_overhang followed_by cuts_of h side left)
    go true = λ i. record {
      envelopes = cut_to_road h (envelope h z) ∷ map (cut_to_road h) (envelopes h side left);
      overhangs = greater (sym (greater_none (overhang h z)) i) (overhangs h side left);
    }
    go false = sym (none_then (cuts_of h side left))

cuts_append : (h : Header) (side : ℕ) (zs more : List Hazard) → cuts_of h side (zs ++ more) ≡ (cuts_of h side zs followed_by cuts_of h side more)
unfolding envelopes overhangs
cuts_append h side [] more = sym (none_then (cuts_of h side more))
cuts_append h side (y ∷ zs) more =
    own_first h side y (zs ++ more)
    ∙ ap (λ (c : Cuts). cuts_of h side (y ∷ []) followed_by c) (cuts_append h side zs more)
    ∙ then_assoc (cuts_of h side (y ∷ [])) (cuts_of h side zs) (cuts_of h side more)
    ∙ ap (λ (c : Cuts). c followed_by cuts_of h side more) (sym (own_first h side y zs))

cuts_last : (h : Header) (side : ℕ) (w : Window) (zs : List Hazard) (z : Hazard)
    → cuts_of h side (standing_in w (zs ++ z ∷ [])) ≡ (cuts_of h side (standing_in w zs) followed_by cuts_of h side (standing_in w (z ∷ [])))
cuts_last h side w zs z =
    ap (λ (ys : List Hazard). cuts_of h side ys) (standing_append w zs (z ∷ [])) ∙ cuts_append h side (standing_in w zs) (standing_in w (z ∷ []))

-- The envelope that a hazard gives: it stands on the side, and its envelope is this one.
pub record Own (h : Header) (side : ℕ) (z : Hazard) (e : Stretch) : Type 0 where
  pub on : z.side ≡ side
  pub is : e ≡ cut_envelope h z

given_own : (h : Header) (side : ℕ) (w : Window) (z : Hazard) (e : Stretch) (o : Overhangs)
    → record { envelopes = e ∷ []; overhangs = o } ≡ cuts_of h side (standing_in w (z ∷ [])) → Own h side z e
unfolding envelopes cut_envelope
given_own h side w z e o p =
    go (stands_in w z) (eqb z.side side) refl (reached h z)
    (ap (λ (c : Cuts). c.envelopes) p ∙ ap (λ (zs : List Hazard). map (cut_to_road h) (envelopes h side zs)) (standing_one w z))
  where
    go : (s b : Bool) → eqb z.side side ≡ b → (r : Bool)
        → e ∷ [] ≡ map (cut_to_road h) (envelopes h side (if s then z ∷ [] else [])) → Own h side z e
    go true b q r p = inner b (reached h z) q p
      where
        inner : (b r : Bool) → eqb z.side side ≡ b → e ∷ [] ≡ map (cut_to_road h) (if eqb z.side side && r then envelope h z ∷ [] else []) → Own h side z e
        inner true true q p = record { on = eqb-true z.side side q; is = let l = rw q at p in cc }
        inner true false q p = (let l = rw q at p in cc)
        inner false r q p = (let l = rw q at p in cc)
    go false b q r p = cc

module _ (h : Header) (side : ℕ) (w : Window) (z : Hazard) (hf : HeaderFits h) (zf : HazardFits h z) {e : Stretch} {o : Overhangs}
    (p : record { envelopes = e ∷ []; overhangs = o } ≡ cuts_of h side (standing_in w (z ∷ []))) where
  -- Its level and its start fit a key.
  pub given_level : e.level ≤ 6
  unfolding cut_envelope cut_to_road envelope
  given_level = rw (given_own h side w z e o p).is (omega (arith, (hazard_bounds h z zf).level_top))

  pub given_start : e.start ≤ last_station
  unfolding cut_envelope cut_to_road envelope
  given_start =
      let road = header_bounds h hf in
      let b = hazard_bounds h z zf in
      rw (given_own h side w z e o p).is (omega (arith, road.road, road.road_end, b.long, b.ends))

  -- It is taken.
  module _ {keys ends : List ℕ} {count index : ℕ} (ready : SideReady keys ends count side h index) (more : index < h.count) where
    low : side ≤ 1
    low = omega (arith, (given_own h side w z e o p).on, (hazard_bounds h z zf).side)

    -- There is room for it.
    pub room_keys : count < length keys
    room_keys = omega (arith, ready.few, ready.for_keys low, more)

    pub room_ends : count < length ends
    room_ends = omega (arith, ready.few, ready.for_ends low, more)

    pub few : count < 256
    few = omega (arith, ready.few, more, (header_bounds h hf).count)

    pub side_more : (sum new : Overhangs) → new ≡ greater sum o → (zs : List Hazard) → side_took keys ends count sum side w h zs
        → side_took (set keys count (key_of e.start e.level count)) (set ends count e.end) (count + 1) new side w h (zs ++ z ∷ [])
    side_more sum new is_new zs took =
        (λ i. record {
          envelopes = keyed_more keys ends count ready.keyed e few room_keys room_ends (omega (arith, given_level)) i;
          overhangs = is_new i;
        })
        ∙ ap (λ (c : Cuts). c followed_by record { envelopes = e ∷ []; overhangs = o }) took
        ∙ ap (λ (c : Cuts). cuts_of h side (standing_in w zs) followed_by c) p
        ∙ sym (cuts_last h side w zs z)

    pub side_ready : SideReady (set keys count (key_of e.start e.level count)) (set ends count e.end) (count + 1) side h (index + 1)
    side_ready = record {
      keyed = more_keyed keys ends count ready.keyed e few room_keys room_ends (omega (arith, given_level));
      few = omega (arith, ready.few);
      for_keys = λ l. omega (arith, ready.for_keys l, length-set keys count (key_of e.start e.level count));
      for_ends = λ l. omega (arith, ready.for_ends l, length-set ends count e.end);
    }

-- A hazard that gives no envelope.
pub side_none : (h : Header) (side : ℕ) (w : Window) (z : Hazard) (keys ends : List ℕ) (count : ℕ) (sum : Overhangs)
    → no_cuts ≡ cuts_of h side (standing_in w (z ∷ [])) → (zs : List Hazard) → side_took keys ends count sum side w h zs
    → side_took keys ends count sum side w h (zs ++ z ∷ [])
side_none h side w z keys ends count sum p zs took =
    took
    ∙ sym (then_none (cuts_of h side (standing_in w zs)))
    ∙ ap (λ (c : Cuts). cuts_of h side (standing_in w zs) followed_by c) p
    ∙ sym (cuts_last h side w zs z)

-- Before the first hazard.
pub side_begun : (keys ends : List ℕ) (side : ℕ) (w : Window) (h : Header) → side_took keys ends 0 no_overhang side w h []
unfolding envelopes overhangs
side_begun keys ends side w h = rw (keyed_none keys ends, standing_none w) refl

pub none_keyed : (keys ends : List ℕ) → Keyed keys ends 0
none_keyed keys ends = record { few = omega arith; keys_there = omega arith; ends_there = omega arith; own = λ i l. absurd (omega arith) }

-- The hazard asked for

pub asked_here : (index : ℕ) (z : Hazard) (zs : List Hazard) → length zs ≡ index → asked_took index (Some z) (zs ++ z ∷ [])
asked_here index z zs e =
    let long : index < length (zs ++ z ∷ []) = omega (arith, length-append zs (z ∷ []), e) in
    rw (lt-ltb index (length (zs ++ z ∷ [])) long) (ap Some (sym (get_or_at zs z [] (hazard_of []) index e)))

pub asked_other : (index i : ℕ) (found : Option Hazard) (z : Hazard) (zs : List Hazard) → length zs ≡ i → i ≢ index → asked_took index found zs
    → asked_took index found (zs ++ z ∷ [])
asked_other index i found z zs e other took = go (dec_lt index (length zs))
  where
    longer : length (zs ++ z ∷ []) ≡ length zs + 1
    longer = length-append zs (z ∷ [])

    go : Dec (index < length zs) → asked_took index found (zs ++ z ∷ [])
    go (yes l) =
        let long : index < length (zs ++ z ∷ []) = omega (arith, longer) in
        rw (lt-ltb index (length (zs ++ z ∷ [])) long, get_or-append zs (z ∷ []) (hazard_of []) index l) (rw (lt-ltb index (length zs) l) at took)
    go (no l) =
        let past : length zs ≤ index = omega arith in
        let beyond : length (zs ++ z ∷ []) ≤ index = omega (arith, longer, other) in
        rw (le-ltb index (length (zs ++ z ∷ [])) beyond) (rw (le-ltb index (length zs) past) at took)
