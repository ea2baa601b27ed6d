-- Envelopes in two arrays: one put behind the others, each by its index, and that sorting the keys keeps the required runs.
-- Assumes nothing.
use Rattle.std.proofs.Common.{◌≡◌, ℕ, zero, suc, ◌+◌, ◌/◌, ◌%◌, ◌<◌, ◌≤◌, true, List, [], ◌∷◌, ◌++◌, map, length, get_or, take, drop, set, sym, refl, ap, ◌∙◌, add-one, arith, length-set, length-take-le, get_or-set_other, get_or-take, take-suc, get_or-set_same, take-take}
use native.Mathlib.Decide.{dec_lt}
use mathlib.Core.List.Memᴰ
use mathlib.Core.List.{map-append, Memᴰ}
use lib.ListN.{length-map}
use lib.Seq.{take-set-le, get_or_at, split_at}
use Rattle.runs.specs.declared.Stretch.{Stretch}
use Rattle.runs.specs.RunList.{is_run_list}
use Rattle.runs.specs.Required.{required_runs}
use Rattle.runs.specs.Keys.{key_of, envelope_of, keyed_envelopes, Keyed}
use Rattle.runs.specs.Sorted.{Sorted}
use Rattle.runs.specs.Sweep.{AllSound}
use Rattle.runs.specs.Steps.{envelopes_to, Sweepable}
use Rattle.base.proofs.ListLaws.{cons_each}
use Rattle.runs.proofs.IndexLaws.{Indexed, indexed_last, indexed_more, take_indexed, among, store_next}
use Rattle.runs.proofs.LevelLaws.{level_same}
use Rattle.runs.proofs.RunsOfLaws.{stretch_path, runs_of_unique}
use Rattle.runs.proofs.RequiredLaws.{required_runs_lem, required_run_list}

-- Sound envelopes, up to 256: their required runs are a run list.
pub runs_listed : (es : List Stretch) (G : ℕ) → AllSound es → length es ≤ 256 → is_run_list (required_runs es G) ≡ true
runs_listed es G sound = required_run_list es G (λ e m. (sound e m).long) (λ e m. (sound e m).ends)

-- Lists with the same members have the same required runs.
pub same_runs : (es fs : List Stretch) (G : ℕ) → AllSound es → AllSound fs → ((e : Stretch) → Memᴰ e es → Memᴰ e fs)
    → ((e : Stretch) → Memᴰ e fs → Memᴰ e es)
    → required_runs es G ≡ required_runs fs G
same_runs es fs G p q to from =
    let r = required_runs_lem es G (λ e m. (p e m).long) (λ e m. (p e m).ends) in
    runs_of_unique (required_runs es G) (required_runs fs G)
    (record { rising = r.rising; shows = λ t. r.shows t ∙ level_same es fs G t to from }) (required_runs_lem fs G (λ e m. (q e m).long) (λ e m. (q e m).ends))

-- Functions that agree on the members of a list map it alike.
map_same : {A B : Type 0} (f g : A → B) (l : List A) → ((a : A) → Memᴰ a l → f a ≡ g a) → map f l ≡ map g l
map_same f g [] same = refl
map_same f g (x ∷ xs) same = cc (same x (Memᴰ.head refl), map_same f g xs (λ a m. same a (Memᴰ.tail m)))

-- The envelopes of the first keys

pub keyed_none : (keys ends : List ℕ) → keyed_envelopes keys ends 0 ≡ []
unfolding keyed_envelopes
keyed_none keys ends = refl

pub keyed_length : (keys ends : List ℕ) (n : ℕ) → n ≤ length keys → length (keyed_envelopes keys ends n) ≡ n
unfolding keyed_envelopes
keyed_length keys ends n h = length-map (take n keys) (envelope_of ends) ∙ length-take-le n keys h

-- Membership by key.
keyed_among : (keys ends : List ℕ) (n key : ℕ) → Memᴰ key (take n keys) → Memᴰ (envelope_of ends key) (keyed_envelopes keys ends n)
unfolding keyed_envelopes
keyed_among keys ends n key m = Memᴰ.map (envelope_of ends) m

keyed_from : (keys ends : List ℕ) (n : ℕ) (x : Stretch) → Memᴰ x (keyed_envelopes keys ends n)
    → (key : ℕ) × Memᴰ key (take n keys) × (envelope_of ends key ≡ x)
unfolding keyed_envelopes
keyed_from keys ends n x m = Memᴰ.of_map (envelope_of ends) (take n keys) m

-- The envelope of the i-th key among those of n.
keyed_split : (keys ends : List ℕ) (n i : ℕ) → i < n → n ≤ length keys
    → keyed_envelopes keys ends n ≡ keyed_envelopes keys ends i ++ envelope_of ends (get_or keys i 0) ∷ map (envelope_of ends) (drop (suc i) (take n keys))
unfolding keyed_envelopes
keyed_split keys ends n i h k =
    ap (map (envelope_of ends)) (split_at (take n keys) i 0 (omega (arith, length-take-le n keys k)))
    ∙ rw (take-take i n keys (omega arith), get_or-take n keys i 0 h) (map-append (envelope_of ends) (take i keys) _)

keyed_next : (keys ends : List ℕ) (i : ℕ) → i < length keys
    → keyed_envelopes keys ends (i + 1) ≡ keyed_envelopes keys ends i ++ envelope_of ends (get_or keys i 0) ∷ []
unfolding keyed_envelopes
keyed_next keys ends i h = rw (add-one i, take-suc keys i 0 h) (map-append (envelope_of ends) (take i keys) _)

-- The i-th envelope, where the keys say their own indices.
abbrev pub envelope_at : (keys ends : List ℕ) (i : ℕ) → Stretch
envelope_at keys ends i = record { start = get_or keys i 0 / 2048; end = get_or ends i 0; level = get_or keys i 0 % 8 }

module _ (keys ends : List ℕ) (n : ℕ) (keyed : Keyed keys ends n) where
  module _ (i : ℕ) (h : i < n) where
    own_end : envelope_of ends (get_or keys i 0) ≡ envelope_at keys ends i
    own_end = stretch_path _ _ refl (ap (λ (j : ℕ). get_or ends j 0) (keyed.own i h)) refl

    pub keyed_at : Memᴰ (envelope_at keys ends i) (keyed_envelopes keys ends n)
    keyed_at = Memᴰ.cast (sym own_end) (keyed_among keys ends n _ (among keys n i 0 h (omega (arith, keyed.keys_there))))

    pub keyed_get_d : (d : Stretch) → get_or (keyed_envelopes keys ends n) i d ≡ envelope_at keys ends i
    keyed_get_d d =
        rw (keyed_split keys ends n i h keyed.keys_there)
        (get_or_at (keyed_envelopes keys ends i) _ _ d i (keyed_length keys ends i (omega (arith, keyed.keys_there))) ∙ own_end)

    pub keyed_step : keyed_envelopes keys ends (i + 1) ≡ keyed_envelopes keys ends i ++ envelope_at keys ends i ∷ []
    keyed_step = keyed_next keys ends i (omega (arith, keyed.keys_there)) ∙ ap (λ (e : Stretch). keyed_envelopes keys ends i ++ e ∷ []) own_end

  -- An envelope more, put behind the others.
  module _ (e : Stretch) (room : n < 256) (key-room : n < length keys) (end-room : n < length ends) (small : e.level < 8) where
    abbrev key : ℕ
    key = key_of e.start e.level n

    -- A key among the first says another index than n, whose end stays.
    ends_stay : (k : ℕ) → Memᴰ k (take n keys) → envelope_of (set ends n e.end) k ≡ envelope_of ends k
    ends_stay k m =
        let w = take_indexed n keys 0 m in
        let index : k / 8 % 256 ≡ w.at = ap (λ (j : ℕ). j / 8 % 256) w.is ∙ keyed.own w.at w.below in
        stretch_path _ _ refl (get_or-set_other ends n (k / 8 % 256) e.end 0 (λ q. omega (arith, w.below))) refl

    first_stay : keyed_envelopes (set keys n key) (set ends n e.end) n ≡ keyed_envelopes keys ends n
    unfolding keyed_envelopes
    first_stay = rw (take-set-le n keys n key (omega arith)) (map_same _ _ (take n keys) ends_stay)

    new_end : envelope_of (set ends n e.end) key ≡ e
    new_end =
        let index : key / 8 % 256 ≡ n = omega arith in
        stretch_path _ _ (omega arith) (ap (λ (j : ℕ). get_or (set ends n e.end) j 0) index ∙ get_or-set_same ends n e.end 0 end-room) (omega arith)

    pub keyed_more : keyed_envelopes (set keys n key) (set ends n e.end) (n + 1) ≡ keyed_envelopes keys ends n ++ e ∷ []
    keyed_more =
        keyed_next (set keys n key) (set ends n e.end) n (omega (arith, length-set keys n key))
        ∙ cc (first_stay, ap (envelope_of (set ends n e.end)) (get_or-set_same keys n key 0 key-room) ∙ new_end)

    pub more_keyed : Keyed (set keys n key) (set ends n e.end) (n + 1)
    more_keyed = record {
      few = omega arith;
      keys_there = omega (arith, length-set keys n key);
      ends_there = omega (arith, length-set ends n e.end);
      own = store_next (λ (j k : ℕ). k / 8 % 256 ≡ j) keys n key key-room keyed.own (omega arith);
    }

-- The envelopes of keys in another order, last one first.
envelope_at_lem : (keys ends : List ℕ) (n i : ℕ) → i < n → Memᴰ (envelope_of ends (get_or keys i 0)) (envelopes_to keys ends n)
unfolding envelopes_to
envelope_at_lem keys ends zero i h = absurd (omega arith)
envelope_at_lem keys ends (suc n) i h = go (dec_lt i n) (envelope_at_lem keys ends n i)
  where
    go : Dec (i < n) → (i < n → Memᴰ (envelope_of ends (get_or keys i 0)) (envelopes_to keys ends n))
        → Memᴰ (envelope_of ends (get_or keys i 0)) (envelopes_to keys ends (suc n))
    go (yes l) r = Memᴰ.tail (r l)
    go (no l) r = Memᴰ.head (ap (λ (j : ℕ). envelope_of ends (get_or keys j 0)) (let e : i ≡ n = omega arith in e))

key_indexed : (keys ends : List ℕ) (n : ℕ) (x : Stretch) → Memᴰ x (envelopes_to keys ends n) → Indexed (λ i. envelope_of ends (get_or keys i 0)) n x
unfolding envelopes_to
key_indexed keys ends zero = λ x m. absurd (Memᴰ.not-nil m)
key_indexed keys ends (suc n) =
    cons_each (Indexed (λ i. envelope_of ends (get_or keys i 0)) (suc n)) (indexed_last _ n) (λ x m. indexed_more (key_indexed keys ends n x m))

-- Keys sorted: they have the same members, and an envelope is that of its key, so the envelopes are the same.
module _ (keys ends : List ℕ) (n : ℕ) (size : length keys ≡ 256) (few : n ≤ 256) (sound : AllSound (keyed_envelopes keys ends n)) where
  module _ (sorted-keys : List ℕ) (sorted : Sorted n keys sorted-keys) where
    to : (x : Stretch) → Memᴰ x (envelopes_to sorted-keys ends n) → Memᴰ x (keyed_envelopes keys ends n)
    to x m =
        let w = key_indexed sorted-keys ends n x m in
        let k = among sorted-keys n w.at 0 w.below (omega (arith, w.below, sorted.same.size)) in
        Memᴰ.cast w.is (keyed_among keys ends n _ (sorted.same.none_gained _ k))

    from : (x : Stretch) → Memᴰ x (keyed_envelopes keys ends n) → Memᴰ x (envelopes_to sorted-keys ends n)
    from x m =
        let k = keyed_from keys ends n x m in
        let w = take_indexed n sorted-keys 0 (sorted.same.none_lost _ k.1) in
        Memᴰ.cast (sym k.2 ∙ ap (envelope_of ends) w.is) (envelope_at_lem sorted-keys ends n w.at w.below)

    swept_sound : AllSound (envelopes_to sorted-keys ends n)
    swept_sound x m = sound x (to x m)

    pub sweepable : length ends ≡ 256 → Sweepable sorted-keys ends n
    sweepable end_places = record {
      key_places = sorted.same.size ∙ size;
      end_places = end_places;
      few = few;
      rising = sorted.sorted;
      sound = λ i h. swept_sound _ (envelope_at_lem sorted-keys ends n i h);
    }

    pub sorted_runs : (G : ℕ) → required_runs (envelopes_to sorted-keys ends n) G ≡ required_runs (keyed_envelopes keys ends n) G
    sorted_runs G = same_runs _ _ G swept_sound sound to from
