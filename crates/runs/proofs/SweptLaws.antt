-- The sweep over keys: where it stands before the first envelope, after one more, after the last.
-- Assumes nothing.
use Rattle.std.proofs.Common.{◌≡◌, ℕ, zero, suc, ◌+◌, ◌-◌, ◌*◌, ◌/◌, ◌%◌, ◌<◌, ◌≤◌, List, ◌++◌, length, get_or, drop, sym, refl, ap, ◌∙◌, add-one, arith, length-append, length-drop, drop_at}
use Rattle.runs.specs.Breaks.{Break, breaks_to, runs_below}
use Rattle.runs.specs.Sweep.{Raised, distinct_to, SweptTo}
use Rattle.runs.specs.Steps.{Places, Room, Stepped, envelopes_to, Sweepable, Swept, SweptFront}
use Rattle.runs.specs.Required.{required_runs}
use Rattle.runs.specs.RunList.{last_station}
use Rattle.runs.proofs.RunsOfLaws.{runs_of_unique}
use Rattle.runs.proofs.RequiredLaws.{required_runs_lem}
use Rattle.runs.proofs.StandLaws.{stands_first, stands_last, last_zero}
use Rattle.runs.proofs.PlaceLaws.{breaks_length, breaks_front, below_last}

-- A sweep that is past the first i envelopes, and not past the start of a later one.
pub record Sweeping (keys ends : List ℕ) (n G i : ℕ) (tops : List ℕ) (level : ℕ) (bs : List Break) : Type 0 where
  pub at : ℕ
  pub early : at ≤ last_station
  pub ahead : (j : ℕ) → i ≤ j → j < n → at ≤ get_or keys j 0 / 2048
  pub stands : SweptTo (envelopes_to keys ends i) G at tops level bs

pub envelopes_length : (keys ends : List ℕ) (i : ℕ) → length (envelopes_to keys ends i) ≡ i
unfolding envelopes_to
envelopes_length keys ends zero = refl
envelopes_length keys ends (suc i) = ap suc (envelopes_length keys ends i)

module _ (keys ends : List ℕ) (n G : ℕ) where
  -- Two places are enough for each envelope.
  pub sweeping_room : {i : ℕ} {tops : List ℕ} {level : ℕ} (starts levels : List ℕ) (count : ℕ)
      → Sweeping keys ends n G i tops level (breaks_to starts levels count) → count + distinct_to tops level ≤ 2 * i
  sweeping_room {i} starts levels count s = omega (arith, s.stands.room, breaks_length starts levels count, envelopes_length keys ends i)

  pub room_left : {i free : ℕ} {tops : List ℕ} {level : ℕ} (starts levels : List ℕ) (count : ℕ) → Places starts levels
      → 2 * i + free ≤ length starts → Sweeping keys ends n G i tops level (breaks_to starts levels count) → Room free starts levels tops count level
  room_left starts levels count places h s =
      record {
        places = places;
        within = omega (arith, sweeping_room starts levels count s);
      }

  pub sweeping_first : (tops starts levels : List ℕ) → ((v : ℕ) → get_or tops v 0 ≡ 0) → Sweeping keys ends n G 0 tops 0 (breaks_to starts levels 0)
  unfolding envelopes_to breaks_to
  sweeping_first tops starts levels z = record { at = 0; early = omega arith; ahead = λ j h k. omega arith; stands = stands_first G tops z }

  pub sweeping_turn : Sweepable keys ends n → (i : ℕ) → i < n → {tops tops' : List ℕ} {level level' : ℕ} {bs bs' : List Break}
      → Sweeping keys ends n G i tops level bs
      → Stepped tops (get_or keys i 0 / 2048) (get_or keys i 0 % 8) G level bs level' bs'
      → Raised (get_or keys i 0 % 8) (get_or ends (get_or keys i 0 / 8 % 256) 0) tops tops'
      → Sweeping keys ends n G (i + 1) tops' level' bs'
  unfolding envelopes_to
  sweeping_turn ok i lt {tops' = tops'} s t r =
      let x = ok.sound i lt in
      record {
        at = get_or keys i 0 / 2048;
        early = omega (arith, x.long, x.ends);
        ahead = λ j h k. omega (arith, ok.rising i j (omega arith) k);
        stands =
            rw (add-one i) (t (envelopes_to keys ends i) s.at (get_or ends (get_or keys i 0 / 8 % 256) 0) tops' (s.ahead i (omega arith) lt) s.stands x r);
      }

module _ (keys ends : List ℕ) (n G : ℕ) (starts levels : List ℕ) (count : ℕ) (s : Swept keys ends n G starts levels count) where
  -- The runs between the break points are the required ones.
  pub swept_runs : runs_below (get_or starts (count - 1) 0) (breaks_to starts levels (count - 1)) ≡ required_runs (envelopes_to keys ends n) G
  swept_runs =
      let st = s.stands in
      sym (below_last starts levels 0 count (last_zero st))
      ∙ runs_of_unique _ _ (stands_last st 0) (required_runs_lem (envelopes_to keys ends n) G (λ x m. (st.begun.sound x m).long)
      (λ x m. (st.begun.sound x m).ends))

  -- The same in the front of starts that have more places.
  pub swept_front : (old : List ℕ) → n * 2 ≤ length old → length starts ≡ n * 2 → SweptFront keys ends n G old (starts ++ drop (n * 2) old) levels count
  swept_front old h long =
      let rest = drop (n * 2) old in
      record {
        swept = record {
          within = s.within;
          tops = s.tops;
          level = s.level;
          stands = rw (breaks_front starts levels rest count (omega (arith, s.within))) s.stands;
        };
        as_long = length-append starts rest ∙ omega (arith, length-drop (n * 2) old);
        behind = drop_at starts rest (n * 2) long;
      }
