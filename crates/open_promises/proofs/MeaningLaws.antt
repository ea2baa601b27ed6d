-- What the test of the memory means: it passes exactly the memory that an opening and calls can leave, and every call but opening refuses other
-- memory.
-- Assumes nothing.
use Prim.Native.Nat.{ℕ, ◌+◌, ◌<◌}
use native.Mathlib.Omega.{arith}
use native.Mathlib.Decide.{dec_lt}
use mathlib.Core.Path.{◌≡◌, refl, sym, ap, ◌∙◌}
use mathlib.Core.Logic.{◌⊎◌, inl, inr}
use mathlib.Core.Bool.{true}
use mathlib.Core.List.Memᴰ
use mathlib.Core.List.{List, [], ◌∷◌, ◌++◌, foldl, foldl-append}
use lib.ListN.{length, length-take}
use borrow.Author.Tests.{eqb-true}
use Rattle.base.specs.Answer.{Answer, accepted}
use Rattle.base.proofs.ListLaws.{get_d_member}
use Rattle.job.specs.declared.Header.{Header}
use Rattle.job.specs.declared.NamedHazard.{NamedHazard}
use Rattle.job.specs.Job.{unnamed, counted, made_from}
use Rattle.job.specs.Writing.{write_job}
use Rattle.job.specs.Fits.{HeaderFits}
use Rattle.job.proofs.RangeLaws.{header_bounds}
use Rattle.planning.specs.Envelope.{accept_job}
use Rattle.planning.proofs.AcceptedLaws.{fitting_accepted}
use Rattle.open_memory.specs.Memory.{standing, is_open_job}
use Rattle.open_memory.proofs.RangeLaws.{counted_fits}
use Rattle.open_memory.proofs.RuleLaws.{counted_hazard, counted_passed, made_fits, Stand}
use Rattle.open_job.specs.States.{nothing_kept, kept_from, state_of, is_used, is_nothing_kept, kept_states, kept_under, are_open_states}
use Rattle.open_job.specs.Calls.{memory_after, add_in, withdraw_in, schedule_in, reach_in, keep_in, return_in}
use Rattle.open_job.proofs.LayoutLaws.{KeepsRules, open_exactly}
use Rattle.open_job.specs.declared.KeptState.{KeptState}
use Rattle.open_job.specs.declared.OpenStates.{OpenStates}
use Rattle.open_job.proofs.StateLaws.{states_same, none_above, nothing_is, sound_cases, now_open, each_sound_lem}
use Rattle.open_promises.specs.Opening.{empty_states}
use Rattle.open_promises.specs.Lists.{Call, Kept, nothing, state, States, opened, after_call, CallsFrom}
use Rattle.open_promises.specs.Rules.{RulesPromise, HasPlaces, MemoryPromise}
use Rattle.open_promises.proofs.OpeningLaws.{opening_accepted}
use Rattle.open_promises.proofs.MemoryLaws.{laid_kept, Laid, follows_all, follows_opened}
use Rattle.open_promises.proofs.ListLaws.{standing_promise}
use Rattle.open_promises.proofs.BuildLaws.{adds, keep_below, kept_below, holding, placed_after_all, adds_leave, StandKept, kept_others, kept_lower}
use Rattle.open_promises.proofs.BuildLaws.{below_kept, CanMake, can_both, can_add, can_below}

-- A header without hazards is an accepted job.
empty_accepted : (h : Header) → HeaderFits h → accept_job (write_job (made_from h [])) ≡ accepted (made_from h [])
empty_accepted h fits = fitting_accepted (made_from h []) (made_fits h [] fits (omega arith) (λ z m. absurd (Memᴰ.not-nil m)))

-- The rules do not go by the hazard count.
stand_counted : (h : Header) (n low : ℕ) (ps : List NamedHazard) → Stand h low ps → Stand (counted h n) low ps
stand_counted h n low [] t = tt
stand_counted h n low (p ∷ ps) t = (
  t.0,
  t.1,
  record { fits = counted_hazard h n (unnamed p) t.2; passed = counted_passed h n (unnamed p) t.2 },
  stand_counted h n (p.name + 1) ps t.3,
)

-- What is kept, laid out.
record Told (h : Header) (k : KeptState) : Type 0 where
  what : Kept (List NamedHazard)
  rules : StandKept h what
  same : k ≡ laid_kept h what

told : (h : Header) (k : KeptState) → length k.hazards ≡ 256 → (is_nothing_kept k ≡ true) ⊎ ((is_used k ≡ true) × (is_open_job (state_of h k) ≡ true))
    → Told (counted h 0) k
unfolding is_used
told h k size (inl e) = record { what = nothing; rules = tt; same = nothing_is k size e }
told h k size (inr w) =
    let a = state_of h k in
    let r = (open_exactly a size).0 w.1 in
    let used : k.used ≡ 1 = eqb-true _ _ w.0 in
    record {
      what = state (standing a);
      rules = (
        stand_counted a.header 0 0 (standing a) r.hazards,
        omega (arith, (header_bounds a.header r.header).count, length-take a.header.count a.hazards),
      );
      same = (λ i. record { used = used i; count = k.count; hazards = k.hazards }) ∙ ap kept_from r.layout;
    }

-- 256 places under each number.
pub places_under : (m : OpenStates) → HasPlaces m → (number : ℕ) → length (kept_under m number).hazards ≡ 256
places_under m places number = go (dec_lt number 8)
  where
    go : Dec (number < 8) → length (kept_under m number).hazards ≡ 256
    go (yes l) = places.states_kept (kept_under m number) (get_d_member (kept_states m) number nothing_kept l)
    go (no l) = ap (λ (k : KeptState). length k.hazards) (none_above m number (omega arith))

module _ (m : OpenStates) (good : are_open_states m ≡ true) (places : HasPlaces m) where
  abbrev h : Header
  h = counted m.present.header 0

  abbrev ps : List NamedHazard
  ps = standing m.present

  kept_rules : KeepsRules m.present
  kept_rules = (open_exactly m.present places.present_state).0 (now_open m good)

  fits : HeaderFits h
  fits = counted_fits m.present.header 0 kept_rules.header (omega arith)

  rules : Stand h 0 ps
  rules = stand_counted m.present.header 0 0 ps kept_rules.hazards

  told_under : (number : ℕ) → Told h (kept_under m number)
  told_under number = told m.present.header (kept_under m number) (places_under m places number)
      (sound_cases (kept_under m number) m.present.header (each_sound_lem m good number))

  what : ℕ → Kept (List NamedHazard)
  what number = (told_under number).what

  what_rules : (number : ℕ) → StandKept h (what number)
  unfolding what
  what_rules number = (told_under number).rules

  -- Each state that is kept is made, kept and taken apart again; then the present state is made.
  abbrev calls : List Call
  calls = keep_below what 8 ++ adds ps

  can_make : CanMake calls
  can_make = can_both (keep_below what 8) (adds ps) (can_below h what what_rules 8) (can_add h 0 ps rules)

  abbrev start : OpenStates
  start = empty_states h

  made : placed_after_all h (opened []) calls ≡ holding ps (kept_below what 8)
  made =
      foldl-append _ (opened []) (keep_below what 8) (adds ps)
      ∙ ap (λ (t : States (List NamedHazard)). placed_after_all h t (adds ps)) (below_kept h what what_rules 8 (omega arith))
      ∙ adds_leave h (kept_below what 8) [] ps rules
      (omega (arith, (header_bounds m.present.header kept_rules.header).count, length-take m.present.header.count m.present.hazards))

  laid : Laid h (holding ps (kept_below what 8)) (foldl after_call start calls)
  laid = rw made at (follows_all h fits (opened []) (opened []) start (follows_opened h) calls can_make).laid

  kept_is : (number : ℕ) → kept_under m number ≡ laid_kept h (kept_below what 8 number)
  unfolding what
  kept_is number = go (dec_lt number 8)
    where
      go : Dec (number < 8) → kept_under m number ≡ laid_kept h (kept_below what 8 number)
      go (yes l) = (told_under number).same ∙ sym (ap (laid_kept h) (kept_lower h what what_rules 8 number l))
      go (no l) = none_above m number (omega arith) ∙ sym (ap (laid_kept h) (kept_others h what what_rules 8 number (omega arith)))

  left_so : m ≡ foldl after_call start calls
  left_so = states_same m (foldl after_call start calls) places.eight laid.size (kept_rules.layout ∙ sym laid.present) (λ number. kept_is number ∙ sym (laid.kept number))

  left_by : CallsFrom (write_job (made_from m.present.header [])) (made_from m.present.header []) calls m
  left_by =
      let job = made_from m.present.header [] in
      let fine = empty_accepted m.present.header kept_rules.header in
      record {
        job_is_accepted = fine;
        empty = refl;
        nameable = can_make;
        before = m;
        memory = left_so ∙ sym (ap (λ (a : Answer OpenStates). foldl after_call (memory_after a m) calls) (opening_accepted (write_job job) job fine));
      }

pub memory_promise : MemoryPromise
memory_promise m places = (
  λ e. (write_job (made_from m.present.header []), made_from m.present.header [], calls m e places, left_by m e places),
  λ w. (standing_promise w.0 w.1 w.2 m w.3).is_open,
)

pub rules_promise : RulesPromise
unfolding add_in withdraw_in schedule_in reach_in keep_in return_in
rules_promise m broken = record {
  adds = λ name z. rw broken;
  withdrawals = λ name. rw broken;
  schedules = λ side room. rw broken;
  reaches = λ name. rw broken;
  keeps = λ number. rw broken;
  returns = λ number. rw broken;
}
