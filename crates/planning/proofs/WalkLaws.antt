-- The walk over hazards: one more, and how it ends; from any source, for any taker.
-- Assumes nothing.
use Rattle.std.specs.Prelude.{Option, Some, None, Result, Ok, Err, IsErrAnd}
use Rattle.std.specs.Option.{is_some}
use Prim.Native.Nat.{ℕ, suc, ◌+◌, ◌-◌, ◌≤◌, ◌<◌}
use native.Mathlib.Omega.{arith}
use native.Mathlib.Nat.{sub-zero, zero-add}
use mathlib.Core.Path.{◌≡◌, refl, sym, subst, ap, ◌∙◌}
use mathlib.Core.Bool.{Bool, true, false, not}
use mathlib.Core.List.{List, [], ◌∷◌, ◌++◌}
use lib.ListN.{length, length-append}
use Rattle.base.specs.Answer.{Answer, accepted, refused, ◌>>=◌}
use Rattle.base.proofs.AnswerLaws.{bind_assoc, bind_same}
use Rattle.refusal.specs.Refusal.{unless_refuse, refusal}
use Rattle.refusal.specs.declared.Refusal.TheVariants as Row
use Rattle.refusal.specs.declared.Refusal.{Refusal}
use Rattle.job.specs.declared.Header.{Header}
use Rattle.job.specs.declared.Hazard.{Hazard}
use Rattle.job.specs.Job.{Job}
use Rattle.job.specs.Hazards.{after_hazard, after_all}
use Rattle.planning.specs.Envelope.{stands_near, test_hazard, test_hazards}
use Rattle.planning.specs.Walk.{near_answer, near_behind, tests_of}

-- A result that is an error, and an option without a value.
pub the_err : {A : Type 0} (r : Result A Refusal) (q : Refusal) → IsErrAnd r (λ e. e ≡ q) → r ≡ Err q
the_err (Ok a) q h = absurd h
the_err (Err e) q h = ap Err h

pub no_value : (o : Option ℕ) → is_some o ≡ false → o ≡ None
no_value (Some k) e = cc
no_value None e = refl

-- The tests of hazards, and of one behind them.
tests_last : (h : Header) (i : ℕ) (zs : List Hazard) (z : Hazard)
    → test_hazards h i (zs ++ z ∷ []) ≡ (test_hazards h i zs >>= λ _. test_hazard h (i + length zs) z)
unfolding test_hazards
tests_last h i [] z = go (test_hazard h i z) ∙ ap (λ (k : ℕ). test_hazard h k z) (omega arith)
  where
    go : (a : Answer (Unit {0})) → (a >>= λ _. accepted tt) ≡ a
    go (accepted u) = refl
    go (refused k v) = refl
tests_last h i (y ∷ zs) z =
    bind_same (test_hazard h i y) _ _ (λ _ _. tests_last h (i + 1) zs z ∙ ap (λ (k : ℕ). test_hazards h (i + 1) zs >>= λ _. test_hazard h k z) (omega arith))
    ∙ sym (bind_assoc (test_hazard h i y) (λ _. test_hazards h (i + 1) zs) (λ _. test_hazard h (i + length (y ∷ zs)) z))

-- The first hazard that stood too near.
near_more : (h : Header) (i : ℕ) (z : Hazard) (near : Option ℕ) → near_answer (near_behind (stands_near h z) i near) ≡ (near_answer near >>= λ _. test_hazard h i z)
unfolding test_hazard
near_more h i z near = go (stands_near h z) near
  where
    go : (b : Bool) (n : Option ℕ) → near_answer (near_behind b i n) ≡ (near_answer n >>= λ _. unless_refuse (not b) (Row.NearBarrier i))
    go true (Some k) = refl
    go true None = refl
    go false (Some k) = refl
    go false None = refl

near_none : (b : Bool) (i : ℕ) (near : Option ℕ) → near_behind b i near ≡ None → (b ≡ false) × (near ≡ None)
near_none true i (Some k) e = cc
near_none true i None e = cc
near_none false i near e = (refl, e)

-- Behind the first i hazards: those had, their tests, and what is left of the source.
pub record SoFar {S T : Type 0} (rest : S → Header → ℕ → List Hazard → Answer Job) (took : T → Header → List Hazard → Type 0) (h : Header) (first source : S)
    (taker : T) (near : Option ℕ) (i : ℕ) : Type 0 where
  pub got : List Hazard
  pub number : length got ≡ i
  pub most : i ≤ h.count
  pub same : rest first h h.count [] ≡ rest source h (h.count - i) got
  pub tests : near_answer near ≡ test_hazards h 0 got
  pub taken : near ≡ None → took taker h got

module _ {S T : Type 0} (rest : S → Header → ℕ → List Hazard → Answer Job) (took : T → Header → List Hazard → Type 0) (h : Header) (first : S) where
  pub walk_begun : (taker : T) → took taker h [] → SoFar rest took h first first taker None 0
  unfolding test_hazards
  walk_begun taker none = record {
    got = [];
    number = refl;
    most = omega arith;
    same = rw sub-zero;
    tests = refl;
    taken = λ _. none;
  }

  module _ {source : S} {taker : T} {near : Option ℕ} {i : ℕ} (so : SoFar rest took h first source taker near i) where
    -- The next hazard.
    module _ (more : i < h.count) (source' : S) (r : Result Hazard Refusal)
        (step : (k : ℕ) (got : List Hazard) → length got ≡ i → rest source h (suc k) got ≡ after_hazard got r (rest source' h k)) where
      left_next : rest first h h.count [] ≡ after_hazard so.got r (rest source' h (h.count - (i + 1)))
      left_next =
          let count : h.count - i ≡ suc (h.count - (i + 1)) = omega arith in
          so.same ∙ ap (λ (m : ℕ). rest source h m so.got) count ∙ step (h.count - (i + 1)) so.got so.number

      pub walk_next : (z : Hazard) → r ≡ Ok z → (taker' : T) (near' : Option ℕ) → near' ≡ near_behind (stands_near h z) i near
          → (stands_near h z ≡ false → (zs : List Hazard) → length zs ≡ i → took taker h zs → took taker' h (zs ++ z ∷ []))
          → SoFar rest took h first source' taker' near' (i + 1)
      walk_next z e taker' near' n takes = record {
        got = so.got ++ z ∷ [];
        number = length-append so.got (z ∷ []) ∙ omega (arith, so.number);
        most = omega arith;
        same = left_next ∙ rw e refl;
        tests = rw (n, near_more h i z near, so.tests, sym so.number) (sym (tests_last h 0 so.got z ∙ rw (zero-add (length so.got)) refl));
        taken = λ none. let b = near_none (stands_near h z) i near (sym n ∙ none) in takes b.0 so.got so.number (so.taken b.1);
      }

      pub walk_refused : (q : Refusal) → r ≡ Err q → tests_of h (rest first h h.count []) ≡ refusal q
      walk_refused q e = rw (left_next, e) refl

    -- All hazards were had.
    module _ (done : h.count ≤ i) (r : Result (Unit {0}) Refusal) (step : (h : Header) (got : List Hazard) → rest source h 0 got ≡ after_all h got r) where
      left_none : rest first h h.count [] ≡ after_all h so.got r
      left_none = let count : h.count - i ≡ 0 = omega arith in so.same ∙ ap (λ (m : ℕ). rest source h m so.got) count ∙ step h so.got

      pub walk_over : (q : Refusal) → r ≡ Err q → tests_of h (rest first h h.count []) ≡ refusal q
      walk_over q e = rw (left_none, e) refl

      module _ {u : Unit {0}} (end : r ≡ Ok u) where
        pub walk_had : rest first h h.count [] ≡ accepted (record { header = h; hazards = so.got })
        walk_had = rw (left_none, end) refl

        pub walk_tested : tests_of h (rest first h h.count []) ≡ near_answer near
        walk_tested = rw (walk_had, so.tests) refl

        pub walk_took : near ≡ None → (j : Job) → rest first h h.count [] ≡ accepted j → took taker h j.hazards
        walk_took none j e =
            let same : record { header = h; hazards = so.got } ≡ j = let p = sym walk_had ∙ e in cc in
            subst (λ (k : Job). took taker h k.hazards) same (so.taken none)
