-- A test that refuses by a row of the table: what is known where it passed.
-- Assumes nothing.
use Rattle.std.specs.Prelude.{Result, Ok, Err, IsErrAnd}
use mathlib.Core.Path.{◌≡◌, refl, ap}
use mathlib.Core.Bool.{Bool, true, false, ◌&&◌}
use Rattle.base.specs.Answer.{Answer, accepted, ◌>>=◌}
use Rattle.refusal.specs.Refusal.{unless_refuse, refusal, answer_of}
use Rattle.refusal.specs.declared.Refusal.{Refusal}

-- What the exit of a `?` returns: the refusal, passed on.
pub passed_on : {A : Type 0} (r : Result A Refusal) (q : Refusal) → IsErrAnd r (λ e. e ≡ q) → answer_of r ≡ refusal q
passed_on (Ok a) q h = absurd h
passed_on (Err e) q h = ap refusal h

pub tested : (t : Bool) (r : Refusal) (u : Unit {0}) → unless_refuse t r ≡ accepted u → t ≡ true
tested true r u e = refl
tested false r u e = cc

-- A test that was passed, and what came behind it.
pub passed : {A : Type 0} (t : Bool) (r : Refusal) (f : Unit {0} → Answer A) (a : A) → unless_refuse t r >>= f ≡ accepted a → (t ≡ true) × (f tt ≡ accepted a)
passed true r f a e = (refl, e)
passed false r f a e = cc

-- A test before an answer that the same row refuses where another test fails: one test of both.
pub both_tests : {A : Type 0} (s t : Bool) (r : Refusal) (a : Answer A) → (t ≡ false → a ≡ refusal r)
    → (unless_refuse s r >>= λ _. a) ≡ (unless_refuse (t && s) r >>= λ _. a)
both_tests true true r a e = refl
both_tests true false r a e = e refl
both_tests false true r a e = refl
both_tests false false r a e = refl
