-- What is known where an answer was accepted.
-- Assumes nothing.
use mathlib.Core.Path.{◌≡◌, refl}
use Rattle.base.specs.Answer.{Answer, accepted, refused, ◌>>=◌}
use Rattle.base.specs.Stored.{accepted_or}

-- Of an answer with a second part that was accepted, both parts were.
pub record Bound {A B : Type 0} (m : Answer A) (f : A → Answer B) (b : B) : Type 0 where
  pub first : A
  pub taken : m ≡ accepted first
  pub rest : f first ≡ accepted b

pub bound : {A B : Type 0} (m : Answer A) (f : A → Answer B) (b : B) → m >>= f ≡ accepted b → Bound m f b
bound (accepted a) f b e = record { first = a; taken = refl; rest = e }
bound (refused k v) f b e = cc

-- What follows an answer, and what follows that.
pub bind_assoc : {A B C : Type 0} (m : Answer A) (f : A → Answer B) (g : B → Answer C) → (m >>= f) >>= g ≡ (m >>= λ a. f a >>= g)
bind_assoc (accepted a) f g = refl
bind_assoc (refused k v) f g = refl

-- What holds of a value beside a refusal, and of what is made where an answer was accepted.
pub beside_or_made : {A B : Type 0} (P : B → Type 0) (b : B) (m : Answer A) (f : A → Answer B) → P b → ((a : A) → m ≡ accepted a → P (accepted_or b (f a)))
    → P (accepted_or b (m >>= f))
beside_or_made P b (accepted a) f old new = new a refl
beside_or_made P b (refused k v) f old new = old

-- What follows an answer may use that it was accepted.
pub bind_same : {A B : Type 0} (m : Answer A) (f g : A → Answer B) → ((a : A) → m ≡ accepted a → f a ≡ g a) → (m >>= f) ≡ (m >>= g)
bind_same (accepted a) f g same = same a refl
bind_same (refused k v) f g same = refl
