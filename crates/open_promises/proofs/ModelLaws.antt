-- States of any kind, kept and returned to: what is kept stays, and states of two kinds that agree go on agreeing.
-- Assumes nothing.
use Rattle.std.specs.Prelude.{if◌then◌else◌}
use Prim.Native.Nat.{ℕ, ◌≤◌}
use mathlib.Core.Path.{◌≡◌, refl, sym, ap, ◌∙◌}
use mathlib.Core.Bool.{Bool, true, false}
use mathlib.Core.List.{List, [], ◌∷◌, ◌++◌, foldl, foldl-append, Memᴰ}
use lib.Dec.{leb, eqb}
use borrow.Author.Tests.{le-leb, eq-eqb, ne_eqb}
use Rattle.open_job.specs.States.{greatest_state_number}
use Rattle.open_promises.specs.Lists.{Edit, Call, edit, schedule, keep_as, return_to, Kept, nothing, state, States, opened, returned_to, states_after}

-- A state returned to

module _ {A : Type 0} (next : A → Edit → A) where
  -- What is kept stays, but by a keep under its number.
  kept_stays : (number : ℕ) (s : States A) (c : Call) → (c ≡ keep_as number → ⊥) → (states_after next s c).kept number ≡ s.kept number
  unfolding states_after
  kept_stays number s (edit e) other = refl
  kept_stays number s (schedule side room) other = refl
  kept_stays number s (keep_as n) other = go (leb n greatest_state_number)
    where
      go : (b : Bool) → (if b then record { present = s.present; kept = λ k. if eqb n k then state s.present else s.kept k } else s).kept number
          ≡ s.kept number
      go true = rw (ne_eqb n number (λ e. other (ap keep_as e)))
      go false = refl
  kept_stays number s (return_to n) other = go (s.kept n)
    where
      go : (k : Kept A) → (returned_to k s).kept number ≡ s.kept number
      go nothing = refl
      go (state a) = refl

  kept_stays_all : (number : ℕ) (s : States A) (cs : List Call) → (Memᴰ (keep_as number) cs → ⊥)
      → (foldl (states_after next) s cs).kept number ≡ s.kept number
  kept_stays_all number s [] other = refl
  kept_stays_all number s (c ∷ cs) other =
      kept_stays_all number (states_after next s c) cs (λ m. other (Memᴰ.tail m)) ∙ kept_stays number s c (λ e. other (Memᴰ.head (sym e)))

  -- What a keep makes of the states.
  pub keep_most : (n : ℕ) (s : States A) → n ≤ greatest_state_number
      → states_after next s (keep_as n) ≡ record { present = s.present; kept = λ k. if eqb n k then state s.present else s.kept k }
  unfolding states_after
  keep_most n s most = rw (le-leb n greatest_state_number most)

  -- After a return the present state is the one that was kept last.
  pub returned : (number : ℕ) (s : States A) (before since : List Call) → number ≤ greatest_state_number → (Memᴰ (keep_as number) since → ⊥)
      → (foldl (states_after next) s (before ++ keep_as number ∷ since ++ return_to number ∷ [])).present ≡ (foldl (states_after next) s before).present
  unfolding states_after
  returned number s before since most other =
      let earlier = foldl (states_after next) s before in
      let first = states_after next earlier (keep_as number) in
      let last = foldl (states_after next) first since in
      let kept : first.kept number ≡ state earlier.present =
      ap (λ (t : States A). t.kept number) (keep_most number earlier most) ∙ rw (eq-eqb number number refl) in
      ap (λ (t : States A). t.present) (foldl-append (states_after next) s (before ++ keep_as number ∷ since) (return_to number ∷ []))
      ∙ ap (λ (t : States A). (returned_to (t.kept number) t).present) (foldl-append (states_after next) s before (keep_as number ∷ since))
      ∙ ap (λ (k : Kept A). (returned_to k last).present) (kept_stays_all number first since other ∙ kept)

-- States of two kinds that agree one by one, where R says when two agree

module _ {A B : Type 0} (R : A → B → Type 0) where
  abbrev pub AgreeKept : Kept A → Kept B → Type 0
  AgreeKept nothing nothing = Unit {0}
  AgreeKept nothing (state b) = ⊥
  AgreeKept (state a) nothing = ⊥
  AgreeKept (state a) (state b) = R a b

  pub record AgreeAll (s : States A) (t : States B) : Type 0 where
    pub present : R s.present t.present
    pub kept : (number : ℕ) → AgreeKept (s.kept number) (t.kept number)

  pub agree_opened : {a : A} {b : B} → R a b → AgreeAll (opened a) (opened b)
  agree_opened r = record { present = r; kept = λ number. tt }

  -- They agree after the same calls, where they do after each edit that may be made.
  module _ (f : A → Edit → A) (g : B → Edit → B) (May : Edit → Type 0) (step : (a : A) (b : B) → R a b → (e : Edit) → May e → R (f a e) (g b e)) where
    pub agree_call : (s : States A) (t : States B) → AgreeAll s t → (c : Call) → ((e : Edit) → edit e ≡ c → May e)
        → AgreeAll (states_after f s c) (states_after g t c)
    unfolding states_after
    agree_call s t both (edit e) may = record { present = step s.present t.present both.present e (may e refl); kept = both.kept }
    agree_call s t both (schedule side room) may = both
    agree_call s t both (keep_as n) may = go (leb n greatest_state_number)
      where
        one : (k : ℕ) (b : Bool) → AgreeKept (if b then state s.present else s.kept k) (if b then state t.present else t.kept k)
        one k true = both.present
        one k false = both.kept k

        go : (b : Bool)
            → AgreeAll (if b then record { present = s.present; kept = λ k. if eqb n k then state s.present else s.kept k } else s)
            (if b then record { present = t.present; kept = λ k. if eqb n k then state t.present else t.kept k } else t)
        go true = record { present = both.present; kept = λ k. one k (eqb n k) }
        go false = both
    agree_call s t both (return_to n) may = go (s.kept n) (t.kept n) (both.kept n)
      where
        go : (x : Kept A) (y : Kept B) → AgreeKept x y → AgreeAll (returned_to x s) (returned_to y t)
        go nothing nothing r = both
        go nothing (state b) r = absurd r
        go (state a) nothing r = absurd r
        go (state a) (state b) r = record { present = r; kept = both.kept }

    pub agree_calls : (s : States A) (t : States B) → AgreeAll s t → (cs : List Call) → ((e : Edit) → Memᴰ (edit e) cs → May e)
        → AgreeAll (foldl (states_after f) s cs) (foldl (states_after g) t cs)
    agree_calls s t both [] may = both
    agree_calls s t both (c ∷ cs) may =
        agree_calls (states_after f s c) (states_after g t c) (agree_call s t both c (λ e q. may e (Memᴰ.head q))) cs (λ e m. may e (Memᴰ.tail m))
