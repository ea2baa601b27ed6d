-- Hazards that stand, in their places and apart from them: the same ones, edit after edit.
-- Assumes nothing.
use Rattle.std.specs.Prelude.{if◌then◌else◌}
use Prim.Native.Nat.{ℕ, ◌≤◌}
use native.Mathlib.Omega.{arith}
use mathlib.Core.Path.{◌≡◌, refl, sym, ap, ◌∙◌}
use mathlib.Core.Logic.{inl, inr, ◌↔◌, ⊎_elim}
use mathlib.Core.Bool.{Bool, true, false, not}
use mathlib.Core.List.Memᴰ
use mathlib.Core.List.{List, [], ◌∷◌, ◌++◌, Memᴰ}
use lib.ListN.{length, length-append}
use borrow.Author.Tests.{leb-false}
use Rattle.base.specs.Answer.{Answer, accepted, refused, ◌>>=◌, is_accepted}
use Rattle.refusal.specs.Refusal.{unless_refuse}
use Rattle.refusal.specs.declared.Refusal.TheVariants as Row
use Rattle.job.specs.declared.Header.{Header}
use Rattle.job.specs.declared.Hazard.{Hazard}
use Rattle.job.specs.declared.NamedHazard.{NamedHazard}
use Rattle.job.specs.declared.StoredJob.{StoredJob}
use Rattle.job.specs.Job.{named}
use Rattle.open_memory.specs.Memory.{most_standing, laid_out, stands, is_full, inserted, without, admit}
use Rattle.open_memory.proofs.RuleLaws.{admitted, Stand}
use Rattle.open_memory.proofs.PlaceLaws.{inserted_stand, inserted_length, without_stand}
use Rattle.open_job.specs.Calls.{test_add, memory_after, add_to, withdraw_from}
use Rattle.open_job.proofs.LayoutLaws.{add_laid, withdraw_laid}
use Rattle.open_promises.specs.Lists.{Edit, add, withdraw, Nameable, stand_after}
use Rattle.open_promises.proofs.HazardLaws.{inserted_which, without_cases, without_other, stands_alike, none_taken, Distinct, stand_distinct}
use Rattle.open_promises.proofs.HazardLaws.{distinct_more, distinct_less, without_length, one_less}

-- An add that is not refused.
pub record MayAdd (h : Header) (ps : List NamedHazard) (name : ℕ) (z : Hazard) : Type 0 where
  pub fresh : stands name ps ≡ false
  pub room : is_full ps ≡ false
  pub may : is_accepted (admit h name z) ≡ true

pub may_add : (h : Header) (ps : List NamedHazard) (name : ℕ) (z : Hazard) → is_accepted (test_add h ps name z) ≡ true → MayAdd h ps name z
may_add h ps name z e = go (stands name ps) (is_full ps) refl refl e
  where
    go : (b f : Bool) → stands name ps ≡ b → is_full ps ≡ f
        → is_accepted (unless_refuse (not b) (Row.Name name) >>= λ _. unless_refuse (not f) Row.Full >>= λ _. admit h name z) ≡ true → MayAdd h ps name z
    go false false p q r = record { fresh = p; room = q; may = r }
    go false true p q r = cc
    go true f p q r = cc

-- In their places, in the order of their names

unfoldable pub placed_after : Header → List NamedHazard → Edit → List NamedHazard
placed_after h ps (add name z) = if is_accepted (test_add h ps name z) then inserted (named name z) ps else ps
placed_after h ps (withdraw name) = without name ps

abbrev pub edited : StoredJob → Edit → Answer StoredJob
edited a (add name z) = add_to a name z
edited a (withdraw name) = withdraw_from a name

-- So the memory is changed.
pub edit_memory : (h : Header) (ps : List NamedHazard) (e : Edit) → memory_after (edited (laid_out h ps) e) (laid_out h ps) ≡ laid_out h (placed_after h ps e)
unfolding placed_after
edit_memory h ps (add name z) = ap (λ (x : Answer StoredJob). memory_after x (laid_out h ps)) (add_laid h ps name z) ∙ go (test_add h ps name z)
  where
    go : (a : Answer (Unit {0})) → memory_after (a >>= λ _. accepted (laid_out h (inserted (named name z) ps))) (laid_out h ps)
        ≡ laid_out h (if is_accepted a then inserted (named name z) ps else ps)
    go (accepted u) = refl
    go (refused k v) = refl
edit_memory h ps (withdraw name) = ap (λ (x : Answer StoredJob). memory_after x (laid_out h ps)) (withdraw_laid h ps name) ∙ go (stands name ps) refl
  where
    go : (b : Bool) → stands name ps ≡ b → memory_after (unless_refuse b (Row.Name name) >>= λ _. accepted (laid_out h (without name ps))) (laid_out h ps)
        ≡ laid_out h (without name ps)
    go true e = refl
    go false e = ap (laid_out h) (sym (none_taken name ps e))

-- In their places and apart from them

pub record Agree (h : Header) (ps past : List NamedHazard) : Type 0 where
  pub rules : Stand h 0 ps
  pub few : length ps ≤ most_standing
  pub same : (p : NamedHazard) → Memᴰ p ps ↔ Memᴰ p past
  pub number : length ps ≡ length past
  pub apart : Distinct past

module _ (h : Header) {ps past : List NamedHazard} (k : Agree h ps past) where
  pub stands_same : (name : ℕ) → stands name ps ≡ stands name past
  stands_same name = stands_alike name ps past k.same

  -- So an add is tested alike.
  pub tests_same : (name : ℕ) (z : Hazard) → test_add h ps name z ≡ test_add h past name z
  tests_same name z = rw (stands_same name, k.number)

  agree_add : (name : ℕ) (z : Hazard) → Nameable (add name z) → Agree h (placed_after h ps (add name z)) (stand_after (test_add h) past (add name z))
  unfolding placed_after stand_after
  agree_add name z top = rw (tests_same name z) (go (is_accepted (test_add h past name z)) refl)
    where
      p : NamedHazard
      p = named name z

      put : MayAdd h past name z → Agree h (inserted p ps) (past ++ p ∷ [])
      put a =
          let fresh : stands name ps ≡ false = stands_same name ∙ a.fresh in
          record {
            few = omega (arith, inserted_length p ps, leb-false most_standing (length past) a.room, k.number);
            rules = inserted_stand h 0 p ps (omega arith) top (admitted h name z a.may) fresh k.rules;
            same = λ x. (
              λ m. ⊎_elim (λ e. Memᴰ.append_right past (Memᴰ.head e)) (λ n. Memᴰ.append_left (p ∷ []) ((k.same x).0 n)) ((inserted_which p x ps fresh).0 m),
              λ m. (inserted_which p x ps fresh).1 (⊎_elim (λ n. inr ((k.same x).1 n)) (λ n. inl (Memᴰ.eq_of_singleton n)) (Memᴰ.append_cases past m)),
            );
            number = omega (arith, inserted_length p ps, length-append past (p ∷ []), k.number);
            apart = distinct_more past p k.apart a.fresh;
          }

      go : (b : Bool) → is_accepted (test_add h past name z) ≡ b → Agree h (if b then inserted p ps else ps) (if b then past ++ p ∷ [] else past)
      go true e = put (may_add h past name z e)
      go false e = k

  agree_withdraw : (name : ℕ) → Agree h (without name ps) (without name past)
  agree_withdraw name = record {
    rules = without_stand h 0 name ps k.rules;
    few = omega (arith, without_length name ps, k.few);
    same = λ x. (
      λ m. let w = without_cases name x ps m in without_other name x past ((k.same x).0 w.0) w.1,
      λ m. let w = without_cases name x past m in without_other name x ps ((k.same x).1 w.0) w.1,
    );
    number = go (stands name past) refl;
    apart = distinct_less name past k.apart;
  }
    where
      go : (b : Bool) → stands name past ≡ b → length (without name ps) ≡ length (without name past)
      go true e = omega (arith, one_less name ps (stand_distinct h 0 ps k.rules) (stands_same name ∙ e), one_less name past k.apart e, k.number)
      go false e = ap length (none_taken name ps (stands_same name ∙ e)) ∙ k.number ∙ sym (ap length (none_taken name past e))

  pub agree_edit : (e : Edit) → Nameable e → Agree h (placed_after h ps e) (stand_after (test_add h) past e)
  unfolding placed_after stand_after
  agree_edit (add name z) top = agree_add name z top
  agree_edit (withdraw name) top = agree_withdraw name
