-- Names to 255 (before document 02's request 12): 256 hazards have all of them, so no add of one is refused 15.
-- Assumes nothing.
use Rattle.std.specs.Prelude.{if◌then◌else◌}
use Prim.Native.Nat.{ℕ, zero, suc, ◌≤◌, ◌<◌}
use native.Mathlib.Omega.{arith}
use native.Mathlib.Decide.{ℕ_discrete}
use mathlib.Core.Path.{◌≡◌, refl, subst, ap, ◌∙◌}
use mathlib.Core.Logic.{◌⊎◌, inl, inr}
use mathlib.Core.Bool.{Bool, true, false, not}
use mathlib.Core.List.Memᴰ
use mathlib.Core.List.{List, [], ◌∷◌, ◌++◌, Memᴰ}
use lib.ListN.{length}
use borrow.Author.Tests.{lt-leb}
use Rattle.base.specs.Answer.{◌>>=◌, is_accepted, replied}
use Rattle.refusal.specs.Refusal.{unless_refuse}
use Rattle.refusal.specs.declared.Refusal.TheVariants as Row
use Rattle.job.specs.declared.Header.{Header}
use Rattle.job.specs.declared.Hazard.{Hazard}
use Rattle.job.specs.declared.NamedHazard.{NamedHazard}
use Rattle.job.specs.Job.{Job, named}
use Rattle.open_memory.specs.Memory.{most_standing, stands, is_full, without, admit}
use Rattle.open_job.specs.Calls.{test_add, add_in}
use Rattle.open_job.specs.declared.OpenStates.{OpenStates}
use Rattle.open_promises.specs.Lists.{Edit, add, withdraw, Call, edit, Kept, nothing, state, States, opened, stand_after, hazards_after, CallsFrom, SchedulesAs}
use Rattle.open_promises.specs.Lists.{Standing, test_name_and_hazard}
use Rattle.as_before.specs.Names.{ByteNamed, hazards_before, NamesBefore12}
use Rattle.open_promises.proofs.HazardLaws.{Distinct, distinct_more, distinct_less, without_cases, none_taken, one_less}
use Rattle.open_promises.proofs.StandingLaws.{may_add}
use Rattle.open_promises.proofs.ModelLaws.{AgreeKept, AgreeAll, agree_opened, agree_calls}
use Rattle.open_promises.proofs.ListLaws.{standing_promise, schedule_promise}

-- No more hazards than names.
few_names : (n : ℕ) (ps : List NamedHazard) → Distinct ps → ((p : NamedHazard) → Memᴰ p ps → p.name < n) → length ps ≤ n
few_names zero [] d lower = omega arith
few_names zero (p ∷ ps) d lower = absurd (omega (arith, lower p (Memᴰ.head refl)))
few_names (suc n) ps d lower =
    go (stands n ps) refl (few_names n (without n ps) (distinct_less n ps d) (λ p m. let w = without_cases n p ps m in below p w.1 (lower p w.0)))
  where
    below : (p : NamedHazard) → (p.name ≡ n → ⊥) → p.name < suc n → p.name < n
    below p other l = there (ℕ_discrete p.name n)
      where
        there : Dec (p.name ≡ n) → p.name < n
        there (yes e) = absurd (other e)
        there (no e) = omega arith

    go : (b : Bool) → stands n ps ≡ b → length (without n ps) ≤ n → length ps ≤ suc n
    go true e l = omega (arith, one_less n ps d e)
    go false e l = omega (arith, ap length (none_taken n ps e))

-- Hazards with bytes for names, no two of them the same.
record Bytes (past : List NamedHazard) : Type 0 where
  apart : Distinct past
  each : (p : NamedHazard) → Memᴰ p past → p.name ≤ 255

-- A byte that is the name of none leaves room.
room : (past : List NamedHazard) → Bytes past → (name : ℕ) (z : Hazard) → name ≤ 255 → stands name past ≡ false → is_full past ≡ false
room past b name z byte fresh =
    lt-leb most_standing (length past) (omega (arith, few_names most_standing (named name z ∷ past) (fresh, b.apart) (λ p m. lower p (Memᴰ.cases_cons m))))
  where
    lower : (p : NamedHazard) → (p ≡ named name z) ⊎ Memᴰ p past → p.name < 256
    lower p (inl e) = omega (arith, byte, ap (λ (x : NamedHazard). x.name) e)
    lower p (inr m) = omega (arith, b.each p m)

-- So an add under a byte is tested as before.
tests_before : (h : Header) (past : List NamedHazard) → Bytes past → (name : ℕ) (z : Hazard) → name ≤ 255
    → test_add h past name z ≡ test_name_and_hazard h past name z
tests_before h past b name z byte = go (stands name past) refl
  where
    go : (t : Bool) → stands name past ≡ t
        → (unless_refuse (not t) (Row.Name name) >>= λ _. unless_refuse (not (is_full past)) Row.Full >>= λ _. admit h name z)
        ≡ (unless_refuse (not t) (Row.Name name) >>= λ _. admit h name z)
    go true e = refl
    go false e = rw (room past b name z byte e)

-- Edits

abbrev ByteEdit : Edit → Type 0
ByteEdit (add name z) = name ≤ 255
ByteEdit (withdraw name) = Unit {0}

module _ (h : Header) (past : List NamedHazard) (b : Bytes past) where
  edit_same : (e : Edit) → ByteEdit e → stand_after (test_add h) past e ≡ stand_after (test_name_and_hazard h) past e
  unfolding stand_after
  edit_same (withdraw name) byte = refl
  edit_same (add name z) byte = rw (tests_before h past b name z byte)

  edit_bytes : (e : Edit) → ByteEdit e → Bytes (stand_after (test_add h) past e)
  unfolding stand_after
  edit_bytes (withdraw name) byte = record { apart = distinct_less name past b.apart; each = λ p m. b.each p (without_cases name p past m).0 }
  edit_bytes (add name z) byte = go (is_accepted (test_add h past name z)) refl
    where
      there : (p : NamedHazard) → Memᴰ p past ⊎ Memᴰ p (named name z ∷ []) → p.name ≤ 255
      there p (inl m) = b.each p m
      there p (inr m) = omega (arith, byte, ap (λ (x : NamedHazard). x.name) (Memᴰ.eq_of_singleton m))

      go : (a : Bool) → is_accepted (test_add h past name z) ≡ a → Bytes (if a then past ++ named name z ∷ [] else past)
      go true e = record {
        apart = distinct_more past (named name z) b.apart (may_add h past name z e).fresh;
        each = λ p m. there p (Memᴰ.append_cases past m);
      }
      go false e = b

-- Calls

record AsBefore (past before : List NamedHazard) : Type 0 where
  same : past ≡ before
  bytes : Bytes past

same_kept : (x y : Kept (List NamedHazard)) → AgreeKept AsBefore x y → x ≡ y
same_kept nothing nothing a = refl
same_kept nothing (state before) a = absurd a
same_kept (state past) nothing a = absurd a
same_kept (state past) (state before) a = ap state a.same

module _ (s : List ℕ) (j : Job) (calls : List Call) (m : OpenStates) (from : CallsFrom s j calls m) (byte : ByteNamed calls) where
  abbrev h : Header
  h = j.header

  abbrev are : States (List NamedHazard)
  are = hazards_after h calls

  abbrev were : States (List NamedHazard)
  were = hazards_before h calls

  alike : AgreeAll AsBefore are were
  alike =
      agree_calls AsBefore (stand_after (test_add h)) (stand_after (test_name_and_hazard h)) ByteEdit
      (λ past before k e byte. record {
        same = edit_same h past k.bytes e byte ∙ ap (λ (l : List NamedHazard). stand_after (test_name_and_hazard h) l e) k.same;
        bytes = edit_bytes h past k.bytes e byte;
      })
      (opened []) (opened []) (agree_opened AsBefore (record { same = refl; bytes = record { apart = tt; each = λ p k. absurd (Memᴰ.not-nil k) } })) calls
      may
    where
      may : (e : Edit) → Memᴰ (edit e) calls → ByteEdit e
      may (add name z) k = byte name z k
      may (withdraw name) k = tt

  same : are ≡ were
  same = λ i. record { present = alike.present.same i; kept = λ number. same_kept (are.kept number) (were.kept number) (alike.kept number) i }

pub names_before_12 : NamesBefore12
names_before_12 s j calls m from byte =
    let h = j.header in
    let k = alike s j calls m from byte in
    let standing = standing_promise s j calls m from in
    let are-were = same s j calls m from byte in
    record {
      same = are-were;
      next_add = λ name z top.
          subst (λ (t : States (List NamedHazard)). replied (add_in m name z) ≡ replied (test_name_and_hazard h t.present name z)) are-were
          (standing.next_add name z ∙ ap replied (tests_before h (hazards_after h calls).present k.present.bytes name z top));
      hazards_stand = subst (λ (t : States (List NamedHazard)). Standing h t m) are-were standing;
      schedules = subst (λ (t : States (List NamedHazard)). SchedulesAs h t.present m) are-were (schedule_promise s j calls m from);
    }
