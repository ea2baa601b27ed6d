-- The entrances, by the header and the walk behind it; and what is known of a side or a hazard that they give.
-- Assumes nothing.
use Rattle.std.specs.Prelude.{if◌then◌else◌, Option, Some, None, Result, Ok, Err}
use Prim.Native.Nat.{ℕ}
use mathlib.Core.Path.{◌≡◌, refl, sym, ap, ◌∙◌, subst}
use mathlib.Core.Bool.{Bool, true, false}
use mathlib.Core.List.{List, []}
use lib.ListN.{length}
use lib.Dec.{ltb, leb}
use borrow.Author.Tests.{ltb-true}
use Rattle.base.specs.Answer.{Answer, accepted, refused, ◌>>=◌}
use Rattle.base.proofs.AnswerLaws.{bound}
use Rattle.base.proofs.ListLaws.{get_d_member}
use Rattle.refusal.specs.Refusal.{unless_refuse, refusal, answer_of}
use Rattle.refusal.specs.declared.Refusal.{Refusal}
use Rattle.refusal.specs.declared.Refusal.TheVariants as Row
use Rattle.refusal.proofs.RefuseLaws.{tested}
use Rattle.job.specs.declared.Header.{Header}
use Rattle.job.specs.declared.Hazard.{Hazard}
use Rattle.job.specs.declared.header_fields.HeaderReading.{HeaderReading}
use Rattle.job.specs.Job.{Job, hazard_of, read_hazards, read_rest}
use Rattle.job.specs.Reply.{header_at}
use Rattle.job.specs.Fits.{HeaderFits, HazardFits}
use Rattle.job.proofs.RestLaws.{job_step}
use Rattle.planning.specs.Envelope.{test_hazards, accept_job}
use Rattle.planning.specs.Approached.{hazard_at}
use Rattle.planning.specs.declared.window.Window.{Window}
use Rattle.planning.specs.Window.{standing_in}
use Rattle.planning.specs.Reply.{cuts_of}
use Rattle.planning.specs.Rows.{Passed}
use Rattle.planning.specs.Walk.{tests_of}
use Rattle.planning.specs.Taker.{asked_took}
use Rattle.planning.specs.declared.accept.Indexed.{Indexed}
use Rattle.planning.specs.Accept.{AcceptedSide, side_within, side_of_job, indexed_hazard}
use Rattle.planning.proofs.EnvelopeLaws.{accepted_fits}

-- What follows a header has that header.
own_header : (h : Header) (k : ℕ) (got : List Hazard) (s : List ℕ) (at : ℕ) (j : Job) → read_rest h k got s at ≡ accepted j → j.header ≡ h
unfolding read_rest
own_header h k got s at j e =
    let b = bound (read_hazards h k got s at) _ j e in
    let c = bound (unless_refuse (leb (length s) b.first.next) (Row.LeftOver b.first.next)) _ j b.rest in
    let same : record { header = h; hazards = b.first.list } ≡ j = let z = c.rest in cc in
    sym (ap (λ (i : Job). i.header) same)

-- The side of a job, and a hazard of it, as they are answered.
abbrev side_given : Header → (side : ℕ) → Window → List Hazard → Answer AcceptedSide
side_given h side w zs = accepted (record { cuts = cuts_of h side (standing_in w zs); continuity = h.continuity })

abbrev indexed_given : Header → Hazard → Answer Indexed
indexed_given h z = accepted (record { header = h; hazard = z })

module _ (s : List ℕ) {x : HeaderReading} (read : header_at s ≡ accepted x) where
  -- The hazards behind the header.
  abbrev pub behind : Answer Job
  behind = read_rest x.header x.header.count [] s x.next

  pub accept_from : accept_job s ≡ (behind >>= λ j. test_hazards j.header 0 j.hazards >>= λ _. accepted j)
  unfolding accept_job
  accept_from = rw (job_step s, read)

  -- A side is that of the job behind the header.
  pub side_from : (side : ℕ) (w : Window) → side_of_job x.header side w behind ≡ side_within s side w
  unfolding side_within
  side_from side w = rw accept_from (go behind refl)
    where
      tests : (j : Job) → j.header ≡ x.header → (t : Answer (Unit {0}))
          → (t >>= λ _. side_given x.header side w j.hazards) ≡ ((t >>= λ _. accepted j) >>= λ k. side_given k.header side w k.hazards)
      tests j own (accepted u) = ap (λ (h : Header). side_given h side w j.hazards) (sym own)
      tests j own (refused k v) = refl

      go : (a : Answer Job) → behind ≡ a → side_of_job x.header side w a
          ≡ ((a >>= λ j. test_hazards j.header 0 j.hazards >>= λ _. accepted j) >>= λ k. side_given k.header side w k.hazards)
      go (accepted j) e =
          let own = own_header x.header x.header.count [] s x.next j e in
          ap (λ (h : Header). test_hazards h 0 j.hazards >>= λ _. side_given x.header side w j.hazards) (sym own)
          ∙ tests j own (test_hazards j.header 0 j.hazards)
      go (refused k v) e = refl

  -- By how a walk ended.
  module _ (r : Result (Unit {0}) Refusal) (answer : answer_of r ≡ tests_of x.header behind) where
    -- All hazards pass: the job is accepted.
    pub record DoneWith : Type 0 where
      pub job : Job
      pub read_on : behind ≡ accepted job
      pub its_header : job.header ≡ x.header
      pub job_is_accepted : accept_job s ≡ accepted job

    pub walk_accepts : {u : Unit {0}} → r ≡ Ok u → DoneWith
    walk_accepts {u} e =
        let whole : tests_of x.header behind ≡ accepted u = sym answer ∙ ap answer_of e in
        let b = bound behind (λ j. test_hazards x.header 0 j.hazards) u whole in
        let own = own_header x.header x.header.count [] s x.next b.first b.taken in
        record {
          job = b.first;
          read_on = b.taken;
          its_header = own;
          job_is_accepted =
              accept_from
              ∙ ap (λ (a : Answer Job). a >>= λ j. test_hazards j.header 0 j.hazards >>= λ _. accepted j) b.taken
              ∙ ap (λ (a : Answer (Unit {0})). a >>= λ _. accepted b.first) (ap (λ (h : Header). test_hazards h 0 b.first.hazards) own ∙ b.rest);
        }

    -- It was refused: so is the job.
    pub walk_refuses : (q : Refusal) → r ≡ Err q → accept_job s ≡ refusal q
    walk_refuses q e = accept_from ∙ go behind refl (sym answer ∙ ap answer_of e)
      where
        tests : (j : Job) (t : Answer (Unit {0})) → t ≡ refusal q → (t >>= λ _. accepted j) ≡ refusal q
        tests j (accepted u) p = cc
        tests j (refused k v) p = cc

        go : (a : Answer Job) → behind ≡ a → tests_of x.header a ≡ refusal q → (a >>= λ j. test_hazards j.header 0 j.hazards >>= λ _. accepted j) ≡ refusal q
        go (accepted j) e p =
            tests j (test_hazards j.header 0 j.hazards)
            (ap (λ (h : Header). test_hazards h 0 j.hazards) (own_header x.header x.header.count [] s x.next j e) ∙ p)
        go (refused k v) e p = cc

-- A job that could not be read to its hazards.
pub accept_unread : (s : List ℕ) (r : Refusal) → header_at s ≡ refusal r → accept_job s ≡ refusal r
unfolding accept_job
accept_unread s r e = rw (job_step s, e)

pub side_unread : (s : List ℕ) (side : ℕ) (w : Window) (r : Refusal) → accept_job s ≡ refusal r → side_within s side w ≡ refusal r
unfolding side_within
side_unread s side w r e = rw e

-- The hazard with an index.
module _ (s : List ℕ) (i : ℕ) where
  pub indexed_refused : (r : Refusal) → accept_job s ≡ refusal r → indexed_hazard s i ≡ refusal r
  unfolding indexed_hazard
  indexed_refused r e = rw e

  -- By what the walk found.
  module _ {j : Job} (e : accept_job s ≡ accepted j) {found : Option Hazard} (took : asked_took i found j.hazards) where
    pub indexed_found : (z : Hazard) → found ≡ Some z → indexed_hazard s i ≡ accepted (record { header = j.header; hazard = z })
    unfolding indexed_hazard
    indexed_found z q = rw e (go (ltb i (length j.hazards)) took)
      where
        go : (b : Bool) → found ≡ (if b then Some (hazard_at j i) else None)
            → (unless_refuse b Row.Hazard >>= λ _. indexed_given j.header (hazard_at j i)) ≡ indexed_given j.header z
        go true p = ap (indexed_given j.header) (let l : Some (hazard_at j i) ≡ Some z = sym p ∙ q in cc)
        go false p = (let l : None ≡ Some z = sym p ∙ q in cc)

    pub indexed_none : found ≡ None → indexed_hazard s i ≡ refused 14 0
    unfolding indexed_hazard
    indexed_none q = rw e (go (ltb i (length j.hazards)) took)
      where
        go : (b : Bool) → found ≡ (if b then Some (hazard_at j i) else None)
            → (unless_refuse b Row.Hazard >>= λ _. indexed_given j.header (hazard_at j i)) ≡ refused 14 0
        go true p = (let l : Some (hazard_at j i) ≡ None = sym p ∙ q in cc)
        go false p = refl

-- What is known of it.
pub record IndexedFits (a : Indexed) : Type 0 where
  pub header : HeaderFits a.header
  pub hazard : HazardFits a.header a.hazard
  pub passed : Passed a.header a.hazard

pub indexed_fits : (s : List ℕ) (i : ℕ) (a : Indexed) → indexed_hazard s i ≡ accepted a → IndexedFits a
unfolding indexed_hazard
indexed_fits s i a e =
    let b1 = bound (accept_job s) _ a e in
    let j = b1.first in
    let b2 = bound (unless_refuse (ltb i (length j.hazards)) Row.Hazard) _ a b1.rest in
    let f = accepted_fits s j b1.taken in
    let m = get_d_member j.hazards i (hazard_of []) (ltb-true i (length j.hazards) (tested _ Row.Hazard _ b2.taken)) in
    let same : record { header = j.header; hazard = hazard_at j i } ≡ a = let z = b2.rest in cc in
    subst IndexedFits same (record { header = f.fits.header; hazard = f.fits.hazards.each _ m; passed = f.passed _ m })
