-- Laws of the call quantity: where its arguments are in their ranges, it is the sum of the overlaps; else 8 is returned.
-- Assumes nothing.
use Prim.Native.Nat.{ℕ, ◌≤◌}
use mathlib.Core.Path.{◌≡◌, refl, ap}
use mathlib.Core.Logic.{◌↔◌}
use mathlib.Core.Bool.{Bool, true, false, ◌&&◌}
use mathlib.Core.List.{List}
use lib.Dec.{leb}
use borrow.Author.Tests.{le-leb, leb-true}
use Rattle.base.specs.Answer.{Answer, accepted, refused, ◌>>=◌}
use Rattle.refusal.specs.Refusal.{unless_refuse}
use Rattle.refusal.specs.declared.Refusal.TheVariants as Row
use Rattle.base.proofs.AnswerLaws.{bind_same}
use Rattle.std.proofs.lemmas.Bool.{and_from, and_parts}
use Rattle.runs.specs.declared.Stretch.{Stretch}
use Rattle.runs.specs.RunList.{shown_level, Rising}
use Rattle.runs.proofs.RunLaws.{run_list_rising}
use Rattle.schedule.specs.Schedule.{read_schedule}
use Rattle.schedule.proofs.ScheduleLaws.{read_list}
use Rattle.queries.specs.Walk.{overlaps, overlap_sum}
use Rattle.queries.specs.Quantity.{millimetres, quantity, Ranged}
use Rattle.queries.proofs.OverlapLaws.{millimetres_overlaps}

-- The runs of a schedule that can be read rise.
pub read_rising : (s : List ℕ) (rs : List Stretch) → read_schedule s ≡ accepted rs → Rising 0 0 rs
read_rising s rs e = run_list_rising rs (read_list s rs e)

-- A test of the level, and then of a range or of many.
pub level_tested : {P : Type 0} (v : ℕ) (t : Bool) → (t ≡ true) ↔ P → ((leb 1 v && leb v 6 && t) ≡ true) ↔ ((1 ≤ v) × (v ≤ 6) × P)
level_tested v t is = (
  λ e. let levels = (and_parts (leb 1 v && leb v 6) t e).0 in
      (leb-true 1 v ((and_parts (leb 1 v) (leb v 6) levels).0), leb-true v 6 ((and_parts (leb 1 v) (leb v 6) levels).1), is.0 ((and_parts (leb 1 v && leb v 6) t e).1)),
  λ h. and_from _ _ (and_from _ _ (le-leb 1 v h.0) (le-leb v 6 h.1)) (is.1 h.2),
)

pub argument_refused : {A P : Type 0} (t : Bool) (f : Unit {0} → Answer A) → (t ≡ true → P) → (P → ⊥) → (unless_refuse t Row.Argument >>= f) ≡ refused 8 0
argument_refused true f is n = absurd (n (is refl))
argument_refused false f is n = refl

pub ranged : (v p q : ℕ) → ((leb 1 v && leb v 6 && leb p q) ≡ true) ↔ Ranged v p q
ranged v p q = level_tested v (leb p q) (leb-true p q, le-leb p q)

pub quantity_sum : (s : List ℕ) (v p q : ℕ) → Ranged v p q → quantity s v p q ≡ overlap_sum s v p q
unfolding quantity overlap_sum
quantity_sum s v p q h =
    rw ((ranged v p q).1 h)
    (bind_same (read_schedule s) (λ rs. accepted (millimetres (shown_level rs) v p q)) (λ rs. accepted (overlaps rs v p q))
    (λ rs e. ap accepted (millimetres_overlaps rs (read_rising s rs e) v p q h.0 h.2)))

pub quantity_argument : (s : List ℕ) (v p q : ℕ) → (Ranged v p q → ⊥) → quantity s v p q ≡ refused 8 0
unfolding quantity
quantity_argument s v p q n = argument_refused (leb 1 v && leb v 6 && leb p q) _ (ranged v p q).0 n
