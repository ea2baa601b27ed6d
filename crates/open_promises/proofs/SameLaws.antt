-- Jobs made from the same hazards: their order and number do not matter.
-- Assumes nothing.
use Prim.Native.Nat.{ℕ, ◌≤◌}
use mathlib.Core.Path.{◌≡◌}
use mathlib.Core.List.{List, Memᴰ}
use lib.ListN.{length}
use Rattle.job.specs.declared.Header.{Header}
use Rattle.job.specs.declared.Hazard.{Hazard}
use Rattle.job.specs.Writing.{write_job}
use Rattle.job.specs.Fits.{HeaderFits}
use Rattle.planning.proofs.AcceptedLaws.{fitting_accepted}
use Rattle.schedule.specs.Plan.{plan}
use Rattle.demands.proofs.DemandLaws.{counted_alike}
use Rattle.demands.proofs.AlikeLaws.{same_plan}
use Rattle.job.specs.Job.{made_from}
use Rattle.open_memory.proofs.RuleLaws.{Admitted, made_fits}

pub same_plans : (h : Header) → HeaderFits h → (xs ys : List Hazard) → length xs ≤ 256 → length ys ≤ 256 → ((z : Hazard) → Memᴰ z xs → Admitted h z)
    → ((z : Hazard) → Memᴰ z xs → Memᴰ z ys) → ((z : Hazard) → Memᴰ z ys → Memᴰ z xs)
    → (side room : ℕ) → plan (write_job (made_from h xs)) side room ≡ plan (write_job (made_from h ys)) side room
same_plans h fits xs ys few less may xy yx side room =
    let jx = made_from h xs in let jy = made_from h ys in
    same_plan jx jy (counted_alike h (length xs) (length ys)) (counted_alike h (length ys) (length xs)) side (λ z s. xy z s.member) (λ z s. yx z s.member)
    (write_job jx) (write_job jy)
    (fitting_accepted jx (made_fits h xs fits few may)) (fitting_accepted jy (made_fits h ys fits less (λ z m. may z (yx z m)))) room
