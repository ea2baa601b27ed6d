-- A hazard may be added exactly if no row of the table applies to it.
-- Assumes nothing.
use Prim.Native.Nat.{ℕ, ◌+◌, ◌-◌}
use native.Mathlib.Omega.{arith}
use mathlib.Core.Path.{◌≡◌, refl, sym, ap, ◌∙◌}
use mathlib.Core.Bool.{not}
use mathlib.Core.List.{List}
use lib.ListN.{length}
use borrow.Author.Tests.{le-leb, lt-leb, leb-false, lt-ltb, ltb-true, not-true}
use Rattle.base.specs.Answer.{accepted, ◌>>=◌, is_accepted, replied}
use Rattle.refusal.specs.declared.Refusal.TheVariants as Row
use Rattle.std.proofs.lemmas.Bool.{and_from}
use Rattle.base.proofs.AnswerLaws.{bound, bind_assoc}
use Rattle.refusal.proofs.RefuseLaws.{passed}
use Rattle.job.specs.declared.Header.{Header}
use Rattle.job.specs.declared.Hazard.{Hazard}
use Rattle.job.specs.declared.NamedHazard.{NamedHazard}
use Rattle.job.specs.Job.{hazard_ranges}
use Rattle.job.specs.Fits.{in_ranges, hazard_in_range, HazardFits}
use Rattle.job.proofs.RangeLaws.{hazard_bounds}
use Rattle.planning.proofs.ReachLaws.{reached_near}
use Rattle.open_memory.specs.Memory.{most_standing, standing, stands, is_full}
use Rattle.open_memory.proofs.RuleLaws.{Admitted, admitted, admits}
use Rattle.open_memory.proofs.PlaceLaws.{other_name}
use Rattle.open_job.specs.Calls.{test_add, add_to, add_in}
use Rattle.open_promises.specs.Adding.{InTable, MayBeAdded, AddPromise}
use Rattle.open_promises.proofs.HazardLaws.{stands_none}
use Rattle.open_promises.proofs.ReplyLaws.{add_now}

module _ (h : Header) (z : Hazard) where
  -- The table's inequalities and its tests.
  fits_table : HazardFits h z → InTable h z
  fits_table f =
      let b = hazard_bounds h z f in
      record {
        side_top = b.side;
        start_low = b.begins;
        start_top = omega (arith, b.long, b.ends);
        end_low = omega (arith, b.long);
        end_top = b.ends;
        near_top = omega (arith, b.offsets, b.far_top);
        far_low = b.offsets;
        far_top = b.far_top;
        level_low = b.level_low;
        level_top = b.level_top;
      }

  table_fits : InTable h z → HazardFits h z
  unfolding hazard_in_range in_ranges hazard_ranges
  table_fits t =
      and_from _ _ (and_from _ _ (le-leb 0 z.side (omega arith)) (le-leb z.side 1 t.side_top))
      (and_from _ _ (and_from _ _ (le-leb h.begin z.start t.start_low) (le-leb z.start (h.end - 1) (omega (arith, t.start_top))))
      (and_from _ _ (and_from _ _ (le-leb (z.start + 1) z.end t.end_low) (le-leb z.end h.end t.end_top))
      (and_from _ _ (and_from _ _ (le-leb 0 z.near (omega arith)) (le-leb z.near 60000 t.near_top))
      (and_from _ _ (and_from _ _ (le-leb z.near z.far t.far_low) (le-leb z.far 60000 t.far_top))
      (and_from _ _ (and_from _ _ (le-leb 1 z.level t.level_low) (le-leb z.level 6 t.level_top)) refl)))))

  module _ (past : List NamedHazard) (name : ℕ) where
    to_words : (u : Unit {0}) → test_add h past name z ≡ accepted u → MayBeAdded h past name z
    to_words u e =
        let named = passed (not (stands name past)) (Row.Name name) _ u e in
        let room = passed (not (is_full past)) Row.Full _ u named.1 in
        let a : Admitted h z = admitted h name z (ap is_accepted room.1) in
        let ranges = fits_table a.fits in
        record {
          fresh = λ p m. other_name name past p (not-true (stands name past) named.0) m;
          room = leb-false most_standing (length past) (not-true (is_full past) room.0);
          ranges = ranges;
          clear = λ l. a.passed.clear (reached_near h z ranges.side_top ∙ lt-ltb z.near h.zone l);
        }

    from_words : MayBeAdded h past name z → test_add h past name z ≡ accepted tt
    from_words w =
        rw (stands_none name past w.fresh, lt-leb most_standing (length past) w.room)
        (admits h name z (record {
          fits = table_fits w.ranges;
          passed = record { clear = λ r. w.clear (ltb-true z.near h.zone (sym (reached_near h z w.ranges.side_top) ∙ r)) };
        }))

pub add_promise : AddPromise
unfolding add_to
add_promise m name z good =
    let h = m.present.header in
    let past = standing m.present in
    let same : replied (add_in m name z) ≡ (test_add h past name z >>= λ _. accepted 0) = add_now m good name z ∙ bind_assoc (test_add h past name z) _ _ in (
      λ e. let b = bound (test_add h past name z) (λ _. accepted 0) 0 (sym same ∙ e) in to_words h z past name b.first b.taken,
      λ w. same ∙ rw (from_words h z past name w),
    )
