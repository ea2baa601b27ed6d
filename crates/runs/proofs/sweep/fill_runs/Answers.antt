-- The runs between the break points are the required ones, and each is stored in place of a break point that is past.
-- Assumes nothing.
use Rattle.std.proofs.Common.{◌≡◌, ◌-◌, ◌*◌, ◌≤◌, length, drop, refl, ap, ◌∙◌, arith, drop-set-lt, rules}
use Rattle.runs.specs.declared.RunList.{RunList}
use Rattle.runs.specs.Stored.{stored_runs}
use Rattle.runs.proofs.PlaceLaws.{in_place_none, in_place_turn, in_place_all}
use Rattle.runs.proofs.StoredLaws.{zeros_all, zeros_left}
use Rattle.runs.proofs.SweptLaws.{swept_runs}
use Rattle.runs.proofs.sweep.fill_runs.Goals as goal

pub loop-i-init : goal.loop-i-init
loop-i-init c =
    let sweep = c.sweep_front-count in
    let r = c.requires in
    let a = c.args.list.now in
    let list : RunList = record { count = a.count; starts = sweep.new.starts; ends = a.ends; levels = a.levels } in (
      sweep.ensures.as_long ∙ ap length r.starts_empty,
      ap length r.ends_empty,
      ap length r.levels_empty,
      record { within = omega arith; own = refl; ahead = λ j b. refl; stored = in_place_none sweep.new.starts sweep.new.levels list r.ends_empty r.levels_empty },
      sweep.ensures.behind ∙ ap (drop (c.args.envelopes.count * 2)) r.starts_empty ∙ zeros_left 512 (c.args.envelopes.count * 2) (omega (arith, c.args.envelopes.sweepable.few)),
    )

pub loop-i-preserved : goal.loop-i-preserved
loop-i-preserved c =
    let l = c.loop-i in
    let room = c.sweep_front-count.ensures.swept.within in (
      search rules,
      search rules,
      search rules,
      in_place_turn _ _ l.list l.invariant.0 l.k l.i l.start l.invariant.3 _ c.from-k.result
          (omega (arith, l.invariant.3.within, room, c.args.envelopes.sweepable.few)) refl c.from-k.ensures,
      drop-set-lt (c.args.envelopes.count * 2) l.list.starts l.k l.start (omega (arith, l.invariant.3.within, room)) ∙ l.invariant.4,
    )

pub returns : goal.returns
returns c =
    let l = c.loop-i in
    let a = c.args in
    let swept = c.sweep_front-count.ensures.swept in
    let same : l.i ≡ c.sweep_front-count.result - 1 = omega arith in
    let room : l.k ≤ a.envelopes.count * 2 = omega (arith, l.invariant.3.within, swept.within) in
    let clear = zeros_all l.list.starts l.k 512 (a.envelopes.count * 2) room (omega (arith, c.args.envelopes.sweepable.few)) (omega (arith, l.invariant.0)) l.invariant.4 in
    let stored = in_place_all _ _ l.list l.invariant.0 l.k l.i l.start l.invariant.3
    (omega (arith, l.invariant.3.within, swept.within, c.args.envelopes.sweepable.few)) in
    rw (c.clear_from.ensures, clear) (stored ∙ rw same (ap stored_runs (swept_runs a.envelopes.keys.now a.envelopes.ends.now a.envelopes.count a.g _ _ _ swept)))
