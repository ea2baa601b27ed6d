-- `job::within::read_usual` meets its contract: the six numbers stand in words. Assumes nothing.
use Rattle.std.proofs.Common.{ℕ, ◌+◌, ◌*◌, ◌/◌, ◌≤◌, ◌<◌, ◌≡◌, arith, refl, sym, ap, ◌∙◌, length, get_or}
use borrow.Author.Tests.{leb-true}
use Rattle.number.specs.Number.{number}
use Rattle.number.specs.Word.{word_number}
use Rattle.number.proofs.GroupWalk.{read_one}
use Rattle.number.proofs.WordLaws.{parted, number_under, word_bytes, read_behind}
use Rattle.job.proofs.RangeLaws.{hazard_bounds}
use Rattle.job.proofs.UsualLaws.{both}
use Rattle.job.proofs.HazardLaws.{hazard_whole}
use Rattle.job.proofs.within.read_usual.Goals as goal

pub returns-then-near-in_range : goal.returns-then-near-in_range
returns-then-near-in_range c =
    let s = c.args.s.now in
    let first = c.args.first in
    let r = c.in_ok-stations.stations in
    let width = r.width in
    let two = c.in_ok-stations.ensures in
    let byte : (i : ℕ) → get_or s i 0 < 256 = λ i. omega (arith, c.type_inv.s i) in
    let there : first + 18 ≤ length s = omega (arith, c.if-saturating_sub-first.false, c.saturating_sub.ensures) in
    let stands : first < length s = omega arith in
    let x = c.word-w.result in
    let made = parted 65536 (word_number 1 x) (word_number 1 (x / 65536)) c.twos-offsets.ensures.0 (omega (arith, number_under 1 x)) in
    let at = first + (width * 2 + 1) in
    let lies = c.word-w.ensures.0 ∙ word_bytes s byte at in
    let behind : first + 1 + width + width ≡ at = omega arith in
    let next : at + 4 + 1 ≡ at + 5 = omega arith in
    let long = both _ _ c.if-near-in_range.true in
    let tops = both _ _ c.if-is_number.true in
    let fits = sym c.in_range.ensures ∙ long.1 in
    let bounds = hazard_bounds _ _ fits in
    let near-long = leb-true _ _ long.0 in (
      stands,
      λ index. hazard_whole _ index s first _ (first + 1) (first + 1 + width) at (at + 2) (at + 4) (at + 5) fits
          (read_one s first (omega arith) (omega (arith, bounds.side)))
          two.start (two.end bounds.long ∙ ap (number r.end) behind)
          (read_behind s byte 0 1 4 at {w = x} {u = x} (omega arith) (omega arith) lies refl (omega arith) made.0 (omega arith) (omega (arith, two.few))
          (sym c.is_number.ensures ∙ tops.0) near-long)
          (read_behind s byte 2 1 2 at {w = x} {u = x / 65536} (omega arith) (omega arith) lies (omega arith) (omega arith) made.1 (omega arith)
          (omega (arith, two.few))
          (sym c.is_number-2.ensures ∙ tops.1) (omega (arith, bounds.offsets)))
          (read_one s (at + 4) (omega (arith, two.few)) (omega (arith, bounds.level_top)) ∙ ap (number (get_or s (at + 4) 0)) next),
    )
