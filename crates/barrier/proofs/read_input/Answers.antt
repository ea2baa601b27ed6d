-- What `barrier::read_input` has read is what its input has given. Assumes nothing.
use Rattle.std.proofs.Common.{rules, ◌-◌, length, take}
use Rattle.std.proofs.KnownBytes.{Consumes-trans}
use Rattle.barrier.proofs.KnownLaws.{take_both}
use Rattle.barrier.proofs.read_input.Goals as goal

-- What one more read gives stands behind what was read.
pub loop-read-preserved : goal.loop-read-preserved
loop-read-preserved g c =
    let a = c.loop-read.read in
    let xs = c.loop-read.job in
    let n = c.read_some-count.result in
    let ys = c.read_some-count.new.room in
    let both = Consumes-trans _ _ _ (take a xs) (take n ys) c.loop-read.invariant.2 c.read_some-count.ensures.bytes in
    (search rules, search rules, rw (take_both a (length xs - a) n xs ys c.loop-read.invariant.0 c.read_some-count.ensures.in_bounds) both)
