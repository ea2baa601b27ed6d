-- The envelope of one hazard that passes the test for 5: it is reached exactly if n < C.
-- Assumes nothing.
use Rattle.std.specs.Prelude.{Some, None}
use Prim.Native.Nat.{◌+◌, ◌≤◌, ◌<◌}
use mathlib.Core.Path.{◌≡◌, refl, ◌∙◌}
use mathlib.Core.Bool.{Bool, true, false, ◌&&◌}
use lib.Dec.{ltb}
use borrow.Author.Tests.{lt-ltb, le-ltb}
use Rattle.job.specs.declared.Header.{Header}
use Rattle.job.specs.declared.Hazard.{Hazard}
use Rattle.planning.specs.Envelope.{reached, cut_envelope, overhang, stands_near}
use Rattle.planning.specs.Own.{own_envelope}
use Rattle.planning.specs.Rows.{Passed}
use Rattle.planning.proofs.ReachLaws.{reached_near}

module _ (h : Header) (z : Hazard) (side : z.side ≤ 1) where
  pub own_none : h.zone ≤ z.near → None ≡ own_envelope h z
  unfolding own_envelope
  own_none l = let e : reached h z ≡ false = reached_near h z side ∙ le-ltb z.near h.zone l in rw e

  pub own_some : z.near < h.zone → Some (record { stretch = cut_envelope h z; overhangs = overhang h z }) ≡ own_envelope h z
  unfolding own_envelope
  own_some l = let e : reached h z ≡ true = reached_near h z side ∙ lt-ltb z.near h.zone l in rw e

-- The test for 5 lets it pass.
pub own_passed : (h : Header) (z : Hazard) → Passed h z → stands_near h z ≡ false
unfolding stands_near
own_passed h z p = go (reached h z) p.clear
  where
    go : (b : Bool) → (b ≡ true → h.offset + h.deflection ≤ z.near) → (b && ltb z.near (h.offset + h.deflection)) ≡ false
    go true clear = le-ltb z.near (h.offset + h.deflection) (clear refl)
    go false clear = refl
