-- The hazards that stand in a window: how they grow, their envelopes, and that those about a station require the level of all there.
-- Assumes nothing.
use Rattle.std.specs.Prelude.{if◌then◌else◌}
use Prim.Native.Nat.{ℕ, ◌+◌, ◌-◌, ◌≤◌, min}
use native.Mathlib.Omega.{arith}
use mathlib.Core.Path.{◌≡◌, refl}
use mathlib.Core.Bool.{true}
use mathlib.Core.List.{List, [], ◌∷◌, ◌++◌, Memᴰ}
use borrow.Author.Tests.{le-leb}
use Rattle.base.specs.Choice.{filter}
use Rattle.base.proofs.TestLaws.{filter_elim, filter_intro, filter_append}
use Rattle.std.proofs.lemmas.Bool.{and_from}
use Rattle.job.specs.declared.Header.{Header}
use Rattle.job.specs.declared.Hazard.{Hazard}
use Rattle.job.specs.Job.{Job}
use Rattle.job.specs.Fits.{HeaderFits, HazardFits}
use Rattle.job.proofs.RangeLaws.{header_bounds, hazard_bounds}
use Rattle.runs.specs.declared.Stretch.{Stretch}
use Rattle.runs.specs.Level.{required_level}
use Rattle.runs.specs.RunList.{last_station}
use Rattle.runs.proofs.LevelLaws.{level_near}
use Rattle.planning.specs.declared.window.Window.{Window}
use Rattle.planning.specs.declared.window.Window.TheVariants.{All, Between}
use Rattle.planning.specs.Envelope.{forward, opposite, envelope, cut_to_road, cut_envelope, side_envelopes}
use Rattle.planning.specs.Required.{job_level}
use Rattle.planning.specs.Rows.{AcceptedFits}
use Rattle.planning.specs.Window.{stands_in, standing_in, window_reach, window_about, job_within}
use Rattle.planning.proofs.ReachLaws.{lengthening_top}
use Rattle.planning.proofs.EnvelopeLaws.{from_cut, to_cut, side_proper}

-- Hazards, and others behind them.
pub standing_append : (w : Window) (xs ys : List Hazard) → standing_in w (xs ++ ys) ≡ standing_in w xs ++ standing_in w ys
unfolding standing_in
standing_append All xs ys = refl
standing_append (Between from to) xs ys = filter_append (stands_in (Between from to)) xs ys

-- No hazard, and one.
pub standing_none : (w : Window) → standing_in w [] ≡ []
unfolding standing_in filter
standing_none All = refl
standing_none (Between from to) = refl

pub standing_one : (w : Window) (z : Hazard) → standing_in w (z ∷ []) ≡ (if stands_in w z then z ∷ [] else [])
unfolding standing_in stands_in filter
standing_one All z = refl
standing_one (Between from to) z = refl

-- As members.
pub standing_some : (w : Window) {z : Hazard} (zs : List Hazard) → Memᴰ z (standing_in w zs) → Memᴰ z zs
unfolding standing_in
standing_some All zs m = m
standing_some (Between from to) zs m = (filter_elim (stands_in (Between from to)) zs m).0

pub standing_kept : (w : Window) {z : Hazard} {zs : List Hazard} → Memᴰ z zs → stands_in w z ≡ true → Memᴰ z (standing_in w zs)
unfolding standing_in
standing_kept All m e = m
standing_kept (Between from to) m e = filter_intro (stands_in (Between from to)) m e

-- Its envelopes are some of the job's.
pub within_some : (w : Window) (j : Job) (side : ℕ) (e : Stretch) → Memᴰ e (side_envelopes (job_within w j) side) → Memᴰ e (side_envelopes j side)
within_some w j side e m =
    let c = from_cut (job_within w j) side e m in
    rw c.is
    (to_cut j side (record { member = standing_some w j.hazards c.own.member; on_side = c.own.on_side; reach = c.own.reach }))

-- A hazard that stands clear of the barrier stands in the window about each station that its envelope comes as near to as G.
module _ (h : Header) (z : Hazard) (hf : HeaderFits h) (zf : HazardFits h z) (clear : h.offset + h.deflection ≤ z.near) where
  pub stands_about : (t : ℕ) → (cut_envelope h z).start ≤ t + h.continuity → t ≤ (cut_envelope h z).end + h.continuity → stands_in (window_about t) z ≡ true
  unfolding stands_in cut_envelope cut_to_road envelope
  stands_about t before behind =
      let early = lengthening_top h z hf zf clear forward in
      let late = lengthening_top h z hf zf clear opposite in
      let G = (header_bounds h hf).continuity_top in
      let road = (header_bounds h hf).road_end in
      let own = hazard_bounds h z zf in
      and_from _ _ (le-leb z.start (min t last_station + window_reach) (omega (arith, before, early, G, road, own.long, own.ends)))
      (le-leb (min t last_station - window_reach) z.end (omega (arith, behind, late, G)))

-- The hazards about a station require what all require there.
pub level_about : (j : Job) (side t : ℕ) → AcceptedFits j
    → required_level (side_envelopes (job_within (window_about t) j) side) j.header.continuity t ≡ job_level j side t
unfolding job_level
level_about j side t fits =
    level_near (side_envelopes j side) (side_envelopes (job_within (window_about t) j) side) j.header.continuity t (side_proper j side fits)
    (within_some (window_about t) j side) kept
  where
    kept : (e : Stretch) → Memᴰ e (side_envelopes j side) → e.start ≤ t + j.header.continuity → t ≤ e.end + j.header.continuity
        → Memᴰ e (side_envelopes (job_within (window_about t) j) side)
    kept e m before behind =
        let c = from_cut j side e m in
        let z = c.hazard in
        let about = stands_about j.header z fits.fits.header (fits.fits.hazards.each z c.own.member)
        ((fits.passed z c.own.member).clear c.own.reach) t (rw c.is at before) (rw c.is at behind) in
        rw c.is
        (to_cut (job_within (window_about t) j) side
        (record { member = standing_kept (window_about t) c.own.member about; on_side = c.own.on_side; reach = c.own.reach }))
