-- The length that the approach crate promises.
-- Assumes nothing.
use mathlib.Core.Path.{sym, ◌∙◌}
use Rattle.job.proofs.RangeLaws.{header_bounds}
use Rattle.clear_offset.proofs.LengthLaws.{offset_domain, length_is}
use Rattle.clear_offset.proofs.search.length_at.Goals as goal

pub raised_length-requires : goal.raised_length-requires
raised_length-requires c =
    let a = c.args in
    let bounds = header_bounds a.header c.requires.clear.header in
    record {
      panel_nonzero = bounds.panel_low;
      panel_bound = bounds.panel_top;
      domain = rw (c.approach_of-approach.ensures, c.adjacent_reach-reach.ensures, c.adjacent_traffic-traffic.ensures) (offset_domain _ _ c.requires.clear _ c.requires.stands_clear);
    }

pub returns : goal.returns
returns c =
    c.raised_length.ensures ∙ rw (c.approach_of-approach.ensures, c.adjacent_reach-reach.ensures, c.adjacent_traffic-traffic.ensures) (sym (length_is _ _ c.requires.clear _ c.requires.stands_clear))
