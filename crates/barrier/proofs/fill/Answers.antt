-- With room for every report there is always a reply. Assumes nothing.
use Rattle.std.proofs.Common.{arith, ◌≡◌, ap, sym, ◌∙◌, length}
use Rattle.std.specs.Option.{unwrap_or}
use Rattle.report.specs.Text.{reported}
use Rattle.report.proofs.ReportLaws.{report_fits}
use Rattle.report.proofs.CallLaws.{printing_room, text_length, text_first}
use Rattle.barrier.proofs.fill.Goals as goal

pub returns : goal.returns
returns c =
    let s = c.args.job.now in
    let text = c.args.text.now in
    let count : c.unwrap_or.result ≡ length (reported s) =
    c.unwrap_or.ensures ∙ ap (λ o. unwrap_or o 0) (c.report.ensures.value ∙ printing_room s text c.requires) in
    let first = rw (sym c.report.ensures.text_after, sym count) at (text_first s text c.requires) in
    record {
      in_bounds = omega (arith, count, report_fits s, ap length c.report.ensures.text_after, text_length s text c.requires, c.requires);
      prefix_len = count ∙ sym (ap length first);
      text_after = first;
    }
