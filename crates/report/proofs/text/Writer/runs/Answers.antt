-- `report::text::Writer::runs` meets its contract: the right side's lines, the left side's and the totals, one behind the other. Assumes nothing.
use Rattle.std.proofs.Common.{List, ℕ, ◌++◌, length}
use Rattle.runs.specs.declared.Stretch.{Stretch}
use Rattle.runs.specs.RunList.{runs_of}
use Rattle.report.specs.Text.{right_word, left_word, run_lines, covered, total_line, runs_report}
use Rattle.report.proofs.TextLaws.{wrote_more, wrote_room, first_fits}
use Rattle.report.proofs.text.Writer.runs.Goals as goal

-- the lines of both sides, and the totals
abbrev front : List Stretch → List Stretch → List ℕ
front right left = run_lines right_word right ++ run_lines left_word left

abbrev back : List Stretch → List Stretch → List ℕ
back right left = total_line (covered right) (covered left)

pub run_lines-requires : goal.run_lines-requires
unfolding runs_report
run_lines-requires c =
    let w = c.args.self.now in
    let r = runs_of c.args.right.list.now in
    let l = runs_of c.args.left.list.now in
    first_fits w.at (run_lines right_word r) (run_lines left_word l) (length w.text.now)
    (first_fits w.at (front r l) (back r l) (length w.text.now) c.requires)

pub run_lines-requires-2 : goal.run_lines-requires-2
unfolding runs_report
run_lines-requires-2 c =
    let w = c.args.self.now in
    let r = runs_of c.args.right.list.now in
    let l = runs_of c.args.left.list.now in
    wrote_room c.run_lines.ensures (run_lines left_word l) (first_fits w.at (front r l) (back r l) (length w.text.now) c.requires)

pub total-requires : goal.total-requires
unfolding runs_report
total-requires c =
    let w = c.args.self.now in
    let r = runs_of c.args.right.list.now in
    let l = runs_of c.args.left.list.now in
    let room = first_fits w.at (front r l) (back r l) (length w.text.now) c.requires in
    rw (c.covered_length.ensures, c.covered_length-2.ensures)
    (wrote_room (wrote_more c.run_lines.ensures (run_lines left_word l) room c.run_lines-2.ensures) (back r l) c.requires)

pub returns : goal.returns
unfolding runs_report
returns c =
    let w = c.args.self.now in
    let r = runs_of c.args.right.list.now in
    let l = runs_of c.args.left.list.now in
    let room = first_fits w.at (front r l) (back r l) (length w.text.now) c.requires in
    wrote_more (wrote_more c.run_lines.ensures (run_lines left_word l) room c.run_lines-2.ensures) (back r l) c.requires
    (rw (c.covered_length.ensures, c.covered_length-2.ensures) at c.total.ensures)
