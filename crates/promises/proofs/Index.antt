-- Every theorem that docs/PROMISES.md names, under the heading that names it first: the check fails where one is renamed or gone, and
-- tests/promises.py where this file and that document differ. The program's two, of crate `barrier`, are not here: no crate stands above a program.
-- Assumes nothing.

-- Demand 1
pub use Rattle.demands.proofs.DemandLaws.{demand1}
pub use Rattle.planning.proofs.AcceptedLaws.{accepted_exactly}
pub use Rattle.planning.proofs.RowLaws.{refused_exactly}
pub use Rattle.job.proofs.RowLaws.{read_exactly}
pub use Rattle.number.proofs.FormLaws.{read_ended, read_malformed}
pub use Rattle.demands.proofs.RefusalLaws.{plan_exactly, plan_written, plan_answers}
pub use Rattle.demands.proofs.QueryLaws.{quantity_eight, quantity_ten, lookup_eight, lookup_ten}
-- Demand 2
pub use Rattle.demands.proofs.DemandLaws.{demand2, demand2_lookup}
pub use Rattle.planning.proofs.FormulaLaws.{envelope_exactly}
pub use Rattle.demands.proofs.FormulaLaws.{demand2_formula}
pub use Rattle.approach.proofs.ApproachLaws.{approach_exactly, approach_below}
pub use Rattle.approach.proofs.PanelLaws.{raised_least}
pub use Rattle.demands.proofs.LookupLaws.{lookup_written}
-- Demand 3
pub use Rattle.demands.proofs.DemandLaws.{demand3_planned, demand3_writing, plan_accepted, demand3_equal, demand3_off_road, demand3_growth, demand3_quantities}
pub use Rattle.demands.proofs.QueryLaws.{quantity_add}
-- Document 01
pub use Rattle.planning.proofs.EnvelopeLaws.{cut_has, domain_of}
pub use Rattle.demands.proofs.CaseLaws.{cases_hold, printed_plan}
pub use Rattle.planning.proofs.ReachLaws.{reaches_adjacent, reaches_far, reached_near}
pub use Rattle.planning.proofs.AdjacentLaws.{is_adjacent}
pub use Rattle.number.proofs.ReadLaws.{read_writing, read_stands}
pub use Rattle.number.proofs.WriteLaws.{group_count_lem, groups_hold}
pub use Rattle.number.proofs.FormLaws.{value_most}
pub use Rattle.job.proofs.HeaderLaws.{header_size_lem}
pub use Rattle.job.proofs.WritingLaws.{job_written, read_length}
pub use Rattle.job.proofs.RowLaws.{job_is_written}
pub use Rattle.runs.proofs.GapLaws.{required_is_highest}
pub use Rattle.runs.proofs.RunsOfLaws.{member→run, run→member}
pub use Rattle.schedule.proofs.ScheduleLaws.{read_schedule_lem, schedule_read}
pub use Rattle.demands.proofs.LotLaws.{demand3_one_call}
pub use Rattle.refusal.proofs.RowLaws.{no_six}
pub use Rattle.demands.proofs.RefusalLaws.{plan_six}
pub use Rattle.demands.proofs.QueryLaws.{schedule_ten}
pub use Rattle.report.proofs.InputLaws.{reported_cut}
pub use Rattle.report.proofs.ReportLaws.{printed_report}
pub use Rattle.report.proofs.CoveredLaws.{covered_required}
pub use Rattle.report.proofs.DigitLaws.{decimal_value, decimal_first}
pub use Rattle.demands.proofs.CornerLaws.{corners_exact}
-- Approach lengths: who cites the promise
pub use Rattle.planning.proofs.ReachLaws.{reaching_length, lengthening_domain, reaching_raised}
pub use Rattle.planning.proofs.FormulaLaws.{formula_level}
pub use Rattle.approach.proofs.PanelLaws.{raised_length_below, raised_length_some}
pub use Rattle.schedule.proofs.PlannedLaws.{planned_length}
pub use Rattle.corners.proofs.PointLaws.{asked_domain, asked_lengths, raised_past_straight}
pub use Rattle.clear_offset.proofs.LengthLaws.{length_is, length_at_some, length_at_falls}
pub use Rattle.approach.proofs.OffsetLaws.{length_falls}
pub use Rattle.demands.proofs.CornerLaws.{corners_lie}
-- Document 02, request 1: quantities for a whole contract
pub use Rattle.demands.proofs.ContractLaws.{quantities_done, quantities_given, quantities_refused, quantities_eleven, quantities_ten, quantities_eight}
-- Document 02, request 2: headwalls protected before the flare begins
pub use Rattle.approach.proofs.ApproachLaws.{approach_unflared, ends_straight, approach_flared, approach_plain, approach_formula, approach_runout}
pub use Rattle.approach.proofs.FormulaLaws.{flare_adds, flare_shortens}
-- Document 02, request 3: hazards that come and go while the job is open
pub use Rattle.open_promises.proofs.ContentLaws.{again_promise, room_promise, keep_promise, untouched_promise}
pub use Rattle.open_promises.proofs.OpeningLaws.{opening_refusals, opening_with_hazards, opening_accepted}
pub use Rattle.open_promises.proofs.AddingLaws.{add_promise}
pub use Rattle.open_promises.proofs.ListLaws.{schedule_promise, standing_promise}
pub use Rattle.open_promises.proofs.AddedLaws.{added_promise}
pub use Rattle.open_promises.proofs.MeaningLaws.{rules_promise, memory_promise}
pub use Rattle.open_promises.proofs.EqualLaws.{equal_promise}
-- Document 02, request 4: approaches in whole panels
pub use Rattle.approach.proofs.PanelLaws.{raised_only}
pub use Rattle.demands.proofs.PanelLaws.{kind_one}
-- Document 02, request 5: the level under the inspector's feet
pub use Rattle.demands.proofs.LevelLaws.{level_lookup, level_refusals}
pub use Rattle.planning.proofs.WindowLaws.{level_about}
-- Document 02, request 7: named states of an open job
pub use Rattle.open_promises.proofs.ListLaws.{return_promise}
pub use Rattle.open_promises.proofs.AddedLaws.{count_promise}
-- Document 02, request 8: approaches that run into the neighbouring contract
pub use Rattle.demands.proofs.RefusalLaws.{plan_overhangs}
pub use Rattle.planning.proofs.OverhangLaws.{greatest_before, greatest_after, overhang_before, overhang_after}
pub use Rattle.as_before.proofs.OverhangLaws.{plan_before_8}
pub use Rattle.planning.proofs.RoadLaws.{stays_uncut, stays_no_overhang}
pub use Rattle.demands.proofs.CornerLaws.{corners_eight, corners_refusals}
pub use Rattle.demands.proofs.OffsetLaws.{offset_refusals}
pub use Rattle.demands.proofs.LevelLaws.{level_off}
-- Document 02, request 9: corner points for the drawing
pub use Rattle.demands.proofs.CornerLaws.{corner_cases_hold, corners_fourteen}
pub use Rattle.corners.proofs.WholeLaws.{cast_exact, add_cast, sub_cast, whole_is}
-- Document 02, request 10: an offset that keeps the driveway clear
pub use Rattle.demands.proofs.OffsetLaws.{offset_given, offset_none, offset_zero, offset_fourteen}
pub use Rattle.clear_offset.proofs.OffsetLaws.{own_offset_unused}
pub use Rattle.clear_offset.proofs.LengthLaws.{length_at_own}
-- Document 02, request 11: stations on the national chainage
pub use Rattle.as_before.proofs.ChainageLaws.{jobs_before_11, schedules_before_11}
pub use Rattle.as_before.proofs.AcceptedLaws.{printed_before, limit_before}
pub use Rattle.schedule.proofs.PlanLaws.{planned_bytes}
-- Document 02, request 12: more names than a byte has
pub use Rattle.as_before.proofs.NamesLaws.{names_before_12}
-- Document 02, request 13: panels for one run, with a limit on tries
pub use Rattle.panels.proofs.PanelLaws.{panels_given, run_zero, more_tries}
pub use Rattle.panels.proofs.RefusedLaws.{panels_answered, sixteen_exactly, seventeen_exactly}
pub use Rattle.panels.proofs.PlaceLaws.{layouts_exactly, layouts_rise}
pub use Rattle.panels.proofs.FloorLaws.{gcd_divides, gcd_greatest}
pub use Rattle.panels.proofs.WorkedLaws.{five_tries, all_tries, none_covers}
-- Document 02, request 14: how far one withdrawal reaches
pub use Rattle.demands.proofs.WithdrawalLaws.{withdrawal_reach_lem}
pub use Rattle.open_promises.proofs.WithdrawalLaws.{withdrawal_promise}
pub use Rattle.demands.proofs.ReachLaws.{reach_given, reach_refusals, reach_fourteen}
pub use Rattle.open_promises.proofs.ReachLaws.{reach_promise}
-- Where literal words and computing forms stand side by side
pub use Rattle.station_level.proofs.NearestLaws.{level_found_lem, level_lower}
pub use Rattle.clear_offset.proofs.SearchLaws.{least_exactly, none_exactly}
pub use Rattle.open_job.proofs.WholeLaws.{test_whole, open_whole, change_whole, keep_whole, return_whole, return_kept}
-- What has to be believed
pub use Rattle.panels.proofs.BestLaws.{best_first, best_none}
pub use Rattle.base.proofs.LeastLaws.{multiple_divided, multiple_from, multiple_least}
