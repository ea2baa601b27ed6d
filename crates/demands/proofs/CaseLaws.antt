-- K1 to K10 are as document 01 states them, by computing the definitions; and so is the printed job.
-- Assumes nothing.
use mathlib.Core.Path.{◌≡◌, refl}
use mathlib.Core.List.{map}
use Rattle.base.specs.Choice.{some_of, filter}
use Rattle.base.specs.Answer.{accepted}
use Rattle.number.specs.Number.{write_in, write_number, scan, read_number, number_at}
use Rattle.approach.specs.Approach.{ceil_div, formula_length, approach_length}
use Rattle.base.specs.Least.{next_multiple}
use Rattle.approach.specs.Panel.{raised_length}
use Rattle.job.specs.Writing.{write_numbers, printed_job}
use Rattle.job.specs.Job.{shared_ranges, header_ranges, hazard_ranges, read_fields, read_header, read_hazards, read_job, read_rest}
use Rattle.planning.specs.Envelope.{farther, reach_of, offset_of, reaches, reached, lengthening, envelope, envelopes, cut_to_road, overhang, greater, overhangs}
use Rattle.planning.specs.Envelope.{stands_near, test_hazard, test_hazards, accept_job}
use Rattle.runs.specs.Level.{filled, highest, required_level}
use Rattle.runs.specs.Required.{insert_station, end_points, put, runs_between, required_runs}
use Rattle.schedule.specs.Schedule.{write_record, write_records, write_schedule}
use Rattle.planning.specs.Required.{job_runs}
use Rattle.schedule.specs.Plan.{fitted, plan}
use Rattle.demands.proofs.RefusalLaws.{plan_written}
use Rattle.demands.specs.Cases.{header, hazard, cases, case_planned, case_written, printed_side, PrintedPlan}

-- One theorem over the list.
pub cases_hold : map case_planned cases ≡ map case_written cases
unfolding header hazard cases write_numbers case_planned case_written some_of filter write_in write_number scan read_number number_at ceil_div formula_length
    approach_length next_multiple raised_length shared_ranges header_ranges hazard_ranges read_fields read_header read_hazards read_rest read_job farther reach_of offset_of
    reaches reached lengthening envelope envelopes cut_to_road overhang greater overhangs stands_near test_hazard test_hazards accept_job filled highest required_level
    insert_station end_points put runs_between required_runs write_record write_records write_schedule job_runs fitted plan
cases_hold = refl

-- The printed job, into the least room.
printed_eight : plan (write_numbers printed_job) 0 8 ≡ accepted printed_side
unfolding printed_job write_numbers some_of filter write_in write_number scan read_number number_at ceil_div formula_length approach_length next_multiple raised_length
    shared_ranges header_ranges hazard_ranges read_fields read_header read_hazards read_rest read_job farther reach_of offset_of reaches reached lengthening envelope
    envelopes cut_to_road overhang greater overhangs stands_near test_hazard test_hazards accept_job filled highest required_level insert_station end_points put
    runs_between required_runs write_record write_records write_schedule job_runs fitted plan
printed_eight = refl

pub printed_plan : PrintedPlan
printed_plan room h =
    let f = (plan_written (write_numbers printed_job) 0 8 printed_side).0 printed_eight in
    (plan_written (write_numbers printed_job) 0 room printed_side).1
    (record { good_side = f.good_side; job = f.job; taken = f.taken; is = f.is; room_enough = h })
