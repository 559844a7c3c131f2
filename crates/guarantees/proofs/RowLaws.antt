-- Every row holds, by computation.
use Prim.Native.Nat.{ℕ}
use mathlib.Core.Path.{refl}
use mathlib.Core.Bool.{xor}
use Rattle.numbers.specs.First.{first_from, first}
use Rattle.numbers.specs.Loads.{demand_on}
use Rattle.numbers.specs.Multiples.{euclid, gcd, lcm, lcms}
use Rattle.numbers.specs.Reorder.{position, scatter}
use Rattle.numbers.specs.Rows.{tab, up_to, row}
use Rattle.numbers.specs.Sorting.{insert, sorted}
use Rattle.numbers.specs.Sums.{sum_over, sum_to, product_to}
use Rattle.affinity.specs.Permitted.{permitted, allowed, permitted_count, lowest_permitted, unfit, every_core}
use Rattle.refusal.specs.Tests.{◌then◌, refuse_if, refuse_at, in_order, by_outcome}
use Rattle.wire.specs.Bytes.{word_at, byte_at}
use Rattle.fields.specs.Hyperperiod.{multiple_to, hyperperiod_of}
use Rattle.taskset.specs.Demands.{demand_of, load_on}
use Rattle.fields.specs.Tests.{bad_period, bad_budget, bad_cost, bad_affinity, exceeds, fields_outcome}
use Rattle.taskset.specs.Reading.{task_set_of, no_tasks, refused_reading, accepted_reading, reading_by}
use Rattle.oldform.specs.Form.{beside_fields, every_affinity, old_bytes}
use Rattle.taskset.specs.Table.{reading_of}
use Rattle.form.specs.Shape.{shape_outcome, form_outcome}
use Rattle.oldform.specs.Limits.{old_outcome, beside, alone}
use Rattle.newform.specs.Form.{new_fields, new_bytes}
use Rattle.newform.specs.Limits.{new_shape, new_outcome, new}
use Rattle.storing.specs.Lent.{transfer_by, exit_by, transfer_after, exit_after}
use Rattle.transfer.specs.Tables.{written, other_byte, returned}
use Rattle.ordering.specs.Order.{precedes}
use Rattle.allocation.specs.Rule.{twins, is_empty, some_empty_twin, tried}
use Rattle.allocation.specs.Walk.{up_from, choices, step_into, stored_after, bound_after, entered, try_all, visit, trace, stored, answer}
use Rattle.allocation.specs.TableOrder.{table_answer}
use Rattle.planning.specs.Problem.{table_problem, order_of}
use Rattle.planner.specs.Plan.{verdict_of, allocation_of, plan_for, refused_plan, plan_by, plan_of, verdict_outcome}
use Rattle.allocation.specs.FirstFit.{lowest_fit, fit_from, first_fit, table_fit}
use Rattle.profile.specs.Periods.{is_entry, bus_place}
use Rattle.profile.specs.Tests.{unlisted}
use Rattle.bus.specs.Limits.{bus_outcome, bus}
use Rattle.quick.specs.Quick.{quick_placement, quick_for, refused_quick, quick_by, quick_of}
use Rattle.products.specs.Products.{some_tied, factor_for, sum_of_products}
use Rattle.ceiling.specs.Ceiling.{step_ceiling, ceiling_for, refused_ceiling, ceiling_by, ceiling_of}
use Rattle.edf.specs.Slots.{slot_test, first_slot}
use Rattle.edf.specs.Tick.{owed_for, release, release_all, chosen, advance_all, stepped, refused_tick, tick}
use Rattle.edf.specs.Fresh.{fresh_slot, fresh_slots}
use Rattle.entries.specs.Tests.{above_at, barred_at}
use Rattle.placing.specs.Tests.{placing_outcome}
use Rattle.start.specs.Starts.{refused_start, start_for, start_by, start_of}
use Rattle.decimal.specs.Decimal.{front, digits_by, decimal, field}
use Rattle.listing.specs.Lines.{refusal_line, sizes_line, task_line, task_lines, table_lines}
use Rattle.listing.specs.Printed.{printed}
use Rattle.report.specs.Output.{verdict_word, summary_line, plan_lines, output_of}
use Rattle.quickreport.specs.Output.{quick_summary, quick_lines, quick_output_of}
use Rattle.precedence.specs.Circles.{through, reach, circular}
use Rattle.precedence.specs.Sequence.{stands, holds_up, waits, is_ready, next_task, with_next, ordered}
use Rattle.pairs.specs.Pairs.{feeding, fed, malformed, multiple, period_of, said_by, feeds as feeds_of, unfit as unfit_of}
use Rattle.feeding.specs.Tests.{unfit_at}
use Rattle.dependencies.specs.Order.{refused_order, order_for, order_by, order_of as task_order_of}
use Rattle.decimal.specs.Joined.{joined}
use Rattle.feedsreport.specs.Split.{no_count, too_few, split_at, table_in, list_in}
use Rattle.feedsreport.specs.Output.{order_line, order_output_of, feeds_output_of}
use Rattle.runs.specs.Lent.{logged_by, exit_by as exit_logged}
use Rattle.recording.specs.Tests.{above_at as above_task, answers_test, write_outcome, write_answer, log_after}
use Rattle.replay.specs.Tests.{expand_outcome, expand_answer, row_after}
use Rattle.logwords.specs.Words.{words_after}
use Rattle.guarantees.specs.Rows.{logs, drives, feeds, moves, new_tables, ties, charges, empty_cores, quicks, more, rows, AllHold, WorkedRows}

-- every definition that a row computes by, under one name
unfoldable opened : ℕ
unfolding words_after logged_by exit_logged above_task answers_test write_outcome write_answer log_after expand_outcome expand_answer row_after by_outcome beside new shape_outcome start_for ceiling_for refused_ceiling first first_from row tab up_to sum_over sum_to product_to euclid gcd lcm lcms insert sorted position scatter demand_on ◌then◌ refuse_if refuse_at in_order word_at byte_at old_bytes new_bytes fields_outcome other_byte beside_fields new_fields new_shape new_outcome lowest_permitted no_tasks refused_reading multiple_to hyperperiod_of demand_of bad_period bad_budget bad_cost exceeds task_set_of accepted_reading reading_by reading_of precedes twins is_empty some_empty_twin tried xor permitted permitted_count allowed unfit every_core every_affinity bad_affinity barred_at some_tied factor_for sum_of_products up_from choices step_into stored_after bound_after entered try_all visit trace stored answer table_answer table_problem order_of verdict_of allocation_of plan_for refused_plan plan_by plan_of verdict_outcome slot_test first_slot owed_for release release_all chosen advance_all stepped refused_tick tick fresh_slot fresh_slots above_at refused_start start_by placing_outcome start_of front digits_by decimal field refusal_line sizes_line task_line task_lines table_lines verdict_word summary_line plan_lines printed output_of lowest_fit fit_from first_fit table_fit quick_placement quick_for refused_quick quick_by quick_of step_ceiling ceiling_by ceiling_of quick_summary quick_lines quick_output_of form_outcome old_outcome alone transfer_by exit_by transfer_after exit_after written returned load_on through reach circular stands holds_up waits is_ready next_task with_next ordered feeding fed malformed multiple period_of said_by feeds_of unfit_of unfit_at refused_order order_for order_by task_order_of joined no_count too_few split_at table_in list_in order_line order_output_of feeds_output_of is_entry bus_place unlisted bus_outcome bus
opened = 0

base_hold : AllHold rows
unfolding opened rows
base_hold = (refl, (refl, (refl, (refl, (refl, (refl, (refl, (refl, (refl, (refl, ((refl, refl), tt)))))))))))

more_hold : AllHold more
unfolding opened more
more_hold = (refl, (refl, (refl, (refl, (refl, (refl, (refl, (refl, (refl, (refl, (refl, (refl, (refl, (refl, (refl, (refl, (refl, tt)))))))))))))))))

quicks_hold : AllHold quicks
unfolding opened quicks
quicks_hold = (refl, (refl, (refl, (refl, (refl, (refl, (refl, (refl, (refl, (refl, tt))))))))))

empty_cores_hold : AllHold empty_cores
unfolding opened empty_cores
empty_cores_hold = (refl, (refl, (refl, (refl, (refl, (refl, (refl, (refl, (refl, (refl, tt))))))))))

charges_hold : AllHold charges
unfolding opened charges
charges_hold = (refl, (refl, ((refl, refl), (refl, (refl, (refl, (refl, (refl, (refl, (refl, (refl, ((refl, refl), ((refl, refl), ((refl, refl), ((refl, refl), ((refl, refl), ((refl, refl), (refl, (refl, tt)))))))))))))))))))

ties_hold : AllHold ties
unfolding opened ties
ties_hold = (refl, (refl, (refl, (refl, (refl, (refl, (refl, (refl, (refl, (refl, (refl, ((refl, refl), ((refl, refl), ((refl, refl), ((refl, refl), ((refl, refl), ((refl, refl), ((refl, refl), ((refl, refl), ((refl, refl), (refl, tt)))))))))))))))))))))

new_tables_hold : AllHold new_tables
unfolding opened new_tables
new_tables_hold = ((refl, refl, refl), (refl, (refl, (refl, (refl, (refl, (refl, (refl, (refl, ((refl, refl), ((refl, refl), ((refl, refl), ((refl, refl), ((refl, refl), tt))))))))))))))

moves_hold : AllHold moves
unfolding opened moves
moves_hold = ((refl, refl), ((refl, refl), ((refl, refl), ((refl, refl), (((refl, refl), refl, refl), (((refl, refl), refl, refl), (((refl, refl), refl, refl), (((refl, refl), refl, refl), (((refl, refl), refl, refl), (((refl, refl), refl, refl), (((refl, refl), refl, refl), (((refl, refl), refl, refl), (((refl, refl), refl, refl), (((refl, refl), refl, refl), (((refl, refl), refl, refl), tt)))))))))))))))

feeds_hold : AllHold feeds
unfolding opened feeds
feeds_hold = (refl, (((refl, refl), refl), (((refl, refl), refl), (((refl, refl), refl), (refl, (refl, (((refl, refl), refl), (((refl, refl), refl), (((refl, refl), refl), (refl, (((refl, refl), refl), (((refl, refl), refl), (((refl, refl), refl), (((refl, refl), refl), (((refl, refl), refl), (((refl, refl), refl), (((refl, refl), refl), (((refl, refl), refl), (refl, (refl, (refl, (refl, tt))))))))))))))))))))))

drives_hold : AllHold drives
unfolding opened drives
drives_hold = (((refl, refl), (refl, refl)), (((refl, refl), (refl, refl)), (((refl, refl), (refl, refl)), (((refl, refl), (refl, refl)), (((refl, refl), (refl, refl)), (((refl, refl), (refl, refl)), (((refl, refl), (refl, refl)), (((refl, refl), (refl, refl)), (((refl, refl), (refl, refl)), (((refl, refl), (refl, refl)), (((refl, refl), (refl, refl)), (((refl, refl), (refl, refl)), (((refl, refl), (refl, refl)), (((refl, refl), (refl, refl)), (((refl, refl), (refl, refl)), (((refl, refl), (refl, refl)), ((refl, refl), ((refl, refl), ((refl, refl), (refl, (refl, (refl, (refl, (refl, tt))))))))))))))))))))))))

logs_hold : AllHold logs
unfolding opened logs
logs_hold = ((((refl, refl), refl), refl), ((((refl, refl), refl), refl), ((((refl, refl), refl), refl), ((((refl, refl), refl), refl), ((((refl, refl), refl), refl), ((((refl, refl), refl), refl), ((((refl, refl), refl), refl), ((((refl, refl), refl), refl), ((((refl, refl), refl), refl), ((((refl, refl), refl), refl), ((((refl, refl), refl), refl), ((((refl, refl), refl), refl), ((((refl, refl), refl), refl), ((((refl, refl), refl), refl), ((((refl, refl), refl), refl), ((((refl, refl), refl), refl), ((((refl, refl), refl), refl), ((((refl, refl), refl), refl), ((((refl, refl), refl), refl), ((((refl, refl), refl), refl), ((((refl, refl), refl), refl), ((((refl, refl), refl), refl), ((((refl, refl), refl), refl), (refl, (refl, tt)))))))))))))))))))))))))

pub rows_hold : WorkedRows
rows_hold = record {
  base = base_hold;
  more_of_it = more_hold;
  quick_plans = quicks_hold;
  empty_cores_fact = empty_cores_hold;
  switch_charges = charges_hold;
  core_bytes = ties_hold;
  new_form = new_tables_hold;
  moved_tables = moves_hold;
  feeding-tasks = feeds_hold;
  bus-drives = drives_hold;
  run-logs = logs_hold;
}
