-- The names of values, of programs and of the bus that the crates above cite, and what they cite of the library besides.
-- Passed on from one place. Declares nothing.
pub use Rattle.std.proofs.Math.Bool.{or-false}
pub use Rattle.std.proofs.Math.Seq.{take-append_seam, take-length}
pub use Rattle.std.proofs.lemmas.Bool.{and_from, and_parts, and_right, cases_eq, cases_lt, eq-eqb, eqb-true, false_from_ne_true, false≢true, le-leb, leb-true, lt-ltb, ltb-false, ltb-true}
pub use Rattle.std.proofs.lemmas.Bool.{ne_eqb, not-true, or_cases, or_from, or_left, or_parts, or_right, true≢false}
pub use Rattle.std.proofs.lemmas.Bool.Decides.{nat_tests}
pub use Rattle.std.proofs.lemmas.List.{append-nil, drop_all, drop_more, get_or-map, get_or-set_other, get_or-set_same, length-append, length-drop, length-map, length-replicate, length-set}
pub use Rattle.std.proofs.lemmas.List.{length_push, map-append, map-set, take-append-drop, take_all, take_more}
pub use Rattle.std.proofs.lemmas.List.Elements.{All-head, All-nil, All-tail, filter-append}
pub use Rattle.std.proofs.lemmas.List.Folds.{list_all-append, list_all-map, list_any-append}
pub use Rattle.std.proofs.lemmas.Map.Keys.{any_passes_from_place}
pub use Rattle.std.proofs.lemmas.Option.{get_or_from_slice_get, none-some, same_Some, slice_get-get_or, slice_get-map, slice_get_past, slice_get_read, slice_get_within}
pub use Rattle.std.proofs.lemmas.Result.{IfOk-weaker}
pub use Rattle.std.proofs.lemmas.Slice.Eq.{bytes_eq-Decides}
pub use Rattle.std.proofs.lemmas.Slice.Zip.{either_empty_from_Zip}
pub use Rattle.std.specs.Arc.{arc_value}
pub use Rattle.std.specs.Borrow.{Bor}
pub use Rattle.std.specs.Cmp.{unsigned_Decides}
unfoldable pub use Rattle.std.specs.Fmt.{digits}
pub use Rattle.std.specs.Global.{Global}
pub use Rattle.std.specs.List.{All, AllByRecursion, Contains, find, flat_map, list_all, list_any, position, position_from, position_or_len, slice_get, slice_index_or, sum_by}
pub use Rattle.std.specs.Map.{lookup}
pub use Rattle.std.specs.Option.{option_and_then, option_copied, option_eq, option_map, option_map_or, option_or, unwrap_or}
pub use Rattle.std.specs.Ordering.{int_eq}
pub use Rattle.std.specs.Vec.{vec_capacity}
pub use Rattle.std.specs.Vec.Iter.{into_iter_items}
pub use Rattle.rte_value.specs.Arithmetic.{clamped, clamped_each}
pub use Rattle.rte_value.specs.EqualKeys.{same_key-Decides, same_number-Decides}
pub use Rattle.rte_value.specs.EqualValues.{Value-by_words, length-words_of, same_value-Decides, same_words-Decides}
pub use Rattle.rte_value.specs.Padding.{padded}
pub use Rattle.rte_value.specs.ShortValues.{empty_value, one_word}
pub use Rattle.rte_value.specs.Values.{same_key, same_number, same_words, words_of}
pub use Rattle.rte_value.specs.declared.kinds.ActKey.{ActKey}
pub use Rattle.rte_value.specs.declared.kinds.Limits.{Limits}
pub use Rattle.rte_value.specs.declared.kinds.Step.{Step}
pub use Rattle.rte_value.specs.declared.value.Value.{Value}
pub use Rattle.runnable_lang.specs.Accesses.{counts, has_access, is_at, kind_number, serves_switch}
pub use Rattle.runnable_lang.specs.Costs.{body_cost, stmt_cost}
pub use Rattle.runnable_lang.specs.Expressions.{worth}
pub use Rattle.runnable_lang.specs.Places.{Test, failing_among, failing_in, first, here, under, within}
pub use Rattle.runnable_lang.specs.Refusals.{calls_inside, failing, is_call, is_declared_before, is_too_large, lacks_access, of_rule, refusal, whole}
pub use Rattle.runnable_lang.specs.Trees.{BodyTree, ExprTree, ProgramTree, StmtTree, asks_mode, asks_updated, body_tree, calls, calls_and_goes_on, chooses, combined, constant, done}
pub use Rattle.runnable_lang.specs.Trees.{expr_tree, exprs, in_area, invalidates, next, program_tree, reads, reads_early, reads_variable, reads_variable_early, receives, repeats, sends}
pub use Rattle.runnable_lang.specs.Trees.{sets, stmt_tree, switches, takes_result, variable, writes, writes_late, writes_variable, writes_variable_late}
pub use Rattle.runnable_lang.specs.declared.program.AccessKind.{AccessKind}
pub use Rattle.runnable_lang.specs.declared.program.AccessSig.{AccessSig}
pub use Rattle.runnable_lang.specs.declared.program.Program.{Program}
pub use Rattle.runnable_lang.specs.declared.program.Signature.{Signature}
pub use Rattle.runnable_lang.specs.declared.stmt.Expr.{Bin, Const, Expr, Var}
pub use Rattle.runnable_lang.specs.declared.stmt.Op.{Op}
pub use Rattle.runnable_lang.specs.declared.stmt.Stmt.{ACall, Area, Call, IRead, IWrite, If, Invalidate, IrvIRead, IrvIWrite, IrvRead, IrvWrite, IsUpdated, Mode, Read, Receive, Repeat, Send}
pub use Rattle.runnable_lang.specs.declared.stmt.Stmt.{Set, Stmt, Switch, TakeResult, Write}
pub use Rattle.bus_semantics.specs.Activations.{Implicit, activity, admitting, all_of, arguments_at_start, arguments_of, declared_code, each, ending, fetches_of, fetching, fetching_it}
pub use Rattle.bus_semantics.specs.Activations.{in_order, is_read_early, is_written, is_written_late, list_with, met_now, next_of_activity, one, publications_of, publishing, publishing_all}
pub use Rattle.bus_semantics.specs.Activations.{publishing_it, publishing_one, results, returning, state_at_start, variables_at_start, wanted_next}
pub use Rattle.bus_semantics.specs.Actor.{Activation, accepted_point, activation_of, asked_last, caller_has_asked, direct_key, ended_since, follows_program, is_held_back, is_this}
pub use Rattle.bus_semantics.specs.Actor.{is_wanted_next, last_deed, may_start, next_wish, starts_or_goes_on, wanted_in, with_deed}
pub use Rattle.bus_semantics.specs.Admission.{admitted_runs, disables, is_disabled, is_disabled_by, mode_disables, none_runs_disabled}
pub use Rattle.bus_semantics.specs.Areas.{enters, is_held, leaves}
pub use Rattle.bus_semantics.specs.Asked.{MayCome, NoneMayCome, asks_its_own, event_of, is_start, noted_for}
pub use Rattle.bus_semantics.specs.Bundles.{bundle_of, bundle_of_list, groups_at, home_of, leaders_by, leaders_on, least, together}
pub use Rattle.bus_semantics.specs.Calls.{answer_to, ask_code, counts_with, has_unstarted, is_key_point, is_outstanding, is_queue_full, is_request, is_request_at, is_start_of, next_request}
pub use Rattle.bus_semantics.specs.Calls.{requests_of, result_of, returned_by, returned_to, serves, start_names, starts_of, starts_request, takes_reply_at}
pub use Rattle.bus_semantics.specs.Codes.{Coded, HaveOneCode, coded_of}
pub use Rattle.bus_semantics.specs.Due.{brings_data, counts_for, ends_transition, follows_last, is_due, is_due_kind, is_return_event_of, is_start_by_return_of, is_tick, key_point_of}
pub use Rattle.bus_semantics.specs.Due.{never_started, phase_owes, returns_to, switch_due, ticks, ticks_period}
pub use Rattle.bus_semantics.specs.Fitting.{activation_fits, activation_may_want, answer_fits, environment_may_want, fits, machine_may_want, phase_fits, start_fits, wish_fits}
pub use Rattle.bus_semantics.specs.History.{History, Noted, Past, count, event_started, is_end, is_environment, is_machine, is_of, is_over, last_started, made_by, needs_event, newest, note}
pub use Rattle.bus_semantics.specs.History.{noted, runs, started_before}
pub use Rattle.bus_semantics.specs.Interleaving.{IsInterleaved, Logged, part_of, past_of, stamps_count}
pub use Rattle.bus_semantics.specs.Legal.{Answers, IsLegal, MayFollow, admission_allows, answers, areas_allow, broken_answer, broken_clause, calls_allow, due_allows, first_false, is_legal}
pub use Rattle.bus_semantics.specs.Legal.{is_outcome, is_some_outcome, may_follow, modes_allow, queued_allows, same_bool, unqueued_allows}
pub use Rattle.bus_semantics.specs.Lists.{elems_of, list_fits, marked, marks_fit, mask_of, split, words_at, words_of_all}
pub use Rattle.bus_semantics.specs.Locality.{SameAnswers, is_proper, starts_its_own}
pub use Rattle.bus_semantics.specs.Matching.{enters_by, is_open, matches, runs_by, same_actor, serves_any, serves_by, start_matches}
pub use Rattle.bus_semantics.specs.Modes.{accepted_switches, closed_mode, closes_of, initial_of, is_close, is_phase, is_stable, is_stable_phase, mode_at_port, mode_of, next_of, phase_in}
pub use Rattle.bus_semantics.specs.Modes.{phase_of, settled_of, stage_of, switch_code, switched_to, waits_of}
pub use Rattle.bus_semantics.specs.Objects.{IsObject, clock, disabler_of, entries_of, first_area, first_machine, first_server, machine_itself, machine_object, machine_of_event, object_of}
pub use Rattle.bus_semantics.specs.Objects.{object_of_kind, owing, served_by, server_object, touched, touched_by, touches}
pub use Rattle.bus_semantics.specs.Owed.{all_done, is_done, is_end_by, is_start_by, owes, owes_moment, stage_owes, started_in_phase}
pub use Rattle.bus_semantics.specs.Owners.{area_fits, elem_fits, event_fits, holds, is_queued, is_readable, is_unqueued, is_writable, key_fits, mode_port_fits, modes_of, own_point}
pub use Rattle.bus_semantics.specs.Owners.{result_point, serves_directly, switch_fits}
pub use Rattle.bus_semantics.specs.Pasts.{Follows, IsPastOf}
pub use Rattle.bus_semantics.specs.Phases.{first_unbegun, phase_after, phase_may_come}
pub use Rattle.bus_semantics.specs.Plan.{Plan, Runnable, caller_of, disabling_of, every_from, group_of, instance_of, kind_of, look, machine_of_port, plan_of, positions, queue_of}
pub use Rattle.bus_semantics.specs.Plan.{runnable_of, runnable_of_event, server_of}
pub use Rattle.bus_semantics.specs.Programs.{Go, Outcome, Running, Stop, asking_and_hearing, both, calling, changing, goes_on, hears, nothing, run_program, running, running_body, takes_code}
pub use Rattle.bus_semantics.specs.Programs.{takes_nothing, takes_number, takes_value, takes_words, takes_zero, times, within_area}
pub use Rattle.bus_semantics.specs.Queued.{accepted_at, accepts_next, discards_next, has_lost, has_room_at, is_full_in, is_receive_of, is_receiver_in, is_room, places_at, received_at}
pub use Rattle.bus_semantics.specs.Queued.{send_code, sent_in, sent_to, taken_at, takes_at, with_sent}
pub use Rattle.bus_semantics.specs.Quiet.{IsQuiet, machine_is_quiet}
pub use Rattle.bus_semantics.specs.Reading.{IsReadingOf, are_words, is_byte, is_index, is_point, is_sized, is_sized_actor, item_fits}
pub use Rattle.bus_semantics.specs.Rest.{AllStuck, IsAtRest, IsIdle, IsStuck, Try, direct_keys, direct_tries, direct_try, event_runs, gathered, goes_on_tries, is_free, keys_of}
pub use Rattle.bus_semantics.specs.Rest.{machine_tries, none_runs, option_list, plain_key, plain_keys, start_try, task_tries, tries, try_of}
pub use Rattle.bus_semantics.specs.Run.{Closing, Holds, IsBeginningOf, IsBegunRunOf, IsLegalRun, IsRunOf, IsSessionOf, Item, Ordered, Session, a_call, a_run, history_of, idle, is_inside}
pub use Rattle.bus_semantics.specs.Run.{is_placed, made, made_in_line, orders_of, orders_of_entry, orders_of_line, orders_of_script, run_begins, run_closes, unsettled}
pub use Rattle.bus_semantics.specs.Sound.{IsSound, WaitOrder, mapped_events, mapping_fits, number_or_0, queue_lengths, sum_over, tasks_of, times_mapped, waits_for}
pub use Rattle.bus_semantics.specs.SoundAccesses.{access_sound, accesses_distinct, areas_rise, called_points, each_access, mode_count, point_takes, points_arranged, points_fit, rises_to}
pub use Rattle.bus_semantics.specs.SoundAccesses.{same_access, same_operation}
pub use Rattle.bus_semantics.specs.SoundElements.{agrees, argument_limits, code_list_fits, count_side, elem_sound, has_side, is_within, joins_fit, limits_fit, machine_sound, queue_fits}
pub use Rattle.bus_semantics.specs.SoundElements.{same_limits, server_sound, zeros}
pub use Rattle.bus_semantics.specs.SoundEvents.{direct_sound, disabling_sound, event_sound, is_invoked, kind_sound, may_be_disabled, moment_sound, requires_machine, server_served}
pub use Rattle.bus_semantics.specs.SoundEvents.{serves_back}
pub use Rattle.bus_semantics.specs.SoundLists.{accesses_elem, bundles_fit, first_group, groups_listed, list_kind, list_sound, lists_sound}
pub use Rattle.bus_semantics.specs.SoundNames.{Named, PortUse, caller_rank, is_env_path, is_letter, is_name, is_name_part, is_pair_name, is_path, is_together, named_once, names_distinct}
pub use Rattle.bus_semantics.specs.SoundNames.{names_fit, none_is_env, parts, point_rank, port_of, port_uses, ports_agree, ports_together, same_named, used, uses_agree}
pub use Rattle.bus_semantics.specs.SoundPlan.{first_of, firsts, groups_fit, instance_exists, instances_exist, is_arranged, is_distinct, is_in, is_rising, is_variable, members}
pub use Rattle.bus_semantics.specs.SoundPlan.{objects_counted, rank, same_numbers, things}
pub use Rattle.bus_semantics.specs.SoundPrograms.{body_sound, calls_outside, each_in, each_of, expr_sound, gives, has_arguments, is_declared_after, is_in_range, is_well_formed}
pub use Rattle.bus_semantics.specs.SoundPrograms.{runnable_sound, takes}
pub use Rattle.bus_semantics.specs.Spelling.{Letters, Spells, actor_text, area_name, caller_text, closing_text, deed_text, elem_name, entry_text, event_name, from_text, header}
pub use Rattle.bus_semantics.specs.Spelling.{instance_text, item_text, key_text, machine_name, machine_text, mask_text, mode_port_name, mode_text, more_words, phase_text, point_name}
pub use Rattle.bus_semantics.specs.Spelling.{point_text, position_of, runnable_text, spaced, spelling_of, value_text, words_text}
pub use Rattle.bus_semantics.specs.State.{Access, State, access, code_in, found, found_under, given, is_to, keep_each, keep_fetched, keep_written, number_in, put, put_all, same_kind, stored}
pub use Rattle.bus_semantics.specs.State.{words_in, words_under}
pub use Rattle.bus_semantics.specs.Unqueued.{elem_read_code, is_in_group, is_invalid, is_updated, last_in, last_stored, listed_in, moment_of, port_read_code, read_code, stored_in, update}
pub use Rattle.bus_semantics.specs.Unqueued.{validity, value_at}
pub use Rattle.bus_semantics.specs.Wanted.{Wanted, same_wanted, to_admit, to_ask, to_end, to_enter, to_fetch, to_fetch_all, to_hear, to_invalidate, to_leave, to_move_on, to_publish}
pub use Rattle.bus_semantics.specs.Wanted.{to_publish_all, to_read, to_receive, to_return, to_see_mode, to_see_updated, to_send, to_start, to_switch, to_take_result, to_tick, to_write}
pub use Rattle.bus_semantics.specs.Wanted.{wanted_by, wanted_of}
