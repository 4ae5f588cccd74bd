-- The names of interfaces, of descriptions and of their plans that the crates above cite, passed on from one place. Declares nothing.
pub use Rattle.description_types.specs.Connectors.{IsBrokenConnector, IsFirstBroken, connectors_of, is_one_kind, is_required, kind_in, lets_join}
pub use Rattle.description_types.specs.Firsts.{IsFirst}
pub use Rattle.description_types.specs.Flattening.{IsFlatOf, IsRefusalOf, IsRefusedAt, KeepsLimits, KeepsNesting, composition_place, connector_place}
pub use Rattle.description_types.specs.Growing.{IsPastLimit}
pub use Rattle.description_types.specs.Initials.{element_type, fits_type, is_within, keeps, keeps_element, keeps_type}
pub use Rattle.description_types.specs.Instances.{instance_at, instances, name_at, name_in, names_env, prefix_at, written}
pub use Rattle.description_types.specs.Items.{IsSameName, ItemsJoin, element_names, interface_at, operation_names}
pub use Rattle.description_types.specs.Joined.{Assembles, Delegates, IsBelow, IsChain, IsJoined, IsOutside, Stand, StandsJoin, as_inner, interface_below, stand_in}
pub use Rattle.description_types.specs.Joined.IsBelow.{further, itself}
pub use Rattle.description_types.specs.Lists.{first}
pub use Rattle.description_types.specs.Members.{AllApart, Among, sum_of}
pub use Rattle.description_types.specs.Orders.{end_order, instance_order, join_order}
pub use Rattle.description_types.specs.Paths.{ContainsItself, is_composition, prototypes_of, type_at, type_in}
pub use Rattle.description_types.specs.Places.{IsTooDeep, Place, places, places_below, places_of}
pub use Rattle.description_types.specs.Ranges.{keeps_range, range_of}
pub use Rattle.description_types.specs.Refusals.{broken, broken_among, broken_operations, broken_types, has_distinct_codes, is_sound, is_sound_argument, one_word, operation_place}
pub use Rattle.description_types.specs.Refusals.{operations_in, type_place, type_refusal}
pub use Rattle.description_types.specs.declared.base_type.BaseType.{BaseType}
pub use Rattle.description_types.specs.declared.base_type.DataType.{DataType}
pub use Rattle.description_types.specs.declared.component.Access.{Access}
pub use Rattle.description_types.specs.declared.component.Component.{Component}
pub use Rattle.description_types.specs.declared.component.DisabledInModes.{DisabledInModes}
pub use Rattle.description_types.specs.declared.component.Event.{Event}
pub use Rattle.description_types.specs.declared.component.EventKind.{EventKind}
pub use Rattle.description_types.specs.declared.component.EventKind.TheVariants.{CallReturns, DataReceived, Init, ModeSwitchedAck, OperationInvoked, Timing}
pub use Rattle.description_types.specs.declared.component.ItemPair.{ItemPair}
pub use Rattle.description_types.specs.declared.component.ModeActivation.{ModeActivation}
pub use Rattle.description_types.specs.declared.component.Port.{Port}
pub use Rattle.description_types.specs.declared.component.PortKind.{PortKind}
pub use Rattle.description_types.specs.declared.component.PortKind.TheVariants.{Provided, Required}
pub use Rattle.description_types.specs.declared.component.Runnable.{Runnable}
pub use Rattle.description_types.specs.declared.component.Variable.{Variable}
pub use Rattle.description_types.specs.declared.description.Composition.{Composition}
pub use Rattle.description_types.specs.declared.description.Connector.{Connector}
pub use Rattle.description_types.specs.declared.description.Connector.TheVariants.{Assembly, Delegation}
pub use Rattle.description_types.specs.declared.description.Description.{Description}
pub use Rattle.description_types.specs.declared.description.InnerPort.{InnerPort}
pub use Rattle.description_types.specs.declared.description.MappedEvent.{MappedEvent}
pub use Rattle.description_types.specs.declared.description.Prototype.{Prototype}
pub use Rattle.description_types.specs.declared.description.PrototypeType.{PrototypeType}
pub use Rattle.description_types.specs.declared.description.Task.{Task}
pub use Rattle.description_types.specs.declared.description.TaskMapping.{TaskMapping}
pub use Rattle.description_types.specs.declared.flat.End.{End}
pub use Rattle.description_types.specs.declared.flat.Flat.{Flat}
pub use Rattle.description_types.specs.declared.flat.Instance.{Instance}
pub use Rattle.description_types.specs.declared.flat.Join.{Join}
pub use Rattle.description_types.specs.declared.interface.ApplicationError.{ApplicationError}
pub use Rattle.description_types.specs.declared.interface.Argument.{Argument}
pub use Rattle.description_types.specs.declared.interface.ComSpec.{ComSpec}
pub use Rattle.description_types.specs.declared.interface.DataElement.{DataElement}
pub use Rattle.description_types.specs.declared.interface.Direction.{Direction}
pub use Rattle.description_types.specs.declared.interface.Direction.TheVariants.{In, Out}
pub use Rattle.description_types.specs.declared.interface.Interface.{Interface}
pub use Rattle.description_types.specs.declared.interface.InterfaceKind.{InterfaceKind}
pub use Rattle.description_types.specs.declared.interface.InterfaceKind.TheVariants.{ClientServer, ModeSwitch, SenderReceiver}
pub use Rattle.description_types.specs.declared.interface.ModeElement.{ModeElement}
pub use Rattle.description_types.specs.declared.interface.ModeGroup.{ModeGroup}
pub use Rattle.description_types.specs.declared.interface.Operation.{Operation}
pub use Rattle.description_types.specs.declared.interface.SwImplPolicy.{SwImplPolicy}
pub use Rattle.description_types.specs.declared.interface.SwImplPolicy.TheVariants.{Queued, Standard}
pub use Rattle.description_types.specs.declared.interface.TypeTable.{TypeTable}
pub use Rattle.plan_definitions.specs.Accesses.{access_fits, fits, misfit, misfit_among, names_port}
pub use Rattle.plan_definitions.specs.Callings.{call_key, calling_of, callings, callings_in, callings_of_component, first_calling, is_calling, leaves, left_key, operation_count}
pub use Rattle.plan_definitions.specs.Callings.{operations_at, outer_calling, outer_callings, owner_of, point_number}
pub use Rattle.plan_definitions.specs.Calls.{access_keeps, called, called_by, event_keeps, is_called_once, is_left, left, left_by, mixed, mixed_access, mixed_among, mixed_event}
pub use Rattle.plan_definitions.specs.Coding.{AreCoded, IsCoded, coded_at, coded_in}
pub use Rattle.plan_definitions.specs.Coherent.{comes_in, comes_once, incoherent, incoherent_among, list_fits, listed, read_by, words_at, words_in, words_of_type, written_by}
pub use Rattle.plan_definitions.specs.ComponentRefusals.{broken_in, of_program, of_programs, of_rule}
pub use Rattle.plan_definitions.specs.Connectors.{both, delegated, incompatible, incompatible_in, inner_interface, is_client_server, joins_compatible, requires_server, root_client, sides}
pub use Rattle.plan_definitions.specs.Counts.{count, same_operation}
pub use Rattle.plan_definitions.specs.ElementGroups.{all_members, group_number, groups, head_at, heads, leader, leader_of, least, member_at, members, nearest, number_among, own_number}
pub use Rattle.plan_definitions.specs.Elements.{Elem, declared_at, elem_seen, element_in, element_of, elements, given_of, group_of, held, is_provided, keeps_last, keeps_queue, kind_of}
pub use Rattle.plan_definitions.specs.Elements.{leaders, limits_of, never_received_of, policy_kind, queue_of, type_of, variable_at, words_of, zeros}
pub use Rattle.plan_definitions.specs.Events.{disabling_fits, has_modes, has_moment, may_be_disabled, misplaced, provides_modes, provides_operation, required_modes, requires_data}
pub use Rattle.plan_definitions.specs.Events.{requires_operation, wrongly_disabled}
pub use Rattle.plan_definitions.specs.Firsts.{each_number, first_of, unless}
pub use Rattle.plan_definitions.specs.Interfaces.{are_compatible, declares_errors, groups_agree, same_argument, same_arguments, same_direction, same_error, same_modes, same_policy}
pub use Rattle.plan_definitions.specs.Interfaces.{serve_elements, serve_operations, serves, serves_element, serves_in, serves_operation}
pub use Rattle.plan_definitions.specs.Invocations.{invoked, is_alone, is_served, operation_of, shared, started, unserved, wrongly_served}
pub use Rattle.plan_definitions.specs.Invoked.{all_invoked, invoked_by, invoked_in}
pub use Rattle.plan_definitions.specs.Items.{item_at, item_of, item_of_port}
pub use Rattle.plan_definitions.specs.JoinGroups.{HasProvided, HasRequired, IsManyToMany, Leads}
pub use Rattle.plan_definitions.specs.JoinRefusals.{in_composition, item_refusal, of_connectors, of_items, of_root_ports, port_refusal, refusal}
pub use Rattle.plan_definitions.specs.Joined.{across, end_at, end_of, is_joined, partners, provider_of, same_end}
pub use Rattle.plan_definitions.specs.JoinedItems.{breaks, first_broken, first_item, first_number, in_instances, in_port, in_ports, looked_at, needs_provider, requires_at}
pub use Rattle.plan_definitions.specs.Joins.{are_several, crowds, is_crowded, is_many_to_many, is_none, providers, requirers}
pub use Rattle.plan_definitions.specs.Keys.{Key, end_key, is_element, is_machine, is_mode_port, is_server, key_of, keys_of, number_in, of_kind, pair_number, same_key, same_pair}
pub use Rattle.plan_definitions.specs.Listed.{bundle_leaders, bundles, element_at, groups_listed, homes, list_numbers, list_of, lists, lists_at, reads, runnable_at}
pub use Rattle.plan_definitions.specs.Lists.{from, positions}
pub use Rattle.plan_definitions.specs.Mapped.{event_named, event_names, instance_named, invocation_of, invokes, is_mapped, mapped_as, named_by, names}
pub use Rattle.plan_definitions.specs.MappingRefusals.{IsAfter, IsOfTasks, Tells, event_text, mapped_text, mapping_text, of_events, of_named, runnable_text}
pub use Rattle.plan_definitions.specs.MappingRules.{Chain, HaveOrder, ReachesItself, TellsOrder, Waits, are_same, badly_mapped, badly_mapped_in, is_call, is_mapped_well, keeps_direct}
pub use Rattle.plan_definitions.specs.MappingRules.{may_be_direct, not_direct, not_direct_in, serves_outside, spread, spread_in, task_of_server, tasks_behind, tasks_from, tasks_of}
pub use Rattle.plan_definitions.specs.MappingRules.{tasks_of_event, unnamed, waits_by, waits_for}
pub use Rattle.plan_definitions.specs.Modes.{group_at, group_in, is_user, machine_at, machine_required, machines, mode_port_at, mode_ports, refuses_asynchronous, supports_asynchronous}
unfoldable pub use Rattle.plan_definitions.specs.Modes.{waits_of}
pub use Rattle.plan_definitions.specs.Names.{end_text, owner_name, owner_ports}
pub use Rattle.plan_definitions.specs.Parts.{areas_of, component_of, counted, counted_at, events_of, numbered, of_instances, runnables_of}
pub use Rattle.plan_definitions.specs.PlanRefusals.{IsOfLists, IsOfSize, IsRefusal, IsThen, of_size}
pub use Rattle.plan_definitions.specs.PlanRules.{is_queued, is_too_large, queue_lengths, received, requested, things}
pub use Rattle.plan_definitions.specs.Planned.{Planned, area_of, areas, areas_at, named_areas, object_count, plan_of, seen}
pub use Rattle.plan_definitions.specs.Ports.{com_spec_of, interface_of, item_name, item_text, port_name, port_of, ports_of, queue_length_of, site_name, variable_name}
pub use Rattle.plan_definitions.specs.Programs.{is_wanted, path_of, program_refusal, refused_in, refused_program}
pub use Rattle.plan_definitions.specs.Services.{argument_of, is_numbered_mapped, is_out, operation_at, operation_in, point_of, point_words, points, server_at, server_of, servers, started_by}
pub use Rattle.plan_definitions.specs.Signatures.{access_sig, arguments_of, given, goes, mode_count, modes_of, signature, taken, words_of_item, words_of_variable}
pub use Rattle.plan_definitions.specs.Sites.{count_at, kind_at, provides_at, root_ports, shape_at, site, sites, sites_at, sites_of_component, sites_of_instance, sites_of_ports, sites_with}
pub use Rattle.plan_definitions.specs.Sites.{variables_of}
pub use Rattle.plan_definitions.specs.Sizes.{HasFewInside, HasFewParts, HasFewThings, HasShortInterfaces, list_count}
pub use Rattle.plan_definitions.specs.Sorting.{in_order, put}
pub use Rattle.plan_definitions.specs.Spots.{in_component, path_text, program_text, spot_text}
pub use Rattle.plan_definitions.specs.Started.{disabling_of, event_of, events, events_of_component, moment_of, runnable_of, runnables, runnables_of_component, served_by, served_number}
pub use Rattle.plan_definitions.specs.Started.{target_of}
pub use Rattle.plan_definitions.specs.Tasks.{are_mapped, by_position, events_in, mapping_of, number_of, task_at}
pub use Rattle.plan_definitions.specs.Things.{element_number, elements_of, has_machine, machine_for, machine_number, machines_of, mode_port_number, mode_ports_of, server_number, servers_of}
pub use Rattle.plan_definitions.specs.Types.{agree, are_compatible_types, base_number, types_agree}
pub use Rattle.plan_definitions.specs.WellFormed.{IsWellFormed, accesses_distinct, argument_count, arguments_at, com_spec_fits, component_fits, composition_fits, distinct, event_fits}
pub use Rattle.plan_definitions.specs.WellFormed.{event_kind_fits, group_fits, item_count, items_at, items_of_port, kind_fits, mapping_fits, names_fit, operation_fits, port_fits, ports_fit}
pub use Rattle.plan_definitions.specs.WellFormed.{prototype_fits, runnable_fits, same_access, serves_fit, type_fits, types_fit, variable_fits}
pub use Rattle.plan_definitions.specs.Whole.{IsWhole}
pub use Rattle.plan_definitions.specs.declared.site.Site.{Site}
pub use Rattle.plan_definitions.specs.declared.site.SiteKind.{SiteKind}
