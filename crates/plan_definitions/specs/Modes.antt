-- Mode machines, and who requires them (Software Component Template: ModeDeclarationGroupPrototype).
use Rattle.std.specs.Prelude.{ℕ, ◌==◌, List, [], map, Bool, true, false, not, ◌&&◌, ◌||◌, Option, Some, None, is_some, option_and_then, slice_get}
use Rattle.bus_semantics.specs.Common.{list_any, option_map_or, unwrap_or}
use Rattle.description_types.specs.declared.interface.InterfaceKind.{InterfaceKind}
use Rattle.description_types.specs.declared.interface.InterfaceKind.TheVariants.{ModeSwitch}
use Rattle.description_types.specs.declared.interface.ModeGroup.{ModeGroup}
use Rattle.description_types.specs.declared.description.Description.{Description}
use Rattle.description_types.specs.declared.flat.Flat.{Flat}
use Rattle.plan_definitions.specs.declared.site.Site.{Site}
use Rattle.bus_semantics.specs.declared.plan.MachinePlan.{MachinePlan}
use Rattle.bus_semantics.specs.declared.plan.ModePortPlan.{ModePortPlan}
use Rattle.plan_definitions.specs.Ports.{com_spec_of, interface_of, item_text, queue_length_of}
use Rattle.plan_definitions.specs.Things.{machine_for, machine_number, machines_of, mode_ports_of}

abbrev pub group_in : Description → InterfaceKind → Option ModeGroup
group_in d (ModeSwitch element) = slice_get d.types.mode_groups element.of_type
group_in d _ = None

abbrev pub group_at : Description → Flat → Option ℕ → ℕ → Option ModeGroup
group_at d f owner k = option_and_then (group_in d) (interface_of d f owner k)

-- ---- users of a machine (Software Component Template: ModeSwitchReceiverComSpec.supportsAsynchronousModeSwitch)

-- the machine that a required mode element has
abbrev pub machine_required : Description → Flat → Site → ℕ
machine_required d f s = machine_for d f s.owner (unwrap_or s.port 0)

-- an instance, not the environment, requires the machine
abbrev pub is_user : Description → Flat → (machine : ℕ) → Site → Bool
is_user d f n s = is_some s.owner && (n == machine_required d f s)

-- the mode element's com spec says that it supports an asynchronous mode switch
abbrev pub supports_asynchronous : Description → Flat → Site → Bool
supports_asynchronous d f s = option_map_or (λ c. c.supports_asynchronous_mode_switch) (com_spec_of d f s.owner (unwrap_or s.port 0) 0) false

abbrev pub refuses_asynchronous : Description → Flat → (machine : ℕ) → Site → Bool
refuses_asynchronous d f n s = is_user d f n s && not (supports_asynchronous d f s)

-- a machine does not wait if it has a user and all its users support an asynchronous mode switch
unfoldable pub waits_of : Description → Flat → (machine : ℕ) → Bool
waits_of d f n = not (list_any (is_user d f n) (mode_ports_of d f)) || list_any (refuses_asynchronous d f n) (mode_ports_of d f)

-- ---- machines

abbrev pub machine_at : Description → Flat → Option ℕ → ℕ → MachinePlan
machine_at d f owner k = record {
  instance = owner;
  name = item_text d f owner k 0;
  modes = option_map_or (λ g. g.modes) (group_at d f owner k) [];
  initial = option_map_or (λ g. g.initial_mode) (group_at d f owner k) 0;
  queue = queue_length_of d f owner k 0;
  waits = waits_of d f (machine_number d f (owner, Some k, 0));
}

abbrev pub machines : Description → Flat → List MachinePlan
machines d f = map (λ s. machine_at d f s.owner (unwrap_or s.port 0)) (machines_of d f)

abbrev pub mode_port_at : Description → Flat → Option ℕ → ℕ → ModePortPlan
mode_port_at d f owner k = record { instance = owner; name = item_text d f owner k 0; machine = machine_for d f owner k }

abbrev pub mode_ports : Description → Flat → List ModePortPlan
mode_ports d f = map (λ s. mode_port_at d f s.owner (unwrap_or s.port 0)) (mode_ports_of d f)
