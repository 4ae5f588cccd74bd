-- Whether accesses fit (Software Component Template: VariableAccess, ServerCallPoint, ModeAccessPoint, ModeSwitchPoint).
use Rattle.std.specs.Prelude.{ℕ, List, Bool, true, false, Option, if◌then◌else◌}
use Rattle.bus_semantics.specs.Common.{option_map_or, AccessKind}
use Rattle.runnable_lang.specs.declared.program.AccessKind.TheVariants as kind
use Rattle.description_types.specs.declared.interface.SwImplPolicy.TheVariants.{Standard, Queued}
use Rattle.description_types.specs.declared.interface.TypeTable.{TypeTable}
use Rattle.description_types.specs.declared.component.Access.{Access}
use Rattle.description_types.specs.declared.component.Component.{Component}
use Rattle.description_types.specs.declared.component.Port.{Port}
use Rattle.description_types.specs.declared.component.PortKind.{PortKind}
use Rattle.description_types.specs.declared.component.PortKind.TheVariants.{Provided, Required}
use Rattle.plan_definitions.specs.declared.item.Item.{Item}
use Rattle.plan_definitions.specs.declared.item.Item.TheVariants.{Data, Operation, Modes}
use Rattle.plan_definitions.specs.declared.spot.Spot.{Spot}
use Rattle.plan_definitions.specs.declared.spot.Spot.TheVariants as spot
use Rattle.plan_definitions.specs.Firsts.{first_of, unless}
use Rattle.plan_definitions.specs.Items.{item_at}

-- accesses to variables and areas name no port
abbrev pub names_port : AccessKind → Bool
names_port kind.IrvWrite = false
names_port kind.IrvRead = false
names_port kind.IrvIWrite = false
names_port kind.IrvIRead = false
names_port kind.Enter = false
names_port _ = true

-- An access fits an item of a port: writes an unqueued element of a P-port, reads one of an R-port, sends to a queued element
-- of a P-port, receives from one of an R-port; a call and its result name an operation of an R-port; a switch names a P-port
-- with modes, and who asks for the mode an R-port with modes.
abbrev pub fits : AccessKind → PortKind → Item → Bool
fits kind.Write Provided (Data Standard) = true
fits kind.Invalidate Provided (Data Standard) = true
fits kind.IWrite Provided (Data Standard) = true
fits kind.Read Required (Data Standard) = true
fits kind.IsUpdated Required (Data Standard) = true
fits kind.IRead Required (Data Standard) = true
fits kind.Send Provided (Data Queued) = true
fits kind.Receive Required (Data Queued) = true
fits kind.Call Required Operation = true
fits kind.ACall Required Operation = true
fits kind.TakeResult Required Operation = true
fits kind.Switch Provided (Modes n) = true
fits kind.Mode Required (Modes n) = true
fits _ _ _ = false

abbrev pub access_fits : TypeTable → List Port → Access → Bool
access_fits types ports a = if names_port a.kind then option_map_or (λ x. fits a.kind x.0 x.1) (item_at types ports a.port a.item) false else true

-- Rule 16: each access fits. The first access of a component that does not.
abbrev pub misfit_among : TypeTable → List Port → (runnable : ℕ) → List Access → Option Spot
misfit_among types ports m accesses = first_of (λ k a. unless (access_fits types ports a) (spot.Access m k)) 0 accesses

abbrev pub misfit : TypeTable → Component → Option Spot
misfit types c = first_of (λ m r. misfit_among types c.ports m r.accesses) 0 c.behavior.runnables
