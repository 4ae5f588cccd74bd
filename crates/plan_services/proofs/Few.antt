-- Few enough to be numbered: the ports of the root, the operations of a port, the runnables of an instance, and the keys of calls.
use Rattle.std.proofs.Common.{◌≡◌, ℕ, ◌^◌, ◌<◌, ◌≤◌, List, [], length, map, slice_get, Option, Some, None, refl, sym, ap, subst, ◌∙◌, arith}
use Rattle.bus_semantics.specs.Common.{length-map, option_map_or}
use Rattle.plan_definitions.specs.Common.{Interface, InterfaceKind, SenderReceiver, ClientServer, ModeSwitch, Component, Port, Composition, Description, operation_count, operations_at}
use Rattle.plan_definitions.specs.Common.{root_ports, HasFewParts, HasShortInterfaces, item_count}
use Rattle.plan_definitions.specs.declared.calling.Calling.{Calling}
use Rattle.plan_definitions.specs.declared.part.Part.TheVariants.{Runnables}

operations_most : (kind : InterfaceKind) → operation_count kind ≤ item_count kind
operations_most (SenderReceiver elements) = omega arith
operations_most (ClientServer operations) = omega arith
operations_most (ModeSwitch element) = omega arith

pub few_operations : (d : Description) (port : Port) → HasShortInterfaces d.types → operations_at d port < 2 ^ 32
few_operations d port short = by (slice_get d.types.interfaces port.interface) refl
  where
    by : (o : Option Interface) → slice_get d.types.interfaces port.interface ≡ o → option_map_or (λ (i : Interface). operation_count i.kind) o 0 < 2 ^ 32
    by None none = omega arith
    by (Some x) some = omega (arith, operations_most x.kind, short.interfaces port.interface x some)

pub few_outer : (d : Description) (ports : List Port) → ports ≡ root_ports d → HasFewParts d → length ports < 2 ^ 32
few_outer d ports are few = subst (λ ps. length ps < 2 ^ 32) (sym are) (by (slice_get d.compositions d.root) refl)
  where
    by : (o : Option Composition) → slice_get d.compositions d.root ≡ o → length (option_map_or (λ (c : Composition). c.ports) o []) < 2 ^ 32
    by None none = omega arith
    by (Some c) some = omega (arith, few.compositions d.root c some)

pub few_listed : {X : Type 0} (list items all : List X) → list ≡ items → items ≡ all → length all < 2 ^ 32 → length list < 2 ^ 32
few_listed list items all same are few = subst (λ xs. length xs < 2 ^ 32) (sym (same ∙ are)) few

pub few_runnables : (d : Description) (i : ℕ) (c : Component) → HasFewParts d → slice_get d.components i ≡ Some c → length c.behavior.runnables < 2 ^ 32
few_runnables d i c few at = let most : length c.behavior.runnables < 2 ^ 22 = (few.components i c at).parts Runnables in omega (arith, most)

pub few_keyed : {K : Type 0} (key : Calling → K) (slice keys : List K) (list : List Calling) → slice ≡ keys → keys ≡ map key list → length list < 2 ^ 32 → length slice < 2 ^ 32
few_keyed key slice keys list same are few = let as_many : length slice ≡ length list = ap length (same ∙ are) ∙ length-map list key in omega (arith, as_many, few)
