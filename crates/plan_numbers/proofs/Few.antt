-- Few enough to be numbered: the items of a port, and the lists of what stands at ports.
use Rattle.std.proofs.Common.{◌≡◌, ℕ, ◌^◌, ◌<◌, ◌≤◌, length, slice_get, Bool, true, false, cond, ◌&&◌, is_some, Option, Some, None, option_map, refl, sym, ap, subst, arith}
use Rattle.plan_definitions.specs.Common.{Interface, InterfaceKind, SenderReceiver, ClientServer, ModeSwitch, TypeTable, Port, PortKind, Description, Flat, count_at, kind_at, provides_at}
use Rattle.plan_definitions.specs.Common.{shape_at, HasFewThings, HasShortInterfaces, item_count}
use Rattle.plan_definitions.specs.declared.site.SiteKind.{SiteKind}
use Rattle.plan_numbers.specs.declared.lists.Lists.{Lists}
use Rattle.plan_numbers.specs.Listed.{AreLists, AreShort}

count_most : (owner : Option ℕ) (side : PortKind) (kind : InterfaceKind) → count_at owner side kind ≤ item_count kind
count_most owner side (SenderReceiver elements) = omega arith
count_most owner side (ClientServer operations) = by (is_some owner && provides_at owner side)
  where
    by : (b : Bool) → cond b (length operations) 0 ≤ length operations
    by true = omega arith
    by false = omega arith
count_most owner side (ModeSwitch element) = omega arith

abbrev second : Option (SiteKind × ℕ) → ℕ
second None = 0
second (Some x) = x.1

pub few_at : (types : TypeTable) (owner : Option ℕ) (port : Port) (kind : SiteKind) (count : ℕ) → HasShortInterfaces types → shape_at types owner port ≡ Some (kind, count) → count < 2 ^ 32
few_at types owner port kind count short is = by (slice_get types.interfaces port.interface) refl is
  where
    by : (o : Option Interface) → slice_get types.interfaces port.interface ≡ o → option_map {U = SiteKind × ℕ} (λ (i : Interface). (kind_at owner port.kind i.kind, count_at owner port.kind i.kind)) o ≡ Some (kind, count) → count < 2 ^ 32
    by None none h = cc
    by (Some x) some h = let same : count_at owner port.kind x.kind ≡ count = ap second h in omega (arith, same, count_most owner port.kind x.kind, short.interfaces port.interface x some)

pub short_lists : (d : Description) (f : Flat) (l : Lists) → AreLists d f l → HasFewThings d f → AreShort l
short_lists d f l are few = record {
  elements = subst (λ xs. length xs < 2 ^ 32) (sym are.elements) few.elements;
  servers = subst (λ xs. length xs < 2 ^ 32) (sym are.servers) few.servers;
  machines = subst (λ xs. length xs < 2 ^ 32) (sym are.machines) few.machines;
  mode_ports = subst (λ xs. length xs < 2 ^ 32) (sym are.mode_ports) few.mode_ports;
}
