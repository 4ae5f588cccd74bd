-- All that a plan numbers, listed and numbered.
use Rattle.std.specs.Prelude.{◌≡◌, ◌<◌, ◌^◌, List, filter, length}
use Rattle.plan_definitions.specs.Common.{Flat, Join, Description, is_element, is_machine, is_mode_port, is_server, keys_of, areas_of, events_of, runnables_of, sites, has_machine}
use Rattle.plan_definitions.specs.declared.site.Site.{Site}
use Rattle.plan_numbers.specs.declared.lists.Lists.{Lists}
use Rattle.plan_numbers.specs.declared.lists.PairNumbers.{PairNumbers}
use Rattle.plan_numbers.specs.declared.lists.SiteNumbers.{SiteNumbers}

-- the sites of each kind among these
pub record AreAmong (joins : List Join) (all : List Site) (l : Lists) : Type 0 where
  pub elements : l.elements.items ≡ filter (λ s. is_element s.kind) all
  pub servers : l.servers.items ≡ filter (λ s. is_server s.kind) all
  pub machines : l.machines.items ≡ filter (λ s. is_machine s.kind) all
  pub mode_ports : l.mode_ports.items ≡ filter (has_machine joins) (filter (λ s. is_mode_port s.kind) all)

abbrev pub AreLists : Description → Flat → Lists → Type 0
AreLists d f l = AreAmong f.joins (sites d f) l

-- 32 bits number each list
pub record AreShort (l : Lists) : Type 0 where
  pub elements : length l.elements.items < 2 ^ 32
  pub servers : length l.servers.items < 2 ^ 32
  pub machines : length l.machines.items < 2 ^ 32
  pub mode_ports : length l.mode_ports.items < 2 ^ 32

pub record AreNumbers (l : Lists) (n : SiteNumbers) : Type 0 where
  pub servers : n.servers ≡ keys_of l.servers.items
  pub machines : n.machines ≡ keys_of l.machines.items
  pub mode_ports : n.mode_ports ≡ keys_of l.mode_ports.items

pub record ArePairs (d : Description) (f : Flat) (n : PairNumbers) : Type 0 where
  pub runnables : n.runnables ≡ runnables_of d f
  pub events : n.events ≡ events_of d f
  pub areas : n.areas ≡ areas_of d f
