-- What a plan numbers: data elements and variables, servers, mode machines and required mode elements.
use Rattle.std.specs.Prelude.{ℕ, List, filter, Bool, false, is_some, Option, Some}
use Rattle.std.specs.Option.{option_map_or}
use Rattle.description_types.specs.declared.flat.Flat.{Flat}
use Rattle.description_types.specs.declared.flat.Join.{Join}
use Rattle.description_types.specs.declared.description.Description.{Description}
use Rattle.plan_definitions.specs.declared.site.Site.{Site}
use Rattle.plan_definitions.specs.Joined.{end_at, end_of, provider_of}
use Rattle.plan_definitions.specs.Keys.{Key, end_key, is_element, is_machine, is_mode_port, is_server, keys_of, number_in, of_kind}

abbrev pub elements_of : Description → Flat → List Site
elements_of = of_kind is_element

abbrev pub servers_of : Description → Flat → List Site
servers_of = of_kind is_server

abbrev pub machines_of : Description → Flat → List Site
machines_of = of_kind is_machine

-- a required mode element is in the plan if it has a machine
abbrev pub has_machine : List Join → Site → Bool
has_machine joins s = option_map_or (λ e. is_some (provider_of joins e)) (end_of s) false

abbrev pub mode_ports_of : Description → Flat → List Site
mode_ports_of d f = filter (has_machine f.joins) (of_kind is_mode_port d f)

-- their numbers: of an element of an instance (of a variable, without a port), of a server by the end that provides its operation
abbrev pub element_number : Description → Flat → (i : ℕ) → (port : Option ℕ) → (item : ℕ) → ℕ
element_number d f i port item = number_in (keys_of (elements_of d f)) (Some i, port, item)

abbrev pub server_number : Description → Flat → Key → ℕ
server_number d f k = number_in (keys_of (servers_of d f)) k

abbrev pub machine_number : Description → Flat → Key → ℕ
machine_number d f k = number_in (keys_of (machines_of d f)) k

abbrev pub mode_port_number : Description → Flat → (i : ℕ) → (k : ℕ) → ℕ
mode_port_number d f i k = number_in (keys_of (mode_ports_of d f)) (Some i, Some k, 0)

-- the provided mode element that a required one has
abbrev pub machine_for : Description → Flat → Option ℕ → (k : ℕ) → ℕ
machine_for d f owner k = option_map_or (λ e. machine_number d f (end_key e)) (provider_of f.joins (end_at owner k 0)) 0
