-- How many elements stand before those of a port and of an instance.
use Rattle.std.specs.Prelude.{◌≡◌, ℕ, ◌+◌, ◌<◌, ◌^◌, List, [], ◌∷◌, map, length, min, nat_lt, slice_get, Option, Some, None, option_and_then, option_map, if◌then◌else◌}
use Rattle.std.specs.Option.{option_map_or}
use Rattle.plan_definitions.specs.Common.{Component, Port, Description, Flat, Instance, InterfaceKind, SenderReceiver, ClientServer, ModeSwitch, TypeTable, root_ports, elements_of}
use Rattle.plan_numbers.specs.declared.starts.Starts.{Starts}

-- how many elements an interface has, a port, the ports of a component and its variables
abbrev pub elements_in : InterfaceKind → ℕ
elements_in (SenderReceiver elements) = length elements
elements_in (ClientServer operations) = 0
elements_in (ModeSwitch element) = 0

abbrev pub elements_at : TypeTable → Port → ℕ
elements_at types port = option_map_or (λ i. elements_in i.kind) (slice_get types.interfaces port.interface) 0

abbrev pub total : {X : Type 0} → (X → ℕ) → List X → ℕ
total size [] = 0
total size (x ∷ xs) = size x + total size xs

abbrev pub elements_within : TypeTable → Component → ℕ
elements_within types c = total (elements_at types) c.ports + length c.behavior.variables

abbrev pub elements_of_instance : Description → Instance → ℕ
elements_of_instance d x = option_map_or (elements_within d.types) (slice_get d.components x.component) 0

-- the sizes of the first of these, one more at each place, from a number on
abbrev pub sums : {X : Type 0} → (X → ℕ) → ℕ → List X → List ℕ
sums size n [] = n ∷ []
sums size n (x ∷ xs) = n ∷ sums size (n + size x) xs

-- the same, if the greatest number that 32 bits hold stands for all greater ones
abbrev pub capped : ℕ → ℕ
capped n = min n 4294967295

abbrev pub capped_sums : {X : Type 0} → (X → ℕ) → ℕ → List X → List ℕ
capped_sums size n [] = n ∷ []
capped_sums size n (x ∷ xs) = n ∷ capped_sums size (capped (n + size x)) xs

-- the sum at a place, of an item that reaches no further than the next sum; and of an item of so many that stand behind the sum
abbrev pub between : List ℕ → ℕ → ℕ → Option ℕ
between list k m = option_and_then (λ low. option_and_then (λ high. if nat_lt (low + m) high then Some low else None) (slice_get list (k + 1))) (slice_get list k)

abbrev pub behind : List ℕ → ℕ → ℕ → ℕ → Option ℕ
behind list k count m = option_and_then (λ low. if nat_lt m count then Some low else None) (slice_get list k)

-- the same of an item of a component, and of its variables, which have no port
abbrev pub low_within : List ℕ → Component → Option ℕ → ℕ → Option ℕ
low_within list c (Some k) m = between list k m
low_within list c None m = behind list (length c.ports) (length c.behavior.variables) m

-- where an item of an instance stands, and of the environment
abbrev pub place_within : Description → Flat → Starts → ℕ → Option ℕ → ℕ → Option ℕ
place_within d f s i port m = option_and_then (λ x. option_and_then (λ c. option_and_then (λ list. option_and_then (λ start. option_map (λ low. (start + low) + m) (low_within list c port m)) (slice_get s.instances i)) (slice_get s.components x.component)) (slice_get d.components x.component)) (slice_get f.instances i)

abbrev pub place_outside : Flat → Starts → Option ℕ → ℕ → Option ℕ
place_outside f s port m = option_and_then (λ k. option_and_then (λ start. option_map (λ low. (start + low) + m) (between s.root k m)) (slice_get s.instances (length f.instances))) port

-- the tables of a description; components that no instance has may have any number of elements
pub record AreStarts (d : Description) (f : Flat) (s : Starts) : Type 0 where
  pub of_components : s.components ≡ map (λ c. capped_sums (elements_at d.types) 0 c.ports) d.components
  pub of_root : s.root ≡ capped_sums (elements_at d.types) 0 (root_ports d)
  pub of_instances : s.instances ≡ sums (elements_of_instance d) 0 f.instances
  pub of_all : s.count ≡ length (elements_of d f)
  pub few : s.count < 2 ^ 32
