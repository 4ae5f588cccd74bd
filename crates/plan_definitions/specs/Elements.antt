-- The elements of the plan: data elements of ports, and variables (Software Component Template: VariableDataPrototype).
use Rattle.std.specs.Prelude.{ℕ, ℤ, pos, List, [], map, replicate, length, Bool, true, false, nat_le, slice_get, Option, Some, None, option_and_then, if◌then◌else◌}
use Rattle.bus_semantics.specs.Common.{option_map_or, unwrap_or, Limits, clamped, words_of as value_words}
use Rattle.description_types.specs.declared.base_type.DataType.{DataType}
use Rattle.description_types.specs.declared.interface.DataElement.{DataElement}
use Rattle.description_types.specs.declared.interface.InterfaceKind.{InterfaceKind}
use Rattle.description_types.specs.declared.interface.InterfaceKind.TheVariants.{SenderReceiver, ClientServer, ModeSwitch}
use Rattle.description_types.specs.declared.interface.SwImplPolicy.{SwImplPolicy}
use Rattle.description_types.specs.declared.interface.SwImplPolicy.TheVariants.{Standard, Queued}
use Rattle.description_types.specs.declared.component.Variable.{Variable}
use Rattle.description_types.specs.declared.description.Description.{Description}
use Rattle.description_types.specs.declared.flat.Flat.{Flat}
use Rattle.plan_definitions.specs.declared.site.Site.{Site}
use Rattle.plan_definitions.specs.declared.site.SiteKind.{SiteKind}
use Rattle.plan_definitions.specs.declared.site.SiteKind.TheVariants as site
use Rattle.bus_semantics.specs.declared.plan.ElemPlan.{ElemPlan}
use Rattle.bus_semantics.specs.declared.plan.ElemKind.{ElemKind}
use Rattle.bus_semantics.specs.declared.plan.ElemKind.TheVariants as kind
use Rattle.plan_definitions.specs.Joined.{end_of, is_joined}
use Rattle.plan_definitions.specs.Keys.{keys_of}
use Rattle.plan_definitions.specs.Parts.{component_of}
use Rattle.plan_definitions.specs.Ports.{interface_of, com_spec_of, queue_length_of, site_name}
use Rattle.plan_definitions.specs.Things.{elements_of}
use Rattle.plan_definitions.specs.ElementGroups.{group_number, leader_of}

-- an element as plain data: its initial value by its words
pub record Elem : Type 0 where
  pub instance : Option ℕ
  pub name : List ℕ
  pub kind : ElemKind
  pub provided : Bool
  pub joined : Bool
  pub group : ℕ
  pub limits : Limits
  pub words : ℕ
  pub init : List ℤ
  pub never_received : Bool
  pub queue_length : ℕ

abbrev pub elem_seen : ElemPlan → Elem
elem_seen e = record {
  instance = e.instance;
  name = e.name;
  kind = e.kind;
  provided = e.provided;
  joined = e.joined;
  group = e.group;
  limits = e.limits;
  words = e.words;
  init = value_words e.init;
  never_received = e.never_received;
  queue_length = e.queue_length;
}

abbrev pub element_in : InterfaceKind → ℕ → Option DataElement
element_in (SenderReceiver elements) n = slice_get elements n
element_in (ClientServer operations) n = None
element_in (ModeSwitch element) n = None

abbrev pub declared_at : Description → Flat → Option ℕ → ℕ → ℕ → Option DataElement
declared_at d f owner k item = option_and_then (λ kind. element_in kind item) (interface_of d f owner k)

abbrev pub variable_at : Description → Flat → Option ℕ → ℕ → Option Variable
variable_at d f None n = None
variable_at d f (Some i) n = option_and_then (λ c. slice_get c.behavior.variables n) (component_of d f i)

abbrev pub type_of : Description → Flat → Site → Option DataType
type_of d f s = by_port s.port
  where
    by_port : Option ℕ → Option DataType
    by_port None = option_and_then (λ v. slice_get d.types.data_types v.of_type) (variable_at d f s.owner s.item)
    by_port (Some k) = option_and_then (λ e. slice_get d.types.data_types e.of_type) (declared_at d f s.owner k s.item)

abbrev pub limits_of : Option DataType → Limits
limits_of found = option_map_or (λ t. t.limits) found (record { low = pos 0; high = pos 0 })

abbrev pub words_of : Option DataType → ℕ
words_of found = option_map_or (λ t. t.words) found 0

-- 0 clamped to the limits, in each word
abbrev pub zeros : Option DataType → List ℤ
zeros found = replicate (words_of found) (clamped (limits_of found) (pos 0))

abbrev pub policy_kind : SwImplPolicy → ElemKind
policy_kind Standard = kind.Unqueued
policy_kind Queued = kind.Queued

abbrev pub kind_of : Description → Flat → Site → ElemKind
kind_of d f s = by_port s.port
  where
    by_port : Option ℕ → ElemKind
    by_port None = kind.Variable
    by_port (Some k) = option_map_or (λ e. policy_kind e.sw_impl_policy) (declared_at d f s.owner k s.item) kind.Unqueued

abbrev pub is_provided : SiteKind → Bool
is_provided (site.Element provided) = provided
is_provided _ = false

-- a required element, by how it is kept: the keys of com specs that its side uses
abbrev pub keeps_last : SiteKind → ElemKind → Bool
keeps_last (site.Element false) kind.Unqueued = true
keeps_last _ _ = false

abbrev pub keeps_queue : SiteKind → ElemKind → Bool
keeps_queue (site.Element false) kind.Queued = true
keeps_queue _ _ = false

-- A value has at most 16 words: of more there would be none. (The rules on types and initial values allow no more.)
abbrev pub held : List ℤ → List ℤ
held words = if nat_le (length words) 16 then words else []

-- The initial words: of a variable and of a required unqueued element those that are given; else 0 in each word.
abbrev pub given_of : Description → Flat → Site → Option (List ℤ)
given_of d f s = by_port s.port
  where
    by_port : Option ℕ → Option (List ℤ)
    by_port None = option_and_then (λ v. v.init_value) (variable_at d f s.owner s.item)
    by_port (Some k) = if keeps_last s.kind (kind_of d f s) then option_and_then (λ c. c.init_value) (com_spec_of d f s.owner k s.item) else None

abbrev pub init_of : Description → Flat → Site → List ℤ
init_of d f s = held (unwrap_or (given_of d f s) (zeros (type_of d f s)))

abbrev pub never_received_of : Description → Flat → Site → Bool
never_received_of d f s = by_port s.port
  where
    by_port : Option ℕ → Bool
    by_port None = false
    by_port (Some k) = if keeps_last s.kind (kind_of d f s) then option_map_or (λ c. c.handle_never_received) (com_spec_of d f s.owner k s.item) false else false

abbrev pub queue_of : Description → Flat → Site → ℕ
queue_of d f s = by_port s.port
  where
    by_port : Option ℕ → ℕ
    by_port None = 1
    by_port (Some k) = if keeps_queue s.kind (kind_of d f s) then queue_length_of d f s.owner k s.item else 1

-- an element, in a group of this number
abbrev pub element_of : Description → Flat → ℕ → Site → Elem
element_of d f group s = record {
  instance = s.owner;
  name = site_name d f s;
  kind = kind_of d f s;
  provided = is_provided s.kind;
  joined = option_map_or (is_joined f.joins) (end_of s) false;
  group = group;
  limits = limits_of (type_of d f s);
  words = words_of (type_of d f s);
  init = init_of d f s;
  never_received = never_received_of d f s;
  queue_length = queue_of d f s;
}

-- the least number in the group of each element
abbrev pub leaders : Description → Flat → List ℕ
leaders d f = map (leader_of f.joins (keys_of (elements_of d f))) (elements_of d f)

abbrev pub group_of : Description → Flat → Site → ℕ
group_of d f s = group_number (leaders d f) (leader_of f.joins (keys_of (elements_of d f)) s)

abbrev pub elements : Description → Flat → List Elem
elements d f = map (λ s. element_of d f (group_of d f s) s) (elements_of d f)
