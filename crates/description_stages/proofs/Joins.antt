-- The rules on what is joined, where programs are held elsewhere.
use Rattle.std.proofs.Common.{◌≡◌, ℕ, List, [], ◌++◌, map, codes, slice_get, false, if◌then◌else◌, Option, Some, None, option_map, option_and_then, refl, ap}
use Rattle.std.specs.Option.{option_map_or, option_or}
use Rattle.plan_definitions.specs.Common.{Component, Port, Composition, Connector, Description, InnerPort, PrototypeType, End, Flat, both, delegated, incompatible, inner_interface}
use Rattle.plan_definitions.specs.Common.{joins_compatible, sides, first_of, are_compatible, first_broken, in_instances, in_ports, end_text, owner_name, owner_ports, in_composition}
use Rattle.plan_definitions.specs.Common.{of_connectors, of_items, of_root_ports, refusal}
use Rattle.description_types.specs.declared.description.Connector.TheVariants as connector
use Rattle.description_types.specs.declared.description.PrototypeType.TheVariants as of_type
use Rattle.component_model.specs.Programs.{component_tree}
use Rattle.plan_definitions.specs.declared.join_rule.JoinRule.{JoinRule}
use Rattle.plan_definitions.specs.declared.join_rule.JoinRule.TheVariants.{Services, Groups}
use Rattle.plan_definitions.specs.Connectors.{ports_of}
use Rattle.plan_definitions.specs.Names.{item_text}
use Rattle.plan_definitions.specs.JoinRefusals.{number_of}
use Rattle.description_stages.proofs.Held.{at_place, held_as, look}

module _ (d : Description) (cs : List Component) (same : map component_tree d.components ≡ map component_tree cs) where
  ports_of-again : (t : PrototypeType) → ports_of d t ≡ ports_of (held_as d cs) t
  ports_of-again (of_type.Component k) = look component_tree (λ c. c.ports) (λ c. c.ports) [] (λ a b e. ap (λ t. t.ports) e) (slice_get d.components k) (slice_get cs k) (at_place component_tree d.components cs same k)
  ports_of-again (of_type.Composition k) = refl

  inner_interface-again : (c : Composition) (inner : InnerPort) → inner_interface d c inner ≡ inner_interface (held_as d cs) c inner
  inner_interface-again c inner = λ i. option_map (λ port. port.interface) (option_and_then (λ p. slice_get (ports_of-again p.of_type i) inner.port) (slice_get c.prototypes inner.prototype))

  sides-again : (c : Composition) (k : Connector) → sides d c k ≡ sides (held_as d cs) c k
  sides-again c (connector.Assembly p r) = λ i. both (inner_interface-again c p i) (inner_interface-again c r i)
  sides-again c (connector.Delegation inner outer) = λ i. option_and_then (λ port. delegated (inner_interface-again c inner i) port.kind port.interface) (slice_get c.ports outer)

  joins_compatible-again : (c : Composition) (k : Connector) → joins_compatible d c k ≡ joins_compatible (held_as d cs) c k
  joins_compatible-again c k = ap (λ s. option_map_or (λ x. are_compatible d.types x.0 x.1) s false) (sides-again c k)

  incompatible-again : incompatible d ≡ incompatible (held_as d cs)
  incompatible-again = λ i. first_of (λ n c. option_map (λ m. (n, m)) (first_of (λ m k. if joins_compatible-again c k i then None else Some m) 0 c.connectors)) 0 d.compositions

  in_instances-again : (rule : JoinRule) (f : Flat) → in_instances rule d f ≡ in_instances rule (held_as d cs) f
  in_instances-again rule f = λ i. first_of (λ n x. in_ports rule d f (Some n) (ports_of-again (of_type.Component x.component) i)) 0 f.instances

  first_broken-again : (rule : JoinRule) (f : Flat) → first_broken rule d f ≡ first_broken rule (held_as d cs) f
  first_broken-again rule f = ap (λ o. option_or o (in_ports rule d f None (ports_of d (of_type.Composition d.root)))) (in_instances-again rule f)

  owner_ports-again : (f : Flat) (owner : Option ℕ) → owner_ports d f owner ≡ owner_ports (held_as d cs) f owner
  owner_ports-again f (Some n) = λ i. option_map_or (λ x. ports_of-again (of_type.Component x.component) i) (slice_get f.instances n) []
  owner_ports-again f None = refl

  item_text-again : (port : Option Port) (n : ℕ) → item_text d port n ≡ item_text (held_as d cs) port n
  item_text-again None n = refl
  item_text-again (Some port) n = refl

  end_text-again : (f : Flat) (e : End) → end_text d f e ≡ end_text (held_as d cs) f e
  end_text-again f e = λ i. (owner_name f e.instance ++ codes ".") ++ item_text-again (slice_get (owner_ports-again f e.instance i) e.port) e.element i

  of_items-again : (rule : JoinRule) (f : Flat) → of_items rule d f ≡ of_items rule (held_as d cs) f
  of_items-again rule f = λ i. option_map (λ e. (number_of rule, end_text-again f e i)) (first_broken-again rule f i)

  of_connectors-again : of_connectors d ≡ of_connectors (held_as d cs)
  of_connectors-again = ap (λ o. option_map (λ x. (12, in_composition x.0 (codes "/connectors/") x.1)) o) incompatible-again

  pub refusal-again : (f : Flat) → refusal d f ≡ refusal (held_as d cs) f
  refusal-again f = λ i. option_or (option_or (of_connectors-again i) (of_root_ports d)) (option_or (of_items-again Services f i) (of_items-again Groups f i))
