-- Data elements and variables of the plan, by the numbers of their sites.
use Rattle.std.proofs.Common.{◌≡◌, ℕ, Bool, false, List, map, length, Option, Some, None, option_map, option_and_then, refl, sym, ap, ◌∙◌, slice_get}
use Rattle.bus_semantics.specs.Common.{option_map_or, slice_get_within}
use Rattle.plan_definitions.specs.Common.{DataType, DataElement, Interface, SwImplPolicy, Component, Port, PortKind, Variable as DeclaredVariable, Description, Flat, Elem, elem_seen}
use Rattle.plan_definitions.specs.Common.{declared_at, type_of, limits_of, words_of, policy_kind, kind_of, element_of, group_of, elements, element_in, is_element, kind_at, count_at}
use Rattle.plan_definitions.specs.Common.{shape_at, provides_at, site, port_of, element_number, elements_of}
use Rattle.bus_laws.specs.Common.{ElemKind, ElemPlan}
use Rattle.bus_semantics.specs.declared.plan.ElemKind.TheVariants as elem
use Rattle.plan_definitions.specs.declared.item.Item.TheVariants.{Data}
use Rattle.plan_definitions.specs.declared.site.Site.{Site}
use Rattle.plan_definitions.specs.declared.site.SiteKind.TheVariants.{Element, Variable}
use Rattle.sound_plans.proofs.Places.{mapped, map_at}
use Rattle.sound_plans.proofs.Parts.{Home, home_component}
use Rattle.sound_plans.proofs.SiteNumbers.{ports_at_home, site_there, variable_there, numbered_kind, place_of}
use Rattle.sound_plans.proofs.Items.{ItemAt, DataIn, data_item}

module _ (d : Description) (f : Flat) (es : List ElemPlan) (seen : map elem_seen es ≡ elements d f) where
  -- an element of the plan, as its site says
  pub record ElemAt (number : ℕ) (s : Site) (kind : ElemKind) (provided : Bool) (found : Option DataType) : Type 0 where
    pub elem : ElemPlan
    pub there : slice_get es number ≡ Some elem
    pub owner : elem.instance ≡ s.owner
    pub kept : elem.kind ≡ kind
    pub side : elem.provided ≡ provided
    pub limits : elem.limits ≡ limits_of found
    pub words : elem.words ≡ words_of found

  elem_at : (number : ℕ) (s : Site) → slice_get (elements_of d f) number ≡ Some s → ElemAt number s (kind_of d f s) (Rattle.plan_definitions.specs.Elements.is_provided s.kind) (type_of d f s)
  elem_at number s at =
      let there : slice_get (map elem_seen es) number ≡ Some (element_of d f (group_of d f s) s) =
      ap (λ l. slice_get l number) seen ∙ mapped (λ s. element_of d f (group_of d f s) s) (elements_of d f) number s at in
      let x = map_at elem_seen es number (element_of d f (group_of d f s) s) there in
      record {
        elem = x.item;
        there = x.there;
        owner = ap (λ (y : Elem). y.instance) (sym x.is);
        kept = ap (λ (y : Elem). y.kind) (sym x.is);
        side = ap (λ (y : Elem). y.provided) (sym x.is);
        limits = ap (λ (y : Elem). y.limits) (sym x.is);
        words = ap (λ (y : Elem). y.words) (sym x.is);
      }

  seen_with : (number : ℕ) (s : Site) (kind other : ElemKind) (provided : Bool) (found same : Option DataType) → kind ≡ other → found ≡ same → ElemAt number s kind provided found → ElemAt number s other provided same
  seen_with number s kind other provided found same k t x = record { elem = x.elem; there = x.there; owner = x.owner; kept = x.kept ∙ k; side = x.side; limits = x.limits ∙ ap limits_of t; words = x.words ∙ ap words_of t }

  module _ (i : ℕ) (c : Component) (home : Home d f i c) where
    -- a data element of a port
    module _ (k n : ℕ) (side : PortKind) (policy : SwImplPolicy) (x : ItemAt d.types c.ports k n side (Data policy)) where
      pub data_in : DataIn x.interface.kind n policy
      data_in = data_item d.types x.interface.kind n policy x.is

      here : port_of d f (Some i) k ≡ Some x.port
      here = ap (λ ps. slice_get ps k) (ports_at_home d f i c home) ∙ x.there

      shape : shape_at d.types (Some i) x.port ≡ Some (Element (provides_at (Some i) side), length data_in.all)
      shape = ap (option_map (λ (z : Interface). (kind_at (Some i) x.port.kind z.kind, count_at (Some i) x.port.kind z.kind))) x.has ∙ (λ q. Some (kind_at (Some i) (x.kind q) (data_in.is q), count_at (Some i) (x.kind q) (data_in.is q)))

      declared : declared_at d f (Some i) k n ≡ Some data_in.element
      declared = ap (λ o. option_and_then (λ z. element_in z n) (option_map (λ (z : Interface). z.kind) (option_and_then (λ (q : Port). slice_get d.types.interfaces q.interface) o))) here
          ∙ ap (λ o. option_and_then (λ z. element_in z n) (option_map (λ (z : Interface). z.kind) o)) x.has ∙ ap (λ z. element_in z n) data_in.is ∙ data_in.there

      pub data_site : slice_get (elements_of d f) (element_number d f i (Some k) n) ≡ Some (site (Some i) (Some k) n (Element (provides_at (Some i) side)))
      data_site = numbered_kind d f is_element (place_of d f (Some i, Some k, n)) (site (Some i) (Some k) n (Element (provides_at (Some i) side)))
          (site_there d f (Some i) k x.port (Element (provides_at (Some i) side)) (length data_in.all) n here shape (slice_get_within data_in.all n data_in.element data_in.there)) refl

      pub data_elem : ElemAt (element_number d f i (Some k) n) (site (Some i) (Some k) n (Element (provides_at (Some i) side))) (policy_kind policy) (provides_at (Some i) side) (slice_get d.types.data_types data_in.element.of_type)
      data_elem = seen_with (element_number d f i (Some k) n) (site (Some i) (Some k) n (Element (provides_at (Some i) side))) (kind_of d f (site (Some i) (Some k) n (Element (provides_at (Some i) side)))) (policy_kind policy) (provides_at (Some i) side)
          (type_of d f (site (Some i) (Some k) n (Element (provides_at (Some i) side)))) (slice_get d.types.data_types data_in.element.of_type)
          (ap (λ o. option_map_or (λ (e : DataElement). policy_kind e.sw_impl_policy) o elem.Unqueued) declared ∙ ap policy_kind data_in.kept)
          (ap (option_and_then (λ (e : DataElement). slice_get d.types.data_types e.of_type)) declared)
          (elem_at (element_number d f i (Some k) n) (site (Some i) (Some k) n (Element (provides_at (Some i) side))) data_site)

    -- a variable
    pub variable_elem : (n : ℕ) (v : DeclaredVariable) → slice_get c.behavior.variables n ≡ Some v → ElemAt (element_number d f i None n) (site (Some i) None n Variable) elem.Variable false (slice_get d.types.data_types v.of_type)
    variable_elem n v at = seen_with (element_number d f i None n) (site (Some i) None n Variable) elem.Variable elem.Variable false (type_of d f (site (Some i) None n Variable)) (slice_get d.types.data_types v.of_type) refl
        (ap (option_and_then (λ (v : DeclaredVariable). slice_get d.types.data_types v.of_type)) (ap (option_and_then (λ (x : Component). slice_get x.behavior.variables n)) (home_component d f i c home) ∙ at))
        (elem_at (element_number d f i None n) (site (Some i) None n Variable)
        (numbered_kind d f is_element (place_of d f (Some i, None, n)) (site (Some i) None n Variable) (variable_there d f i c home n (slice_get_within c.behavior.variables n v at)) refl))
