-- The links of the ports of the root, by the delegations of the root.
use Rattle.std.proofs.Common.{◌≡◌, ℕ, suc, List, [], ◌∷◌, Bool, true, false, ◌&&◌, ◌==◌, cond, nat_eq, Option, Some, None, inl, refl, sym, ap, subst, ◌∙◌}
use Rattle.std.proofs.lemmas.Bool.{eqb-true}
use Rattle.std.specs.List.{flat_map}
use Rattle.description_types.specs.declared.component.PortKind.{PortKind}
use Rattle.description_types.specs.declared.component.PortKind.TheVariants.{Provided, Required}
use Rattle.description_types.specs.declared.description.Connector.{Connector}
use Rattle.description_types.specs.declared.description.Connector.TheVariants.{Assembly, Delegation}
use Rattle.description_types.specs.declared.description.Description.{Description}
use Rattle.description_types.specs.declared.description.InnerPort.{InnerPort}
use Rattle.description_types.specs.declared.description.PrototypeType.TheVariants.{Composition}
use Rattle.indexmap.specs.IndexSet.{insert_all}
use Rattle.composition_tables.specs.declared.links.Link.{Link}
use Rattle.composition_tables.specs.declared.tree.PortEnd.{PortEnd}
use Rattle.composition_tables.specs.Ends.{delegated, ends, inner_ends, inner_ports}
use Rattle.composition_tables.proofs.Growth.{grown_same}
use Rattle.composition_tables.proofs.Members.{flat, numbers_have, unflat, unpick}
use Rattle.composition_flatten.specs.Links.{IsOuterLink, outer_link}
use Rattle.composition_flatten.specs.Outers.{outers_of}
use Rattle.end_search.specs.Gates.{outer_ends}
use Rattle.description_types.specs.Connectors.{connectors_of, interface_of, kind_of, lets_join}
use Rattle.description_types.specs.Growing.{AnyOf, Grown}
use Rattle.description_types.specs.Members.{Among}

module _ (d : Description) where
  -- a connector that delegates a port has it as its outer port
  outer_is : (c port : ℕ) (x : Connector) (inner : InnerPort) → delegated d c port x ≡ Some inner → Among port (outers_of x)
  outer_is c port (Assembly p r) inner is = cc
  outer_is c port (Delegation i o) inner is = by (o == port) refl
    where
      by : (b : Bool) → (o == port) ≡ b → Among port (o ∷ [])
      by true same = inl (sym (eqb-true o port same))
      by false other = let none : None ≡ Some inner = sym (ap (λ b. cond (b && lets_join d c (Delegation i o)) (Some i) None) other) ∙ is in cc

  -- links of the environment lead to an inner end
  inner_end : (kind : Option PortKind) (own inner : List PortEnd) (x : Link) → outer_link kind d own inner x → (e : PortEnd) × Among e inner
  inner_end None own inner x h = absurd h
  inner_end (Some Required) own inner x h = let r = h.2 in (r.0, r.1)
  inner_end (Some Provided) own inner x h = (h.0, h.1)

  end_delegated : (n port : ℕ) (e : PortEnd) → Among e (ends d (suc n) (Composition d.root) 0 port) → Among port (flat_map outers_of (connectors_of d d.root))
  end_delegated n port e h =
      let inner = unflat (inner_ends d n (ends d n) d.root 0) (inner_ports d d.root port) e h in
      let connector = unpick (delegated d d.root port) (connectors_of d d.root) inner.0 inner.1 in
      flat outers_of connector.0 (connectors_of d d.root) port connector.1 (outer_is d.root port connector.0 inner.0 connector.2)

  outer_delegated : (port : ℕ) (x : Link) → IsOuterLink d port x → Among port (flat_map outers_of (connectors_of d d.root))
  outer_delegated port x h =
      let e = inner_end (kind_of d (Composition d.root) port) (outer_ends (interface_of d (Composition d.root) port) port) (ends d 8 (Composition d.root) 0 port) x h in
      end_delegated 7 port e.0 e.1

  -- the links of the ports that are delegated are those of all ports
  pub outer_all : (connectors : List Connector) (ports slice : List ℕ) (before after : List Link) (is_full : Bool) → connectors ≡ connectors_of d d.root → ports ≡ insert_all nat_eq [] (flat_map outers_of connectors) → slice ≡ ports
      → Grown (AnyOf (IsOuterLink d) slice) before after is_full → Grown (λ x. (port : ℕ) × IsOuterLink d port x) before after is_full
  outer_all connectors ports slice before after is_full are found same g =
      grown_same (AnyOf (IsOuterLink d) slice) (λ x. (port : ℕ) × IsOuterLink d port x) before after is_full
      (λ x a. (a.0, a.2))
      (λ x o. (o.0, subst (Among o.0) (sym (same ∙ found ∙ ap (λ l. insert_all nat_eq [] (flat_map outers_of l)) are)) (numbers_have (flat_map outers_of (connectors_of d d.root)) [] o.0 (outer_delegated o.0 x o.1)), o.1)) g
