-- Joined ends: each is a port of its owner, on its side; who is provided by an instance, and keeps arguments and modes.
use Rattle.std.proofs.Common.{◌≡◌, suc, List, [], ◌∷◌, Bool, true, false, cond, Option, Some, None, option_map, option_and_then, inl, inr, refl, sym, subst, ◌∙◌}
use Rattle.bus_semantics.specs.Common.{find, same_Some}
use Rattle.plan_definitions.specs.Common.{Port, PortKind, Provided, Required, Description, End, Flat, Join, interface_at, ItemsJoin, Stand, stand_in, root_client, same_end, provider_of}
use Rattle.plan_definitions.specs.Common.{provides_at, port_of, IsWhole}
use Rattle.plan_definitions.specs.JoinRefusals as joins
use Rattle.plan_definitions.specs.declared.join_rule.JoinRule.TheVariants.{Services, Groups}
use Rattle.bus_laws.specs.Common.{BusPlan, Mapping}
use Rattle.plan_definitions.proofs.Keys.{same_end_is}
use Rattle.plan_definitions.proofs.Firsts.{map_none, or_none}
use Rattle.sound_plans.proofs.Places.{not_some}
use Rattle.plan_definitions.proofs.Lists.{at}
use Rattle.sound_plans.proofs.Members.{Has}
use Rattle.sound_plans.proofs.PassingOperations.{Offers, offered}
use Rattle.plan_definitions.proofs.Stands.{port_below, interface_there, of_root, of_instance, port_there}
use Rattle.plan_definitions.proofs.Chains.{Faces, are_joined}
use Rattle.sound_plans.proofs.Fair.{all_compatible}

-- ---- ends

pub record FoundBy (X : Type 0) (test : X → Bool) (xs : List X) (x : X) : Type 0 where
  pub has : Has X xs x
  pub passes : test x ≡ true

pub found_by : {X : Type 0} (test : X → Bool) (xs : List X) (x : X) → find test xs ≡ Some x → FoundBy X test xs x
found_by test [] x e = not_some x e
found_by {X} test (y ∷ xs) x e = by (λ r. found_by test xs x r) (test y) refl e
  where
    by : (find test xs ≡ Some x → FoundBy X test xs x) → (b : Bool) → test y ≡ b → cond b (Some y) (find test xs) ≡ Some x → FoundBy X test (y ∷ xs) x
    by rest true is e = record { has = record { place = 0; there = e }; passes = subst (λ z. test z ≡ true) (same_Some y x e) is }
    by rest false is e = let deeper = rest e in record { has = record { place = suc deeper.has.place; there = deeper.has.there }; passes = deeper.passes }

-- the join by which a required end is provided
pub record ProvidedBy (joins : List Join) (e q : End) : Type 0 where
  pub join : Join
  pub has : Has Join joins join
  pub required : join.required ≡ e
  pub provided : join.provided ≡ q

pub provided_by : (js : List Join) (e q : End) → provider_of js e ≡ Some q → ProvidedBy js e q
provided_by js e q is = by (find (λ (j : Join). same_end j.required e) js) refl is
  where
    by : (o : Option Join) → find (λ (j : Join). same_end j.required e) js ≡ o → option_map (λ (j : Join). j.provided) o ≡ Some q → ProvidedBy js e q
    by None found is = not_some q is
    by (Some j) found is = let x = found_by (λ (j : Join). same_end j.required e) js j found in record { join = j; has = x.has; required = same_end_is j.required e x.passes; provided = same_Some j.provided q is }

module _ (d : Description) (f : Flat) (p : BusPlan) (m : Mapping) (w : IsWhole d f p m) where
  -- ---- the rules on joins

  port_rules : joins.port_refusal d ≡ None
  port_rules = (or_none (joins.port_refusal d) (joins.item_refusal d f) w.may_join).0

  pub no_root_client : root_client d ≡ None
  no_root_client = map_none (λ k. (13, joins.in_composition d.root (Rattle.std.specs.Prelude.codes "/ports/") k)) (root_client d) (or_none (joins.of_connectors d) (joins.of_root_ports d) port_rules).1

  pub services_kept : Rattle.plan_definitions.specs.JoinedItems.first_broken Services d f ≡ None
  services_kept = map_none (λ e. (joins.number_of Services, Rattle.plan_definitions.specs.Names.end_text d f e)) (Rattle.plan_definitions.specs.JoinedItems.first_broken Services d f)
      (or_none (joins.of_items Services d f) (joins.of_items Groups d f) (or_none (joins.port_refusal d) (joins.item_refusal d f) w.may_join).1).0

  -- ---- joints

  pub record EndAt (e : End) (provides : Bool) : Type 0 where
    pub port : Port
    pub there : port_of d f e.instance e.port ≡ Some port
    pub side : provides_at e.instance port.kind ≡ provides

  pub record Joint (j : Join) : Type 0 where
    pub provided : EndAt j.provided true
    pub required : EndAt j.required false
    pub passes : Offers d.types (interface_at d provided.port.interface) (interface_at d required.port.interface)
    pub items : ItemsJoin (interface_at d provided.port.interface) (interface_at d required.port.interface) j.provided.element j.required.element

  record PortIs (o : Option Port) (k : PortKind) : Type 0 where
    port : Port
    is : o ≡ Some port
    kind : port.kind ≡ k

  port_is : (o : Option Port) (k : PortKind) → option_map (λ (x : Port). x.kind) o ≡ Some k → PortIs o k
  port_is None k e = not_some k e
  port_is (Some x) k e = record { port = x; is = refl; kind = same_Some x.kind k e }

  provided_end : (e : End) (s : Stand) → stand_in d e.instance e.port ≡ Some s → Faces d s Provided Required → EndAt e true
  provided_end e s is (inl x) =
      let o = of_instance d e.instance e.port s is x.0 x.1 x.2 in
      let y = port_is (port_below d s) Provided x.3 in
      record { port = y.port; there = port_there d f w.is_flat e.instance e.port s is ∙ y.is; side = λ j. provides_at (o.1 j) (y.kind j) }
  provided_end e s is (inr x) =
      let o = of_root d e.instance e.port s is x.0 in
      let y = port_is (port_below d s) Required x.1 in
      record { port = y.port; there = port_there d f w.is_flat e.instance e.port s is ∙ y.is; side = λ j. provides_at (o j) (y.kind j) }

  required_end : (e : End) (s : Stand) → stand_in d e.instance e.port ≡ Some s → Faces d s Required Provided → EndAt e false
  required_end e s is (inl x) =
      let o = of_instance d e.instance e.port s is x.0 x.1 x.2 in
      let y = port_is (port_below d s) Required x.3 in
      record { port = y.port; there = port_there d f w.is_flat e.instance e.port s is ∙ y.is; side = λ j. provides_at (o.1 j) (y.kind j) }
  required_end e s is (inr x) =
      let o = of_root d e.instance e.port s is x.0 in
      let y = port_is (port_below d s) Provided x.1 in
      record { port = y.port; there = port_there d f w.is_flat e.instance e.port s is ∙ y.is; side = λ j. provides_at (o j) (y.kind j) }

  pub joint : (j : Join) → Has Join f.joins j → Joint j
  joint j h =
      let x = (w.is_flat.joined j).0 (at f.joins h.place j h.there) in
      let y = are_joined d (Offers d.types) (offered d.types) (all_compatible d f w.may_join) x.provided x.required x.stands in
      let a = provided_end j.provided x.provided x.is_provided y.provides in
      let b = required_end j.required x.required x.is_required y.requires in
      let s : port_below d x.provided ≡ Some a.port = sym (port_there d f w.is_flat j.provided.instance j.provided.port x.provided x.is_provided) ∙ a.there in
      let t : port_below d x.required ≡ Some b.port = sym (port_there d f w.is_flat j.required.instance j.required.port x.required x.is_required) ∙ b.there in
      let passes = y.passes in
      record {
        provided = a;
        required = b;
        passes = subst (λ o. Offers d.types (option_and_then (λ (p : Port). interface_at d p.interface) o) (interface_at d b.port.interface)) s
            (subst (λ o. Offers d.types (option_and_then (λ (p : Port). interface_at d p.interface) (port_below d x.provided)) (option_and_then (λ (p : Port). interface_at d p.interface) o)) t passes);
        items = subst (λ o. ItemsJoin o (interface_at d b.port.interface) j.provided.element j.required.element) (interface_there d x.provided a.port s)
            (subst (λ o. ItemsJoin (Rattle.description_types.specs.Joined.interface_below d x.provided) o j.provided.element j.required.element) (interface_there d x.required b.port t) x.items);
      }
