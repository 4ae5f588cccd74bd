-- What is named alike is the same.
use Rattle.std.proofs.Common.{◌≡◌, ℕ, ◌<◌, List, [], ◌∷◌, map, length, slice_get, true, ◌&&◌, nat_eq, Option, Some, None, option_map, ◌⊎◌, inl, inr, refl, sym, ap, subst, ◌∙◌, arith, true≢false}
use Rattle.bus_semantics.specs.Common.{list_all, and_parts, slice_get-map, option_map_or, is_name, is_pair_name, parts, rank}
use Rattle.plan_definitions.specs.Common.{DataElement, Interface, InterfaceKind, SenderReceiver, ClientServer, ModeSwitch, Operation, TypeTable, Port, Variable, Description, Flat}
use Rattle.plan_definitions.specs.Common.{component_of, kind_at, item_name, item_text, ports_of, site_name, plan_of, seen, item_count, kind_fits, names_fit, IsWellFormed}
use Rattle.bus_semantics.specs.declared.plan.BusPlan.{BusPlan}
use Rattle.bus_semantics.specs.Plan as bus
use Rattle.plan_definitions.specs.declared.site.Site.{Site}
use Rattle.plan_definitions.proofs.Lists.{there as get_some}
use Rattle.sound_plans.proofs.Apart.{distinct_apart, one_place}
use Rattle.sound_plans.proofs.ItemNames.{item_named, item_site_name, port_named, site_text_fits, text_is, variable_fits, variable_site_name}
use Rattle.sound_plans.proofs.Keeping.{Names, names_from, of_component, of_interface, of_ports}
use Rattle.sound_plans.proofs.Owners.{Owns}
use Rattle.sound_plans.proofs.Seen.{names_count}
use Rattle.sound_plans.proofs.SiteKinds.{item_below}
use Rattle.sound_plans.proofs.Sites.{ComponentAt, ItemAt, PortAt, VariableAt, component_is}
use Rattle.sound_plans.proofs.Texts.{name_free, pair_parts, parts_whole}

-- ---- positions by names

module _ {X : Type 0} (name : X → List ℕ) where
  pub place_of : (xs : List X) (i j : ℕ) (x y : X) → Names (map name xs) → slice_get xs i ≡ Some x → slice_get xs j ≡ Some y → name x ≡ name y → i ≡ j
  place_of xs i j x y names at_i at_j same =
      one_place (map name xs) i j (name x) (distinct_apart (map name xs) names.once)
      (slice_get-map name xs i ∙ ap (option_map name) at_i) (slice_get-map name xs j ∙ ap (option_map name) at_j ∙ ap (λ n. Some n) (sym same))

  pub name_place : (xs : List X) (i j : ℕ) → Names (map name xs) → i < length xs → j < length xs → option_map_or name (slice_get xs i) [] ≡ option_map_or name (slice_get xs j) [] → i ≡ j
  name_place xs i j names below_i below_j same =
      let x = get_some xs i below_i in
      let y = get_some xs j below_j in
      place_of xs i j x.0 y.0 names x.1 y.1 (sym (ap (λ o. option_map_or name o []) x.1) ∙ same ∙ ap (λ o. option_map_or name o []) y.1)

same_item : (t : TypeTable) (k : InterfaceKind) (i j : ℕ) → kind_fits t k ≡ true → i < item_count k → j < item_count k → item_name k i ≡ item_name k j → i ≡ j
same_item t (SenderReceiver es) i j fits below_i below_j same =
    name_place (λ (e : DataElement). e.short_name) es i j (names_from (map (λ (e : DataElement). e.short_name) es) (and_parts (names_fit (map (λ (e : DataElement). e.short_name) es)) _ fits).0) below_i below_j same
same_item t (ClientServer os) i j fits below_i below_j same =
    name_place (λ (o : Operation). o.short_name) os i j (names_from (map (λ (o : Operation). o.short_name) os) (and_parts (names_fit (map (λ (o : Operation). o.short_name) os)) _ fits).0) below_i below_j same
same_item t (ModeSwitch e) i j fits below_i below_j same = omega arith

-- a name is no pair of names
pub pair_no_name : (t : List ℕ) → is_name t ≡ true → is_pair_name t ≡ true → ⊥
pair_no_name t name pair =
    let whole = parts_whole 46 t (name_free 46 refl t name) in
    true≢false (sym pair ∙ (λ j. nat_eq (length (whole j)) 2 && list_all is_name (whole j)))

module _ (d : Description) (f : Flat) (whole : IsWellFormed d) where
  -- ports of one owner
  pub same_port : (owner : Option ℕ) (k l : ℕ) (x : PortAt d f owner k) (y : PortAt d f owner l) → x.port.short_name ≡ y.port.short_name → (k ≡ l) × (x.port ≡ y.port) × (x.interface ≡ y.interface)
  same_port owner k l x y same =
      let place = place_of (λ (p : Port). p.short_name) (ports_of d f owner) k l x.port y.port (of_ports d whole f owner).names x.at_port y.at_port same in
      let ports : Some x.port ≡ Some y.port = sym x.at_port ∙ ap (slice_get (ports_of d f owner)) place ∙ y.at_port in
      let port : x.port ≡ y.port = cc in
      let interfaces : Some x.interface ≡ Some y.interface = sym x.at_interface ∙ ap (λ (p : Port). slice_get d.types.interfaces p.interface) port ∙ y.at_interface in
      (place, port, cc)

  abbrev pub at_owner : (a b : Option ℕ) (k : ℕ) → a ≡ b → PortAt d f b k → PortAt d f a k
  at_owner a b k same y = record { port = y.port; interface = y.interface; at_port = ap (λ o. slice_get (ports_of d f o) k) same ∙ y.at_port; at_interface = y.at_interface }

  -- items of one owner
  pub same_text : (s t : Site) (x : ItemAt d f s) (y : ItemAt d f t) → s.owner ≡ t.owner → item_text d f s.owner x.k s.item ≡ item_text d f t.owner y.k t.item → s ≡ t
  same_text s t x y owners same =
      let below_x = item_below s.owner x.here.port.kind x.here.interface.kind s.item x.below in
      let below_y = item_below t.owner y.here.port.kind y.here.interface.kind t.item y.below in
      let parts_x = pair_parts x.here.port.short_name (item_name x.here.interface.kind s.item) (port_named d f whole s.owner x.k x.here) (item_named d f whole s.owner x.k s.item x.here below_x) in
      let parts_y = pair_parts y.here.port.short_name (item_name y.here.interface.kind t.item) (port_named d f whole t.owner y.k y.here) (item_named d f whole t.owner y.k t.item y.here below_y) in
      let both : x.here.port.short_name ∷ (item_name x.here.interface.kind s.item ∷ []) ≡ y.here.port.short_name ∷ (item_name y.here.interface.kind t.item ∷ []) =
      sym parts_x ∙ ap (parts 46) (sym (text_is d f s.owner x.k s.item x.here) ∙ same ∙ text_is d f t.owner y.k t.item y.here) ∙ parts_y in
      let port_names : x.here.port.short_name ≡ y.here.port.short_name = cc in
      let item_names : item_name x.here.interface.kind s.item ≡ item_name y.here.interface.kind t.item = cc in
      let p = same_port s.owner x.k y.k x.here (at_owner s.owner t.owner y.k owners y.here) port_names in
      let kinds : x.here.interface.kind ≡ y.here.interface.kind = ap (λ (i : Interface). i.kind) p.2 in
      let items : s.item ≡ t.item =
      same_item d.types x.here.interface.kind s.item t.item (of_interface d whole x.here.port.interface x.here.interface x.here.at_interface) below_x
      (subst (λ k. t.item < item_count k) (sym kinds) below_y) (item_names ∙ ap (λ k. item_name k t.item) (sym kinds)) in
      let ports : s.port ≡ t.port = x.is_port ∙ ap (λ k. Some k) p.0 ∙ sym y.is_port in
      let site_kinds : s.kind ≡ t.kind = x.is_kind ∙ (λ j. kind_at (owners j) (p.1 j).kind (kinds j)) ∙ sym y.is_kind in
      (λ j. record { owner = owners j; port = ports j; item = items j; kind = site_kinds j })

  same_component : (i j : ℕ) (x : ComponentAt d f i) (y : ComponentAt d f j) → i ≡ j → x.component ≡ y.component
  same_component i j x y same =
      let both : Some x.component ≡ Some y.component = sym (component_is d f i x) ∙ ap (component_of d f) same ∙ component_is d f j y in
      cc

  -- variables of one owner
  pub same_variable : (s t : Site) (x : VariableAt d f s) (y : VariableAt d f t) → s.owner ≡ t.owner → site_name d f s ≡ site_name d f t → s ≡ t
  same_variable s t x y owners same =
      let numbers : Some x.i ≡ Some y.i = sym x.is_owner ∙ owners ∙ y.is_owner in
      let number : x.i ≡ y.i = cc in
      let component = same_component x.i y.i x.here y.here number in
      let names = (of_component d whole x.here.instance.component x.here.component x.here.at_component).variable_names in
      let items : s.item ≡ t.item =
      name_place (λ (v : Variable). v.short_name) x.here.component.behavior.variables s.item t.item names x.below
      (subst (λ c. t.item < length c.behavior.variables) (sym component) y.below)
      (sym (variable_site_name d f s x) ∙ same ∙ variable_site_name d f t y ∙ ap (λ c. option_map_or (λ (v : Variable). v.short_name) (slice_get c.behavior.variables t.item) []) (sym component)) in
      let ports : s.port ≡ t.port = x.no_port ∙ sym y.no_port in
      let site_kinds : s.kind ≡ t.kind = x.is_kind ∙ sym y.is_kind in
      (λ j. record { owner = owners j; port = ports j; item = items j; kind = site_kinds j })

  -- sites of one owner
  pub same_site : (s t : Site) → ItemAt d f s ⊎ VariableAt d f s → ItemAt d f t ⊎ VariableAt d f t → s.owner ≡ t.owner → site_name d f s ≡ site_name d f t → s ≡ t
  same_site s t (inl x) (inl y) owners same = same_text s t x y owners (sym (item_site_name d f s x) ∙ same ∙ item_site_name d f t y)
  same_site s t (inl x) (inr y) owners same = absurd (pair_no_name (site_name d f t) (variable_fits d f whole t y) (ap is_pair_name (sym same ∙ item_site_name d f s x) ∙ site_text_fits d f whole s x))
  same_site s t (inr x) (inl y) owners same = absurd (pair_no_name (site_name d f s) (variable_fits d f whole s x) (ap is_pair_name (same ∙ item_site_name d f t y) ∙ site_text_fits d f whole t y))
  same_site s t (inr x) (inr y) owners same = same_variable s t x y owners same

  -- owners by rank
  module _ (p : BusPlan) (is : seen p ≡ plan_of d f) where
    pub same_rank : (a b : Option ℕ) → Owns f a → Owns f b → rank (bus.plan_of p) a ≡ rank (bus.plan_of p) b → a ≡ b
    same_rank None None own_a own_b same = refl
    same_rank None (Some j) own_a own_b same = let count = names_count d f p is in absurd (omega arith)
    same_rank (Some i) None own_a own_b same = let count = names_count d f p is in absurd (omega arith)
    same_rank (Some i) (Some j) own_a own_b same = ap (λ i. Some i) same
