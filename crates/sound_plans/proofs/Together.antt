-- The data elements of one port stand side by side: a plan lists them port by port.
use Rattle.std.proofs.Common.{◌≡◌, ℕ, suc, ◌+◌, ◌<◌, List, [], ◌∷◌, ◌++◌, map, filter, length, slice_get, Bool, true, false, cond, not, ◌||◌, nat_eq, Option, Some, None, is_none, inl, inr}
use Rattle.std.proofs.Common.{refl, sym, ap, subst, ◌∙◌, arith}
use Rattle.bus_semantics.specs.Common.{and_parts, and_from, eq-eqb, false_from_ne_true, or_left, or_right, map-append, filter-append, list_any-append, slice_get_within, or-false, list_any}
use Rattle.bus_semantics.specs.Common.{option_map_or, Named, is_together, port_of, ports_together, same_named, is_variable, rank, same_numbers}
use mathlib.Core.List.{map-map}
use Rattle.plan_definitions.specs.Common.{Component, Port, Description, Flat, Instance, Among, is_element, from, positions, root_ports, site, sites, sites_at, sites_of_component}
use Rattle.plan_definitions.specs.Common.{sites_of_instance, sites_of_ports, variables_of, Elem, elem_seen, element_of, group_of, ports_of, site_name, elements_of, plan_of, seen}
use Rattle.plan_definitions.specs.Common.{IsWellFormed}
use Rattle.bus_laws.specs.Common.{BusPlan, ElemPlan}
use Rattle.bus_semantics.specs.Plan as bus
use Rattle.plan_definitions.specs.declared.site.Site.{Site}
use Rattle.plan_definitions.specs.declared.site.SiteKind.TheVariants.{Variable}
use Rattle.plan_definitions.proofs.Lists.{same_numbers_refl}
use Rattle.sound_plans.proofs.Apart.{named_is}
use Rattle.sound_plans.proofs.ItemNames.{item_site_name}
use Rattle.sound_plans.proofs.Keeping.{Names, of_ports}
use Rattle.sound_plans.proofs.Lists.{filtered, in_pieces, mapped, none_from, piece, pieces}
use Rattle.sound_plans.proofs.PortUses.{item_port}
use Rattle.sound_plans.proofs.SameNames.{place_of}
use Rattle.sound_plans.proofs.Seen.{elements_are, names_count}
use Rattle.sound_plans.proofs.Sites.{ComponentAt, ItemAt, of_instance, port_item, ports_are}
use Rattle.plan_definitions.proofs.Sites.{port_is}
use Rattle.sound_plans.proofs.Variables.{no_port_is, variable_is, variable_kind}

-- ---- lists in which equal names stand side by side

named_same : (a b : Named) → a ≡ b → same_named a b ≡ true
named_same a b e = subst (λ c. same_named a c ≡ true) e (and_from (nat_eq a.0 a.0) (same_numbers a.1 a.1) (eq-eqb a.0 a.0 refl) (same_numbers_refl a.1))

any_left : (test : Named → Bool) (xs ys : List Named) → list_any test ys ≡ false → list_any test (xs ++ ys) ≡ list_any test xs
any_left test xs ys none = list_any-append test xs ys ∙ ap (λ b. list_any test xs || b) none ∙ or-false (list_any test xs)

none_later : (n : Named) (ys : List Named) → ((y : Named) → Among y ys → n ≡ y → ⊥) → list_any (same_named n) ys ≡ false
none_later n ys differ = none_from (same_named n) ys (λ y h. false_from_ne_true (same_named n y) (λ same. differ y h (named_is n y same)))

abbrev is_next : Named → List Named → Bool
is_next n [] = false
is_next n (k ∷ ks) = same_named n k

together_append : (xs ys : List Named) → is_together xs ≡ true → is_together ys ≡ true → ((x y : Named) → Among x xs → Among y ys → x ≡ y → ⊥) → is_together (xs ++ ys) ≡ true
together_append [] ys first later differ = later
together_append (n ∷ []) ys first later differ =
    and_from (is_next n ys || not (list_any (same_named n) ys)) (is_together ys)
    (or_right (is_next n ys) (not (list_any (same_named n) ys)) (ap not (none_later n ys (λ y h. differ n y (inl refl) h)))) later
together_append (n ∷ (k ∷ xs)) ys first later differ =
    let parts = and_parts (same_named n k || not (list_any (same_named n) (k ∷ xs))) (is_together (k ∷ xs)) first in
    and_from (same_named n k || not (list_any (same_named n) ((k ∷ xs) ++ ys))) (is_together ((k ∷ xs) ++ ys))
    (ap (λ b. same_named n k || not b) (any_left (same_named n) (k ∷ xs) ys (none_later n ys (λ y h. differ n y (inl refl) h))) ∙ parts.0)
    (together_append (k ∷ xs) ys parts.1 later (λ x y in_x in_y. differ x y (inr in_x) in_y))

together_same : (name : Named) (xs : List Named) → ((x : Named) → Among x xs → x ≡ name) → is_together xs ≡ true
together_same name [] all = refl
together_same name (n ∷ []) all = refl
together_same name (n ∷ (k ∷ xs)) all =
    and_from (same_named n k || not (list_any (same_named n) (k ∷ xs))) (is_together (k ∷ xs))
    (or_left (same_named n k) (not (list_any (same_named n) (k ∷ xs))) (named_same n k (all n (inl refl) ∙ sym (all k (inr (inl refl))))))
    (together_same name (k ∷ xs) (λ x h. all x (inr h)))

-- pieces with names of their own
module _ {X : Type 0} (f : ℕ → X → List Named) where
  together_pieces : (n : ℕ) (xs : List X) → ((k : ℕ) (x : X) → slice_get xs k ≡ Some x → is_together (f (n + k) x) ≡ true)
      → ((k l : ℕ) (x y : X) (a b : Named) → slice_get xs k ≡ Some x → slice_get xs l ≡ Some y → Among a (f (n + k) x) → Among b (f (n + l) y) → a ≡ b → k ≡ l)
      → is_together (from n f xs) ≡ true
  together_pieces n [] each tells = refl
  together_pieces n (x ∷ xs) each tells =
      let start : n + 0 ≡ n = omega arith in
      together_append (f n x) (from (n + 1) f xs)
      (subst (λ m. is_together (f m x) ≡ true) start (each 0 x refl))
      (together_pieces (n + 1) xs
      (λ k y at. let e : n + suc k ≡ n + 1 + k = omega arith in subst (λ m. is_together (f m y) ≡ true) e (each (suc k) y at))
      (λ k l y z a b at_y at_z in_a in_b same.
      let e : n + 1 + k ≡ n + suc k = omega arith in
      let g : n + 1 + l ≡ n + suc l = omega arith in
      let next : suc k ≡ suc l = tells (suc k) (suc l) y z a b at_y at_z (subst (λ m. Among a (f m y)) e in_a) (subst (λ m. Among b (f m z)) g in_b) same in
      omega arith))
      (λ a b here later same.
      let p = piece f (n + 1) xs b later in
      let e : n ≡ n + 0 = omega arith in
      let g : n + 1 + p.place ≡ n + suc p.place = omega arith in
      let one : 0 ≡ suc p.place = tells 0 (suc p.place) x p.item a b refl p.at (subst (λ m. Among a (f m x)) e here) (subst (λ m. Among b (f m p.item)) g p.among) same in
      absurd (omega arith))

  all_together : (xs : List X) → ((k : ℕ) (x : X) → slice_get xs k ≡ Some x → is_together (f k x) ≡ true)
      → ((k l : ℕ) (x y : X) (a b : Named) → slice_get xs k ≡ Some x → slice_get xs l ≡ Some y → Among a (f k x) → Among b (f l y) → a ≡ b → k ≡ l)
      → is_together (from 0 f xs) ≡ true
  all_together xs each tells =
      together_pieces 0 xs
      (λ k x at. let e : k ≡ 0 + k = omega arith in subst (λ m. is_together (f m x) ≡ true) e (each k x at))
      (λ k l x y a b at_x at_y in_a in_b same.
      let e : 0 + k ≡ k = omega arith in
      let g : 0 + l ≡ l = omega arith in
      tells k l x y a b at_x at_y (subst (λ m. Among a (f m x)) e in_a) (subst (λ m. Among b (f m y)) g in_b) same)

-- what is kept of images
map_filter : {X Y : Type 0} (g : X → Y) (test : X → Bool) (of_image : Y → Bool) → ((x : X) → test x ≡ of_image (g x)) → (xs : List X) → map g (filter test xs) ≡ filter of_image (map g xs)
map_filter g test of_image same [] = refl
map_filter g test of_image same (x ∷ xs) = by (test x) (map_filter g test of_image same xs) ∙ ap (λ b. cond b (g x ∷ filter of_image (map g xs)) (filter of_image (map g xs))) (same x)
  where
    by : (b : Bool) → map g (filter test xs) ≡ filter of_image (map g xs) → map g (cond b (x ∷ filter test xs) (filter test xs)) ≡ cond b (g x ∷ filter of_image (map g xs)) (filter of_image (map g xs))
    by true rest = ap (λ l. g x ∷ l) rest
    by false rest = rest

module _ (d : Description) (f : Flat) (whole : IsWellFormed d) (p : BusPlan) (is : seen p ≡ plan_of d f) where
  -- ---- the ports of data elements, by sites

  abbrev by_site : Site → Named
  by_site s = (rank (bus.plan_of p) s.owner, port_of (site_name d f s))

  abbrev has_port : Site → Bool
  has_port s = not (is_none s.port)

  abbrev element_sites : List Site → List Site
  element_sites ss = filter (λ (s : Site). is_element s.kind) ss

  abbrev ports_named : List Site → List Named
  ports_named ss = map by_site (filter has_port (element_sites ss))

  named_append : (ss ts : List Site) → ports_named (ss ++ ts) ≡ ports_named ss ++ ports_named ts
  named_append ss ts =
      ap (λ l. map by_site (filter has_port l)) (filter-append (λ (s : Site). is_element s.kind) ss ts)
      ∙ ap (map by_site) (filter-append has_port (element_sites ss) (element_sites ts))
      ∙ map-append by_site (filter has_port (element_sites ss)) (filter has_port (element_sites ts))

  named_from : {X : Type 0} (g : ℕ → X → List Site) (n : ℕ) (xs : List X) → ports_named (from n g xs) ≡ from n (λ i x. ports_named (g i x)) xs
  named_from g n [] = refl
  named_from g n (x ∷ xs) = named_append (g n x) (from (n + 1) g xs) ∙ ap (λ l. ports_named (g n x) ++ l) (named_from g (n + 1) xs)

  named_site : (n : Named) (ss : List Site) → Among n (ports_named ss) → (s : Site) × Among s ss × (n ≡ by_site s)
  named_site n ss h =
      let m = mapped by_site n (filter has_port (element_sites ss)) h in
      let s = filtered has_port m.0 (element_sites ss) m.1 in
      (m.0, (filtered (λ (s : Site). is_element s.kind) m.0 ss s.0).0, m.2)

  -- ---- by ports

  module _ (owner : Option ℕ) (ports : List Port) (are : ports_of d f owner ≡ ports) where
    of_port : (k : ℕ) (port : Port) (n : Named) → slice_get ports k ≡ Some port → Among n (ports_named (sites_at d.types owner k port)) → n ≡ (rank (bus.plan_of p) owner, port.short_name)
    of_port k port n at h =
        let s = named_site n (sites_at d.types owner k port) h in
        let r = port_item d f owner ports s.0 are (in_pieces (sites_at d.types owner) ports k port s.0 at s.1) in
        let item : ItemAt d f s.0 = r.1 in
        let numbers : Some item.k ≡ Some k = sym item.is_port ∙ port_is d.types owner k port s.0 s.1 in
        let number : item.k ≡ k = cc in
        let there : Some item.here.port ≡ Some port = sym item.here.at_port ∙ (λ j. slice_get (ports_of d f (r.0 j)) (number j)) ∙ ap (λ l. slice_get l k) are ∙ at in
        let same : item.here.port ≡ port = cc in
        let name : port_of (site_name d f s.0) ≡ port.short_name = ap port_of (item_site_name d f s.0 item) ∙ item_port d f whole p is s.0 item ∙ ap (λ (x : Port). x.short_name) same in
        s.2 ∙ (λ j. (rank (bus.plan_of p) (r.0 j), name j))

    together_ports : is_together (ports_named (sites_of_ports d.types owner ports)) ≡ true
    together_ports =
        ap is_together (named_from (sites_at d.types owner) 0 ports)
        ∙ all_together (λ k (port : Port). ports_named (sites_at d.types owner k port)) ports
        (λ k port at. together_same (rank (bus.plan_of p) owner, port.short_name) (ports_named (sites_at d.types owner k port)) (λ n h. of_port k port n at h))
        (λ k l x y a b at_x at_y in_a in_b same.
        place_of (λ (port : Port). port.short_name) ports k l x y
        (subst (λ l. Names (map (λ (port : Port). port.short_name) l)) are (of_ports d whole f owner).names) at_x at_y
        (ap (λ (n : Named). n.1) (sym (of_port k x a at_x in_a) ∙ same ∙ of_port l y b at_y in_b)))

  -- ---- by instances

  no_variables : (i : ℕ) (ns : List ℕ) → ports_named (map (λ n. site (Some i) None n Variable) ns) ≡ []
  no_variables i [] = refl
  no_variables i (n ∷ ns) = no_variables i ns

  together_component : (i : ℕ) (x : Instance) (o : Option Component) → slice_get f.instances i ≡ Some x → slice_get d.components x.component ≡ o → is_together (ports_named (option_map_or (sites_of_component d.types i) o [])) ≡ true
  together_component i x None at none = refl
  together_component i x (Some c) at some =
      let here : ComponentAt d f i = record { instance = x; component = c; at_instance = at; at_component = some } in
      let listed = sites_of_ports d.types (Some i) c.ports in
      let variables = variables_of i (length c.behavior.variables) in
      let none : ports_named variables ≡ [] = no_variables i (positions 0 (length c.behavior.variables)) in
      ap is_together (named_append listed variables)
      ∙ together_append (ports_named listed) (ports_named variables) (together_ports (Some i) c.ports (ports_are d f i here)) (ap is_together none)
      (λ a b in_a in_b same. absurd (subst (Among b) none in_b))

  home_of : (i : ℕ) (x : Instance) (n : Named) → slice_get f.instances i ≡ Some x → Among n (ports_named (sites_of_instance d i x)) → n.0 ≡ i
  home_of i x n at h =
      let s = named_site n (sites_of_instance d i x) h in
      ap (λ (n : Named). n.0) s.2 ∙ ap (rank (bus.plan_of p)) (of_instance d f i x s.0 at s.1).0

  together_instances : is_together (ports_named (from 0 (sites_of_instance d) f.instances)) ≡ true
  together_instances =
      ap is_together (named_from (sites_of_instance d) 0 f.instances)
      ∙ all_together (λ i (x : Instance). ports_named (sites_of_instance d i x)) f.instances
      (λ i x at. together_component i x (slice_get d.components x.component) at refl)
      (λ i j x y a b at_x at_y in_a in_b same. sym (home_of i x a at_x in_a) ∙ ap (λ (n : Named). n.0) same ∙ home_of j y b at_y in_b)

  inside : (n : Named) → Among n (ports_named (from 0 (sites_of_instance d) f.instances)) → n.0 < length p.names
  inside n h =
      let s = named_site n (from 0 (sites_of_instance d) f.instances) h in
      let at = pieces (sites_of_instance d) f.instances s.0 s.1 in
      let home : n.0 ≡ at.0 = ap (λ (n : Named). n.0) s.2 ∙ ap (rank (bus.plan_of p)) (of_instance d f at.0 at.1 s.0 at.2 at.3).0 in
      let within : at.0 < length f.instances = slice_get_within f.instances at.0 at.1 at.2 in
      let count = names_count d f p is in
      omega (arith, home, within, count)

  outside : (n : Named) → Among n (ports_named (sites_of_ports d.types None (root_ports d))) → n.0 ≡ length p.names
  outside n h =
      let s = named_site n (sites_of_ports d.types None (root_ports d)) h in
      ap (λ (n : Named). n.0) s.2 ∙ ap (rank (bus.plan_of p)) (port_item d f None (root_ports d) s.0 refl s.1).0

  together_sites : is_together (ports_named (sites d f)) ≡ true
  together_sites =
      ap is_together (named_append (from 0 (sites_of_instance d) f.instances) (sites_of_ports d.types None (root_ports d)))
      ∙ together_append (ports_named (from 0 (sites_of_instance d) f.instances)) (ports_named (sites_of_ports d.types None (root_ports d)))
      together_instances (together_ports None (root_ports d) refl)
      (λ a b in_a in_b same.
      let low = inside a in_a in
      let high = outside b in_b in
      let ranks : a.0 ≡ b.0 = ap (λ (n : Named). n.0) same in
      omega (arith, low, high, ranks))

  -- ---- the elements of the plan

  abbrev by_elem : ElemPlan → Named
  by_elem e = (rank (bus.plan_of p) e.instance, port_of e.name)

  abbrev by_seen : Elem → Named
  by_seen e = (rank (bus.plan_of p) e.instance, port_of e.name)

  abbrev is_data : Elem → Bool
  is_data e = not (variable_kind e.kind)

  abbrev element_at : Site → Elem
  element_at s = element_of d f (group_of d f s) s

  elements_named : map by_elem (filter (λ (e : ElemPlan). not (is_variable e)) p.elements) ≡ ports_named (sites d f)
  elements_named =
      sym (map-map by_seen elem_seen (filter (λ (e : ElemPlan). not (is_variable e)) p.elements))
      ∙ ap (map by_seen) (map_filter elem_seen (λ (e : ElemPlan). not (is_variable e)) is_data (λ e. ap not (variable_is e)) p.elements)
      ∙ ap (λ l. map by_seen (filter is_data l)) (elements_are d f p is)
      ∙ ap (map by_seen) (sym (map_filter element_at has_port is_data (λ s. ap not (sym (no_port_is d f s))) (elements_of d f)))
      ∙ map-map by_seen element_at (filter has_port (elements_of d f))

  pub all_together_by_port : ports_together (bus.plan_of p) ≡ true
  all_together_by_port = ap is_together elements_named ∙ together_sites
