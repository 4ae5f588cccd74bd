-- Data elements and variables of a plan: their types fit, and so do their initial words and their queues.
use Rattle.std.proofs.Common.{◌≡◌, ℕ, ◌<◌, ◌≤◌, List, map, length, Bool, true, false, if◌then◌else◌, not, ◌&&◌, ◌||◌, ◌==◌, is_some, nat_lt, nat_le, ℤ, int_le, Option, Some, None}
use Rattle.std.proofs.Common.{option_map, option_and_then, unwrap_or, ⊎_elim, refl, sym, ap, subst, ◌∙◌, slice_get}
use Rattle.bus_semantics.specs.Common.{and_parts, leb-true, list_all-map, list_all, option_map_or, same_words, elem_sound, limits_fit, zeros, is_in}
use Rattle.plan_definitions.specs.Common.{DataType, ComSpec, DataElement, Interface, SenderReceiver, SwImplPolicy, Queued, Standard, keeps_range, Component, Variable as DeclaredVariable}
use Rattle.plan_definitions.specs.Common.{Description, element_type, fits_type, is_within, keeps, keeps_element, keeps_type, Flat, Among, is_element, count_at, kind_at, provides_at, site}
use Rattle.plan_definitions.specs.Common.{sites, com_spec_of, queue_length_of, elements_of, Elem, declared_at, elem_seen, element_in, element_of, elements, group_of, held, keeps_last}
use Rattle.plan_definitions.specs.Common.{keeps_queue, limits_of, policy_kind, variable_at, words_of, zeros as type_zeros, IsWellFormed, items_at, kind_fits, names_fit, type_fits}
use Rattle.plan_definitions.specs.Common.{variable_fits, IsWhole}
use Rattle.description_types.specs.Initials.{fits, type_in}
use Rattle.bus_laws.specs.Common.{BusPlan, ElemKind, Mapping}
use Rattle.bus_semantics.specs.declared.plan.ElemKind.TheVariants as kind
use Rattle.plan_definitions.specs.declared.site.Site.{Site}
use Rattle.plan_definitions.specs.declared.site.SiteKind.TheVariants as site_kind
use Rattle.sound_plans.proofs.Kept.{com_spec_keeps, component_keeps, interface_is, queue_keeps, some_type, variables_keep}
use Rattle.plan_definitions.proofs.Lists.{all_at, all_from, at, there, unkept, unmapped}
use Rattle.plan_definitions.proofs.Sites.{AtPort, IsVariable, is_site, with_port}
use Rattle.plan_definitions.proofs.Words.{initial_fits, none_zeros, range_fits}
use Rattle.sound_plans.proofs.Keeping.{of_interface}
use Rattle.sound_plans.proofs.Seen.{elements_are}
use Rattle.sound_plans.proofs.SiteKinds.{element_is}

-- ---- a sound element, by what is seen of it

abbrev pub queued : ElemKind → Bool
queued kind.Unqueued = false
queued kind.Queued = true
queued kind.Variable = false

abbrev pub unqueued : ElemKind → Bool
unqueued kind.Unqueued = true
unqueued kind.Queued = false
unqueued kind.Variable = false

abbrev pub variable : ElemKind → Bool
variable k = not (queued k || unqueued k)

abbrev unused_seen : Elem → Bool
unused_seen e =
    ((variable e.kind || (unqueued e.kind && not e.provided)) || same_words e.init (zeros e.limits e.words))
    && (((unqueued e.kind && not e.provided) || not e.never_received)
    && ((queued e.kind && not e.provided) || (e.queue_length == 1)))

abbrev sound_seen : Elem → Bool
sound_seen e =
    is_in 1 16 e.words && (limits_fit e.limits
    && ((length e.init == e.words) && (list_all (is_within e.limits) e.init
    && (is_in 1 1024 e.queue_length && (unused_seen e
    && (not (variable e.kind) || (is_some e.instance && (not e.provided && not e.joined))))))))

-- ---- by type, words, queue and keys

module _ (e : Elem) (t : DataType) (fit : type_fits t ≡ true) (limits : e.limits ≡ t.limits) (words : e.words ≡ t.words) where
  ranged : keeps_range t ≡ true
  ranged = (and_parts (is_in 1 16 t.words) (keeps_range t) fit).1

  by_parts : fits t e.init ≡ true → is_in 1 1024 e.queue_length ≡ true → unused_seen e ≡ true → (not (variable e.kind) || (is_some e.instance && (not e.provided && not e.joined))) ≡ true → sound_seen e ≡ true
  by_parts initial queue unused plain =
      let p = and_parts (length e.init == t.words) (list_all (is_within t.limits) e.init) initial in
      (λ j. (subst (λ n. is_in 1 16 n ≡ true) (sym words) (and_parts (is_in 1 16 t.words) (keeps_range t) fit).0) j
      && ((subst (λ l. limits_fit l ≡ true) (sym limits) (range_fits t ranged)) j
      && ((subst (λ n. (length e.init == n) ≡ true) (sym words) p.0) j
      && ((subst (λ l. list_all (is_within l) e.init ≡ true) (sym limits) p.1) j
      && (queue j && (unused j && plain j))))))

module _ (t : DataType) (fit : type_fits t ≡ true) where
  few : t.words ≤ 16
  few = leb-true t.words 16 (and_parts (nat_le 1 t.words) (nat_le t.words 16) (and_parts (is_in 1 16 t.words) (keeps_range t) fit).0).1

  ordered : int_le t.limits.low t.limits.high ≡ true
  ordered = (and_parts (int_le t.limits.low t.limits.high) _ (and_parts (is_in 1 16 t.words) (keeps_range t) fit).1).0

  -- an element of a port, with what its com spec says
  abbrev of_port : Option ℕ → List ℕ → Bool → ℕ → Bool → SwImplPolicy → Option (List ℤ) → Bool → ℕ → Elem
  of_port owner name joined group provided policy given never queue = record {
    instance = owner;
    name = name;
    kind = policy_kind policy;
    provided = provided;
    joined = joined;
    group = group;
    limits = t.limits;
    words = t.words;
    init = held (unwrap_or (if keeps_last (site_kind.Element provided) (policy_kind policy) then given else None) (type_zeros (Some t)));
    never_received = if keeps_last (site_kind.Element provided) (policy_kind policy) then never else false;
    queue_length = if keeps_queue (site_kind.Element provided) (policy_kind policy) then queue else 1;
  }

  port_sound : (owner : Option ℕ) (name : List ℕ) (joined : Bool) (group : ℕ) (provided : Bool) (policy : SwImplPolicy) (given : Option (List ℤ)) (never : Bool) (queue : ℕ)
      → ((ws : List ℤ) → given ≡ Some ws → fits t ws ≡ true) → is_in 1 1024 queue ≡ true → sound_seen (of_port owner name joined group provided policy given never queue) ≡ true
  port_sound owner name joined group false Standard given never queue each long = by_parts (of_port owner name joined group false Standard given never queue) t fit refl refl (initial_fits t few ordered given each) refl refl refl
  port_sound owner name joined group true Standard given never queue each long = by_parts (of_port owner name joined group true Standard given never queue) t fit refl refl (initial_fits t few ordered None (λ ws e. cc)) refl
      (λ j. none_zeros t few ordered j && true) refl
  port_sound owner name joined group false Queued given never queue each long = by_parts (of_port owner name joined group false Queued given never queue) t fit refl refl (initial_fits t few ordered None (λ ws e. cc)) long
      (λ j. none_zeros t few ordered j && true) refl
  port_sound owner name joined group true Queued given never queue each long = by_parts (of_port owner name joined group true Queued given never queue) t fit refl refl (initial_fits t few ordered None (λ ws e. cc)) refl
      (λ j. none_zeros t few ordered j && true) refl

  -- a variable
  abbrev of_variable : ℕ → List ℕ → ℕ → Option (List ℤ) → Elem
  of_variable i name group given = record {
    instance = Some i;
    name = name;
    kind = kind.Variable;
    provided = false;
    joined = false;
    group = group;
    limits = t.limits;
    words = t.words;
    init = held (unwrap_or given (type_zeros (Some t)));
    never_received = false;
    queue_length = 1;
  }

  variable_sound : (i : ℕ) (name : List ℕ) (group : ℕ) (given : Option (List ℤ)) → ((ws : List ℤ) → given ≡ Some ws → fits t ws ≡ true) → sound_seen (of_variable i name group given) ≡ true
  variable_sound i name group given each = by_parts (of_variable i name group given) t fit refl refl (initial_fits t few ordered given each) refl refl refl

-- ---- what stands at a site

pub record IsElement (d : Description) (f : Flat) (s : Site) (p : AtPort d f s) : Type 0 where
  pub among : List DataElement
  pub is : p.interface.kind ≡ SenderReceiver among
  pub element : DataElement
  pub there : slice_get among s.item ≡ Some element
  pub kind : s.kind ≡ site_kind.Element (provides_at s.owner p.port.kind)
  pub declared : declared_at d f s.owner p.k s.item ≡ Some element

module _ (d : Description) (w : IsWellFormed d) (f : Flat) where
  pub is_element_of : (s : Site) (p : AtPort d f s) → is_element s.kind ≡ true → IsElement d f s p
  is_element_of s p h =
      let x = element_is s.owner p.port.kind p.interface.kind (sym (ap is_element p.kind) ∙ h) in
      let lt : s.item < length x.0 = subst (λ k. s.item < count_at s.owner p.port.kind k) x.1 p.within in
      let e = there x.0 s.item lt in
      record {
        among = x.0;
        is = x.1;
        element = e.0;
        there = e.1;
        kind = p.kind ∙ ap (kind_at s.owner p.port.kind) x.1;
        declared = ap (option_and_then (λ k. element_in k s.item)) (interface_is d w f s.owner p.k p.port p.interface p.has_port p.has_interface ∙ ap (λ k. Some k) x.1) ∙ e.1;
      }

  -- the type of an element
  pub element_typed : (s : Site) (p : AtPort d f s) (e : IsElement d f s p) → (t : DataType) × (slice_get d.types.data_types e.element.of_type ≡ Some t) × (type_fits t ≡ true)
  element_typed s p e =
      let fits = subst (λ k. kind_fits d.types k ≡ true) e.is (of_interface d w p.port.interface p.interface p.has_interface) in
      let each = and_parts (names_fit (map (λ (x : DataElement). x.short_name) e.among)) (list_all (λ (x : DataElement). nat_lt x.of_type (length d.types.data_types)) e.among) fits in
      some_type d w e.element.of_type (all_at (λ (x : DataElement). nat_lt x.of_type (length d.types.data_types)) e.among each.1 e.element (at e.among s.item e.element e.there))

  -- the words that a com spec gives fit the type
  given_fits : (s : Site) (p : AtPort d f s) (e : IsElement d f s p) (t : DataType) → slice_get d.types.data_types e.element.of_type ≡ Some t
      → (ws : List ℤ) → option_and_then (λ (c : ComSpec). c.init_value) (com_spec_of d f s.owner p.k s.item) ≡ Some ws → fits t ws ≡ true
  given_fits s p e t is ws given = by (com_spec_of d f s.owner p.k s.item) refl given
    where
      by : (o : Option ComSpec) → com_spec_of d f s.owner p.k s.item ≡ o → option_and_then (λ (c : ComSpec). c.init_value) o ≡ Some ws → fits t ws ≡ true
      by None none h = cc
      by (Some c) some h =
          let kept = com_spec_keeps d w f s.owner p.k s.item p.port c p.has_port some in
          let keeps_it = (and_parts (is_in 1 1024 c.queue_length) (keeps_element d.types p.port.interface c) (and_parts (nat_lt c.element (items_at d.types p.port.interface)) _ kept.0).1).1 in
          let of_type : element_type d.types p.port.interface c.element ≡ Some e.element.of_type =
          ap (element_type d.types p.port.interface) kept.1
          ∙ ap (option_and_then (λ (i : Interface). type_in i.kind s.item)) p.has_interface
          ∙ ap (λ k. type_in k s.item) e.is
          ∙ ap (option_map (λ (x : DataElement). x.of_type)) e.there in
          let fit : keeps_type d.types.data_types (Some e.element.of_type) (Some ws) ≡ true = sym (λ j. keeps_type d.types.data_types (of_type j) (h j)) ∙ keeps_it in
          sym (ap (λ o. fits_type o ws) is) ∙ fit

  -- an element of a port, by the element and the type that are found
  abbrev seen_at : Site → ℕ → ℕ → Option DataElement → (Option DataElement → Option DataType) → Elem
  seen_at s k group o type = record {
    instance = s.owner;
    name = (element_of d f group s).name;
    kind = option_map_or (λ (e : DataElement). policy_kind e.sw_impl_policy) o kind.Unqueued;
    provided = (element_of d f group s).provided;
    joined = (element_of d f group s).joined;
    group = group;
    limits = limits_of (type o);
    words = words_of (type o);
    init = held (unwrap_or (if keeps_last s.kind (option_map_or (λ (e : DataElement). policy_kind e.sw_impl_policy) o kind.Unqueued) then option_and_then (λ (c : ComSpec). c.init_value) (com_spec_of d f s.owner k s.item) else None) (type_zeros (type o)));
    never_received = if keeps_last s.kind (option_map_or (λ (e : DataElement). policy_kind e.sw_impl_policy) o kind.Unqueued) then option_map_or (λ (c : ComSpec). c.handle_never_received) (com_spec_of d f s.owner k s.item) false else false;
    queue_length = if keeps_queue s.kind (option_map_or (λ (e : DataElement). policy_kind e.sw_impl_policy) o kind.Unqueued) then queue_length_of d f s.owner k s.item else 1;
  }

  -- a sound element of a port
  at_port : (s : Site) (group : ℕ) (p : AtPort d f s) → is_element s.kind ≡ true → sound_seen (element_of d f group s) ≡ true
  at_port s group p h =
      with_port (λ (x : Site). sound_seen (element_of d f group x) ≡ true) s (Some p.k) p.at
      (subst (λ κ. sound_seen (element_of d f group (site s.owner (Some p.k) s.item κ)) ≡ true) (sym e.kind)
      (subst (λ o. sound_seen (seen_at x p.k group o (λ q. option_and_then (λ (y : DataElement). slice_get d.types.data_types y.of_type) q)) ≡ true) (sym e.declared)
      (subst (λ o. sound_seen (seen_at x p.k group (Some e.element) (λ q. o)) ≡ true) (sym t.1)
      (port_sound t.0 t.2 s.owner (element_of d f group x).name (element_of d f group x).joined group (provides_at s.owner p.port.kind) e.element.sw_impl_policy
      (option_and_then (λ (c : ComSpec). c.init_value) (com_spec_of d f s.owner p.k s.item)) (option_map_or (λ (c : ComSpec). c.handle_never_received) (com_spec_of d f s.owner p.k s.item) false) (queue_length_of d f s.owner p.k s.item)
      (given_fits s p e t.0 t.1) (queue_keeps d w f s.owner p.k s.item p.port p.has_port)))))
    where
      e : IsElement d f s p
      e = is_element_of s p h

      t : (t : DataType) × (slice_get d.types.data_types e.element.of_type ≡ Some t) × (type_fits t ≡ true)
      t = element_typed s p e

      x : Site
      x = site s.owner (Some p.k) s.item (site_kind.Element (provides_at s.owner p.port.kind))

  -- a variable, by what is found of it
  abbrev seen_variable : ℕ → ℕ → ℕ → Option DeclaredVariable → (Option DeclaredVariable → Option DataType) → Elem
  seen_variable i item group o type = record {
    instance = Some i;
    name = (element_of d f group (site (Some i) None item site_kind.Variable)).name;
    kind = kind.Variable;
    provided = false;
    joined = false;
    group = group;
    limits = limits_of (type o);
    words = words_of (type o);
    init = held (unwrap_or (option_and_then (λ (v : DeclaredVariable). v.init_value) o) (type_zeros (type o)));
    never_received = false;
    queue_length = 1;
  }

  at_variable : (s : Site) (group : ℕ) → IsVariable d f s → sound_seen (element_of d f group s) ≡ true
  at_variable s group p =
      with_port (λ (x : Site). sound_seen (element_of d f group x) ≡ true) s None p.no_port
      (subst (λ κ. sound_seen (element_of d f group (site s.owner None s.item κ)) ≡ true) (sym p.kind)
      (subst (λ o. sound_seen (element_of d f group (site o None s.item site_kind.Variable)) ≡ true) (sym p.owner)
      (subst (λ o. sound_seen (seen_variable p.i s.item group o (λ q. option_and_then (λ (y : DeclaredVariable). slice_get d.types.data_types y.of_type) q)) ≡ true) (sym found_there)
      (subst (λ o. sound_seen (seen_variable p.i s.item group (Some v.0) (λ q. o)) ≡ true) (sym t.1)
      (variable_sound t.0 t.2 p.i (element_of d f group (site (Some p.i) None s.item site_kind.Variable)).name group v.0.init_value given)))))
    where
      v : (x : DeclaredVariable) × (slice_get p.component.behavior.variables s.item ≡ Some x)
      v = there p.component.behavior.variables s.item p.within

      kept : (nat_lt v.0.of_type (length d.types.data_types) ≡ true) × (keeps d.types.data_types v.0.of_type v.0.init_value ≡ true)
      kept = and_parts (nat_lt v.0.of_type (length d.types.data_types)) (keeps d.types.data_types v.0.of_type v.0.init_value)
          (all_at (variable_fits d.types) p.component.behavior.variables (variables_keep d w p.component (component_keeps d w f p.i p.component p.has_component)) v.0 (at p.component.behavior.variables s.item v.0 v.1))

      t : (t : DataType) × (slice_get d.types.data_types v.0.of_type ≡ Some t) × (type_fits t ≡ true)
      t = some_type d w v.0.of_type kept.0

      found_there : variable_at d f (Some p.i) s.item ≡ Some v.0
      found_there = ap (option_and_then (λ (c : Component). slice_get c.behavior.variables s.item)) p.has_component ∙ v.1

      given : (ws : List ℤ) → v.0.init_value ≡ Some ws → fits t.0 ws ≡ true
      given ws is =
          let h : keeps d.types.data_types v.0.of_type (Some ws) ≡ true = sym (ap (keeps d.types.data_types v.0.of_type) is) ∙ kept.1 in
          sym (ap (λ o. fits_type o ws) t.1) ∙ h

  pub each_element : (s : Site) (group : ℕ) → Among s (elements_of d f) → sound_seen (element_of d f group s) ≡ true
  each_element s group among =
      let p = unkept (λ (x : Site). is_element x.kind) (sites d f) s among in
      ⊎_elim (λ q. at_port s group q p.1) (λ v. at_variable s group v) (is_site d f s p.0)

  elements_keep : list_all sound_seen (elements d f) ≡ true
  elements_keep = all_from sound_seen (elements d f) each
    where
      each : (e : Elem) → Among e (elements d f) → sound_seen e ≡ true
      each e among =
          let p = unmapped (λ (s : Site). element_of d f (group_of d f s) s) (elements_of d f) e among in
          subst (λ x. sound_seen x ≡ true) (sym p.2) (each_element p.0 (group_of d f p.0) p.1)

pub elements_sound : (d : Description) (f : Flat) (p : BusPlan) (m : Mapping) → IsWhole d f p m → list_all elem_sound p.elements ≡ true
elements_sound d f p m w = sym (list_all-map sound_seen elem_seen p.elements) ∙ ap (list_all sound_seen) (elements_are d f p w.is_plan) ∙ elements_keep d w.well_formed f
