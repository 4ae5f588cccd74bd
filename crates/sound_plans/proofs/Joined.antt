-- The sites of joined data elements: both are elements of the plan, and they agree in kind, limits and words.
use Rattle.std.proofs.Common.{◌≡◌, ℕ, ◌<◌, List, map, length, Bool, true, false, nat_lt, Option, Some, None, option_map, option_and_then, ⊎_elim, refl, sym, ap, subst, ◌∙◌, slice_get}
use Rattle.bus_semantics.specs.Common.{and_parts, slice_get_within, list_all, option_map_or, is_name}
use Rattle.plan_definitions.specs.Common.{DataElement, Interface, InterfaceKind, ClientServer, ModeSwitch, SenderReceiver, Port, Description, End, Flat, Join, ItemsJoin, interface_at, Among}
use Rattle.plan_definitions.specs.Common.{end_at, end_of, is_element, count_at, kind_at, provides_at, site, sites, port_of, elements_of, declared_at, element_in, limits_of, policy_kind}
use Rattle.plan_definitions.specs.Common.{words_of, IsWellFormed, distinct, kind_fits, names_fit}
use Rattle.bus_semantics.specs.declared.plan.ElemKind.TheVariants.{Unqueued}
use Rattle.plan_definitions.specs.declared.site.Site.{Site}
use Rattle.plan_definitions.specs.declared.site.SiteKind.{SiteKind}
use Rattle.plan_definitions.specs.declared.site.SiteKind.TheVariants.{Element}
use Rattle.sound_plans.proofs.Elems.{is_element_of}
use Rattle.sound_plans.proofs.Ends.{HasPorts, one_named, same_limits, same_words, traits}
use Rattle.sound_plans.proofs.Kept.{interface_is}
use Rattle.plan_definitions.proofs.Lists.{at, get_map, kept, unkept}
use Rattle.sound_plans.proofs.PassingElements.{Serves}
use Rattle.plan_definitions.proofs.Sites.{AtPort, IsVariable, is_site, site_is}
use Rattle.sound_plans.proofs.Keeping.{of_interface}

pub record JoinSites (d : Description) (f : Flat) (j : Join) : Type 0 where
  pub provided : Site
  pub required : Site
  pub is_provided : Among provided (elements_of d f)
  pub is_required : Among required (elements_of d f)
  pub provided_end : end_of provided ≡ Some j.provided
  pub required_end : end_of required ≡ Some j.required
  pub provides : provided.kind ≡ Element true
  pub requires : required.kind ≡ Element false
  pub agree : traits d f provided ≡ traits d f required

module _ (d : Description) (w : IsWellFormed d) (f : Flat) where
  at_interface : (n : ℕ) (k : InterfaceKind) → interface_at d n ≡ Some k → (i : Interface) × (slice_get d.types.interfaces n ≡ Some i) × (i.kind ≡ k)
  at_interface n k is = by (slice_get d.types.interfaces n) refl is
    where
      by : (o : Option Interface) → slice_get d.types.interfaces n ≡ o → option_map (λ (i : Interface). i.kind) o ≡ Some k → (i : Interface) × (slice_get d.types.interfaces n ≡ Some i) × (i.kind ≡ k)
      by None there h = cc
      by (Some i) there h = (i, there, cc)

  -- an item of a sender-receiver interface is an element
  element_site : (o : Option ℕ) (k n : ℕ) (b : Bool) (port : Port) (xs : List DataElement) (x : DataElement) → port_of d f o k ≡ Some port → provides_at o port.kind ≡ b → interface_at d port.interface ≡ Some (SenderReceiver xs) → slice_get xs n ≡ Some x
      → Among (site o (Some k) n (Element b)) (elements_of d f) × (declared_at d f o k n ≡ Some x)
  element_site o k n b port xs x has side is there =
      let i = at_interface port.interface (SenderReceiver xs) is in
      let kind : kind_at o port.kind i.0.kind ≡ Element b = ap (kind_at o port.kind) i.2 ∙ ap (λ c. Element c) side in
      let lt : n < count_at o port.kind i.0.kind = subst (λ q. n < count_at o port.kind q) (sym i.2) (slice_get_within xs n x there) in (
        kept (λ (s : Site). is_element s.kind) (sites d f) (site o (Some k) n (Element b)) (subst (λ q. Among (site o (Some k) n q) (sites d f)) kind (site_is d f o k port i.0 n has i.1 lt)) refl,
        ap (option_and_then (λ q. element_in q n)) (interface_is d w f o k port i.0 has i.1 ∙ ap (λ q. Some q) i.2) ∙ there,
      )

  traits_at : (o : Option ℕ) (k n : ℕ) (kind : SiteKind) (x : DataElement) → declared_at d f o k n ≡ Some x
      → traits d f (site o (Some k) n kind) ≡ (policy_kind x.sw_impl_policy, limits_of (slice_get d.types.data_types x.of_type), words_of (slice_get d.types.data_types x.of_type))
  traits_at o k n kind x is = λ j. (
    option_map_or (λ (e : DataElement). policy_kind e.sw_impl_policy) (is j) Unqueued,
    limits_of (option_and_then (λ (e : DataElement). slice_get d.types.data_types e.of_type) (is j)),
    words_of (option_and_then (λ (e : DataElement). slice_get d.types.data_types e.of_type) (is j)),
  )

  names_differ : (n : ℕ) (xs : List DataElement) → interface_at d n ≡ Some (SenderReceiver xs) → distinct (map (λ (e : DataElement). e.short_name) xs) ≡ true
  names_differ n xs is =
      let i = at_interface n (SenderReceiver xs) is in
      let fits = subst (λ k. kind_fits d.types k ≡ true) i.2 (of_interface d w n i.0 i.1) in
      let names = and_parts (names_fit (map (λ (e : DataElement). e.short_name) xs)) (list_all (λ (e : DataElement). nat_lt e.of_type (length d.types.data_types)) xs) fits in
      (and_parts (list_all is_name (map (λ (e : DataElement). e.short_name) xs)) (distinct (map (λ (e : DataElement). e.short_name) xs)) names.0).1

  join_sites : (j : Join) (p : HasPorts d f j) (xs ys : List DataElement) → interface_at d p.provided.interface ≡ Some (SenderReceiver xs) → interface_at d p.required.interface ≡ Some (SenderReceiver ys) → JoinSites d f j
  join_sites j p xs ys is also =
      let items : ItemsJoin (Some (SenderReceiver xs)) (Some (SenderReceiver ys)) j.provided.element j.required.element =
      subst (λ o. ItemsJoin (Some (SenderReceiver xs)) o j.provided.element j.required.element) also (subst (λ o. ItemsJoin o (interface_at d p.required.interface) j.provided.element j.required.element) is p.items) in
      let x = get_map (λ (e : DataElement). e.short_name) xs j.provided.element items.0 items.1 in
      let y = get_map (λ (e : DataElement). e.short_name) ys j.required.element items.0 items.2 in
      let served = p.passes ys also in
      let same : served.0 ≡ xs = cc (served.1, is) in
      let q = served.2 y.0 (at ys j.required.element y.0 y.1) in
      let e : q.0 ≡ x.0 = one_named (λ (z : DataElement). z.short_name) xs (names_differ p.provided.interface xs is) q.0 x.0 (subst (λ zs. Among q.0 zs) same q.1) (at xs j.provided.element x.0 x.1) (q.2.name ∙ y.2 ∙ sym x.2) in
      let serves = subst (λ z. Serves d.types z y.0) e q.2 in
      let a = element_site j.provided.instance j.provided.port j.provided.element true p.provided xs x.0 p.has_provided p.provides is x.1 in
      let b = element_site j.required.instance j.required.port j.required.element false p.required ys y.0 p.has_required p.requires also y.1 in
      record {
        provided = site j.provided.instance (Some j.provided.port) j.provided.element (Element true);
        required = site j.required.instance (Some j.required.port) j.required.element (Element false);
        is_provided = a.0;
        is_required = b.0;
        provided_end = refl;
        required_end = refl;
        provides = refl;
        requires = refl;
        agree = traits_at j.provided.instance j.provided.port j.provided.element (Element true) x.0 a.1
            ∙ (λ t. (policy_kind (serves.policy t), same_limits (slice_get d.types.data_types x.0.of_type) (slice_get d.types.data_types y.0.of_type) serves.of_type t, same_words (slice_get d.types.data_types x.0.of_type) (slice_get d.types.data_types y.0.of_type) serves.of_type t))
            ∙ sym (traits_at j.required.instance j.required.port j.required.element (Element false) y.0 b.1);
      }

  from_provided : (j : Join) (p : HasPorts d f j) (xs : List DataElement) → interface_at d p.provided.interface ≡ Some (SenderReceiver xs) → JoinSites d f j
  from_provided j p xs is = by (interface_at d p.required.interface) refl (subst (λ o. ItemsJoin o (interface_at d p.required.interface) j.provided.element j.required.element) is p.items)
    where
      by : (o : Option InterfaceKind) → interface_at d p.required.interface ≡ o → ItemsJoin (Some (SenderReceiver xs)) o j.provided.element j.required.element → JoinSites d f j
      by None also h = absurd h
      by (Some (SenderReceiver ys)) also h = join_sites j p xs ys is also
      by (Some (ClientServer os)) also h = absurd h
      by (Some (ModeSwitch x)) also h = absurd h

  from_required : (j : Join) (p : HasPorts d f j) (ys : List DataElement) → interface_at d p.required.interface ≡ Some (SenderReceiver ys) → JoinSites d f j
  from_required j p ys also = let served = p.passes ys also in join_sites j p served.0 ys served.1 also

  -- the port of an element
  port_there : (s : Site) (e : End) → Among s (elements_of d f) → end_of s ≡ Some e → (port : Port) × (xs : List DataElement) × (port_of d f e.instance e.port ≡ Some port) × (interface_at d port.interface ≡ Some (SenderReceiver xs))
  port_there s e among is =
      let p = unkept (λ (x : Site). is_element x.kind) (sites d f) s among in
      ⊎_elim (λ q. at_port q p.1) (λ v. absurd (variable v)) (is_site d f s p.0)
    where
      variable : IsVariable d f s → ⊥
      variable v = let none : end_of s ≡ None = ap (option_map (λ port. end_at s.owner port s.item)) v.no_port in cc

      at_port : (p : AtPort d f s) → is_element s.kind ≡ true → (port : Port) × (xs : List DataElement) × (port_of d f e.instance e.port ≡ Some port) × (interface_at d port.interface ≡ Some (SenderReceiver xs))
      at_port p element =
          let q = is_element_of d w f s p element in
          let here : end_of s ≡ Some (end_at s.owner p.k s.item) = ap (option_map (λ port. end_at s.owner port s.item)) p.at in
          let same : end_at s.owner p.k s.item ≡ e = cc in
          (p.port, q.among, ap (λ (x : End). port_of d f x.instance x.port) (sym same) ∙ p.has_port, ap (option_map (λ (i : Interface). i.kind)) p.has_interface ∙ ap (λ k. Some k) q.is)

  -- an element that is an end of a join has the other end
  pub of_provided : (s : Site) (j : Join) → Among s (elements_of d f) → end_of s ≡ Some j.provided → HasPorts d f j → JoinSites d f j
  of_provided s j among is p =
      let q = port_there s j.provided among is in
      let same : q.0 ≡ p.provided = cc (q.2, p.has_provided) in
      from_provided j p q.1 (ap (λ (x : Port). interface_at d x.interface) (sym same) ∙ q.3)

  pub of_required : (s : Site) (j : Join) → Among s (elements_of d f) → end_of s ≡ Some j.required → HasPorts d f j → JoinSites d f j
  of_required s j among is p =
      let q = port_there s j.required among is in
      let same : q.0 ≡ p.required = cc (q.2, p.has_required) in
      from_required j p q.1 (ap (λ (x : Port). interface_at d x.interface) (sym same) ∙ q.3)
