-- Sites: what stands at a port or is a variable is a site once, and has the number of its place.
use Rattle.std.proofs.Common.{◌≡◌, ℕ, zero, suc, ◌+◌, ◌<◌, Bool, true, false, cond, refl, sym, ◌∙◌, ap, subst, arith, List, [], ◌∷◌, filter, length, Option, Some, None, ◌⊎◌, inl, inr}
use Rattle.bus_semantics.specs.Common.{slice_get, option_map_or, unwrap_or, same_Some, slice_get_within}
use Rattle.plan_definitions.specs.Common.{TypeTable, Component, Port, Description, Flat, Key, key_of, same_key, number_in, keys_of, of_kind, positions, component_of, of_instances, site}
use Rattle.plan_definitions.specs.Common.{sites_with, shape_at, sites_at, sites_of_ports, variables_of, sites_of_component, root_ports, sites, ports_of, port_of}
use Rattle.plan_definitions.specs.declared.site.Site.{Site}
use Rattle.plan_definitions.specs.declared.site.SiteKind.{SiteKind}
use Rattle.plan_definitions.specs.declared.site.SiteKind.TheVariants.{Variable}
use Rattle.plan_definitions.proofs.Keys.{same_key_is, same_key_refl}
use Rattle.plan_definitions.proofs.Lists.{many_positions, position_there}
use Rattle.sound_plans.proofs.Places.{not_some, found, before, In, in_from, reach, mapped, map_at, append_left, append_right, append_at, Later, kept, kept_at}
use Rattle.sound_plans.proofs.Parts.{Home, home_component, component_home, start, OfInstance, of_instance, to_instance}

-- ---- keys that are apart

abbrev pub Apart : List Site → Type 0
Apart xs = (a b : ℕ) (s t : Site) → slice_get xs a ≡ Some s → slice_get xs b ≡ Some t → key_of s ≡ key_of t → a ≡ b

fewer_apart : (y : Site) (xs : List Site) → Apart (y ∷ xs) → Apart xs
fewer_apart y xs apart a b s t u v e = let same = apart (suc a) (suc b) s t u v e in omega arith

pub kept_apart : (test : Site → Bool) (xs : List Site) → Apart xs → Apart (filter test xs)
kept_apart test [] apart a b s t u v e = absurd (cc u)
kept_apart test (y ∷ xs) apart a b s t u v e = by (kept_apart test xs (fewer_apart y xs apart)) (test y) a b u v
  where
    by : Apart (filter test xs) → (c : Bool) → (a b : ℕ) → slice_get (cond c (y ∷ filter test xs) (filter test xs)) a ≡ Some s → slice_get (cond c (y ∷ filter test xs) (filter test xs)) b ≡ Some t → a ≡ b
    by rest false a b u v = rest a b s t u v e
    by rest true zero zero u v = refl
    by rest true zero (suc b) u v = let later = kept_at test xs b t v in let same = apart 0 (suc later.place) s t u later.there e in absurd (omega arith)
    by rest true (suc a) zero u v = let later = kept_at test xs a s u in let same = apart (suc later.place) 0 s t later.there v e in absurd (omega arith)
    by rest true (suc a) (suc b) u v = let same = rest a b s t u v e in omega arith

pub number_at : (xs : List Site) → Apart xs → (j : ℕ) (s : Site) → slice_get xs j ≡ Some s → number_in (keys_of xs) (key_of s) ≡ j
number_at xs apart j s at =
    let w = found (same_key (key_of s)) 0 (keys_of xs) j (key_of s) (mapped key_of xs j s at) (same_key_refl (key_of s)) in
    let t = map_at key_of xs w.place w.item w.there in
    let same : key_of s ≡ key_of t.item = same_key_is (key_of s) w.item w.passes ∙ t.is in
    let place : w.place ≡ j = sym (apart j w.place s t.item at t.there same) in
    let none : 0 + w.place ≡ j = omega arith in
    ap (λ o. unwrap_or o 0) w.is ∙ none

-- ---- the sites of ports

module _ (types : TypeTable) (owner : Option ℕ) (ports : List Port) where
  pub record PortSite (s : Site) : Type 0 where
    pub k : ℕ
    pub port : Port
    pub there : slice_get ports k ≡ Some port
    pub count : ℕ
    pub shape : shape_at types owner port ≡ Some (s.kind, count)
    pub within : s.item < count
    pub named : s.port ≡ Some k
    pub owned : s.owner ≡ owner

  pub port_place : ℕ → ℕ → ℕ
  port_place k n = before (sites_at types owner) 0 ports k + n

  sites_here : (k : ℕ) (port : Port) (kind : SiteKind) (count : ℕ) → shape_at types owner port ≡ Some (kind, count) → sites_at types owner k port ≡ sites_with owner k kind count
  sites_here k port kind count e = ap (λ o. option_map_or (λ (x : SiteKind × ℕ). sites_with owner k x.0 x.1) o []) e

  pub port_site : (k : ℕ) (port : Port) (kind : SiteKind) (count n : ℕ) → slice_get ports k ≡ Some port → shape_at types owner port ≡ Some (kind, count) → n < count
      → slice_get (sites_of_ports types owner ports) (port_place k n) ≡ Some (site owner (Some k) n kind)
  unfolding port_place
  port_site k port kind count n there shape within =
      let none : 0 + k ≡ k = omega arith in
      let nought : 0 + n ≡ n = omega arith in
      reach (sites_at types owner) 0 ports k port n (site owner (Some k) n kind) there
      (ap (λ m. slice_get (sites_at types owner m port) n) none ∙ ap (λ xs. slice_get xs n) (sites_here k port kind count shape)
      ∙ mapped (λ m. site owner (Some k) m kind) (positions 0 count) n (0 + n) (position_there 0 count n within) ∙ ap (λ m. Some (site owner (Some k) m kind)) nought)

  pub record AtPort (j : ℕ) (s : Site) : Type 0 where
    pub is : PortSite s
    pub place : j ≡ port_place is.k s.item

  pub at_port : (j : ℕ) (s : Site) → slice_get (sites_of_ports types owner ports) j ≡ Some s → AtPort j s
  unfolding port_place
  at_port j s e = by_shape (in_from (sites_at types owner) 0 ports j s e)
    where
      with_shape : (w : In Port Site (sites_at types owner) 0 ports j s) (o : Option (SiteKind × ℕ)) → shape_at types owner w.item ≡ o → slice_get (option_map_or (λ x. sites_with owner w.at x.0 x.1) o []) w.place ≡ Some s → AtPort j s
      with_shape w None is at = absurd (cc at)
      with_shape w (Some x) is at =
          let m = map_at (λ n. site owner (Some w.at) n x.0) (positions 0 x.1) w.place s at in
          let within : w.place < length (positions 0 x.1) = slice_get_within (positions 0 x.1) w.place m.item m.there in
          let long : length (positions 0 x.1) ≡ x.1 = many_positions 0 x.1 in
          let less : w.place < x.1 = omega arith in
          let none : 0 + w.place ≡ w.place = omega arith in
          let item : m.item ≡ w.place = same_Some m.item w.place (sym m.there ∙ position_there 0 x.1 w.place less ∙ ap (λ n. Some n) none) in
          let is_site : s ≡ site owner (Some w.at) w.place x.0 = m.is ∙ ap (λ n. site owner (Some w.at) n x.0) item in
          let kind : s.kind ≡ x.0 = ap (λ (t : Site). t.kind) is_site in
          let number : s.item ≡ w.place = ap (λ (t : Site). t.item) is_site in
          record {
            is = record { k = w.at; port = w.item; there = w.there; count = x.1; shape = is ∙ ap (λ t. Some (t, x.1)) (sym kind); within = subst (λ n. n < x.1) (sym number) less; named = ap (λ (t : Site). t.port) is_site; owned = ap (λ (t : Site). t.owner) is_site };
            place = w.sum ∙ ap (λ n. before (sites_at types owner) 0 ports w.at + n) (sym number);
          }

      by_shape : In Port Site (sites_at types owner) 0 ports j s → AtPort j s
      by_shape w = let none : 0 + w.at ≡ w.at = omega arith in
          with_shape w (shape_at types owner w.item) refl (subst (λ m. slice_get (sites_at types owner m w.item) w.place ≡ Some s) none w.inside)

-- ---- all sites

module _ (d : Description) (f : Flat) where
  pub ports_at_home : (i : ℕ) (c : Component) → Home d f i c → ports_of d f (Some i) ≡ c.ports
  ports_at_home i c h = ap (λ o. option_map_or (λ (x : Component). x.ports) o []) (home_component d f i c h)

  pub record VariableSite (s : Site) : Type 0 where
    pub i : ℕ
    pub c : Component
    pub home : Home d f i c
    pub owned : s.owner ≡ Some i
    pub unnamed : s.port ≡ None
    pub kind : s.kind ≡ Variable
    pub within : s.item < length c.behavior.variables

  abbrev pub IsSite : Site → Type 0
  IsSite s = PortSite d.types s.owner (ports_of d f s.owner) s ⊎ VariableSite s

  pub place_of : Key → ℕ
  place_of (Some i, Some k, n) = start d f (sites_of_component d.types) i + port_place d.types (Some i) (ports_of d f (Some i)) k n
  place_of (Some i, None, n) = start d f (sites_of_component d.types) i + (length (sites_of_ports d.types (Some i) (ports_of d f (Some i))) + n)
  place_of (None, Some k, n) = length (of_instances (sites_of_component d.types) d f) + port_place d.types None (root_ports d) k n
  place_of (None, None, n) = 0

  pub record SiteAt (a : ℕ) (s : Site) : Type 0 where
    pub is : IsSite s
    pub place : a ≡ place_of (key_of s)

  port_at : (a : ℕ) (s : Site) (owner : Option ℕ) → PortSite d.types owner (ports_of d f owner) s → ((k : ℕ) → s.port ≡ Some k → a ≡ place_of (owner, Some k, s.item)) → SiteAt a s
  port_at a s owner p place = record {
    is = inl (subst (λ o. PortSite d.types o (ports_of d f o) s) (sym p.owned) p);
    place = place p.k p.named ∙ (λ j. place_of (sym p.owned j, sym p.named j, s.item));
  }

  pub site_at : (a : ℕ) (s : Site) → slice_get (sites d f) a ≡ Some s → SiteAt a s
  unfolding place_of
  site_at a s e = by (append_at (of_instances (sites_of_component d.types) d f) (sites_of_ports d.types None (root_ports d)) a s e)
    where
      of_component : (w : OfInstance d f (sites_of_component d.types) a s)
          → (slice_get (sites_of_ports d.types (Some w.i) w.c.ports) w.place ≡ Some s) ⊎ Later Site (sites_of_ports d.types (Some w.i) w.c.ports) (variables_of w.i (length w.c.behavior.variables)) w.place s → SiteAt a s
      of_component w (inl at) =
          let ports = ports_at_home w.i w.c w.home in
          let p = at_port d.types (Some w.i) (ports_of d f (Some w.i)) w.place s (subst (λ ps. slice_get (sites_of_ports d.types (Some w.i) ps) w.place ≡ Some s) (sym ports) at) in
          port_at a s (Some w.i) p.is (λ k named. w.sum ∙ ap (λ n. start d f (sites_of_component d.types) w.i + n) (p.place ∙ ap (λ m. port_place d.types (Some w.i) (ports_of d f (Some w.i)) m s.item) (same_Some p.is.k k (sym p.is.named ∙ named))))
      of_component w (inr l) =
          let m = map_at (λ n. site (Some w.i) None n Variable) (positions 0 (length w.c.behavior.variables)) l.place s l.there in
          let within : l.place < length (positions 0 (length w.c.behavior.variables)) = slice_get_within (positions 0 (length w.c.behavior.variables)) l.place m.item m.there in
          let long : length (positions 0 (length w.c.behavior.variables)) ≡ length w.c.behavior.variables = many_positions 0 (length w.c.behavior.variables) in
          let less : l.place < length w.c.behavior.variables = omega arith in
          let none : 0 + l.place ≡ l.place = omega arith in
          let item : m.item ≡ l.place = same_Some m.item l.place (sym m.there ∙ position_there 0 (length w.c.behavior.variables) l.place less ∙ ap (λ n. Some n) none) in
          let is_site : s ≡ site (Some w.i) None l.place Variable = m.is ∙ ap (λ n. site (Some w.i) None n Variable) item in
          let number : s.item ≡ l.place = ap (λ (t : Site). t.item) is_site in
          let ports = ports_at_home w.i w.c w.home in
          record {
            is = inr (record { i = w.i; c = w.c; home = w.home; owned = ap (λ (t : Site). t.owner) is_site; unnamed = ap (λ (t : Site). t.port) is_site; kind = ap (λ (t : Site). t.kind) is_site; within = subst (λ n. n < length w.c.behavior.variables) (sym number) less });
            place = w.sum ∙ ap (λ n. start d f (sites_of_component d.types) w.i + n) (l.sum ∙ (λ j. length (sites_of_ports d.types (Some w.i) (sym ports j)) + l.place)) ∙ ap (λ (t : Site). place_of (key_of t)) (sym is_site);
          }

      by : (slice_get (of_instances (sites_of_component d.types) d f) a ≡ Some s) ⊎ Later Site (of_instances (sites_of_component d.types) d f) (sites_of_ports d.types None (root_ports d)) a s → SiteAt a s
      by (inl at) =
          let w = of_instance d f (sites_of_component d.types) a s at in
          of_component w (append_at (sites_of_ports d.types (Some w.i) w.c.ports) (variables_of w.i (length w.c.behavior.variables)) w.place s w.inside)
      by (inr l) =
          let p = at_port d.types None (root_ports d) l.place s l.there in
          port_at a s None p.is (λ k named. l.sum ∙ ap (λ n. length (of_instances (sites_of_component d.types) d f) + n) (p.place ∙ ap (λ m. port_place d.types None (root_ports d) m s.item) (same_Some p.is.k k (sym p.is.named ∙ named))))

  pub sites_apart : Apart (sites d f)
  sites_apart a b s t u v e = (site_at a s u).place ∙ ap place_of e ∙ sym (site_at b t v).place

  -- what stands at a port is a site
  pub site_there : (owner : Option ℕ) (k : ℕ) (port : Port) (kind : SiteKind) (count n : ℕ) → port_of d f owner k ≡ Some port → shape_at d.types owner port ≡ Some (kind, count) → n < count
      → slice_get (sites d f) (place_of (owner, Some k, n)) ≡ Some (site owner (Some k) n kind)
  unfolding place_of
  site_there None k port kind count n there shape within =
      append_right (of_instances (sites_of_component d.types) d f) (sites_of_ports d.types None (root_ports d)) (port_place d.types None (root_ports d) k n) (site None (Some k) n kind)
      (port_site d.types None (root_ports d) k port kind count n there shape within)
  site_there (Some i) k port kind count n there shape within = by (component_of d f i) refl
    where
      at_home : (c : Component) → Home d f i c → slice_get (sites d f) (place_of (Some i, Some k, n)) ≡ Some (site (Some i) (Some k) n kind)
      at_home c home =
          let ports = ports_at_home i c home in
          append_left (of_instances (sites_of_component d.types) d f) (sites_of_ports d.types None (root_ports d)) (place_of (Some i, Some k, n)) (site (Some i) (Some k) n kind)
          (to_instance d f (sites_of_component d.types) i c home (port_place d.types (Some i) (ports_of d f (Some i)) k n) (site (Some i) (Some k) n kind)
          (append_left (sites_of_ports d.types (Some i) c.ports) (variables_of i (length c.behavior.variables)) (port_place d.types (Some i) (ports_of d f (Some i)) k n) (site (Some i) (Some k) n kind)
          (subst (λ ps. slice_get (sites_of_ports d.types (Some i) ps) (port_place d.types (Some i) (ports_of d f (Some i)) k n) ≡ Some (site (Some i) (Some k) n kind)) ports
          (port_site d.types (Some i) (ports_of d f (Some i)) k port kind count n there shape within))))

      by : (o : Option Component) → component_of d f i ≡ o → slice_get (sites d f) (place_of (Some i, Some k, n)) ≡ Some (site (Some i) (Some k) n kind)
      by None e = absurd (not_some port (ap (λ o. slice_get (option_map_or (λ (c : Component). c.ports) o []) k) (sym e) ∙ there))
      by (Some c) e = at_home c (component_home d f i c e)

  pub variable_there : (i : ℕ) (c : Component) → Home d f i c → (n : ℕ) → n < length c.behavior.variables → slice_get (sites d f) (place_of (Some i, None, n)) ≡ Some (site (Some i) None n Variable)
  unfolding place_of
  variable_there i c home n within =
      let ports = ports_at_home i c home in
      let nought : 0 + n ≡ n = omega arith in
      append_left (of_instances (sites_of_component d.types) d f) (sites_of_ports d.types None (root_ports d)) (place_of (Some i, None, n)) (site (Some i) None n Variable)
      (to_instance d f (sites_of_component d.types) i c home (length (sites_of_ports d.types (Some i) (ports_of d f (Some i))) + n) (site (Some i) None n Variable)
      (subst (λ ps. slice_get (sites_of_component d.types i c) (length (sites_of_ports d.types (Some i) ps) + n) ≡ Some (site (Some i) None n Variable)) (sym ports)
      (append_right (sites_of_ports d.types (Some i) c.ports) (variables_of i (length c.behavior.variables)) n (site (Some i) None n Variable)
      (mapped (λ m. site (Some i) None m Variable) (positions 0 (length c.behavior.variables)) n (0 + n) (position_there 0 (length c.behavior.variables) n within) ∙ ap (λ m. Some (site (Some i) None m Variable)) nought))))

  -- a site of a kind has its number among those of the kind
  module _ (wanted : SiteKind → Bool) where
    pub kind_apart : Apart (of_kind wanted d f)
    kind_apart = kept_apart (λ s. wanted s.kind) (sites d f) sites_apart

    pub of_kind_at : (a : ℕ) (s : Site) → slice_get (of_kind wanted d f) a ≡ Some s → IsSite s × (wanted s.kind ≡ true)
    of_kind_at a s e = let w = kept_at (λ s. wanted s.kind) (sites d f) a s e in ((site_at w.place s w.there).is, w.passes)

    pub numbered_kind : (a : ℕ) (s : Site) → slice_get (sites d f) a ≡ Some s → wanted s.kind ≡ true → slice_get (of_kind wanted d f) (number_in (keys_of (of_kind wanted d f)) (key_of s)) ≡ Some s
    numbered_kind a s at is =
        let w = kept (λ s. wanted s.kind) (sites d f) a s at is in
        ap (slice_get (of_kind wanted d f)) (number_at (of_kind wanted d f) kind_apart w.0 s w.1) ∙ w.1
