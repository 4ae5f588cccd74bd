-- As much is listed as was counted.
use Rattle.std.proofs.Common.{◌≡◌, ℕ, zero, suc, ◌+◌, List, [], ◌∷◌, length, map, filter, Bool, true, false, cond, Option, Some, None, option_map, unwrap_or, refl, sym, ap, ◌∙◌, arith, slice_get}
use Rattle.bus_semantics.specs.Common.{length-append, filter-append, flat_map, sum_by, option_map_or, AccessKind}
use Rattle.std.proofs.lemmas.List.Sums.{sum_by-cons}
use Rattle.runnable_lang.specs.declared.program.AccessKind.TheVariants as kind
use Rattle.plan_definitions.specs.Common.{ComSpec, Interface, InterfaceKind, SenderReceiver, ClientServer, ModeSwitch, TypeTable, Access, Component, Port, PortKind, Provided, Required}
use Rattle.plan_definitions.specs.Common.{Runnable, Description, Flat, Instance, calling_of, callings, callings_in, callings_of_component, operations_at, outer_calling, outer_callings}
use Rattle.plan_definitions.specs.Common.{is_element, is_machine, is_server, from, positions, of_instances, count_at, kind_at, root_ports, shape_at, site, sites, sites_at}
use Rattle.plan_definitions.specs.Common.{sites_of_component, sites_of_instance, sites_of_ports, sites_with, variables_of}
use Rattle.plan_definitions.specs.declared.site.Site.{Site}
use Rattle.plan_definitions.specs.declared.site.SiteKind.{SiteKind}
use Rattle.plan_definitions.specs.declared.site.SiteKind.TheVariants.{Element, Variable, Server, Machine, ModePort}
use Rattle.plan_definitions.proofs.Lists.{as_many}
use Rattle.event_mapping.specs.Guard.{counted_with, is_counted, items_at, items_in, items_of_instance, items_of_ports, item_count, outer_points, point_count, points_at, points_in}
use Rattle.event_mapping.specs.Guard.{points_of_instance, points_of_runnable}

-- ---- lists that are made of others

module _ {X Y : Type 0} (g : ℕ → X → List Y) (h : X → ℕ) where
  pub length_from : ((i : ℕ) (x : X) → length (g i x) ≡ h x) → (i : ℕ) (xs : List X) → length (from i g xs) ≡ sum_by h xs
  length_from each i [] = refl
  length_from each i (x ∷ xs) = length-append (g i x) (from (i + 1) g xs) ∙ (λ j. each i x j + length_from each (i + 1) xs j) ∙ sym (sum_by-cons h x xs)

  kept_from : (test : Y → Bool) → ((i : ℕ) (x : X) → length (filter test (g i x)) ≡ h x) → (i : ℕ) (xs : List X) → length (filter test (from i g xs)) ≡ sum_by h xs
  kept_from test each i [] = refl
  kept_from test each i (x ∷ xs) = ap length (filter-append test (g i x) (from (i + 1) g xs)) ∙ length-append (filter test (g i x)) (filter test (from (i + 1) g xs))
      ∙ (λ j. each i x j + kept_from test each (i + 1) xs j) ∙ sym (sum_by-cons h x xs)

sum_both : {X : Type 0} (a b c : X → ℕ) → ((x : X) → a x + b x ≡ c x) → (xs : List X) → sum_by a xs + sum_by b xs ≡ sum_by c xs
sum_both a b c each [] = refl
sum_both a b c each (x ∷ xs) =
    let first = sum_by-cons a x xs in
    let second = sum_by-cons b x xs in
    let whole = sum_by-cons c x xs in
    let here = each x in
    let rest = sum_both a b c each xs in
    omega (arith, first, second, whole, here, rest)

-- ---- sites

abbrev counts : Site → Bool
counts s = is_counted s.kind

passing : {X : Type 0} (test : X → Bool) (F : ℕ → X) → ((n : ℕ) → test (F n) ≡ true) → (i n : ℕ) → length (filter test (map F (positions i n))) ≡ n
passing test F each i zero = refl
passing test F each i (suc n) = by (test (F i)) (each i) (passing test F each (i + 1) n)
  where
    by : (b : Bool) → b ≡ true → length (filter test (map F (positions (i + 1) n))) ≡ n
        → length (cond b (F i ∷ filter test (map F (positions (i + 1) n))) (filter test (map F (positions (i + 1) n)))) ≡ suc n
    by true is rest = ap (λ m. suc m) rest
    by false is rest = cc

failing : {X : Type 0} (test : X → Bool) (F : ℕ → X) → ((n : ℕ) → test (F n) ≡ false) → (i n : ℕ) → length (filter test (map F (positions i n))) ≡ 0
failing test F each i zero = refl
failing test F each i (suc n) = by (test (F i)) (each i) (failing test F each (i + 1) n)
  where
    by : (b : Bool) → b ≡ false → length (filter test (map F (positions (i + 1) n))) ≡ 0
        → length (cond b (F i ∷ filter test (map F (positions (i + 1) n))) (filter test (map F (positions (i + 1) n)))) ≡ 0
    by true is rest = cc
    by false is rest = rest

with_kind : (owner : Option ℕ) (k : ℕ) (kind : SiteKind) (count : ℕ) → length (filter counts (sites_with owner k kind count)) ≡ counted_with (kind, count)
with_kind owner k kind count = by (is_counted kind) refl
  where
    by : (b : Bool) → is_counted kind ≡ b → length (filter counts (sites_with owner k kind count)) ≡ cond b count 0
    by true is = passing counts (λ n. site owner (Some k) n kind) (λ n. is) 0 count
    by false is = failing counts (λ n. site owner (Some k) n kind) (λ n. is) 0 count

module _ (types : TypeTable) where
  at_port : (owner : Option ℕ) (k : ℕ) (port : Port) → length (filter counts (sites_at types owner k port)) ≡ items_at types owner port
  at_port owner k port = by (shape_at types owner port)
    where
      by : (o : Option (SiteKind × ℕ)) → length (filter counts (option_map_or (λ (x : SiteKind × ℕ). sites_with owner k x.0 x.1) o [])) ≡ option_map_or counted_with o 0
      by None = refl
      by (Some x) = with_kind owner k x.0 x.1

  at_ports : (owner : Option ℕ) (ports : List Port) → length (filter counts (sites_of_ports types owner ports)) ≡ items_of_ports types owner ports
  at_ports owner ports = kept_from (sites_at types owner) (items_at types owner) counts (at_port owner) 0 ports

  -- as many for each instance
  same_items : (i : ℕ) (side : PortKind) (kind : InterfaceKind) → counted_with (kind_at (Some i) side kind, count_at (Some i) side kind) ≡ counted_with (kind_at (Some 0) side kind, count_at (Some 0) side kind)
  same_items i Provided (SenderReceiver elements) = refl
  same_items i Provided (ClientServer operations) = refl
  same_items i Provided (ModeSwitch element) = refl
  same_items i Required (SenderReceiver elements) = refl
  same_items i Required (ClientServer operations) = refl
  same_items i Required (ModeSwitch element) = refl

  same_at : (i : ℕ) (port : Port) → items_at types (Some i) port ≡ items_at types (Some 0) port
  same_at i port = by (slice_get types.interfaces port.interface)
    where
      by : (o : Option Interface) → option_map_or counted_with (option_map (λ (x : Interface). (kind_at (Some i) port.kind x.kind, count_at (Some i) port.kind x.kind)) o) 0
          ≡ option_map_or counted_with (option_map (λ (x : Interface). (kind_at (Some 0) port.kind x.kind, count_at (Some 0) port.kind x.kind)) o) 0
      by None = refl
      by (Some x) = same_items i port.kind x.kind

  at_component : (i : ℕ) (c : Component) → length (filter counts (sites_of_component types i c)) ≡ items_of_ports types (Some 0) c.ports + length c.behavior.variables
  at_component i c = ap length (filter-append counts (sites_of_ports types (Some i) c.ports) (variables_of i (length c.behavior.variables)))
      ∙ length-append (filter counts (sites_of_ports types (Some i) c.ports)) (filter counts (variables_of i (length c.behavior.variables)))
      ∙ (λ j. (at_ports (Some i) c.ports ∙ (λ t. sum_by (λ port. same_at i port t) c.ports)) j
      + passing counts (λ n. site (Some i) None n Variable) (λ n. refl) 0 (length c.behavior.variables) j)

abbrev pub areas_in : Description → Instance → ℕ
areas_in d x = option_map_or (λ c. length c.behavior.exclusive_areas) (slice_get d.components x.component) 0

module _ (d : Description) where
  abbrev sites_in : Instance → ℕ
  sites_in x = option_map_or (λ c. items_of_ports d.types (Some 0) c.ports + length c.behavior.variables) (slice_get d.components x.component) 0

  at_instance : (i : ℕ) (x : Instance) → length (filter counts (sites_of_instance d i x)) ≡ sites_in x
  at_instance i x = by (slice_get d.components x.component)
    where
      by : (o : Option Component) → length (filter counts (option_map_or (sites_of_component d.types i) o [])) ≡ option_map_or (λ (c : Component). items_of_ports d.types (Some 0) c.ports + length c.behavior.variables) o 0
      by None = refl
      by (Some c) = at_component d.types i c

  with_areas : (x : Instance) → sites_in x + areas_in d x ≡ items_of_instance d x
  with_areas x = by (slice_get d.components x.component)
    where
      by : (o : Option Component) → option_map_or (λ (c : Component). items_of_ports d.types (Some 0) c.ports + length c.behavior.variables) o 0 + option_map_or (λ (c : Component). length c.behavior.exclusive_areas) o 0
          ≡ option_map_or (items_in d.types) o 0
      by None = refl
      by (Some c) = omega arith

  pub sites_counted : (f : Flat) → length (filter counts (sites d f)) + sum_by (areas_in d) f.instances ≡ item_count d f
  sites_counted f =
      let parts : length (filter counts (sites d f)) ≡ length (filter counts inner) + length (filter counts outer)
      = ap length (filter-append counts inner outer) ∙ length-append (filter counts inner) (filter counts outer) in
      let first : length (filter counts inner) ≡ sum_by sites_in f.instances = kept_from (sites_of_instance d) sites_in counts at_instance 0 f.instances in
      let second : length (filter counts outer) ≡ items_of_ports d.types None (root_ports d) = at_ports d.types None (root_ports d) in
      let both : sum_by sites_in f.instances + sum_by (areas_in d) f.instances ≡ sum_by (items_of_instance d) f.instances = sum_both sites_in (areas_in d) (items_of_instance d) with_areas f.instances in
      omega (arith, parts, first, second, both)
    where
      inner : List Site
      inner = from 0 (sites_of_instance d) f.instances

      outer : List Site
      outer = sites_of_ports d.types None (root_ports d)

-- elements, servers and machines are all that counts
pub by_kind : (xs : List Site) → length (filter (λ s. is_element s.kind) xs) + (length (filter (λ s. is_server s.kind) xs) + length (filter (λ s. is_machine s.kind) xs)) ≡ length (filter (λ s. is_counted s.kind) xs)
by_kind [] = refl
by_kind (x ∷ xs) = by x.kind (by_kind xs)
  where
    by : (k : SiteKind) → length (filter (λ s. is_element s.kind) xs) + (length (filter (λ s. is_server s.kind) xs) + length (filter (λ s. is_machine s.kind) xs)) ≡ length (filter (λ s. is_counted s.kind) xs)
        → length (cond (is_element k) (x ∷ filter (λ s. is_element s.kind) xs) (filter (λ s. is_element s.kind) xs))
        + (length (cond (is_server k) (x ∷ filter (λ s. is_server s.kind) xs) (filter (λ s. is_server s.kind) xs)) + length (cond (is_machine k) (x ∷ filter (λ s. is_machine s.kind) xs) (filter (λ s. is_machine s.kind) xs)))
        ≡ length (cond (is_counted k) (x ∷ filter (λ s. is_counted s.kind) xs) (filter (λ s. is_counted s.kind) xs))
    by (Element provided) rest = omega (arith, rest)
    by Variable rest = omega (arith, rest)
    by Server rest = omega (arith, rest)
    by Machine rest = omega (arith, rest)
    by ModePort rest = rest

-- the same by a list of counts
pub looked_up : {X : Type 0} (g : X → ℕ) (xs : List X) (n : ℕ) → unwrap_or (slice_get (map g xs) n) 0 ≡ option_map_or g (slice_get xs n) 0
looked_up g [] n = refl
looked_up g (x ∷ xs) zero = refl
looked_up g (x ∷ xs) (suc n) = looked_up g xs n

-- ---- points

call_counted : (i m : ℕ) (k : AccessKind) (port item : ℕ) → length (calling_of i m (record { kind = k; port = port; item = item })) ≡ points_at (record { kind = k; port = port; item = item })
call_counted i m kind.Write port item = refl
call_counted i m kind.Read port item = refl
call_counted i m kind.Invalidate port item = refl
call_counted i m kind.IsUpdated port item = refl
call_counted i m kind.Send port item = refl
call_counted i m kind.Receive port item = refl
call_counted i m kind.IWrite port item = refl
call_counted i m kind.IRead port item = refl
call_counted i m kind.IrvWrite port item = refl
call_counted i m kind.IrvRead port item = refl
call_counted i m kind.IrvIWrite port item = refl
call_counted i m kind.IrvIRead port item = refl
call_counted i m kind.Call port item = refl
call_counted i m kind.ACall port item = refl
call_counted i m kind.TakeResult port item = refl
call_counted i m kind.Switch port item = refl
call_counted i m kind.Mode port item = refl
call_counted i m kind.Enter port item = refl

calls_counted : (i m : ℕ) (accesses : List Access) → length (flat_map (calling_of i m) accesses) ≡ sum_by points_at accesses
calls_counted i m [] = refl
calls_counted i m (a ∷ accesses) =
    let one : length (calling_of i m a) ≡ points_at a = call_counted i m a.kind a.port a.item in
    omega (arith, length-append (calling_of i m a) (flat_map (calling_of i m) accesses), one, calls_counted i m accesses, sum_by-cons points_at a accesses)

at_outer : (d : Description) (k : ℕ) (side : PortKind) (name : List ℕ) (interface : ℕ) (specs : List ComSpec)
    → length (outer_callings d k (record { kind = side; short_name = name; interface = interface; com_specs = specs })) ≡ outer_points d (record { kind = side; short_name = name; interface = interface; com_specs = specs })
at_outer d k Provided name interface specs = as_many (outer_calling k) 0 (operations_at d (record { kind = Provided; short_name = name; interface = interface; com_specs = specs }))
at_outer d k Required name interface specs = refl

module _ (d : Description) (f : Flat) where
  pub callings_counted : length (callings d f) ≡ point_count d f
  callings_counted = length-append (of_instances callings_of_component d f) (from 0 (outer_callings d) (root_ports d)) ∙ (λ j. inner j + outer j)
    where
      each : (i : ℕ) (x : Instance) → length (option_map_or (callings_of_component i) (slice_get d.components x.component) []) ≡ points_of_instance d x
      each i x = by (slice_get d.components x.component)
        where
          by : (o : Option Component) → length (option_map_or (callings_of_component i) o []) ≡ option_map_or points_in o 0
          by None = refl
          by (Some c) = length_from (callings_in i) points_of_runnable (λ m (r : Runnable). calls_counted i m r.accesses) 0 c.behavior.runnables

      inner : length (of_instances callings_of_component d f) ≡ sum_by (points_of_instance d) f.instances
      inner = length_from (λ i (x : Instance). option_map_or (callings_of_component i) (slice_get d.components x.component) []) (points_of_instance d) each 0 f.instances

      outer : length (from 0 (outer_callings d) (root_ports d)) ≡ sum_by (outer_points d) (root_ports d)
      outer = length_from (outer_callings d) (outer_points d) (λ k (p : Port). at_outer d k p.kind p.short_name p.interface p.com_specs) 0 (root_ports d)
