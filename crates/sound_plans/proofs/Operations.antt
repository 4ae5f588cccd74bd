-- Points fit: an operation that is called without waiting has no other caller in its instance; a point has few arguments, of limits in range, and a joined one its server's.
use Rattle.std.proofs.Common.{◌≡◌, ℕ, ◌+◌, Bool, true, false, cond, ◌&&◌, ◌||◌, not, ◌==◌, refl, sym, ◌∙◌, ap, subst, arith, append_assoc, codes, List, [], ◌∷◌, ◌++◌, map, filter, length}
use Rattle.std.proofs.Common.{Option, Some, None, option_map, option_and_then, ◌⊎◌, inl, inr}
use Rattle.std.specs.Prelude.{nat_le}
use Rattle.bus_semantics.specs.Common.{slice_get, list_all, option_map_or, and_from, and_parts, eq-eqb, false≢true, or_cases, or_left, or_right, length-map, same_Some, Limits, same_number}
use Rattle.bus_semantics.specs.Common.{same_words, AccessKind, plan_of, look, every_from, instance_of, same_operation, points_fit, argument_limits, limits_fit, same_limits, is_letter}
use Rattle.bus_semantics.specs.Common.{is_name_part, is_name, is_in, same_numbers}
use Rattle.std.proofs.lemmas.Bool.Decides.{Decides-int_eq}
use Rattle.std.proofs.lemmas.List.Filters.{length-filter_both}
use Rattle.runnable_lang.specs.declared.program.AccessKind.TheVariants as kind
use Rattle.plan_definitions.specs.Common.{DataType, ApplicationError, Argument, Direction, In, Out, Interface, InterfaceKind, ClientServer, has_distinct_codes, is_sound, is_sound_argument}
use Rattle.plan_definitions.specs.Common.{Component, Port, Required, Composition, Description, End, Flat, item_at, arguments_of, goes, end_at, provider_of, end_key, component_of, root_ports}
use Rattle.plan_definitions.specs.Common.{ports_of, port_of, interface_of, item_name, item_text, server_number, callings, owner_of, argument_of, is_out, operation_in, point_of, point_words}
use Rattle.plan_definitions.specs.Common.{points, server_at, servers, IsWhole}
use Rattle.description_types.specs.declared.interface.Operation as declared_operation
use Rattle.bus_laws.specs.Common.{BusPlan, ElemPlan, PointPlan, ServerPlan, Mapping}
use Rattle.plan_definitions.specs.declared.item.Item.TheVariants.{Operation}
use Rattle.plan_definitions.specs.Signatures.{limits_of}
use Rattle.plan_definitions.specs.declared.calling.Calling.{Calling}
use Rattle.plan_definitions.specs.WellFormed as formed
use Rattle.plan_definitions.proofs.Lists.{same_numbers_is}
use Rattle.bus_laws.proofs.Thinning.{option_same}
use Rattle.sound_plans.proofs.Places.{not_some, all_if, all_at, every_if, looked, map_at, MapAt, mapped, kept_at, append_at, Later}
use Rattle.sound_plans.proofs.Members.{names_apart}
use Rattle.sound_plans.proofs.Parts.{Home, component_home, same_home}
use Rattle.sound_plans.proofs.Rules.{planned, plan_is, ports_formed, access_kept}
use Rattle.sound_plans.proofs.Serving.{invoked_by, server_there}
use Rattle.sound_plans.proofs.Servers.{argument_fits, operation_is, operation_kept}
use Rattle.sound_plans.proofs.Providers.{operation_by}
use Rattle.sound_plans.proofs.Points.{Calls, waits, goes_on, inner, outer, InnerCall, inner_call, OuterCall, outer_call, call_place, called_once}
use Rattle.sound_plans.proofs.Callers.{goes_is, home_of}
use Rattle.sound_plans.proofs.Direct.{outer_operation}
use Rattle.sound_plans.proofs.Fits.{Finds, finds}
use Rattle.sound_plans.proofs.Waits.{operation_required}

-- ---- names before and after a dot

abbrev Free : List ℕ → Type 0
Free [] = Unit {0}
Free (c ∷ cs) = (c ≡ 46 → ⊥) × Free cs

parts_free : (cs : List ℕ) → list_all is_name_part cs ≡ true → Free cs
parts_free [] e = tt
parts_free (c ∷ cs) e =
    let two = and_parts (is_name_part c) (list_all is_name_part cs) e in
    ((λ is. false≢true (ap is_name_part (sym is) ∙ two.0)), parts_free cs two.1)

name_free : (cs : List ℕ) → is_name cs ≡ true → Free cs
name_free [] e = tt
name_free (c ∷ cs) e =
    let two = and_parts (is_letter c) (list_all is_name_part cs && nat_le (length cs) 31) e in
    ((λ is. false≢true (ap is_letter (sym is) ∙ two.0)), parts_free cs (and_parts (list_all is_name_part cs) (nat_le (length cs) 31) two.1).0)

split : (a b s t : List ℕ) → Free a → Free b → a ++ 46 ∷ s ≡ b ++ 46 ∷ t → (a ≡ b) × (s ≡ t)
split [] [] s t u v e = (refl, cc e)
split [] (y ∷ b) s t u v e = let same : y ≡ 46 = cc e in absurd (v.0 same)
split (x ∷ a) [] s t u v e = let same : x ≡ 46 = cc e in absurd (u.0 same)
split (x ∷ a) (y ∷ b) s t u v e =
    let first : x ≡ y = cc e in
    let more : a ++ 46 ∷ s ≡ b ++ 46 ∷ t = cc e in
    let rest = split a b s t u.1 v.1 more in
    ((λ j. first j ∷ rest.0 j), rest.1)

pub text_parts : (a b s t : List ℕ) → is_name a ≡ true → is_name b ≡ true → (a ++ codes ".") ++ s ≡ (b ++ codes ".") ++ t → (a ≡ b) × (s ≡ t)
text_parts a b s t u v e = split a b s t (name_free a u) (name_free b v) (sym (append_assoc a (codes ".") s) ∙ e ∙ append_assoc b (codes ".") t)

-- ---- limits

pub words_itself : (l : Limits) → same_words (l.low ∷ l.high ∷ []) (l.low ∷ l.high ∷ []) ≡ true
words_itself l = and_from (Rattle.std.specs.Ordering.int_eq l.low l.low) _ ((Decides-int_eq l.low l.low).1 refl) (and_from (Rattle.std.specs.Ordering.int_eq l.high l.high) true ((Decides-int_eq l.high l.high).1 refl) refl)

pub limits_itself : (xs : List Limits) → same_limits xs xs ≡ true
limits_itself [] = refl
limits_itself (l ∷ xs) = and_from (same_words (l.low ∷ l.high ∷ []) (l.low ∷ l.high ∷ [])) (same_limits xs xs) (words_itself l) (limits_itself xs)

pub limits_same : (xs ys : List Limits) → xs ≡ ys → same_limits xs ys ≡ true
limits_same xs ys e = subst (λ zs. same_limits xs zs ≡ true) e (limits_itself xs)

in_limits : (d : Description) (xs : List Argument) → argument_limits false (map (argument_of d) xs) ≡ arguments_of d.types.data_types In xs
in_limits d [] = refl
in_limits d (a ∷ xs) = by a.direction (in_limits d xs)
  where
    by : (way : Direction) → argument_limits false (map (argument_of d) xs) ≡ arguments_of d.types.data_types In xs
        → cond (is_out way) (argument_limits false (map (argument_of d) xs)) (limits_of d.types.data_types a.of_type ∷ argument_limits false (map (argument_of d) xs))
        ≡ map (λ (x : Argument). limits_of d.types.data_types x.of_type) (cond (goes In (record { short_name = a.short_name; of_type = a.of_type; direction = way })) (a ∷ filter (goes In) xs) (filter (goes In) xs))
    by In e = ap (λ l. limits_of d.types.data_types a.of_type ∷ l) e
    by Out e = e

out_limits : (d : Description) (xs : List Argument) → argument_limits true (map (argument_of d) xs) ≡ arguments_of d.types.data_types Out xs
out_limits d [] = refl
out_limits d (a ∷ xs) = by a.direction (out_limits d xs)
  where
    by : (way : Direction) → argument_limits true (map (argument_of d) xs) ≡ arguments_of d.types.data_types Out xs
        → cond (is_out way) (limits_of d.types.data_types a.of_type ∷ argument_limits true (map (argument_of d) xs)) (argument_limits true (map (argument_of d) xs))
        ≡ map (λ (x : Argument). limits_of d.types.data_types x.of_type) (cond (goes Out (record { short_name = a.short_name; of_type = a.of_type; direction = way })) (a ∷ filter (goes Out) xs) (filter (goes Out) xs))
    by In e = e
    by Out e = ap (λ l. limits_of d.types.data_types a.of_type ∷ l) e

-- each argument goes one way
goes_other : (a : Argument) → goes Out a ≡ not (goes In a)
goes_other a = by a.direction
  where
    by : (way : Direction) → goes Out (record { short_name = a.short_name; of_type = a.of_type; direction = way }) ≡ not (goes In (record { short_name = a.short_name; of_type = a.of_type; direction = way }))
    by In = refl
    by Out = refl

arguments_count : (types : List DataType) (xs : List Argument) → length (arguments_of types In xs) + length (arguments_of types Out xs) ≡ length xs
arguments_count types xs =
    let ins : length (arguments_of types In xs) ≡ length (filter (goes In) xs) = length-map (filter (goes In) xs) (λ (a : Argument). limits_of types a.of_type) in
    let outs : length (arguments_of types Out xs) ≡ length (filter (goes Out) xs) = length-map (filter (goes Out) xs) (λ (a : Argument). limits_of types a.of_type) in
    (λ j. ins j + outs j) ∙ length-filter_both (goes In) (goes Out) goes_other xs

module _ (d : Description) (f : Flat) (p : BusPlan) (m : Mapping) (w : IsWhole d f p m) where
  -- ---- the names of operations

  -- an operation at a port of an owner
  pub record OperationAt (o : Option ℕ) (k n : ℕ) : Type 0 where
    pub all : List declared_operation.Operation
    pub is : interface_of d f o k ≡ Some (ClientServer all)
    pub operation : declared_operation.Operation
    pub there : slice_get all n ≡ Some operation

  owner_ports : (o : Option ℕ) (k : ℕ) (port : Port) → port_of d f o k ≡ Some port → formed.ports_fit d.types (ports_of d f o) ≡ true
  owner_ports None k port there = by (slice_get d.compositions d.root) refl there
    where
      by : (x : Option Composition) → slice_get d.compositions d.root ≡ x → slice_get (option_map_or (λ (c : Composition). c.ports) x []) k ≡ Some port → formed.ports_fit d.types (option_map_or (λ (c : Composition). c.ports) x []) ≡ true
      by None is at = absurd (cc at)
      by (Some c) is at = (and_parts (formed.ports_fit d.types c.ports) _ (all_at (formed.composition_fits d) d.compositions d.root c w.well_formed.compositions is)).0
  owner_ports (Some i) k port there = by (component_of d f i) refl there
    where
      by : (x : Option Component) → component_of d f i ≡ x → slice_get (option_map_or (λ (c : Component). c.ports) x []) k ≡ Some port → formed.ports_fit d.types (option_map_or (λ (c : Component). c.ports) x []) ≡ true
      by None is at = absurd (cc at)
      by (Some c) is at = let h = component_home d f i c is in ports_formed d f p m w h.instance.component c h.has

  record PortHas (o : Option ℕ) (k : ℕ) (kind : InterfaceKind) : Type 0 where
    port : Port
    there : port_of d f o k ≡ Some port
    interface : Interface
    has : slice_get d.types.interfaces port.interface ≡ Some interface
    is : interface.kind ≡ kind

  port_has : (o : Option ℕ) (k : ℕ) (kind : InterfaceKind) → interface_of d f o k ≡ Some kind → PortHas o k kind
  port_has o k kind e = by (port_of d f o k) refl e
    where
      by_interface : (port : Port) → port_of d f o k ≡ Some port → (x : Option Interface) → slice_get d.types.interfaces port.interface ≡ x → option_map (λ (i : Interface). i.kind) x ≡ Some kind → PortHas o k kind
      by_interface port there None has e = not_some kind e
      by_interface port there (Some i) has e = record { port = port; there = there; interface = i; has = has; is = same_Some i.kind kind e }

      by : (x : Option Port) → port_of d f o k ≡ x → option_map (λ (i : Interface). i.kind) (option_and_then (λ (q : Port). slice_get d.types.interfaces q.interface) x) ≡ Some kind → PortHas o k kind
      by None there e = not_some kind e
      by (Some port) there e = by_interface port there (slice_get d.types.interfaces port.interface) refl e

  operation_names : (all : List declared_operation.Operation) → List (List ℕ)
  operation_names all = map (λ (x : declared_operation.Operation). x.short_name) all

  names_formed : (o : Option ℕ) (k : ℕ) (all : List declared_operation.Operation) → PortHas o k (ClientServer all) → formed.names_fit (operation_names all) ≡ true
  unfolding operation_names
  names_formed o k all x =
      let kinds = (and_parts (list_all formed.group_fits d.types.mode_groups) (list_all (λ (i : Interface). formed.kind_fits d.types i.kind) d.types.interfaces) (and_parts (list_all formed.type_fits d.types.data_types) _ w.well_formed.types).1).1 in
      let kept : formed.kind_fits d.types (ClientServer all) ≡ true = subst (λ k. formed.kind_fits d.types k ≡ true) x.is (all_at (λ (i : Interface). formed.kind_fits d.types i.kind) d.types.interfaces x.port.interface x.interface kinds x.has) in
      (and_parts (formed.names_fit (map (λ (x : declared_operation.Operation). x.short_name) all)) (list_all (formed.operation_fits d.types.data_types) all) kept).0

  port_named : (o : Option ℕ) (k : ℕ) (port : Port) → port_of d f o k ≡ Some port → is_name port.short_name ≡ true
  port_named o k port there =
      all_at is_name (map (λ (x : Port). x.short_name) (ports_of d f o)) k port.short_name
      (and_parts (list_all is_name (map (λ (x : Port). x.short_name) (ports_of d f o))) (formed.distinct (map (λ (x : Port). x.short_name) (ports_of d f o)))
      (and_parts (formed.names_fit (map (λ (x : Port). x.short_name) (ports_of d f o))) (list_all (formed.port_fits d.types) (ports_of d f o)) (owner_ports o k port there)).0).0
      (mapped (λ (x : Port). x.short_name) (ports_of d f o) k port there)

  text_is : (o : Option ℕ) (k n : ℕ) (x : OperationAt o k n) (h : PortHas o k (ClientServer x.all)) → item_text d f o k n ≡ (h.port.short_name ++ codes ".") ++ x.operation.short_name
  text_is o k n x h = λ j. ((ap (λ z. option_map_or (λ (y : Port). y.short_name) z []) h.there) j ++ codes ".") ++ (ap (λ z. option_map_or (λ y. item_name y n) z []) x.is ∙ ap (λ z. option_map_or (λ (y : declared_operation.Operation). y.short_name) z []) x.there) j

  -- one name is of one operation
  pub names_one : (o : Option ℕ) (a b i j : ℕ) → OperationAt o a i → OperationAt o b j → item_text d f o a i ≡ item_text d f o b j → (a ≡ b) × (i ≡ j)
  unfolding operation_names
  names_one o a b i j x y e =
      let g = port_has o a (ClientServer x.all) x.is in
      let h = port_has o b (ClientServer y.all) y.is in
      let texts = text_parts g.port.short_name h.port.short_name x.operation.short_name y.operation.short_name (port_named o a g.port g.there) (port_named o b h.port h.there) (sym (text_is o a i x g) ∙ e ∙ text_is o b j y h) in
      let names = and_parts (list_all is_name (map (λ (x : Port). x.short_name) (ports_of d f o))) (formed.distinct (map (λ (x : Port). x.short_name) (ports_of d f o)))
      (and_parts (formed.names_fit (map (λ (x : Port). x.short_name) (ports_of d f o))) (list_all (formed.port_fits d.types) (ports_of d f o)) (owner_ports o a g.port g.there)).0 in
      let ports : a ≡ b = names_apart (map (λ (x : Port). x.short_name) (ports_of d f o)) a b g.port.short_name names.1 (mapped (λ (x : Port). x.short_name) (ports_of d f o) a g.port g.there)
      (mapped (λ (x : Port). x.short_name) (ports_of d f o) b h.port h.there ∙ ap (λ z. Some z) (sym texts.0)) in
      let lists : ClientServer x.all ≡ ClientServer y.all = same_Some (ClientServer x.all) (ClientServer y.all) (sym x.is ∙ ap (interface_of d f o) ports ∙ y.is) in
      let same : x.all ≡ y.all = cc lists in
      let at_y : slice_get x.all j ≡ Some y.operation = subst (λ l. slice_get l j ≡ Some y.operation) (sym same) y.there in
      let formed_names = and_parts (list_all is_name (map (λ (x : declared_operation.Operation). x.short_name) x.all)) (formed.distinct (map (λ (x : declared_operation.Operation). x.short_name) x.all)) (names_formed o a x.all g) in (
        ports,
        names_apart (map (λ (x : declared_operation.Operation). x.short_name) x.all) i j x.operation.short_name formed_names.1 (mapped (λ (x : declared_operation.Operation). x.short_name) x.all i x.operation x.there)
            (mapped (λ (x : declared_operation.Operation). x.short_name) x.all j y.operation at_y ∙ ap (λ z. Some z) (sym texts.1)),
      )

  -- ---- what a point calls

  call_found : (i : ℕ) (c : Component) → Home d f i c → (k : AccessKind) (b : Bool) → Calls k b → (port item : ℕ) → Finds d.types c.ports k port item → item_at d.types c.ports port item ≡ Some (Required, Operation)
  call_found i c home _ _ waits port item x = x.there ∙ (λ j. Some (x.needed.0 j, x.needed.1 j))
  call_found i c home _ _ goes_on port item x = x.there ∙ (λ j. Some (x.needed.0 j, x.needed.1 j))

  call_names : (k : AccessKind) (b : Bool) → Calls k b → Rattle.plan_definitions.specs.Accesses.names_port k ≡ true
  call_names _ _ waits = refl
  call_names _ _ goes_on = refl

  pub inner_operation : (q : ℕ) (y : Calling) (z : InnerCall d f q y) → OperationAt (Some z.i) z.access.port z.access.item
  inner_operation q y z =
      let x = operation_required d f p m w z.i z.c z.home z.access.port z.access.item
      (call_found z.i z.c z.home z.access.kind z.is.asynchronous z.is.calls z.access.port z.access.item
      (finds d.types z.c.ports z.access (access_kept d f p m w z.home.instance.component z.c z.home.has z.m z.runnable z.j z.access z.there z.here) (call_names z.access.kind z.is.asynchronous z.is.calls))) in
      record { all = x.all; is = x.is; operation = x.operation; there = x.there }

  outer_at : (q : ℕ) (y : Calling) (z : OuterCall d f q y) → OperationAt None z.k z.n
  outer_at q y z = let x = outer_operation d f p m w z.k z.port z.n z.there z.within in record { all = x.all; is = x.is; operation = x.operation; there = x.there }

  -- the words of a point
  pub words_are : (way : Direction) (y : Calling) (x : OperationAt (owner_of y) y.port y.item) → point_words d f way y ≡ arguments_of d.types.data_types way x.operation.arguments
  words_are way y x = ap (λ o. option_map_or (λ (z : declared_operation.Operation). arguments_of d.types.data_types way z.arguments) (option_and_then (λ kind. operation_in kind y.item) o) []) x.is
      ∙ ap (λ o. option_map_or (λ (z : declared_operation.Operation). arguments_of d.types.data_types way z.arguments) o []) x.there

  -- ---- the limits of a point

  limits_kept : (way : Direction) (xs : List Argument) → list_all (is_sound_argument d.types.data_types) xs ≡ true → list_all limits_fit (arguments_of d.types.data_types way xs) ≡ true
  limits_kept way xs each = all_if limits_fit (arguments_of d.types.data_types way xs)
      (λ j l at.
      let y = map_at (λ (a : Argument). limits_of d.types.data_types a.of_type) (filter (goes way) xs) j l at in
      let x = kept_at (goes way) xs j y.item y.there in
      subst (λ u. limits_fit u ≡ true) (sym y.is) (argument_fits d f p m w y.item (all_at (is_sound_argument d.types.data_types) xs x.place y.item each x.there)))

  abbrev few_words : List Limits → List Limits → Bool
  few_words ins outs = nat_le (length ins + length outs) 16 && (list_all limits_fit ins && list_all limits_fit outs)

  few_arguments : (xs : List Argument) → nat_le (length xs) 16 ≡ true → list_all (is_sound_argument d.types.data_types) xs ≡ true → few_words (arguments_of d.types.data_types In xs) (arguments_of d.types.data_types Out xs) ≡ true
  few_arguments xs few each =
      and_from (nat_le (length (arguments_of d.types.data_types In xs) + length (arguments_of d.types.data_types Out xs)) 16) _
      (ap (λ n. nat_le n 16) (arguments_count d.types.data_types xs) ∙ few)
      (and_from (list_all limits_fit (arguments_of d.types.data_types In xs)) (list_all limits_fit (arguments_of d.types.data_types Out xs)) (limits_kept In xs each) (limits_kept Out xs each))

  few_here : (y : Calling) → OperationAt (owner_of y) y.port y.item → few_words (point_words d f In y) (point_words d f Out y) ≡ true
  few_here y x =
      let h = port_has (owner_of y) y.port (ClientServer x.all) x.is in
      let kept = operation_kept d f p m w h.port.interface h.interface x.all y.item x.operation h.has h.is x.there in
      let sound = (and_parts (is_sound d.types.data_types x.operation) (list_all (λ (e : ApplicationError). is_in 1 63 e.code) x.operation.errors) kept).0 in
      let parts = and_parts (nat_le (length x.operation.arguments) 16) (list_all (is_sound_argument d.types.data_types) x.operation.arguments && has_distinct_codes x.operation.errors) sound in
      let each = (and_parts (list_all (is_sound_argument d.types.data_types) x.operation.arguments) (has_distinct_codes x.operation.errors) parts.1).0 in
      (λ j. few_words (words_are In y x j) (words_are Out y x j)) ∙ few_arguments x.operation.arguments parts.0 each

  module _ (es : List ElemPlan) where
    abbrev of_runnable : Option ℕ → Option ℕ
    of_runnable None = None
    of_runnable (Some r) = instance_of (planned d f es) r

    inner_home : (q : ℕ) (y : Calling) (z : InnerCall d f q y) → of_runnable (point_of d f y).runnable ≡ Some z.i
    inner_home q y z = ap (λ (u : Calling). of_runnable (point_of d f u).runnable) z.is.is ∙ home_of d f p m w es z.i z.c z.home z.m z.runnable z.there

    outer_home : (q : ℕ) (y : Calling) → OuterCall d f q y → of_runnable (point_of d f y).runnable ≡ None
    outer_home q y z = ap (λ (u : Calling). of_runnable (point_of d f u).runnable) z.is

    -- ---- one operation, one caller

    -- two calls of an instance by one name: the component, the port and the item are the same
    pub record SameCalled (i j : ℕ) (y u : Calling) (z : InnerCall d f i y) (v : InnerCall d f j u) : Type 0 where
      pub home : z.i ≡ v.i
      pub component : z.c ≡ v.c
      pub port : z.access.port ≡ v.access.port
      pub item : z.access.item ≡ v.access.item

    pub same_called : (i j : ℕ) (y u : Calling) (z : InnerCall d f i y) (v : InnerCall d f j u) → z.i ≡ v.i → same_numbers (point_of d f y).name (point_of d f u).name ≡ true → SameCalled i j y u z v
    same_called i j y u z v homes same =
        let text : item_text d f (Some z.i) z.access.port z.access.item ≡ item_text d f (Some z.i) v.access.port v.access.item =
        ap (λ (c : Calling). (point_of d f c).name) (sym z.is.is) ∙ same_numbers_is (point_of d f y).name (point_of d f u).name same ∙ ap (λ (c : Calling). (point_of d f c).name) v.is.is ∙ ap (λ n. item_text d f (Some n) v.access.port v.access.item) (sym homes) in
        let at_v : OperationAt (Some z.i) v.access.port v.access.item = subst (λ n. OperationAt (Some n) v.access.port v.access.item) (sym homes) (inner_operation j u v) in
        let operation = names_one (Some z.i) z.access.port v.access.port z.access.item v.access.item (inner_operation i y z) at_v text in
        record { home = homes; component = same_home d f v.i z.c v.c (subst (λ n. Home d f n z.c) homes z.home) v.home; port = operation.0; item = operation.1 }

    -- and where they stand at one access of one runnable, they are one call
    pub same_access : (i j : ℕ) (y u : Calling) (z : InnerCall d f i y) (v : InnerCall d f j u) → SameCalled i j y u z v → (z.m ≡ v.m) × (z.j ≡ v.j) → i ≡ j
    same_access i j y u z v x same =
        let there : slice_get z.c.behavior.runnables v.m ≡ Some v.runnable = subst (λ (c : Component). slice_get c.behavior.runnables v.m ≡ Some v.runnable) (sym x.component) v.there in
        let runnable : z.runnable ≡ v.runnable = same_Some z.runnable v.runnable (sym z.there ∙ ap (slice_get z.c.behavior.runnables) same.0 ∙ there) in
        z.place ∙ (λ t. call_place d f (x.home t) (x.component t) (same.0 t) (runnable t) (same.1 t)) ∙ sym v.place

    same_inner : (i j : ℕ) (y u : Calling) (z : InnerCall d f i y) (v : InnerCall d f j u) → same_operation (planned d f es) (point_of d f y) (point_of d f u) ≡ true → (y.asynchronous || u.asynchronous) ≡ true → i ≡ j
    same_inner i j y u z v same goes =
        let two = and_parts (same_numbers (point_of d f y).name (point_of d f u).name) (same_number (of_runnable (point_of d f y).runnable) (of_runnable (point_of d f u).runnable)) same in
        let homes : z.i ≡ v.i = same_Some z.i v.i (sym (inner_home i y z) ∙ option_same (of_runnable (point_of d f y).runnable) (of_runnable (point_of d f u).runnable) two.1 ∙ inner_home j u v) in
        let x = same_called i j y u z v homes two.0 in
        let there : slice_get z.c.behavior.runnables v.m ≡ Some v.runnable = subst (λ (c : Component). slice_get c.behavior.runnables v.m ≡ Some v.runnable) (sym x.component) v.there in
        by_goes (or_cases y.asynchronous u.asynchronous goes) x there
      where
        goes_on_at : (k : AccessKind) (b : Bool) → Calls k b → b ≡ true → k ≡ kind.ACall
        goes_on_at k b calls is = goes_is k (subst (λ x. Calls k x) is calls)

        by_goes : (y.asynchronous ≡ true) ⊎ (u.asynchronous ≡ true) → SameCalled i j y u z v → slice_get z.c.behavior.runnables v.m ≡ Some v.runnable → i ≡ j
        by_goes (inl a) x there =
            same_access i j y u z v x (called_once d f p m w z.home.instance.component z.c z.home.has z.m v.m z.runnable v.runnable z.there there z.j v.j z.access v.access z.here v.here
            (goes_on_at z.access.kind z.is.asynchronous z.is.calls (ap (λ (c : Calling). c.asynchronous) (sym z.is.is) ∙ a)) v.is.asynchronous v.is.calls x.port x.item)
        by_goes (inr a) x there =
            let back = called_once d f p m w z.home.instance.component z.c z.home.has v.m z.m v.runnable z.runnable there z.there v.j z.j v.access z.access v.here z.here
            (goes_on_at v.access.kind v.is.asynchronous v.is.calls (ap (λ (c : Calling). c.asynchronous) (sym v.is.is) ∙ a)) z.is.asynchronous z.is.calls (sym x.port) (sym x.item) in
            same_access i j y u z v x (sym back.0, sym back.1)

    -- the environment has one point of a name
    pub same_outer : (i j : ℕ) (y u : Calling) → OuterCall d f i y → OuterCall d f j u → same_numbers (point_of d f y).name (point_of d f u).name ≡ true → i ≡ j
    same_outer i j y u z v same =
        let text : item_text d f None z.k z.n ≡ item_text d f None v.k v.n = ap (λ (c : Calling). (point_of d f c).name) (sym z.is) ∙ same_numbers_is (point_of d f y).name (point_of d f u).name same ∙ ap (λ (c : Calling). (point_of d f c).name) v.is in
        let operation = names_one None z.k v.k z.n v.n (outer_at i y z) (outer_at j u v) text in
        z.place ∙ (λ t. length (inner d f) + (Rattle.sound_plans.proofs.Places.before (Rattle.plan_definitions.specs.Callings.outer_callings d) 0 (root_ports d) (operation.0 t) + operation.1 t)) ∙ sym v.place

    apart : (i j : ℕ) (y u : Calling) → slice_get (callings d f) i ≡ Some y → slice_get (callings d f) j ≡ Some u → same_operation (planned d f es) (point_of d f y) (point_of d f u) ≡ true → (y.asynchronous || u.asynchronous) ≡ true → i ≡ j
    apart i j y u at_i at_j same goes = by (append_at (inner d f) (outer d f) i y at_i) (append_at (inner d f) (outer d f) j u at_j)
      where
        homes : of_runnable (point_of d f y).runnable ≡ of_runnable (point_of d f u).runnable
        homes = option_same (of_runnable (point_of d f y).runnable) (of_runnable (point_of d f u).runnable) (and_parts (same_numbers (point_of d f y).name (point_of d f u).name) (same_number (of_runnable (point_of d f y).runnable) (of_runnable (point_of d f u).runnable)) same).1

        by : (slice_get (inner d f) i ≡ Some y) ⊎ Later Calling (inner d f) (outer d f) i y → (slice_get (inner d f) j ≡ Some u) ⊎ Later Calling (inner d f) (outer d f) j u → i ≡ j
        by (inl a) (inl b) = same_inner i j y u (inner_call d f i y a) (inner_call d f j u b) same goes
        by (inr a) (inr b) = same_outer i j y u (outer_call d f i y a) (outer_call d f j u b)
            (and_parts (same_numbers (point_of d f y).name (point_of d f u).name) (same_number (of_runnable (point_of d f y).runnable) (of_runnable (point_of d f u).runnable)) same).0
        by (inl a) (inr b) = let z = inner_call d f i y a in not_some z.i (sym (outer_home j u (outer_call d f j u b)) ∙ sym homes ∙ inner_home i y z)
        by (inr a) (inl b) = let z = inner_call d f j u b in not_some z.i (sym (outer_home i y (outer_call d f i y a)) ∙ homes ∙ inner_home j u z)

    one_caller : (i : ℕ) (s : PointPlan) → slice_get (points d f) i ≡ Some s → (j : ℕ) (t : PointPlan) → slice_get (points d f) j ≡ Some t → ((i == j) || (not (same_operation (planned d f es) s t) || not (s.asynchronous || t.asynchronous))) ≡ true
    one_caller i s at_i j t at_j =
        subst (λ (s : PointPlan). ((i == j) || (not (same_operation (planned d f es) s t) || not (s.asynchronous || t.asynchronous))) ≡ true) (sym y.is)
        (subst (λ (t : PointPlan). ((i == j) || (not (same_operation (planned d f es) (point_of d f y.item) t) || not (y.item.asynchronous || t.asynchronous))) ≡ true) (sym u.is)
        (by (same_operation (planned d f es) (point_of d f y.item) (point_of d f u.item)) (y.item.asynchronous || u.item.asynchronous) refl refl))
      where
        y : MapAt Calling PointPlan (point_of d f) (callings d f) i s
        y = map_at (point_of d f) (callings d f) i s at_i

        u : MapAt Calling PointPlan (point_of d f) (callings d f) j t
        u = map_at (point_of d f) (callings d f) j t at_j

        by : (a b : Bool) → same_operation (planned d f es) (point_of d f y.item) (point_of d f u.item) ≡ a → (y.item.asynchronous || u.item.asynchronous) ≡ b → ((i == j) || (not a || not b)) ≡ true
        by false b same goes = or_right (i == j) true refl
        by true false same goes = or_right (i == j) true refl
        by true true same goes = or_left (i == j) false (eq-eqb i j (apart i j y.item u.item y.there u.there same goes))

    -- ---- arguments

    abbrev arguments_fit : PointPlan → Option ℕ → Bool
    arguments_fit t None = true
    arguments_fit t (Some s) = look (servers d f) s (λ (v : ServerPlan). same_limits t.ins (argument_limits false v.arguments) && same_limits t.outs (argument_limits true v.arguments)) false

    server_arguments : (y : Calling) (x : OperationAt (owner_of y) y.port y.item) (o : Option End) → provider_of f.joins (end_at (owner_of y) y.port y.item) ≡ o → arguments_fit (point_of d f y) (option_map (λ e. server_number d f (end_key e)) o) ≡ true
    server_arguments y x None is = refl
    server_arguments y x (Some e) is =
        let by = operation_by d f p m w (owner_of y) y.port y.item x.all x.operation x.is x.there e is in
        let v = invoked_by d f p m w by.home.instance.component by.c by.home.has e.port e.element by.provides in
        let there : slice_get (servers d f) (server_number d f (end_key e)) ≡ Some (server_at d f by.i e.port e.element v.place) =
        ap (λ o. slice_get (servers d f) (server_number d f (o, Some e.port, e.element))) by.owner ∙ server_there d f p m w by.i by.c by.home e.port e.element v.place v.event v.there v.kind in
        let s = server_at d f by.i e.port e.element v.place in
        let arguments : s.arguments ≡ map (argument_of d) by.provides.operation.arguments = ap (λ o. option_map_or (λ (z : declared_operation.Operation). map (argument_of d) z.arguments) o []) (operation_is d f p m w by.i by.c by.home e.port e.element by.provides) in
        looked (servers d f) (server_number d f (end_key e)) s (λ (v : ServerPlan). same_limits (point_words d f In y) (argument_limits false v.arguments) && same_limits (point_words d f Out y) (argument_limits true v.arguments)) false there
        ∙ and_from (same_limits (point_words d f In y) (argument_limits false s.arguments)) (same_limits (point_words d f Out y) (argument_limits true s.arguments))
        (limits_same (point_words d f In y) (argument_limits false s.arguments) (words_are In y x ∙ sym (by.serves.arguments In) ∙ sym (in_limits d by.provides.operation.arguments) ∙ ap (argument_limits false) (sym arguments)))
        (limits_same (point_words d f Out y) (argument_limits true s.arguments) (words_are Out y x ∙ sym (by.serves.arguments Out) ∙ sym (out_limits d by.provides.operation.arguments) ∙ ap (argument_limits true) (sym arguments)))

    abbrev are_few : PointPlan → Bool
    are_few t = few_words t.ins t.outs

    point_fits : (y : Calling) → OperationAt (owner_of y) y.port y.item → (are_few (point_of d f y) && arguments_fit (point_of d f y) (point_of d f y).server) ≡ true
    point_fits y x =
        and_from (are_few (point_of d f y)) (arguments_fit (point_of d f y) (point_of d f y).server) (few_here y x)
        (server_arguments y x (provider_of f.joins (end_at (owner_of y) y.port y.item)) refl)

    arguments_here : (q : ℕ) (t : PointPlan) → slice_get (points d f) q ≡ Some t → (are_few t && arguments_fit t t.server) ≡ true
    arguments_here q t at =
        let y = map_at (point_of d f) (callings d f) q t at in
        subst (λ (u : PointPlan). (are_few u && arguments_fit u u.server) ≡ true) (sym y.is) (by y.item (append_at (inner d f) (outer d f) q y.item y.there))
      where
        by : (y : Calling) → (slice_get (inner d f) q ≡ Some y) ⊎ Later Calling (inner d f) (outer d f) q y → (are_few (point_of d f y) && arguments_fit (point_of d f y) (point_of d f y).server) ≡ true
        by y (inl a) = let z = inner_call d f q y a in point_fits y (subst (λ (u : Calling). OperationAt (owner_of u) u.port u.item) (sym z.is.is) (inner_operation q y z))
        by y (inr l) = let z = outer_call d f q y l in point_fits y (subst (λ (u : Calling). OperationAt (owner_of u) u.port u.item) (sym z.is) (outer_at q y z))

    all_fit : points_fit (planned d f es) ≡ true
    all_fit =
        and_from (every_from 0 (λ i (a : PointPlan). every_from 0 (λ j (c : PointPlan). (i == j) || (not (same_operation (planned d f es) a c) || not (a.asynchronous || c.asynchronous))) (points d f)) (points d f)) _
        (every_if (λ i (a : PointPlan). every_from 0 (λ j (c : PointPlan). (i == j) || (not (same_operation (planned d f es) a c) || not (a.asynchronous || c.asynchronous))) (points d f)) 0 (points d f)
        (λ i a s. let none : i ≡ 0 + i = omega arith in
        subst (λ k. every_from 0 (λ j (c : PointPlan). (k == j) || (not (same_operation (planned d f es) a c) || not (a.asynchronous || c.asynchronous))) (points d f) ≡ true) none
        (every_if (λ j (c : PointPlan). (i == j) || (not (same_operation (planned d f es) a c) || not (a.asynchronous || c.asynchronous))) 0 (points d f)
        (λ j c t. let nought : j ≡ 0 + j = omega arith in
        subst (λ k. ((i == k) || (not (same_operation (planned d f es) a c) || not (a.asynchronous || c.asynchronous))) ≡ true) nought (one_caller i a s j c t)))))
        (all_if (λ (t : PointPlan). are_few t && arguments_fit t t.server) (points d f) arguments_here)

pub operations_sound : (d : Description) (f : Flat) (p : BusPlan) (m : Mapping) → IsWhole d f p m → points_fit (plan_of p) ≡ true
operations_sound d f p m w = (λ j. points_fit (plan_is d f p w.is_plan j)) ∙ all_fit d f p m w p.elements
