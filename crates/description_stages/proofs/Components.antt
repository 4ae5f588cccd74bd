-- What the components of a description keep.
use Rattle.std.proofs.Common.{◌≡◌, ℕ, suc, List, [], ◌∷◌, map, length, Bool, true, false, ◌&&◌, ◌||◌, eqb, ltb, codes, Some, refl, sym, ap, subst, ◌∙◌, Option}
use Rattle.bus_semantics.specs.Common.{arc_value, list_all, list_any, slice_get, option_map_or, unwrap_or, and_parts, and_from, list_all-map, slice_get-map, length-map, AccessKind}
use Rattle.bus_semantics.specs.Common.{program_tree, is_well_formed}
use mathlib.Core.List.{map-map}
use Rattle.serde_json.specs.Data.{Data, null, array, Items, no_items, item}
use Rattle.serde_json.specs.Find.{get, get_item}
use Rattle.runnable_lang.specs.declared.program.AccessKind.TheVariants as kind
use Rattle.description_shapes.specs.declared.kind.Kind.TheVariants as of_kind
use Rattle.description_shapes.specs.declared.kind.Kind.TheVariants.{Description}
use Rattle.description_places.specs.Distinct.{stands_before}
use Rattle.description_places.specs.declared.catalogs.Catalog.{Catalog}
use Rattle.description_places.specs.Catalogs.{access_firsts, catalog_of}
use Rattle.description_places.specs.declared.catalogs.ComponentLists.{ComponentLists}
use Rattle.description_shapes.specs.Keys.{needed, optional}
use Rattle.description_shapes.specs.Names.{is_name}
use Rattle.description_shapes.specs.Spots.{Spot, top, inside, inside_part}
use Rattle.plan_definitions.specs.Common.{Interface, TypeTable, is_sound, operations_in, Component, DisabledInModes, Event, EventKind, Timing, Init, DataReceived, OperationInvoked}
use Rattle.plan_definitions.specs.Common.{CallReturns, ModeSwitchedAck, Port, Runnable, Variable, keeps, accesses_distinct, arguments_at, component_fits, event_fits, event_kind_fits}
use Rattle.plan_definitions.specs.Common.{names_fit, ports_fit, runnable_fits, serves_fit, variable_fits}
use Rattle.description_types.specs.declared.component.EventKind.TheVariants.{ModeSwitch}
use Rattle.declared_names.specs.declared.in_component.ComponentNames.{ComponentNames}
use Rattle.declared_names.specs.declared.scopes.InterfaceNames.{InterfaceNames}
use Rattle.declared_names.specs.Components.{component_names}
use Rattle.declared_names.specs.Names.{position_in, texts}
use Rattle.declared_names.specs.Scopes.{interface_names, scope_of, type_names}
use Rattle.declared_names.specs.Values.{items_at, listed, text_at, text_in}
use Rattle.component_model.specs.Components.{access_reading, event_reading, variable_reading}
use Rattle.component_model.specs.Ports.{port_reading}
use Rattle.component_model.specs.Programs.{behavior_in, behavior_reading, component_reading, component_tree, ComponentTree, first_names, invoked_events, runnable_names, runnable_reading}
use Rattle.component_model.specs.Programs.{runnable_tree, RunnableTree}
use Rattle.component_model.specs.Types.{types_reading}
use Rattle.plan_definitions.specs.WellFormed.{access_fits}
use Rattle.description_stages.proofs.Accesses.{access_low, accesses_law}
use Rattle.description_stages.proofs.Events.{event_low, events_law, kind_low, disabled_low}
use Rattle.description_stages.proofs.Kept.{Kept, kept_part, repeated_here}
use Rattle.description_stages.proofs.Lists.{list_all_more}
use Rattle.description_stages.proofs.Naming.{all_listed, names_kept, Objects, on_list, short_names_fit}
use Rattle.description_stages.proofs.PortItems.{owned_is, ports_by_place}
use Rattle.description_stages.proofs.Ports.{ports_law}
use Rattle.description_stages.proofs.Positions.{items_there, made_at}
use Rattle.description_stages.proofs.Programs.{program_law}
use Rattle.description_stages.proofs.Servers.{servers_law, serves_in, map_or_map}
use Rattle.description_stages.proofs.Serving.{all_well, well, with_served}
use Rattle.description_stages.proofs.Shorts.{at_name, name_value, needed_value, Value}
use Rattle.description_stages.proofs.Types.{typed}
use Rattle.description_stages.proofs.Unbroken.{all_at, ports_keep, variables_keep}

-- ---- what is wanted of a component with its programs as trees

abbrev pub runnable_low : TypeTable → List Port → (variables areas : ℕ) → RunnableTree → Bool
runnable_low t ps nv na r = (list_all (access_low t ps nv na) r.accesses && accesses_distinct r.accesses) && is_well_formed r.program

pub record TreeFits (t : TypeTable) (c : ComponentTree) : Type 0 where
  pub ports : ports_fit t c.ports ≡ true
  pub areas : names_fit c.behavior.exclusive_areas ≡ true
  pub variables : (names_fit (map (λ (v : Variable). v.short_name) c.behavior.variables) && list_all (variable_fits t) c.behavior.variables) ≡ true
  pub runnables : (names_fit (map (λ (r : RunnableTree). r.short_name) c.behavior.runnables)
      && list_all (runnable_low t c.ports (length c.behavior.variables) (length c.behavior.exclusive_areas)) c.behavior.runnables) ≡ true
  pub events : (names_fit (map (λ (e : Event). e.short_name) c.behavior.events) && list_all (event_low t c.ports (length c.behavior.runnables)) c.behavior.events) ≡ true
  pub servers : all_well (serves_in t c.ports c.behavior.runnables) c.behavior.events [] ≡ true

-- ---- from such a tree to the component that it is of

module _ (t : TypeTable) (c : Component) where
  abbrev runnables : List RunnableTree
  runnables = map runnable_tree c.behavior.runnables

  access_so : (k : AccessKind) (p n : ℕ) → access_low t c.ports (length c.behavior.variables) (length c.behavior.exclusive_areas) (record { kind = k; port = p; item = n }) ≡ access_fits t c (record { kind = k; port = p; item = n })
  access_so kind.IrvWrite p n = refl
  access_so kind.IrvRead p n = refl
  access_so kind.IrvIWrite p n = refl
  access_so kind.IrvIRead p n = refl
  access_so kind.Enter p n = refl
  access_so kind.Switch p n = refl
  access_so kind.Mode p n = refl
  access_so _ p n = refl

  runnable_so : (r : Runnable) → runnable_low t c.ports (length c.behavior.variables) (length c.behavior.exclusive_areas) (runnable_tree r) ≡ true → runnable_fits t c r ≡ true
  runnable_so r h =
      let first = and_parts (list_all (access_low t c.ports (length c.behavior.variables) (length c.behavior.exclusive_areas)) r.accesses && accesses_distinct r.accesses) (is_well_formed (program_tree (arc_value r.program))) h in
      let parts = and_parts (list_all (access_low t c.ports (length c.behavior.variables) (length c.behavior.exclusive_areas)) r.accesses) (accesses_distinct r.accesses) first.0 in
      and_from _ _
      (list_all_more (access_low t c.ports (length c.behavior.variables) (length c.behavior.exclusive_areas)) (access_fits t c) (λ a h. sym (access_so a.kind a.port a.item) ∙ h) r.accesses parts.0)
      (and_from _ _ parts.1 first.1)

  kind_so : (k : EventKind) → kind_low t c.ports k ≡ event_kind_fits t c k
  kind_so (Timing period) = refl
  kind_so Init = refl
  kind_so (DataReceived k n) = refl
  kind_so (OperationInvoked k n) = refl
  kind_so (CallReturns k n) = refl
  kind_so (ModeSwitch k activation) = refl
  kind_so (ModeSwitchedAck k) = refl

  event_so : (e : Event) → event_low t c.ports (length runnables) e ≡ true → event_fits t c e ≡ true
  event_so e h =
      let parts = and_parts (ltb e.runnable (length runnables)) (kind_low t c.ports e.kind && disabled_low c.ports e.disabled_in_modes) h in
      let more = and_parts (kind_low t c.ports e.kind) (disabled_low c.ports e.disabled_in_modes) parts.1 in
      and_from _ _ (sym (ap (ltb e.runnable) (length-map c.behavior.runnables runnable_tree)) ∙ parts.0) (and_from _ _ (sym (kind_so e.kind) ∙ more.0) more.1)

  serves_step : (name : List ℕ) (x : ℕ) (k : EventKind) (o : Option DisabledInModes) (es : List Event) (seen : List ℕ)
      → (well (serves_in t c.ports runnables) seen x k && serves_fit t c es (with_served k x seen)) ≡ serves_fit t c (record { short_name = name; runnable = x; kind = k; disabled_in_modes = o } ∷ es) seen
  serves_step name x (Timing period) o es seen = refl
  serves_step name x Init o es seen = refl
  serves_step name x (DataReceived k n) o es seen = refl
  serves_step name x (OperationInvoked k n) o es seen =
      ap (λ b. (list_any (λ r. eqb r x) seen || b) && serves_fit t c es (x ∷ seen))
      (ap (λ o. option_map_or (λ (r : RunnableTree). ltb (arguments_at t c.ports k n) r.program.vars) o false) (slice_get-map runnable_tree c.behavior.runnables x)
      ∙ map_or_map (λ (r : RunnableTree). ltb (arguments_at t c.ports k n) r.program.vars) runnable_tree (slice_get c.behavior.runnables x) false)
  serves_step name x (CallReturns k n) o es seen = refl
  serves_step name x (ModeSwitch k activation) o es seen = refl
  serves_step name x (ModeSwitchedAck k) o es seen = refl

  serves_so : (es : List Event) (seen : List ℕ) → all_well (serves_in t c.ports runnables) es seen ≡ true → serves_fit t c es seen ≡ true
  serves_so [] seen h = refl
  serves_so (e ∷ es) seen h =
      let parts = and_parts (well (serves_in t c.ports runnables) seen e.runnable e.kind) (all_well (serves_in t c.ports runnables) es (with_served e.kind e.runnable seen)) h in
      sym (serves_step e.short_name e.runnable e.kind e.disabled_in_modes es seen) ∙ and_from _ _ parts.0 (serves_so es (with_served e.kind e.runnable seen) parts.1)

  pub component_from : TreeFits t (component_tree c) → component_fits t c ≡ true
  component_from h =
      let variables = and_parts (names_fit (map (λ (v : Variable). v.short_name) c.behavior.variables)) (list_all (variable_fits t) c.behavior.variables) h.variables in
      let runs = and_parts (names_fit (map (λ (r : RunnableTree). r.short_name) runnables)) (list_all (runnable_low t c.ports (length c.behavior.variables) (length c.behavior.exclusive_areas)) runnables) h.runnables in
      let events = and_parts (names_fit (map (λ (e : Event). e.short_name) c.behavior.events)) (list_all (event_low t c.ports (length runnables)) c.behavior.events) h.events in
      and_from _ _ h.ports (and_from _ _ h.areas (and_from _ _ variables.0 (and_from _ _ variables.1
      (and_from _ _ (sym (ap names_fit (map-map (λ (r : RunnableTree). r.short_name) runnable_tree c.behavior.runnables)) ∙ runs.0)
      (and_from _ _ (list_all_more (λ r. runnable_low t c.ports (length c.behavior.variables) (length c.behavior.exclusive_areas) (runnable_tree r)) (runnable_fits t c) runnable_so c.behavior.runnables
      (sym (list_all-map (runnable_low t c.ports (length c.behavior.variables) (length c.behavior.exclusive_areas)) runnable_tree c.behavior.runnables) ∙ runs.1))
      (and_from _ _ events.0 (and_from _ _ (list_all_more (event_low t c.ports (length runnables)) (event_fits t c) event_so c.behavior.events events.1)
      (serves_so c.behavior.events [] h.servers))))))))

abbrev pub EachFits : TypeTable → List ComponentTree → Type 0
EachFits t [] = Unit {0}
EachFits t (c ∷ cs) = TreeFits t c × EachFits t cs

pub components_from : (t : TypeTable) (cs : List Component) → EachFits t (map component_tree cs) → list_all (component_fits t) cs ≡ true
components_from t [] h = refl
components_from t (c ∷ cs) h = and_from _ _ (component_from t c h.0) (components_from t cs h.1)

each_listed : (t : TypeTable) (f : Data → ComponentTree) (ps : Items) → ((i : ℕ) (x : Data) → get_item i ps ≡ Some x → TreeFits t (f x)) → EachFits t (map f (listed ps))
each_listed t f no_items h = tt
each_listed t f (item x ps) h = (h 0 x refl, each_listed t f ps (λ i y is. h (suc i) y is))

-- ---- the tree of a component that is read

variables_list : Objects of_kind.Variables of_kind.Variable
variables_list = record { parts = λ ps i. refl; short = λ x. refl }

runnables_list : Objects of_kind.Runnables of_kind.Runnable
runnables_list = record { parts = λ ps i. refl; short = λ x. refl }

module _ (d : Data) (kept : Kept (catalog_of d) d Description top)
    (rules : list_all (λ (x : Interface). list_all (is_sound (types_reading (type_names d) d).data_types) (operations_in x.kind)) (types_reading (type_names d) d).interfaces ≡ true) where
  abbrev lists : Catalog
  lists = catalog_of d

  abbrev table : TypeTable
  table = types_reading (type_names d) d

  abbrev scope : InterfaceNames
  scope = interface_names (type_names d).mode_groups d

  module _ (i : ℕ) (c : Data) (cs : Items) (here : get_item i cs ≡ Some c) (components : get (codes "components") d ≡ Some (array cs))
      (kept_c : Kept (catalog_of d) c of_kind.Component (inside_part (inside top Description d (codes "components")) of_kind.Components (array cs) i))
      (ports_kept : ports_keep (types_reading (type_names d) d) (map (port_reading (interface_names (type_names d).mode_groups d)) (items_at (codes "ports") c)) ≡ true) where
    abbrev spot : Spot
    spot = inside_part (inside top Description d (codes "components")) of_kind.Components (array cs) i

    module _ (b : Data) (behavior : get (codes "behavior") c ≡ Some b) (kept_b : Kept (catalog_of d) b of_kind.Behavior (inside (inside_part (inside top Description d (codes "components")) of_kind.Components (array cs) i) of_kind.Component c (codes "behavior")))
        (initials : variables_keep (types_reading (type_names d) d) (map (variable_reading (type_names d)) (items_at (codes "variables") b)) ≡ true) where
      abbrev inner : Spot
      inner = inside spot of_kind.Component c (codes "behavior")

      abbrev names : ComponentNames
      names = component_names scope c b

      abbrev tree : ComponentTree
      tree = record { short_name = text_at (codes "shortName") c; ports = map (port_reading scope) (items_at (codes "ports") c); behavior = behavior_reading (type_names d) scope (component_names scope c b) b }

      areas_named : names_fit (texts (items_at (codes "exclusiveAreas") b)) ≡ true
      areas_named = on_list lists b of_kind.Behavior inner 0 (optional "exclusiveAreas" of_kind.DeclaredAreas) refl refl (λ v h. h) kept_b (λ xs. names_fit (texts xs) ≡ true) refl
          (λ ps at kept_ps. names_kept text_in ps (λ j y is.
          let spot = inside_part (inside inner of_kind.Behavior b (codes "exclusiveAreas")) of_kind.DeclaredAreas (array ps) j in
          let kept_y = kept_part lists ps of_kind.DeclaredAreas (inside inner of_kind.Behavior b (codes "exclusiveAreas")) j y kept_ps is in
          let name = name_value lists y of_kind.DeclaredArea spot refl kept_y in (
            sym (owned_is d i c cs here components b behavior (λ (l : ComponentLists). stands_before l.behavior.areas (text_in y) j) spot.around refl
                ∙ ap (λ xs. stands_before (texts xs) (text_in y) j) (items_there (codes "exclusiveAreas") b ps at)) ∙ repeated_here lists y of_kind.DeclaredArea spot kept_y,
            subst (λ z. is_name (text_in z) ≡ true) (sym name.is) name.fits_name,
          )))

      variables_so : (names_fit (map (λ (v : Variable). v.short_name) (map (variable_reading (type_names d)) (items_at (codes "variables") b))) && list_all (variable_fits table) (map (variable_reading (type_names d)) (items_at (codes "variables") b))) ≡ true
      variables_so = on_list lists b of_kind.Behavior inner 1 (optional "variables" of_kind.Variables) refl refl (λ v h. h) kept_b
          (λ xs. variables_keep table (map (variable_reading (type_names d)) xs) ≡ true → (names_fit (map (λ (v : Variable). v.short_name) (map (variable_reading (type_names d)) xs)) && list_all (variable_fits table) (map (variable_reading (type_names d)) xs)) ≡ true) (λ h. refl)
          (λ ps at kept_ps keeps_all.
          let list = inside inner of_kind.Behavior b (codes "variables") in
          and_from _ _ (ap names_fit (map-map (λ (v : Variable). v.short_name) (variable_reading (type_names d)) (listed ps)) ∙ short_names_fit lists of_kind.Variables of_kind.Variable list ps variables_list
          (λ j y is. owned_is d i c cs here components b behavior (λ (l : ComponentLists). stands_before l.behavior.variables (text_at (codes "shortName") y) j) (at_name of_kind.Variable y (inside_part list of_kind.Variables (array ps) j).around) refl
          ∙ ap (λ xs. stands_before (map (text_at (codes "shortName")) xs) (text_at (codes "shortName") y) j) (items_there (codes "variables") b ps at)) kept_ps)
          (all_listed (variable_fits table) (variable_reading (type_names d)) ps (λ j y is.
          let s = inside_part list of_kind.Variables (array ps) j in
          and_from _ _ (typed d kept y of_kind.Variable s (needed_value lists y of_kind.Variable s 1 (needed "type" of_kind.TypeName) refl refl refl (kept_part lists ps of_kind.Variables list j y kept_ps is)))
          (all_at (λ (v : Variable). keeps table.data_types v.of_type v.init_value) (variable_reading (type_names d)) ps j y keeps_all is))))
          initials

      abbrev run : Data → RunnableTree
      run = runnable_reading scope (component_names scope c b) (invoked_events b) (runnable_names (invoked_events b))

      abbrev low : RunnableTree → Bool
      low = runnable_low table (map (port_reading scope) (items_at (codes "ports") c)) (length (map (variable_reading (type_names d)) (items_at (codes "variables") b))) (length (texts (items_at (codes "exclusiveAreas") b)))

      runnable_fine : (ps : Items) → get (codes "runnables") b ≡ Some (array ps) → (j : ℕ) (y : Data) → get_item j ps ≡ Some y → Kept lists y of_kind.Runnable (inside_part (inside inner of_kind.Behavior b (codes "runnables")) of_kind.Runnables (array ps) j) → low (run y) ≡ true
      runnable_fine ps at j y is kept_y =
          let s = inside_part (inside inner of_kind.Behavior b (codes "runnables")) of_kind.Runnables (array ps) j in
          and_from _ _
          (ap (λ n. list_all (access_low table (map (port_reading scope) (items_at (codes "ports") c)) n (length (texts (items_at (codes "exclusiveAreas") b)))) (map (access_reading scope names) (items_at (codes "accesses") y)) && accesses_distinct (map (access_reading scope names) (items_at (codes "accesses") y)))
          (length-map (items_at (codes "variables") b) (variable_reading (type_names d)))
          ∙ ap (λ n. list_all (access_low table (map (port_reading scope) (items_at (codes "ports") c)) (length (items_at (codes "variables") b)) n) (map (access_reading scope names) (items_at (codes "accesses") y)) && accesses_distinct (map (access_reading scope names) (items_at (codes "accesses") y)))
          (length-map (items_at (codes "exclusiveAreas") b) text_in)
          ∙ accesses_law d kept i c cs here components kept_c b behavior y s refl (made_at access_firsts (codes "runnables") b ps j y at is) kept_y)
          (program_law lists scope names (first_names scope names (slice_get (invoked_events b) (position_in (runnable_names (invoked_events b)) (text_at (codes "shortName") y)))) y s kept_y)

      runnables_so : (names_fit (map (λ (r : RunnableTree). r.short_name) (map run (items_at (codes "runnables") b))) && list_all low (map run (items_at (codes "runnables") b))) ≡ true
      runnables_so = on_list lists b of_kind.Behavior inner 2 (optional "runnables" of_kind.Runnables) refl refl (λ v h. h) kept_b
          (λ xs. (names_fit (map (λ (r : RunnableTree). r.short_name) (map run xs)) && list_all low (map run xs)) ≡ true) refl
          (λ ps at kept_ps.
          let list = inside inner of_kind.Behavior b (codes "runnables") in
          and_from _ _ (ap names_fit (map-map (λ (r : RunnableTree). r.short_name) run (listed ps)) ∙ short_names_fit lists of_kind.Runnables of_kind.Runnable list ps runnables_list
          (λ j y is. owned_is d i c cs here components b behavior (λ (l : ComponentLists). stands_before l.behavior.runnables (text_at (codes "shortName") y) j) (at_name of_kind.Runnable y (inside_part list of_kind.Runnables (array ps) j).around) refl
          ∙ ap (λ xs. stands_before (map (text_at (codes "shortName")) xs) (text_at (codes "shortName") y) j) (items_there (codes "runnables") b ps at)) kept_ps)
          (all_listed low run ps (λ j y is. runnable_fine ps at j y is (kept_part lists ps of_kind.Runnables list j y kept_ps is))))

      tree_fits : TreeFits table tree
      tree_fits = record {
        ports = ports_law d kept c of_kind.Component spot 1 refl refl kept_c (ports_by_place d i c cs here components) ports_kept;
        areas = areas_named;
        variables = variables_so;
        runnables = runnables_so;
        events = ap (λ n. names_fit (map (λ (e : Event). e.short_name) (map (event_reading scope names) (items_at (codes "events") b)))
            && list_all (event_low table (map (port_reading scope) (items_at (codes "ports") c)) n) (map (event_reading scope names) (items_at (codes "events") b))) (length-map (items_at (codes "runnables") b) run)
            ∙ events_law d kept i c cs here components kept_c b behavior kept_b;
        servers = servers_law d kept rules i c cs here components kept_c b behavior kept_b;
      }

    pub component_law : variables_keep (types_reading (type_names d) d) (component_reading (scope_of d) c).behavior.variables ≡ true → TreeFits table (component_reading (scope_of d) c)
    component_law initials = from_behavior (needed_value lists c of_kind.Component spot 2 (needed "behavior" of_kind.Behavior) refl refl refl kept_c)
      where
        from_behavior : Value lists c of_kind.Component spot (needed "behavior" of_kind.Behavior) → TreeFits table (component_reading (scope_of d) c)
        from_behavior v =
            let is : behavior_in c ≡ v.value = ap (λ o. unwrap_or o null) v.there in
            subst (λ y. TreeFits table (record { short_name = text_at (codes "shortName") c; ports = map (port_reading scope) (items_at (codes "ports") c); behavior = behavior_reading (type_names d) scope (component_names scope c y) y })) (sym is)
            (tree_fits v.value v.there v.kept (subst (λ y. variables_keep table (map (variable_reading (type_names d)) (items_at (codes "variables") y)) ≡ true) is initials))

  abbrev keeps_initials : ComponentTree → Bool
  keeps_initials c = ports_keep table c.ports && variables_keep table c.behavior.variables

  pub components_law : list_all keeps_initials (map (component_reading (scope_of d)) (items_at (codes "components") d)) ≡ true → EachFits table (map (component_reading (scope_of d)) (items_at (codes "components") d))
  components_law = on_list lists d Description top 3 (optional "components" of_kind.Components) refl refl (λ v h. h) kept
      (λ xs. list_all keeps_initials (map (component_reading (scope_of d)) xs) ≡ true → EachFits table (map (component_reading (scope_of d)) xs)) (λ h. tt)
      (λ ps there kept_ps initials. each_listed table (component_reading (scope_of d)) ps (λ i x is.
      let parts = and_parts (ports_keep table (component_reading (scope_of d) x).ports) (variables_keep table (component_reading (scope_of d) x).behavior.variables) (all_at keeps_initials (component_reading (scope_of d)) ps i x initials is) in
      component_law i x ps is there (kept_part lists ps of_kind.Components (inside top Description d (codes "components")) i x kept_ps is) parts.0 parts.1))
