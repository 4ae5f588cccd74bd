-- What the events of a component keep.
use Rattle.std.proofs.Common.{◌≡◌, ℕ, ◌^◌, List, ◌∷◌, map, length, Bool, true, false, ◌&&◌, ltb, codes, Option, Some, None, refl, sym, ap, subst, arith, ◌∙◌, ◌⊎◌, inl, inr}
use Rattle.bus_semantics.specs.Common.{list_all, slice_get, option_map, option_map_or, and_from, false≢true, is_in}
use mathlib.Core.List.{map-map}
use Rattle.serde_json.specs.Data.{Data, array, Items}
use Rattle.serde_json.specs.Find.{get, get_item}
use Rattle.description_shapes.specs.declared.kind.Kind.{Kind}
use Rattle.description_shapes.specs.declared.kind.Kind.TheVariants as of_kind
use Rattle.description_shapes.specs.declared.kind.Kind.TheVariants.{Description}
use Rattle.description_shapes.specs.Alternatives.{choices_of, pick_if, resolved, word_at}
use Rattle.description_places.specs.Around.{number_of, type_around}
use Rattle.description_places.specs.Distinct.{is_later_in, is_named_before}
use Rattle.description_places.specs.declared.catalogs.Catalog.{Catalog}
use Rattle.description_places.specs.Catalogs.{catalog_of}
use Rattle.description_places.specs.declared.catalogs.ComponentLists.{ComponentLists}
use Rattle.description_places.specs.declared.catalogs.TypeNumber.TheVariants as of
use Rattle.description_places.specs.FirstPlaces.{first_places}
use Rattle.description_shapes.specs.Forms.{form_of}
use Rattle.description_shapes.specs.Keys.{keys_of, needed, optional}
use Rattle.description_places.specs.Owners.{component_of}
use Rattle.description_places.specs.References.{port_has}
use Rattle.description_shapes.specs.Shape.{holds}
use Rattle.description_shapes.specs.Spots.{Spot, Level, top, inside, inside_part}
use Rattle.plan_definitions.specs.Common.{TypeTable, DisabledInModes, Event, EventKind, Timing, Init, DataReceived, OperationInvoked, CallReturns, ModeSwitchedAck, Port, items_of_port}
use Rattle.plan_definitions.specs.Common.{names_fit}
use Rattle.description_types.specs.declared.component.EventKind.TheVariants.{ModeSwitch}
use Rattle.declared_names.specs.declared.in_component.ComponentNames.{ComponentNames}
use Rattle.declared_names.specs.declared.scopes.InterfaceNames.{InterfaceNames}
use Rattle.declared_names.specs.Components.{component_names}
use Rattle.declared_names.specs.Names.{has_name, position_in}
use Rattle.declared_names.specs.Scopes.{interface_names, type_names}
use Rattle.declared_names.specs.Values.{items_at, listed, text_at, text_in}
use Rattle.component_model.specs.Components.{disabling_reading, event_kind_reading, event_reading, item_of_event, port_of_event}
use Rattle.component_model.specs.Ports.{port_reading}
use Rattle.component_model.specs.Types.{types_reading}
use Rattle.description_stages.proofs.Shapes.{is_object}
use Rattle.description_stages.proofs.Kept.{Kept, kept_part, shape_here, found_here}
use Rattle.description_stages.proofs.Naming.{all_listed, ByPlace, Objects, on_list, short_names_fit}
use Rattle.description_stages.proofs.PortItems.{HasItem, item_low, owned, owned_is, port_low, port_owned}
use Rattle.description_stages.proofs.Positions.{first_placed, items_there, low_in}
use Rattle.description_stages.proofs.Shorts.{at_name, has_short, needed_value, optional_value, text_there, Value}
use Rattle.description_stages.proofs.Types.{ranged}
use Rattle.description_stages.proofs.Words.{activation_fine, EventFound, event_found, kept_as, pick_fine}

-- an event names a port or an item of one
abbrev pub kind_low : TypeTable → List Port → EventKind → Bool
kind_low t ps (Timing period) = is_in 1 1000000 period
kind_low t ps Init = true
kind_low t ps (DataReceived k n) = ltb n (items_of_port t ps k)
kind_low t ps (OperationInvoked k n) = ltb n (items_of_port t ps k)
kind_low t ps (CallReturns k n) = ltb n (items_of_port t ps k)
kind_low t ps (ModeSwitch k activation) = ltb k (length ps)
kind_low t ps (ModeSwitchedAck k) = ltb k (length ps)

abbrev pub disabled_low : List Port → Option DisabledInModes → Bool
disabled_low ps o = option_map_or (λ (x : DisabledInModes). ltb x.port (length ps)) o true

abbrev pub event_low : TypeTable → List Port → (runnables : ℕ) → Event → Bool
event_low t ps n e = ltb e.runnable n && (kind_low t ps e.kind && disabled_low ps e.disabled_in_modes)

abbrev is_event : Kind → Bool
is_event of_kind.TimingEvent = true
is_event of_kind.InitEvent = true
is_event of_kind.DataReceivedEvent = true
is_event of_kind.OperationInvokedEvent = true
is_event of_kind.CallReturnsEvent = true
is_event of_kind.ModeSwitchEvent = true
is_event of_kind.ModeTransitionEvent = true
is_event of_kind.ModeSwitchAckEvent = true
is_event of_kind.UnknownEvent = true
is_event _ = false

event_kind : (x : Data) → is_event (resolved of_kind.Event x) ≡ true
event_kind x = activation_fine is_event (pick_if (choices_of of_kind.Event) of_kind.UnknownEvent (word_at (codes "kind") x)) x refl (pick_fine is_event (choices_of of_kind.Event) of_kind.UnknownEvent (word_at (codes "kind") x) refl refl)

module _ (d : Data) (kept : Kept (catalog_of d) d Description top) (i : ℕ) (c : Data) (cs : Items) (here : get_item i cs ≡ Some c) (components : get (codes "components") d ≡ Some (array cs))
    (kept_c : Kept (catalog_of d) c of_kind.Component (inside_part (inside top Description d (codes "components")) of_kind.Components (array cs) i))
    (b : Data) (behavior : get (codes "behavior") c ≡ Some b) where
  abbrev lists : Catalog
  lists = catalog_of d

  abbrev table : TypeTable
  table = types_reading (type_names d) d

  abbrev scope : InterfaceNames
  scope = interface_names (type_names d).mode_groups d

  abbrev names : ComponentNames
  names = component_names scope c b

  abbrev ports : List Port
  ports = map (port_reading scope) (items_at (codes "ports") c)

  -- the values round a value within the component
  abbrev Home : List Level → Type 0
  Home around = type_around around ≡ Some (of.Component i)

  abbrev HomeOf : Data → Kind → Spot → Type 0
  HomeOf x kind s = Home (record { kind = resolved kind x; value = x; number = 0 } ∷ s.around)

  -- the port at a key
  pub port_here : (x : Data) (kind : Kind) (s : Spot) → HomeOf x kind s → Value lists x kind s (needed "port" of_kind.ComponentPort) → has_name names.ports (text_at (codes "port") x) ≡ true
  port_here x kind s home v =
      let at = inside s (resolved kind x) x (codes "port") in
      subst (λ t. has_name names.ports t ≡ true) (sym (text_there lists x kind s (needed "port" of_kind.ComponentPort) v))
      (port_owned d i c cs here components (text_in v.value) at.around home (found_here lists v.value of_kind.ComponentPort at v.kept))

  -- an item at a key beside it
  item_fits : (x : Data) (kind : Kind) (s : Spot) (key : List ℕ) → HomeOf x kind s
      → Value lists x kind s (record { name = key; is_needed = true; kind = of_kind.EventItem }) → ltb (item_of_event scope names key x) (items_of_port table ports (port_of_event names x)) ≡ true
  item_fits x kind s key home v =
      let at = inside s (resolved kind x) x key in
      item_low d c b (text_at (codes "port") x) (text_at key x)
      (subst (HasItem d c (text_at (codes "port") x)) (sym (text_there lists x kind s (record { name = key; is_needed = true; kind = of_kind.EventItem }) v))
      (owned d i c cs here components b behavior (port_has (catalog_of d) (text_in v.value) (text_at (codes "port") x)) at.around home (found_here lists v.value of_kind.EventItem at v.kept)))

  pub runnable_here : (x : Data) (kind : Kind) (s : Spot) → HomeOf x kind s → Value lists x kind s (needed "runnable" of_kind.RunnableName) → has_name names.runnables (text_at (codes "runnable") x) ≡ true
  runnable_here x kind s home v =
      let at = inside s (resolved kind x) x (codes "runnable") in
      subst (λ t. has_name names.runnables t ≡ true) (sym (text_there lists x kind s (needed "runnable" of_kind.RunnableName) v))
      (owned d i c cs here components b behavior (λ (l : ComponentLists). has_name l.behavior.runnables (text_in v.value)) at.around home (found_here lists v.value of_kind.RunnableName at v.kept))

  runnable_fits : (x : Data) (kind : Kind) (s : Spot) → HomeOf x kind s → Value lists x kind s (needed "runnable" of_kind.RunnableName)
      → ltb (position_in names.runnables (text_at (codes "runnable") x)) (length (items_at (codes "runnables") b)) ≡ true
  runnable_fits x kind s home v = low_in (text_at (codes "shortName")) (items_at (codes "runnables") b) (text_at (codes "runnable") x) (runnable_here x kind s home v)

  disabling_fits : (x : Data) (kind : Kind) (s : Spot) → HomeOf x kind s
      → (get (codes "disabledInModes") x ≡ None) ⊎ Value lists x kind s (optional "disabledInModes" of_kind.DisabledModes) → disabled_low ports (option_map (disabling_reading scope names) (get (codes "disabledInModes") x)) ≡ true
  disabling_fits x kind s home (inl e) = ap (λ o. disabled_low ports (option_map (disabling_reading scope names) o)) e
  disabling_fits x kind s home (inr v) =
      let at = inside s (resolved kind x) x (codes "disabledInModes") in
      ap (λ o. disabled_low ports (option_map (disabling_reading scope names) o)) v.there
      ∙ port_low d c (text_at (codes "port") v.value) (port_here v.value of_kind.DisabledModes at home (needed_value lists v.value of_kind.DisabledModes at 0 (needed "port" of_kind.ComponentPort) refl refl refl v.kept))

  -- an event of a kind with its keys at these places of its table
  event_of : (x : Data) (kind : Kind) (s : Spot) (n : ℕ) (word : List ℕ) → HomeOf x kind s → is_object (form_of (resolved kind x)) ≡ true
      → slice_get (keys_of (resolved kind x)) 2 ≡ Some (needed "runnable" of_kind.RunnableName) → slice_get (keys_of (resolved kind x)) n ≡ Some (optional "disabledInModes" of_kind.DisabledModes)
      → Kept lists x kind s → text_at (codes "kind") x ≡ word → kind_low table ports (event_kind_reading scope names word x) ≡ true
      → event_low table ports (length (items_at (codes "runnables") b)) (event_reading scope names x) ≡ true
  event_of x kind s n word home form run dis kept_x word_is kind_fits = and_from _ _
      (runnable_fits x kind s home (needed_value lists x kind s 2 (needed "runnable" of_kind.RunnableName) form run refl kept_x))
      (and_from _ _ (ap (λ w. kind_low table ports (event_kind_reading scope names w x)) word_is ∙ kind_fits)
      (disabling_fits x kind s home (optional_value lists x kind s n (optional "disabledInModes" of_kind.DisabledModes) form dis kept_x)))

  abbrev spot_of : Data → Items → ℕ → Spot
  spot_of b es j = inside_part (inside (inside (inside_part (inside top Description d (codes "components")) of_kind.Components (array cs) i) of_kind.Component c (codes "behavior")) of_kind.Behavior b (codes "events")) of_kind.Events (array es) j

  event_fits : (es : Items) (j : ℕ) (x : Data) → Kept lists x of_kind.Event (spot_of b es j) → event_low table ports (length (items_at (codes "runnables") b)) (event_reading scope names x) ≡ true
  event_fits es j x kept_x = by_case (event_found lists x (spot_of b es j) kept_x)
    where
      port_of : (kind : Kind) → HomeOf x kind (spot_of b es j) → is_object (form_of (resolved kind x)) ≡ true
          → slice_get (keys_of (resolved kind x)) 3 ≡ Some (needed "port" of_kind.ComponentPort) → Kept lists x kind (spot_of b es j) → ltb (port_of_event names x) (length ports) ≡ true
      port_of kind home form is kept_k = port_low d c (text_at (codes "port") x) (port_here x kind (spot_of b es j) home (needed_value lists x kind (spot_of b es j) 3 (needed "port" of_kind.ComponentPort) form is refl kept_k))

      by_case : EventFound x (spot_of b es j) → event_low table ports (length (items_at (codes "runnables") b)) (event_reading scope names x) ≡ true
      by_case (inl f) =
          let k = kept_as lists x of_kind.Event of_kind.TimingEvent (spot_of b es j) f.seen kept_x in
          event_of x of_kind.TimingEvent (spot_of b es j) 4 (codes "TimingEvent") refl refl refl refl k f.word_is
          (ranged lists x of_kind.TimingEvent of_kind.Period (spot_of b es j) (codes "period") (2 ^ 32) 0 1 1000000 (needed_value lists x of_kind.TimingEvent (spot_of b es j) 3 (needed "period" of_kind.Period) refl refl refl k)
          (λ v t k. shape_here lists v of_kind.Period t k) (omega arith))
      by_case (inr (inl f)) =
          let k = kept_as lists x of_kind.Event of_kind.InitEvent (spot_of b es j) f.seen kept_x in
          event_of x of_kind.InitEvent (spot_of b es j) 3 (codes "InitEvent") refl refl refl refl k f.word_is refl
      by_case (inr (inr (inl f))) =
          let k = kept_as lists x of_kind.Event of_kind.DataReceivedEvent (spot_of b es j) f.seen kept_x in
          event_of x of_kind.DataReceivedEvent (spot_of b es j) 5 (codes "DataReceivedEvent") refl refl refl refl k f.word_is
          (item_fits x of_kind.DataReceivedEvent (spot_of b es j) (codes "element") refl
          (needed_value lists x of_kind.DataReceivedEvent (spot_of b es j) 4 (needed "element" of_kind.EventItem) refl refl refl k))
      by_case (inr (inr (inr (inl f)))) =
          let k = kept_as lists x of_kind.Event of_kind.OperationInvokedEvent (spot_of b es j) f.seen kept_x in
          event_of x of_kind.OperationInvokedEvent (spot_of b es j) 5 (codes "OperationInvokedEvent") refl refl refl refl k f.word_is
          (item_fits x of_kind.OperationInvokedEvent (spot_of b es j) (codes "operation") refl
          (needed_value lists x of_kind.OperationInvokedEvent (spot_of b es j) 4 (needed "operation" of_kind.EventItem) refl refl refl k))
      by_case (inr (inr (inr (inr (inl f))))) =
          let k = kept_as lists x of_kind.Event of_kind.CallReturnsEvent (spot_of b es j) f.seen kept_x in
          event_of x of_kind.CallReturnsEvent (spot_of b es j) 5 (codes "AsynchronousServerCallReturnsEvent") refl refl refl refl k f.word_is
          (item_fits x of_kind.CallReturnsEvent (spot_of b es j) (codes "operation") refl
          (needed_value lists x of_kind.CallReturnsEvent (spot_of b es j) 4 (needed "operation" of_kind.EventItem) refl refl refl k))
      by_case (inr (inr (inr (inr (inr (inl f)))))) =
          let k = kept_as lists x of_kind.Event of_kind.ModeSwitchEvent (spot_of b es j) f.seen kept_x in
          event_of x of_kind.ModeSwitchEvent (spot_of b es j) 6 (codes "SwcModeSwitchEvent") refl refl refl refl k f.word_is (port_of of_kind.ModeSwitchEvent refl refl refl k)
      by_case (inr (inr (inr (inr (inr (inr (inl f))))))) =
          let k = kept_as lists x of_kind.Event of_kind.ModeTransitionEvent (spot_of b es j) f.seen kept_x in
          event_of x of_kind.ModeTransitionEvent (spot_of b es j) 6 (codes "SwcModeSwitchEvent") refl refl refl refl k f.word_is (port_of of_kind.ModeTransitionEvent refl refl refl k)
      by_case (inr (inr (inr (inr (inr (inr (inr f))))))) =
          let k = kept_as lists x of_kind.Event of_kind.ModeSwitchAckEvent (spot_of b es j) f.seen kept_x in
          event_of x of_kind.ModeSwitchAckEvent (spot_of b es j) 4 (codes "ModeSwitchedAckEvent") refl refl refl refl k f.word_is (port_of of_kind.ModeSwitchAckEvent refl refl refl k)

  events_list : Objects of_kind.Events of_kind.Event
  events_list = record {
    parts = λ ps i. refl;
    short = λ x. activation_fine has_short (pick_if (choices_of of_kind.Event) of_kind.UnknownEvent (word_at (codes "kind") x)) x refl (pick_fine has_short (choices_of of_kind.Event) of_kind.UnknownEvent (word_at (codes "kind") x) refl refl);
  }

  events_by_place : (es : Items) → get (codes "events") b ≡ Some (array es)
      → ByPlace lists of_kind.Events of_kind.Event (inside (inside (inside_part (inside top Description d (codes "components")) of_kind.Components (array cs) i) of_kind.Component c (codes "behavior")) of_kind.Behavior b (codes "events")) es
  events_by_place es there j x is =
      let at = at_name (resolved of_kind.Event x) x (spot_of b es j).around in
      let name = text_at (codes "shortName") x in
      event_before (resolved of_kind.Event x) name at (event_kind x)
      ∙ owned_is d i c cs here components b behavior (λ (l : ComponentLists). is_later_in l.behavior.events j) at (event_home (resolved of_kind.Event x) x (spot_of b es j).around (event_kind x))
      ∙ ap (λ xs. is_later_in (first_places (map (text_at (codes "shortName")) xs)) j) (items_there (codes "events") b es there)
      ∙ first_placed (text_at (codes "shortName")) es j x is
    where
      event_before : (k : Kind) (name : List ℕ) (around : List Level) → is_event k ≡ true
          → is_named_before lists k name around ≡ holds (λ (l : ComponentLists). is_later_in l.behavior.events (number_of 1 around)) (component_of lists (type_around around))
      event_before of_kind.TimingEvent name around h = refl
      event_before of_kind.InitEvent name around h = refl
      event_before of_kind.DataReceivedEvent name around h = refl
      event_before of_kind.OperationInvokedEvent name around h = refl
      event_before of_kind.CallReturnsEvent name around h = refl
      event_before of_kind.ModeSwitchEvent name around h = refl
      event_before of_kind.ModeTransitionEvent name around h = refl
      event_before of_kind.ModeSwitchAckEvent name around h = refl
      event_before of_kind.UnknownEvent name around h = refl
      event_before _ name around h = absurd (false≢true h)

      event_home : (k : Kind) (x : Data) (around : List Level) → is_event k ≡ true → type_around (at_name k x around) ≡ type_around around
      event_home of_kind.TimingEvent x around h = refl
      event_home of_kind.InitEvent x around h = refl
      event_home of_kind.DataReceivedEvent x around h = refl
      event_home of_kind.OperationInvokedEvent x around h = refl
      event_home of_kind.CallReturnsEvent x around h = refl
      event_home of_kind.ModeSwitchEvent x around h = refl
      event_home of_kind.ModeTransitionEvent x around h = refl
      event_home of_kind.ModeSwitchAckEvent x around h = refl
      event_home of_kind.UnknownEvent x around h = refl
      event_home _ x around h = absurd (false≢true h)

  pub events_law : Kept lists b of_kind.Behavior (inside (inside_part (inside top Description d (codes "components")) of_kind.Components (array cs) i) of_kind.Component c (codes "behavior"))
      → (names_fit (map (λ (e : Event). e.short_name) (map (event_reading scope names) (items_at (codes "events") b)))
      && list_all (event_low table ports (length (items_at (codes "runnables") b))) (map (event_reading scope names) (items_at (codes "events") b))) ≡ true
  events_law kept_b =
      let inner = inside (inside_part (inside top Description d (codes "components")) of_kind.Components (array cs) i) of_kind.Component c (codes "behavior") in
      on_list lists b of_kind.Behavior inner 3 (optional "events" of_kind.Events) refl refl (λ v h. h) kept_b
      (λ xs. (names_fit (map (λ (e : Event). e.short_name) (map (event_reading scope names) xs)) && list_all (event_low table ports (length (items_at (codes "runnables") b))) (map (event_reading scope names) xs)) ≡ true) refl
      (λ ps at kept_ps.
      let list = inside inner of_kind.Behavior b (codes "events") in
      and_from _ _ (ap names_fit (map-map (λ (e : Event). e.short_name) (event_reading scope names) (listed ps)) ∙ short_names_fit lists of_kind.Events of_kind.Event list ps events_list (events_by_place ps at) kept_ps)
      (all_listed (event_low table ports (length (items_at (codes "runnables") b))) (event_reading scope names) ps (λ j x is. event_fits ps j x (kept_part lists ps of_kind.Events list j x kept_ps is))))
