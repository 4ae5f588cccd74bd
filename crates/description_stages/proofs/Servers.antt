-- The programs of servers have a variable for each argument and one for `error`.
use Rattle.std.proofs.Common.{◌≡◌, ℕ, ◌<◌, List, [], ◌∷◌, ◌++◌, map, length, Bool, true, false, not, ◌&&◌, ltb, bytes_eq, codes, Option, Some, None, refl, sym, ap, subst, ◌∙◌, ◌⊎◌, inl, inr}
use Rattle.bus_semantics.specs.Common.{list_all, list_any, slice_get, slice_index_or, option_and_then, option_map, option_map_or, unwrap_or, and_parts, false≢true, lt-ltb, or_from}
use Rattle.bus_semantics.specs.Common.{get_or_from_slice_get, none-some, same_Some, slice_get-map, bytes_eq-Decides, length-map}
use Rattle.std.specs.List.{filter}
use Rattle.serde_json.specs.Data.{Data, null, array, Items}
use Rattle.serde_json.specs.Find.{as_array, get, get_item}
use Rattle.description_shapes.specs.declared.kind.Kind.TheVariants as of_kind
use Rattle.description_shapes.specs.declared.kind.Kind.TheVariants.{Description}
use Rattle.description_places.specs.Around.{number_of}
use Rattle.description_places.specs.Distinct.{firsts_of_operation, is_later, is_later_in}
use Rattle.description_places.specs.declared.catalogs.Catalog.{Catalog}
use Rattle.description_places.specs.Catalogs.{catalog_of, firsts_in, operation_firsts}
use Rattle.description_places.specs.FirstPlaces.{first_places}
use Rattle.description_shapes.specs.Keys.{needed, optional}
use Rattle.description_shapes.specs.Spots.{Spot, top, inside, inside_part}
use Rattle.plan_definitions.specs.Common.{DataType, Interface, Operation, TypeTable, has_distinct_codes, is_sound, is_sound_argument, one_word, operations_in, Port, argument_count}
use Rattle.plan_definitions.specs.Common.{arguments_at, distinct, names_fit}
use Rattle.declared_names.specs.declared.in_component.ComponentNames.{ComponentNames}
use Rattle.declared_names.specs.declared.scopes.InterfaceNames.{InterfaceNames}
use Rattle.declared_names.specs.declared.scopes.TypeNames.{TypeNames}
use Rattle.declared_names.specs.Components.{component_names, interface_of_port}
use Rattle.declared_names.specs.Names.{has_name, Names, position_in, short_names}
use Rattle.declared_names.specs.Scopes.{argument_names, interface_names, operation_arguments, type_names}
use Rattle.declared_names.specs.Values.{items_at, items_of, listed, text_at}
use Rattle.program_reading.specs.Variables.{all_added, names_in}
use Rattle.component_model.specs.Components.{event_kind_reading, event_reading, item_of_event, port_of_event}
use Rattle.component_model.specs.Ports.{port_reading}
use Rattle.component_model.specs.Programs.{arguments_among, arguments_of, first_names, invoked_events, is_invoked, runnable_names, runnable_reading, runnables_in, RunnableTree}
use Rattle.component_model.specs.Types.{argument_reading, interface_kind_reading, interface_reading, operation_reading, types_reading}
use Rattle.description_stages.proofs.Events.{port_here, runnable_here}
use Rattle.description_stages.proofs.Kept.{Kept, kept_part, shape_here}
use Rattle.description_stages.proofs.Naming.{Objects, on_list, short_names_fit}
use Rattle.description_stages.proofs.PortItems.{port_at, PortAt}
use Rattle.description_stages.proofs.Positions.{first_placed, in_list, InList, items_there, listed_at, made_at}
use Rattle.description_stages.proofs.Serving.{all_well, Aside, enough_names, served, some_name, Starts, well, with_served}
use Rattle.description_stages.proofs.Shapes.{on_array}
use Rattle.description_stages.proofs.Shorts.{needed_value, optional_value, Value}
use Rattle.description_stages.proofs.Unbroken.{all_at}
use Rattle.description_stages.proofs.Words.{EventFound, event_found, Found, interface_found, kept_as}

pub map_or_map : {X Y Z : Type 0} (g : Y → Z) (f : X → Y) (o : Option X) (z : Z) → option_map_or g (option_map f o) z ≡ option_map_or (λ x. g (f x)) o z
map_or_map g f None z = refl
map_or_map g f (Some x) z = refl

-- a runnable at a position has more variables than the operation has arguments
abbrev pub serves_in : TypeTable → List Port → List RunnableTree → (runnable port operation : ℕ) → Bool
serves_in t ps rs x k n = option_map_or (λ (r : RunnableTree). ltb (arguments_at t ps k n) r.program.vars) (slice_get rs x) false

-- no argument is named `error`
none_error : (types : List DataType) (names : TypeNames) (xs : List Data) → list_all (is_sound_argument types) (map (argument_reading names) xs) ≡ true → list_any (bytes_eq (codes "error")) (short_names xs) ≡ false
none_error types names [] h = refl
none_error types names (x ∷ xs) h =
    let parts = and_parts (is_sound_argument types (argument_reading names x)) _ h in
    or_from _ _ (other (text_at (codes "shortName") x) (and_parts (one_word (slice_get types (argument_reading names x).of_type)) _ parts.0).1) (none_error types names xs parts.1)
  where
    other : (t : List ℕ) → not (bytes_eq t (codes "error")) ≡ true → bytes_eq (codes "error") t ≡ false
    other t h = by_test (bytes_eq (codes "error") t) refl
      where
        by_test : (b : Bool) → bytes_eq (codes "error") t ≡ b → b ≡ false
        by_test false e = refl
        by_test true e = absurd (false≢true (sym (ap not ((bytes_eq-Decides t (codes "error")).1 (sym ((bytes_eq-Decides (codes "error") t).0 e)))) ∙ h))

arguments_list : Objects of_kind.Arguments of_kind.Argument
arguments_list = record { parts = λ ps i. refl; short = λ x. refl }

module _ (d : Data) (kept : Kept (catalog_of d) d Description top) where
  abbrev lists : Catalog
  lists = catalog_of d

  abbrev table : TypeTable
  table = types_reading (type_names d) d

  abbrev scope : InterfaceNames
  scope = interface_names (type_names d).mode_groups d

  -- ---- the arguments of an operation

  operation_enough : (x : Data) (s : Spot) (more : Names) → firsts_of_operation lists.interfaces.arguments (number_of 0 s.around) (number_of 2 s.around) ≡ Some (firsts_in (codes "arguments") x)
      → Kept lists x of_kind.Operation s → is_sound table.data_types (operation_reading (type_names d) x) ≡ true
      → length (operation_reading (type_names d) x).arguments < length (all_added [] ((operation_arguments x ++ codes "error" ∷ []) ++ more))
  operation_enough x s more firsts kept_x sound =
      let names_are : names_fit (short_names (items_at (codes "arguments") x)) ≡ true = on_list lists x of_kind.Operation s 1 (optional "arguments" of_kind.Arguments) refl refl (λ v h. h) kept_x (λ xs. names_fit (short_names xs) ≡ true) refl
      (λ ps at kept_ps. short_names_fit lists of_kind.Arguments of_kind.Argument (inside s of_kind.Operation x (codes "arguments")) ps arguments_list
      (λ j y is. ap (λ o. is_later o j) firsts ∙ ap (λ xs. is_later_in (first_places (map (text_at (codes "shortName")) xs)) j) (items_there (codes "arguments") x ps at) ∙ first_placed (text_at (codes "shortName")) ps j y is) kept_ps) in
      let rules = and_parts (list_all (is_sound_argument table.data_types) (operation_reading (type_names d) x).arguments) (has_distinct_codes (operation_reading (type_names d) x).errors) (and_parts _ (list_all (is_sound_argument table.data_types) (operation_reading (type_names d) x).arguments && has_distinct_codes (operation_reading (type_names d) x).errors) sound).1 in
      let enough = enough_names (short_names (items_at (codes "arguments") x)) (codes "error") more (and_parts _ (distinct (short_names (items_at (codes "arguments") x))) names_are).1 (none_error table.data_types (type_names d) (items_at (codes "arguments") x) rules.0) in
      subst (λ n. n < length (all_added [] ((operation_arguments x ++ codes "error" ∷ []) ++ more))) (length-map (items_at (codes "arguments") x) (text_at (codes "shortName")) ∙ sym (length-map (items_at (codes "arguments") x) (argument_reading (type_names d)))) enough

  -- ---- those of the operation at an item of an interface

  interface_enough : (v : Data) (s : Spot) (n : ℕ) (more : Names) → slice_get lists.interfaces.arguments (number_of 0 s.around) ≡ Some (operation_firsts (codes "arguments") v)
      → Kept lists v of_kind.Interface s → list_all (is_sound table.data_types) (operations_in (interface_reading (type_names d) v).kind) ≡ true
      → argument_count (interface_reading (type_names d) v).kind n < length (all_added [] ((slice_index_or (argument_names v) n [] ++ codes "error" ∷ []) ++ more))
  interface_enough v s n more firsts kept_v = by_case (interface_found lists v s kept_v)
    where
      at_word : (word : List ℕ) → text_at (codes "kind") v ≡ word
          → (list_all (is_sound table.data_types) (operations_in (interface_kind_reading (type_names d) word v)) ≡ true → argument_count (interface_kind_reading (type_names d) word v) n < length (all_added [] ((slice_index_or (argument_names v) n [] ++ codes "error" ∷ []) ++ more)))
          → list_all (is_sound table.data_types) (operations_in (interface_reading (type_names d) v).kind) ≡ true → argument_count (interface_reading (type_names d) v).kind n < length (all_added [] ((slice_index_or (argument_names v) n [] ++ codes "error" ∷ []) ++ more))
      at_word word e = subst (λ w. list_all (is_sound table.data_types) (operations_in (interface_kind_reading (type_names d) w v)) ≡ true
          → argument_count (interface_kind_reading (type_names d) w v) n < length (all_added [] ((slice_index_or (argument_names v) n [] ++ codes "error" ∷ []) ++ more))) (sym e)

      none : 0 < length (all_added [] ((slice_index_or (argument_names v) n [] ++ codes "error" ∷ []) ++ more))
      none = some_name (slice_index_or (argument_names v) n []) (codes "error") more

      of_server : Kept lists v of_kind.ClientServerInterface s → list_all (is_sound table.data_types) (map (operation_reading (type_names d)) (items_at (codes "operations") v)) ≡ true
          → option_map_or (λ (o : Operation). length o.arguments) (slice_get (map (operation_reading (type_names d)) (items_at (codes "operations") v)) n) 0
          < length (all_added [] ((slice_index_or (map operation_arguments (items_at (codes "operations") v)) n [] ++ codes "error" ∷ []) ++ more))
      of_server kept_s = on_list lists v of_kind.ClientServerInterface s 2 (optional "operations" of_kind.Operations) refl refl (λ v h. h) kept_s
          (λ xs. list_all (is_sound table.data_types) (map (operation_reading (type_names d)) xs) ≡ true
          → option_map_or (λ (o : Operation). length o.arguments) (slice_get (map (operation_reading (type_names d)) xs) n) 0 < length (all_added [] ((slice_index_or (map operation_arguments xs) n [] ++ codes "error" ∷ []) ++ more)))
          (λ h. some_name [] (codes "error") more)
          (λ ps there kept_ps sound. by_item ps there kept_ps sound (get_item n ps) refl)
        where
          by_item : (ps : Items) → get (codes "operations") v ≡ Some (array ps) → Kept lists (array ps) of_kind.Operations (inside s of_kind.ClientServerInterface v (codes "operations")) → list_all (is_sound table.data_types) (map (operation_reading (type_names d)) (listed ps)) ≡ true
              → (o : Option Data) → get_item n ps ≡ o
              → option_map_or (λ (o : Operation). length o.arguments) (slice_get (map (operation_reading (type_names d)) (listed ps)) n) 0 < length (all_added [] ((slice_index_or (map operation_arguments (listed ps)) n [] ++ codes "error" ∷ []) ++ more))
          by_item ps at kept_ps sound None e =
              let gone : slice_get (map (operation_reading (type_names d)) (listed ps)) n ≡ None = slice_get-map (operation_reading (type_names d)) (listed ps) n ∙ ap (option_map (operation_reading (type_names d))) (listed_at ps n ∙ e) in
              subst (λ o. option_map_or (λ (o : Operation). length o.arguments) o 0 < length (all_added [] ((slice_index_or (map operation_arguments (listed ps)) n [] ++ codes "error" ∷ []) ++ more))) (sym gone)
              (some_name (slice_index_or (map operation_arguments (listed ps)) n []) (codes "error") more)
          by_item ps at kept_ps sound (Some x) e =
              let there : slice_get (map (operation_reading (type_names d)) (listed ps)) n ≡ Some (operation_reading (type_names d) x) = slice_get-map (operation_reading (type_names d)) (listed ps) n ∙ ap (option_map (operation_reading (type_names d))) (listed_at ps n ∙ e) in
              let names_there : slice_get (map operation_arguments (listed ps)) n ≡ Some (operation_arguments x) = slice_get-map operation_arguments (listed ps) n ∙ ap (option_map operation_arguments) (listed_at ps n ∙ e) in
              subst (λ o. option_map_or (λ (o : Operation). length o.arguments) o 0 < length (all_added [] ((slice_index_or (map operation_arguments (listed ps)) n [] ++ codes "error" ∷ []) ++ more))) (sym there)
              (subst (λ ns. length (operation_reading (type_names d) x).arguments < length (all_added [] ((ns ++ codes "error" ∷ []) ++ more))) (sym (get_or_from_slice_get (map operation_arguments (listed ps)) n (operation_arguments x) [] names_there))
              (operation_enough x (inside_part (inside s of_kind.ClientServerInterface v (codes "operations")) of_kind.Operations (array ps) n) more
              (ap (option_and_then (λ (os : List (List ℕ)). slice_get os n)) firsts ∙ made_at (firsts_in (codes "arguments")) (codes "operations") v ps n x at e) (kept_part lists ps of_kind.Operations (inside s of_kind.ClientServerInterface v (codes "operations")) n x kept_ps e)
              (all_at (is_sound table.data_types) (operation_reading (type_names d)) ps n x sound e)))

      by_case : Found v of_kind.Interface of_kind.SenderReceiverInterface s (codes "SenderReceiverInterface")
          ⊎ (Found v of_kind.Interface of_kind.ClientServerInterface s (codes "ClientServerInterface") ⊎ Found v of_kind.Interface of_kind.ModeSwitchInterface s (codes "ModeSwitchInterface"))
          → list_all (is_sound table.data_types) (operations_in (interface_reading (type_names d) v).kind) ≡ true → argument_count (interface_reading (type_names d) v).kind n < length (all_added [] ((slice_index_or (argument_names v) n [] ++ codes "error" ∷ []) ++ more))
      by_case (inl f) = at_word (codes "SenderReceiverInterface") f.word_is (λ h. none)
      by_case (inr (inl f)) = at_word (codes "ClientServerInterface") f.word_is (λ h. of_server (kept_as lists v of_kind.Interface of_kind.ClientServerInterface s f.seen kept_v) h)
      by_case (inr (inr f)) = at_word (codes "ModeSwitchInterface") f.word_is (λ h. none)

  -- the interface of a name
  abbrev InterfaceAt : List ℕ → Type 0
  InterfaceAt name = InList (text_at (codes "shortName")) (codes "interfaces") d name

  abbrev place_of : List ℕ → ℕ
  place_of name = position_in (short_names (items_at (codes "interfaces") d)) name

  stands_at : (name : List ℕ) (f : InterfaceAt name) → get_item (place_of name) f.items ≡ Some f.found.value
  stands_at name f = ap (λ xs. get_item (position_in (short_names xs) name) f.items) (items_there (codes "interfaces") d f.items f.there) ∙ f.found.there

  interface_kept : (name : List ℕ) (f : InterfaceAt name) → Kept lists f.found.value of_kind.Interface (inside_part (inside top Description d (codes "interfaces")) of_kind.Interfaces (array f.items) (place_of name))
  interface_kept name f = from_value (optional_value lists d Description top 2 (optional "interfaces" of_kind.Interfaces) refl refl kept)
    where
      from_value : (get (codes "interfaces") d ≡ None) ⊎ Value lists d Description top (optional "interfaces" of_kind.Interfaces)
          → Kept lists f.found.value of_kind.Interface (inside_part (inside top Description d (codes "interfaces")) of_kind.Interfaces (array f.items) (place_of name))
      from_value (inl e) = absurd (none-some (array f.items) (sym e ∙ f.there))
      from_value (inr v) = kept_part lists f.items of_kind.Interfaces (inside top Description d (codes "interfaces")) (place_of name) f.found.value
          (subst (λ y. Kept lists y of_kind.Interfaces (inside top Description d (codes "interfaces"))) (same_Some v.value (array f.items) (sym v.there ∙ f.there)) v.kept) (stands_at name f)

  module _ (rules : list_all (λ (x : Interface). list_all (is_sound table.data_types) (operations_in x.kind)) table.interfaces ≡ true)
      (i : ℕ) (c : Data) (cs : Items) (here : get_item i cs ≡ Some c) (components : get (codes "components") d ≡ Some (array cs))
      (kept_c : Kept (catalog_of d) c of_kind.Component (inside_part (inside top Description d (codes "components")) of_kind.Components (array cs) i))
      (b : Data) (behavior : get (codes "behavior") c ≡ Some b) where
    abbrev names : ComponentNames
    names = component_names scope c b

    abbrev ports : List Port
    ports = map (port_reading scope) (items_at (codes "ports") c)

    abbrev runnables : List RunnableTree
    runnables = runnables_in scope names b

    abbrev invoked : List Data
    invoked = invoked_events b

    -- the arguments of an event's operation are fewer than the variables that begin with their names and `error`
    arguments_enough : (x : Data) (n : ℕ) (more : Names) → has_name names.ports (text_at (codes "port") x) ≡ true
        → arguments_at table ports (port_of_event names x) n < length (all_added [] ((arguments_among scope.arguments (slice_get names.port_interfaces (port_of_event names x)) n ++ codes "error" ∷ []) ++ more))
    arguments_enough x n more h = at_port (text_at (codes "port") x) (port_at d kept i c cs kept_c (text_at (codes "port") x) h)
      where
        at_interface : (name : List ℕ) (f : InterfaceAt name)
            → option_map_or (λ (q : Interface). argument_count q.kind n) (slice_get table.interfaces (position_in scope.interfaces name)) 0
            < length (all_added [] ((slice_index_or (slice_index_or scope.arguments (position_in scope.interfaces name) []) n [] ++ codes "error" ∷ []) ++ more))
        at_interface name f =
            let p = position_in scope.interfaces name in
            let there : slice_get table.interfaces p ≡ Some (interface_reading (type_names d) f.found.value) = made_at (interface_reading (type_names d)) (codes "interfaces") d f.items p f.found.value f.there (stands_at name f) in
            let names_there : slice_get scope.arguments p ≡ Some (argument_names f.found.value) = made_at argument_names (codes "interfaces") d f.items p f.found.value f.there (stands_at name f) in
            let sound : list_all (is_sound table.data_types) (operations_in (interface_reading (type_names d) f.found.value).kind) ≡ true =
            all_at (λ (x : Interface). list_all (is_sound table.data_types) (operations_in x.kind)) (interface_reading (type_names d)) f.items p f.found.value
            (subst (λ xs. list_all (λ (x : Interface). list_all (is_sound table.data_types) (operations_in x.kind)) (map (interface_reading (type_names d)) xs) ≡ true) (items_there (codes "interfaces") d f.items f.there) rules) (stands_at name f) in
            subst (λ o. option_map_or (λ (q : Interface). argument_count q.kind n) o 0 < length (all_added [] ((slice_index_or (slice_index_or scope.arguments p []) n [] ++ codes "error" ∷ []) ++ more))) (sym there)
            (subst (λ ns. argument_count (interface_reading (type_names d) f.found.value).kind n < length (all_added [] ((slice_index_or ns n [] ++ codes "error" ∷ []) ++ more))) (sym (get_or_from_slice_get scope.arguments p (argument_names f.found.value) [] names_there))
            (interface_enough f.found.value (inside_part (inside top Description d (codes "interfaces")) of_kind.Interfaces (array f.items) p) n more
            (made_at (operation_firsts (codes "arguments")) (codes "interfaces") d f.items p f.found.value f.there (stands_at name f)) (interface_kept name f) sound))

        at_port : (name : List ℕ) (p : PortAt d kept i c cs kept_c name)
            → arguments_at table ports (position_in names.ports name) n < length (all_added [] ((arguments_among scope.arguments (slice_get names.port_interfaces (position_in names.ports name)) n ++ codes "error" ∷ []) ++ more))
        at_port name p =
            let listed_ports = items_at (codes "ports") c in
            let place = position_in names.ports name in
            let port_there : slice_get ports place ≡ Some (port_reading scope p.value) = slice_get-map (port_reading scope) listed_ports place ∙ ap (option_map (port_reading scope)) p.there in
            let interface_there : slice_get names.port_interfaces place ≡ Some (interface_of_port scope p.value) = slice_get-map (interface_of_port scope) listed_ports place ∙ ap (option_map (interface_of_port scope)) p.there in
            subst (λ o. option_map_or (λ (z : Port). option_map_or (λ (q : Interface). argument_count q.kind n) (slice_get table.interfaces z.interface) 0) o 0
            < length (all_added [] ((arguments_among scope.arguments (slice_get names.port_interfaces place) n ++ codes "error" ∷ []) ++ more))) (sym port_there)
            (subst (λ o. option_map_or (λ (q : Interface). argument_count q.kind n) (slice_get table.interfaces (interface_of_port scope p.value)) 0
            < length (all_added [] ((arguments_among scope.arguments o n ++ codes "error" ∷ []) ++ more))) (sym interface_there)
            (at_interface (text_at (codes "interface") p.value) (in_list (text_at (codes "shortName")) (codes "interfaces") d (text_at (codes "interface") p.value) p.interface)))

    -- an event that calls start a runnable by
    starts : (x : Data) → has_name names.ports (text_at (codes "port") x) ≡ true → has_name names.runnables (text_at (codes "runnable") x) ≡ true
        → text_at (codes "kind") x ≡ codes "OperationInvokedEvent" → Starts (event_reading scope names) names.runnables (serves_in table ports runnables) invoked x
    starts x port runs word_is = record {
      port = port_of_event names x;
      operation = item_of_event scope names (codes "operation") x;
      invoked_so = ap (λ w. bytes_eq w (codes "OperationInvokedEvent")) word_is;
      runnable_is = refl;
      kind_is = ap (λ w. event_kind_reading scope names w x) word_is;
      serves_first = from_list (in_list (text_at (codes "shortName")) (codes "runnables") b (text_at (codes "runnable") x) runs);
    }
      where
        at_runnable : (y : Data) → slice_get (items_at (codes "runnables") b) (position_in names.runnables (text_at (codes "runnable") x)) ≡ Some y → text_at (codes "shortName") y ≡ text_at (codes "runnable") x
            → slice_get invoked (position_in (runnable_names invoked) (text_at (codes "runnable") x)) ≡ Some x
            → serves_in table ports runnables (position_in names.runnables (text_at (codes "runnable") x)) (port_of_event names x) (item_of_event scope names (codes "operation") x) ≡ true
        at_runnable y there same first =
            let n = item_of_event scope names (codes "operation") x in
            let prog = unwrap_or (get (codes "program") y) null in
            let begin : first_names scope names (slice_get invoked (position_in (runnable_names invoked) (text_at (codes "shortName") y))) ≡ arguments_of scope names x ++ codes "error" ∷ [] =
            ap (λ t. first_names scope names (slice_get invoked (position_in (runnable_names invoked) t))) same ∙ ap (first_names scope names) first in
            ap (λ o. option_map_or (λ (q : RunnableTree). ltb (arguments_at table ports (port_of_event names x) n) q.program.vars) o false)
            (slice_get-map (runnable_reading scope names invoked (runnable_names invoked)) (items_at (codes "runnables") b) (position_in names.runnables (text_at (codes "runnable") x)) ∙ ap (option_map (runnable_reading scope names invoked (runnable_names invoked))) there)
            ∙ ap (λ ns. ltb (arguments_at table ports (port_of_event names x) n) (length (all_added [] (ns ++ names_in prog of_kind.Statements)))) begin
            ∙ lt-ltb _ _ (arguments_enough x n (names_in prog of_kind.Statements) port)

        from_list : InList (text_at (codes "shortName")) (codes "runnables") b (text_at (codes "runnable") x) → slice_get invoked (position_in (runnable_names invoked) (text_at (codes "runnable") x)) ≡ Some x
            → serves_in table ports runnables (position_in names.runnables (text_at (codes "runnable") x)) (port_of_event names x) (item_of_event scope names (codes "operation") x) ≡ true
        from_list o = at_runnable o.found.value
            (ap (λ xs. slice_get xs (position_in (short_names xs) (text_at (codes "runnable") x))) (items_there (codes "runnables") b o.items o.there)
            ∙ listed_at o.items (position_in (short_names (listed o.items)) (text_at (codes "runnable") x)) ∙ o.found.there) o.found.same

    abbrev inner : Spot
    inner = inside (inside_part (inside top Description d (codes "components")) of_kind.Components (array cs) i) of_kind.Component c (codes "behavior")

    aside : (x : Data) (word : List ℕ) → text_at (codes "kind") x ≡ word → bytes_eq word (codes "OperationInvokedEvent") ≡ false
        → ((seen : List ℕ) → well (serves_in table ports runnables) seen (event_reading scope names x).runnable (event_kind_reading scope names word x) ≡ true)
        → ((seen : List ℕ) → with_served (event_kind_reading scope names word x) (event_reading scope names x).runnable seen ≡ seen)
        → Aside (event_reading scope names) names.runnables (serves_in table ports runnables) invoked x
    aside x word word_is out fine same = record {
      not_invoked = ap (λ w. bytes_eq w (codes "OperationInvokedEvent")) word_is ∙ out;
      fine = λ seen. subst (λ w. well (serves_in table ports runnables) seen (event_reading scope names x).runnable (event_kind_reading scope names w x) ≡ true) (sym word_is) (fine seen);
      same = λ seen. subst (λ w. with_served (event_kind_reading scope names w x) (event_reading scope names x).runnable seen ≡ seen) (sym word_is) (same seen);
    }

    event_serves : (es : Items) (j : ℕ) (x : Data) → Kept lists x of_kind.Event (inside_part (inside inner of_kind.Behavior b (codes "events")) of_kind.Events (array es) j)
        → Aside (event_reading scope names) names.runnables (serves_in table ports runnables) invoked x ⊎ Starts (event_reading scope names) names.runnables (serves_in table ports runnables) invoked x
    event_serves es j x kept_x = by_case (event_found lists x (inside_part (inside inner of_kind.Behavior b (codes "events")) of_kind.Events (array es) j) kept_x)
      where
        by_case : EventFound x (inside_part (inside inner of_kind.Behavior b (codes "events")) of_kind.Events (array es) j)
            → Aside (event_reading scope names) names.runnables (serves_in table ports runnables) invoked x ⊎ Starts (event_reading scope names) names.runnables (serves_in table ports runnables) invoked x
        by_case (inl f) = inl (aside x (codes "TimingEvent") f.word_is refl (λ s. refl) (λ s. refl))
        by_case (inr (inl f)) = inl (aside x (codes "InitEvent") f.word_is refl (λ s. refl) (λ s. refl))
        by_case (inr (inr (inl f))) = inl (aside x (codes "DataReceivedEvent") f.word_is refl (λ s. refl) (λ s. refl))
        by_case (inr (inr (inr (inl f)))) =
            let at = inside_part (inside inner of_kind.Behavior b (codes "events")) of_kind.Events (array es) j in
            let k = kept_as lists x of_kind.Event of_kind.OperationInvokedEvent at f.seen kept_x in
            inr (starts x
            (port_here d kept i c cs here components kept_c b behavior x of_kind.OperationInvokedEvent at refl (needed_value lists x of_kind.OperationInvokedEvent at 3 (needed "port" of_kind.ComponentPort) refl refl refl k))
            (runnable_here d kept i c cs here components kept_c b behavior x of_kind.OperationInvokedEvent at refl (needed_value lists x of_kind.OperationInvokedEvent at 2 (needed "runnable" of_kind.RunnableName) refl refl refl k))
            f.word_is)
        by_case (inr (inr (inr (inr (inl f))))) = inl (aside x (codes "AsynchronousServerCallReturnsEvent") f.word_is refl (λ s. refl) (λ s. refl))
        by_case (inr (inr (inr (inr (inr (inl f)))))) = inl (aside x (codes "SwcModeSwitchEvent") f.word_is refl (λ s. refl) (λ s. refl))
        by_case (inr (inr (inr (inr (inr (inr (inl f))))))) = inl (aside x (codes "SwcModeSwitchEvent") f.word_is refl (λ s. refl) (λ s. refl))
        by_case (inr (inr (inr (inr (inr (inr (inr f))))))) = inl (aside x (codes "ModeSwitchedAckEvent") f.word_is refl (λ s. refl) (λ s. refl))

    pub servers_law : Kept lists b of_kind.Behavior inner → all_well (serves_in table ports runnables) (map (event_reading scope names) (items_at (codes "events") b)) [] ≡ true
    servers_law kept_b = from_value (optional_value lists b of_kind.Behavior inner 3 (optional "events" of_kind.Events) refl refl kept_b)
      where
        from_array : (es : Items) → get (codes "events") b ≡ Some (array es) → Kept lists (array es) of_kind.Events (inside inner of_kind.Behavior b (codes "events"))
            → all_well (serves_in table ports runnables) (map (event_reading scope names) (items_at (codes "events") b)) [] ≡ true
        from_array es at kept_es =
            ap (λ xs. all_well (serves_in table ports runnables) (map (event_reading scope names) xs) []) (items_there (codes "events") b es at)
            ∙ served (event_reading scope names) names.runnables (serves_in table ports runnables) invoked es [] [] (λ j x is. event_serves es j x (kept_part lists es of_kind.Events (inside inner of_kind.Behavior b (codes "events")) j x kept_es is))
            (ap (filter is_invoked) (items_there (codes "events") b es at)) (λ t h. absurd (false≢true h))

        from_value : (get (codes "events") b ≡ None) ⊎ Value lists b of_kind.Behavior inner (optional "events" of_kind.Events)
            → all_well (serves_in table ports runnables) (map (event_reading scope names) (items_at (codes "events") b)) [] ≡ true
        from_value (inl e) = ap (λ o. all_well (serves_in table ports runnables) (map (event_reading scope names) (items_of (option_and_then as_array o))) []) e
        from_value (inr v) = on_array (λ y. get (codes "events") b ≡ Some y → Kept lists y of_kind.Events (inside inner of_kind.Behavior b (codes "events"))
            → all_well (serves_in table ports runnables) (map (event_reading scope names) (items_at (codes "events") b)) [] ≡ true)
            (λ es at k. from_array es at k) v.value (shape_here lists v.value of_kind.Events (inside inner of_kind.Behavior b (codes "events")) v.kept) v.there v.kept
