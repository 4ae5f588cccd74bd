-- Few events start runnables where few are declared, and a program has few variables.
use Rattle.std.proofs.Common.{◌≡◌, ℕ, ◌+◌, ◌<◌, ◌≤◌, ◌^◌, List, [], ◌∷◌, Option, Some, None, slice_get, length, map, filter, codes, Bor, sym, ap, ◌∙◌, arith}
use Rattle.std.proofs.lemmas.List.{length-append, length-map}
use Rattle.std.proofs.lemmas.List.Sums.{count_by-le-length, length-filter}
use Rattle.serde_json.specs.Data.{Data}
use Rattle.declared_names.specs.Names.{text_of}
use Rattle.declared_names.specs.declared.in_component.ComponentNames.{ComponentNames}
use Rattle.declared_names.specs.declared.scopes.InterfaceNames.{InterfaceNames}
use Rattle.declared_names.specs.Sizes.{size, HaveFewArguments, IsSmall}
use Rattle.declared_names.specs.Values.{items_at, text_at}
use Rattle.declared_names.proofs.Sizes.{few_at}
use Rattle.component_model.specs.Components.{item_of_event, port_of_event}
use Rattle.component_model.specs.Programs.{arguments_among, arguments_of, first_names, invoked_events, is_invoked, runnable_names}

pub few_servers : (names : List (Bor (List ℕ))) (events : List Data) (b : Data) → map text_of names ≡ runnable_names events → events ≡ invoked_events b → IsSmall b → length names < 2 ^ 32
few_servers names events b are from small =
    let named : length names ≡ length events = sym (length-map names text_of) ∙ ap length are ∙ length-map events (text_at (codes "runnable")) in
    let counted : length events ≡ length (filter is_invoked (items_at (codes "events") b)) = ap length from in
    omega (arith, length-filter is_invoked (items_at (codes "events") b), count_by-le-length is_invoked (items_at (codes "events") b), few_at (codes "events") b small)

among_few : (interfaces : InterfaceNames) (i : Option ℕ) (operation : ℕ) → HaveFewArguments interfaces → length (arguments_among interfaces.arguments i operation) < 2 ^ 31
among_few interfaces None operation few = omega arith
among_few interfaces (Some i) operation few = omega (arith, few.few i operation)

first_few : (interfaces : InterfaceNames) (names : ComponentNames) (event : Option Data) → HaveFewArguments interfaces → length (first_names interfaces names event) ≤ 2 ^ 31
first_few interfaces names None few = omega arith
first_few interfaces names (Some e) few =
    omega (
      arith,
      length-append (arguments_of interfaces names e) (codes "error" ∷ []),
      among_few interfaces (slice_get names.port_interfaces (port_of_event names e)) (item_of_event interfaces names (codes "operation") e) few,
    )

pub few_variables : (interfaces : InterfaceNames) (names : ComponentNames) (event : Option Data) (list slice : List (Bor (List ℕ))) (d : Data) → slice ≡ list → map text_of list ≡ first_names interfaces names event
    → HaveFewArguments interfaces → IsSmall d → length slice + size d < 2 ^ 32
few_variables interfaces names event list slice d same are few small =
    let named : length list ≡ length (first_names interfaces names event) = sym (length-map list text_of) ∙ ap length are in
    let listed : length slice ≡ length list = ap length same in
    omega (arith, named, listed, first_few interfaces names event few, small.few)
