-- The interfaces of a description that is read from few values have few items.
use Rattle.std.proofs.Common.{◌≡◌, ℕ, zero, suc, ◌^◌, ◌<◌, Bool, true, false, cond, List, [], ◌∷◌, map, slice_get, length, Some, codes, bytes_eq, refl, sym, ap, subst, ◌∙◌, arith}
use Rattle.std.proofs.lemmas.List.{length-map}
use Rattle.serde_json.specs.Data.{Data}
use Rattle.plan_definitions.specs.Common.{Description, DataElement, Interface, SenderReceiver, ClientServer, ModeSwitch, ModeElement, Operation}
use Rattle.declared_names.specs.declared.scopes.TypeNames.{TypeNames}
use Rattle.declared_names.specs.Scopes.{scope_of}
use Rattle.declared_names.specs.Sizes.{AreFew, AreSmall, IsSmall}
use Rattle.declared_names.specs.Values.{items_at, text_at}
use Rattle.declared_names.proofs.Sizes.{at_small, few_at, item_small}
use Rattle.component_model.specs.Descriptions.{DescriptionTree, description_of}
use Rattle.component_model.specs.Refusals.{IsRead}
use Rattle.component_model.specs.Types.{data_element_reading, interface_kind_reading, interface_reading, mode_element_reading, operation_reading}
use Rattle.end_search.specs.Matching.{HasFewItems}
use Rattle.end_search.specs.Tables.{item_names}

chosen : (a b : Bool) (os : List Operation) (m : ModeElement) (es : List DataElement) → length os < 2 ^ 32 → length es < 2 ^ 32
    → length (item_names (cond a (ClientServer os) (cond b (ModeSwitch m) (SenderReceiver es)))) < 2 ^ 32
chosen true b os m es h k = omega (arith, h, length-map os (λ x. x.short_name))
chosen false true os m es h k = omega arith
chosen false false os m es h k = omega (arith, k, length-map es (λ x. x.short_name))

kind_few : (names : TypeNames) (d : Data) → IsSmall d → length (item_names (interface_kind_reading names (text_at (codes "kind") d) d)) < 2 ^ 32
kind_few names d small =
    let kind = text_at (codes "kind") d in
    chosen (bytes_eq kind (codes "ClientServerInterface")) (bytes_eq kind (codes "ModeSwitchInterface"))
    (map (operation_reading names) (items_at (codes "operations") d)) (mode_element_reading names d) (map (data_element_reading names) (items_at (codes "dataElements") d))
    (omega (arith, length-map (items_at (codes "operations") d) (operation_reading names), few_at (codes "operations") d small))
    (omega (arith, length-map (items_at (codes "dataElements") d) (data_element_reading names), few_at (codes "dataElements") d small))

each_few : (names : TypeNames) (ds : List Data) (i : ℕ) (x : Interface) → slice_get (map (interface_reading names) ds) i ≡ Some x → ((j : ℕ) (d : Data) → slice_get ds j ≡ Some d → IsSmall d) → length (item_names x.kind) < 2 ^ 32
each_few names [] i x is small = cc
each_few names (d ∷ ds) zero x is small =
    let same : interface_reading names d ≡ x = cc in
    subst (λ (y : Interface). length (item_names y.kind) < 2 ^ 32) same (kind_few names d (small 0 d refl))
each_few names (d ∷ ds) (suc i) x is small = each_few names ds i x is (λ j e at. small (suc j) e at)

pub has_few_items : (bytes : List ℕ) (d : Description) → IsRead bytes (description_of d) → AreFew bytes → HasFewItems d
has_few_items bytes d is_read few =
    let v = is_read.value in
    let names = (scope_of v).types in
    let small = few.small v is_read.reads.1 in
    let types = ap (λ (t : DescriptionTree). t.types.interfaces) is_read.is_reading in
    let all : AreSmall (items_at (codes "interfaces") v) = at_small (codes "interfaces") v _ refl small in record {
      few = λ i x at. each_few names (items_at (codes "interfaces") v) i x (ap (λ xs. slice_get xs i) (sym types) ∙ at) (λ j e is. item_small (items_at (codes "interfaces") v) j e is all);
    }
