-- A member of an object, found by its key, and the number of an array's parts.
use Rattle.std.proofs.Common.{◌≡◌, ℕ, List, length, Option, Some, None, option_map, is_some, String, Global, string_bytes, nat_cmp, Bor, refl, ap, ◌∙◌}
use Rattle.std.specs.Cmp.Lexicographic.{slice_cmp}
use Rattle.std.specs.Map.{lookup}
use Rattle.std.specs.BTreeMap.{is_at}
use Rattle.serde_json.specs.Events.{items_len}
use Rattle.serde_json.specs.Find.{get_member}
use Rattle.serde_json.specs.View.{view, items_view, members_view}
use Rattle.serde_json.specs.declared.value.Value.{Value}
use Rattle.serde_json.proofs.Views.{view_of_ref, view-lookup, items_len-items_view}

pub parts_counted : (vs : List Value) → items_len (items_view vs) ≡ length vs
parts_counted vs = items_len-items_view vs

is_some_map : {X Y : Type 0} (f : X → Y) (x : Option X) → is_some x ≡ is_some (option_map f x)
is_some_map f None = refl
is_some_map f (Some x) = refl

pub member_found : (found : Option (Bor Value)) (name : List ℕ) (es : List (String Global × Value)) → option_map (λ x. x.now) found ≡ lookup (is_at (λ k. slice_cmp nat_cmp name (string_bytes k))) es
    → option_map (λ x. view x.now) found ≡ get_member name (members_view es)
member_found found name es e = view_of_ref found ∙ ap (option_map view) e ∙ view-lookup name es

pub is_member : (found : Option (Bor Value)) (name : List ℕ) (es : List (String Global × Value)) → option_map (λ x. x.now) found ≡ lookup (is_at (λ k. slice_cmp nat_cmp name (string_bytes k))) es
    → is_some found ≡ is_some (get_member name (members_view es))
is_member found name es e = is_some_map (λ x. view x.now) found ∙ ap is_some (member_found found name es e)
