-- The items of an array, read one after another.
use Rattle.std.proofs.Common.{rules, arith, subst, ◌≡◌, ℕ, ◌+◌, ◌<◌, List, [], ◌∷◌, ◌++◌, map, take, length, get_or, sym, ap, ◌∙◌}
use Rattle.std.proofs.lemmas.List.{map-append, take_more}
use Rattle.serde_json.specs.Data.{Data, null}
use Rattle.serde_json.specs.View.{view}
use Rattle.serde_json.specs.declared.value.Value.{Value, Null, the_lemmas}
use Rattle.declared_names.specs.Sizes.{IsSmall}

-- one more item is read
pub item_read : {X Y : Type 0} (tree : X → Y) (reading : Data → Y) (vs : List Value) (i : ℕ) (v : Value) (list after : List X) (x : X) → i < length vs → v ≡ get_or vs i v
    → map tree list ≡ map reading (map view (take i vs)) → tree x ≡ reading (view v) → after ≡ list ++ x ∷ [] → map tree after ≡ map reading (map view (take (i + 1) vs))
item_read tree reading vs i v list after x h is before read pushed =
    ap (map tree) pushed ∙ map-append tree list (x ∷ []) ∙ ap (λ ys. ys ++ tree x ∷ []) before ∙ ap (λ y. map reading (map view (take i vs)) ++ y ∷ []) (read ∙ ap (λ w. reading (view w)) is)
    ∙ sym (ap (λ ws. map reading (map view ws)) (take_more vs i v h) ∙ ap (map reading) (map-append view (take i vs) (get_or vs i v ∷ [])) ∙ map-append reading (map view (take i vs)) (view (get_or vs i v) ∷ []))

-- nothing, as data
pub view_null : view Null ≡ null
view_null = search (rules, the_lemmas)

pub null_small : IsSmall (view Null)
null_small = subst IsSmall (sym view_null) (record { few = omega arith })
