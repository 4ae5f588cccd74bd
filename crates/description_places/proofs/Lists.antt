-- The items of an array, one more of them.
use Rattle.std.proofs.Common.{◌≡◌, ℕ, ◌+◌, ◌<◌, List, [], ◌∷◌, ◌++◌, map, take, length, get_or, sym, ap, ◌∙◌}
use Rattle.std.proofs.lemmas.List.{take_more, map-append}
use Rattle.serde_json.specs.Data.{Data}
use Rattle.serde_json.specs.View.{view}
use Rattle.serde_json.specs.declared.value.Value.{Value}

pub seen_more : {Y : Type 0} (f : Data → Y) (vs : List Value) (i : ℕ) (v : Value) → i < length vs → v ≡ get_or vs i v → map f (map view (take (i + 1) vs)) ≡ map f (map view (take i vs)) ++ f (view v) ∷ []
seen_more f vs i v h is =
    ap (λ ws. map f (map view ws)) (take_more vs i v h ∙ ap (λ w. take i vs ++ w ∷ []) (sym is))
    ∙ ap (map f) (map-append view (take i vs) (v ∷ []))
    ∙ map-append f (map view (take i vs)) (view v ∷ [])
