-- What a header lists tells nothing of how programs are held.
use Rattle.std.proofs.Common.{◌≡◌, List, [], ◌∷◌, map, Bool, true, false, cond, bytes_eq, Option, Some, None, option_map, refl, sym, ap, ◌∙◌}
use Rattle.bus_semantics.specs.Common.{find, flat_map, same_Some}
use Rattle.plan_definitions.specs.Common.{TypeTable, Component, Runnable, Description}
use Rattle.component_model.specs.Descriptions.{description_of}
use Rattle.component_model.specs.Programs.{component_tree, runnable_tree}
use Rattle.plan_text.specs.Headers.{header_for, header_of, header_with}
use Rattle.plan_text.specs.Listing.{each_once, first_clash, given, given_by}
use Rattle.plan_text.specs.Targets.{Letters}
use Rattle.description_stages.proofs.Held.{bare, held_is, held_same, on_each, running}

given_by-again : (types : TypeTable) (c : Component) (r s : Runnable) → runnable_tree r ≡ runnable_tree s → given_by types c r ≡ given_by types c s
given_by-again types c r s e = ap (λ t. given_by types c (running r.program t)) e

given-again : (types : TypeTable) (a b : Component) → component_tree a ≡ component_tree b → given types a ≡ given types b
given-again types a b e =
    on_each runnable_tree (given_by types a) (given_by-again types a) a.behavior.runnables b.behavior.runnables (ap (λ t. t.behavior.runnables) e)
    ∙ ap (λ t. flat_map (given_by types (bare t)) b.behavior.runnables) e

-- the component of a name
chosen : (b : Bool) (c : Component) (rest : Option Component) → option_map component_tree (cond b (Some c) rest) ≡ cond b (Some (component_tree c)) (option_map component_tree rest)
chosen true c rest = refl
chosen false c rest = refl

named-again : (name : Letters) (xs ys : List Component) → map component_tree xs ≡ map component_tree ys
    → option_map component_tree (find (λ c. bytes_eq c.short_name name) xs) ≡ option_map component_tree (find (λ c. bytes_eq c.short_name name) ys)
named-again name [] [] e = refl
named-again name [] (y ∷ ys) e = absurd cc
named-again name (x ∷ xs) [] e = absurd cc
named-again name (x ∷ xs) (y ∷ ys) e =
    let one : component_tree x ≡ component_tree y = cc in
    let others : map component_tree xs ≡ map component_tree ys = cc in
    chosen (bytes_eq x.short_name name) x (find (λ c. bytes_eq c.short_name name) xs)
    ∙ ((λ i. cond (bytes_eq ((one i).short_name) name) (Some (one i)) (named-again name xs ys others i))
    ∙ sym (chosen (bytes_eq y.short_name name) y (find (λ c. bytes_eq c.short_name name) ys)))

header-again : (types : TypeTable) (name : Letters) (o p : Option Component) → option_map component_tree o ≡ option_map component_tree p → header_for types name o ≡ header_for types name p
header-again types name None None e = refl
header-again types name None (Some b) e = absurd cc
header-again types name (Some a) None e = absurd cc
header-again types name (Some a) (Some b) e =
    ap (λ ts. header_with name (each_once ts) (first_clash [] (each_once ts))) (given-again types a b (same_Some (component_tree a) (component_tree b) e))

pub header_of-again : (d e : Description) (name : Letters) → description_of d ≡ description_of e → header_of d name ≡ header_of e name
header_of-again d e name same =
    header-again d.types name (find (λ c. bytes_eq c.short_name name) d.components) (find (λ c. bytes_eq c.short_name name) e.components) (named-again name d.components e.components (held_same d e same))
    ∙ ap (λ x. header_of x name) (held_is d e same)
