-- An end that breaks a rule stands at a port that is found.
use Rattle.std.proofs.Common.{◌≡◌, List, Bool, true, ◌&&◌, ap, ◌∙◌, nat_eq}
use Rattle.std.proofs.lemmas.Bool.{and_from, and_parts}
use Rattle.plan_definitions.specs.Common.{End, Join, are_several, is_crowded, is_many_to_many, providers}
use Rattle.plan_definitions.specs.Joins.{same_end}
use Rattle.join_search.specs.Suspects.{among_at, port_of, same_port, several_at}
use Rattle.join_search.specs.Partners.{Key, key_of}
use Rattle.plan_definitions.proofs.Keys.{same_end_is, same_end_refl}
use Rattle.join_search.proofs.PartnersAre.{any_joined, joined_any, two_providers}

same_port_refl : (e : End) → same_port (port_of e) (port_of e) ≡ true
same_port_refl e = (and_parts (same_port (port_of e) (port_of e)) (nat_eq e.element e.element) (same_end_refl e)).0

pub several_there : (joins : List Join) (e : End) → are_several (providers joins e) ≡ true → several_at joins (port_of e) ≡ true
several_there joins e several =
    let two = two_providers joins e several in
    joined_any (λ j. same_port (port_of j.required) (port_of e) && are_several (providers joins j.required)) joins two.0 e two.2 (and_from _ _ (same_port_refl e) several)

pub crowded_there : (joins : List Join) (is_among : Key → Bool) → ((e : End) → is_among (key_of e) ≡ is_many_to_many joins e) → (e : End) → is_many_to_many joins e ≡ true → among_at is_among joins (port_of e) ≡ true
crowded_there joins is_among known e many =
    let o = any_joined (λ j. same_end j.required e && is_crowded joins j.provided) joins many in
    let parts = and_parts (same_end o.1 e) (is_crowded joins o.0) o.3 in
    let port : same_port (port_of o.1) (port_of e) ≡ true = ap (λ r. same_port (port_of r) (port_of e)) (same_end_is o.1 e parts.0) ∙ same_port_refl e in
    let there : is_among (key_of o.1) ≡ true = known o.1 ∙ ap (is_many_to_many joins) (same_end_is o.1 e parts.0) ∙ many in
    joined_any (λ j. same_port (port_of j.required) (port_of e) && is_among (key_of j.required)) joins o.0 o.1 o.2 (and_from _ _ port there)
