-- Links of the same ports.
use Rattle.std.proofs.Common.{◌≡◌, List, [], ◌∷◌, Bool, false, inl, ⊎_elim, ◌↔◌, refl, sym, subst}
use Rattle.description_types.specs.declared.description.Description.{Description}
use Rattle.composition_tables.specs.declared.links.Link.{Link}
use Rattle.composition_tables.specs.declared.tree.PortEnd.{PortEnd}
use Rattle.end_crossing.specs.PortLinks.{IsCrossLink, IsPairLink}
use Rattle.description_types.specs.Growing.{Grown}
use Rattle.description_types.specs.Members.{Among}
use Rattle.composition_tables.proofs.Growth.{grown_same, grown_none}

-- the links of the same ports
pub cross_same : (d : Description) (ps qs first ps2 qs2 second : List PortEnd) (before after : List Link) (is_full : Bool) → first ≡ ps → second ≡ qs
    → ((x : PortEnd) → Among x ps ↔ Among x ps2) → ((x : PortEnd) → Among x qs ↔ Among x qs2) → Grown (IsCrossLink d first second) before after is_full → Grown (IsCrossLink d ps2 qs2) before after is_full
cross_same d ps qs first ps2 qs2 second before after is_full first_is second_is left_same right_same g =
    grown_same (IsCrossLink d ps qs) (IsCrossLink d ps2 qs2) before after is_full
    (λ x a. (a.0, (left_same a.0).0 a.1, (a.2.0, (right_same a.2.0).0 a.2.1, a.2.2)))
    (λ x a. (a.0, (left_same a.0).1 a.1, (a.2.0, (right_same a.2.0).1 a.2.1, a.2.2)))
    (subst (λ l. Grown (IsCrossLink d ps l) before after is_full) second_is (subst (λ l. Grown (IsCrossLink d l second) before after is_full) first_is g))

-- the links of equal lists of ports, and of none
pub cross_at : (d : Description) (ps qs ps2 qs2 : List PortEnd) (before after : List Link) (is_full : Bool) → ps ≡ ps2 → qs ≡ qs2 → Grown (IsCrossLink d ps qs) before after is_full → Grown (IsCrossLink d ps2 qs2) before after is_full
cross_at d ps qs ps2 qs2 before after is_full first second g = subst (λ l. Grown (IsCrossLink d ps2 l) before after is_full) second (subst (λ l. Grown (IsCrossLink d l qs) before after is_full) first g)

pub no_providers : (d : Description) (ps qs : List PortEnd) (list : List Link) → [] ≡ ps → Grown (IsCrossLink d ps qs) list list false
no_providers d ps qs list none = grown_none (IsCrossLink d ps qs) list (λ x a. subst (Among a.0) (sym none) a.1)

pub no_requesters : (d : Description) (ps qs : List PortEnd) (list : List Link) → [] ≡ qs → Grown (IsCrossLink d ps qs) list list false
no_requesters d ps qs list none = grown_none (IsCrossLink d ps qs) list (λ x a. subst (Among a.2.0) (sym none) a.2.1)

-- the links of one provided port and one required one
only : (x y : PortEnd) → Among x (y ∷ []) → x ≡ y
only x y h = ⊎_elim (λ is. is) (λ none. absurd none) h

pub lone_cross : (d : Description) (ps qs : List PortEnd) (p q : PortEnd) (before after : List Link) (is_full : Bool) → ps ≡ p ∷ [] → qs ≡ q ∷ [] → Grown (IsPairLink d p q) before after is_full → Grown (IsCrossLink d ps qs) before after is_full
lone_cross d ps qs p q before after is_full first second g = cross_at d (p ∷ []) (q ∷ []) ps qs before after is_full (sym first) (sym second)
    (grown_same (IsPairLink d p q) (IsCrossLink d (p ∷ []) (q ∷ [])) before after is_full
    (λ x h. (p, inl refl, (q, inl refl, h)))
    (λ x h. subst (λ r. IsPairLink d p r x) (only h.2.0 q h.2.1) (subst (λ r. IsPairLink d r h.2.0 x) (only h.0 p h.1) h.2.2)) g)
