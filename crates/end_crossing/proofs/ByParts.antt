-- Links of rows and columns, and of parts.
use Rattle.std.proofs.Common.{ℕ, List, Bool, nat_eq, inl, inr, subst}
use Rattle.std.specs.HashMap.{get}
use Rattle.std.specs.List.{flat_map}
use Rattle.description_types.specs.declared.description.Description.{Description}
use Rattle.end_crossing.specs.declared.crossings.Crossing.TheVariants.{Row, Column}
use Rattle.end_search.specs.declared.gates.Gate.{Gate}
use Rattle.composition_tables.specs.declared.links.Link.{Link}
use Rattle.end_search.specs.declared.sides.Side.{Side}
use Rattle.composition_tables.specs.declared.tree.PortEnd.{PortEnd}
use Rattle.description_types.specs.Growing.{AnyOf, Grown}
use Rattle.end_crossing.specs.PortLinks.{IsPairLink, IsCrossLink}
use Rattle.end_search.specs.Sides.{AreOf, HasInterface, IsSide}
use Rattle.end_crossing.specs.Crossings.{IsCrossingLink}
use Rattle.description_types.specs.Members.{Among}
use Rattle.composition_tables.specs.Multi.{under}
use Rattle.composition_tables.proofs.Growth.{grown_same}
use Rattle.composition_tables.proofs.Members.{flat, unflat}

module _ (d : Description) (gate : Gate) (interface : ℕ) (list : List PortEnd) (are : AreOf d gate interface list) (before after : List Link) (is_full : Bool) where
  -- a row is an end with each of the list, a column each of the list with an end
  pub row_grown : (p : PortEnd) → Grown (IsCrossingLink d (Row p gate interface)) before after is_full → Grown (AnyOf (IsPairLink d p) list) before after is_full
  row_grown p g = grown_same (IsCrossingLink d (Row p gate interface)) (AnyOf (IsPairLink d p) list) before after is_full
      (λ x h. (h.0, (are h.0).1 h.1, h.2)) (λ x h. (h.0, (are h.0).0 h.1, h.2)) g

  pub column_grown : (r : PortEnd) → Grown (IsCrossingLink d (Column gate interface r)) before after is_full → Grown (AnyOf (λ (p : PortEnd). IsPairLink d p r) list) before after is_full
  column_grown r g = grown_same (IsCrossingLink d (Column gate interface r)) (AnyOf (λ (p : PortEnd). IsPairLink d p r) list) before after is_full
      (λ x h. (h.0, (are h.0).1 h.1, h.2)) (λ x h. (h.0, (are h.0).0 h.1, h.2)) g

-- all of a row or column is there
module _ (d : Description) (gate : Gate) (interface : ℕ) (list : List PortEnd) (are : AreOf d gate interface list) (links : List Link) where
  pub row_there : (p : PortEnd) → ((x : Link) → AnyOf (IsPairLink d p) list x → Among x links) → (x : Link) → IsCrossingLink d (Row p gate interface) x → Among x links
  row_there p all x h = all x (h.0, (are h.0).1 h.1, h.2)

  pub column_there : (r : PortEnd) → ((x : Link) → AnyOf (λ (p : PortEnd). IsPairLink d p r) list x → Among x links) → (x : Link) → IsCrossingLink d (Column gate interface r) x → Among x links
  column_there r all x h = all x (h.0, (are h.0).1 h.1, h.2)

-- columns one after the other are all links
pub columns_cross : (d : Description) (first second : List PortEnd) (before after : List Link) (is_full : Bool)
    → Grown (AnyOf (λ (r : PortEnd). AnyOf (λ (p : PortEnd). IsPairLink d p r) first) second) before after is_full → Grown (IsCrossLink d first second) before after is_full
columns_cross d first second before after is_full g =
    grown_same (AnyOf (λ (r : PortEnd). AnyOf (λ (p : PortEnd). IsPairLink d p r) first) second) (IsCrossLink d first second) before after is_full
    (λ x h. (h.2.0, h.2.1, (h.0, h.1, h.2.2))) (λ x h. (h.2.0, h.2.1, (h.0, h.1, h.2.2))) g

-- a side that has all ends of an interface has them in its group
pub side_has : (d : Description) (gate : Gate) (side : Side) → IsSide d gate side → (q : ℕ) → HasInterface side q → AreOf d gate q (under (get nat_eq side.groups q))
side_has d gate side is q (inl all) x = (is.sound q x, (λ h. subst (λ i. Among x (under (get nat_eq side.groups i))) h.1 (is.whole all x h.0)))
side_has d gate side is q (inr known) x = is.known q known x

-- what is below parts is below one of them
module _ {X : Type 0} (d : Description) (f : X → List PortEnd) (parts : List X) (others : List PortEnd) (before after : List Link) (is_full : Bool) where
  pub provided_parts : Grown (AnyOf (λ part. IsCrossLink d (f part) others) parts) before after is_full → Grown (IsCrossLink d (flat_map f parts) others) before after is_full
  provided_parts g = grown_same (AnyOf (λ part. IsCrossLink d (f part) others) parts) (IsCrossLink d (flat_map f parts) others) before after is_full
      (λ x h. (h.2.0, flat f h.0 parts h.2.0 h.1 h.2.1, h.2.2)) (λ x h. let u = unflat f parts h.0 h.1 in (u.0, u.1, (h.0, u.2, h.2))) g

  pub required_parts : Grown (AnyOf (λ part. IsCrossLink d others (f part)) parts) before after is_full → Grown (IsCrossLink d others (flat_map f parts)) before after is_full
  required_parts g = grown_same (AnyOf (λ part. IsCrossLink d others (f part)) parts) (IsCrossLink d others (flat_map f parts)) before after is_full
      (λ x h. (h.2.0, h.2.1, (h.2.2.0, flat f h.0 parts h.2.2.0 h.1 h.2.2.1, h.2.2.2)))
      (λ x h. let u = unflat f parts h.2.0 h.2.1 in (u.0, u.1, (h.0, h.1, (h.2.0, u.2, h.2.2)))) g
