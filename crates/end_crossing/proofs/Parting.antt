-- Links of some of the ports, or of all that matter.
use Rattle.std.proofs.Common.{◌≡◌, ◌<◌, ℕ, List, Bool, true, false, nat_eq, Vec, Option, Some, None, ◌⊎◌, inl, inr, ⊎_elim, true≢false, refl, subst}
use Rattle.std.specs.Global.{Global}
use Rattle.std.specs.HashMap.{HashMap, get}
use Rattle.std.specs.Prelude.{IfNone}
use Rattle.description_types.specs.declared.description.Description.{Description}
use Rattle.composition_tables.specs.declared.links.Link.{Link}
use Rattle.composition_tables.specs.declared.tree.PortEnd.{PortEnd}
use Rattle.description_types.specs.Growing.{AnyOf, Grown}
use Rattle.end_search.specs.Wishes.{IsCutBelow}
use Rattle.end_crossing.specs.PortLinks.{IsCrossLink}
use Rattle.end_crossing.specs.Crossings.{HasPairs, IsBetween, IsPart}
use Rattle.description_types.specs.Members.{Among}
use Rattle.composition_tables.specs.Multi.{under}
use Rattle.composition_tables.proofs.Growth.{grown_same, past_weaker}

-- no search of two is cut short where neither has a limit
pub cut_found : (answer : Option Bool) (limit : ℕ) (first second : Bool) → IsCutBelow limit first → IsCutBelow limit second → IfNone answer ((first ≡ true) ⊎ (second ≡ true))
    → IfNone answer (limit < 18446744073709551615)
cut_found None limit first second f s h = ⊎_elim f s h
cut_found (Some b) limit first second f s h = h

module _ {X : Type 0} where
  pub grown_part : (P Q : X → Type 0) (before after : List X) → ((x : X) → P x → Q x) → Grown P before after true → Grown Q before after true
  grown_part P Q before after weaker g = record {
    sound = λ x h. ⊎_elim (λ o. inl o) (λ p. inr (weaker x p)) (g.sound x h);
    stays = g.stays;
    has = λ f. absurd (true≢false f);
    past = λ f. past_weaker (λ x. Among x before ⊎ P x) (λ x. Among x before ⊎ Q x) (λ x h. ⊎_elim (λ o. inl o) (λ p. inr (weaker x p)) h) (g.past f);
  }

  pub grown_after : (P Q : X → Type 0) (before between after : List X) (some is_full : Bool) → ((x : X) → P x → Q x) → Grown P before between some → Grown Q between after is_full → Grown Q before after is_full
  grown_after P Q before between after some is_full weaker g h = record {
    sound = λ x a. ⊎_elim (λ b. ⊎_elim (λ o. inl o) (λ p. inr (weaker x p)) (g.sound x b)) (λ q. inr q) (h.sound x a);
    stays = λ x a. h.stays x (g.stays x a);
    has = h.has;
    past = λ f. past_weaker (λ x. Among x between ⊎ Q x) (λ x. Among x before ⊎ Q x)
        (λ x s. ⊎_elim (λ b. ⊎_elim (λ o. inl o) (λ p. inr (weaker x p)) (g.sound x b)) (λ q. inr q) s) (h.past f);
  }

  pub grown_parted : (P : X → Type 0) (before between after : List X) (is_full : Bool) (near : Option Bool) → near ≡ None
      → IfNone near (((x : X) → Among x between → Among x before ⊎ P x) × ((x : X) → Among x before → Among x between)) → Grown P between after is_full → Grown P before after is_full
  grown_parted P before between after is_full near none part h =
      let p = subst (λ o. IfNone o (((x : X) → Among x between → Among x before ⊎ P x) × ((x : X) → Among x before → Among x between))) none part in
      record {
        sound = λ x a. ⊎_elim (λ b. p.0 x b) (λ q. inr q) (h.sound x a);
        stays = λ x a. h.stays x (p.1 x a);
        has = h.has;
        past = λ f. past_weaker (λ x. Among x between ⊎ P x) (λ x. Among x before ⊎ P x) (λ x s. ⊎_elim (λ b. p.0 x b) (λ q. inr q) s) (h.past f);
      }

-- some of the ports, or all that matter
module _ (d : Description) (provided required : List PortEnd) where
  pub pairs_part : (pairs : List (ℕ × ℕ)) (first second : List PortEnd) → ((x : PortEnd) → Among x first → Among x provided) → ((x : PortEnd) → Among x second → Among x required)
      → HasPairs d provided required pairs → HasPairs d first second pairs
  pairs_part pairs first second left right has p r a b = has p r (left p a) (right r b)

  module _ (first second : List PortEnd) (left : (x : PortEnd) → Among x first → Among x provided) (right : (x : PortEnd) → Among x second → Among x required) (before after : List Link) (is_full : Bool) where
    subset : (x : Link) → IsCrossLink d first second x → IsCrossLink d provided required x
    subset x c = (c.0, left c.0 c.1, (c.2.0, right c.2.0 c.2.1, c.2.2))

    pub cross_full : is_full ≡ true → Grown (IsCrossLink d first second) before after is_full → Grown (IsCrossLink d provided required) before after true
    cross_full full g = grown_part (IsCrossLink d first second) (IsCrossLink d provided required) before after subset (subst (Grown (IsCrossLink d first second) before after) full g)

    pub cross_part : Grown (IsCrossLink d first second) before after is_full → IsPart (IsCrossLink d provided required) before after
    cross_part g = ((λ x a. ⊎_elim (λ o. inl o) (λ c. inr (subset x c)) (g.sound x a)), g.stays)

    pub cross_whole : (pairs : List (ℕ × ℕ)) → ((x : PortEnd) → Among x provided → (r : ℕ) → Among (x.interface, r) pairs → Among x first) → ((x : PortEnd) → Among x required → (p : ℕ) → Among (p, x.interface) pairs → Among x second)
        → HasPairs d provided required pairs → is_full ≡ false → Grown (IsCrossLink d first second) before after is_full → Grown (IsCrossLink d provided required) before after false
    cross_whole pairs firsts seconds has room g = grown_same (IsCrossLink d first second) (IsCrossLink d provided required) before after false subset
        (λ x c. let l = c.2.2 in let pair = has c.0 c.2.0 c.1 c.2.1 l.0 l.1 l.2 in (c.0, firsts c.0 c.1 c.2.0.interface pair, (c.2.0, seconds c.2.0 c.2.1 c.0.interface pair, l)))
        (subst (Grown (IsCrossLink d first second) before after) room g)

-- what is known of the ends of two sides
module _ (d : Description) (provided required : List PortEnd) (pairs : List (ℕ × ℕ)) {S T : Type 0} (first : HashMap ℕ (Vec PortEnd Global) S) (second : HashMap ℕ (Vec PortEnd Global) T)
    (left : (q : ℕ) (x : PortEnd) → Among x (under (get nat_eq first q)) → Among x provided × (x.interface ≡ q)) (right : (q : ℕ) (x : PortEnd) → Among x (under (get nat_eq second q)) → Among x required × (x.interface ≡ q)) where
  between : (x : Link) → AnyOf (IsBetween d first second) pairs x → IsCrossLink d provided required x
  between x a = let c = a.2 in (c.0, (left a.0.0 c.0 c.1).0, (c.2.0, (right a.0.1 c.2.0 c.2.1).0, c.2.2))

  pub known_full : (before after : List Link) (is_full : Bool) → is_full ≡ true → Grown (AnyOf (IsBetween d first second) pairs) before after is_full → Grown (IsCrossLink d provided required) before after true
  known_full before after is_full full g = grown_part (AnyOf (IsBetween d first second) pairs) (IsCrossLink d provided required) before after between (subst (Grown (AnyOf (IsBetween d first second) pairs) before after) full g)

  pub known_rest : (before middle after : List Link) (some is_full : Bool) → Grown (AnyOf (IsBetween d first second) pairs) before middle some → Grown (IsCrossLink d provided required) middle after is_full
      → Grown (IsCrossLink d provided required) before after is_full
  known_rest before middle after some is_full g h = grown_after (AnyOf (IsBetween d first second) pairs) (IsCrossLink d provided required) before middle after some is_full between g h

  pub known_all : ((k : ℕ × ℕ) → Among k pairs → (x : PortEnd) → Among x provided → x.interface ≡ k.0 → Among x (under (get nat_eq first k.0)))
      → ((k : ℕ × ℕ) → Among k pairs → (x : PortEnd) → Among x required → x.interface ≡ k.1 → Among x (under (get nat_eq second k.1)))
      → HasPairs d provided required pairs → (before after : List Link) (is_full : Bool) → Grown (AnyOf (IsBetween d first second) pairs) before after is_full → Grown (IsCrossLink d provided required) before after is_full
  known_all firsts seconds has before after is_full g = grown_same (AnyOf (IsBetween d first second) pairs) (IsCrossLink d provided required) before after is_full between
      (λ x c. let l = c.2.2 in let pair = has c.0 c.2.0 c.1 c.2.1 l.0 l.1 l.2 in
      ((c.0.interface, c.2.0.interface), pair, (c.0, firsts (c.0.interface, c.2.0.interface) pair c.0 c.1 refl, (c.2.0, seconds (c.0.interface, c.2.0.interface) pair c.2.0 c.2.1 refl, l)))) g
