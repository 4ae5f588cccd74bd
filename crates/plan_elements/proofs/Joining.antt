-- The marks at the places of ends tell of each element whether a join has it as an end.
use Rattle.std.proofs.Common.{◌≡◌, ℕ, ◌<◌, ◌≤◌, List, [], ◌∷◌, map, length, drop, get_or, Bool, true, false, ◌||◌, nat_eq, Option, Some, None, refl, sym, ap, ◌∙◌, arith}
use Rattle.bus_semantics.specs.Common.{true≢false, get_or-map, length-map, list_any, position_from, option_eq}
use Rattle.std.proofs.lemmas.List.{at_drop_all, get_or_default, same_lists}
use Rattle.plan_definitions.specs.Common.{Description, End, Flat, Join, end_at, Key, end_key, keys_of, same_key, site, elements_of}
use Rattle.plan_definitions.specs.declared.site.SiteKind.{SiteKind}
use Rattle.plan_definitions.specs.declared.site.SiteKind.TheVariants.{Variable}
use Rattle.plan_definitions.proofs.Keys.{same_key_is, same_key_refl, same_number_refl, same_number}
use Rattle.plan_elements.proofs.Keys.{and_none, same_place}
use Rattle.plan_elements.proofs.Standing.{own_place}
use Rattle.plan_elements.specs.Ends.{AreJoined, has_at, joined_at, mark_at, stands_at}

any_same : {X : Type 0} (f g : X → Bool) → ((x : X) → f x ≡ g x) → (xs : List X) → list_any f xs ≡ list_any g xs
any_same f g same [] = refl
any_same f g same (x ∷ xs) = λ j. same x j || any_same f g same xs j

or_false : (b : Bool) → (b || false) ≡ b
or_false true = refl
or_false false = refl

-- ---- the ends of a join

pub ends_marked : (p r old one two : Bool) → one ≡ (p || old) → two ≡ (r || one) → two ≡ ((p || r) || old)
ends_marked p r old one two first second = second ∙ ap (λ b. r || b) first ∙ by p r old
  where
    by : (p r old : Bool) → (r || (p || old)) ≡ ((p || r) || old)
    by true true old = refl
    by true false old = refl
    by false true old = refl
    by false false old = refl

-- ---- what a mark tells

module _ (keys : List Key) (p : ℕ) where
  stands_is : (a : End) (k : Key) → position_from (same_key k) 0 keys ≡ Some p → stands_at keys a p ≡ same_key (end_key a) k
  stands_is a k found = by (same_key (end_key a) k) refl (stands_at keys a p) refl
    where
      by : (x : Bool) → same_key (end_key a) k ≡ x → (y : Bool) → stands_at keys a p ≡ y → y ≡ x
      by true same true at = refl
      by true same false at = absurd (true≢false (sym (same_number_refl (Some p)) ∙ ap (λ o. option_eq nat_eq o (Some p)) (sym (ap (λ q. position_from (same_key q) 0 keys) (same_key_is (end_key a) k same) ∙ found)) ∙ at))
      by false same true at = absurd (true≢false (sym (same_key_refl k) ∙ ap (λ q. same_key q k) (sym (same_place (end_key a) k 0 p keys (same_number (position_from (same_key (end_key a)) 0 keys) (Some p) at) found)) ∙ same))
      by false same false at = refl

  any_is : (k : Key) → position_from (same_key k) 0 keys ≡ Some p → (joins : List Join) → list_any (has_at keys p) joins ≡ list_any (λ j. same_key (end_key j.provided) k || same_key (end_key j.required) k) joins
  any_is k found joins = any_same (has_at keys p) (λ j. same_key (end_key j.provided) k || same_key (end_key j.required) k) (λ j i. stands_is j.provided k found i || stands_is j.required k found i) joins

  no_end : (owner : Option ℕ) (item : ℕ) (joins : List Join) → list_any (λ j. same_key (end_key j.provided) (owner, None, item) || same_key (end_key j.required) (owner, None, item)) joins ≡ false
  no_end owner item [] = refl
  no_end owner item (j ∷ joins) = (λ t. (and_none (option_eq nat_eq j.provided.instance owner) (nat_eq j.provided.element item) t || and_none (option_eq nat_eq j.required.instance owner) (nat_eq j.required.element item) t) || no_end owner item joins t)

  any_joined : (joins : List Join) (owner port : Option ℕ) (item : ℕ) (kind : SiteKind) → position_from (same_key (owner, port, item)) 0 keys ≡ Some p → list_any (has_at keys p) joins ≡ joined_at joins (site owner port item kind)
  any_joined joins owner None item kind found = any_is (owner, None, item) found joins ∙ no_end owner item joins
  any_joined joins owner (Some k) item kind found = any_is (end_key (end_at owner k item)) found joins

pub they_join : (d : Description) (f : Flat) (marks : List Bool) (i : ℕ) → length f.joins ≤ i → length marks ≡ length (elements_of d f)
    → ((n : ℕ) → n < length (elements_of d f) → list_any (has_at (keys_of (elements_of d f)) n) f.joins ≡ (mark_at marks n || list_any (has_at (keys_of (elements_of d f)) n) (drop i f.joins))) → AreJoined d f marks
they_join d f marks i past long are = same_lists marks (map (joined_at f.joins) (elements_of d f)) (long ∙ sym (length-map (elements_of d f) (joined_at f.joins))) at
  where
    keys : List Key
    keys = keys_of (elements_of d f)

    marked : (n : ℕ) → n < length (elements_of d f) → list_any (has_at keys n) f.joins ≡ mark_at marks n
    marked n within = are n within ∙ ap (λ b. mark_at marks n || b) (at_drop_all (list_any (has_at keys n)) f.joins i past) ∙ or_false (mark_at marks n)

    at : (k : ℕ) (b : Bool) → k < length marks → get_or marks k b ≡ get_or (map (joined_at f.joins) (elements_of d f)) k b
    at k b within =
        let inside : k < length (elements_of d f) = omega (arith, within, long) in
        let s = get_or (elements_of d f) k (site None None 0 Variable) in
        get_or_default marks k b false within ∙ sym (marked k inside)
        ∙ any_joined keys k f.joins s.owner s.port s.item s.kind (own_place d f k (site None None 0 Variable) inside)
        ∙ sym (get_or-map (joined_at f.joins) (elements_of d f) k (site None None 0 Variable) b inside)
