-- Interfaces by the keys of their items.
use Rattle.std.proofs.Common.{◌≡◌, ℕ, ◌+◌, ◌<◌, List, [], ◌∷◌, length, get_or, map, take, Bor, IsTrue, nat_eq, bytes_eq, slice_get, option_map, Some, None, ◌⊎◌, inl, inr, ⊎_elim, ◌↔◌, refl}
use Rattle.std.proofs.Common.{sym, ap, subst, ◌∙◌}
use Rattle.std.proofs.lemmas.Bool.{eq-eqb, and_from}
use Rattle.std.proofs.lemmas.List.{take_more, map-append}
use Rattle.std.specs.Cmp.Lexicographic.{bytes_decides}
use Rattle.description_types.specs.declared.description.Description.{Description}
use Rattle.end_search.specs.declared.interfaces.Listed.{Listed}
use Rattle.description_types.specs.Items.{interface_at}
use Rattle.end_search.specs.Matching.{AreListed}
use Rattle.description_types.specs.Members.{Among}
use Rattle.end_search.specs.Sharing.{interface_keys, keys_of, same_item}
use Rattle.composition_tables.proofs.Members.{cases}
use Rattle.end_search.proofs.SameNames.{listed_at}

-- one more of a list
pub taken_cases : {X : Type 0} (xs : List X) (i : ℕ) (d x : X) → i < length xs → Among x (take (i + 1) xs) → Among x (take i xs) ⊎ (x ≡ get_or xs i d)
taken_cases xs i d x h a = ⊎_elim (λ l. inl l) (λ r. ⊎_elim (λ e. inr e) (λ never. absurd never) r) (cases x (take i xs) (get_or xs i d ∷ []) (subst (Among x) (take_more xs i d h) a))

pub unmapped : {X Y : Type 0} (f : X → Y) (xs : List X) (y : Y) → Among y (map f xs) → (x : X) × Among x xs × (y ≡ f x)
unmapped f [] y h = absurd h
unmapped f (x ∷ xs) y (inl e) = (x, inl refl, e)
unmapped f (x ∷ xs) y (inr h) = let r = unmapped f xs y h in (r.0, inr r.1, r.2)

-- one more key has the interface
pub keys_more : (keys : List (ℕ × Bor (List ℕ))) (place : ℕ) (d : ℕ × Bor (List ℕ)) (interface : ℕ) (q : ℕ × Bor (List ℕ)) (N M : List ℕ) → place < length keys
    → ((x : ℕ) → Among x N ↔ (Among x M ⊎ ((x ≡ interface) × IsTrue (same_item (get_or keys place d) q)))) → (Among (q.0, q.1.now) (keys_of (take place keys)) → Among interface M)
    → Among (q.0, q.1.now) (keys_of (take (place + 1) keys)) → Among interface N
keys_more keys place d interface q N M within now before a =
    let e = get_or keys place d in
    let parts = subst (Among (q.0, q.1.now)) (ap keys_of (take_more keys place d within) ∙ map-append (λ (k : ℕ × Bor (List ℕ)). (k.0, k.1.now)) (take place keys) (e ∷ [])) a in
    ⊎_elim (λ l. (now interface).1 (inl (before l)))
    (λ r. ⊎_elim (λ (is : (q.0, q.1.now) ≡ (e.0, e.1.now)). (now interface).1 (inr (refl, and_from (nat_eq e.0 q.0) (bytes_eq e.1.now q.1.now) (eq-eqb e.0 q.0 (sym (ap (λ k. k.0) is))) ((bytes_decides e.1.now q.1.now).1 (sym (ap (λ k. k.1) is))))))
    (λ never. absurd never) r)
    (cases (q.0, q.1.now) (keys_of (take place keys)) ((e.0, e.1.now) ∷ []) parts)

module _ (d : Description) (list : List Listed) (k : ℕ) (is : AreListed d list) where
  pub listed_keys : (listed : Listed) (keys : List (ℕ × Bor (List ℕ))) → slice_get list k ≡ Some listed → keys ≡ listed.keys.items → keys_of keys ≡ interface_keys (interface_at d k)
  listed_keys listed keys here same =
      let kind : Some listed.kind.now ≡ interface_at d k = ap (option_map (λ (x : Listed). x.kind.now)) (sym here) ∙ listed_at d list k is in
      ap keys_of same ∙ listed.keyed ∙ ap interface_keys kind

  pub unlisted_keys : slice_get list k ≡ None → interface_keys (interface_at d k) ≡ []
  unlisted_keys here =
      let none : interface_at d k ≡ None = sym (listed_at d list k is) ∙ ap (option_map (λ (x : Listed). x.kind.now)) here in
      ap interface_keys none
