-- Partners of an end are the ends that it is joined with.
use Rattle.std.proofs.Common.{◌≡◌, ◌≢◌, List, [], ◌∷◌, map, filter, Bool, true, false, cond, ◌||◌, not, ◌⊎◌, inl, inr, ⊎_elim, refl, sym, ap, subst, ◌∙◌, true≢false}
use Rattle.std.proofs.lemmas.Bool.{or_cases, or_right}
use Rattle.std.specs.List.{list_any}
use Rattle.plan_definitions.specs.Common.{End, Join, providers, requirers, are_several}
use Rattle.plan_definitions.specs.JoinGroups.{IsJoined}
use Rattle.plan_definitions.specs.Joins.{same_end, partners}
use Rattle.plan_definitions.proofs.Keys.{same_end_is, same_end_refl}

-- x is one of these
abbrev In : List End → End → Type 0
In [] x = ⊥
In (y ∷ ys) x = (y ≡ x) ⊎ In ys x

same_by : (z y x : End) (ys : List End) (b : Bool) → same_end z y ≡ b → (not (same_end z y) || list_any (λ y. not (same_end z y)) ys) ≡ false → (y ≡ x) ⊎ In ys x
    → (list_any (λ y. not (same_end z y)) ys ≡ false → In ys x → z ≡ x) → z ≡ x
same_by z y x ys true same none h rest = ⊎_elim (λ here. same_end_is z y same ∙ here) (λ there. rest (sym (ap (λ b. not b || list_any (λ y. not (same_end z y)) ys) same) ∙ none) there) h
same_by z y x ys false same none h rest = absurd (true≢false (sym (ap (λ b. not b || list_any (λ y. not (same_end z y)) ys) same) ∙ none))

all_same : (z : End) (ys : List End) → list_any (λ y. not (same_end z y)) ys ≡ false → (x : End) → In ys x → z ≡ x
all_same z [] none x h = absurd h
all_same z (y ∷ ys) none x h = same_by z y x ys (same_end z y) refl none h (λ rest there. all_same z ys rest x there)

-- two of some ends that are not several are the same
only_one : (xs : List End) → are_several xs ≡ false → (x y : End) → In xs x → In xs y → x ≡ y
only_one [] none x y a b = absurd a
only_one (z ∷ zs) none x y a b = sym (first x a) ∙ first y b
  where
    first : (w : End) → In (z ∷ zs) w → z ≡ w
    first w h = ⊎_elim (λ here. here) (λ there. all_same z zs none w there) h

other_by : (z y : End) (ys : List End) (b : Bool) → same_end z y ≡ b → (not (same_end z y) || list_any (λ y. not (same_end z y)) ys) ≡ true
    → (list_any (λ y. not (same_end z y)) ys ≡ true → (x : End) × In ys x × (z ≢ x)) → (x : End) × In (y ∷ ys) x × (z ≢ x)
other_by z y ys true same some rest = let o = rest (sym (ap (λ b. not b || list_any (λ y. not (same_end z y)) ys) same) ∙ some) in (o.0, inr o.1, o.2)
other_by z y ys false same some rest = (y, inl refl, λ (e : z ≡ y). true≢false (sym (same_end_refl z) ∙ ap (same_end z) e ∙ same))

other_one : (z : End) (ys : List End) → list_any (λ y. not (same_end z y)) ys ≡ true → (x : End) × In ys x × (z ≢ x)
other_one z [] some = absurd (true≢false (sym some))
other_one z (y ∷ ys) some = other_by z y ys (same_end z y) refl some (λ rest. other_one z ys rest)

two_of : (xs : List End) → are_several xs ≡ true → (x : End) × (y : End) × In xs x × In xs y × (x ≢ y)
two_of [] some = absurd (true≢false (sym some))
two_of (z ∷ zs) some = let o = other_one z zs some in (z, o.0, inl refl, inr o.1, o.2)

module _ (own other : Join → End) (e : End) where
  -- x is on the other side of a join of e
  abbrev Linked : List Join → End → Type 0
  Linked [] x = ⊥
  Linked (j ∷ joins) x = ((own j ≡ e) × (other j ≡ x)) ⊎ Linked joins x

  kept_in : (j : Join) (joins : List Join) (x : End) (b : Bool) → In (partners own other joins e) x → In (map other (cond b (j ∷ filter (λ j. same_end (own j) e) joins) (filter (λ j. same_end (own j) e) joins))) x
  kept_in j joins x true i = inr i
  kept_in j joins x false i = i

  here_in : (j : Join) (joins : List Join) (x : End) → own j ≡ e → other j ≡ x → In (partners own other (j ∷ joins) e) x
  here_in j joins x isown isother = subst (λ b. In (map other (cond b (j ∷ filter (λ j. same_end (own j) e) joins) (filter (λ j. same_end (own j) e) joins))) x)
      (sym (ap (λ z. same_end z e) isown ∙ same_end_refl e)) (inl isother)

  linked_in : (joins : List Join) (x : End) → Linked joins x → In (partners own other joins e) x
  linked_in [] x h = absurd h
  linked_in (j ∷ joins) x h = ⊎_elim (λ here. here_in j joins x here.0 here.1) (λ there. kept_in j joins x (same_end (own j) e) (linked_in joins x there)) h

  linked_by : (j : Join) (joins : List Join) (x : End) (b : Bool) → same_end (own j) e ≡ b → In (map other (cond b (j ∷ filter (λ j. same_end (own j) e) joins) (filter (λ j. same_end (own j) e) joins))) x
      → (In (partners own other joins e) x → Linked joins x) → Linked (j ∷ joins) x
  linked_by j joins x true same i rest = ⊎_elim (λ here. inl (same_end_is (own j) e same, here)) (λ there. inr (rest there)) i
  linked_by j joins x false same i rest = inr (rest i)

  in_linked : (joins : List Join) (x : End) → In (partners own other joins e) x → Linked joins x
  in_linked [] x h = absurd h
  in_linked (j ∷ joins) x h = linked_by j joins x (same_end (own j) e) refl h (λ i. in_linked joins x i)

provider_linked : (joins : List Join) (p r : End) → IsJoined joins p r → Linked (λ j. j.required) (λ j. j.provided) r joins p
provider_linked [] p r h = absurd h
provider_linked (j ∷ joins) p r h = ⊎_elim (λ here. inl (here.1, here.0)) (λ there. inr (provider_linked joins p r there)) h

linked_provider : (joins : List Join) (p r : End) → Linked (λ j. j.required) (λ j. j.provided) r joins p → IsJoined joins p r
linked_provider [] p r h = absurd h
linked_provider (j ∷ joins) p r h = ⊎_elim (λ here. inl (here.1, here.0)) (λ there. inr (linked_provider joins p r there)) h

requirer_linked : (joins : List Join) (p r : End) → IsJoined joins p r → Linked (λ j. j.provided) (λ j. j.required) p joins r
requirer_linked [] p r h = absurd h
requirer_linked (j ∷ joins) p r h = ⊎_elim (λ here. inl here) (λ there. inr (requirer_linked joins p r there)) h

linked_requirer : (joins : List Join) (p r : End) → Linked (λ j. j.provided) (λ j. j.required) p joins r → IsJoined joins p r
linked_requirer [] p r h = absurd h
linked_requirer (j ∷ joins) p r h = ⊎_elim (λ here. inl here) (λ there. inr (linked_requirer joins p r there)) h

module _ (joins : List Join) where
  pub one_provider : (r : End) → are_several (providers joins r) ≡ false → (p q : End) → IsJoined joins p r → IsJoined joins q r → p ≡ q
  one_provider r none p q a b = only_one (providers joins r) none p q
      (linked_in (λ j. j.required) (λ j. j.provided) r joins p (provider_linked joins p r a)) (linked_in (λ j. j.required) (λ j. j.provided) r joins q (provider_linked joins q r b))

  pub one_requirer : (p : End) → are_several (requirers joins p) ≡ false → (r s : End) → IsJoined joins p r → IsJoined joins p s → r ≡ s
  one_requirer p none r s a b = only_one (requirers joins p) none r s
      (linked_in (λ j. j.provided) (λ j. j.required) p joins r (requirer_linked joins p r a)) (linked_in (λ j. j.provided) (λ j. j.required) p joins s (requirer_linked joins p s b))

  pub two_providers : (r : End) → are_several (providers joins r) ≡ true → (p : End) × (q : End) × IsJoined joins p r × IsJoined joins q r × (p ≢ q)
  two_providers r some = let t = two_of (providers joins r) some in
      (t.0, t.1, linked_provider joins t.0 r (in_linked (λ j. j.required) (λ j. j.provided) r joins t.0 t.2), linked_provider joins t.1 r (in_linked (λ j. j.required) (λ j. j.provided) r joins t.1 t.3), t.4)

  pub two_requirers : (p : End) → are_several (requirers joins p) ≡ true → (r : End) × (s : End) × IsJoined joins p r × IsJoined joins p s × (r ≢ s)
  two_requirers p some = let t = two_of (requirers joins p) some in
      (t.0, t.1, linked_requirer joins p t.0 (in_linked (λ j. j.provided) (λ j. j.required) p joins t.0 t.2), linked_requirer joins p t.1 (in_linked (λ j. j.provided) (λ j. j.required) p joins t.1 t.3), t.4)

-- some of the joins passes a test
pub any_joined : (f : Join → Bool) (joins : List Join) → list_any f joins ≡ true → (p : End) × (r : End) × IsJoined joins p r × (f (record { provided = p; required = r }) ≡ true)
any_joined f [] h = absurd (true≢false (sym h))
any_joined f (j ∷ joins) h = ⊎_elim (λ here. (j.provided, j.required, inl (refl, refl), here)) (λ there. let o = any_joined f joins there in (o.0, o.1, inr o.2, o.3)) (or_cases (f j) (list_any f joins) h)

pub joined_any : (f : Join → Bool) (joins : List Join) (p r : End) → IsJoined joins p r → f (record { provided = p; required = r }) ≡ true → list_any f joins ≡ true
joined_any f [] p r h passes = absurd h
joined_any f (j ∷ joins) p r h passes = ⊎_elim
    (λ here. ap (λ b. b || list_any f joins) ((λ t. f (record { provided = here.0 t; required = here.1 t })) ∙ passes))
    (λ there. or_right (f j) (list_any f joins) (joined_any f joins p r there passes)) h
