-- Items of one name.
use Rattle.std.proofs.Common.{Option, take, get_or, option_map, ◌≡◌, ℕ, ◌+◌, ◌<◌, ◌≤◌, List, [], ◌∷◌, ◌++◌, length, slice_get, Some, None, ◌⊎◌, inl, inr, ⊎_elim, ◌↔◌, sym, ap, subst, ◌∙◌, arith}
use Rattle.std.proofs.lemmas.Bool.{cases_lt}
use Rattle.std.proofs.lemmas.List.{take_more, take_all}
use Rattle.std.proofs.lemmas.Option.{slice_get-map, slice_get_within}
use Rattle.description_types.specs.declared.description.Description.{Description}
use Rattle.end_search.specs.declared.interfaces.Listed.{Listed}
use Rattle.description_types.specs.declared.interface.DataElement.{DataElement}
use Rattle.description_types.specs.declared.interface.InterfaceKind.{InterfaceKind}
use Rattle.description_types.specs.declared.interface.InterfaceKind.TheVariants.{SenderReceiver, ClientServer, ModeSwitch}
use Rattle.description_types.specs.declared.interface.Operation.{Operation}
use Rattle.description_types.specs.Items.{interface_at, element_names, operation_names, IsSameName, ItemsJoin}
use Rattle.end_search.specs.Matching.{AreListed, turned}
use Rattle.description_types.specs.Members.{Among}
use Rattle.end_search.specs.Tables.{item_names}
use Rattle.composition_tables.proofs.Members.{left, right, cases}

-- one more pair is pushed
pub push_more : (number : ℕ) (places : List ℕ) (k : ℕ) (before pairs after : List (ℕ × ℕ)) → k < length places → after ≡ pairs ++ (number, get_or places k 0) ∷ []
    → ((i j : ℕ) → Among (i, j) pairs ↔ (Among (i, j) before ⊎ ((i ≡ number) × Among j (take k places))))
    → (i j : ℕ) → Among (i, j) after ↔ (Among (i, j) before ⊎ ((i ≡ number) × Among j (take (k + 1) places)))
push_more number places k before pairs after within is h i j =
    let last = get_or places k 0 in
    let taken = take_more places k 0 within in (
      (λ a. ⊎_elim (λ l. ⊎_elim (λ o. inl o) (λ s. inr (s.0, subst (Among j) (sym taken) (left j (take k places) (last ∷ []) s.1))) ((h i j).0 l))
          (λ r. ⊎_elim (λ (e : (i, j) ≡ (number, last)). inr (ap (λ x. x.0) e, subst (Among j) (sym taken) (right j (take k places) (last ∷ []) (inl (ap (λ x. x.1) e))))) (λ no. absurd no) r)
          (cases (i, j) pairs ((number, last) ∷ []) (subst (Among (i, j)) is a))),
      (λ s. subst (Among (i, j)) (sym is) (⊎_elim (λ o. left (i, j) pairs ((number, last) ∷ []) ((h i j).1 (inl o)))
          (λ p. ⊎_elim (λ l. left (i, j) pairs ((number, last) ∷ []) ((h i j).1 (inr (p.0, l))))
          (λ r. ⊎_elim (λ (e : j ≡ last). right (i, j) pairs ((number, last) ∷ []) (inl (λ t. (p.0 t, e t)))) (λ no. absurd no) r)
          (cases j (take k places) (last ∷ []) (subst (Among j) taken p.1))) s)),
    )

pub push_all : (number : ℕ) (places : List ℕ) (k i j : ℕ) (N O : Type 0) → length places ≤ k → N ↔ (O ⊎ ((i ≡ number) × Among j (take k places))) → N ↔ (O ⊎ ((i ≡ number) × Among j places))
push_all number places k i j N O past h = subst (λ l. N ↔ (O ⊎ ((i ≡ number) × Among j l))) (take_all k places past) h

pub item_named : (names others : List (List ℕ)) (name : List ℕ) (number i j : ℕ) (N O P : Type 0) → slice_get names number ≡ Some name → P ↔ (slice_get others j ≡ Some name)
    → N ↔ (O ⊎ ((i ≡ number) × P)) → N ↔ (O ⊎ ((i ≡ number) × IsSameName names others number j))
item_named names others name number i j N O P some found h = (
  (λ n. ⊎_elim (λ o. inl o) (λ s. inr (s.0, (name, some, found.0 s.1))) (h.0 n)),
  (λ s. h.1 (⊎_elim (λ o. inl o) (λ p. let e : Some p.1.0 ≡ Some name = sym p.1.1 ∙ some in inr (p.0, found.1 (p.1.2 ∙ e))) s)),
)

pub items_more : (names others : List (List ℕ)) (number i j : ℕ) (N M : Type 0) → N ↔ (M ⊎ ((i ≡ number) × IsSameName names others number j))
    → M ↔ (IsSameName names others i j × (i < number)) → N ↔ (IsSameName names others i j × (i < number + 1))
items_more names others number i j N M now before = (
  (λ n. ⊎_elim (λ m. let b = before.0 m in (b.0, omega (arith, b.1))) (λ s. (subst (λ k. IsSameName names others k j) (sym s.0) s.1, omega (arith, s.0))) (now.0 n)),
  (λ h. ⊎_elim (λ l. now.1 (inl (before.1 (h.0, l)))) (λ (l : number ≤ i). let e : i ≡ number = omega (arith, h.1) in now.1 (inr (e, subst (λ k. IsSameName names others k j) e h.0))) (cases_lt i number)),
)

pub items_all : (names others : List (List ℕ)) (count number i j : ℕ) (N : Type 0) → count ≡ length names → count ≤ number → N ↔ (IsSameName names others i j × (i < number)) → N ↔ IsSameName names others i j
items_all names others count number i j N counted past h = ((λ n. (h.0 n).0), (λ s. let within = slice_get_within names i s.0 s.1 in h.1 (s, omega arith)))

-- the pairs the other way round
turned_there : (pairs : List (ℕ × ℕ)) (i j : ℕ) → Among (i, j) (turned pairs) → Among (j, i) pairs
turned_there [] i j h = h
turned_there (p ∷ ps) i j (inl e) = inl (λ t. ((e t).1, (e t).0))
turned_there (p ∷ ps) i j (inr h) = inr (turned_there ps i j h)

pub turned_back : (pairs : List (ℕ × ℕ)) (i j : ℕ) → Among (j, i) pairs → Among (i, j) (turned pairs)
turned_back [] i j h = h
turned_back (p ∷ ps) i j (inl e) = inl (λ t. ((e t).1, (e t).0))
turned_back (p ∷ ps) i j (inr h) = inr (turned_back ps i j h)

pub turned_names : (names others : List (List ℕ)) (pairs slice list : List (ℕ × ℕ)) → ((i j : ℕ) → Among (i, j) pairs ↔ IsSameName others names i j) → slice ≡ pairs → list ≡ turned slice
    → (i j : ℕ) → Among (i, j) list ↔ IsSameName names others i j
turned_names names others pairs slice list h same is i j =
    let all = is ∙ ap turned same in (
      (λ a. let s = (h j i).0 (turned_there pairs i j (subst (Among (i, j)) all a)) in (s.0, s.2, s.1)),
      (λ s. subst (Among (i, j)) (sym all) (turned_back pairs i j ((h j i).1 (s.0, s.2, s.1)))),
    )

pub joined_elements : (xs ys : List DataElement) (names others : List (List ℕ)) (p r : InterfaceKind) (i j : ℕ) (N : Type 0) → p ≡ SenderReceiver xs → r ≡ SenderReceiver ys → names ≡ item_names p → others ≡ item_names r
    → N ↔ IsSameName names others i j → N ↔ ItemsJoin (Some p) (Some r) i j
joined_elements xs ys names others p r i j N p_is r_is names_are others_are h =
    subst (λ k. N ↔ ItemsJoin (Some k) (Some r) i j) (sym p_is) (subst (λ k. N ↔ ItemsJoin (Some (SenderReceiver xs)) (Some k) i j) (sym r_is)
    (subst (λ l. N ↔ IsSameName l (element_names ys) i j) (names_are ∙ ap item_names p_is) (subst (λ l. N ↔ IsSameName names l i j) (others_are ∙ ap item_names r_is) h)))

pub joined_operations : (xs ys : List Operation) (names others : List (List ℕ)) (p r : InterfaceKind) (i j : ℕ) (N : Type 0) → p ≡ ClientServer xs → r ≡ ClientServer ys → names ≡ item_names p → others ≡ item_names r
    → N ↔ IsSameName names others i j → N ↔ ItemsJoin (Some p) (Some r) i j
joined_operations xs ys names others p r i j N p_is r_is names_are others_are h =
    subst (λ k. N ↔ ItemsJoin (Some k) (Some r) i j) (sym p_is) (subst (λ k. N ↔ ItemsJoin (Some (ClientServer xs)) (Some k) i j) (sym r_is)
    (subst (λ l. N ↔ IsSameName l (operation_names ys) i j) (names_are ∙ ap item_names p_is) (subst (λ l. N ↔ IsSameName names l i j) (others_are ∙ ap item_names r_is) h)))

-- a listed interface is the description's
pub listed_at : (d : Description) (list : List Listed) (k : ℕ) → AreListed d list → option_map (λ (x : Listed). x.kind.now) (slice_get list k) ≡ interface_at d k
listed_at d list k is = sym (slice_get-map (λ (x : Listed). x.kind.now) list k) ∙ ap (λ l. slice_get l k) is ∙ slice_get-map (λ x. x.kind) d.types.interfaces k

no_join : (o : Option InterfaceKind) (i j : ℕ) → ItemsJoin o None i j → ⊥
no_join None i j h = h
no_join (Some (SenderReceiver xs)) i j h = h
no_join (Some (ClientServer xs)) i j h = h
no_join (Some (ModeSwitch x)) i j h = h

module _ (d : Description) (list : List Listed) (p r : ℕ) (is : AreListed d list) (i j : ℕ) where
  pub both_listed : (first second : Listed) (N : Type 0) → slice_get list p ≡ Some first → slice_get list r ≡ Some second → N ↔ ItemsJoin (Some first.kind.now) (Some second.kind.now) i j
      → N ↔ ItemsJoin (interface_at d p) (interface_at d r) i j
  both_listed first second N here there h =
      let one : Some first.kind.now ≡ interface_at d p = ap (option_map (λ (x : Listed). x.kind.now)) (sym here) ∙ listed_at d list p is in
      let two : Some second.kind.now ≡ interface_at d r = ap (option_map (λ (x : Listed). x.kind.now)) (sym there) ∙ listed_at d list r is in
      subst (λ o. N ↔ ItemsJoin (interface_at d p) o i j) two (subst (λ o. N ↔ ItemsJoin o (Some second.kind.now) i j) one h)

  pub first_unlisted : (pairs : List (ℕ × ℕ)) → pairs ≡ [] → slice_get list p ≡ None → Among (i, j) pairs ↔ ItemsJoin (interface_at d p) (interface_at d r) i j
  first_unlisted pairs none here =
      let one : interface_at d p ≡ None = sym (listed_at d list p is) ∙ ap (option_map (λ (x : Listed). x.kind.now)) here in
      ((λ a. absurd (subst (Among (i, j)) none a)), (λ s. absurd (subst (λ o. ItemsJoin o (interface_at d r) i j) one s)))

  pub second_unlisted : (pairs : List (ℕ × ℕ)) → pairs ≡ [] → slice_get list r ≡ None → Among (i, j) pairs ↔ ItemsJoin (interface_at d p) (interface_at d r) i j
  second_unlisted pairs none there =
      let two : interface_at d r ≡ None = sym (listed_at d list r is) ∙ ap (option_map (λ (x : Listed). x.kind.now)) there in
      ((λ a. absurd (subst (Among (i, j)) none a)), (λ s. absurd (no_join (interface_at d p) i j (subst (λ o. ItemsJoin (interface_at d p) o i j) two s))))
