-- Rule 4: no name stands at an earlier place of its list.
use Rattle.std.proofs.Common.{◌≡◌, ◌<◌, ◌≤◌, ◌+◌, ◌%◌, ℕ, zero, suc, Bool, true, false, not, cond, ◌||◌, ltb, nat_eq, List, [], ◌∷◌, ◌++◌, length, bytes_eq, codes, Some, refl, sym, ap}
use Rattle.std.proofs.Common.{subst, ◌∙◌, append_assoc, append-nil, arith, eqb-true}
use Rattle.bus_semantics.specs.Common.{digits, list_any, slice_get, option_map, false_from_ne_true, ltb-true, length-append, slice_get-map}
use Rattle.serde_json.proofs.OnLiterals.{serde_json_on_literals}
use Rattle.description_places.specs.FirstPlaces.{first_places, task_text}
use Rattle.declared_names.specs.Names.{Names, position_in}
use Rattle.description_places.specs.Distinct.{breaks_distinct, is_later_in}
use Rattle.description_shapes.specs.Shape.{holds}
use Rattle.soak_maker.specs.Parts.{name}
use Rattle.soak_maker.proofs.Catalogs.{consumed_text, position_list, produced_text, served_text, soak_catalog}
use Rattle.soak_maker.proofs.Lists.{AllAt, below_still, both_at, get_first, get_second, get_third, length-many, length-two, many, many_at, two, two_at}
use Rattle.soak_maker.proofs.Names.{acc_position, c_position, p_position}
use Rattle.soak_maker.proofs.Reading.{task_names}
use Rattle.soak_maker.proofs.Shapes.{all_below, below, NonePasses, of_components, of_interfaces, of_tasks, of_types, refuted}

-- ---- positions behind names that differ

not_less : (a b : ℕ) → b ≤ a → ltb a b ≡ false
not_less a b h = false_from_ne_true (ltb a b) (λ t. omega (arith, h, ltb-true a b t))

abbrev Others : List ℕ → ℕ → Names → Type 0
Others x k xs = AllAt (λ i y. bytes_eq y x ≡ false) k xs

behind : (x : List ℕ) (k : ℕ) (xs ys : Names) → Others x k xs → length xs ≤ position_in (xs ++ ys) x
behind x k [] ys all = omega arith
behind x k (y ∷ xs) ys all =
    let rest = behind x (k + 1) xs ys all.1 in
    subst (λ b. suc (length xs) ≤ cond b 0 (1 + position_in (xs ++ ys) x)) (sym all.0) (omega (arith, rest))

-- what stands behind others than it is stands first at no earlier place
is_first : (ns xs ys : Names) (x : List ℕ) (k : ℕ) → ns ≡ xs ++ ys → length xs ≡ k → Others x 0 xs → slice_get ns k ≡ Some x → is_later_in (first_places ns) k ≡ false
is_first ns xs ys x k split long all at =
    ap (holds (λ first. ltb first k)) (slice_get-map (position_in ns) ns k ∙ ap (option_map (position_in ns)) at)
    ∙ not_less (position_in ns x) k (let late = behind x 0 xs ys all in subst (λ ms. k ≤ position_in ms x) (sym split) (omega (arith, late, long)))

-- so many of them, and the others
many_split : {X : Type 0} (n i : ℕ) (f : ℕ → X) → i ≤ n → (rest : List X) × (many n f ≡ many i f ++ rest)
many_split zero zero f h = ([], refl)
many_split zero (suc i) f h = absurd (omega (arith, h))
many_split (suc n) i f h = by (nat_eq i (suc n)) refl (λ less. many_split n i f less)
  where
    by : (b : Bool) → nat_eq i (suc n) ≡ b → (i ≤ n → (rest : List _) × (many n f ≡ many i f ++ rest)) → (rest : List _) × (many n f ++ f n ∷ [] ≡ many i f ++ rest)
    by true e more = ([], ap (λ m. many m f) (sym (eqb-true i (suc n) e)) ∙ sym (append-nil (many i f)))
    by false e more =
        let less : i < suc n = lower i n h e in
        let r = more (omega (arith, less)) in (r.0 ++ f n ∷ [], ap (λ xs. xs ++ f n ∷ []) r.1 ∙ append_assoc (many i f) r.0 (f n ∷ []))
      where
        lower : (i n : ℕ) → i ≤ suc n → nat_eq i (suc n) ≡ false → i < suc n
        lower i n h e = below_still i (suc n) (omega (arith, h)) e

-- ---- positions in tasks

event_key : (letter : List ℕ) → (task : ℕ) → (position : ℕ) → List ℕ
event_key letter task position = task_text (name letter task) position

producings_differ : all_below 64 (λ i. all_below i (λ j. not (bytes_eq (event_key (codes "P") (j % 4) j) (event_key (codes "P") (i % 4) i)))) ≡ true
unfolding digits event_key
producings_differ = refl

consumings_differ : all_below 64 (λ i. all_below i (λ j. not (bytes_eq (event_key (codes "C") ((j % 4 + 1) % 4) j) (event_key (codes "C") ((i % 4 + 1) % 4) i)))) ≡ true
unfolding digits event_key
consumings_differ = refl

differ_below : (key : ℕ → List ℕ) → all_below 64 (λ i. all_below i (λ j. not (bytes_eq (key j) (key i)))) ≡ true → (i : ℕ) → i < 64 → (j : ℕ) → j < i → bytes_eq (key j) (key i) ≡ false
differ_below key all i h j k = refuted (bytes_eq (key j) (key i)) (below (λ m. not (bytes_eq (key m) (key i))) i (below (λ l. all_below l (λ m. not (bytes_eq (key m) (key l)))) 64 all i h) j k)

module _ (n : ℕ) (few : n ≤ 64) where
  -- the texts before one
  producings_before : (i : ℕ) → i < n → Others (produced_text n i) 0 (many i (produced_text n))
  unfolding event_key
  producings_before i h = many_at (λ k y. bytes_eq y (produced_text n i) ≡ false) 0 i (produced_text n)
      (λ j k. differ_below (λ m. event_key (codes "P") (m % 4) m) producings_differ i (omega (arith, h, few)) j k)

  consumings_before : (i : ℕ) → i < n → Others (consumed_text n i) 0 (many n (produced_text n) ++ many i (consumed_text n))
  unfolding event_key
  consumings_before i h = both_at (λ k y. bytes_eq y (consumed_text n i) ≡ false) 0 (many n (produced_text n)) (many i (consumed_text n))
      (many_at (λ k y. bytes_eq y (consumed_text n i) ≡ false) 0 n (produced_text n) (λ j k. refl))
      (many_at (λ k y. bytes_eq y (consumed_text n i) ≡ false) (0 + length (many n (produced_text n))) i (consumed_text n)
      (λ j k. differ_below (λ m. event_key (codes "C") ((m % 4 + 1) % 4) m) consumings_differ i (omega (arith, h, few)) j k))

  all_before : Others (served_text n) 0 (two n (produced_text n) (consumed_text n))
  all_before = two_at (λ k y. bytes_eq y (served_text n) ≡ false) n (produced_text n) (consumed_text n) (λ j k. refl) (λ j k. refl)

  produced_first : (i : ℕ) → i < n → is_later_in (first_places (position_list n)) i ≡ false
  produced_first i h =
      let r = many_split n i (produced_text n) (omega (arith, h)) in
      let back = many n (consumed_text n) in
      is_first (position_list n) (many i (produced_text n)) ((r.0 ++ back) ++ served_text n ∷ []) (produced_text n i) i
      (ap (λ xs. (xs ++ back) ++ served_text n ∷ []) r.1
      ∙ ap (λ xs. xs ++ served_text n ∷ []) (append_assoc (many i (produced_text n)) r.0 back)
      ∙ append_assoc (many i (produced_text n)) (r.0 ++ back) (served_text n ∷ []))
      (length-many i (produced_text n)) (producings_before i h) (get_first n (produced_text n) (consumed_text n) (served_text n) i h)

  consumed_first : (i : ℕ) → i < n → is_later_in (first_places (position_list n)) (n + i) ≡ false
  consumed_first i h =
      let r = many_split n i (consumed_text n) (omega (arith, h)) in
      let front = many n (produced_text n) in
      is_first (position_list n) (front ++ many i (consumed_text n)) (r.0 ++ served_text n ∷ []) (consumed_text n i) (n + i)
      (ap (λ xs. (front ++ xs) ++ served_text n ∷ []) r.1
      ∙ ap (λ xs. xs ++ served_text n ∷ []) (sym (append_assoc front (many i (consumed_text n)) r.0))
      ∙ append_assoc (front ++ many i (consumed_text n)) r.0 (served_text n ∷ []))
      (length-append front (many i (consumed_text n)) ∙ (λ k. length-many n (produced_text n) k + length-many i (consumed_text n) k))
      (consumings_before i h) (get_second n (produced_text n) (consumed_text n) (served_text n) i h)

  served_first : is_later_in (first_places (position_list n)) (n + n) ≡ false
  served_first = is_first (position_list n) (two n (produced_text n) (consumed_text n)) (served_text n ∷ []) (served_text n) (n + n) refl
      (length-two n (produced_text n) (consumed_text n)) all_before (get_third n (produced_text n) (consumed_text n) (served_text n))

  -- ---- the whole

  not_before : (position number : ℕ) → position ≡ number → (ltb position number || false) ≡ false
  not_before position number at = ap (λ b. b || false) (not_less position number (omega (arith, at)))

  types_differ : list_any (breaks_distinct (soak_catalog n)) (of_types n) ≡ false
  unfolding digits serde_json_on_literals
  types_differ = refl

  interfaces_differ : list_any (breaks_distinct (soak_catalog n)) (of_interfaces n) ≡ false
  unfolding digits serde_json_on_literals
  interfaces_differ = refl

  components_differ : list_any (breaks_distinct (soak_catalog n)) (of_components n) ≡ false
  unfolding digits serde_json_on_literals
  components_differ = refl

  tasks_differ : list_any (breaks_distinct (soak_catalog n)) (of_tasks n) ≡ false
  unfolding digits serde_json_on_literals task_names
  tasks_differ = refl

  pub distinct : NonePasses n (breaks_distinct (soak_catalog n))
  distinct = record {
    whole = refl;
    types = types_differ;
    interfaces = interfaces_differ;
    components = components_differ;
    compositions = refl;
    composition = refl;
    composition_name = refl;
    prototypes = refl;
    producers = λ i h. not_before _ i (p_position n few i h);
    consumers = λ i h. not_before _ (n + i) (c_position n few i h);
    server = not_before _ (n + n) (acc_position n few);
    connectors = refl;
    queues = λ i h. refl;
    services = λ i h. refl;
    root = refl;
    mapping = refl;
    cores = refl;
    tasks = tasks_differ;
    events = refl;
    producings = λ i h. ap (λ b. b || false) (produced_first i h);
    consumings = λ i h. ap (λ b. b || false) (consumed_first i h);
    serving = ap (λ b. b || false) served_first;
  }
