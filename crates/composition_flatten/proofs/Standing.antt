-- Where the compositions of a description stand, and which of their instances have which numbers.
use Rattle.std.proofs.Common.{◌≡◌, ℕ, zero, suc, ◌+◌, ◌<◌, ◌≤◌, List, [], ◌∷◌, ◌++◌, length, slice_get, Some, option_and_then, inl, inr, ⊎_elim, refl, sym, ap, subst, ◌∙◌, arith}
use Rattle.std.proofs.lemmas.Bool.{cases_lt}
use Rattle.std.proofs.lemmas.List.{length-append, append-nil}
use Rattle.std.proofs.lemmas.Option.{slice_get_within}
use Rattle.description_types.specs.declared.description.Description.{Description}
use Rattle.description_types.specs.declared.description.Prototype.{Prototype}
use Rattle.description_types.specs.declared.description.PrototypeType.TheVariants.{Component, Composition}
use Rattle.composition_tables.specs.declared.nodes.Node.{Node}
use Rattle.composition_tables.specs.Ends.{number_from, offset}
use Rattle.description_types.specs.Places.{Place, places_below, places, size, size_of, IsTooDeep}
use Rattle.composition_tables.specs.Nodes.{IsNode}
use Rattle.description_types.specs.Paths.{prototypes_of, type_in, type_at}
use Rattle.composition_flatten.proofs.Chains.{number_exact}
use Rattle.composition_tables.proofs.Deepest.{path_on}
use Rattle.composition_tables.proofs.Following.{sum_zero}
use Rattle.composition_tables.proofs.Members.{get_some}
use Rattle.composition_flatten.proofs.Naming.{placed_size}
use Rattle.composition_flatten.proofs.Placing.{Segment, segment_whole, segment_inner, placed, place_of}
use Rattle.composition_tables.proofs.Steps.{step_is, step_on, last_step}

module _ (d : Description) where
  -- a node with what stands there
  pub record StandsAt (x : Node) (path : List ℕ) : Type 0 where
    pub typed : type_at d (Composition d.root) path ≡ Some (Composition x.composition)
    pub segment : Segment d (places d) x.first (suc x.depth) (Composition x.composition) path
    pub deep : length path + suc x.depth ≡ 8

  pub root_segment : Segment d (places d) 0 8 (Composition d.root) []
  root_segment = segment_whole d 8 d.root []

  -- the type of an instance where it stands
  pub placed_type : (number : ℕ) (x : Place) → slice_get (places d) number ≡ Some x → type_at d (Composition d.root) x.path ≡ Some (Component x.component)
  placed_type number x at =
      let p = placed d 8 (Composition d.root) [] number x at in
      ap (type_at d (Composition d.root)) (p.1 ∙ append-nil p.0) ∙ p.2

  module _ (short : length (places d) ≤ 1024) where
    pub node_stands : (n c first : ℕ) (path : List ℕ) (x : Node) → type_at d (Composition d.root) path ≡ Some (Composition c) → Segment d (places d) first n (Composition c) path → length path + n ≡ 8 → IsNode d n c first x
        → (p : List ℕ) × StandsAt x p
    node_stands zero c first path x typed segment deep h = absurd h
    node_stands (suc n) c first path x typed segment deep (inl e) = (path, subst (λ y. StandsAt y path) (sym e) (record { typed = typed; segment = segment; deep = deep }))
    node_stands (suc n) c first path x typed segment deep (inr i) =
        let deeper = segment_inner d (places d) first n c i.0 (Composition i.1) path segment i.2 in
        let exact = number_exact d (places d) short first (offset d n c i.0) (let fits = deeper.fits in omega arith) in
        node_stands n i.1 (first + offset d n c i.0) (i.0 ∷ path) x (step_on d (Composition d.root) (Composition c) (Composition i.1) i.0 path typed i.2) deeper (omega arith) (subst (λ k. IsNode d n i.1 k x) exact i.4)

    -- one composition further down
    node_inner : (n c first q e m : ℕ) (y : Node) → IsNode d n c first y → y.depth ≡ suc m → type_in d (Composition y.composition) q ≡ Some (Composition e) → (size d y.depth e ≡ 0 → ⊥)
        → IsNode d n c first (record { depth = m; composition = e; first = number_from y.first (offset d y.depth y.composition q) })
    node_inner zero c first q e m y h deep typed live = absurd h
    node_inner (suc n) c first q e m y (inl is) deep typed live =
        let depth_is : n ≡ suc m = sym (ap (λ z. z.depth) is) ∙ deep in
        let here : IsNode d n e (number_from first (offset d n c q)) (record { depth = m; composition = e; first = number_from first (offset d n c q) }) =
        subst (λ k. IsNode d k e (number_from first (offset d n c q)) (record { depth = m; composition = e; first = number_from first (offset d n c q) })) (sym depth_is) (inl refl) in
        let typed_here : type_in d (Composition c) q ≡ Some (Composition e) = subst (λ (z : Node). type_in d (Composition z.composition) q ≡ Some (Composition e)) is typed in
        let live_here : size d n e ≡ 0 → ⊥ = subst (λ (z : Node). size d z.depth e ≡ 0 → ⊥) is live in
        subst (λ (z : Node). IsNode d (suc n) c first (record { depth = m; composition = e; first = number_from z.first (offset d z.depth z.composition q) })) (sym is) (inr (q, e, typed_here, live_here, here))
    node_inner (suc n) c first q e m y (inr i) deep typed live = inr (i.0, i.1, i.2, i.3, node_inner n i.1 (number_from first (offset d n c i.0)) q e m y i.4 deep typed live)

    -- the node of a composition that has instances, at the end of its path
    pub node_at : (path : List ℕ) (c m : ℕ) → type_at d (Composition d.root) path ≡ Some (Composition c) → length path + suc m ≡ 8 → (size d (suc m) c ≡ 0 → ⊥)
        → (x : Node) × IsNode d 8 d.root 0 x × (x.depth ≡ m) × (x.composition ≡ c) × Segment d (places d) x.first (suc m) (Composition c) path
    node_at [] c m typed deep live =
        let both : d.root ≡ c = cc in
        let m_is : 7 ≡ m = omega arith in (
          record { depth = 7; composition = d.root; first = 0 },
          inl refl,
          m_is,
          both,
          subst (λ k. Segment d (places d) 0 (suc k) (Composition c) []) m_is (subst (λ r. Segment d (places d) 0 8 (Composition r) []) both root_segment),
        )
    node_at (q ∷ path) c m typed deep live =
        let l = last_step d (Composition d.root) (Composition c) q path typed in
        let p = step_is d l.0 q (Composition c) l.2 in
        let live_above : size d (suc (suc m)) l.0 ≡ 0 → ⊥ = λ none. live (sym (ap (size_of (size d (suc m))) p.2) ∙ sum_zero (λ (z : Prototype). size_of (size d (suc m)) z.of_type) p.0 (prototypes_of d l.0) none (get_some (prototypes_of d l.0) q p.0 p.1)) in
        let r = node_at path l.0 (suc m) l.1 (omega arith) live_above in
        let deeper = segment_inner d (places d) r.0.first (suc m) l.0 q (Composition c) path r.4 l.2 in
        let exact = number_exact d (places d) short r.0.first (offset d (suc m) l.0 q) (let fits = deeper.fits in omega arith) in
        let first_is : number_from r.0.first (offset d r.0.depth r.0.composition q) ≡ r.0.first + offset d (suc m) l.0 q =
        ap (λ k. number_from r.0.first (offset d k r.0.composition q)) r.2 ∙ ap (λ k. number_from r.0.first (offset d (suc m) k q)) r.3 ∙ exact in (
          record { depth = m; composition = c; first = number_from r.0.first (offset d r.0.depth r.0.composition q) },
          node_inner 8 d.root 0 q c m r.0 r.1 r.2 (subst (λ k. type_in d (Composition k) q ≡ Some (Composition c)) (sym r.3) l.2) (subst (λ k. size d k c ≡ 0 → ⊥) (sym r.2) live),
          refl,
          refl,
          subst (λ k. Segment d (places d) k (suc m) (Composition c) (q ∷ path)) (sym first_is) deeper,
        )

  module _ (shallow : ¬ IsTooDeep d) where
    -- an instance below a composition has its place among those of the composition
    pub local_place : (rest path : List ℕ) (c n k : ℕ) → type_at d (Composition d.root) path ≡ Some (Composition c) → length path + n ≡ 8 → type_at d (Composition d.root) (rest ++ path) ≡ Some (Component k)
        → (i : ℕ) × (slice_get (places_below d n c path) i ≡ Some (record { path = rest ++ path; component = k }))
    local_place rest path c n k typed deep typed_below =
        let below : type_at d (Composition c) rest ≡ Some (Component k) = sym (path_on d (Composition d.root) rest path ∙ ap (option_and_then (λ u. type_at d u rest)) typed) ∙ typed_below in
        let few : length (rest ++ path) ≤ 8 = ⊎_elim (λ (deep : 8 < length (rest ++ path)). absurd (shallow (rest ++ path, k, typed_below, deep))) (λ few. few) (cases_lt 8 (length (rest ++ path))) in
        let long = length-append rest path in
        place_of d n (Composition c) rest path k below (omega arith)

    pub has_size : (rest path : List ℕ) (c n k : ℕ) → type_at d (Composition d.root) path ≡ Some (Composition c) → length path + n ≡ 8 → type_at d (Composition d.root) (rest ++ path) ≡ Some (Component k) → size d n c ≡ 0 → ⊥
    has_size rest path c n k typed deep typed_below none =
        let p = local_place rest path c n k typed deep typed_below in
        let within = slice_get_within (places_below d n c path) p.0 (record { path = rest ++ path; component = k }) p.1 in
        let long = placed_size d n c path in
        omega arith
