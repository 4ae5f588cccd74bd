-- What stands at the end of the path of an instance, and the ends of joins.
use Rattle.std.proofs.Common.{◌≡◌, ℕ, List, [], ◌∷◌, slice_get, true, Option, Some, None, option_and_then, inl, inr, refl, sym, ap, ◌∙◌, true≢false}
use Rattle.std.proofs.lemmas.Bool.{and_parts}
use Rattle.plan_definitions.specs.Common.{PortKind, Provided, Required, Description, is_one_kind, is_required, kind_in, Place, places, Delegates, IsBelow, Stand, StandsJoin, as_inner}
use Rattle.plan_definitions.specs.Common.{further, itself, type_at, type_in}
use Rattle.description_types.specs.declared.description.PrototypeType.TheVariants as of
use Rattle.description_types.specs.Connectors.{is_provided, kind_of}
use Rattle.plan_definitions.proofs.Lists.{at as get_among}
use Rattle.plan_definitions.proofs.Stands.{stands}

module _ (d : Description) where
  -- each place stands where its path leads
  pub place_type : (k : ℕ) (x : Place) → slice_get (places d) k ≡ Some x → type_at d (of.Composition d.root) x.path ≡ Some (of.Component x.component)
  place_type k x at = stands d x (get_among (places d) k x at)

  -- ---- the kind of a port where it stands

  abbrev pub stand_kind : Stand → Option PortKind
  stand_kind s = option_and_then (λ t. kind_of d t s.port) (type_at d (of.Composition d.root) s.path)

  same_provided : (o : Option PortKind) → is_provided o ≡ true → o ≡ Some Provided
  same_provided None h = absurd (true≢false (sym h))
  same_provided (Some Provided) h = refl
  same_provided (Some Required) h = absurd (true≢false (sym h))

  same_required : (o : Option PortKind) → is_required o ≡ true → o ≡ Some Required
  same_required None h = absurd (true≢false (sym h))
  same_required (Some Provided) h = absurd (true≢false (sym h))
  same_required (Some Required) h = refl

  one_kind : (a b : Option PortKind) (k : PortKind) → is_one_kind a b ≡ true → a ≡ Some k → b ≡ Some k
  one_kind None b k h is = cc
  one_kind (Some Provided) b k h is = same_provided b h ∙ is
  one_kind (Some Required) b k h is = same_required b h ∙ is

  inner_kind : (c : ℕ) (prototype : ℕ) (path : List ℕ) (s : Stand) → type_at d (of.Composition d.root) path ≡ Some (of.Composition c) → s.path ≡ prototype ∷ path → stand_kind s ≡ kind_in d c (as_inner prototype s)
  inner_kind c prototype path s typed inside =
      ap (λ q. option_and_then (λ t. kind_of d t s.port) (type_at d (of.Composition d.root) q)) inside
      ∙ ap (λ o. option_and_then (λ t. kind_of d t s.port) (option_and_then (λ holder. type_in d holder prototype) o)) typed

  delegated_kind : (upper lower : Stand) (k : PortKind) → Delegates d upper lower → stand_kind upper ≡ Some k → stand_kind lower ≡ Some k
  delegated_kind upper lower k g is =
      let outer : kind_of d (of.Composition g.composition) upper.port ≡ Some k = sym (ap (option_and_then (λ t. kind_of d t upper.port)) g.stands) ∙ is in
      inner_kind g.composition g.prototype upper.path lower g.stands g.inside
      ∙ one_kind (kind_of d (of.Composition g.composition) upper.port) (kind_in d g.composition (as_inner g.prototype lower)) k g.lets outer

  below_kind : (lower upper : Stand) (k : PortKind) → IsBelow d lower upper → stand_kind upper ≡ Some k → stand_kind lower ≡ Some k
  below_kind lower upper k itself is = is
  below_kind lower upper k (further {next = next} down rest) is = below_kind lower next k rest (delegated_kind upper next k down is)

  -- below what stands within the root, all does
  within : (lower upper : Stand) → IsBelow d lower upper → (upper.path ≡ [] → ⊥) → lower.path ≡ [] → ⊥
  within lower upper itself inner root = inner root
  within lower upper (further {next = next} down rest) inner root = within lower next rest (λ e. let no_path : [] ≡ down.prototype ∷ upper.path = sym e ∙ down.inside in cc) root

  -- ---- the provided end

  -- it stands within the root at a port that provides, or is the environment's, at one that requires
  pub data IsProvider (s : Stand) : Type 0 where
    inner : (s.path ≡ [] → ⊥) → stand_kind s ≡ Some Provided → IsProvider s
    outer : s.path ≡ [] → kind_of d (of.Composition d.root) s.port ≡ Some Required → IsProvider s

  pub provider_is : (provided required : Stand) → StandsJoin d provided required → IsProvider provided
  provider_is provided required (inl chain) =
      let a = chain.across in
      let kinds = and_parts (is_provided (kind_in d a.composition (as_inner a.provider chain.upper))) _ a.lets in
      let upper : stand_kind chain.upper ≡ Some Provided =
      inner_kind a.composition a.provider a.path chain.upper a.stands a.inside_provider ∙ same_provided (kind_in d a.composition (as_inner a.provider chain.upper)) kinds.0 in
      inner
      (within provided chain.upper chain.up (λ e. let no_path : [] ≡ a.provider ∷ a.path = sym e ∙ a.inside_provider in cc))
      (below_kind provided chain.upper Provided chain.up upper)
  provider_is provided required (inr (inl outside)) = outer outside.root outside.is_kind
  provider_is provided required (inr (inr outside)) =
      let at_root : stand_kind required ≡ Some Provided = ap (λ q. option_and_then (λ t. kind_of d t required.port) (type_at d (of.Composition d.root) q)) outside.root ∙ outside.is_kind in
      inner
      (within provided outside.next outside.rest (λ e. let no_path : [] ≡ outside.down.prototype ∷ required.path = sym e ∙ outside.down.inside in cc))
      (below_kind provided outside.next Provided outside.rest (delegated_kind required outside.next Provided outside.down at_root))
