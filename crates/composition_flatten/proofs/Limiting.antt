-- The limits of a description, by its counts and its links.
use Rattle.std.proofs.Common.{◌≡◌, ℕ, ◌<◌, ◌≤◌, List, [], ◌∷◌, length, map, Vec, Bool, true, false, not, Option, Some, ◌⊎◌, inl, inr, ⊎_elim, ◌↔◌, IsTrue, IfSome, refl, sym, ap, subst, ◌∙◌}
use Rattle.std.proofs.Common.{arith, true≢false, Less}
use Rattle.std.proofs.lemmas.List.{length-map}
use Rattle.std.specs.Global.{Global}
use Rattle.std.specs.List.{AllByRecursion}
use Rattle.std.specs.List.Sorted.{IsStrictlySortedBy}
use Rattle.std.specs.Ordering.{nat_cmp, ordering_then}
use Rattle.description_types.specs.declared.description.Description.{Description}
use Rattle.description_types.specs.declared.flat.Join.{Join}
use Rattle.description_types.specs.declared.flat.Instance as instance
use Rattle.composition_tables.specs.declared.links.Item.{Item}
use Rattle.composition_tables.specs.declared.links.Link.{Link}
use Rattle.composition_tables.specs.declared.tree.Owner.{Owner}
use Rattle.composition_tables.specs.declared.tree.Owner.TheVariants.{Instance, Environment}
use Rattle.composition_tables.specs.contracts.links.LinkOrd.TheImpl as link
use Rattle.composition_tables.specs.contracts.links.ItemOrd.TheImpl as item
use Rattle.composition_tables.specs.contracts.tree.OwnerOrd.TheImpl as owner
use Rattle.composition_tables.specs.Counts.{IsCounted, count_in}
use Rattle.composition_tables.specs.LinkOrder.{AreInOrder}
use Rattle.description_types.specs.Flattening.{KeepsLimits}
use Rattle.description_types.specs.Growing.{IsPastLimit, Grown}
use Rattle.description_types.specs.Places.{places, IsTooDeep}
use Rattle.description_types.specs.Instances.{names_env}
use Rattle.description_types.specs.Joined.{IsJoined}
use Rattle.composition_flatten.specs.Joins.{instance_of, end_of, join_of}
use Rattle.composition_flatten.specs.Links.{IsLink}
use Rattle.description_types.specs.Members.{Among}
use Rattle.composition_flatten.specs.Named.{named_below}
use Rattle.description_types.specs.Orders.{instance_order, end_order, join_order}
use Rattle.composition_flatten.specs.Within.{KeepsCounts, AreJoins, IsWithin}
use Rattle.composition_flatten.proofs.Joining.{link_joined}
use Rattle.composition_flatten.proofs.Linking.{join_linked}
use Rattle.composition_tables.proofs.Members.{few_apart, map_out}
use Rattle.composition_tables.proofs.Counting.{counted}
use Rattle.composition_flatten.proofs.Naming.{placed_size, named_instances}
use Rattle.composition_tables.proofs.SameLinks.{itself_link, apart_from_order}
use Rattle.composition_flatten.proofs.Wholes.{apart_map}

-- the count tells whether there are few instances
pub too_many : (d : Description) (levels : List (Vec ℕ Global)) (count : ℕ) → IsCounted d levels → count ≡ count_in levels 8 d.root → 1024 < count → ¬ KeepsCounts d
too_many d levels count is made many keeps =
    let capped = counted d levels 8 d.root is (omega arith) in
    let long = placed_size d 8 d.root [] in
    let few = keeps.few in
    omega arith

pub few_enough : (d : Description) (levels : List (Vec ℕ Global)) (count : ℕ) → IsCounted d levels → count ≡ count_in levels 8 d.root → count ≤ 1024 → length (places d) ≤ 1024
few_enough d levels count is made few =
    let capped = counted d levels 8 d.root is (omega arith) in
    let long = placed_size d 8 d.root [] in
    omega arith

pub counts_kept : (d : Description) (levels : List (Vec ℕ Global)) (count : ℕ) (named deep : Bool) → IsCounted d levels → count ≡ count_in levels 8 d.root → count ≤ 1024 → named ≡ names_env d → named ≡ false → IsTrue deep ↔ IsTooDeep d
    → IsTrue (not deep) ↔ KeepsCounts d
counts_kept d levels count named deep is made few named_is no_env says = (
  (λ h. record { few = few_enough d levels count is made few; shallow = (λ t. true≢false (sym h ∙ ap not (says.1 t))); names = sym named_is ∙ no_env }),
  (λ k. by deep refl k),
)
  where
    by : (b : Bool) → deep ≡ b → KeepsCounts d → not deep ≡ true
    by true e k = absurd (k.shallow (says.0 e))
    by false e k = ap not e

-- joins tell links apart
owner_same : (a b : Owner) → instance_of a ≡ instance_of b → a ≡ b
owner_same (Instance i) (Instance j) h = let same : i ≡ j = cc in ap (λ k. Instance k) same
owner_same (Instance i) Environment h = cc
owner_same Environment (Instance j) h = cc
owner_same Environment Environment h = refl

join_same : (x y : Link) → join_of x ≡ join_of y → x ≡ y
join_same x y h =
    let a = owner_same x.provided.owner y.provided.owner (ap (λ (j : Join). j.provided.instance) h) in
    let b = owner_same x.required.owner y.required.owner (ap (λ (j : Join). j.required.instance) h) in
    (λ i. record { provided = record { owner = a i; port = (h i).provided.port; element = (h i).provided.element }; required = record { owner = b i; port = (h i).required.port; element = (h i).required.element } })

module _ (d : Description) (keeps : KeepsCounts d) where
  past_joined : (P : Link → Type 0) → ((x : Link) → P x → IsLink d x) → IsPastLimit P → IsPastLimit (IsJoined d)
  past_joined P links past = (
    map join_of past.0,
    apart_map join_of past.0 (λ x y _ _ e. join_same x y e) past.1,
    (λ j h. let r = map_out join_of j past.0 h in subst (IsJoined d) (sym r.2) (link_joined d keeps.few keeps.shallow r.0 (links r.0 (past.2 r.0 r.1)))),
    subst (λ m. 65536 < m) (sym (length-map past.0 join_of)) past.3,
  )

  pub past_full : (before after : List Link) (is_full : Bool) → before ≡ [] → Grown (IsLink d) before after is_full → is_full ≡ true → IsPastLimit (IsJoined d)
  past_full before after is_full none g full =
      past_joined (λ x. Among x before ⊎ IsLink d x) (λ x h. ⊎_elim (λ b. absurd (subst (Among x) none b)) (λ l. l) h) (g.past full)

  pub past_long : (before after : List Link) (is_full : Bool) → before ≡ [] → Grown (IsLink d) before after is_full → AreInOrder after → 65536 < length after → IsPastLimit (IsJoined d)
  past_long before after is_full none g order long =
      past_joined (λ x. Among x after) (λ x h. ⊎_elim (λ b. absurd (subst (Among x) none b)) (λ l. l) (g.sound x h))
      (after, apart_from_order (link.cmp-value).it itself_link after order, (λ x h. h), long)

  -- the joins keep the order of the links
  owner_ordered : (x y : Owner) → (owner.cmp-value).it x y ≡ instance_order (instance_of x) (instance_of y)
  owner_ordered (Instance a) (Instance b) = refl
  owner_ordered (Instance a) Environment = refl
  owner_ordered Environment (Instance b) = refl
  owner_ordered Environment Environment = refl

  item_ordered : (x y : Item) → (item.cmp-value).it x y ≡ end_order (end_of x) (end_of y)
  item_ordered x y = ap (λ o. ordering_then o (ordering_then (nat_cmp x.port y.port) (nat_cmp x.element y.element))) (owner_ordered x.owner y.owner)

  link_ordered : (x y : Link) → (link.cmp-value).it x y ≡ join_order (join_of x) (join_of y)
  link_ordered x y = ap (λ o. ordering_then o ((item.cmp-value).it x.required y.required)) (item_ordered x.provided y.provided) ∙ ap (ordering_then (end_order (end_of x.provided) (end_of y.provided))) (item_ordered x.required y.required)

  all_after : (x : Link) (ys : List Link) → AllByRecursion (λ y. (link.cmp-value).it x y ≡ Less) ys → AllByRecursion (λ y. join_order (join_of x) y ≡ Less) (map join_of ys)
  all_after x [] h = h
  all_after x (y ∷ ys) h = (sym (link_ordered x y) ∙ h.0, all_after x ys h.1)

  joins_ordered : (xs : List Link) → AreInOrder xs → IsStrictlySortedBy join_order (map join_of xs)
  unfolding IsStrictlySortedBy
  joins_ordered [] h = h
  joins_ordered (x ∷ xs) h = (all_after x xs h.0, joins_ordered xs h.1)

  among_map : (x : Link) (xs : List Link) → Among x xs → Among (join_of x) (map join_of xs)
  among_map x [] h = absurd h
  among_map x (y ∷ xs) (inl e) = inl (ap join_of e)
  among_map x (y ∷ xs) (inr h) = inr (among_map x xs h)

  pub are_joins : (before after slice : List Link) (joins : List Join) (is_full : Bool) → before ≡ [] → Grown (IsLink d) before after is_full → is_full ≡ false → AreInOrder after → length after ≤ 65536
      → slice ≡ after → joins ≡ map join_of slice → AreJoins d joins
  are_joins before after slice joins is_full none g room order few slice_is joins_are =
      let same : joins ≡ map join_of after = joins_are ∙ ap (map join_of) slice_is in
      let exact : (j : Join) → Among j joins ↔ IsJoined d j = λ j. (
        (λ h. let r = map_out join_of j after (subst (Among j) same h) in subst (IsJoined d) (sym r.2) (link_joined d keeps.few keeps.shallow r.0 (⊎_elim (λ b. absurd (subst (Among r.0) none b)) (λ l. l) (g.sound r.0 r.1)))),
        (λ h. let r = join_linked d keeps.few keeps.shallow j h in subst (Among j) (sym same) (subst (λ w. Among w (map join_of after)) r.2 (among_map r.0 after (g.has room r.0 r.1)))),
      ) in
      record {
        few = λ past. let bound = few_apart past.0 joins past.1 (λ j h. (exact j).1 (past.2 j h)) in let long : length joins ≡ length after = ap length same ∙ length-map after join_of in let many = past.3 in omega arith;
        in_order = subst (IsStrictlySortedBy join_order) (sym same) (joins_ordered after order);
        joined = exact;
      }

pub keeps_both : (d : Description) → KeepsCounts d → ¬ IsPastLimit (IsJoined d) → KeepsLimits d
keeps_both d keeps few = record { instances = keeps.few; depth = keeps.shallow; names = keeps.names; joins = few }

pub within_is : (d : Description) (found : Option (Vec Join Global)) (joins : Vec Join Global) (listed : Vec instance.Instance Global) (answer : Bool) → IsTrue answer ↔ KeepsCounts d → answer ≡ true → listed.items ≡ named_below d 8 d.root [] → found ≡ Some joins
    → IfSome found (λ j. AreJoins d j.items) → IsWithin d (record { instances = listed; joins = joins })
within_is d found joins listed answer says kept listed_is is some =
    let are : AreJoins d joins.items = subst (λ o. IfSome o (λ (j : Vec Join Global). AreJoins d j.items)) is some in
    record { limits = keeps_both d (says.0 kept) are.few; instances_listed = listed_is ∙ named_instances d; in_order = are.in_order; joined = are.joined }
