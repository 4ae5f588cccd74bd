-- Interfaces that serve others: what is said of the data elements of a chain of compatible interfaces.
use Rattle.std.proofs.Common.{◌≡◌, List, true, ◌&&◌, nat_eq, bytes_eq, Option, Some, None, option_map, refl, sym, ap, ◌∙◌, slice_get}
use Rattle.bus_semantics.specs.Common.{and_parts, eqb-true, list_any, int_eq}
use Rattle.std.proofs.lemmas.Bool.Decides.{Decides-int_eq}
use Rattle.plan_definitions.specs.Common.{DataType, DataElement, Interface, InterfaceKind, ClientServer, ModeSwitch, SenderReceiver, SwImplPolicy, Queued, Standard, TypeTable, same_policy}
use Rattle.plan_definitions.specs.Common.{serve_elements, serves, serves_element, serves_in, agree, are_compatible_types, base_number, types_agree, Among}
use Rattle.plan_definitions.proofs.Lists.{all_at, any_at, same_bytes}
use Rattle.plan_definitions.proofs.Chains.{IsPassed}

policy_is : (a b : SwImplPolicy) → same_policy a b ≡ true → a ≡ b
policy_is Standard Standard h = refl
policy_is Standard Queued h = cc
policy_is Queued Standard h = cc
policy_is Queued Queued h = refl

-- ---- types

pub record SameType (a b : DataType) : Type 0 where
  pub base : base_number a.base ≡ base_number b.base
  pub low : a.limits.low ≡ b.limits.low
  pub high : a.limits.high ≡ b.limits.high
  pub words : a.words ≡ b.words

type_is : (a b : DataType) → are_compatible_types a b ≡ true → SameType a b
type_is a b h =
    let p = and_parts (nat_eq (base_number a.base) (base_number b.base)) _ h in
    let q = and_parts (int_eq a.limits.low b.limits.low) _ p.1 in
    let r = and_parts (int_eq a.limits.high b.limits.high) (nat_eq a.words b.words) q.1 in
    record {
      base = eqb-true (base_number a.base) (base_number b.base) p.0;
      low = (Decides-int_eq a.limits.low b.limits.low).0 q.0;
      high = (Decides-int_eq a.limits.high b.limits.high).0 r.0;
      words = eqb-true a.words b.words r.1;
    }

-- none in both, or of one kind
abbrev pub SameTypes : Option DataType → Option DataType → Type 0
SameTypes None None = Unit {0}
SameTypes (Some a) (Some b) = SameType a b
SameTypes _ _ = ⊥

types_are : (a b : Option DataType) → agree are_compatible_types a b ≡ true → SameTypes a b
types_are None None h = tt
types_are None (Some b) h = cc
types_are (Some a) None h = cc
types_are (Some a) (Some b) h = type_is a b h

types_refl : (a : Option DataType) → SameTypes a a
types_refl None = tt
types_refl (Some a) = record { base = refl; low = refl; high = refl; words = refl }

types_then : (a b c : Option DataType) → SameTypes a b → SameTypes b c → SameTypes a c
types_then None None None s t = tt
types_then None None (Some c) s t = absurd t
types_then None (Some b) c s t = absurd s
types_then (Some a) None c s t = absurd s
types_then (Some a) (Some b) None s t = absurd t
types_then (Some a) (Some b) (Some c) s t = record { base = s.base ∙ t.base; low = s.low ∙ t.low; high = s.high ∙ t.high; words = s.words ∙ t.words }

-- ---- elements

pub record Serves (types : TypeTable) (p r : DataElement) : Type 0 where
  pub name : p.short_name ≡ r.short_name
  pub of_type : SameTypes (slice_get types.data_types p.of_type) (slice_get types.data_types r.of_type)
  pub policy : p.sw_impl_policy ≡ r.sw_impl_policy

module _ (types : TypeTable) where
  serving : (p r : DataElement) → serves_element types p r ≡ true → Serves types p r
  serving p r h =
      let a = and_parts (bytes_eq p.short_name r.short_name) (types_agree types.data_types p.of_type r.of_type && same_policy p.sw_impl_policy r.sw_impl_policy) h in
      let b = and_parts (types_agree types.data_types p.of_type r.of_type) (same_policy p.sw_impl_policy r.sw_impl_policy) a.1 in
      record {
        name = same_bytes p.short_name r.short_name a.0;
        of_type = types_are (slice_get types.data_types p.of_type) (slice_get types.data_types r.of_type) b.0;
        policy = policy_is p.sw_impl_policy r.sw_impl_policy b.1;
      }

  serves_then : (p q r : DataElement) → Serves types p q → Serves types q r → Serves types p r
  serves_then p q r s t = record {
    name = s.name ∙ t.name;
    of_type = types_then (slice_get types.data_types p.of_type) (slice_get types.data_types q.of_type) (slice_get types.data_types r.of_type) s.of_type t.of_type;
    policy = s.policy ∙ t.policy;
  }

  -- each required element has a provided one
  abbrev pub Serve : List DataElement → List DataElement → Type 0
  Serve xs ys = (r : DataElement) → Among r ys → (p : DataElement) × Among p xs × Serves types p r

  -- a required sender-receiver interface has a provided one that serves it
  abbrev pub Passes : Option InterfaceKind → Option InterfaceKind → Type 0
  Passes a b = (ys : List DataElement) → b ≡ Some (SenderReceiver ys) → (xs : List DataElement) × (a ≡ Some (SenderReceiver xs)) × Serve xs ys

  passes_refl : (a : Option InterfaceKind) → Passes a a
  passes_refl a ys is = (ys, is, λ r among. (r, among, record { name = refl; of_type = types_refl (slice_get types.data_types r.of_type); policy = refl }))

  passes_then : (a b c : Option InterfaceKind) → Passes a b → Passes b c → Passes a c
  passes_then a b c first second zs is =
      let s = second zs is in
      let t = first s.0 s.1 in
      (t.0, t.1, λ r among. let q = s.2 r among in let p = t.2 q.0 q.1 in (p.0, p.1, serves_then p.0 q.0 r p.2 q.2))

  -- compatible interfaces
  compatible_passes : (a b : Option Interface) → serves_in types a b ≡ true → Passes (option_map (λ (i : Interface). i.kind) a) (option_map (λ (i : Interface). i.kind) b)
  compatible_passes None b h ys is = cc
  compatible_passes (Some a) None h ys is = cc
  compatible_passes (Some a) (Some b) h ys is = by a.kind refl (ap (λ k. serves types a.kind k) there ∙ h)
    where
      same : b.kind ≡ SenderReceiver ys
      same = cc

      there : SenderReceiver ys ≡ b.kind
      there = sym same

      serve : (xs : List DataElement) → serve_elements types xs ys ≡ true → Serve xs ys
      serve xs all r among =
          let p = any_at (λ (x : DataElement). serves_element types x r) xs (all_at (λ (y : DataElement). list_any (λ (x : DataElement). serves_element types x y) xs) ys all r among) in
          (p.0, p.1, serving p.0 r p.2)

      by : (k : InterfaceKind) → a.kind ≡ k → serves types k (SenderReceiver ys) ≡ true → (xs : List DataElement) × (Some a.kind ≡ Some (SenderReceiver xs)) × Serve xs ys
      by (SenderReceiver xs) e s = (xs, ap (λ k. Some k) e, serve xs s)
      by (ClientServer os) e s = cc
      by (ModeSwitch x) e s = cc

  pub passed : IsPassed types Passes
  passed = record { itself = passes_refl; onward = passes_then; compatible = compatible_passes }
