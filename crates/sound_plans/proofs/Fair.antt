-- Rule 15 at each required data element, and the rules 12 and 15 out of what is not refused.
use Rattle.std.proofs.Common.{◌≡◌, ℕ, zero, suc, ◌+◌, ◌<◌, List, [], ◌∷◌, length, filter, Bool, true, false, not, ◌&&◌, if◌then◌else◌, Option, Some, None, option_and_then, ◌⊎◌, inl, inr}
use Rattle.std.proofs.Common.{⊎_elim, refl, sym, ap, subst, ◌∙◌, arith, slice_get}
use Rattle.std.proofs.lemmas.Bool.{and_cases, not-false}
use Rattle.std.specs.Option.{option_map_or}
use Rattle.plan_definitions.specs.Common.{DataElement, Interface, SenderReceiver, Component as DeclaredComponent, Port, PortKind, Provided, Required, Description, incompatible, first_broken}
use Rattle.plan_definitions.specs.Common.{first_item, first_number, in_instances, in_port, in_ports, requires_at, are_several, crowds, is_crowded, is_many_to_many, providers, requirers}
use Rattle.plan_definitions.specs.Common.{item_refusal, of_connectors, of_items, of_root_ports, port_refusal, refusal, End, Flat, Instance, Join, Among, provides_at, port_of}
use Rattle.description_types.specs.declared.description.PrototypeType.TheVariants.{Component, Composition}
use Rattle.plan_definitions.specs.declared.join_rule.JoinRule.TheVariants.{Groups, Services}
use Rattle.plan_definitions.specs.Connectors.{ports_of}
use Rattle.plan_definitions.specs.JoinedItems.{end_of as item_end}
use Rattle.plan_definitions.specs.Joins.{same_end}
use Rattle.plan_definitions.proofs.Lists.{kept, mapped, none_at}
use Rattle.plan_definitions.proofs.Keys.{same_end_is, same_end_refl}
use Rattle.plan_definitions.proofs.Firsts.{first_none, map_none, or_none}

module _ (d : Description) (f : Flat) (fair : refusal d f ≡ None) where
  pub all_compatible : incompatible d ≡ None
  all_compatible = map_none _ (incompatible d) (or_none (of_connectors d) (of_root_ports d) (or_none (port_refusal d) (item_refusal d f) fair).0).0

  none_broken : first_broken Groups d f ≡ None
  none_broken = map_none _ (first_broken Groups d f) (or_none (of_items Services d f) (of_items Groups d f) (or_none (port_refusal d) (item_refusal d f) fair).1).1

  in_ports_none : (o : Option ℕ) (ports : List Port) → in_ports Groups d f o ports ≡ None → (k : ℕ) (port : Port) → slice_get ports k ≡ Some port → requires_at o port.kind ≡ true → in_port Groups d f o k port ≡ None
  in_ports_none o ports none k port is requires =
      let z : 0 + k ≡ k = omega arith in
      let here = first_none (λ n (p : Port). if requires_at o p.kind then in_port Groups d f o n p else None) 0 ports k port none is in
      sym (ap (λ n. in_port Groups d f o n port) z) ∙ sym (ap (λ b. if b then in_port Groups d f o (0 + k) port else None) requires) ∙ here

  -- the ports of an owner that require
  at_port : (o : Option ℕ) (k : ℕ) (port : Port) → port_of d f o k ≡ Some port → requires_at o port.kind ≡ true → in_port Groups d f o k port ≡ None
  at_port None k port is requires = in_ports_none None (ports_of d (Composition d.root)) (or_none (in_instances Groups d f) (in_ports Groups d f None (ports_of d (Composition d.root))) none_broken).1 k port is requires
  at_port (Some i) k port is requires = by (slice_get f.instances i) refl is
    where
      by : (o : Option Instance) → slice_get f.instances i ≡ o → slice_get (option_map_or (λ (c : DeclaredComponent). c.ports) (option_and_then (λ (x : Instance). slice_get d.components x.component) o) []) k ≡ Some port → in_port Groups d f (Some i) k port ≡ None
      by None there h = cc
      by (Some x) there h =
          let none = first_none (λ n (y : Instance). in_ports Groups d f (Some n) (ports_of d (Component y.component))) 0 f.instances i x (or_none (in_instances Groups d f) (in_ports Groups d f None (ports_of d (Composition d.root))) none_broken).0 there in
          let z : 0 + i ≡ i = omega arith in
          in_ports_none (Some i) (ports_of d (Component x.component)) (subst (λ n. in_ports Groups d f (Some n) (ports_of d (Component x.component)) ≡ None) z none) k port h requires

  none_passes : (test : ℕ → Bool) (i n k : ℕ) → first_number test i n ≡ None → k < n → test (i + k) ≡ false
  none_passes test i zero k none lt = absurd (omega arith)
  none_passes test i (suc n) k none lt = by (test i) refl none k lt (λ m h l. none_passes test (i + 1) n m h l)
    where
      by : (b : Bool) → test i ≡ b → (if b then Some i else first_number test (i + 1) n) ≡ None → (k : ℕ) → k < suc n → ((m : ℕ) → first_number test (i + 1) n ≡ None → m < n → test (i + 1 + m) ≡ false) → test (i + k) ≡ false
      by true is h k l more = cc
      by false is h zero l more = let z : i + 0 ≡ i = omega arith in ap test z ∙ is
      by false is h (suc k) l more = let s : i + suc k ≡ i + 1 + k = omega arith in ap test s ∙ more k h (omega arith)

  requires_where : (o : Option ℕ) (k : PortKind) → provides_at o k ≡ false → requires_at o k ≡ true
  requires_where (Some i) Provided h = cc
  requires_where (Some i) Required h = refl
  requires_where None Provided h = refl
  requires_where None Required h = cc

  -- no required data element is in a group of many to many
  pub fair_there : (o : Option ℕ) (k : ℕ) (port : Port) (i : Interface) (xs : List DataElement) (n : ℕ) → port_of d f o k ≡ Some port → provides_at o port.kind ≡ false → slice_get d.types.interfaces port.interface ≡ Some i → i.kind ≡ SenderReceiver xs → n < length xs
      → is_many_to_many f.joins (item_end o k n) ≡ false
  fair_there o k port i xs n is side has kind lt =
      let none = at_port o k port is (requires_where o port.kind side) in
      let item : first_item Groups f.joins o k i.kind ≡ None = sym (ap (option_and_then (λ (x : Interface). first_item Groups f.joins o k x.kind)) has) ∙ none in
      let number : first_number (λ m. is_many_to_many f.joins (item_end o k m)) 0 (length xs) ≡ None = map_none (item_end o k) (first_number (λ m. is_many_to_many f.joins (item_end o k m)) 0 (length xs)) (sym (ap (first_item Groups f.joins o k) kind) ∙ item) in
      let z : n ≡ 0 + n = omega arith in
      ap (λ m. is_many_to_many f.joins (item_end o k m)) z ∙ none_passes (λ m. is_many_to_many f.joins (item_end o k m)) 0 (length xs) n number lt

-- ---- a star

all_same : (xs : List End) → are_several xs ≡ false → (x y : End) → Among x xs → Among y xs → x ≡ y
all_same [] h x y a b = absurd a
all_same (z ∷ xs) h x y a b = here x a ∙ sym (here y b)
  where
    here : (u : End) → Among u (z ∷ xs) → u ≡ z
    here u (inl e) = e
    here u (inr later) = sym (same_end_is z u (not-false (same_end z u) (none_at (λ y. not (same_end z y)) xs h u later)))

-- who is joined with a provided end, and with a required one
pub requirer : (joins : List Join) (j : Join) → Among j joins → (p : End) → j.provided ≡ p → Among j.required (requirers joins p)
requirer joins j among p is = mapped (λ (x : Join). x.required) (filter (λ (x : Join). same_end x.provided p) joins) j (kept (λ (x : Join). same_end x.provided p) joins j among (ap (λ q. same_end q p) is ∙ same_end_refl p))

pub provider : (joins : List Join) (j : Join) → Among j joins → (r : End) → j.required ≡ r → Among j.provided (providers joins r)
provider joins j among r is = mapped (λ (x : Join). x.provided) (filter (λ (x : Join). same_end x.required r) joins) j (kept (λ (x : Join). same_end x.required r) joins j among (ap (λ q. same_end q r) is ∙ same_end_refl r))

-- where a required end is in no group of many to many, of each of its joins one end has no other partner
pub one_single : (joins : List Join) (j : Join) → Among j joins → is_many_to_many joins j.required ≡ false
    → ((x y : End) → Among x (requirers joins j.provided) → Among y (requirers joins j.provided) → x ≡ y) ⊎ ((x y : End) → Among x (providers joins j.required) → Among y (providers joins j.required) → x ≡ y)
one_single joins j among few = ⊎_elim (λ one. inl (all_same (requirers joins j.provided) one)) (λ one. inr (all_same (providers joins j.required) one)) (and_cases (are_several (requirers joins j.provided)) (are_several (providers joins j.required)) sparse)
  where
    second : (a b : Bool) → a ≡ true → (a && b) ≡ false → b ≡ false
    second true b is h = h
    second false b is h = cc

    not_crowded : is_crowded joins j.provided ≡ false
    not_crowded = second (same_end j.required j.required) (is_crowded joins j.provided) (same_end_refl j.required) (none_at (λ (x : Join). same_end x.required j.required && is_crowded joins x.provided) joins few j among)

    sparse : (are_several (requirers joins j.provided) && are_several (providers joins j.required)) ≡ false
    sparse = second (same_end j.provided j.provided) (crowds joins j) (same_end_refl j.provided) (none_at (λ (x : Join). same_end x.provided j.provided && crowds joins x) joins not_crowded j among)
