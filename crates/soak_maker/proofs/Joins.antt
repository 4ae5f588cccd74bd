-- Rules 12 to 15: what connectors join may be joined.
use Rattle.std.proofs.Common.{◌≡◌, ◌<◌, ◌+◌, ◌-◌, ℕ, Bool, true, false, not, cond, ◌&&◌, ◌||◌, nat_eq, List, [], ◌∷◌, map, filter, slice_get, codes, Option, Some, None, option_map}
use Rattle.std.proofs.Common.{option_and_then, inl, inr, refl, sym, ap, subst, ◌∙◌, arith, if◌then◌else◌}
use Rattle.bus_semantics.specs.Common.{list_any, option_map_or, option_or}
use Rattle.plan_definitions.specs.Common.{Port, Description, Prototype, End, Flat, Instance, Join, Among, both, incompatible_in, inner_interface, joins_compatible, are_compatible}
use Rattle.plan_definitions.specs.Common.{are_several, crowds, is_crowded, is_many_to_many, providers, requirers, in_instances, in_ports, in_composition, refusal, end_text}
use Rattle.description_types.specs.declared.description.PrototypeType.TheVariants as of
use Rattle.plan_definitions.specs.declared.join_rule.JoinRule.TheVariants.{Services, Groups}
use Rattle.plan_definitions.specs.Connectors.{ports_of}
use Rattle.plan_definitions.specs.Joins.{same_end}
use Rattle.plan_definitions.specs.JoinedItems.{end_of}
use Rattle.description_stages.proofs.Held.{Shared}
use Rattle.soak_maker.proofs.Lists.{among_at, first_none, get_first, get_second, get_third, three_at, two, two_at}
use Rattle.soak_maker.proofs.Soaked.{acc_name, c_name, p_name, queue, service, soak_composition, soak_types, soaked, typed}
use Rattle.soak_maker.proofs.Flat.{end_at, named, queue_join, service_join, soak_instances, soak_joins}
use Rattle.plan_definitions.proofs.Keys.{same_end_is, same_end_refl}

-- ---- lists of ends

pub any_never : {X : Type 0} (t : X → Bool) → ((x : X) → t x ≡ false) → (xs : List X) → list_any t xs ≡ false
any_never t none [] = refl
any_never t none (x ∷ xs) = ap (λ b. b || list_any t xs) (none x) ∙ any_never t none xs

and_never : (a b : Bool) → b ≡ false → (a && b) ≡ false
and_never true b e = e
and_never false b e = refl

none_differs : (x z : End) (xs : List End) → x ≡ z → ((y : End) → Among y xs → y ≡ z) → list_any (λ y. not (same_end x y)) xs ≡ false
none_differs x z [] e all = refl
none_differs x z (y ∷ ys) e all =
    let same : x ≡ y = e ∙ sym (all y (inl refl)) in
    ap (λ b. not b || list_any (λ w. not (same_end x w)) ys) (subst (λ w. same_end x w ≡ true) same (same_end_refl x)) ∙ none_differs x z ys e (λ w h. all w (inr h))

not_several : (z : End) (xs : List End) → ((y : End) → Among y xs → y ≡ z) → are_several xs ≡ false
not_several z [] all = refl
not_several z (x ∷ xs) all = none_differs x z xs (all x (inl refl)) (λ w h. all w (inr h))

filtered : {X Y : Type 0} (t : X → Bool) (g : X → Y) (xs : List X) (y : Y) → Among y (map g (filter t xs)) → (x : X) × Among x xs × (t x ≡ true) × (y ≡ g x)
filtered t g [] y among = absurd among
filtered t g (x ∷ xs) y among = by (t x) refl among (λ more. filtered t g xs y more)
  where
    by : (b : Bool) → t x ≡ b → Among y (map g (cond b (x ∷ filter t xs) (filter t xs))) → (Among y (map g (filter t xs)) → (z : _) × Among z xs × (t z ≡ true) × (y ≡ g z)) → (z : _) × Among z (x ∷ xs) × (t z ≡ true) × (y ≡ g z)
    by true e (inl is) rest = (x, inl refl, e, is)
    by true e (inr more) rest = let r = rest more in (r.0, inr r.1, r.2, r.3)
    by false e more rest = let r = rest more in (r.0, inr r.1, r.2, r.3)

-- the end that provides a required one
abbrev pub provider_for : ℕ → End → End
provider_for n r = if nat_eq r.port 0 then record { instance = option_map (λ k. k - n) r.instance; port = 0; element = 0 } else end_at (n + n) 0

module _ (n : ℕ) (p q s : Shared) (js : List Join) (all : (j : Join) → Among j js → Among j (soak_joins n)) where
  abbrev soak : Description
  soak = soaked n p q s

  abbrev made_flat : Flat
  made_flat = record { instances = soak_instances n; joins = js }

  pub provided_by : (j : Join) → Among j js → j.provided ≡ provider_for n j.required
  provided_by j among = among_at (λ (k : Join). k.provided ≡ provider_for n k.required) 0 (soak_joins n)
      (two_at (λ i (k : Join). k.provided ≡ provider_for n k.required) n (queue_join n) (service_join n)
      (λ i h. ap (λ m. record { instance = Some m; port = 0; element = 0 }) (omega arith)) (λ i h. refl)) j (all j among)

  one_provider : (e : End) → are_several (providers js e) ≡ false
  one_provider e = not_several (provider_for n e) (providers js e) (λ y among.
      let (j, within, same, is) = filtered (λ (j : Join). same_end j.required e) (λ (j : Join). j.provided) js y among in
      is ∙ (provided_by j within ∙ ap (provider_for n) (same_end_is j.required e same)))

  none_crowds : (j : Join) → crowds js j ≡ false
  none_crowds j = and_never (are_several (requirers js j.provided)) (are_several (providers js j.required)) (one_provider j.required)

  none_crowded : (e : End) → is_crowded js e ≡ false
  none_crowded e = any_never (λ j. same_end j.provided e && crowds js j) (λ j. and_never (same_end j.provided e) (crowds js j) (none_crowds j)) js

  not_many : (e : End) → is_many_to_many js e ≡ false
  not_many e = any_never (λ j. same_end j.required e && is_crowded js j.provided) (λ j. and_never (same_end j.required e) (is_crowded js j.provided) (none_crowded j.provided)) js

  -- ---- rule 12

  interface_of_producer : (i port : ℕ) → i < n → inner_interface soak (soak_composition n) (record { prototype = i; port = port }) ≡ option_map (λ (x : Port). x.interface) (slice_get (ports_of soak (of.Component 0)) port)
  interface_of_producer i port h = ap (λ o. option_map (λ (x : Port). x.interface) (option_and_then (λ (y : Prototype). slice_get (ports_of soak y.of_type) port) o))
      (get_first n (λ i. typed 0 (p_name i)) (λ i. typed 1 (c_name i)) (typed 2 acc_name) i h)

  interface_of_consumer : (i port : ℕ) → i < n → inner_interface soak (soak_composition n) (record { prototype = n + i; port = port }) ≡ option_map (λ (x : Port). x.interface) (slice_get (ports_of soak (of.Component 1)) port)
  interface_of_consumer i port h = ap (λ o. option_map (λ (x : Port). x.interface) (option_and_then (λ (y : Prototype). slice_get (ports_of soak y.of_type) port) o))
      (get_second n (λ i. typed 0 (p_name i)) (λ i. typed 1 (c_name i)) (typed 2 acc_name) i h)

  interface_of_server : (port : ℕ) → inner_interface soak (soak_composition n) (record { prototype = n + n; port = port }) ≡ option_map (λ (x : Port). x.interface) (slice_get (ports_of soak (of.Component 2)) port)
  interface_of_server port = ap (λ o. option_map (λ (x : Port). x.interface) (option_and_then (λ (y : Prototype). slice_get (ports_of soak y.of_type) port) o))
      (get_third n (λ i. typed 0 (p_name i)) (λ i. typed 1 (c_name i)) (typed 2 acc_name))

  queue_fits : (i : ℕ) → i < n → joins_compatible soak (soak_composition n) (queue n i) ≡ true
  queue_fits i h = λ k. option_map_or (λ x. are_compatible soak_types x.0 x.1) (both (interface_of_producer i 0 h k) (interface_of_consumer i 0 h k)) false

  service_fits : (i : ℕ) → i < n → joins_compatible soak (soak_composition n) (service n i) ≡ true
  service_fits i h = λ k. option_map_or (λ x. are_compatible soak_types x.0 x.1) (both (interface_of_server 0 k) (interface_of_producer i 1 h k)) false

  all_compatible : incompatible_in soak (soak_composition n) ≡ None
  all_compatible = first_none (λ m k. if joins_compatible soak (soak_composition n) k then None else Some m) 0 (two n (queue n) (service n))
      (two_at (λ m k. ◌≡◌ {A = Option ℕ} (if joins_compatible soak (soak_composition n) k then None else Some m) None) n (queue n) (service n)
      (λ i h. ap (λ b. if b then None else Some i) (queue_fits i h)) (λ i h. ap (λ b. if b then None else Some (n + i)) (service_fits i h)))

  -- ---- rules 14 and 15

  services_keep : in_instances Services soak made_flat ≡ None
  services_keep = first_none (λ i x. in_ports Services soak made_flat (Some i) (ports_of soak (of.Component x.component))) 0 (soak_instances n)
      (three_at (λ i (x : Instance). in_ports Services soak made_flat (Some i) (ports_of soak (of.Component x.component)) ≡ None) n (λ i. named (p_name i) 0) (λ i. named (c_name i) 1) (named acc_name 2)
      (λ i h. ap (λ b. option_or (option_map (end_of (Some i) 1) (if (b || false) then Some 0 else None)) None) (one_provider (end_of (Some i) 1 0))) (λ i h. refl) refl)

  groups_keep : in_instances Groups soak made_flat ≡ None
  groups_keep = first_none (λ i x. in_ports Groups soak made_flat (Some i) (ports_of soak (of.Component x.component))) 0 (soak_instances n)
      (three_at (λ i (x : Instance). in_ports Groups soak made_flat (Some i) (ports_of soak (of.Component x.component)) ≡ None) n (λ i. named (p_name i) 0) (λ i. named (c_name i) 1) (named acc_name 2)
      (λ i h. refl) (λ i h. ap (λ b. option_or (option_map (end_of (Some (n + i)) 0) (if b then Some 0 else None)) None) (not_many (end_of (Some (n + i)) 0 0))) refl)

  pub may_join : refusal soak made_flat ≡ None
  may_join = λ i. option_or
      (option_or (option_map (λ (x : ℕ × ℕ). (12, in_composition x.0 (codes "/connectors/") x.1)) (option_or (option_map (λ m. (0, m)) (all_compatible i)) None)) None)
      (option_or (option_map (λ e. (14, end_text soak made_flat e)) (option_or (services_keep i) None)) (option_map (λ e. (15, end_text soak made_flat e)) (option_or (groups_keep i) None)))
