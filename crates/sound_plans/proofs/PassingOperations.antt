-- Interfaces that serve others: operations keep their arguments along a chain of compatible interfaces, and mode elements their modes.
use Rattle.std.proofs.Common.{◌≡◌, ℕ, List, [], ◌∷◌, map, filter, length, Bool, true, false, cond, ◌&&◌, ◌==◌, nat_eq, bytes_eq, Option, Some, None, option_map, zip, refl, ap, subst, ◌∙◌}
use Rattle.std.proofs.Common.{arith, slice_get}
use Rattle.std.specs.Prelude.{pos}
use Rattle.bus_semantics.specs.Common.{false≢true, eqb-true, and_parts, list_all, list_any, option_map_or, int_eq}
use Rattle.std.proofs.lemmas.Bool.Decides.{Decides-int_eq}
use Rattle.std.specs.Cmp.Lexicographic.{pointwise}
use Rattle.plan_definitions.specs.Common.{DataType, Argument, Direction, In, Out, Interface, InterfaceKind, ClientServer, ModeSwitch, SenderReceiver, ModeElement, ModeGroup, Operation}
use Rattle.plan_definitions.specs.Common.{TypeTable, same_argument, same_arguments, same_direction, same_modes, serves, serves_in, serves_operation, agree, are_compatible_types, base_number}
use Rattle.plan_definitions.specs.Common.{types_agree, arguments_of, goes}
use Rattle.plan_definitions.specs.Signatures.{limits_of}
use Rattle.plan_definitions.proofs.Chains.{IsPassed}
use Rattle.plan_definitions.proofs.Lists.{same_bytes}
use Rattle.sound_plans.proofs.Places.{all_at, any_at}

same_direction_is : (a b : Direction) → same_direction a b ≡ true → a ≡ b
same_direction_is In In e = refl
same_direction_is In Out e = absurd (false≢true e)
same_direction_is Out In e = absurd (false≢true e)
same_direction_is Out Out e = refl

same_names : (a b : List (List ℕ)) → pointwise bytes_eq a b ≡ true → a ≡ b
same_names [] [] h = refl
same_names [] (y ∷ b) h = absurd (false≢true h)
same_names (x ∷ a) [] h = absurd (false≢true h)
same_names (x ∷ a) (y ∷ b) h = let p = and_parts (bytes_eq x y) (pointwise bytes_eq a b) h in (λ j. same_bytes x y p.0 j ∷ same_names a b p.1 j)

abbrev pub modes_of_group : Option ModeGroup → Option (List (List ℕ))
modes_of_group o = option_map (λ (g : ModeGroup). g.modes) o

same_groups : (a b : Option ModeGroup) → agree same_modes a b ≡ true → modes_of_group a ≡ modes_of_group b
same_groups None None e = refl
same_groups None (Some b) e = absurd (false≢true e)
same_groups (Some a) None e = absurd (false≢true e)
same_groups (Some a) (Some b) e = ap (λ ms. Some ms) (same_names a.modes b.modes (and_parts (pointwise bytes_eq a.modes b.modes) (nat_eq a.initial_mode b.initial_mode) e).0)

module _ (types : TypeTable) where
  same_limits_of : (a b : ℕ) → types_agree types.data_types a b ≡ true → limits_of types.data_types a ≡ limits_of types.data_types b
  same_limits_of a b e = by (slice_get types.data_types a) (slice_get types.data_types b) e
    where
      by : (s t : Option DataType) → agree are_compatible_types s t ≡ true → option_map_or (λ (t : DataType). t.limits) s (record { low = pos 0; high = pos 0 }) ≡ option_map_or (λ (t : DataType). t.limits) t (record { low = pos 0; high = pos 0 })
      by None None e = refl
      by None (Some b) e = absurd (false≢true e)
      by (Some a) None e = absurd (false≢true e)
      by (Some a) (Some b) e =
          let p = and_parts (nat_eq (base_number a.base) (base_number b.base)) _ e in
          let q = and_parts (int_eq a.limits.low b.limits.low) _ p.1 in
          let r = and_parts (int_eq a.limits.high b.limits.high) (nat_eq a.words b.words) q.1 in
          λ j. record { low = (Decides-int_eq a.limits.low b.limits.low).0 q.0 j; high = (Decides-int_eq a.limits.high b.limits.high).0 r.0 j }

  -- the limits of the arguments of a direction
  same_all : (way : Direction) (ps rs : List Argument) → length ps ≡ length rs → list_all (λ (x : Argument × Argument). same_argument types x.0 x.1) (zip ps rs) ≡ true → arguments_of types.data_types way ps ≡ arguments_of types.data_types way rs
  same_all way [] [] long all = refl
  same_all way [] (r ∷ rs) long all = absurd (omega arith)
  same_all way (p ∷ ps) [] long all = absurd (omega arith)
  same_all way (p ∷ ps) (r ∷ rs) long all =
      let a = and_parts (same_argument types p r) (list_all (λ (x : Argument × Argument). same_argument types x.0 x.1) (zip ps rs)) all in
      let b = and_parts (bytes_eq p.short_name r.short_name) (same_direction p.direction r.direction && types_agree types.data_types p.of_type r.of_type) a.0 in
      let e = and_parts (same_direction p.direction r.direction) (types_agree types.data_types p.of_type r.of_type) b.1 in
      let side : goes way p ≡ goes way r = ways way p r (same_direction_is p.direction r.direction e.0) in
      let limits : limits_of types.data_types p.of_type ≡ limits_of types.data_types r.of_type = same_limits_of p.of_type r.of_type e.1 in
      let rest : arguments_of types.data_types way ps ≡ arguments_of types.data_types way rs = same_all way ps rs (omega arith) a.1 in
      step (goes way p) (goes way r) p r (filter (goes way) ps) (filter (goes way) rs) side limits rest
    where
      ways : (way : Direction) (p r : Argument) → p.direction ≡ r.direction → goes way p ≡ goes way r
      ways In p r e = λ j. goes In (record { short_name = p.short_name; of_type = p.of_type; direction = e j })
      ways Out p r e = λ j. goes Out (record { short_name = p.short_name; of_type = p.of_type; direction = e j })

      step : (s t : Bool) (p r : Argument) (os bs : List Argument) → s ≡ t → limits_of types.data_types p.of_type ≡ limits_of types.data_types r.of_type
          → map (λ (a : Argument). limits_of types.data_types a.of_type) os ≡ map (λ (a : Argument). limits_of types.data_types a.of_type) bs
          → map (λ (a : Argument). limits_of types.data_types a.of_type) (cond s (p ∷ os) os) ≡ map (λ (a : Argument). limits_of types.data_types a.of_type) (cond t (r ∷ bs) bs)
      step true true p r os bs e limits rest = λ j. limits j ∷ rest j
      step false false p r os bs e limits rest = rest
      step true false p r os bs e limits rest = absurd (cc e)
      step false true p r os bs e limits rest = absurd (cc e)

  -- ---- operations

  pub record ServesAs (p r : Operation) : Type 0 where
    pub name : p.short_name ≡ r.short_name
    pub arguments : (way : Direction) → arguments_of types.data_types way p.arguments ≡ arguments_of types.data_types way r.arguments

  serves_as : (p r : Operation) → serves_operation types p r ≡ true → ServesAs p r
  serves_as p r h =
      let a = and_parts (bytes_eq p.short_name r.short_name) _ h in
      let b = and_parts (same_arguments types p.arguments r.arguments) _ a.1 in
      let e = and_parts (length p.arguments == length r.arguments) (list_all (λ (x : Argument × Argument). same_argument types x.0 x.1) (zip p.arguments r.arguments)) b.0 in
      record { name = same_bytes p.short_name r.short_name a.0; arguments = λ way. same_all way p.arguments r.arguments (eqb-true (length p.arguments) (length r.arguments) e.0) e.1 }

  pub record Served (xs : List Operation) (r : Operation) : Type 0 where
    pub place : ℕ
    pub operation : Operation
    pub there : slice_get xs place ≡ Some operation
    pub serves : ServesAs operation r

  abbrev pub Serve : List Operation → List Operation → Type 0
  Serve xs ys = (k : ℕ) (r : Operation) → slice_get ys k ≡ Some r → Served xs r

  pub record FromServer (a : Option InterfaceKind) (ys : List Operation) : Type 0 where
    pub all : List Operation
    pub is : a ≡ Some (ClientServer all)
    pub serve : Serve all ys

  pub record FromMachine (a : Option InterfaceKind) (y : ModeElement) : Type 0 where
    pub element : ModeElement
    pub is : a ≡ Some (ModeSwitch element)
    pub modes : modes_of_group (slice_get types.mode_groups element.of_type) ≡ modes_of_group (slice_get types.mode_groups y.of_type)

  -- what a required interface has, the provided one has
  pub record Offers (a b : Option InterfaceKind) : Type 0 where
    pub operations : (ys : List Operation) → b ≡ Some (ClientServer ys) → FromServer a ys
    pub modes : (y : ModeElement) → b ≡ Some (ModeSwitch y) → FromMachine a y

  offers_itself : (a : Option InterfaceKind) → Offers a a
  offers_itself a = record {
    operations = λ ys is. record { all = ys; is = is; serve = λ k r at. record { place = k; operation = r; there = at; serves = record { name = refl; arguments = λ way. refl } } };
    modes = λ y is. record { element = y; is = is; modes = refl };
  }

  offers_onward : (a b c : Option InterfaceKind) → Offers a b → Offers b c → Offers a c
  offers_onward a b c first second = record {
    operations = λ zs is.
        let s = second.operations zs is in
        let t = first.operations s.all s.is in
        record {
          all = t.all;
          is = t.is;
          serve = λ k r at.
              let q = s.serve k r at in
              let p = t.serve q.place q.operation q.there in
              record { place = p.place; operation = p.operation; there = p.there; serves = record { name = p.serves.name ∙ q.serves.name; arguments = λ way. p.serves.arguments way ∙ q.serves.arguments way } };
        };
    modes = λ z is.
        let s = second.modes z is in
        let t = first.modes s.element s.is in
        record { element = t.element; is = t.is; modes = t.modes ∙ s.modes };
  }

  kinds_offer : (a b : InterfaceKind) → serves types a b ≡ true → Offers (Some a) (Some b)
  kinds_offer (SenderReceiver ps) (SenderReceiver rs) h = record { operations = λ ys is. absurd (cc is); modes = λ y is. absurd (cc is) }
  kinds_offer (ClientServer ps) (ClientServer rs) h = record {
    operations = λ ys is. record {
      all = ps;
      is = refl;
      serve = λ k r at.
          let same : ys ≡ rs = cc is in
          let found = any_at (λ (p : Operation). serves_operation types p r) ps (all_at (λ (x : Operation). list_any (λ (p : Operation). serves_operation types p x) ps) rs k r h (subst (λ l. slice_get l k ≡ Some r) same at)) in
          record { place = found.place; operation = found.item; there = found.there; serves = serves_as found.item r found.passes };
    };
    modes = λ y is. absurd (cc is);
  }
  kinds_offer (ModeSwitch p) (ModeSwitch r) h = record {
    operations = λ ys is. absurd (cc is);
    modes = λ y is. let same : r ≡ y = cc is in
        record { element = p; is = refl; modes = same_groups (slice_get types.mode_groups p.of_type) (slice_get types.mode_groups r.of_type) h ∙ ap (λ (x : ModeElement). modes_of_group (slice_get types.mode_groups x.of_type)) same };
  }
  kinds_offer (SenderReceiver ps) (ClientServer rs) h = absurd (false≢true h)
  kinds_offer (SenderReceiver ps) (ModeSwitch r) h = absurd (false≢true h)
  kinds_offer (ClientServer ps) (SenderReceiver rs) h = absurd (false≢true h)
  kinds_offer (ClientServer ps) (ModeSwitch r) h = absurd (false≢true h)
  kinds_offer (ModeSwitch p) (SenderReceiver rs) h = absurd (false≢true h)
  kinds_offer (ModeSwitch p) (ClientServer rs) h = absurd (false≢true h)

  -- compatible interfaces
  compatible_offers : (a b : Option Interface) → serves_in types a b ≡ true → Offers (option_map (λ (i : Interface). i.kind) a) (option_map (λ (i : Interface). i.kind) b)
  compatible_offers None b h = absurd (false≢true h)
  compatible_offers (Some a) None h = absurd (false≢true h)
  compatible_offers (Some a) (Some b) h = kinds_offer a.kind b.kind h

  pub offered : IsPassed types Offers
  offered = record { itself = offers_itself; onward = offers_onward; compatible = compatible_offers }
