-- An interface is compatible with itself.
use Rattle.std.proofs.Common.{◌≡◌, ℕ, List, [], ◌∷◌, length, zip, Bool, true, ◌&&◌, ◌||◌, bytes_eq, slice_get, is_some, Option, Some, None, refl, sym, ◌∙◌}
use Rattle.std.proofs.lemmas.Bool.{eq-eqb, and_parts, or_right}
use Rattle.std.proofs.lemmas.Bool.Decides.{Decides-int_eq}
use Rattle.std.proofs.lemmas.Slice.Eq.{bytes_eq-Decides}
use Rattle.std.specs.Cmp.Lexicographic.{pointwise}
use Rattle.std.specs.List.{list_all, list_any}
use Rattle.plan_definitions.specs.Common.{DataType, ApplicationError, Argument, DataElement, Direction, In, Out, Interface, InterfaceKind, SenderReceiver, ClientServer, ModeSwitch}
use Rattle.plan_definitions.specs.Common.{ModeGroup, Operation, SwImplPolicy, Standard, Queued, TypeTable, agree, are_compatible_types, base_number, types_agree, same_policy, same_direction}
use Rattle.plan_definitions.specs.Common.{serves_element, same_argument, same_error, declares_errors, serves_operation, same_modes, serves, serves_in, are_compatible}

same_bytes : (xs : List ℕ) → bytes_eq xs xs ≡ true
same_bytes xs = (bytes_eq-Decides xs xs).1 refl

module _ {X : Type 0} where
  all_wider : (g h : X → Bool) → ((x : X) → g x ≡ true → h x ≡ true) → (xs : List X) → list_all g xs ≡ true → list_all h xs ≡ true
  all_wider g h wider [] all = refl
  all_wider g h wider (x ∷ xs) all = let parts = and_parts (g x) (list_all g xs) all in (λ t. wider x parts.0 t && all_wider g h wider xs parts.1 t)

  -- where each serves itself, each is served by one of them
  all_served : (f : X → X → Bool) → ((x : X) → f x x ≡ true) → (xs : List X) → list_all (λ r. list_any (λ p. f p r) xs) xs ≡ true
  all_served f own [] = refl
  all_served f own (x ∷ xs) = (λ t. (own x t || list_any (λ p. f p x) xs)
      && all_wider (λ r. list_any (λ p. f p r) xs) (λ r. f x r || list_any (λ p. f p r) xs) (λ r is. or_right (f x r) (list_any (λ p. f p r) xs) is) xs (all_served f own xs) t)

  all_paired : (f : X × X → Bool) → ((x : X) → f (x, x) ≡ true) → (xs : List X) → list_all f (zip xs xs) ≡ true
  all_paired f own [] = refl
  all_paired f own (x ∷ xs) = (λ t. own x t && all_paired f own xs t)

  all_pointwise : (f : X → X → Bool) → ((x : X) → f x x ≡ true) → (xs : List X) → pointwise f xs xs ≡ true
  all_pointwise f own [] = refl
  all_pointwise f own (x ∷ xs) = (λ t. own x t && all_pointwise f own xs t)

  agrees_itself : (f : X → X → Bool) → ((x : X) → f x x ≡ true) → (o : Option X) → agree f o o ≡ true
  agrees_itself f own None = refl
  agrees_itself f own (Some x) = own x

policy_itself : (p : SwImplPolicy) → same_policy p p ≡ true
policy_itself Standard = refl
policy_itself Queued = refl

direction_itself : (d : Direction) → same_direction d d ≡ true
direction_itself In = refl
direction_itself Out = refl

type_itself : (x : DataType) → are_compatible_types x x ≡ true
type_itself x = (λ t. eq-eqb (base_number x.base) (base_number x.base) refl t
    && ((Decides-int_eq x.limits.low x.limits.low).1 refl t && ((Decides-int_eq x.limits.high x.limits.high).1 refl t && eq-eqb x.words x.words refl t)))

module _ (types : TypeTable) where
  types_itself : (n : ℕ) → types_agree types.data_types n n ≡ true
  types_itself n = agrees_itself are_compatible_types type_itself (slice_get types.data_types n)

  element_itself : (x : DataElement) → serves_element types x x ≡ true
  element_itself x = (λ t. same_bytes x.short_name t && (types_itself x.of_type t && policy_itself x.sw_impl_policy t))

  argument_itself : (x : Argument) → same_argument types x x ≡ true
  argument_itself x = (λ t. same_bytes x.short_name t && (direction_itself x.direction t && types_itself x.of_type t))

  error_itself : (x : ApplicationError) → same_error x x ≡ true
  error_itself x = (λ t. same_bytes x.short_name t && eq-eqb x.code x.code refl t)

  errors_itself : (xs : List ApplicationError) → declares_errors xs xs ≡ true
  errors_itself xs = all_served (λ r p. same_error p r) error_itself xs

  operation_itself : (x : Operation) → serves_operation types x x ≡ true
  operation_itself x = (λ t. same_bytes x.short_name t
      && ((eq-eqb (length x.arguments) (length x.arguments) refl t && all_paired (λ z. same_argument types z.0 z.1) argument_itself x.arguments t) && errors_itself x.errors t))

  group_itself : (x : ModeGroup) → same_modes x x ≡ true
  group_itself x = (λ t. all_pointwise bytes_eq same_bytes x.modes t && eq-eqb x.initial_mode x.initial_mode refl t)

  kind_itself : (k : InterfaceKind) → serves types k k ≡ true
  kind_itself (SenderReceiver elements) = all_served (serves_element types) element_itself elements
  kind_itself (ClientServer operations) = all_served (serves_operation types) operation_itself operations
  kind_itself (ModeSwitch element) = agrees_itself same_modes group_itself (slice_get types.mode_groups element.of_type)

  found_itself : (o : Option Interface) → is_some o ≡ serves_in types o o
  found_itself None = refl
  found_itself (Some x) = sym (kind_itself x.kind)

  pub itself : (n m : ℕ) → n ≡ m → is_some (slice_get types.interfaces n) ≡ are_compatible types n m
  itself n m same = found_itself (slice_get types.interfaces n) ∙ (λ t. serves_in types (slice_get types.interfaces n) (slice_get types.interfaces (same t)))
