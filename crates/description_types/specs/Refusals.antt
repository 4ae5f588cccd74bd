-- The rules of types, and which of them a table breaks first.
use Rattle.std.specs.Prelude.{◌≡◌, ℕ, List, [], ◌∷◌, ◌++◌, map, length, slice_get, Bool, true, false, ◌&&◌, not, ◌==◌, nat_le, bytes_eq, codes, is_some, Option, Some, None, Result, Ok, Err}
use Rattle.std.specs.Fmt.{decimal}
use Rattle.std.specs.List.{list_any, list_all}
use Rattle.rte_text.specs.declared.refusal.Refused.{Refused}
use Rattle.rte_text.specs.declared.refusal.Refused.TheVariants.{Rule, Memory}
use Rattle.description_types.specs.declared.base_type.DataType.{DataType}
use Rattle.description_types.specs.declared.interface.ApplicationError.{ApplicationError}
use Rattle.description_types.specs.declared.interface.Argument.{Argument}
use Rattle.description_types.specs.declared.interface.Interface.{Interface}
use Rattle.description_types.specs.declared.interface.InterfaceKind.{InterfaceKind}
use Rattle.description_types.specs.declared.interface.InterfaceKind.TheVariants.{SenderReceiver, ClientServer, ModeSwitch}
use Rattle.description_types.specs.declared.interface.Operation.{Operation}
use Rattle.description_types.specs.declared.interface.TypeTable.{TypeTable}
use Rattle.description_types.specs.Lists.{from, unless, first}
use Rattle.description_types.specs.Ranges.{keeps_range}

-- Whether the type at this position has one word. A position that no type has is refused too: no description gives one.
abbrev pub one_word : Option DataType → Bool
one_word None = false
one_word (Some t) = t.words == 1

-- an argument is of a type of one word, and not named `error`
abbrev pub is_sound_argument : List DataType → Argument → Bool
is_sound_argument types a = one_word (slice_get types a.of_type) && not (bytes_eq a.short_name (codes "error"))

-- no error has the code of another
abbrev pub has_distinct_codes : List ApplicationError → Bool
has_distinct_codes [] = true
has_distinct_codes (e ∷ es) = not (list_any (λ other. other.code == e.code) es) && has_distinct_codes es

-- rule 7: an operation has at most 16 arguments, each of a type of one word and none named `error`, and distinct error codes
abbrev pub is_sound : List DataType → Operation → Bool
is_sound types o = nat_le (length o.arguments) 16 && (list_all (is_sound_argument types) o.arguments && has_distinct_codes o.errors)

abbrev pub operations_in : InterfaceKind → List Operation
operations_in (SenderReceiver elements) = []
operations_in (ClientServer operations) = operations
operations_in (ModeSwitch element) = []

-- the data types that break rule 6, by their positions
abbrev pub broken_types : List DataType → List ℕ
broken_types types = from 0 (λ i t. unless (keeps_range t) i) types

-- the operations that break rule 7, each by its interface's position and its own
abbrev pub broken_among : List DataType → (interface : ℕ) → List Operation → List (ℕ × ℕ)
broken_among types interface os = from 0 (λ j o. unless (is_sound types o) (interface, j)) os

abbrev pub broken_operations : List DataType → List Interface → List (ℕ × ℕ)
broken_operations types interfaces = from 0 (λ i x. broken_among types i (operations_in x.kind)) interfaces

-- the JSON pointers of a data type and of an operation
abbrev pub type_place : ℕ → List ℕ
type_place i = codes "/dataTypes/" ++ decimal i

abbrev pub operation_place : ℕ × ℕ → List ℕ
operation_place p = ((codes "/interfaces/" ++ decimal p.0) ++ codes "/operations/") ++ decimal p.1

-- each place with the rule that is broken there
abbrev pub of_rule : {P : Type 0} → ℕ → (P → List ℕ) → List P → List (ℕ × List ℕ)
of_rule rule place ps = map (λ p. (rule, place p)) ps

-- what is broken of a table of types: rule by rule, each at its places
abbrev pub broken : TypeTable → List (ℕ × List ℕ)
broken t = of_rule 6 type_place (broken_types t.data_types) ++ of_rule 7 operation_place (broken_operations t.data_types t.interfaces)

-- the refusal of a table of types: the least rule that it breaks, with the first place
abbrev pub type_refusal : TypeTable → Option (ℕ × List ℕ)
type_refusal t = first (broken t)

-- an answer tells the refusal, and that memory ran out only if there is one
abbrev pub Tells : {U : Type 0} → Option (ℕ × List ℕ) → Result U Refused → Type 0
Tells refused (Ok u) = refused ≡ None
Tells refused (Err (Rule r)) = refused ≡ Some (r.rule, r.place)
Tells refused (Err Memory) = is_some refused ≡ true
