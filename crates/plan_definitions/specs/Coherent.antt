-- Coherent access lists: items that a runnable fetches at one moment, or publishes at one. They are this project's own; the accesses
-- are implicit ones (Software Component Template: VariableAccess in the role dataReadAccess or dataWriteAccess).
use Rattle.std.specs.Prelude.{ℕ, List, [], ◌∷◌, map, length, sum_by, Bool, ◌&&◌, ◌||◌, ◌==◌, nat_lt, nat_le, Option, slice_get}
use Rattle.bus_semantics.specs.Common.{flat_map, list_all, option_map_or, AccessKind, is_in}
use Rattle.runnable_lang.specs.declared.program.AccessKind.TheVariants as kind
use Rattle.description_types.specs.declared.interface.InterfaceKind.{InterfaceKind}
use Rattle.description_types.specs.declared.interface.InterfaceKind.TheVariants.{SenderReceiver, ClientServer, ModeSwitch}
use Rattle.description_types.specs.declared.interface.TypeTable.{TypeTable}
use Rattle.description_types.specs.declared.component.Access.{Access}
use Rattle.description_types.specs.declared.component.Component.{Component}
use Rattle.description_types.specs.declared.component.ItemPair.{ItemPair}
use Rattle.description_types.specs.declared.component.Runnable.{Runnable}
use Rattle.plan_definitions.specs.declared.spot.Spot.{Spot}
use Rattle.plan_definitions.specs.declared.spot.Spot.TheVariants as spot
use Rattle.plan_definitions.specs.Counts.{count, same_operation}
use Rattle.plan_definitions.specs.Firsts.{first_of, unless}
use Rattle.plan_definitions.specs.Signatures.{kind_at}

-- ---- items, each by its port and its position in the port's interface

abbrev pub item_of : ItemPair → ℕ × ℕ
item_of x = (x.port, x.item)

-- those that an access reads implicitly, and writes implicitly
abbrev pub read_by : Access → List (ℕ × ℕ)
read_by a = by_kind a.kind
  where
    by_kind : AccessKind → List (ℕ × ℕ)
    by_kind kind.IRead = (a.port, a.item) ∷ []
    by_kind _ = []

abbrev pub written_by : Access → List (ℕ × ℕ)
written_by a = by_kind a.kind
  where
    by_kind : AccessKind → List (ℕ × ℕ)
    by_kind kind.IWrite = (a.port, a.item) ∷ []
    by_kind _ = []

-- those of all lists of a runnable
abbrev pub listed : Runnable → List (ℕ × ℕ)
listed r = flat_map (λ pairs. map item_of pairs) r.coherent

abbrev pub comes_in : List (ℕ × ℕ) → ItemPair → Bool
comes_in items x = nat_lt 0 (count (same_operation (item_of x)) items)

abbrev pub comes_once : List (ℕ × ℕ) → ItemPair → Bool
comes_once items x = count (same_operation (item_of x)) items == 1

-- ---- words

abbrev pub words_of_type : TypeTable → ℕ → ℕ
words_of_type types n = option_map_or (λ t. t.words) (slice_get types.data_types n) 0

-- how many words a data element has; another item has none
abbrev pub words_in : TypeTable → InterfaceKind → ℕ → ℕ
words_in types (SenderReceiver elements) n = option_map_or (λ e. words_of_type types e.of_type) (slice_get elements n) 0
words_in types (ClientServer operations) n = 0
words_in types (ModeSwitch element) n = 0

abbrev pub words_at : TypeTable → Component → ItemPair → ℕ
words_at types c x = option_map_or (λ kind. words_in types kind x.item) (kind_at types c x.port) 0

-- ---- rule 31

-- A list has 2 to 16 items with at most 16 words, each of which comes once in the lists of its runnable; the runnable reads all of
-- them implicitly, or writes all of them so.
abbrev pub list_fits : TypeTable → Component → Runnable → List ItemPair → Bool
list_fits types c r pairs = is_in 2 16 (length pairs)
    && (list_all (comes_once (listed r)) pairs
    && ((list_all (comes_in (flat_map read_by r.accesses)) pairs || list_all (comes_in (flat_map written_by r.accesses)) pairs)
    && nat_le (sum_by (words_at types c) pairs) 16))

-- Rule 31: each coherent access list fits. The first list of a component that does not.
abbrev pub incoherent_among : TypeTable → Component → (runnable : ℕ) → Runnable → Option Spot
incoherent_among types c m r = first_of (λ k pairs. unless (list_fits types c r pairs) (spot.List m k)) 0 r.coherent

abbrev pub incoherent : TypeTable → Component → Option Spot
incoherent types c = first_of (λ m r. incoherent_among types c m r) 0 c.behavior.runnables
