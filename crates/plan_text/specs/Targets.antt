-- What the accesses of a component let its code call (SWS_RTE: 'API Reference', and 'Contract Phase Header').
use Rattle.std.specs.Prelude.{ℕ, Bool, List, [], ◌∷◌, ◌++◌, ◌&&◌, bytes_eq, codes, slice_get}
use Rattle.std.specs.Cmp.Lexicographic.{pointwise}
use Rattle.std.specs.List.{flat_map}
use Rattle.std.specs.Option.{option_map_or}
use Rattle.runnable_lang.specs.declared.program.AccessKind.{AccessKind}
use Rattle.runnable_lang.specs.declared.program.AccessKind.TheVariants as kind
use Rattle.plan_definitions.specs.Common.{TypeTable, Access, Component, Runnable, item_name}
use Rattle.plan_definitions.specs.Signatures.{kind_at}

abbrev pub Letters : Type 0
Letters = List ℕ

-- what a call works on: the word of the call and the names that it has, kept apart
pub record Target : Type 0 where
  pub word : Letters
  pub parts : List Letters

-- the name of the call: `Rte_Write_p_o`
abbrev pub name_of : Target → Letters
name_of t = t.word ++ flat_map (λ part. codes "_" ++ part) t.parts

abbrev pub same_target : Target → Target → Bool
same_target a b = bytes_eq a.word b.word && pointwise bytes_eq a.parts b.parts

-- ---- the names that a call has: of a port, of an item of its interface, of a variable, of an area

abbrev pub port_name : Component → (port : ℕ) → Letters
port_name c k = option_map_or (λ port. port.short_name) (slice_get c.ports k) []

-- of a data element, an operation or a mode element
abbrev pub item_name_at : TypeTable → Component → (port : ℕ) → (item : ℕ) → Letters
item_name_at types c k n = option_map_or (λ kind. item_name kind n) (kind_at types c k) []

abbrev pub variable_name : Component → ℕ → Letters
variable_name c n = option_map_or (λ v. v.short_name) (slice_get c.behavior.variables n) []

abbrev pub area_name : Component → ℕ → Letters
area_name c n = option_map_or (λ area. area) (slice_get c.behavior.exclusive_areas n) []

-- ---- what an access lets a runnable call

module _ (types : TypeTable) (c : Component) (r : Runnable) (a : Access) where
  abbrev pub at_item : Letters → Target
  at_item word = record { word = word; parts = port_name c a.port ∷ item_name_at types c a.port a.item ∷ [] }

  -- an implicit access is one of the runnable
  abbrev pub of_runnable : Letters → Target
  of_runnable word = record { word = word; parts = r.short_name ∷ port_name c a.port ∷ item_name_at types c a.port a.item ∷ [] }

  abbrev pub of_variable : Letters → Target
  of_variable word = record { word = word; parts = r.short_name ∷ variable_name c a.item ∷ [] }

  abbrev pub of_area : Letters → Target
  of_area word = record { word = word; parts = area_name c a.item ∷ [] }

  -- the call of an access
  abbrev pub target_by : AccessKind → Target
  target_by kind.Write = at_item (codes "Rte_Write")
  target_by kind.Read = at_item (codes "Rte_Read")
  target_by kind.Invalidate = at_item (codes "Rte_Invalidate")
  target_by kind.IsUpdated = at_item (codes "Rte_IsUpdated")
  target_by kind.Send = at_item (codes "Rte_Send")
  target_by kind.Receive = at_item (codes "Rte_Receive")
  target_by kind.IWrite = of_runnable (codes "Rte_IWrite")
  target_by kind.IRead = of_runnable (codes "Rte_IRead")
  target_by kind.IrvWrite = of_variable (codes "Rte_IrvWrite")
  target_by kind.IrvRead = of_variable (codes "Rte_IrvRead")
  target_by kind.IrvIWrite = of_variable (codes "Rte_IrvIWrite")
  target_by kind.IrvIRead = of_variable (codes "Rte_IrvIRead")
  target_by kind.Call = at_item (codes "Rte_Call")
  target_by kind.ACall = at_item (codes "Rte_Call")
  target_by kind.TakeResult = at_item (codes "Rte_Result")
  target_by kind.Switch = at_item (codes "Rte_Switch")
  target_by kind.Mode = at_item (codes "Rte_Mode")
  target_by kind.Enter = of_area (codes "Rte_Enter")

  -- what is entered is left
  abbrev pub exits_by : AccessKind → List Target
  exits_by kind.Enter = of_area (codes "Rte_Exit") ∷ []
  exits_by _ = []

  abbrev pub targets_of : List Target
  targets_of = target_by a.kind ∷ exits_by a.kind
