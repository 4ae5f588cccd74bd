-- What ports have: data elements, operations and modes, from the rules on accesses and events.
use Rattle.std.proofs.Common.{◌≡◌, ℕ, true, refl, ◌∙◌, ap, List, length, Option, Some, None, option_map, option_and_then}
use Rattle.bus_semantics.specs.Common.{slice_get, false≢true, same_Some}
use Rattle.plan_definitions.specs.Common.{DataElement, Interface, InterfaceKind, SenderReceiver, ClientServer, ModeSwitch, ModeElement, ModeGroup, SwImplPolicy, TypeTable, Port, PortKind}
use Rattle.plan_definitions.specs.Common.{Provided, Required, requires_data, provides_operation, provides_modes, required_modes, item_of, item_of_port, item_at}
use Rattle.description_types.specs.declared.interface.Operation as declared_operation
use Rattle.plan_definitions.specs.declared.item.Item.{Item}
use Rattle.plan_definitions.specs.declared.item.Item.TheVariants.{Data, Operation, Modes}
use Rattle.sound_plans.proofs.Places.{not_some}

pub record ItemAt (types : TypeTable) (ports : List Port) (k n : ℕ) (side : PortKind) (item : Item) : Type 0 where
  pub port : Port
  pub there : slice_get ports k ≡ Some port
  pub kind : port.kind ≡ side
  pub interface : Interface
  pub has : slice_get types.interfaces port.interface ≡ Some interface
  pub is : item_of types interface.kind n ≡ Some item

module _ (types : TypeTable) (ports : List Port) (k n : ℕ) where
  pub item_there : (side : PortKind) (item : Item) → item_at types ports k n ≡ Some (side, item) → ItemAt types ports k n side item
  item_there side item e = by_port (slice_get ports k) refl e
    where
      by_interface : (port : Port) → slice_get ports k ≡ Some port → (o : Option Interface) → slice_get types.interfaces port.interface ≡ o
          → option_map {U = PortKind × Item} (λ x. (port.kind, x)) (option_and_then (λ (i : Interface). item_of types i.kind n) o) ≡ Some (side, item) → ItemAt types ports k n side item
      by_interface port at None has e = not_some (side, item) e
      by_interface port at (Some i) has e = by_item (item_of types i.kind n) refl e
        where
          by_item : (o : Option Item) → item_of types i.kind n ≡ o → option_map {U = PortKind × Item} (λ x. (port.kind, x)) o ≡ Some (side, item) → ItemAt types ports k n side item
          by_item None is e = not_some (side, item) e
          by_item (Some x) is e =
              let same : (port.kind, x) ≡ (side, item) = same_Some (port.kind, x) (side, item) e in
              record { port = port; there = at; kind = ap (λ (z : PortKind × Item). z.0) same; interface = i; has = has; is = is ∙ ap (λ (z : PortKind × Item). Some z.1) same }

      by_port : (o : Option Port) → slice_get ports k ≡ o → option_and_then (λ (port : Port). option_map {U = PortKind × Item} (λ x. (port.kind, x)) (item_of_port types port n)) o ≡ Some (side, item) → ItemAt types ports k n side item
      by_port None at e = not_some (side, item) e
      by_port (Some port) at e = by_interface port at (slice_get types.interfaces port.interface) refl e

-- ---- by the kind of the interface

pub record OperationIn (kind : InterfaceKind) (n : ℕ) : Type 0 where
  pub all : List declared_operation.Operation
  pub is : kind ≡ ClientServer all
  pub operation : declared_operation.Operation
  pub there : slice_get all n ≡ Some operation

pub record DataIn (kind : InterfaceKind) (n : ℕ) (policy : SwImplPolicy) : Type 0 where
  pub all : List DataElement
  pub is : kind ≡ SenderReceiver all
  pub element : DataElement
  pub there : slice_get all n ≡ Some element
  pub kept : element.sw_impl_policy ≡ policy

pub record ModesIn (types : TypeTable) (kind : InterfaceKind) (count : ℕ) : Type 0 where
  pub element : ModeElement
  pub is : kind ≡ ModeSwitch element
  pub group : ModeGroup
  pub there : slice_get types.mode_groups element.of_type ≡ Some group
  pub counted : length group.modes ≡ count

module _ (types : TypeTable) where
  pub operation_item : (kind : InterfaceKind) (n : ℕ) → item_of types kind n ≡ Some Operation → OperationIn kind n
  operation_item (SenderReceiver es) n e = by (slice_get es n) e
    where
      by : (o : Option DataElement) → option_map (λ (x : DataElement). Data x.sw_impl_policy) o ≡ Some Operation → OperationIn (SenderReceiver es) n
      by None e = not_some Operation e
      by (Some x) e = absurd (cc e)
  operation_item (ClientServer os) n e = by (slice_get os n) refl e
    where
      by : (o : Option declared_operation.Operation) → slice_get os n ≡ o → option_map (λ (x : declared_operation.Operation). Operation) o ≡ Some Operation → OperationIn (ClientServer os) n
      by None at e = not_some Operation e
      by (Some x) at e = record { all = os; is = refl; operation = x; there = at }
  operation_item (ModeSwitch x) n e = by (slice_get types.mode_groups x.of_type) e
    where
      by : (o : Option ModeGroup) → option_map (λ (g : ModeGroup). Modes (length g.modes)) o ≡ Some Operation → OperationIn (ModeSwitch x) n
      by None e = not_some Operation e
      by (Some g) e = absurd (cc e)

  pub data_item : (kind : InterfaceKind) (n : ℕ) (policy : SwImplPolicy) → item_of types kind n ≡ Some (Data policy) → DataIn kind n policy
  data_item (SenderReceiver es) n policy e = by (slice_get es n) refl e
    where
      by : (o : Option DataElement) → slice_get es n ≡ o → option_map (λ (x : DataElement). Data x.sw_impl_policy) o ≡ Some (Data policy) → DataIn (SenderReceiver es) n policy
      by None at e = not_some (Data policy) e
      by (Some x) at e = record { all = es; is = refl; element = x; there = at; kept = cc e }
  data_item (ClientServer os) n policy e = by (slice_get os n) e
    where
      by : (o : Option declared_operation.Operation) → option_map (λ (x : declared_operation.Operation). Operation) o ≡ Some (Data policy) → DataIn (ClientServer os) n policy
      by None e = not_some (Data policy) e
      by (Some x) e = absurd (cc e)
  data_item (ModeSwitch x) n policy e = by (slice_get types.mode_groups x.of_type) e
    where
      by : (o : Option ModeGroup) → option_map (λ (g : ModeGroup). Modes (length g.modes)) o ≡ Some (Data policy) → DataIn (ModeSwitch x) n policy
      by None e = not_some (Data policy) e
      by (Some g) e = absurd (cc e)

  pub modes_item : (kind : InterfaceKind) (n count : ℕ) → item_of types kind n ≡ Some (Modes count) → ModesIn types kind count
  modes_item (SenderReceiver es) n count e = by (slice_get es n) e
    where
      by : (o : Option DataElement) → option_map (λ (x : DataElement). Data x.sw_impl_policy) o ≡ Some (Modes count) → ModesIn types (SenderReceiver es) count
      by None e = not_some (Modes count) e
      by (Some x) e = absurd (cc e)
  modes_item (ClientServer os) n count e = by (slice_get os n) e
    where
      by : (o : Option declared_operation.Operation) → option_map (λ (x : declared_operation.Operation). Operation) o ≡ Some (Modes count) → ModesIn types (ClientServer os) count
      by None e = not_some (Modes count) e
      by (Some x) e = absurd (cc e)
  modes_item (ModeSwitch x) n count e = by (slice_get types.mode_groups x.of_type) refl e
    where
      by : (o : Option ModeGroup) → slice_get types.mode_groups x.of_type ≡ o → option_map (λ (g : ModeGroup). Modes (length g.modes)) o ≡ Some (Modes count) → ModesIn types (ModeSwitch x) count
      by None at e = not_some (Modes count) e
      by (Some g) at e = record { element = x; is = refl; group = g; there = at; counted = cc e }

-- ---- what the rules on events say

pub data_required : (o : Option (PortKind × Item)) → requires_data o ≡ true → (policy : SwImplPolicy) × (o ≡ Some (Required, Data policy))
data_required (Some (Required, Data policy)) e = (policy, refl)
data_required (Some (Required, Operation)) e = absurd (false≢true e)
data_required (Some (Required, Modes n)) e = absurd (false≢true e)
data_required (Some (Provided, x)) e = absurd (false≢true e)
data_required None e = absurd (false≢true e)

pub operation_provided : (o : Option (PortKind × Item)) → provides_operation o ≡ true → o ≡ Some (Provided, Operation)
operation_provided (Some (Provided, Operation)) e = refl
operation_provided (Some (Provided, Data policy)) e = absurd (false≢true e)
operation_provided (Some (Provided, Modes n)) e = absurd (false≢true e)
operation_provided (Some (Required, x)) e = absurd (false≢true e)
operation_provided None e = absurd (false≢true e)

pub modes_provided : (o : Option (PortKind × Item)) → provides_modes o ≡ true → (n : ℕ) × (o ≡ Some (Provided, Modes n))
modes_provided (Some (Provided, Modes n)) e = (n, refl)
modes_provided (Some (Provided, Data policy)) e = absurd (false≢true e)
modes_provided (Some (Provided, Operation)) e = absurd (false≢true e)
modes_provided (Some (Required, x)) e = absurd (false≢true e)
modes_provided None e = absurd (false≢true e)

pub modes_required : (o : Option (PortKind × Item)) (n : ℕ) → required_modes o ≡ Some n → o ≡ Some (Required, Modes n)
modes_required (Some (Required, Modes m)) n e = let same : m ≡ n = cc e in ap (λ k. Some (Required, Modes k)) same
modes_required (Some (Required, Data policy)) n e = not_some n e
modes_required (Some (Required, Operation)) n e = not_some n e
modes_required (Some (Provided, x)) n e = not_some n e
modes_required None n e = not_some n e
