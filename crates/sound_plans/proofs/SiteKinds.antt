-- What the kinds of sites say.
use Rattle.std.proofs.Common.{◌≡◌, ℕ, ◌<◌, List, Bool, true, false, Option, Some, None, refl, sym, arith, true≢false}
use Rattle.plan_definitions.specs.Common.{DataElement, InterfaceKind, SenderReceiver, ClientServer, ModeSwitch, ModeElement, Operation, PortKind, Provided, Required, is_element, is_server}
use Rattle.plan_definitions.specs.Common.{is_machine, is_mode_port, provides_at, kind_at, count_at, item_count}

pub record IsServer (o : Option ℕ) (side : PortKind) (k : InterfaceKind) (n : ℕ) : Type 0 where
  pub instance : ℕ
  pub operations : List Operation
  pub owner : o ≡ Some instance
  pub provides : side ≡ Provided
  pub interface : k ≡ ClientServer operations

pub server_is : (o : Option ℕ) (side : PortKind) (k : InterfaceKind) (n : ℕ) → is_server (kind_at o side k) ≡ true → n < count_at o side k → IsServer o side k n
server_is o side (SenderReceiver es) n h below = absurd (true≢false (sym h))
server_is None Provided (ClientServer os) n h below = absurd (omega arith)
server_is None Required (ClientServer os) n h below = absurd (omega arith)
server_is (Some i) Provided (ClientServer os) n h below = record { instance = i; operations = os; owner = refl; provides = refl; interface = refl }
server_is (Some i) Required (ClientServer os) n h below = absurd (omega arith)
server_is None Provided (ModeSwitch e) n h below = absurd (true≢false (sym h))
server_is None Required (ModeSwitch e) n h below = absurd (true≢false (sym h))
server_is (Some i) Provided (ModeSwitch e) n h below = absurd (true≢false (sym h))
server_is (Some i) Required (ModeSwitch e) n h below = absurd (true≢false (sym h))

pub record IsModes (provides : Bool) (o : Option ℕ) (side : PortKind) (k : InterfaceKind) (n : ℕ) : Type 0 where
  pub element : ModeElement
  pub first : n ≡ 0
  pub side_is : provides_at o side ≡ provides
  pub interface : k ≡ ModeSwitch element

pub machine_is : (o : Option ℕ) (side : PortKind) (k : InterfaceKind) (n : ℕ) → is_machine (kind_at o side k) ≡ true → n < count_at o side k → IsModes true o side k n
machine_is o side (SenderReceiver es) n h below = absurd (true≢false (sym h))
machine_is o side (ClientServer os) n h below = absurd (true≢false (sym h))
machine_is None Provided (ModeSwitch e) n h below = absurd (true≢false (sym h))
machine_is None Required (ModeSwitch e) n h below = record { element = e; first = omega arith; side_is = refl; interface = refl }
machine_is (Some i) Provided (ModeSwitch e) n h below = record { element = e; first = omega arith; side_is = refl; interface = refl }
machine_is (Some i) Required (ModeSwitch e) n h below = absurd (true≢false (sym h))

pub mode_port_is : (o : Option ℕ) (side : PortKind) (k : InterfaceKind) (n : ℕ) → is_mode_port (kind_at o side k) ≡ true → n < count_at o side k → IsModes false o side k n
mode_port_is o side (SenderReceiver es) n h below = absurd (true≢false (sym h))
mode_port_is o side (ClientServer os) n h below = absurd (true≢false (sym h))
mode_port_is None Provided (ModeSwitch e) n h below = record { element = e; first = omega arith; side_is = refl; interface = refl }
mode_port_is None Required (ModeSwitch e) n h below = absurd (true≢false (sym h))
mode_port_is (Some i) Provided (ModeSwitch e) n h below = absurd (true≢false (sym h))
mode_port_is (Some i) Required (ModeSwitch e) n h below = record { element = e; first = omega arith; side_is = refl; interface = refl }

pub element_is : (o : Option ℕ) (side : PortKind) (k : InterfaceKind) → is_element (kind_at o side k) ≡ true → (elements : List DataElement) × (k ≡ SenderReceiver elements)
element_is o side (SenderReceiver es) h = (es, refl)
element_is o side (ClientServer os) h = absurd (true≢false (sym h))
element_is None Provided (ModeSwitch e) h = absurd (true≢false (sym h))
element_is None Required (ModeSwitch e) h = absurd (true≢false (sym h))
element_is (Some i) Provided (ModeSwitch e) h = absurd (true≢false (sym h))
element_is (Some i) Required (ModeSwitch e) h = absurd (true≢false (sym h))

-- the items that are counted are items of the interface
pub item_below : (o : Option ℕ) (side : PortKind) (k : InterfaceKind) (n : ℕ) → n < count_at o side k → n < item_count k
item_below o side (SenderReceiver es) n below = below
item_below None Provided (ClientServer os) n below = absurd (omega arith)
item_below None Required (ClientServer os) n below = absurd (omega arith)
item_below (Some i) Provided (ClientServer os) n below = below
item_below (Some i) Required (ClientServer os) n below = absurd (omega arith)
item_below o side (ModeSwitch e) n below = below
