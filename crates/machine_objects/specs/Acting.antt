-- What the calls of a machine answer, each for its own wish: the entry by which what was kept leads on, or that no entry of the wish leads
-- anywhere.
use Rattle.std.specs.Prelude.{◌≡◌, ℕ, [], Bool, true, false, ◌&&◌, Option, Some, None, is_none, unwrap_or}
use Rattle.bus_semantics.specs.Common.{Contains, words_of, same_words, Noted, Wanted, wanted_by, event_of, noted_for}
use Rattle.bus_semantics.specs.declared.entries.Actor.{Actor}
use Rattle.bus_semantics.specs.declared.entries.Deed.{Deed}
use Rattle.bus_semantics.specs.declared.entries.Deed.TheVariants as deed
use Rattle.bus_semantics.specs.declared.entries.Entry.{Entry}
use Rattle.mode_machine.specs.declared.disabling.Admitted.{Admitted}
use Rattle.mode_machine.specs.declared.disabling.Admitted.TheVariants.{Yes, No, Runs}
use Rattle.mode_machine.specs.Kept as machines
use Rattle.object_kinds.specs.declared.acted.Acted.{Acted}
use Rattle.object_kinds.specs.declared.acted.Acted.TheVariants.{Done, NotYet}
use Rattle.object_kinds.specs.declared.acted.Shown.{Shown}
use Rattle.object_kinds.specs.declared.acted.Shown.TheVariants.{Unmatched}
use Rattle.machine_objects.specs.Kept.{MachineState, may_start}
use Rattle.machine_objects.specs.Leading.{lead, why_held, wakes, with_machine}

-- a start names no point and gives no words
abbrev pub is_bare : Deed → Bool
is_bare (deed.Start event point value) = is_none point && same_words (words_of value) []
is_bare _ = true

-- each event that a deed made pending is told, and after a phase or an end no other; every other deed leaves what was told
pub record Tells (old new : MachineState) (d : Deed) : Type 0 where
  pub came : (event : ℕ) → may_start old.kept event ≡ false → may_start new.kept event ≡ true → Contains new.woken event
  pub only : wakes d ≡ true → (event : ℕ) → Contains new.woken event → (may_start old.kept event ≡ false) × (may_start new.kept event ≡ true)
  pub left : wakes d ≡ false → new.woken ≡ old.woken

pub record Leads (a : Actor) (w : Wanted) (old new : MachineState) (e : Entry) : Type 0 where
  pub actor : e.actor ≡ a
  pub wish : wanted_by (unwrap_or (event_of w) 0) e.deed ≡ w
  pub bare : is_bare e.deed ≡ true
  pub leads : lead old.kept (noted_for w e) ≡ Some new.kept
  pub told : Tells old new e.deed

pub record Holds (w : Wanted) (old new : MachineState) (shown : Shown) : Type 0 where
  pub why : shown ≡ why_held old.kept w
  pub same : new ≡ old
  pub none : (n : Noted) → wanted_by (unwrap_or n.event 0) n.entry.deed ≡ w → lead old.kept n ≡ None

abbrev pub IsActed : Actor → Wanted → (old new : MachineState) → Acted → Type 0
IsActed a w old new (Done e) = Leads a w old new e
IsActed a w old new (NotYet shown) = Holds w old new shown

-- a start that may come leads on; another one changes nothing
abbrev pub IsTaken : (started : Bool) → (old new : MachineState) → (led : Option machines.Kept) → Type 0
IsTaken true old new led = (led ≡ Some new.kept.machine) × (new.kept ≡ with_machine old.kept new.kept.machine) × (new.woken ≡ old.woken)
IsTaken false old new led = (led ≡ None) × (new ≡ old)

-- an end that matches leads on, and the event that it made pending is told; another one changes nothing
abbrev pub IsEnded : (ended : Bool) → (old new : MachineState) → (led : Option machines.Kept) → Type 0
IsEnded true old new led = (led ≡ Some new.kept.machine) × (new.kept ≡ with_machine old.kept new.kept.machine) × Tells old new deed.End
IsEnded false old new led = (led ≡ None) × (new ≡ old)

-- the entry of an admission
abbrev pub admission_by : Actor → Admitted → Acted
admission_by a Yes = Done (record { actor = a; deed = deed.Admit true })
admission_by a No = Done (record { actor = a; deed = deed.Admit false })
admission_by a Runs = NotYet Unmatched
