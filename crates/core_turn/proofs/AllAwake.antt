-- All of a core wakes, slot by slot.
use Rattle.std.proofs.Common.{◌≡◌, ◌<◌, ◌≤◌, ◌+◌, ℕ, zero, suc, Bool, true, false, refl, sym, ◌∙◌, ap, subst, arith, List, [], ◌∷◌, length, map, set, Option, Some}
use Rattle.bus_semantics.specs.Common.{slice_get, slice_index_or, false≢true, length-set, length-map, slice_get_within, Plan}
use Rattle.port_objects.specs.declared.object.Object.{Object}
use Rattle.task_machine.specs.declared.instr.TaskSet.{TaskSet}
use Rattle.task_slots.specs.declared.slot.Slot.{Slot}
use Rattle.task_slots.specs.Slots.{Table, table_of, listed_in, events_of_slot}
use Rattle.latches.proofs.Places.{Placed, here, there, placed}
use Rattle.core_turn.specs.Awake.{AwakeState, AllAre, Fits, AreHeld, WakesSlot}

-- a flag was set
pub set_all : (flags : List Bool) (n : ℕ) (b : Bool) → ((i : ℕ) (x : Bool) → i < n → slice_get flags i ≡ Some x → x ≡ b) → (i : ℕ) (x : Bool) → i < n + 1 → slice_get (set flags n b) i ≡ Some x → x ≡ b
set_all flags n b before i x less found = of_place (placed flags n b i x found)
  where
    of_place : Placed Bool flags n b i x → x ≡ b
    of_place (here at same) = same
    of_place (there other at) = before i x (omega arith) at

-- what is awake of a core before a slot
pub record AwakeBelow (slots : List Slot) (n : ℕ) (a : AwakeState) : Type 0 where
  pub count : length a.slots ≡ length slots
  pub rows : length a.events ≡ length slots
  pub waiting : length a.waiting ≡ length slots
  pub areas : length a.areas ≡ length slots
  pub widths : (i : ℕ) (s : Slot) (row : List Bool) → slice_get slots i ≡ Some s → slice_get a.events i ≡ Some row → length row ≡ length (events_of_slot s)
  pub all : (i : ℕ) (x : Bool) → i < n → slice_get a.slots i ≡ Some x → x ≡ true
  pub none : (i : ℕ) (x : Bool) → i < n → slice_get a.waiting i ≡ Some x → x ≡ false
  pub events : (i : ℕ) (row : List Bool) → i < n → slice_get a.events i ≡ Some row → AllAre true row

table_at : (slots : List Slot) (i : ℕ) (s : Slot) → slice_get slots i ≡ Some s → slice_get (map table_of slots) i ≡ Some (table_of s)
table_at [] i s found = absurd (cc found)
table_at (x ∷ slots) zero s found = let same : x ≡ s = cc in ap (λ y. Some (table_of y)) same
table_at (x ∷ slots) (suc i) s found = table_at slots i s found

slot_of : (slots : List Slot) (i : ℕ) (x : Table) → slice_get (map table_of slots) i ≡ Some x → (s : Slot) × (slice_get slots i ≡ Some s) × (table_of s ≡ x)
slot_of [] i x found = absurd (cc found)
slot_of (s ∷ slots) zero x found = (s, refl, cc found)
slot_of (s ∷ slots) (suc i) x found = slot_of slots i x found

-- made for a core with the same tasks
pub begun : (slots old : List Slot) (first : ℕ) (a : AwakeState) → Fits old first a → map table_of slots ≡ map table_of old → AwakeBelow slots 0 a
begun slots old first a fits same =
    let count : length old ≡ length slots = sym (length-map old table_of) ∙ ap length (sym same) ∙ length-map slots table_of in
    record {
      count = fits.count ∙ count;
      rows = fits.rows ∙ count;
      waiting = fits.waiting ∙ count;
      areas = fits.areas ∙ count;
      widths = λ i s row found at.
          let was = slot_of old i (table_of s) (ap (λ ts. slice_get ts i) (sym same) ∙ table_at slots i s found) in
          fits.widths i was.0 row was.1 at ∙ ap (λ (x : Table). length (listed_in x)) was.2;
      all = λ i x less found. absurd (omega arith);
      none = λ i x less found. absurd (omega arith);
      events = λ i row less found. absurd (omega arith);
    }

index_at : (rows : List (List Bool)) (i : ℕ) (row : List Bool) → slice_get rows i ≡ Some row → slice_index_or rows i [] ≡ row
index_at [] i row found = absurd (cc found)
index_at (x ∷ rows) zero row found = cc found
index_at (x ∷ rows) (suc i) row found = index_at rows i row found

row_at : (rows : List (List Bool)) (i : ℕ) → i < length rows → (row : List Bool) × (slice_get rows i ≡ Some row)
row_at [] i less = absurd (omega arith)
row_at (x ∷ rows) zero less = (x, refl)
row_at (x ∷ rows) (suc i) less = row_at rows i (omega arith)

-- how many events the slot has
pub width_at : (slots : List Slot) (n : ℕ) (a : AwakeState) (s : Slot) → AwakeBelow slots n a → slice_get slots n ≡ Some s → length (slice_index_or a.events n []) ≡ length (events_of_slot s)
width_at slots n a s below found =
    let less : n < length slots = slice_get_within slots n s found in
    let row = row_at a.events n (omega (arith, less, below.rows)) in
    ap length (index_at a.events n row.0 row.1) ∙ below.widths n s row.0 found row.1

pub roused : (slots : List Slot) (n : ℕ) (a b : AwakeState) (s : Slot) → AwakeBelow slots n a → slice_get slots n ≡ Some s → WakesSlot n a b → AwakeBelow slots (n + 1) b
roused slots n a b s below found wakes = record {
  count = ap length wakes.slots ∙ length-set a.slots n true ∙ below.count;
  rows = ap length wakes.events ∙ length-set a.events n wakes.row ∙ below.rows;
  waiting = ap length wakes.waiting ∙ length-set a.waiting n false ∙ below.waiting;
  areas = ap length wakes.areas ∙ below.areas;
  widths = λ i x row at is. width_of i x row at (placed a.events n wakes.row i row (sym (ap (λ rs. slice_get rs i) wakes.events) ∙ is));
  all = λ i x less is. set_all a.slots n true below.all i x less (sym (ap (λ fs. slice_get fs i) wakes.slots) ∙ is);
  none = λ i x less is. set_all a.waiting n false below.none i x less (sym (ap (λ fs. slice_get fs i) wakes.waiting) ∙ is);
  events = λ i row less is. row_of i row less (placed a.events n wakes.row i row (sym (ap (λ rs. slice_get rs i) wakes.events) ∙ is));
}
  where
    width_of : (i : ℕ) (x : Slot) (row : List Bool) → slice_get slots i ≡ Some x → Placed (List Bool) a.events n wakes.row i row → length row ≡ length (events_of_slot x)
    width_of i x row at (here place same) =
        let is : slice_get slots n ≡ Some x = ap (slice_get slots) (sym place) ∙ at in
        ap length same ∙ wakes.width ∙ width_at slots n a x below is
    width_of i x row at (there other is) = below.widths i x row at is

    row_of : (i : ℕ) (row : List Bool) → i < n + 1 → Placed (List Bool) a.events n wakes.row i row → AllAre true row
    row_of i row less (here place same) = subst (AllAre true) (sym same) wakes.all
    row_of i row less (there other is) = below.events i row (omega arith) is

pub all_awake_held : (p : Plan) (t : TaskSet) (objects : List Object) (touched : Option ℕ) (slots : List Slot) (first n begins : ℕ) (a b : AwakeState) → length slots ≤ n → AwakeBelow slots n a
    → b ≡ record { slots = a.slots; events = a.events; waiting = a.waiting; areas = a.areas; first = begins } → AreHeld p t objects touched slots first b
all_awake_held p t objects touched slots first n begins a b all below is = subst (AreHeld p t objects touched slots first) (sym is) (record {
  starts = record {
    events = λ i j e s row found at event sleeps.
        let less : i < length slots = slice_get_within slots i s found in
        absurd (false≢true (below.events i row (omega arith) at j false sleeps));
    slots = λ i s found sleeps dry.
        let less : i < length slots = slice_get_within slots i s found in
        absurd (false≢true (below.all i false (omega arith) sleeps));
  };
  waiters = λ i waits.
      let less : i < length slots = subst (λ n. i < n) below.waiting (slice_get_within a.waiting i true waits) in
      absurd (false≢true (sym (below.none i true (omega arith) waits)));
})

-- the next turn begins elsewhere, on a core with the same tasks
pub followed : (slots old : List Slot) (first begins next : ℕ) (a : AwakeState) → Fits old first a → map table_of slots ≡ map table_of old → next ≡ begins
    → Fits slots begins (record { slots = a.slots; events = a.events; waiting = a.waiting; areas = a.areas; first = next })
followed slots old first begins next a fits same is =
    let below = begun slots old first a fits same in
    record { count = below.count; rows = below.rows; widths = below.widths; waiting = below.waiting; areas = below.areas; begins = is }
