-- Where the slots of machines stand, and the one that wakes.
use Rattle.std.proofs.Common.{◌≡◌, ℕ, zero, suc, ◌+◌, ◌<◌, true, false, sym, ◌∙◌, ap, arith, List, [], ◌∷◌, ◌++◌, length, length-append, get_or, map, set, Some}
use Rattle.bus_semantics.specs.Common.{slice_get, option_map, length-map, same_Some, slice_get_within, slice_get-map, slice_get-get_or, Plan, positions, Noted, touched_by, first_machine}
use Rattle.bus_semantics.specs.declared.script.Mapping.{Mapping}
use Rattle.bus_semantics.specs.declared.script.Task.{Task}
use Rattle.port_objects.specs.declared.object.Object.{Object}
use Rattle.task_machine.specs.declared.instr.TaskSet.{TaskSet}
use Rattle.task_slots.specs.declared.slot.Slot.TheVariants as kind
use Rattle.task_slots.specs.Slots.{Table, of_task, of_machine, table_of}
use Rattle.core_turn.specs.Cores.{CoreState, tasks_of_core, task_tables, machine_tables}
use Rattle.core_turn.specs.Awake.{AwakeState}
use Rattle.core_runtime.specs.Common.{AreReady, owners_of, AreBehind, AreWatched, AreWoken, AreRoused}
use Rattle.core_runtime.proofs.NewNodes.{Last, earlier, last, last_or}
use Rattle.latches.proofs.Places.{Placed, here, there, placed}
use Rattle.object_kinds.proofs.Positions.{length_positions}
use Rattle.core_runtime.proofs.Watched.{mapped_found}

-- ---- new cores

at_position : (n i k : ℕ) → slice_get (positions n) i ≡ Some k → k ≡ i
at_position zero i k e = absurd (cc e)
at_position (suc n) i k e = of_place (λ found. at_position n i k found) (last_or (positions n) n i k e)
  where
    of_place : (slice_get (positions n) i ≡ Some k → k ≡ i) → Last ℕ (positions n) n i k → k ≡ i
    of_place before (earlier found) = before found
    of_place before (last at same) = same ∙ sym (at ∙ length_positions n)

-- an item of two lists is of one of them
data Part (X : Type 0) (xs ys : List X) (i : ℕ) (x : X) : Type 0 where
  first : slice_get xs i ≡ Some x → Part X xs ys i x
  second : (j : ℕ) → i ≡ length xs + j → slice_get ys j ≡ Some x → Part X xs ys i x

part : {X : Type 0} (xs ys : List X) (i : ℕ) (x : X) → slice_get (xs ++ ys) i ≡ Some x → Part X xs ys i x
part [] ys i x e = second i (omega arith) e
part (z ∷ xs) ys zero x e = first e
part (z ∷ xs) ys (suc i) x e = deeper (part xs ys i x e)
  where
    deeper : Part _ xs ys i x → Part _ (z ∷ xs) ys (suc i) x
    deeper (first found) = first found
    deeper (second j at found) = second j (omega (arith, at)) found

module _ (p : Plan) (m : Mapping) (t : TaskSet) (cores : List CoreState) (ready : AreReady p m t cores) (numbers : (i : ℕ) (c : CoreState) → slice_get cores i ≡ Some c → c.number ≡ i) where
  of_number : (n i j machine : ℕ) (tables : List Table) → n ≡ i → tables ≡ task_tables m n ++ machine_tables p n → Part Table (task_tables m n) (machine_tables p n) j (of_machine machine) → (i ≡ 0) × (j + length p.machines ≡ length tables + machine)
  of_number n i j machine tables is all (first e) =
      let from = mapped_found (λ (x : Task). of_task x.events) (tasks_of_core m n) j (of_machine machine) e in
      absurd (cc from.gives)
  of_number zero i j machine tables is all (second k at e) =
      let from = mapped_found of_machine (positions (length p.machines)) k (of_machine machine) e in
      let same : from.item ≡ machine = cc from.gives in
      let place : from.item ≡ k = at_position (length p.machines) k from.item from.is in
      let count : length tables ≡ length (task_tables m 0) + length p.machines =
      ap length all ∙ length-append (task_tables m 0) (machine_tables p 0) ∙ ap (λ v. length (task_tables m 0) + v) (length-map (positions (length p.machines)) of_machine ∙ length_positions (length p.machines)) in
      (sym is, omega (arith, at, count, same, place))
  of_number (suc n) i j machine tables is all (second k at e) = absurd (cc e)

  pub behind_new : AreBehind p (owners_of cores)
  behind_new = λ i j machine tables core_is place_is.
      let core = mapped_found (λ (c : CoreState). map table_of c.slots) cores i tables core_is in
      let c = core.item in
      let all : tables ≡ task_tables m c.number ++ machine_tables p c.number = sym core.gives ∙ (ready i c core.is).has in
      of_number c.number i j machine tables (numbers i c core.is) all (part (task_tables m c.number) (machine_tables p c.number) j (of_machine machine) (ap (λ ts. slice_get ts j) (sym all) ∙ place_is))

-- ---- the machine that an entry touches wakes

-- the slot of the machine that is this object is awake
abbrev pub Rouses : Plan → (object : ℕ) → (a b : AwakeState) → Type 0
Rouses p object a b = (machine at : ℕ) → object ≡ first_machine p + machine → at + length p.machines ≡ length a.slots + machine → at < length a.slots → get_or b.slots at false ≡ true

module _ (p : Plan) (e : Noted) (ts : TaskSet) (objects : List Object) (cores : List CoreState) (old : List AwakeState) where
  pub roused_here : (object : ℕ) (a b : AwakeState) → Some object ≡ touched_by p e → slice_get old 0 ≡ Some a → Rouses p object a b → AreBehind p (owners_of cores) → AreWatched p ts objects cores old → AreRoused p e cores (set old 0 b)
  roused_here object a b is found rouses behind watched = λ i j machine c x core_is awake_is slot_is touching.
      let core_at : slice_get (owners_of cores) i ≡ Some (map table_of c.slots) = slice_get-map (λ (k : CoreState). map table_of k.slots) cores i ∙ ap (option_map (λ (k : CoreState). map table_of k.slots)) core_is in
      let slot_at : slice_get (map table_of c.slots) j ≡ Some (of_machine machine) = slice_get-map table_of c.slots j ∙ ap (option_map table_of) slot_is in
      let place = behind i j machine (map table_of c.slots) core_at slot_at in
      let first_core : i ≡ 0 = place.0 in
      let object_is : object ≡ first_machine p + machine = same_Some _ _ (is ∙ touching) in
      let fits = (watched.each 0 c a (ap (slice_get cores) (sym first_core) ∙ core_is) found).fits in
      let within : j < length c.slots = slice_get_within c.slots j (kind.Machine machine) slot_is in
      let count : length (map table_of c.slots) ≡ length a.slots = length-map c.slots table_of ∙ sym fits.count in
      of_place j machine i x object_is first_core (omega (arith, place.1, count)) (omega (arith, within, fits.count)) (placed old 0 b i x awake_is)
    where
      of_place : (j machine i : ℕ) (x : AwakeState) → object ≡ first_machine p + machine → i ≡ 0 → j + length p.machines ≡ length a.slots + machine → j < length a.slots → Placed AwakeState old 0 b i x → get_or x.slots j false ≡ true
      of_place j machine i x object_is first_core place within (here at same) = ap (λ (y : AwakeState). get_or y.slots j false) same ∙ rouses machine j object_is place within
      of_place j machine i x object_is first_core place within (there other found) = absurd (other first_core)

-- what was watched is so while slots wake
pub watched_still : (p : Plan) (t : TaskSet) (objects : List Object) (cores : List CoreState) (old new : List AwakeState) → AreWoken old new → AreWatched p t objects cores old → AreWatched p t objects cores new
watched_still p t objects cores old new woken watched = record {
  count = woken.count ∙ watched.count;
  each = λ i c b core_is awake_is.
      let inside : i < length new = slice_get_within new i b awake_is in
      let within : i < length old = omega (arith, woken.count) in
      let a = get_or old i b in
      let was : slice_get old i ≡ Some a = slice_get-get_or old i b within in
      let one = woken.each i a b was awake_is in
      let had = watched.each i c a core_is was in
      record { fits = one.fits c.slots c.first had.fits; starts = one.starts p t objects c.slots had.starts };
}

pub roused_still : (p : Plan) (e : Noted) (cores : List CoreState) (old new : List AwakeState) → AreWoken old new → AreRoused p e cores old → AreRoused p e cores new
roused_still p e cores old new woken roused = λ i j machine c b core_is awake_is slot_is touching.
    let inside : i < length new = slice_get_within new i b awake_is in
    let within : i < length old = omega (arith, woken.count) in
    let a = get_or old i b in
    let was : slice_get old i ≡ Some a = slice_get-get_or old i b within in
    (woken.each i a b was awake_is).slots j (roused i j machine c a core_is was slot_is touching)
