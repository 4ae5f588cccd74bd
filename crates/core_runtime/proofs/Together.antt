-- A node after a round of several cores.
use Rattle.std.proofs.Common.{◌≡◌, ◌<◌, ◌≤◌, ◌+◌, ◌*◌, ℕ, zero, suc, refl, sym, ◌∙◌, ap, subst, arith, List, [], ◌∷◌, length, map, set, Option, Some, None}
use Rattle.std.specs.Prelude.{nat_le, OnErr, OnOk, Ok, Err, Result}
use Rattle.bus_semantics.specs.Common.{slice_get, vec_capacity, and_parts, leb-true, length-set, slice_get_within, same_Some, Plan, is_in}
use Rattle.bus_semantics.specs.declared.entries.Stamped.{Stamped}
use Rattle.bus_semantics.specs.declared.script.Mapping.{Mapping}
use Rattle.port_objects.specs.declared.object.Object.{Object}
use Rattle.task_machine.specs.declared.instr.TaskSet.{TaskSet}
use Rattle.task_slots.specs.declared.slot.Slot.{Slot}
use Rattle.task_slots.specs.Slots.{table_of, listed_in, events_of_slot}
use Rattle.core_turn.specs.Cores.{CoreState, tables_of_core}
use Rattle.core_turn.specs.Awake.{AwakeState, Fits, AreHeld}
use Rattle.core_turn.specs.Lawful.{IsLawful}
use Rattle.latches.proofs.Places.{Placed, here, there, placed}
use Rattle.core_lanes.specs.Guiding.{AreFitting}
use Rattle.core_lanes.specs.Together.{HasRun}
use Rattle.core_runtime.specs.Common.{after, IsNode, GoesOn, Live, AllWatched, HaveSameTasks, AreSeated, AreBehind, AreStarters, AreWatched, IsWatch, tables_of}
use Rattle.core_runtime.specs.Lives.{HaveTurned, IsSameLive}
use Rattle.core_runtime.proofs.Ending.{gone_node}
use Rattle.history_laws.proofs.Lists.{there_is}
use Rattle.core_runtime.specs.declared.watch.Watch.{Watch}
use Rattle.core_runtime.specs.Watching.{AreShaped}

-- ---- the tasks of cores

mapped_alike : {X B : Type 0} (f : X → B) (xs ys : List X) → length ys ≡ length xs → ((i : ℕ) (x y : X) → slice_get xs i ≡ Some x → slice_get ys i ≡ Some y → f y ≡ f x) → map f ys ≡ map f xs
mapped_alike f [] [] same each = refl
mapped_alike f [] (y ∷ ys) same each = absurd (omega (arith, same))
mapped_alike f (x ∷ xs) [] same each = absurd (omega (arith, same))
mapped_alike f (x ∷ xs) (y ∷ ys) same each = λ i. each 0 x y refl refl i ∷ mapped_alike f xs ys (omega (arith, same)) (λ j a b at is. each (suc j) a b at is) i

-- cores that are lawful for histories of one mapping have the same tasks
pub same_tasks : (p : Plan) (m : Mapping) (t : TaskSet) (cores now : List CoreState) (objects later : List Object) (h g : _) → length now ≡ length cores → IsLawful p m t cores objects h → IsLawful p m t now later g → HaveSameTasks cores now
same_tasks p m t cores now objects later h g count one other = mapped_alike (λ (c : CoreState). map table_of c.slots) cores now count (λ i c d at is.
    (other.ready i d is).has ∙ ap (tables_of_core p m) (other.number i d is ∙ sym (one.number i c at)) ∙ sym (one.ready i c at).has)

listed : (slots : List Slot) → map events_of_slot slots ≡ map listed_in (map table_of slots)
listed [] = refl
listed (s ∷ slots) = ap (λ xs. events_of_slot s ∷ xs) (listed slots)

tables_by : (cores : List CoreState) → tables_of cores ≡ map (map listed_in) (map (λ (c : CoreState). map table_of c.slots) cores)
tables_by [] = refl
tables_by (c ∷ cores) = λ i. listed c.slots i ∷ tables_by cores i

pub same_tables : (cores now : List CoreState) → HaveSameTasks cores now → tables_of cores ≡ tables_of now
same_tables cores now same = tables_by cores ∙ ap (map (map listed_in)) (sym same) ∙ sym (tables_by now)

pub core_tasks : (cores now : List CoreState) (i : ℕ) (c d : CoreState) → HaveSameTasks cores now → slice_get cores i ≡ Some c → slice_get now i ≡ Some d → map table_of d.slots ≡ map table_of c.slots
core_tasks [] now i c d same at is = absurd (cc at)
core_tasks (x ∷ cores) [] i c d same at is = absurd (cc is)
core_tasks (x ∷ cores) (y ∷ now) zero c d same at is =
    let one : x ≡ c = cc in
    let two : y ≡ d = cc in
    let first : map table_of y.slots ≡ map table_of x.slots = cc in
    ap (λ (k : CoreState). map table_of k.slots) (sym two) ∙ first ∙ ap (λ (k : CoreState). map table_of k.slots) one
core_tasks (x ∷ cores) (y ∷ now) (suc i) c d same at is =
    let rest : map (λ (k : CoreState). map table_of k.slots) now ≡ map (λ (k : CoreState). map table_of k.slots) cores = cc in
    core_tasks cores now i c d rest at is

pub task_count : (cores now : List CoreState) → HaveSameTasks cores now → length now ≡ length cores
task_count cores now same = sym (counted now) ∙ ap length same ∙ counted cores
  where
    counted : (xs : List CoreState) → length (map (λ (c : CoreState). map table_of c.slots) xs) ≡ length xs
    counted [] = refl
    counted (x ∷ xs) = ap suc (counted xs)

-- ---- what is awake

pub shaped : (p : Plan) (t : TaskSet) (objects : List Object) (cores : List CoreState) (awake : List AwakeState) → AreWatched p t objects cores awake → AreShaped cores awake
shaped p t objects cores awake watched = record { count = watched.count; each = λ i c a at is. (watched.each i c a at is).fits }

-- so each of them fits, in their order
pub fitting : (cores : List CoreState) (awake : List AwakeState) → AreShaped cores awake → AreFitting cores awake
fitting [] [] shape = tt
fitting [] (a ∷ awake) shape = let count = shape.count in absurd (omega (arith, count))
fitting (c ∷ cores) [] shape = let count = shape.count in absurd (omega (arith, count))
fitting (c ∷ cores) (a ∷ awake) shape =
    let count = shape.count in
    (shape.each 0 c a refl refl, fitting cores awake (record { count = omega (arith, count); each = λ i d b at is. shape.each (suc i) d b at is }))

pub shaped_by : (cores : List CoreState) (awake : List AwakeState) → AreFitting cores awake → AreShaped cores awake
shaped_by cores awake fit = record { count = counted cores awake fit; each = λ i c a at is. found cores awake fit i c a at is }
  where
    counted : (cores : List CoreState) (awake : List AwakeState) → AreFitting cores awake → length awake ≡ length cores
    counted [] [] fit = refl
    counted [] (a ∷ awake) fit = absurd fit
    counted (c ∷ cores) [] fit = absurd fit
    counted (c ∷ cores) (a ∷ awake) fit = ap suc (counted cores awake fit.1)

    found : (cores : List CoreState) (awake : List AwakeState) → AreFitting cores awake → (i : ℕ) (c : CoreState) (a : AwakeState) → slice_get cores i ≡ Some c → slice_get awake i ≡ Some a → Fits c.slots c.first a
    found [] awake fit i c a at is = absurd (cc at)
    found (x ∷ cores) [] fit i c a at is = absurd fit
    found (x ∷ cores) (y ∷ awake) fit zero c a at is =
        let core : x ≡ c = cc in
        let flags : y ≡ a = cc in
        subst (λ (k : CoreState). Fits k.slots k.first a) core (subst (λ (b : AwakeState). Fits x.slots x.first b) flags fit.0)
    found (x ∷ cores) (y ∷ awake) fit (suc i) c a at is = found cores awake fit.1 i c a at is

-- all of a core
pub record IsRoused (c : CoreState) (a : AwakeState) : Type 0 where
  pub fits : Fits c.slots c.first a
  pub held : (p : Plan) (t : TaskSet) (objects : List Object) (touched : Option ℕ) (first : ℕ) → AreHeld p t objects touched c.slots first a

pub all_watched : (cores : List CoreState) (awake : List AwakeState) → length awake ≡ length cores → ((i : ℕ) (c : CoreState) (a : AwakeState) → slice_get cores i ≡ Some c → slice_get awake i ≡ Some a → IsRoused c a) → AllWatched cores awake
all_watched cores awake count each = λ p t objects. (
  record { count = count; each = λ i c a at is. record { fits = (each i c a at is).fits; starts = ((each i c a at is).held p t objects None c.first).starts } },
  λ i c a at is. ((each i c a at is).held p t objects None a.first).waiters,
)

-- where all of the cores is awake, they are watched over whatever objects there are
pub watch_after : (p : Plan) (t : TaskSet) (objects later : List Object) (cores now : List CoreState) (old new : Watch) → IsWatch p t objects None cores old → HaveSameTasks cores now → AllWatched now new.awake.items
    → new.seats ≡ old.seats → new.starters ≡ old.starters → IsWatch p t later None now new
watch_after p t objects later cores now old new watch same all seats starters = record {
  awake = (all p t later).0;
  waiting = (all p t later).1;
  seated = subst (λ (v : _). AreSeated (tables_of now) v.items) (sym seats) (subst (λ table. AreSeated table old.seats.items) (same_tables cores now same) watch.seated);
  behind = subst (AreBehind p) (sym same) watch.behind;
  starters = subst (λ (v : _). AreStarters p v.items) (sym starters) watch.starters;
}

-- the cores before a number are all awake, and the others as they were
pub record Roused (cores : List CoreState) (n : ℕ) (before awake : List AwakeState) : Type 0 where
  pub count : length awake ≡ length before
  pub rest : (i : ℕ) (a : AwakeState) → n ≤ i → slice_get awake i ≡ Some a → slice_get before i ≡ Some a
  pub done : (i : ℕ) (c : CoreState) (a : AwakeState) → i < n → slice_get cores i ≡ Some c → slice_get awake i ≡ Some a → IsRoused c a

pub roused_next : (cores : List CoreState) (n : ℕ) (before awake : List AwakeState) (c : CoreState) (b : AwakeState) → slice_get cores n ≡ Some c → IsRoused c b → Roused cores n before awake → Roused cores (n + 1) before (set awake n b)
roused_next cores n before awake c b at roused so_far = record {
  count = length-set awake n b ∙ so_far.count;
  rest = λ i a behind found. rest_of i a behind (placed awake n b i a found);
  done = λ i d a less is found. done_of i d a less is (placed awake n b i a found);
}
  where
    rest_of : (i : ℕ) (a : AwakeState) → n + 1 ≤ i → Placed AwakeState awake n b i a → slice_get before i ≡ Some a
    rest_of i a behind (here place same) = absurd (omega arith)
    rest_of i a behind (there other found) = so_far.rest i a (omega arith) found

    done_of : (i : ℕ) (d : CoreState) (a : AwakeState) → i < n + 1 → slice_get cores i ≡ Some d → Placed AwakeState awake n b i a → IsRoused d a
    done_of i d a less is (here place same) =
        let core : c ≡ d = same_Some _ _ (sym at ∙ ap (slice_get cores) (sym place) ∙ is) in
        subst (λ x. IsRoused d x) (sym same) (subst (λ x. IsRoused x b) core roused)
    done_of i d a less is (there other found) = so_far.done i d a (omega arith) is found

pub roused_all : (cores : List CoreState) (n : ℕ) (before awake : List AwakeState) → length before ≡ length cores → length awake ≤ n → Roused cores n before awake → AllWatched cores awake
roused_all cores n before awake same all roused = all_watched cores awake (roused.count ∙ same) (λ i c a is found.
    let less : i < length awake = slice_get_within awake i a found in
    roused.done i c a (omega arith) is found)

-- the core of a number was made for the tasks that it has now
pub shaped_at : (old cores : List CoreState) (before awake : List AwakeState) (n : ℕ) (c : CoreState) (a : AwakeState) → AreShaped old before → HaveSameTasks old cores → Roused cores n before awake → slice_get cores n ≡ Some c → slice_get awake n ≡ Some a
    → (slots : List Slot) × (first : ℕ) × Fits slots first a × (map table_of c.slots ≡ map table_of slots)
shaped_at old cores before awake n c a shaped same so_far at found =
    let less : n < length cores = slice_get_within cores n c at in
    let d = there_is old n (omega (arith, less, task_count old cores same)) in
    (d.0.slots, d.0.first, shaped.each n d.0 a d.1 (so_far.rest n a (omega arith) found), core_tasks old cores n d.0 c same d.1 at)

-- ---- the node

-- cores that went on have the same tasks
pub gone_tasks : (p : Plan) (m : Mapping) (t : TaskSet) (cores now : List CoreState) (objects later : List Object) (entries : List Stamped) → IsNode p m t cores objects → length now ≡ length cores → GoesOn p m t cores now objects later entries → HaveSameTasks cores now
gone_tasks p m t cores now objects later entries node count goes = same_tasks p m t cores now objects later node.history (after entries node.history) count node.lawful (goes node.history node.lawful)

-- ---- what turns of several cores make of a node

-- a mapping has 1 to 8 cores
pub node_count : {p : Plan} {m : Mapping} {t : TaskSet} {cores : List CoreState} {objects : List Object} → IsNode p m t cores objects → (1 ≤ length cores) × (length cores ≤ 8)
node_count {m = m} node =
    let both = and_parts (nat_le 1 m.cores) (nat_le m.cores 8) (and_parts (is_in 1 8 m.cores) _ node.sound.tasks).0 in
    let least = leb-true 1 m.cores both.0 in
    let most = leb-true m.cores 8 both.1 in
    (omega (arith, least, node.cores_are), omega (arith, most, node.cores_are))

module _ {p : Plan} {m : Mapping} {t : TaskSet} {cores now : List CoreState} {objects later : List Object} {entries : List Stamped}
    (node : IsNode p m t cores objects) (ran : HasRun p t cores now objects later entries) where
  pub ran_goes : GoesOn p m t cores now objects later entries
  ran_goes h = ran.goes m h node.sound

  pub ran_node : IsNode p m t now later
  ran_node = gone_node p m t cores now objects later entries node ran.count ran.room ran.planned ran_goes

  pub ran_tasks : HaveSameTasks cores now
  ran_tasks = gone_tasks p m t cores now objects later entries node ran.count ran_goes

  pub ran_few : length entries ≤ 1024 * m.cores
  ran_few = omega (arith, ran.few, node.cores_are)

-- ---- by what the turns answered

pub on_ok : {X E A C : Type 0} (r : Result X E) → OnOk r A → (A → C) → OnOk r C
on_ok (Ok x) ok f = f ok
on_ok (Err e) ok f = ok

pub on_err : {X E A C : Type 0} (r : Result X E) → OnErr r A → (A → C) → OnErr r C
on_err (Ok x) err f = err
on_err (Err e) err f = f err

by_answer : {X E A B C : Type 0} (r : Result X E) → OnOk r A → OnErr r B → (A → C) → (B → C) → C
by_answer (Ok x) ok err f g = f ok
by_answer (Err e) ok err f g = g err

module _ {X E : Type 0} {p : Plan} {m : Mapping} {t : TaskSet} {live taken : Live} (new : Live) (node : IsNode p m t live.cores.items live.objects.items) (watch : IsWatch p t live.objects.items None live.cores.items live.watch)
    (same : taken ≡ live) (r : Result X E) (ran : OnOk r (HaveTurned p t taken new)) (kept : OnErr r (IsSameLive taken new)) where
  pub turned_on : OnOk r (HaveTurned p t live new)
  turned_on = subst (λ (l : Live). OnOk r (HaveTurned p t l new)) same ran

  pub same_on : OnErr r (IsSameLive live new)
  same_on = subst (λ (l : Live). OnErr r (IsSameLive l new)) same kept

  pub node_now : IsNode p m t new.cores.items new.objects.items × IsWatch p t new.objects.items None new.cores.items new.watch
  node_now = by_answer r turned_on same_on
      (λ turned. (ran_node node turned.run, turned.watched))
      (λ still. (
        subst (λ cs. IsNode p m t cs new.objects.items) (sym still.cores) (subst (λ os. IsNode p m t live.cores.items os) (sym still.objects) node),
        subst (λ cs. IsWatch p t new.objects.items None cs new.watch) (sym still.cores)
            (subst (λ os. IsWatch p t os None live.cores.items new.watch) (sym still.objects) (subst (λ w. IsWatch p t live.objects.items None live.cores.items w) (sym still.watch) watch)),
      ))

  pub room_on : vec_capacity new.entries ≡ vec_capacity live.entries
  room_on = by_answer r turned_on same_on (λ turned. turned.room) (λ still. ap vec_capacity still.entries)
