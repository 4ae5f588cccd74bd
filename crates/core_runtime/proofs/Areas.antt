-- Who waits at areas, after an entry.
use Rattle.std.proofs.Common.{◌≡◌, ◌<◌, ◌≤◌, ◌+◌, ℕ, false, inl, inr, arith, sym, ◌∙◌, ap, subst, List, [], length, get_or, set, Option, Some, None}
use Rattle.bus_semantics.specs.Common.{slice_get, length-set, same_Some, slice_get_within, slice_get-get_or, Plan, Noted, touched_by}
use Rattle.port_objects.specs.declared.object.Object.{Object}
use Rattle.port_objects.specs.Common.{lead, kept_of, is_leave}
use Rattle.task_machine.specs.declared.instr.TaskSet.{TaskSet}
use Rattle.task_slots.specs.declared.slot.Slot.{Slot}
use Rattle.core_turn.specs.Cores.{CoreState}
use Rattle.core_turn.specs.Awake.{AwakeState, WaitersHeld}
use Rattle.core_runtime.specs.Watching.{AreWatched, AreWaiting, AreWoken, AreEven, IsWokenAt, AreWokenAt, IsAfter}
use Rattle.latches.proofs.Places.{Placed, here, there, placed}

-- what the laws of turns say
abbrev pub SleepOnLaw : Type 0
SleepOnLaw = (p : Plan) (t : TaskSet) (objects : List Object) (object : ℕ) (before after : Object) (n : Noted) (of : List Slot) (first : ℕ) (a : AwakeState)
    → slice_get objects object ≡ Some before → lead p object (kept_of before) n ≡ Some (kept_of after) → is_leave n.entry.deed ≡ false → WaitersHeld p t objects (Some object) of first a → WaitersHeld p t (set objects object after) None of first a

abbrev pub StillLaw : Type 0
StillLaw = (p : Plan) (t : TaskSet) (objects : List Object) (touched : Option ℕ) (of : List Slot) (first : ℕ) (a : AwakeState) → WaitersHeld p t objects None of first a → WaitersHeld p t objects touched of first a

-- where nothing was touched, it is so whatever is touched next
pub still_waiting : StillLaw → (p : Plan) (t : TaskSet) (objects : List Object) (touched : Option ℕ) (cores : List CoreState) (awake : List AwakeState) → AreWaiting p t objects None cores awake → AreWaiting p t objects touched cores awake
still_waiting law p t objects touched cores awake waiting = λ i c a core_is awake_is. law p t objects touched c.slots a.first a (waiting i c a core_is awake_is)

-- starts woke
pub woken_waiting : (p : Plan) (t : TaskSet) (objects : List Object) (touched : Option ℕ) (cores : List CoreState) (old new : List AwakeState) → AreWoken old new → AreWaiting p t objects touched cores old → AreWaiting p t objects touched cores new
woken_waiting p t objects touched cores old new woken waiting = λ i c b core_is awake_is.
    let inside : i < length new = slice_get_within new i b awake_is in
    let within : i < length old = omega (arith, woken.count) in
    let a = get_or old i b in
    let was : slice_get old i ≡ Some a = slice_get-get_or old i b within in
    (woken.each i a b was awake_is).waiters p t objects touched c.slots (waiting i c a core_is was)

pub watched_even : (p : Plan) (t : TaskSet) (objects : List Object) (cores : List CoreState) (awake : List AwakeState) → AreWatched p t objects cores awake → AreEven awake
watched_even p t objects cores awake watched = λ i a awake_is.
    let within : i < length awake = slice_get_within awake i a awake_is in
    let fresh : CoreState = record { number = 0; slots = []; first = 0; trace = []; room = 0 } in
    let there : i < length cores = omega (arith, watched.count) in
    let fits = (watched.each i (get_or cores i fresh) a (slice_get-get_or cores i fresh there) awake_is).fits in
    record { waiting = fits.waiting ∙ sym fits.count; areas = fits.areas ∙ sym fits.count }

pub woken_even : (p : Plan) (t : TaskSet) (objects : List Object) (cores : List CoreState) (old new : List AwakeState) → AreWatched p t objects cores old → AreWoken old new → AreEven new
woken_even p t objects cores old new watched woken = λ i b awake_is.
    let inside : i < length new = slice_get_within new i b awake_is in
    let within : i < length old = omega (arith, woken.count) in
    let a = get_or old i b in
    let was : slice_get old i ≡ Some a = slice_get-get_or old i b within in
    (woken.each i a b was awake_is).even (watched_even p t objects cores old watched i a was)

-- ---- one core after the other

-- of the first cores those that waited at the area were told that it was left
pub record UpTo (object number : ℕ) (old new : List AwakeState) : Type 0 where
  pub count : length new ≡ length old
  pub before_it : (i : ℕ) (a b : AwakeState) → i < number → slice_get old i ≡ Some a → slice_get new i ≡ Some b → IsWokenAt object a b
  pub behind : (i : ℕ) (b : AwakeState) → number ≤ i → slice_get new i ≡ Some b → slice_get old i ≡ Some b

pub up_to_next : (object number : ℕ) (old mid : List AwakeState) (a b : AwakeState) → slice_get mid number ≡ Some a → IsWokenAt object a b → UpTo object number old mid → UpTo object (number + 1) old (set mid number b)
up_to_next object number old mid a b at one far = record {
  count = length-set mid number b ∙ far.count;
  before_it = λ i x y below was is. of_place i x y below was (placed mid number b i y is);
  behind = λ i y least is. beyond i y least (placed mid number b i y is);
}
  where
    of_place : (i : ℕ) (x y : AwakeState) → i < number + 1 → slice_get old i ≡ Some x → Placed AwakeState mid number b i y → IsWokenAt object x y
    of_place i x y below was (here place same) =
        let was_here : slice_get old number ≡ Some x = ap (slice_get old) (sym place) ∙ was in
        let is_a : a ≡ x = same_Some _ _ (sym (far.behind number a (omega arith) at) ∙ was_here) in
        subst (IsWokenAt object x) (sym same) (subst (λ z. IsWokenAt object z b) is_a one)
    of_place i x y below was (there other found) = far.before_it i x y (omega (arith, below, other)) was found

    beyond : (i : ℕ) (y : AwakeState) → number + 1 ≤ i → Placed AwakeState mid number b i y → slice_get old i ≡ Some y
    beyond i y least (here place same) = absurd (omega (arith, least, place))
    beyond i y least (there other found) = far.behind i y (omega (arith, least)) found

pub up_to_all : (object number : ℕ) (old new : List AwakeState) → length old ≤ number → UpTo object number old new → AreWokenAt object old new
up_to_all object number old new all far = record {
  count = far.count;
  each = λ i a b was is. let within : i < length old = slice_get_within old i a was in far.before_it i a b (omega (arith, all, within)) was is;
}

-- ---- an area was left

module _ (object : ℕ) (old new : List AwakeState) (woken : AreWokenAt object old new) where
  pub left_watched : (p : Plan) (t : TaskSet) (objects : List Object) (cores : List CoreState) → AreWatched p t objects cores old → AreWatched p t objects cores new
  left_watched p t objects cores watched = record {
    count = woken.count ∙ watched.count;
    each = λ i c b core_is awake_is.
        let inside : i < length new = slice_get_within new i b awake_is in
        let within : i < length old = omega (arith, woken.count) in
        let a = get_or old i b in
        let was : slice_get old i ≡ Some a = slice_get-get_or old i b within in
        let one = woken.each i a b was awake_is in
        let had = watched.each i c a core_is was in
        record { fits = one.fits c.slots c.first had.fits; starts = one.starts p t objects c.slots had.starts };
  }

  told_waiting : (p : Plan) (t : TaskSet) (before : List Object) (left : Object) (cores : List CoreState) → AreWaiting p t before (Some object) cores old → AreWaiting p t (set before object left) None cores new
  told_waiting p t before left cores waiting = λ i c b core_is awake_is.
      let inside : i < length new = slice_get_within new i b awake_is in
      let within : i < length old = omega (arith, woken.count) in
      let a = get_or old i b in
      let was : slice_get old i ≡ Some a = slice_get-get_or old i b within in
      (woken.each i a b was awake_is).waiters p t before c.slots left (waiting i c a core_is was)

  pub left_waiting : (p : Plan) (t : TaskSet) (n : Noted) (before later : List Object) (cores : List CoreState) → Some object ≡ touched_by p n → IsAfter p before later n → AreWaiting p t before (touched_by p n) cores old → AreWaiting p t later None cores new
  left_waiting p t n before later cores is (inl none) waiting = absurd (cc (is ∙ none.0))
  left_waiting p t n before later cores is (inr at) waiting =
      let same : at.object ≡ object = same_Some _ _ (sym at.touching ∙ sym is) in
      subst (λ os. AreWaiting p t os None cores new) (sym (subst (λ m. later ≡ set before m at.new) same at.others))
      (told_waiting p t before at.new cores (subst (λ o. AreWaiting p t before o cores old) (sym is) waiting))

-- ---- none was left

pub calm_waiting : SleepOnLaw → (p : Plan) (t : TaskSet) (n : Noted) (before later : List Object) (cores : List CoreState) (awake : List AwakeState) → is_leave n.entry.deed ≡ false → IsAfter p before later n
    → AreWaiting p t before (touched_by p n) cores awake → AreWaiting p t later None cores awake
calm_waiting law p t n before later cores awake calm (inl none) waiting = subst (λ os. AreWaiting p t os None cores awake) (sym none.1) (subst (λ o. AreWaiting p t before o cores awake) none.0 waiting)
calm_waiting law p t n before later cores awake calm (inr at) waiting = subst (λ os. AreWaiting p t os None cores awake) (sym at.others) (λ i c a core_is awake_is.
    law p t before at.object at.old at.new n c.slots a.first a at.found at.leads calm (subst (λ o. WaitersHeld p t before o c.slots a.first a) at.touching (waiting i c a core_is awake_is)))

-- nothing was touched
pub apart_waiting : (p : Plan) (t : TaskSet) (n : Noted) (before later : List Object) (cores : List CoreState) (awake : List AwakeState) → touched_by p n ≡ None → IsAfter p before later n
    → AreWaiting p t before (touched_by p n) cores awake → AreWaiting p t later None cores awake
apart_waiting p t n before later cores awake apart (inl none) waiting = subst (λ os. AreWaiting p t os None cores awake) (sym none.1) (subst (λ o. AreWaiting p t before o cores awake) none.0 waiting)
apart_waiting p t n before later cores awake apart (inr at) waiting = absurd (cc (sym at.touching ∙ apart))
