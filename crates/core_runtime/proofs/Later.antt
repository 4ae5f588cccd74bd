-- What turns make, one after the other.
use Rattle.std.proofs.Common.{◌≡◌, ◌<◌, ◌≤◌, ◌+◌, ℕ, refl, sym, ◌∙◌, ap, subst, arith, List, [], length, set, Bool, true, false, Some}
use Rattle.std.specs.Prelude.{ltb}
use Rattle.bus_semantics.specs.Common.{ltb-false, slice_get, length-set, length_push, same_Some, slice_get_within, plan_of}
use Rattle.std.proofs.lemmas.Bool.Decides.{Decides-ltb}
use Rattle.bus_semantics.specs.declared.entries.Stamped.{Stamped}
use Rattle.bus_semantics.specs.declared.plan.BusPlan.{BusPlan}
use Rattle.port_objects.specs.declared.object.Object.{Object}
use Rattle.port_objects.specs.Benches.{Plain}
use Rattle.task_machine.specs.declared.instr.TaskSet.{TaskSet}
use Rattle.core_turn.specs.Cores.{CoreState}
use Rattle.core_lanes.specs.Rooms.{HasRoom}
use Rattle.core_runtime.specs.Rounds.{RoundState, IsRound, IsLater, Rested, Stepped, IsTurn}
use Rattle.core_turn.specs.Ready.{IsReady}
use Rattle.core_runtime.specs.Turns.{AreReady, NothingOf, NothingMayCome, IsStep, Made}
use Rattle.object_kinds.proofs.Lists.{set_same}
use Rattle.core_runtime.proofs.Turning.{step_on, step_next, step_room, set_room, set_ready}

-- ---- one after the other

-- of the same plan and bodies
abbrev MadeBy : BusPlan → TaskSet → (start : List CoreState) → (objects : List Object) → RoundState → Type 0
MadeBy p t start objects r = Made (plan_of p) t start r.cores objects r.objects r.entries

pub later_then : (a b c : RoundState) → IsLater a b → IsLater b c → IsLater a c
later_then a b c first second = record {
  plan = second.plan ∙ first.plan;
  bodies = second.bodies ∙ first.bodies;
  count = second.count ∙ first.count;
  spare = second.spare ∙ first.spare;
  room = second.room ∙ first.room;
  made = λ start objects made.
      subst (λ (t : TaskSet). MadeBy a.plan t start objects c) first.bodies
      (subst (λ (p : BusPlan). MadeBy p b.bodies start objects c) first.plan
      (second.made start objects
      (subst (λ (p : BusPlan). MadeBy p b.bodies start objects b) (sym first.plan)
      (subst (λ (t : TaskSet). MadeBy a.plan t start objects b) (sym first.bodies) (first.made start objects made)))));
}

-- ---- one turn

-- what a plain bench, cores and entries are in a round
abbrev pub round_of : BusPlan → TaskSet → List CoreState → Plain → List Stamped → (spare : ℕ) → RoundState
round_of p t cores b entries spare = record { plan = p; bodies = t; cores = cores; objects = b.objects; entries = entries; room = b.room; spare = spare }

module _ (p : BusPlan) (t : TaskSet) (cores : List CoreState) (number : ℕ) (old new : CoreState) (before now : Plain) (entries all : List Stamped) (spare : ℕ)
    (found : slice_get cores number ≡ Some old) (room : HasRoom new) (is : IsRound (plan_of p) t cores before entries spare) where
  module _ (b : Bool) (step : IsStep (plan_of p) t old new before now entries all b) where
    ready_on : (b : Bool) → IsStep (plan_of p) t old new before now entries all b → AreReady (plan_of p) is.mapping t (set cores number new)
    ready_on true step = set_ready (plan_of p) is.mapping t cores number new is.ready (step.ready is.mapping (is.ready number old found))
    ready_on false step = set_ready (plan_of p) is.mapping t cores number new is.ready (subst (IsReady (plan_of p) is.mapping t) (sym step.core) (is.ready number old found))

    pub round_on : plan_of now.plan ≡ plan_of p → IsRound (plan_of p) t (set cores number new) now all spare
    round_on plan = record {
      bodies = is.bodies;
      mapping = is.mapping;
      ready = ready_on b step;
      core_room = set_room cores number new is.core_room room;
      plan = plan;
      next = step_next (plan_of p) t old new before now entries all is.next b step;
      room = omega (arith, is.room, step_room (plan_of p) t old new before now entries all b step);
    }

    pub later_on : IsLater (round_of p t cores before entries spare) (round_of p t (set cores number new) now all spare)
    later_on = record {
      plan = refl;
      bodies = refl;
      count = length-set cores number new;
      spare = refl;
      room = step_room (plan_of p) t old new before now entries all b step;
      made = λ start objects made. step_on (plan_of p) t start cores objects number old new before now entries all found room is.next made b step;
    }

    pub turn_on : IsTurn (round_of p t cores before entries spare) (round_of p t (set cores number new) now all spare) number b
    turn_on = of_step b step
      where
        of_step : (b : Bool) → IsStep (plan_of p) t old new before now entries all b → IsTurn (round_of p t cores before entries spare) (round_of p t (set cores number new) now all spare) number b
        of_step true step = record {
          made = step.made;
          added = step.added;
          core = old;
          stepped = new;
          there = found;
          cores = refl;
          order = step.order;
        }
        of_step false step = record {
          cores = ap (set cores number) step.core ∙ set_same cores number old found;
          objects = step.objects;
          entries = step.same;
          none = λ c is_c. subst (NothingOf (plan_of p) t before.objects) (same_Some _ _ (sym found ∙ is_c)) step.none;
        }

pub turn_more : (old new : RoundState) (number : ℕ) → Stepped old new number → length new.entries ≡ length old.entries + 1
turn_more old new number turn = ap length turn.added ∙ length_push old.entries turn.made

pub turn_few : (old new : RoundState) (number : ℕ) (b : Bool) → IsTurn old new number b → length new.entries ≤ length old.entries + 1
turn_few old new number true turn = let one = turn_more old new number turn in omega (arith, one)
turn_few old new number false turn = omega (arith, ap length turn.entries)

-- ---- where nothing was made

-- the turns of the cores up to a number made nothing
pub record SoFar (old now : RoundState) (number : ℕ) : Type 0 where
  pub cores_same : now.cores ≡ old.cores
  pub objects_same : now.objects ≡ old.objects
  pub none : (i : ℕ) (c : CoreState) → i < number → slice_get old.cores i ≡ Some c → NothingOf (plan_of old.plan) old.bodies old.objects c

data Place (i n : ℕ) : Type 0 where
  before_it : i < n → Place i n
  at_it : i ≡ n → Place i n

below_more : (i n : ℕ) → i < n + 1 → Place i n
below_more i n below = of_test (ltb i n) refl
  where
    of_test : (b : Bool) → ltb i n ≡ b → Place i n
    of_test true e = before_it ((Decides-ltb i n).0 e)
    of_test false e = at_it (omega (arith, ltb-false i n e))

nothing_as : (p q : BusPlan) (t u : TaskSet) (objects objects_are : List Object) (c : CoreState) → p ≡ q → t ≡ u → objects ≡ objects_are → NothingOf (plan_of p) t objects c → NothingOf (plan_of q) u objects_are c
nothing_as p q t u objects objects_are c a b d nothing = subst (λ (x : BusPlan). NothingOf (plan_of x) u objects_are c) a (subst (λ (x : TaskSet). NothingOf (plan_of p) x objects_are c) b (subst (λ os. NothingOf (plan_of p) t os c) d nothing))

module _ (start old new : RoundState) (number : ℕ) (later : IsLater start old) where
  pub quiet_on : (b : Bool) → IsTurn old new number b → (old.entries ≡ [] → SoFar start old number) → new.entries ≡ [] → SoFar start new (number + 1)
  quiet_on true turn far none = absurd (let more : length new.entries ≡ 0 = ap length none in let one = turn_more old new number turn in omega (arith, one, more))
  quiet_on false turn far none =
      let so = far (sym turn.entries ∙ none) in
      record {
        cores_same = turn.cores ∙ so.cores_same;
        objects_same = turn.objects ∙ so.objects_same;
        none = λ i c below found. of_place so i c found (below_more i number below);
      }
    where
      of_place : SoFar start old number → (i : ℕ) (c : CoreState) → slice_get start.cores i ≡ Some c → Place i number → NothingOf (plan_of start.plan) start.bodies start.objects c
      of_place so i c found (before_it below) = so.none i c below found
      of_place so i c found (at_it here_it) =
          let found_now : slice_get old.cores number ≡ Some c = ap (λ xs. slice_get xs number) so.cores_same ∙ ap (slice_get start.cores) (sym here_it) ∙ found in
          nothing_as old.plan start.plan old.bodies start.bodies old.objects start.objects c later.plan later.bodies so.objects_same (turn.none c found_now)

-- one core, of which nothing may come
pub alone_rests : (old new : RoundState) → length old.cores ≡ 1 → IsLater old new → Rested old new 0 → NothingMayCome (plan_of new.plan) new.bodies new.cores new.objects
alone_rests old new one later rested = λ i c found.
    let found_old : slice_get old.cores i ≡ Some c = ap (λ xs. slice_get xs i) (sym rested.cores) ∙ found in
    let within : i < length old.cores = slice_get_within old.cores i c found_old in
    let only : i ≡ 0 = omega (arith, one) in
    nothing_as old.plan new.plan old.bodies new.bodies old.objects new.objects c (sym later.plan) (sym later.bodies) (sym rested.objects) (rested.none c (ap (slice_get old.cores) (sym only) ∙ found_old))
