-- Turns one after the other.
use Rattle.std.proofs.Common.{◌≡◌, ◌+◌, ℕ, suc, refl, sym, ◌∙◌, ap, subst, arith, List, [], ◌∷◌, ◌++◌, length, set, Bool, true, false, Some}
use Rattle.std.specs.Prelude.{◌==◌, ◌&&◌}
use Rattle.bus_semantics.specs.Common.{and_parts, unsigned_Decides, slice_get, length-set, length_push, list_all-append, stamps_count, Plan, every_from}
use Rattle.bus_semantics.specs.declared.entries.Stamped.{Stamped}
use Rattle.bus_semantics.specs.declared.script.Mapping.{Mapping}
use Rattle.port_objects.specs.declared.object.Object.{Object}
use Rattle.port_objects.specs.Benches.{Plain}
use Rattle.task_machine.specs.declared.instr.TaskSet.{TaskSet}
use Rattle.core_turn.specs.Cores.{CoreState}
use Rattle.core_turn.specs.Ready.{IsReady}
use Rattle.core_runtime.specs.After.{is_within, are_within}
use Rattle.core_lanes.specs.Rooms.{HasRoom, HaveRoom}
use Rattle.core_runtime.specs.Turns.{GoesOn, AreReady, Makes, Rests, IsStep, Made}
use Rattle.core_runtime.proofs.Going.{goes_then}
use Rattle.latches.proofs.Places.{Placed, here, there, placed}
use Rattle.object_kinds.proofs.Lists.{set_same}

-- ---- lists

every_on : {X : Type 0} (f : ℕ → X → Bool) (i : ℕ) (xs : List X) (y : X) → every_from i f xs ≡ true → f (i + length xs) y ≡ true → every_from i f (xs ++ y ∷ []) ≡ true
every_on f i [] y all last = let at : i + 0 ≡ i = omega arith in ap (λ b. b && true) (ap (λ n. f n y) (sym at) ∙ last)
every_on f i (x ∷ xs) y all last =
    let parts = and_parts (f i x) (every_from (i + 1) f xs) all in
    let place : i + suc (length xs) ≡ i + 1 + length xs = omega arith in
    ap (λ b. b && every_from (i + 1) f (xs ++ y ∷ [])) parts.0 ∙ every_on f (i + 1) xs y parts.1 (ap (λ n. f n y) (sym place) ∙ last)

stamps_on : (entries : List Stamped) (s : Stamped) → stamps_count entries ≡ true → s.stamp ≡ length entries → stamps_count (entries ++ s ∷ []) ≡ true
stamps_on entries s counted stamp = let place : s.stamp ≡ 0 + length entries = omega (arith, stamp) in every_on (λ i (x : Stamped). x.stamp == i) 0 entries s counted ((unsigned_Decides s.stamp (0 + length entries)).1 place)

within_on : (entries : List Stamped) (s : Stamped) → are_within entries ≡ true → is_within s ≡ true → are_within (entries ++ s ∷ []) ≡ true
within_on entries s all one = list_all-append is_within entries (s ∷ []) ∙ ap (λ b. b && (is_within s && true)) all ∙ ap (λ b. b && true) one

-- ---- cores

pub set_room : (cores : List CoreState) (at : ℕ) (new : CoreState) → HaveRoom cores → HasRoom new → HaveRoom (set cores at new)
set_room cores at new room one = λ i c found. of_place i c (placed cores at new i c found)
  where
    of_place : (i : ℕ) (c : CoreState) → Placed CoreState cores at new i c → HasRoom c
    of_place i c (here place same) = subst HasRoom (sym same) one
    of_place i c (there other found) = room i c found

pub set_ready : (p : Plan) (m : Mapping) (t : TaskSet) (cores : List CoreState) (at : ℕ) (new : CoreState) → AreReady p m t cores → IsReady p m t new → AreReady p m t (set cores at new)
set_ready p m t cores at new ready one = λ i c found. of_place i c (placed cores at new i c found)
  where
    of_place : (i : ℕ) (c : CoreState) → Placed CoreState cores at new i c → IsReady p m t c
    of_place i c (here place same) = subst (IsReady p m t) (sym same) one
    of_place i c (there other found) = ready i c found

-- ---- a further turn

module _ (p : Plan) (t : TaskSet) (cores now : List CoreState) (objects : List Object) (at : ℕ) (old new : CoreState) (before after : Plain) (entries all : List Stamped)
    (is : slice_get now at ≡ Some old) (room : HasRoom new) (next : before.next ≡ length entries) (made : Made p t cores now objects before.objects entries) where
  pub made_on : Makes p t old new before after entries all → Made p t cores (set now at new) objects after.objects all
  made_on makes = record {
    count = length-set now at new ∙ made.count;
    room = set_room now at new made.room room;
    ready = λ m ready. set_ready p m t now at new (made.ready m ready) (makes.ready m (made.ready m ready at old is));
    goes = λ m ready. subst (GoesOn p m t cores (set now at new) objects after.objects) (sym makes.added)
        (goes_then p m t cores now (set now at new) objects before.objects after.objects entries (makes.made ∷ []) (made.goes m ready) (makes.goes m now at is (made.ready m ready at old is)));
    within = subst (λ es. are_within es ≡ true) (sym makes.added) (within_on entries makes.made made.within makes.within);
    stamps = subst (λ es. stamps_count es ≡ true) (sym makes.added) (stamps_on entries makes.made made.stamps (makes.stamp ∙ next));
  }

  pub still_on : Rests p t old new before after entries all → Made p t cores (set now at new) objects after.objects all
  still_on rests =
      let same : set now at new ≡ now = ap (set now at) rests.core ∙ set_same now at old is in
      subst (λ es. Made p t cores (set now at new) objects after.objects es) (sym rests.same)
      (subst (λ os. Made p t cores (set now at new) objects os entries) (sym rests.objects) (subst (λ cs. Made p t cores cs objects before.objects entries) (sym same) made))

  pub step_on : (b : Bool) → IsStep p t old new before after entries all b → Made p t cores (set now at new) objects after.objects all
  step_on true step = made_on step
  step_on false step = still_on step

module _ (p : Plan) (t : TaskSet) (old new : CoreState) (before after : Plain) (entries all : List Stamped) where
  pub step_next : before.next ≡ length entries → (b : Bool) → IsStep p t old new before after entries all b → after.next ≡ length all
  step_next next true step = let more : length all ≡ length entries + 1 = ap length step.added ∙ length_push entries step.made in omega (arith, step.next, next, more)
  step_next next false step = step.next ∙ next ∙ sym (ap length step.same)

  pub step_room : (b : Bool) → IsStep p t old new before after entries all b → after.room + length all ≡ before.room + length entries
  step_room true step = omega (arith, step.room, ap length step.added, length_push entries step.made)
  step_room false step = omega (arith, step.room, ap length step.same)

-- ---- no turn yet

pub made_nothing : (p : Plan) (t : TaskSet) (cores : List CoreState) (objects : List Object) → HaveRoom cores → Made p t cores cores objects objects []
made_nothing p t cores objects room = record { count = refl; room = room; ready = λ m ready. ready; goes = λ m ready h lawful. lawful; within = refl; stamps = refl }
