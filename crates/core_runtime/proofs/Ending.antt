-- A node after turns, and one of which nothing may come.
use Rattle.std.proofs.Common.{◌≡◌, ◌<◌, ℕ, ◌∙◌, arith, List, length, Some}
use Rattle.bus_semantics.specs.Common.{slice_get, Plan, History, IsLegal, IsAtRest, IsIdle, IsQuiet, IsSound, IsSound}
use Rattle.bus_semantics.specs.declared.entries.Stamped.{Stamped}
use Rattle.bus_semantics.specs.declared.script.Mapping.{Mapping}
use Rattle.port_objects.specs.declared.object.Object.{Object}
use Rattle.port_objects.specs.Common.{ArePlans, Told}
use Rattle.task_machine.specs.declared.instr.TaskSet.{TaskSet}
use Rattle.task_generator.specs.Promise.{AsksAsPlanned}
use Rattle.core_turn.specs.Cores.{CoreState}
use Rattle.core_turn.specs.Lawful.{IsLawful}
use Rattle.history_laws.proofs.Lists.{there_is}
use Rattle.core_turn.specs.Resting.{CoreRests}
use Rattle.core_turn.specs.Turning.{NothingComes}
use Rattle.core_lanes.specs.Rooms.{HaveRoom}
use Rattle.core_runtime.specs.Common.{after, IsNode, GoesOn, NothingMayCome}

-- ---- where nothing may come

-- what the laws of turns say of one core, and of all
abbrev pub RestLaw : Type 0
RestLaw = (p : Plan) (m : Mapping) (t : TaskSet) (cores : List CoreState) (i : ℕ) (old new : CoreState) (objects : List Object) (before now : Told) (h : History) → AsksAsPlanned p t → IsLawful p m t cores objects h
    → slice_get cores i ≡ Some old → before.objects ≡ Some objects → NothingComes p t old new before now → CoreRests p m h i

abbrev pub AllRestLaw : Type 0
AllRestLaw = (p : Plan) (m : Mapping) (h : History) → IsSound p m → IsLegal p h → ((n : ℕ) → n < m.cores → CoreRests p m h n) → IsAtRest p m h

abbrev pub QuietLaw : Type 0
QuietLaw = (p : Plan) (m : Mapping) (h : History) → IsSound p m → IsLegal p h → IsAtRest p m h → IsQuiet p h

module _ (rests : RestLaw) (all_rest : AllRestLaw) (quiet : QuietLaw) (p : Plan) (m : Mapping) (t : TaskSet) (cores : List CoreState) (objects : List Object) (h : History)
    (built : IsSound p m) (asks : AsksAsPlanned p t) (count : length cores ≡ m.cores) (lawful : IsLawful p m t cores objects h) (nothing : NothingMayCome p t cores objects) where
  each_rests : (n : ℕ) → n < m.cores → CoreRests p m h n
  each_rests n below =
      let within : n < length cores = omega (arith, count) in
      let c = there_is cores n within in
      let none = nothing n c.0 c.1 in
      rests p m t cores n c.0 none.same objects none.before none.now h asks lawful c.1 none.told none.nothing

  at_rest : IsAtRest p m h
  at_rest = all_rest p m h built lawful.legal each_rests

  pub is_quiet : IsQuiet p h
  is_quiet = quiet p m h built lawful.legal at_rest

  pub is_idle : IsIdle p m h
  is_idle = record { rest = at_rest; none = is_quiet.none }

-- ---- after turns

-- a node of which cores and objects went on
pub gone_node : (p : Plan) (m : Mapping) (t : TaskSet) (cores now : List CoreState) (objects later : List Object) (entries : List Stamped) → IsNode p m t cores objects → length now ≡ length cores → HaveRoom now → ArePlans p later
    → GoesOn p m t cores now objects later entries → IsNode p m t now later
gone_node p m t cores now objects later entries node count room planned goes = record {
  sound = node.sound;
  bodies = node.bodies;
  counted = node.counted;
  planned = planned;
  cores_are = count ∙ node.cores_are;
  room = room;
  history = after entries node.history;
  lawful = goes node.history node.lawful;
}
