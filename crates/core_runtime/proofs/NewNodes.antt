-- New cores and new nodes.
use Rattle.std.proofs.Common.{◌≡◌, ℕ, zero, suc, refl, sym, ◌∙◌, ap, subst, List, [], ◌∷◌, ◌++◌, length, Some}
use Rattle.bus_semantics.specs.Common.{slice_get, Plan, clock, IsSound}
use Rattle.bus_semantics.specs.declared.script.Mapping.{Mapping}
use Rattle.port_objects.specs.declared.object.Object.{Object}
use Rattle.port_objects.specs.Common.{kept_of, Stands}
use Rattle.task_machine.specs.declared.instr.TaskSet.{TaskSet}
use Rattle.core_turn.specs.Cores.{CoreState}
use Rattle.core_turn.specs.Lawful.{IsLawful}
use Rattle.core_lanes.specs.Rooms.{HaveRoom}
use Rattle.core_runtime.specs.Nodes.{AreNewCores, IsNewCore}

pub data Last (X : Type 0) (xs : List X) (y : X) (i : ℕ) (x : X) : Type 0 where
  earlier : slice_get xs i ≡ Some x → Last X xs y i x
  last : i ≡ length xs → x ≡ y → Last X xs y i x

pub last_or : {X : Type 0} (xs : List X) (y : X) (i : ℕ) (x : X) → slice_get (xs ++ y ∷ []) i ≡ Some x → Last X xs y i x
last_or [] y zero x e = last refl cc
last_or [] y (suc i) x e = absurd (cc e)
last_or (z ∷ xs) y zero x e = earlier e
last_or (z ∷ xs) y (suc i) x e = deeper (last_or xs y i x e)
  where
    deeper : Last _ xs y i x → Last _ (z ∷ xs) y (suc i) x
    deeper (earlier found) = earlier found
    deeper (last at same) = last (ap suc at) same

pub one_more : (p : Plan) (m : Mapping) (t : TaskSet) (cores : List CoreState) (number : ℕ) (c : CoreState) → length cores ≡ number → AreNewCores p m t cores → IsNewCore p m t number c → AreNewCores p m t (cores ++ c ∷ [])
one_more p m t cores number c count are new = λ i x found. of_place i x (last_or cores c i x found)
  where
    of_place : (i : ℕ) (x : CoreState) → Last CoreState cores c i x → IsNewCore p m t i x
    of_place i x (earlier found) = are i x found
    of_place i x (last at same) = subst (λ n. IsNewCore p m t n x) (sym (at ∙ count)) (subst (IsNewCore p m t number) (sym same) new)

module _ (p : Plan) (m : Mapping) (t : TaskSet) (cores : List CoreState) (objects : List Object) (built : IsSound p m) (are : AreNewCores p m t cores)
    (objects_are : length objects ≡ suc (clock p)) (cores_are : length cores ≡ m.cores) (standing : (i : ℕ) (o : Object) → slice_get objects i ≡ Some o → Stands p i (kept_of o) []) where
  pub new_lawful : IsLawful p m t cores objects []
  new_lawful = record {
    legal = tt;
    objects_are = objects_are;
    cores_are = cores_are;
    stand = standing;
    number = λ i c found. (are i c found).is_number;
    ready = λ i c found. (are i c found).is_ready built;
    stands = λ i c found. (are i c found).stands;
  }

  pub new_room : HaveRoom cores
  new_room = λ i c found. (are i c found).has_room
