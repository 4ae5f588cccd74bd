-- Entries that follow one another, and cores whose trace is cleared.
use Rattle.std.proofs.Common.{◌≡◌, ℕ, refl, sym, ◌∙◌, ap, subst, List, [], ◌∷◌, ◌++◌, set, Some}
use Rattle.bus_semantics.specs.Common.{slice_get, length-set, Plan, History}
use Rattle.bus_semantics.specs.declared.entries.Stamped.{Stamped}
use Rattle.bus_semantics.specs.declared.script.Mapping.{Mapping}
use Rattle.port_objects.specs.declared.object.Object.{Object}
use Rattle.task_machine.specs.declared.instr.TaskSet.{TaskSet}
use Rattle.core_turn.specs.Cores.{CoreState}
use Rattle.core_turn.specs.Lawful.{IsLawful}
use Rattle.core_turn.specs.Ready.{IsReady}
use Rattle.core_turn.specs.Standing.{CoreStands}
use Rattle.core_runtime.specs.Common.{after, GoesOn}
use Rattle.core_lanes.specs.Taking.{IsSameCore}
use Rattle.core_lanes.proofs.MergedTurns.{same_ready, same_stands}
use Rattle.latches.proofs.Places.{Placed, here, there, placed, set_here, set_there}

pub after_on : (xs ys : List Stamped) (h : History) → after (xs ++ ys) h ≡ after ys (after xs h)
after_on [] ys h = refl
after_on (x ∷ xs) ys h = after_on xs ys (x.entry ∷ h)

pub goes_then : (p : Plan) (m : Mapping) (t : TaskSet) (a b c : List CoreState) (x y z : List Object) (xs ys : List Stamped) → GoesOn p m t a b x y xs → GoesOn p m t b c y z ys → GoesOn p m t a c x z (xs ++ ys)
goes_then p m t a b c x y z xs ys first second = λ h lawful. subst (IsLawful p m t c z) (sym (after_on xs ys h)) (second (after xs h) (first h lawful))

-- ---- a core that is the same but for its trace

module _ (p : Plan) (m : Mapping) (t : TaskSet) (c k : CoreState) (same : IsSameCore c k) where
  module _ (cores : List CoreState) (at : ℕ) (old : CoreState) (is : slice_get cores at ≡ Some old) (objects : List Object) (h : History) (lawful : IsLawful p m t (set cores at c) objects h) where
    found_here : slice_get (set cores at c) at ≡ Some c
    found_here = set_here cores at old c is

    number_of : (j : ℕ) (x : CoreState) → Placed CoreState cores at k j x → x.number ≡ j
    number_of j x (here place is_it) = ap (λ (y : CoreState). y.number) is_it ∙ same.number ∙ lawful.number at c found_here ∙ sym place
    number_of j x (there other found) = lawful.number j x (set_there cores at j x c other found)

    ready_of : (j : ℕ) (x : CoreState) → Placed CoreState cores at k j x → IsReady p m t x
    ready_of j x (here place is_it) = subst (IsReady p m t) (sym is_it) (same_ready p t c k same m (lawful.ready at c found_here))
    ready_of j x (there other found) = lawful.ready j x (set_there cores at j x c other found)

    stands_of : (j : ℕ) (x : CoreState) → Placed CoreState cores at k j x → CoreStands p t h x
    stands_of j x (here place is_it) = subst (CoreStands p t h) (sym is_it) (same_stands p t c k same h (lawful.stands at c found_here))
    stands_of j x (there other found) = lawful.stands j x (set_there cores at j x c other found)

    pub same_lawful : IsLawful p m t (set cores at k) objects h
    same_lawful = record {
      legal = lawful.legal;
      objects_are = lawful.objects_are;
      cores_are = length-set cores at k ∙ sym (length-set cores at c) ∙ lawful.cores_are;
      stand = lawful.stand;
      number = λ j x found. number_of j x (placed cores at k j x found);
      ready = λ j x found. ready_of j x (placed cores at k j x found);
      stands = λ j x found. stands_of j x (placed cores at k j x found);
    }
