-- What the mapping and the instances must keep.
use Rattle.std.specs.Prelude.{◌≡◌, ℕ, zero, suc, ◌+◌, List, [], ◌∷◌, ◌++◌, map, length, Bool, true, false, not, ◌&&◌, ◌||◌, ◌==◌, ◌<◌, nat_eq, nat_le, is_some, is_none, slice_get, Option}
use Rattle.std.specs.Prelude.{Some, option_and_then, if◌then◌else◌}
use Rattle.bus_semantics.specs.Common.{flat_map, list_all, list_any, option_map_or, AccessKind}
use Rattle.runnable_lang.specs.declared.program.AccessKind.TheVariants as kind
use Rattle.description_types.specs.declared.component.Access.{Access}
use Rattle.description_types.specs.declared.component.Component.{Component}
use Rattle.description_types.specs.declared.component.Event.{Event}
use Rattle.description_types.specs.declared.component.EventKind.{EventKind}
use Rattle.description_types.specs.declared.component.EventKind.TheVariants.{OperationInvoked}
use Rattle.description_types.specs.declared.component.Runnable.{Runnable}
use Rattle.description_types.specs.declared.description.Description.{Description}
use Rattle.description_types.specs.declared.flat.End.{End}
use Rattle.description_types.specs.declared.flat.Flat.{Flat}
use Rattle.plan_definitions.specs.Firsts.{first_of, unless}
use Rattle.plan_definitions.specs.Joined.{end_at, provider_of, same_end}
use Rattle.plan_definitions.specs.Mapped.{invocation_of, is_mapped, mapped_as, named_by}
use Rattle.plan_definitions.specs.Parts.{component_of}

-- Rule 25: each mapped event names an instance and an event of it. The first that does not, by its position.
abbrev pub unnamed : Description → Flat → Option ℕ
unnamed d f = first_of (λ k x. unless (is_some (named_by d f x)) k) 0 d.mapping.events

-- the first place within the instances, in order
abbrev pub in_instances : {X : Type 0} → (ℕ → Component → Option X) → Description → Flat → Option X
in_instances g d f = first_of (λ i x. option_and_then (g i) (slice_get d.components x.component)) 0 f.instances

-- Rule 26: each event of each instance is mapped once, and an OperationInvokedEvent at most once. The first event of an instance
-- that is not.
abbrev pub is_mapped_well : EventKind → ℕ → Bool
is_mapped_well (OperationInvoked k n) times = nat_le times 1
is_mapped_well _ times = times == 1

abbrev pub badly_mapped_in : Description → Flat → ℕ → Component → Option (ℕ × ℕ)
badly_mapped_in d f i c = first_of (λ m e. unless (is_mapped_well e.kind (length (mapped_as d f (i, m)))) (i, m)) 0 c.behavior.events

abbrev pub badly_mapped : Description → Flat → Option (ℕ × ℕ)
badly_mapped d f = in_instances (badly_mapped_in d f) d f

-- Rule 27: all events of one runnable of one instance are mapped to one task. The first runnable of an instance whose are not.
abbrev pub tasks_of_event : Description → Flat → ℕ × ℕ → List ℕ
tasks_of_event d f e = map (λ x. x.task) (mapped_as d f e)

-- the tasks of the events of an instance that start a runnable, the first event being at position m
abbrev pub tasks_from : Description → Flat → ℕ → ℕ → ℕ → List Event → List ℕ
tasks_from d f i r m [] = []
tasks_from d f i r m (e ∷ es) = (if nat_eq r e.runnable then tasks_of_event d f (i, m) else []) ++ tasks_from d f i r (m + 1) es

abbrev pub tasks_of : Description → Flat → ℕ × ℕ → List ℕ
tasks_of d f r = option_map_or (λ c. tasks_from d f r.0 r.1 0 c.behavior.events) (component_of d f r.0) []

abbrev pub are_same : List ℕ → Bool
are_same [] = true
are_same (t ∷ ts) = list_all (λ u. nat_eq t u) ts

abbrev pub spread_in : Description → Flat → ℕ → Component → Option (ℕ × ℕ)
spread_in d f i c = first_of (λ m r. unless (are_same (tasks_of d f (i, m))) (i, m)) 0 c.behavior.runnables

abbrev pub spread : Description → Flat → Option (ℕ × ℕ)
spread d f = in_instances (spread_in d f) d f

-- Rule 28: an unmapped OperationInvokedEvent has a runnable that may be invoked concurrently and makes no call, and its operation
-- is not joined to the environment. The first such event of an instance that has not.
abbrev pub is_call : Access → Bool
is_call a = by_kind a.kind
  where
    by_kind : AccessKind → Bool
    by_kind kind.Call = true
    by_kind kind.ACall = true
    by_kind kind.TakeResult = true
    by_kind _ = false

abbrev pub may_be_direct : Runnable → Bool
may_be_direct r = r.can_be_invoked_concurrently && list_all (λ a. not (is_call a)) r.accesses

abbrev pub serves_outside : Flat → ℕ → ℕ → ℕ → Bool
serves_outside f i k n = list_any (λ j. same_end (end_at (Some i) k n) j.provided && is_none j.required.instance) f.joins

abbrev pub keeps_direct : Description → Flat → ℕ → Component → ℕ → Event → Bool
keeps_direct d f i c m e = by_kind e.kind
  where
    by_kind : EventKind → Bool
    by_kind (OperationInvoked k n) = is_mapped d f (i, m)
        || (option_map_or may_be_direct (slice_get c.behavior.runnables e.runnable) false && not (serves_outside f i k n))
    by_kind _ = true

abbrev pub not_direct_in : Description → Flat → ℕ → Component → Option (ℕ × ℕ)
not_direct_in d f i c = first_of (λ m e. unless (keeps_direct d f i c m e) (i, m)) 0 c.behavior.events

abbrev pub not_direct : Description → Flat → Option (ℕ × ℕ)
not_direct d f = in_instances (not_direct_in d f) d f

-- Rule 29: with an edge from each task to the task of each queued server that a runnable in it calls by `call`, no task reaches
-- itself.
abbrev pub task_of_server : Description → Flat → ℕ → ℕ → ℕ → List ℕ
task_of_server d f i k n = option_map_or (λ m. tasks_of_event d f (i, m)) (invocation_of d f i k n) []

-- the tasks behind a provided end; the environment has none
abbrev pub tasks_behind : Description → Flat → End → List ℕ
tasks_behind d f e = option_map_or (λ s. task_of_server d f s e.port e.element) e.instance []

-- the tasks that a runnable of an instance waits for by an access
abbrev pub waits_by : Description → Flat → ℕ → Access → List ℕ
waits_by d f i a = by_kind a.kind
  where
    by_kind : AccessKind → List ℕ
    by_kind kind.Call = option_map_or (tasks_behind d f) (provider_of f.joins (end_at (Some i) a.port a.item)) []
    by_kind _ = []

abbrev pub waits_for : Description → Flat → ℕ × ℕ → List ℕ
waits_for d f r = option_map_or (λ x. flat_map (waits_by d f r.0) x.accesses) (option_and_then (λ c. slice_get c.behavior.runnables r.1) (component_of d f r.0)) []

-- a runnable in the one task waits for the other
pub record Waits (d : Description) (f : Flat) (a b : ℕ) : Type 0 where
  pub runnable : ℕ × ℕ
  pub in_task : list_any (λ t. nat_eq t a) (tasks_of d f runnable) ≡ true
  pub for_task : list_any (λ t. nat_eq t b) (waits_for d f runnable) ≡ true

-- a chain of n such waits
abbrev pub Chain : Description → Flat → ℕ → ℕ → ℕ → Type 0
Chain d f zero a c = a ≡ c
Chain d f (suc n) a c = (b : ℕ) × Waits d f a b × Chain d f n b c

abbrev pub ReachesItself : Description → Flat → Type 0
ReachesItself d f = (t : ℕ) × (n : ℕ) × Chain d f (suc n) t t

-- an order of the tasks in which each waits only for later ones
abbrev pub HaveOrder : Description → Flat → Type 0
HaveOrder d f = (rank : ℕ → ℕ) × ((a b : ℕ) → Waits d f a b → rank a < rank b)

abbrev pub TellsOrder : Bool → Description → Flat → Type 0
TellsOrder true d f = HaveOrder d f
TellsOrder false d f = ReachesItself d f
