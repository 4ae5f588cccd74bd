-- Walks to which nothing has happened, one after the other.
use Rattle.std.proofs.Common.{◌≡◌, ℕ, zero, suc, refl, subst, List, [], ◌∷◌, ◌++◌, length, Option, Some, None}
use Rattle.bus_semantics.specs.Common.{false≢true, same_Some, ActKey, Plan}
use Rattle.task_machine.specs.declared.instr.TaskSet.{TaskSet}
use Rattle.trace_walks.specs.declared.walk.Running.{Running}
use Rattle.trace_walks.specs.declared.walk.Walk.{Walk}
use Rattle.trace_walks.specs.Walking.{AreFresh, RunningStands, WalkStands}

pub record FreshSoFar (ws : List Walk) (counter : ℕ) : Type 0 where
  pub counted : length ws ≡ counter
  pub fresh : AreFresh ws

pub one_more : (ws : List Walk) (w : Walk) → AreFresh ws → ((t : TaskSet) (p : Plan) (k : ActKey) → WalkStands t p k [] w) → AreFresh (ws ++ w ∷ [])
one_more [] w all one zero x is = let same : w ≡ x = same_Some w x is in λ t p k. subst (λ (y : Walk). WalkStands t p k [] y) same (one t p k)
one_more [] w all one (suc i) x is = absurd (cc is)
one_more (y ∷ ws) w all one zero x is = all zero x is
one_more (y ∷ ws) w all one (suc i) x is = one_more ws w (λ j. all (suc j)) one i x is

-- nothing runs where nothing has happened
pub not_running : (t : TaskSet) (p : Plan) (k : ActKey) (w : Walk) → WalkStands t p k [] w → w.running ≡ None
not_running t p k w stands = by_running w.running refl stands.running
  where
    by_running : (o : Option Running) → w.running ≡ o → RunningStands t k [] o → o ≡ None
    by_running None is none = refl
    by_running (Some r) is of = absurd (false≢true of.going)
