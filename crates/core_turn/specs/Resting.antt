-- A core at rest: what is tried at rest of the tasks of the core, with the direct activations that they call, and of its mode machines; and that
-- nothing of it may follow. Its words are those of rest.
use Rattle.std.specs.Prelude.{ℕ, zero, suc, List, ◌∷◌, ◌++◌, [], length, if◌then◌else◌}
use Rattle.bus_semantics.specs.Common.{ActKey, Plan, positions, caller_of, runnable_of_event, History, next_wish, direct_key, Try, plain_key, option_list, gathered, direct_try}
use Rattle.bus_semantics.specs.Common.{machine_tries, task_tries, AllStuck}
use Rattle.bus_laws.specs.Common.{Mapping, Task, Act}
use Rattle.task_slots.specs.Slots.{starts_at}
use Rattle.core_turn.specs.Cores.{tasks_of_core}

-- the next wish of an activation, if it runs
abbrev pub calls_of : Plan → History → ActKey → List Try
calls_of p h k = gathered (λ w. (Act k, w) ∷ []) (option_list (next_wish p h k))

-- of the runnable that an event starts
abbrev pub calls_by : Plan → History → (event : ℕ) → List Try
calls_by p h e = gathered (λ r. calls_of p h (plain_key r)) (option_list (runnable_of_event p e))

-- of the direct activation of a point, and its start right after the ask there
abbrev pub calls_at : Plan → History → (point : ℕ) → List Try
calls_at p h q = gathered (calls_of p h) (option_list (direct_key p q)) ++ direct_try p h q

-- the points at which the runnables of a task call
abbrev pub direct_calls : Plan → History → (events : List ℕ) → List Try
direct_calls p h events = gathered (λ q. if starts_at p (caller_of p q) events then calls_at p h q else []) (positions (length p.points))

-- the next wishes of the activations that a task's events start, and of the direct ones that these call; and each of these events with its
-- start if the task is free
abbrev pub tries_of_task : Plan → History → Task → List Try
tries_of_task p h t = gathered (calls_by p h) t.events ++ direct_calls p h t.events ++ task_tries p h t

-- core 0 has the mode machines
abbrev pub machines_of : Plan → (core : ℕ) → List Try
machines_of p zero = machine_tries p
machines_of p (suc n) = []

abbrev pub tries_of_core : Plan → Mapping → History → (core : ℕ) → List Try
tries_of_core p m h n = gathered (tries_of_task p h) (tasks_of_core m n) ++ machines_of p n

-- nothing of what is tried of a core's tasks and machines may follow
abbrev pub CoreRests : Plan → Mapping → History → (core : ℕ) → Type 0
CoreRests p m h n = AllStuck p h (tries_of_core p m h n)
