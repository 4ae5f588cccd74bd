-- Rest if no activation runs, on objects that stand for a history. Histories stand the newest first.
use Rattle.std.specs.Prelude.{◌≡◌, ℕ, List, Bool, true, false, Some}
use Rattle.bus_laws.specs.Common.{Mapping, Task, Actor, Act, Deed}
use Rattle.bus_semantics.specs.Common.{Plan, runnable_of_event, Wanted, to_start, to_move_on, wanted_by, History, follows_program, IsLegal, IsSound, Try, plain_key, gathered, start_try}
use Rattle.bus_semantics.specs.Common.{none_runs, IsStuck, AllStuck, IsAtRest}
use Rattle.port_objects.specs.declared.object.Object.{Object}
use Rattle.trace_objects.specs.Standing.{ObjectsStand}

-- whether it is at rest
abbrev pub Rests : Plan → Mapping → History → Bool → Type 0
Rests p m h true = IsAtRest p m h
Rests p m h false = IsAtRest p m h → ⊥

-- a legal history after which no activation runs, and for which the objects stand
pub record IsPaused (p : Plan) (m : Mapping) (h : History) (objects : List Object) : Type 0 where
  pub sound : IsSound p m
  pub legal : IsLegal p h
  pub none : none_runs p h ≡ true
  pub stand : ObjectsStand p h objects

-- ---- one that is tried

-- a start or a phase
abbrev pub begins : Wanted → Bool
begins (to_start event) = true
begins to_move_on = true
begins w = false

-- a start or a phase that its actor's program asks for
pub record Begins (p : Plan) (h : History) (a : Actor) (w : Wanted) : Type 0 where
  pub kind : begins w ≡ true
  pub program : (d : Deed) → wanted_by 0 d ≡ w → follows_program p h a d ≡ true

-- whether an entry of the try may follow
abbrev pub Comes : Plan → History → Try → Bool → Type 0
Comes p h t true = IsStuck p h t → ⊥
Comes p h t false = IsStuck p h t

-- the start by the event of a task may follow
pub record StartComes (p : Plan) (h : History) (event : ℕ) : Type 0 where
  pub runnable : ℕ
  pub own : runnable_of_event p event ≡ Some runnable
  pub comes : IsStuck p h (Act (plain_key runnable), to_start event) → ⊥

abbrev pub Starts : Plan → History → (event : ℕ) → Bool → Type 0
Starts p h e true = StartComes p h e
Starts p h e false = AllStuck p h (start_try p e)

-- ---- several

-- the start by each event of a task
abbrev pub starts_of : Plan → Task → List Try
starts_of p t = gathered (start_try p) t.events
