-- What the worked rows share: parts of their plans, items of their sessions, and what it is that an entry is refused. Sessions have
-- their newest item first.
use Rattle.std.specs.Prelude.{◌≡◌, ℕ, pos, List, [], ◌∷◌, codes, replicate, Bool, true, false, Option, Some, None}
use Rattle.bus_semantics.specs.Common.{Limits, empty_value, one_word, AccessKind, AccessSig, Plan, positions, entries_of, IsPastOf, fits, is_legal, broken_clause, Item, made, history_of}
use Rattle.bus_semantics.specs.Common.{Session}
use Rattle.bus_laws.specs.Common.{ElemPlan, ElemKind, EventPlan, EventKind, Task, Env, Machine, Act, Deed, Entry}
use Rattle.bus_semantics.specs.declared.entries.Deed.TheVariants as deed

-- ---- plans: words from 0 to 1000, and elements of one such word that begin at 0

abbrev pub to_1000 : Limits
to_1000 = record { low = pos 0; high = pos 1000 }

abbrev pub one_limit : List Limits
one_limit = to_1000 ∷ []

abbrev pub provided : Option ℕ → (name : List ℕ) → ElemKind → (joined : Bool) → (group : ℕ) → ElemPlan
provided home name kind joined group = record { instance = home; name = name; kind = kind; provided = true; joined = joined; group = group; limits = to_1000; words = 1; init = one_word (pos 0); never_received = false; queue_length = 1 }

abbrev pub required : Option ℕ → (name : List ℕ) → ElemKind → (group : ℕ) → (queue : ℕ) → ElemPlan
required home name kind group queue = record { instance = home; name = name; kind = kind; provided = false; joined = true; group = group; limits = to_1000; words = 1; init = one_word (pos 0); never_received = false; queue_length = queue }

-- an inter-runnable variable
abbrev pub a_variable : (instance : ℕ) → (name : List ℕ) → ElemKind → (group : ℕ) → ElemPlan
a_variable i name kind group = record { instance = Some i; name = name; kind = kind; provided = false; joined = false; group = group; limits = to_1000; words = 1; init = one_word (pos 0); never_received = false; queue_length = 1 }

-- an access that gives one word, one that takes one, and one with neither
abbrev pub giving : AccessKind → (port : ℕ) → AccessSig
giving k port = record { kind = k; port = port; item = 0; ins = one_limit; outs = []; modes = 0 }

abbrev pub taking : AccessKind → (port : ℕ) → AccessSig
taking k port = record { kind = k; port = port; item = 0; ins = []; outs = one_limit; modes = 0 }

abbrev pub naming : AccessKind → (port : ℕ) → (modes : ℕ) → AccessSig
naming k port modes = record { kind = k; port = port; item = 0; ins = []; outs = []; modes = modes }

-- an event that no mode disables
abbrev pub starting : (runnable : ℕ) → (name : List ℕ) → EventKind → EventPlan
starting r name kind = record { runnable = r; name = name; kind = kind; disabled = None }

abbrev pub task : (name : List ℕ) → (core : ℕ) → (events : List ℕ) → Task
task name core events = record { name = name; core = core; events = events }

-- ---- sessions

abbrev pub act_of : (runnable : ℕ) → Deed → Entry
act_of r d = record { actor = Act (record { runnable = r; point = None }); deed = d }

abbrev pub env_of : Deed → Entry
env_of d = record { actor = Env; deed = d }

abbrev pub machine_of : (machine : ℕ) → Deed → Entry
machine_of m d = record { actor = Machine m; deed = d }

-- an item that a runnable, the environment, or a machine made
abbrev pub by : (runnable : ℕ) → Deed → Item
by r d = made (act_of r d)

abbrev pub env : Deed → Item
env d = made (env_of d)

abbrev pub machine : (machine : ℕ) → Deed → Item
machine m d = made (machine_of m d)

-- the start of a runnable that serves no operation
abbrev pub start : (event : ℕ) → Deed
start e = deed.Start e None empty_value

abbrev pub ten_ticks : Session
ten_ticks = replicate 10 (env deed.Tick)

abbrev pub ten_ticks_text : List ℕ
ten_ticks_text = codes "env tick\nenv tick\nenv tick\nenv tick\nenv tick\nenv tick\nenv tick\nenv tick\nenv tick\nenv tick\n"

-- ---- a wrong variant

-- the session is legal so far, and the entry, which fits, may not follow it: by this clause, which is the first that it breaks (6 the
-- program, 7 unqueued data, 8 queued data, 9 calls, 10 areas, 11 modes, 12 admission, 13 due events)
pub record IsRefusedBy (p : Plan) (clause : ℕ) (s : Session) (e : Entry) : Type 0 where
  pub before : is_legal p (history_of s) ≡ true
  pub fit : fits p e ≡ true
  pub broken : broken_clause p (history_of s) e ≡ Some clause

-- ---- objects

-- the entries that touch each of these objects are a past of it
abbrev pub EachIsPast : Plan → Session → (objects : List ℕ) → Type 0
EachIsPast p s [] = Unit {0}
EachIsPast p s (o ∷ os) = IsPastOf p o (entries_of p (history_of s) o) × EachIsPast p s os

-- each object keeps a past of its own
abbrev pub PartsIntoPasts : Plan → Session → Type 0
PartsIntoPasts p s = EachIsPast p s (positions p.objects)
