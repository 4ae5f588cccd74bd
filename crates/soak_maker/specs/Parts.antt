-- What each pair of a producer and a consumer adds to a description.
use Rattle.std.specs.Prelude.{ℕ, ◌+◌, ◌%◌, List, [], ◌∷◌, ◌++◌, codes, decimal}
use Rattle.serde_json.specs.Data.{Data, number, string, unsigned}
use Rattle.soak_maker.specs.declared.parts.Numbered.{Numbered}
use Rattle.soak_maker.specs.declared.parts.Numbered.TheVariants.{Producer, Consumer, Queue, Service, ProducerTask, ConsumerTask, Producing, Consuming}
use Rattle.soak_maker.specs.Json.{fields, list}

-- a letter and a number
abbrev pub name : List ℕ → ℕ → List ℕ
name letter i = letter ++ decimal i

-- SwComponentPrototype
abbrev pub prototype : (name : List ℕ) → (component : List ℕ) → Data
prototype name component = fields ((codes "shortName", string name) ∷ (codes "type", string component) ∷ [])

-- AssemblySwConnector: both ports have this name
abbrev pub assembly : (provider : List ℕ) → (requester : List ℕ) → (port : List ℕ) → Data
assembly provider requester port = fields (
    (codes "kind", string (codes "AssemblySwConnector"))
    ∷ (codes "provider", list (string provider ∷ string port ∷ []))
    ∷ (codes "requester", list (string requester ∷ string port ∷ [])) ∷ [])

-- OsTask
abbrev pub task : (name : List ℕ) → (core : ℕ) → Data
task name core = fields ((codes "shortName", string name) ∷ (codes "core", number (unsigned core)) ∷ [])

-- RteEventToTaskMapping
abbrev pub in_task : (instance : List ℕ) → (task : List ℕ) → (position : ℕ) → Data
in_task instance task position = fields (
    (codes "instance", string instance) ∷ (codes "event", string (codes "Ev")) ∷ (codes "task", string task)
    ∷ (codes "position", number (unsigned position)) ∷ [])

-- the part of this number. A producer is in the task of its number modulo 4, a consumer in the next one
abbrev pub part : Numbered → ℕ → Data
part Producer i = prototype (name (codes "p") i) (codes "Prod")
part Consumer i = prototype (name (codes "c") i) (codes "Cons")
part Queue i = assembly (name (codes "p") i) (name (codes "c") i) (codes "q")
part Service i = assembly (codes "acc") (name (codes "p") i) (codes "s")
part ProducerTask i = task (name (codes "P") i) i
part ConsumerTask i = task (name (codes "C") i) i
part Producing i = in_task (name (codes "p") i) (name (codes "P") (i % 4)) i
part Consuming i = in_task (name (codes "c") i) (name (codes "C") ((i % 4 + 1) % 4)) i
