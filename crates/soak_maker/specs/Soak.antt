-- The description with which a node is soaked: n producers, n consumers and a server, on four cores.
use Rattle.std.specs.Prelude.{ℕ, [], ◌∷◌, ◌++◌, codes}
use Rattle.serde_json.specs.Data.{Data, number, string, unsigned}
use Rattle.soak_maker.specs.declared.parts.Numbered.TheVariants.{Producer, Consumer, Queue, Service, ProducerTask, ConsumerTask, Producing, Consuming}
use Rattle.soak_maker.specs.Components.{consumer_text, data_types_text, interfaces_text, producer_text, server_text}
use Rattle.soak_maker.specs.Json.{each, fields, list, written}
use Rattle.soak_maker.specs.Parts.{in_task, part, prototype, task}

abbrev pub components : Data
components = list (written producer_text ∷ written consumer_text ∷ written server_text ∷ [])

abbrev pub prototypes : ℕ → Data
prototypes n = list ((each n (part Producer) ++ each n (part Consumer)) ++ prototype (codes "acc") (codes "Acc") ∷ [])

abbrev pub connectors : ℕ → Data
connectors n = list (each n (part Queue) ++ each n (part Service))

abbrev pub compositions : ℕ → Data
compositions n = list (fields (
    (codes "shortName", string (codes "Top")) ∷ (codes "prototypes", prototypes n) ∷ (codes "connectors", connectors n) ∷ []) ∷ [])

abbrev pub tasks : Data
tasks = list ((each 4 (part ProducerTask) ++ each 4 (part ConsumerTask)) ++ task (codes "A") 0 ∷ [])

-- in the order of the prototypes
abbrev pub events : ℕ → Data
events n = list ((each n (part Producing) ++ each n (part Consuming)) ++ in_task (codes "acc") (codes "A") 0 ∷ [])

abbrev pub mapping : ℕ → Data
mapping n = fields ((codes "cores", number (unsigned 4)) ∷ (codes "tasks", tasks) ∷ (codes "events", events n) ∷ [])

abbrev pub soak_value : ℕ → Data
soak_value n = fields (
    (codes "dataTypes", written data_types_text)
    ∷ (codes "interfaces", written interfaces_text)
    ∷ (codes "components", components)
    ∷ (codes "compositions", compositions n)
    ∷ (codes "root", string (codes "Top"))
    ∷ (codes "mapping", mapping n) ∷ [])
