-- What does not depend on the number of pairs, as JSON text: it is the value that this is read as.
use Rattle.std.specs.Prelude.{ℕ, List, ◌++◌, codes}

-- the payload of a queue has four words, every other value one
abbrev pub data_types_text : List ℕ
data_types_text =
    codes "[{\"shortName\": \"Pay\", \"baseType\": \"uint32\", \"lower\": 0, \"upper\": 1000000, \"words\": 4},\n"
    ++ codes "{\"shortName\": \"Num\", \"baseType\": \"uint32\", \"lower\": 0, \"upper\": 1000000, \"words\": 1}]"

-- a queued element, and an operation
abbrev pub interfaces_text : List ℕ
interfaces_text =
    codes "[{\"kind\": \"SenderReceiverInterface\", \"shortName\": \"Q\", \"dataElements\": [\n"
    ++ codes "{\"shortName\": \"d\", \"type\": \"Pay\", \"swImplPolicy\": \"queued\"}]},\n"
    ++ codes "{\"kind\": \"ClientServerInterface\", \"shortName\": \"S\", \"operations\": [{\"shortName\": \"add\", \"arguments\": [\n"
    ++ codes "{\"shortName\": \"x\", \"type\": \"Num\", \"direction\": \"in\"}, {\"shortName\": \"t\", \"type\": \"Num\", \"direction\": \"out\"}]}]}]"

-- at each tenth tick it sends four payloads and calls the server
abbrev pub producer_text : List ℕ
producer_text =
    codes "{\"shortName\": \"Prod\", \"ports\": [\n"
    ++ codes "{\"kind\": \"PPortPrototype\", \"shortName\": \"q\", \"interface\": \"Q\"},\n"
    ++ codes "{\"kind\": \"RPortPrototype\", \"shortName\": \"s\", \"interface\": \"S\"}],\n"
    ++ codes "\"behavior\": {\"variables\": [{\"shortName\": \"n\", \"type\": \"Num\"}], \"runnables\": [{\"shortName\": \"Make\",\n"
    ++ codes "\"accesses\": [[\"irvRead\", \"n\"], [\"send\", \"q\", \"d\"], [\"irvWrite\", \"n\"], [\"call\", \"s\", \"add\"]],\n"
    ++ codes "\"program\": [[\"irvRead\", \"n\", [\"k\"]],\n"
    ++ codes "[\"repeat\", 4, [[\"set\", \"k\", [\"add\", \"k\", 1]], [\"send\", \"q\", \"d\", [\"k\", \"k\", \"k\", \"k\"], \"e\"]]],\n"
    ++ codes "[\"irvWrite\", \"n\", [\"k\"]], [\"call\", \"s\", \"add\", [\"k\"], [\"t\"], \"e\"]]}],\n"
    ++ codes "\"events\": [{\"kind\": \"TimingEvent\", \"shortName\": \"Ev\", \"runnable\": \"Make\", \"period\": 10}]}}"

-- whenever a payload comes it takes up to eight, inside an exclusive area, and counts them
abbrev pub consumer_text : List ℕ
consumer_text =
    codes "{\"shortName\": \"Cons\", \"ports\": [\n"
    ++ codes "{\"kind\": \"RPortPrototype\", \"shortName\": \"q\", \"interface\": \"Q\", \"comSpecs\": [{\"element\": \"d\", \"queueLength\": 8}]}],\n"
    ++ codes "\"behavior\": {\"exclusiveAreas\": [\"a\"], \"variables\": [{\"shortName\": \"m\", \"type\": \"Num\"}], \"runnables\": [{\"shortName\": \"Take\",\n"
    ++ codes "\"accesses\": [[\"enter\", \"a\"], [\"receive\", \"q\", \"d\"], [\"irvRead\", \"m\"], [\"irvWrite\", \"m\"]],\n"
    ++ codes "\"program\": [[\"area\", \"a\", [[\"repeat\", 8, [[\"receive\", \"q\", \"d\", [\"w\", \"x\", \"y\", \"z\"], \"e\"],\n"
    ++ codes "[\"if\", [\"eq\", \"e\", 131], [], [[\"irvRead\", \"m\", [\"c\"]], [\"irvWrite\", \"m\", [[\"add\", \"c\", 1]]]]]]]]]]}],\n"
    ++ codes "\"events\": [{\"kind\": \"DataReceivedEvent\", \"shortName\": \"Ev\", \"runnable\": \"Take\", \"port\": \"q\", \"element\": \"d\"}]}}"

-- it sums what it is given
abbrev pub server_text : List ℕ
server_text =
    codes "{\"shortName\": \"Acc\", \"ports\": [\n"
    ++ codes "{\"kind\": \"PPortPrototype\", \"shortName\": \"s\", \"interface\": \"S\", \"comSpecs\": [{\"element\": \"add\", \"queueLength\": 64}]}],\n"
    ++ codes "\"behavior\": {\"variables\": [{\"shortName\": \"sum\", \"type\": \"Num\"}], \"runnables\": [{\"shortName\": \"Add\",\n"
    ++ codes "\"accesses\": [[\"irvRead\", \"sum\"], [\"irvWrite\", \"sum\"]],\n"
    ++ codes "\"program\": [[\"irvRead\", \"sum\", [\"t\"]], [\"set\", \"t\", [\"add\", \"t\", \"x\"]], [\"irvWrite\", \"sum\", [\"t\"]]]}],\n"
    ++ codes "\"events\": [{\"kind\": \"OperationInvokedEvent\", \"shortName\": \"Ev\", \"runnable\": \"Add\", \"port\": \"s\", \"operation\": \"add\"}]}}"
