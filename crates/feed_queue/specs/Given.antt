-- What is said of the wishes of feeds.
use Rattle.std.specs.Prelude.{ℕ, List, Bool, true, length, map, Vec}
use Rattle.bus_semantics.specs.Common.{Global, Plan, Wanted, to_tick}
use Rattle.bus_semantics.specs.declared.entries.Wish.{Wish}
use Rattle.script_reading.specs.Sentences.{may_call}
use Rattle.feed_queue.specs.declared.feeds.Feeds.{Feeds}

-- how many wishes each feed has
abbrev pub lengths_of : Feeds → List ℕ
lengths_of feeds = map (λ (v : Vec Wish Global). length v.items) feeds.wishes.items

-- a tick, or a call that the environment may make
abbrev pub may_give : Plan → Wanted → Bool
may_give p to_tick = true
may_give p w = may_call p w
