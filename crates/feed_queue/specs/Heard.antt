-- What code makes of a line.
use Rattle.std.specs.Prelude.{List, [], ◌∷◌, replicate}
use Rattle.bus_semantics.specs.Wanted.{Wanted, to_tick, wanted_of}
use Rattle.feed_queue.specs.declared.heard.Gift.{Gift}
use Rattle.feed_queue.specs.declared.heard.Gift.TheVariants as gift
use Rattle.feed_queue.specs.declared.heard.Heard.{Heard}
use Rattle.feed_queue.specs.declared.heard.Heard.TheVariants as heard
use Rattle.feed_queue.specs.Stimuli.{Stimulus, silent, stops, gives, unfit}

abbrev pub wishes_of : Gift → List Wanted
wishes_of (gift.Ticks n) = replicate n to_tick
wishes_of (gift.Call w) = wanted_of w ∷ []

abbrev pub heard_as : Heard → Stimulus
heard_as heard.Nothing = silent
heard_as heard.Stop = stops
heard_as (heard.Feed f g) = gives f (wishes_of g)
heard_as (heard.Bad cause) = unfit cause
