-- The check along a trace that is legal so far, line by line. Sessions stand the newest first.
use Rattle.std.specs.Prelude.{◌≡◌, ◌∷◌, ◌++◌, true}
use Rattle.bus_semantics.specs.declared.entries.Actor.{Actor}
use Rattle.bus_semantics.specs.Common.{Wanted, item_fits, Item, Session, history_of, Letters, item_text}
use Rattle.trace_objects.specs.Going.{Asks}
use Rattle.trace_check.specs.declared.rules.Rules.{Rules}
use Rattle.trace_check.specs.declared.check.Check.{Check}
use Rattle.trace_check.specs.declared.check.Gone.{Gone}
use Rattle.trace_check.specs.declared.check.Gone.TheVariants.{To, Nowhere, Astray}
use Rattle.trace_check.specs.Along.{plan_in}
use Rattle.trace_check.specs.Checking.{Stands}

-- the text begins with the line of an item that may come next, and the check stands for the session and it
pub record TakesLine (r : Rules) (s : Session) (text more : Letters) (new : Check) : Type 0 where
  pub item : Item
  pub fit : item_fits (plan_in r) item ≡ true
  pub whole : text ≡ item_text r.version (plan_in r) item ++ more
  pub stands : Stands r (item ∷ s) new

-- for some session, after which the actor asks for this
pub record CanGoOn (r : Rules) (c : Check) (a : Actor) (w : Wanted) : Type 0 where
  pub session : Session
  pub stands : Stands r session c
  pub asks : Asks (plan_in r) (history_of session) a w

-- it goes on by a line, or stands as before; nothing is known if it went astray
abbrev pub Goes : Rules → Session → (text : Letters) → (new : Check) → Gone → Type 0
Goes r s text new (To more) = TakesLine r s text more.now new
Goes r s text new Nowhere = Stands r s new
Goes r s text new Astray = Unit {0}
