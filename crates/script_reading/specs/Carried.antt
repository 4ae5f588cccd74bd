-- What the environment may carry out of a script.
use Rattle.std.specs.Prelude.{◌≡◌, true}
use Rattle.bus_semantics.specs.declared.entries.Actor.TheVariants.{Env}
use Rattle.bus_semantics.specs.declared.script.Line.{Line}
use Rattle.bus_semantics.specs.declared.script.Line.TheVariants as line
use Rattle.bus_semantics.specs.Common.{wish_fits, Plan, wanted_of}

-- a line that the environment may carry out: its call is one that the environment may make
abbrev pub IsCarriable : Plan → Line → Type 0
IsCarriable p (line.Tick n) = Unit {0}
IsCarriable p line.Run = Unit {0}
IsCarriable p (line.Call w) = wish_fits p Env (wanted_of w) ≡ true
