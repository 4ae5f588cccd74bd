-- Maps with a list for each key.
use Rattle.std.specs.Prelude.{List, [], Option, Vec}
use Rattle.std.specs.Global.{Global}
use Rattle.std.specs.Option.{option_map_or}

-- the list that was found, if any
abbrev pub under : {X : Type 0} → Option (Vec X Global) → List X
under found = option_map_or (λ v. v.items) found []
