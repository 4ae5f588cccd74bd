-- What a writer leaves in a line of 2,048 bytes: its text at the end, if there is room for it.
use Rattle.std.specs.Prelude.{◌≡◌, ◌+◌, ◌≤◌, ◌++◌, length}
use Rattle.bus_semantics.specs.Spelling.{Letters}

pub record Appends (old new text : Letters) : Type 0 where
  pub appended : length old + length text ≤ 2048 → new ≡ old ++ text
