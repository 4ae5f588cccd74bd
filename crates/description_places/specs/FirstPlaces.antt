-- Where the names of a list first stand, and what accesses and positions are told apart by.
use Rattle.std.specs.Prelude.{ℕ, List, [], ◌++◌, map, option_and_then, unwrap_or, codes}
use Rattle.std.specs.Fmt.{decimal}
use Rattle.serde_json.specs.Data.{Data, array, Items, no_items, item}
use Rattle.serde_json.specs.Find.{as_number, as_u64, get}
use Rattle.declared_names.specs.Names.{Names, position_in}
use Rattle.declared_names.specs.Values.{text_at, text_in}

-- the position of the first one of each name's text
abbrev pub first_places : Names → List ℕ
first_places ns = map (position_in ns) ns

-- the parts of an access, each after a space
abbrev pub parts_text : Items → List ℕ
parts_text no_items = []
parts_text (item d ds) = codes " " ++ (text_in d ++ parts_text ds)

abbrev pub access_text : Data → List ℕ
access_text (array ds) = parts_text ds
access_text _ = []

-- the task of a mapped event, a space and the position in it
abbrev pub task_text : (task : List ℕ) → (position : ℕ) → List ℕ
task_text task position = (task ++ codes " ") ++ decimal position

abbrev pub position_text : Data → List ℕ
position_text d = task_text (text_at (codes "task") d) (unwrap_or (option_and_then as_u64 (option_and_then as_number (get (codes "position") d))) 0)
