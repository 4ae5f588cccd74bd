-- The lines of entries and of items, which are this project's own, as a trace is written.
use Rattle.std.specs.Prelude.{List, [], ◌∷◌, ◌++◌}
use Rattle.bus_semantics.specs.declared.entries.Stamped.{Stamped}
use Rattle.bus_semantics.specs.Common.{Plan, Session, Letters, entry_text, item_text}
use Rattle.script_run.specs.declared.writing.Writing.{Writing}

-- a line, behind the prefix
abbrev pub behind : Writing → Letters → Letters
behind w t = w.prefix.now ++ t

-- a line for each entry, in order
abbrev pub entries_text : Writing → Plan → List Stamped → Letters
entries_text w p [] = []
entries_text w p (s ∷ more) = behind w (entry_text w.version p s.entry) ++ entries_text w p more

-- a line for each item. A session has its newest item first, so its line stands at the end
abbrev pub lines_of : Writing → Plan → Session → Letters
lines_of w p [] = []
lines_of w p (i ∷ s) = lines_of w p s ++ behind w (item_text w.version p i)
