-- A script in words: the text is the spellings of its lines.
use Rattle.std.specs.Prelude.{◌≡◌, List, filter, map, true, false, not}
use Rattle.bus_semantics.specs.Common.{list_all, Plan, Letters}
use Rattle.bus_semantics.specs.declared.script.Line.{Line}
use Rattle.script_reading.specs.Meaning.{asked_of, saying}
use Rattle.script_reading.specs.Sentences.{is_blank, may_ask, pass_limit, text_of}
use Rattle.line_fields.specs.Texts.{lines_of}

-- the lines that are not blank
abbrev pub spoken : List Letters → List Letters
spoken ts = filter (λ t. not (is_blank t)) ts

-- those are the spellings of what these lines ask for, in order, one for each; the environment may ask for each; no limit is passed
pub record SpellsScript (p : Plan) (bytes : Letters) (lines : List Line) : Type 0 where
  pub texts : spoken (lines_of bytes) ≡ map (text_of p) (map asked_of lines)
  pub may : list_all (may_ask p) (map asked_of lines) ≡ true
  pub limits : pass_limit (saying p) (lines_of bytes) ≡ false
