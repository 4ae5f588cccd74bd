use Rattle.std.proofs.Common.{◌≡◌, length}
use Rattle.std.specs.List.{list_all}
use Rattle.line_fields.specs.Texts.{parts}
use Rattle.line_fields.specs.Numbers.{is_word}
use Rattle.line_fields.proofs.values.are_words.Given as goal

abbrev pub invariant-loop-after : goal.invariant-loop-after
invariant-loop-after l = list_all is_word (parts 44 l.text) ≡ list_all is_word (parts 44 l.rest)

abbrev pub decreases-loop-after : goal.decreases-loop-after
decreases-loop-after l = length l.rest
