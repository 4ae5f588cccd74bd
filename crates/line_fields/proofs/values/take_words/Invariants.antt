use Rattle.std.proofs.Common.{◌≡◌, ◌++◌, true, length, map}
use Rattle.std.specs.List.{list_all}
use Rattle.line_fields.specs.Texts.{parts}
use Rattle.line_fields.specs.Numbers.{is_held, is_word, word_in}
use Rattle.line_fields.proofs.values.take_words.Given as goal

abbrev pub invariant-loop-after : goal.invariant-loop-after
invariant-loop-after l = record {
  words : list_all is_word (parts 44 l.rest) ≡ true;
  held : list_all is_held (map word_in (parts 44 l.text)) ≡ list_all is_held (map word_in (parts 44 l.rest));
  taken : l.fn.held.items ++ map word_in (parts 44 l.text) ≡ l.held.items ++ map word_in (parts 44 l.rest);
}

abbrev pub decreases-loop-after : goal.decreases-loop-after
decreases-loop-after l = length l.rest
