use Rattle.std.proofs.Common.{rules, string_bytes, sym}
use Rattle.commands.proofs.Words.{none_long, none_short}
use Rattle.commands.proofs.command.command_in.Goals.{in_default-via-then-words-lt2, in_default-via-else-words-lt2+else-words-lt3+else-words-lt4+else-words-lt5}
use Rattle.commands.proofs.command.command_in.Goals as goal

pub returns-in_default-clause-command : goal.returns-in_default-clause-command
returns-in_default-clause-command c = elim c.in_default.branch [
  | in_default-via-then-words-lt2 w ↦ sym (none_short string_bytes c.args.words.now (search rules))
  | in_default-via-else-words-lt2+else-words-lt3+else-words-lt4+else-words-lt5 w ↦ sym (none_long string_bytes c.args.words.now (search rules))
]
