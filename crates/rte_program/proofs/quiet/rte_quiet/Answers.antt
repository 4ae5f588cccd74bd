use Rattle.std.proofs.Common.{ap, map, option_map, string_bytes, sym, ◌∙◌}
use Rattle.std.proofs.lemmas.Option.{IfSome_then}
use Rattle.commands.specs.Carrying.{world}
use Rattle.commands.specs.Commands.{meant}
use Rattle.rte_program.proofs.Coming.{comes}
use Rattle.rte_program.proofs.Ending as by
use Rattle.rte_program.proofs.quiet.rte_quiet.Goals as goal

pub returns-in-Some-clause-answers : goal.returns-in-Some-clause-answers
returns-in-Some-clause-answers g c = IfSome_then c.carry_out_quietly.result c.carry_out_quietly.ensures.ends (λ status ended. by.answers (map string_bytes c.args.words.now) (meant c.in-Some.command) (sym c.command_in.ensures.command ∙ ap (option_map meant) c.in-Some.is) status
    (world (g.S.Shelf.files c.args.shelf.now) (g.S.Shelf.faults c.args.shelf.now) (g.S.Shelf.long_files c.args.shelf.now) (g.S.Shelf.fetches c.args.shelf.now) (g.K.Sink.told c.args.out.now) (g.K.Sink.faults c.args.out.now))
    (world (g.S.Shelf.files c.carry_out_quietly.new.shelf) (g.S.Shelf.faults c.carry_out_quietly.new.shelf) (g.S.Shelf.long_files c.carry_out_quietly.new.shelf) (g.S.Shelf.fetches c.carry_out_quietly.new.shelf) (g.K.Sink.told c.carry_out_quietly.new.out) (g.K.Sink.faults c.carry_out_quietly.new.out))
    ended)

pub returns-in-Some-clause-not_read : goal.returns-in-Some-clause-not_read
returns-in-Some-clause-not_read g c = IfSome_then c.carry_out_quietly.result c.carry_out_quietly.ensures.ends (λ status ended. by.not_read (map string_bytes c.args.words.now) (meant c.in-Some.command) (sym c.command_in.ensures.command ∙ ap (option_map meant) c.in-Some.is) status
    (world (g.S.Shelf.files c.args.shelf.now) (g.S.Shelf.faults c.args.shelf.now) (g.S.Shelf.long_files c.args.shelf.now) (g.S.Shelf.fetches c.args.shelf.now) (g.K.Sink.told c.args.out.now) (g.K.Sink.faults c.args.out.now))
    (world (g.S.Shelf.files c.carry_out_quietly.new.shelf) (g.S.Shelf.faults c.carry_out_quietly.new.shelf) (g.S.Shelf.long_files c.carry_out_quietly.new.shelf) (g.S.Shelf.fetches c.carry_out_quietly.new.shelf) (g.K.Sink.told c.carry_out_quietly.new.out) (g.K.Sink.faults c.carry_out_quietly.new.out))
    ended)

pub returns-in-Some-clause-not_written : goal.returns-in-Some-clause-not_written
returns-in-Some-clause-not_written g c = IfSome_then c.carry_out_quietly.result c.carry_out_quietly.ensures.ends (λ status ended. by.not_written (map string_bytes c.args.words.now) (meant c.in-Some.command) (sym c.command_in.ensures.command ∙ ap (option_map meant) c.in-Some.is) status
    (world (g.S.Shelf.files c.args.shelf.now) (g.S.Shelf.faults c.args.shelf.now) (g.S.Shelf.long_files c.args.shelf.now) (g.S.Shelf.fetches c.args.shelf.now) (g.K.Sink.told c.args.out.now) (g.K.Sink.faults c.args.out.now))
    (world (g.S.Shelf.files c.carry_out_quietly.new.shelf) (g.S.Shelf.faults c.carry_out_quietly.new.shelf) (g.S.Shelf.long_files c.carry_out_quietly.new.shelf) (g.S.Shelf.fetches c.carry_out_quietly.new.shelf) (g.K.Sink.told c.carry_out_quietly.new.out) (g.K.Sink.faults c.carry_out_quietly.new.out))
    ended)

pub returns-in-Some-clause-cut : goal.returns-in-Some-clause-cut
returns-in-Some-clause-cut g c = IfSome_then c.carry_out_quietly.result c.carry_out_quietly.ensures.ends (λ status ended. by.cut (map string_bytes c.args.words.now) (meant c.in-Some.command) (sym c.command_in.ensures.command ∙ ap (option_map meant) c.in-Some.is) status
    (world (g.S.Shelf.files c.args.shelf.now) (g.S.Shelf.faults c.args.shelf.now) (g.S.Shelf.long_files c.args.shelf.now) (g.S.Shelf.fetches c.args.shelf.now) (g.K.Sink.told c.args.out.now) (g.K.Sink.faults c.args.out.now))
    (world (g.S.Shelf.files c.carry_out_quietly.new.shelf) (g.S.Shelf.faults c.carry_out_quietly.new.shelf) (g.S.Shelf.long_files c.carry_out_quietly.new.shelf) (g.S.Shelf.fetches c.carry_out_quietly.new.shelf) (g.K.Sink.told c.carry_out_quietly.new.out) (g.K.Sink.faults c.carry_out_quietly.new.out))
    ended)

pub returns-in-Some-clause-no_write_fault : goal.returns-in-Some-clause-no_write_fault
returns-in-Some-clause-no_write_fault g c = IfSome_then c.carry_out_quietly.result c.carry_out_quietly.ensures.ends (λ status ended. by.no_write_fault (map string_bytes c.args.words.now) (meant c.in-Some.command) (sym c.command_in.ensures.command ∙ ap (option_map meant) c.in-Some.is) status
    (world (g.S.Shelf.files c.args.shelf.now) (g.S.Shelf.faults c.args.shelf.now) (g.S.Shelf.long_files c.args.shelf.now) (g.S.Shelf.fetches c.args.shelf.now) (g.K.Sink.told c.args.out.now) (g.K.Sink.faults c.args.out.now))
    (world (g.S.Shelf.files c.carry_out_quietly.new.shelf) (g.S.Shelf.faults c.carry_out_quietly.new.shelf) (g.S.Shelf.long_files c.carry_out_quietly.new.shelf) (g.S.Shelf.fetches c.carry_out_quietly.new.shelf) (g.K.Sink.told c.carry_out_quietly.new.out) (g.K.Sink.faults c.carry_out_quietly.new.out))
    ended)

pub returns-in-Some-clause-no_read_fault : goal.returns-in-Some-clause-no_read_fault
returns-in-Some-clause-no_read_fault g c = IfSome_then c.carry_out_quietly.result c.carry_out_quietly.ensures.ends (λ status ended. by.no_read_fault (map string_bytes c.args.words.now) (meant c.in-Some.command) (sym c.command_in.ensures.command ∙ ap (option_map meant) c.in-Some.is) status
    (world (g.S.Shelf.files c.args.shelf.now) (g.S.Shelf.faults c.args.shelf.now) (g.S.Shelf.long_files c.args.shelf.now) (g.S.Shelf.fetches c.args.shelf.now) (g.K.Sink.told c.args.out.now) (g.K.Sink.faults c.args.out.now))
    (world (g.S.Shelf.files c.carry_out_quietly.new.shelf) (g.S.Shelf.faults c.carry_out_quietly.new.shelf) (g.S.Shelf.long_files c.carry_out_quietly.new.shelf) (g.S.Shelf.fetches c.carry_out_quietly.new.shelf) (g.K.Sink.told c.carry_out_quietly.new.out) (g.K.Sink.faults c.carry_out_quietly.new.out))
    ended)

pub returns-in-Some-clause-words : goal.returns-in-Some-clause-words
returns-in-Some-clause-words g c = IfSome_then c.carry_out_quietly.result c.carry_out_quietly.ensures.ends (λ status ended is. absurd (by.no_words (map string_bytes c.args.words.now) (meant c.in-Some.command) (sym c.command_in.ensures.command ∙ ap (option_map meant) c.in-Some.is) status
    (world (g.S.Shelf.files c.args.shelf.now) (g.S.Shelf.faults c.args.shelf.now) (g.S.Shelf.long_files c.args.shelf.now) (g.S.Shelf.fetches c.args.shelf.now) (g.K.Sink.told c.args.out.now) (g.K.Sink.faults c.args.out.now))
    (world (g.S.Shelf.files c.carry_out_quietly.new.shelf) (g.S.Shelf.faults c.carry_out_quietly.new.shelf) (g.S.Shelf.long_files c.carry_out_quietly.new.shelf) (g.S.Shelf.fetches c.carry_out_quietly.new.shelf) (g.K.Sink.told c.carry_out_quietly.new.out) (g.K.Sink.faults c.carry_out_quietly.new.out))
    ended is))

pub returns-in-Some-clause-comes : goal.returns-in-Some-clause-comes
returns-in-Some-clause-comes g c = IfSome_then c.carry_out_quietly.result c.carry_out_quietly.ensures.ends (λ status ended. λ command files verdict asked held is.
    comes c.verdicts_are_one.ensures (map string_bytes c.args.words.now) (meant c.in-Some.command) (sym c.command_in.ensures.command ∙ ap (option_map meant) c.in-Some.is) status
    (world (g.S.Shelf.files c.args.shelf.now) (g.S.Shelf.faults c.args.shelf.now) (g.S.Shelf.long_files c.args.shelf.now) (g.S.Shelf.fetches c.args.shelf.now) (g.K.Sink.told c.args.out.now) (g.K.Sink.faults c.args.out.now))
    (world (g.S.Shelf.files c.carry_out_quietly.new.shelf) (g.S.Shelf.faults c.carry_out_quietly.new.shelf) (g.S.Shelf.long_files c.carry_out_quietly.new.shelf) (g.S.Shelf.fetches c.carry_out_quietly.new.shelf) (g.K.Sink.told c.carry_out_quietly.new.out) (g.K.Sink.faults c.carry_out_quietly.new.out))
    command files verdict asked held is ended)
