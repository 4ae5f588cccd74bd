use Rattle.composition_tables.proofs.Members.{key_iff}
use Rattle.end_search.proofs.SameEnds.{same_pair, itself_pair}
use Rattle.end_crossing.proofs.matched.Matched.note_done.Goals as goal

pub returns-clause-done : goal.returns-clause-done
returns-clause-done c = key_iff _ same_pair itself_pair c.args.self.now.done.keys (c.args.provided, c.args.required) c.insert.new.self.keys c.in_ok-insert.ensures.keys
