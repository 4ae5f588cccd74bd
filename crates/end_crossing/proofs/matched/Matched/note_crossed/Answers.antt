use Rattle.composition_tables.proofs.Members.{key_iff}
use Rattle.end_crossing.proofs.SameCrossings.{crossing_is, itself_crossing}
use Rattle.end_crossing.proofs.matched.Matched.note_crossed.Goals as goal

pub returns-clause-crossed : goal.returns-clause-crossed
returns-clause-crossed c = key_iff _ crossing_is itself_crossing c.args.self.now.crossed.keys c.args.crossing c.insert.new.self.keys c.in_ok-insert.ensures.keys
