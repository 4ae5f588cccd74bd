use Rattle.composition_tables.proofs.Members.{key_iff}
use Rattle.end_search.proofs.SameEnds.{same_end, itself_end}
use Rattle.end_search.proofs.Wishing.{sought_one}
use Rattle.end_search.proofs.seek.note_end.Goals as goal

pub returns-clause-found : goal.returns-clause-found
returns-clause-found c = sought_one c.args.found.now.keys c.insert.new.self.keys c.args.end _ (key_iff _ same_end itself_end c.args.found.now.keys c.args.end c.insert.new.self.keys c.in_ok-insert.ensures.keys)
