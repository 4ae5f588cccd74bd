use Rattle.composition_tables.proofs.Pairs.{seen_more}
use Rattle.end_search.proofs.partners.note_pair.Goals as goal

pub returns : goal.returns
returns c = seen_more c.args.pairs.now.keys c.args.pair c.insert.new.self.keys c.in_ok-insert.ensures.keys
