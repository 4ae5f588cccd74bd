use Rattle.composition_tables.proofs.Members.{key_iff, key_was}
use Rattle.composition_flatten.proofs.SameKeys.{same_key, itself_key}
use Rattle.composition_flatten.proofs.wiring.was_noted.Goals as goal

pub returns-clause-answer : goal.returns-clause-answer
returns-clause-answer c = key_was _ same_key itself_key c.args.noted.now.keys c.args.key c.in_ok-is_new.is_new c.in_ok-is_new.ensures.added

pub returns-clause-noted : goal.returns-clause-noted
returns-clause-noted c = key_iff _ same_key itself_key c.args.noted.now.keys c.args.key c.insert.new.self.keys c.in_ok-is_new.ensures.keys
