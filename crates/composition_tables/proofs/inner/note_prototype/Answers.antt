use Rattle.composition_tables.proofs.Members.{key_iff, same_number, itself_number}
use Rattle.composition_tables.proofs.inner.note_prototype.Goals as goal

pub returns : goal.returns
returns c = key_iff _ same_number itself_number c.args.prototypes.now.keys c.args.prototype c.insert.new.self.keys c.in_ok-insert.ensures.keys
