use Rattle.std.proofs.Common.{inl, inr, refl}
use Rattle.composition_tables.proofs.Members.{key_iff, same_number, itself_number}
use Rattle.end_search.proofs.sides.note_interface.Goals as goal

pub returns-clause-stays : goal.returns-clause-stays
returns-clause-stays c = λ i h. (key_iff _ same_number itself_number c.args.interfaces.now.keys c.args.interface c.insert.new.self.keys c.in_ok-insert.ensures.keys i).1 (inl h)

pub returns-clause-has : goal.returns-clause-has
returns-clause-has c = (key_iff _ same_number itself_number c.args.interfaces.now.keys c.args.interface c.insert.new.self.keys c.in_ok-insert.ensures.keys c.args.interface).1 (inr refl)
