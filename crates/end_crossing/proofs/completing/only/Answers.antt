use Rattle.std.proofs.Common.{inr, refl}
use Rattle.composition_tables.proofs.Members.{key_iff, same_number, itself_number}
use Rattle.end_crossing.proofs.completing.only.Goals as goal

pub returns : goal.returns
returns c = (key_iff _ same_number itself_number c.new-found.result.keys c.args.interface c.insert.new.self.keys c.in_ok-insert.ensures.keys c.args.interface).1 (inr refl)
