use Rattle.std.proofs.Common.{[], inl, inr, refl, sym}
use Rattle.std.proofs.lemmas.List.{append-nil}
use Rattle.composition_tables.proofs.Members.{key_iff, same_number, itself_number}
use Rattle.end_search.proofs.below.note_interface.Goals as goal

pub returns-clause-stays : goal.returns-clause-stays
returns-clause-stays c = record {
  seen = ([], sym (append-nil c.args.search.now.seen.keys));
  found = λ i h. (key_iff _ same_number itself_number c.args.search.now.found.keys c.args.interface c.insert.new.self.keys c.in_ok-insert.ensures.keys i).1 (inl h);
}

pub returns-clause-found : goal.returns-clause-found
returns-clause-found c = (key_iff _ same_number itself_number c.args.search.now.found.keys c.args.interface c.insert.new.self.keys c.in_ok-insert.ensures.keys c.args.interface).1 (inr refl)
