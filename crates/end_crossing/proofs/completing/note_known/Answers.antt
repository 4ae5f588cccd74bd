use Rattle.std.proofs.Common.{inl, inr, ⊎_elim, refl}
use Rattle.end_crossing.proofs.KnownEnds.{sound_now, whole_now, known_now}
use Rattle.composition_tables.proofs.Members.{key_iff, same_number, itself_number}
use Rattle.end_crossing.proofs.completing.note_known.Goals as goal

pub returns-clause-side : goal.returns-clause-side
returns-clause-side c = λ d is are.
    let noted = key_iff _ same_number itself_number c.args.side.now.known.keys c.args.interface c.insert-2.new.self.keys c.in_ok-insert-2.ensures.keys in
    record {
      covers = is.covers;
      indexed = is.indexed;
      sound = sound_now d c.args.gate c.args.interface c.args.ends c.args.side.now.groups c.insert.new.self c.in_ok-insert.ensures.updates are is.sound;
      whole = λ all. whole_now d c.args.gate c.args.interface c.args.ends c.args.side.now.groups c.insert.new.self c.in_ok-insert.ensures.updates are (is.whole all);
      known = known_now d c.args.gate c.args.interface c.args.ends c.args.side.now.groups c.insert.new.self c.in_ok-insert.ensures.updates are c.args.side.now.known.keys c.insert-2.new.self.keys is.known noted;
    }

pub returns-clause-stays : goal.returns-clause-stays
returns-clause-stays c = λ q h. ⊎_elim (λ all. inl all) (λ k. inr ((key_iff _ same_number itself_number c.args.side.now.known.keys c.args.interface c.insert-2.new.self.keys c.in_ok-insert-2.ensures.keys q).1 (inl k))) h

pub returns-clause-has : goal.returns-clause-has
returns-clause-has c = inr ((key_iff _ same_number itself_number c.args.side.now.known.keys c.args.interface c.insert-2.new.self.keys c.in_ok-insert-2.ensures.keys c.args.interface).1 (inr refl))
