use Rattle.std.proofs.Common.{refl, sym, subst}
use Rattle.std.proofs.lemmas.Bool.{ltb-true}
use Rattle.std.proofs.lemmas.Option.{slice_get_read, slice_get_past}
use Rattle.description_types.specs.Members.{Among}
use Rattle.end_search.proofs.Keying.{listed_keys, unlisted_keys}
use Rattle.end_search.proofs.partners.note_interface.Goals as goal

pub returns-in_ok-note_keys-in-Some-clause-has : goal.returns-in_ok-note_keys-in-Some-clause-has
returns-in_ok-note_keys-in-Some-clause-has c = λ q a. c.in_ok-note_keys-in-Some.ensures.has q (subst (Among (q.0, q.1.now))
    (sym (listed_keys c.args.d.now c.args.interfaces.now c.args.interface c.requires c.in-Some.listed.now c.as_slice.result.now
    (slice_get_read c.args.interfaces.now _ c.args.interface c.in-Some.listed.now refl (ltb-true _ _ (sym c.in-Some.ensures.lookup.0)) c.in-Some.ensures.lookup.1) c.as_slice.ensures.value)) a)

pub returns-in-None-clause-has : goal.returns-in-None-clause-has
returns-in-None-clause-has c = λ q a. absurd (subst (Among (q.0, q.1.now)) (unlisted_keys c.args.d.now c.args.interfaces.now c.args.interface c.requires (slice_get_past c.args.interfaces.now c.args.interface c.in-None.ensures.lookup.3)) a)
