use Rattle.std.proofs.Common.{ℕ, List, Bor, refl, sym, subst}
use Rattle.std.proofs.lemmas.Bool.{ltb-true}
use Rattle.std.proofs.lemmas.Option.{slice_get_read, slice_get_past}
use Rattle.description_types.specs.Items.{interface_at}
use Rattle.description_types.specs.Members.{Among}
use Rattle.end_search.specs.Sharing.{interface_keys}
use Rattle.end_search.proofs.Keying.{listed_keys, unlisted_keys, unmapped}
use Rattle.end_search.proofs.partners.note_shared.Goals as goal

pub returns-in_ok-note_partners-in-Some-clause-has :
    goal.returns-in_ok-note_partners-in-Some-clause-has
returns-in_ok-note_partners-in-Some-clause-has c = λ others indexed j a s.
    let here = subst (Among s.0)
    (sym (listed_keys c.args.d.now c.args.interfaces.now c.args.interface c.requires c.in-Some.listed.now c.as_slice.result.now
    (slice_get_read c.args.interfaces.now _ c.args.interface c.in-Some.listed.now refl (ltb-true _ _ (sym c.in-Some.ensures.lookup.0)) c.in-Some.ensures.lookup.1) c.as_slice.ensures.value)) s.1 in
    let q = unmapped (λ (k : ℕ × Bor (List ℕ)). (k.0, k.1.now)) c.as_slice.result.now s.0 here in
    c.in_ok-note_partners-in-Some.ensures.has q.0 j q.1 (indexed q.0 j a (subst (λ key. Among key (interface_keys (interface_at c.args.d.now j))) q.2 s.2))

pub returns-in-None-clause-has : goal.returns-in-None-clause-has
returns-in-None-clause-has c = λ others indexed j a s. absurd (subst (Among s.0) (unlisted_keys c.args.d.now c.args.interfaces.now c.args.interface c.requires (slice_get_past c.args.interfaces.now c.args.interface c.in-None.ensures.lookup.3)) s.1)
