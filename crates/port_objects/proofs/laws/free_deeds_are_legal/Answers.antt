use Rattle.std.proofs.Common.{◌≡◌, true, sym, subst, None}
use Rattle.std.specs.Prelude.{unwrap_or}
use Rattle.bus_semantics.specs.Common.{event_of, object_of, calls_allow}
use Rattle.port_objects.specs.Freed.{is_free}
use Rattle.port_objects.proofs.Freeing.{one_free, free_answers}
use Rattle.port_objects.proofs.laws.free_deeds_are_legal.Goals as goal

pub returns-clause-answers : goal.returns-clause-answers
returns-clause-answers c = λ p m a w d h sound fit alone is free.
    free_answers p a h d (unwrap_or (event_of w) 0) (subst (λ v. is_free v ≡ true) (sym is.wish) free) (subst (λ v. object_of p a v ≡ None) (sym is.wish) alone) is.codes

pub returns-clause-only : goal.returns-clause-only
returns-clause-only c = λ p m a w d h n sound fit alone is free who wish answers.
    let allowed : calls_allow p h a n.entry.deed ≡ true = subst (λ z. calls_allow p h z n.entry.deed ≡ true) who answers.calls in
    let same : n.entry.deed ≡ d = one_free p a h d n.entry.deed allowed w (unwrap_or (event_of w) 0) (unwrap_or n.event 0) alone free is.wish is.codes wish in
    λ i. record { actor = who i; deed = same i }
