use Rattle.std.proofs.Common.{◌≡◌, ◌⊎◌, ◌<◌, ◌≤◌, ◌+◌, length, get_or, take, sym, ◌∙◌, ap, subst, arith, inl, inr, [], Some}
use Rattle.bus_semantics.specs.Common.{option_map_or, cases_lt, false≢true, words_of, plan_of}
use Rattle.bundle_objects.specs.Leading.{moment_in, value_kept}
use Rattle.bundle_objects.proofs.Marking.{moment_more}
use Rattle.bundle_objects.proofs.bundle.Bundle.moment.Goals as goal

pub returns-in-Err-clause-none : goal.returns-in-Err-clause-none
returns-in-Err-clause-none c = λ none.
    let p = plan_of c.args.p.now in
    let k = c.args.self.now.kept in
    let i = c.loop-elem.elem-index in
    let x = get_or c.args.elems.now i 0 in
    let value = c.in-Some.value in
    let kept : option_map_or words_of (value_kept p k x) [] ≡ words_of value = ap (λ o. option_map_or words_of o []) (sym c.value.ensures ∙ c.in-Some.is) in
    let long = moment_more p k c.args.elems.now i c.loop-elem-test.true in
    elim (cases_lt 16 (length c.loop-elem.words.items + length c.words.result.now)) [
      | inl many ↦ omega (arith, many, long, ap length kept, ap length c.words.ensures.words, ap length c.loop-elem.invariant)
      | inr few ↦ absurd (false≢true (c.in-Err.ensures.variant.1 few))
    ]
