use Rattle.std.proofs.Common.{◌≡◌, Some, None, refl, slice_get, subst}
use Rattle.std.proofs.lemmas.Option.{slice_get_past, slice_get_read}
use Rattle.trace_text.proofs.Appending.{appends_both, appends_nothing}
use Rattle.trace_text.proofs.actors.write_point.Goals as goal

pub returns-in-Some : goal.returns-in-Some
returns-in-Some c =
    let point = c.in-Some.point.now in
    let there = c.in-Some.ensures.lookup in
    let found : slice_get c.args.p.now.points c.args.point ≡ Some point =
    subst (λ ps. slice_get ps c.args.point ≡ Some point) c.items.ensures (slice_get_read c.items.result.now _ c.args.point point refl there.3.0 there.1) in
    rw (found, ← c.bytes.ensures) (appends_both (appends_both c.write_caller.ensures c.write_text.ensures) c.write_text-in-Some.ensures)

pub returns-in_default : goal.returns-in_default
returns-in_default c =
    let found : slice_get c.args.p.now.points c.args.point ≡ None =
    subst (λ ps. slice_get ps c.args.point ≡ None) c.items.ensures (slice_get_past c.items.result.now c.args.point c.in_default.ensures.lookup.3) in
    rw found (appends_nothing c.args.out.now)
