use Rattle.std.proofs.Common.{◌++◌, sym, ap, ◌∙◌}
use Rattle.std.proofs.lemmas.List.{append-nil}
use Rattle.std.proofs.lemmas.Slice.Zip.{Zip-more, either_empty_from_Zip}
use Rattle.implicit_buffers.specs.Buffers.{is_implicit}
use Rattle.implicit_buffers.proofs.Naming.{named_more, named_end}
use Rattle.implicit_buffers.proofs.planning.elements_of.Goals as goal

pub loop-access-preserved : goal.loop-access-preserved
loop-access-preserved c =
    let more = Zip-more c.loop-access.access-iterator c.next.new.self c.next.result (c.in-Some.access, c.in-Some.target) c.in-Some.is c.next.ensures.steps in
    named_more (is_implicit c.args.fetches) _ _ _ _ _ _ _ _ _ c.in_ok-add.ensures more.0 more.1 c.loop-access.invariant

pub returns : goal.returns
returns c =
    let elements = c.loop-access.elements.items in
    let none = named_end (is_implicit c.args.fetches) c.loop-access.access-iterator.a.rest.now c.loop-access.access-iterator.b.rest.now
    (either_empty_from_Zip c.loop-access.access-iterator c.next.new.self c.next.result c.in-None.is c.next.ensures.steps) in
    sym (append-nil elements) ∙ ap (λ es. elements ++ es) (sym none) ∙ c.loop-access.invariant
