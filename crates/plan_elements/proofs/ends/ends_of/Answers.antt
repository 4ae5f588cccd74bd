use Rattle.std.proofs.Common.{ap, arith, length, subst, sym, ◌≡◌, ◌≤◌, ◌||◌, ◌∙◌}
use Rattle.bus_semantics.specs.Common.{length-replicate, list_any}
use Rattle.plan_definitions.specs.Common.{keys_of, elements_of}
use Rattle.plan_elements.specs.Ends.{has_at, mark_at}
use Rattle.plan_elements.proofs.Joining.{they_join}
use Rattle.plan_elements.proofs.Marking.{marks_more, none_marked, pairs_all, pairs_more}
use Rattle.plan_elements.proofs.ends.ends_of.Goals as goal

pub returns-clause-joined : goal.returns-clause-joined
returns-clause-joined c =
    they_join c.args.source.now.d.now c.args.source.now.f.now c.loop-join.joined.items c.loop-join.join-index
    (subst (λ l. length l ≤ c.loop-join.join-index) c.items-join-items.ensures c.loop-join-test.false) c.loop-join.invariant.long c.loop-join.invariant.marks

pub loop-join-init : goal.loop-join-init
loop-join-init c =
    let source = c.args.source.now in
    let keys = keys_of (elements_of source.d.now source.f.now) in
    let long : c.len.result ≡ length source.lists.elements.items = omega (arith, c.len.ensures, source.lists.elements.ok.0) in
    record {
      pairs = c.in_ok-pairs.ensures.items;
      long = ap length c.in_ok-joined.ensures ∙ length-replicate _ _ ∙ long ∙ ap length source.listed.elements;
      marks = λ n below.
          sym (ap (λ l. mark_at l n || list_any (has_at keys n) source.f.now.joins) c.in_ok-joined.ensures
          ∙ ap (λ b. b || list_any (has_at keys n) source.f.now.joins) (none_marked c.len.result n));
    }

pub loop-join-preserved : goal.loop-join-preserved
loop-join-preserved c =
    let source = c.args.source.now in
    let keys = keys_of (elements_of source.d.now source.f.now) in
    let i = c.loop-join.join-index in
    record {
      pairs = pairs_more keys source.f.now.joins i c.items-join-items.result.now c.items-join-items.ensures _ c.loop-join-test.true
          c.loop-join.pairs.items c.push.new.self.items c.mark_ends-numbers.result c.in_ok-push.ensures.items c.mark_ends-numbers.ensures.numbers c.loop-join.invariant.pairs;
      long = c.mark_ends-numbers.ensures.length ∙ c.loop-join.invariant.long;
      marks = marks_more keys source.f.now.joins i c.items-join-items.result.now c.items-join-items.ensures _ c.loop-join-test.true
          (length (elements_of source.d.now source.f.now)) c.loop-join.joined.items c.mark_ends-numbers.new.marks.items c.loop-join.invariant.long c.mark_ends-numbers.ensures.marks c.loop-join.invariant.marks;
    }

pub returns-clause-pairs : goal.returns-clause-pairs
returns-clause-pairs c =
    let source = c.args.source.now in
    pairs_all (keys_of (elements_of source.d.now source.f.now)) source.f.now.joins c.loop-join.join-index c.loop-join.pairs.items
    (subst (λ l. length l ≤ c.loop-join.join-index) c.items-join-items.ensures c.loop-join-test.false) c.loop-join.invariant.pairs
