use Rattle.std.proofs.Common.{◌≡◌, ◌++◌, ℕ, List, nat_eq, false, rules, sym, ap, ◌∙◌}
use Rattle.bus_semantics.specs.Common.{list_any, append-nil, either_empty_from_Zip, plan_of, runnable_of, list_with}
use Rattle.std.proofs.lemmas.Slice.Zip.{Zip-more}
use Rattle.indexmap.specs.IndexSet.{contains}
use Rattle.implicit_buffers.specs.Buffers.{is_implicit}
use Rattle.implicit_buffers.specs.Fetchings.{implicits_of, in_turn}
use Rattle.implicit_buffers.proofs.Listing.{none_yet, access_more, turns_end}
use Rattle.implicit_buffers.proofs.fetchings.fetchings_of.Goals as goal

pub loop-access-init : goal.loop-access-init
loop-access-init c =
    let p = plan_of c.args.p.now in
    let r = runnable_of c.args.runnable.now in
    let test = is_implicit c.args.fetches in
    let it = c.into_iter-access-iterator.result in
    let sigs : it.a.rest.now ≡ r.accesses = search rules in
    let xs : it.b.rest.now ≡ r.targets = search rules in
    let none : (l : ℕ) → contains nat_eq c.new-met.result l ≡ false = λ l. ap (λ (ks : List ℕ). list_any (nat_eq l) ks) c.new-met.ensures.empty in
    (λ i. implicits_of (c.new-found.ensures.items i) ++ in_turn p r.lists test (contains nat_eq c.new-met.result) (sigs i) (xs i)) ∙ none_yet p r.lists test (contains nat_eq c.new-met.result) r.accesses r.targets none

pub loop-access-preserved : goal.loop-access-preserved
loop-access-preserved c =
    let more = Zip-more c.loop-access.access-iterator c.next.new.self c.next.result (c.in-Some.access, c.in-Some.target) c.in-Some.is c.next.ensures.steps in
    let p = plan_of c.args.p.now in
    let r = runnable_of c.args.runnable.now in
    access_more p r.lists (is_implicit c.args.fetches) _ _ _ _ _ _ _ _ _ _ _ _ c.in_ok-add_once.ensures.found c.in_ok-add_once.ensures.met (c.list_of-list.ensures ∙ c.in_ok-lists.ensures _ ∙ ap (λ (ls : List ℕ). list_with p ls c.in-Some.target.now) c.items.ensures) more.0 more.1 c.loop-access.invariant

pub returns : goal.returns
returns c =
    let p = plan_of c.args.p.now in
    let r = runnable_of c.args.runnable.now in
    let found = implicits_of c.loop-access.found.items in
    let none = turns_end p r.lists (is_implicit c.args.fetches) (contains nat_eq c.loop-access.met) c.loop-access.access-iterator.a.rest.now c.loop-access.access-iterator.b.rest.now
    (either_empty_from_Zip c.loop-access.access-iterator c.next.new.self c.next.result c.in-None.is c.next.ensures.steps) in
    sym (append-nil found) ∙ ap (λ es. found ++ es) (sym none) ∙ c.loop-access.invariant
