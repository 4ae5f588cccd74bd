use Rattle.std.proofs.Common.{◌≡◌, ◌+◌, ◌<◌, length, slice_index_or, refl, ◌∙◌, subst, arith, rules}
use Rattle.std.proofs.lemmas.List.{get_or_default}
use Rattle.std.specs.Fork.{AcceptsAt, ChangesAt}
use Rattle.thread_starts.proofs.starting.start_each.Goals as goal

pub start_from-requires : goal.start_from-requires
start_from-requires g c = (
  search rules,
  (
    search rules,
    (
      search rules,
      record {
        some = c.requires.some;
        room = search rules;
        each = λ k d l.
            let place : k ≡ 0 + k = omega arith in
            subst (λ i. AcceptsAt g.F.Fn c.args.f.now i (slice_index_or c.args.s.now k d)) place (λ p is. c.requires.accepts k p l (is ∙ get_or_default c.args.s.now k d p.now l));
      },
    ),
  ),
)

pub returns : goal.returns
returns g c i d l =
    let place : 0 + i ≡ i = omega arith in
    (refl, subst (λ k. ChangesAt g.F.Fn c.args.f.now k (slice_index_or c.args.s.now i d) (slice_index_or c.start_from.new.s i d)) place (c.start_from.ensures.each i d l))
