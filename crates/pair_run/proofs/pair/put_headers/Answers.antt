use Rattle.std.proofs.Common.{◌≡◌, ◌++◌, ℕ, List, ap, ◌∙◌, subst}
use Rattle.rte_text.specs.Sinks.{AppendsWhereTold, AppendsPrefixWhereTold, ToldAfter}
use Rattle.rte_text.specs.Told.{prefix_first, told_after}
use Rattle.bus_semantics.specs.declared.version.Version.TheVariants as version
use Rattle.bus_semantics.specs.Spelling.{header}
use Rattle.pair_run.specs.Joint.{one, prefix_of, two}
use Rattle.pair_run.proofs.pair.put_headers.Goals as goal

pub returns-in-Done-clause-told : goal.returns-in-Done-clause-told
returns-in-Done-clause-told g c =
    let told = g.K.Sink.told in
    let text : c.header-text.result.now ≡ header version.Two = c.header-text.ensures in
    let first = subst (λ (t : List ℕ). AppendsWhereTold (told c.args.out.now) (told c.put_behind.new.out) t)
    (ap (λ (p : List ℕ). p ++ c.header-text.result.now) c.lines_of_one-first.ensures.behind ∙ ap (λ (t : List ℕ). prefix_of one ++ t) text) c.in-Done.ensures.told in
    let more = subst (λ (t : List ℕ). ToldAfter c.put_behind-in-Done.result (told c.put_behind.new.out) (told c.put_behind-in-Done.new.out) t)
    (ap (λ (p : List ℕ). p ++ c.header-text.result.now) c.lines_of_two-second.ensures.behind ∙ ap (λ (t : List ℕ). prefix_of two ++ t) text) c.put_behind-in-Done.ensures.told in
    told_after c.put_behind-in-Done.result (told c.args.out.now) (told c.put_behind.new.out) (told c.put_behind-in-Done.new.out)
    (prefix_of one ++ header version.Two) (prefix_of two ++ header version.Two) first more

pub returns-in-Failed-clause-told : goal.returns-in-Failed-clause-told
returns-in-Failed-clause-told g c =
    let told = g.K.Sink.told in
    let text : c.header-text.result.now ≡ header version.Two = c.header-text.ensures in
    prefix_first (prefix_of two ++ header version.Two)
    (subst (λ (t : List ℕ). AppendsPrefixWhereTold (told c.args.out.now) (told c.put_behind.new.out) t)
    (ap (λ (p : List ℕ). p ++ c.header-text.result.now) c.lines_of_one-first.ensures.behind ∙ ap (λ (t : List ℕ). prefix_of one ++ t) text) c.in-Failed.ensures.told)
