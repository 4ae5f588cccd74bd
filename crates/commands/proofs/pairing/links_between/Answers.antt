use Rattle.std.proofs.Common.{◌≡◌, [], sym, ◌∙◌}
use Rattle.std.proofs.lemmas.Bool.{eqb-true}
use Rattle.std.proofs.lemmas.List.{nil_from_length}
use Rattle.commands.proofs.Numbered.{numbered}
use Rattle.commands.proofs.pairing.links_between.Goals as goal

pub make_links-requires-clause-few_one : goal.make_links-requires-clause-few_one
make_links-requires-clause-few_one c = numbered c.requires.0 c.args.nodes.now.one c.requires.2.of_one

pub make_links-requires-clause-few_two : goal.make_links-requires-clause-few_two
make_links-requires-clause-few_two c = numbered c.requires.1 c.args.nodes.now.two c.requires.2.of_two

pub returns-then-is_empty-clause-stopped : goal.returns-then-is_empty-clause-stopped
returns-then-is_empty-clause-stopped c = λ first second script both.
    let items = c.in-Ok.links.items in
    let none : c.in-Ok.links.len ≡ 0 = eqb-true c.in-Ok.links.len 0 (sym c.is_empty.ensures ∙ c.if-is_empty.true) in
    let empty : items ≡ [] = nil_from_length items (sym c.in-Ok.links.ok.0 ∙ none) in
    record { found = c.args.nodes.now.one; beside = c.args.nodes.now.two; described = both; none = sym c.in-Ok.ensures.links ∙ empty }
