use Rattle.std.proofs.Common.{◌∙◌, sym, ap, option_map}
use Rattle.end_search.proofs.SameNames.{item_named}
use Rattle.end_search.proofs.matches.add_item.Goals as goal

pub returns-in_ok-add_places : goal.returns-in_ok-add_places
returns-in_ok-add_places c = λ i j. item_named c.args.names.now c.args.others.now c.in-Some.name.now c.args.number i j _ _ _ (sym c.at.ensures ∙ ap (option_map (λ name. name.now)) c.in-Some.is) (c.find.ensures j) (c.in_ok-add_places.ensures i j)
