use Rattle.std.proofs.Common.{◌∙◌}
use Rattle.description_places.proofs.Named.{text_named}
use Rattle.description_places.proofs.references.has_text.Goals as goal

pub returns : goal.returns
returns c = c.is_one_of.ensures ∙ text_named c.args.values.now c.args.name.now
