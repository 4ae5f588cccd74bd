use Rattle.std.proofs.Common.{◌∙◌}
use Rattle.description_shapes.proofs.Members.{is_member}
use Rattle.description_shapes.proofs.shape.has_key.Goals as goal

pub returns : goal.returns
returns c = c.is_some.ensures ∙ is_member c.get.result c.args.name.now c.args.members.now.entries c.get.ensures.value
