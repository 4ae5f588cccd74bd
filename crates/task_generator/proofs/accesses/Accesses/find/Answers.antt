use Rattle.std.proofs.Common.{ap, ◌∙◌}
use Rattle.indexmap.specs.IndexMap.{get}
use Rattle.task_generator.specs.Found.{Key, same_key, access_in}
use Rattle.task_generator.proofs.accesses.Accesses.find.Goals as goal

pub returns : goal.returns
returns c =
    c.named.ensures
    ∙ ap access_in (c.copied.ensures ∙ c.get.ensures.value)
    ∙ ap (λ (key : Key). access_in (get same_key c.args.self.now.found key)) c.key_of.ensures
    ∙ c.args.self.now.all c.args.kind c.args.port c.args.item
