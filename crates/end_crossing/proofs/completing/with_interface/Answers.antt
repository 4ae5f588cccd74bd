use Rattle.std.proofs.Common.{◌≡◌, ◌∙◌, ◌↔◌, sym, subst}
use Rattle.description_types.specs.Members.{Among}
use Rattle.end_crossing.proofs.completing.with_interface.Goals as goal

pub returns : goal.returns
returns c = λ x. subst (λ l. Among x l ↔ (Among x c.args.ends.now × (x.interface ≡ c.args.interface))) (sym (c.in_ok-list.ensures.items ∙ c.group_of.ensures)) (c.in_ok-groups.ensures c.args.interface x)
