use Rattle.description_stages.proofs.FewItems.{has_few_items}
use Rattle.description_stages.proofs.joining.join_description.Goals as goal

pub join-requires : goal.join-requires
join-requires c = has_few_items c.args.bytes.now c.in_ok-description.description c.in_ok-description.ensures.read c.requires
