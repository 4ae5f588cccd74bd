use Rattle.plan_text.specs.Listing.{given}
use Rattle.plan_text.proofs.Clashing.{own_names}
use Rattle.plan_text.proofs.laws.without_a_clash_each_name_stands_once.Goals as goal

pub returns : goal.returns
returns call types c none = own_names (given types c) none
