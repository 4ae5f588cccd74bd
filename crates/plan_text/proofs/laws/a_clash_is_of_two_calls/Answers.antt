use Rattle.plan_text.specs.Listing.{given}
use Rattle.plan_text.proofs.Clashing.{first_of_two}
use Rattle.plan_text.proofs.laws.a_clash_is_of_two_calls.Goals as goal

pub returns : goal.returns
returns call types c name some = first_of_two (given types c) name some
