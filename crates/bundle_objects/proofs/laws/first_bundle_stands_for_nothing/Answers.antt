use Rattle.bundle_objects.proofs.Opening.{bundle_opens}
use Rattle.bundle_objects.proofs.laws.first_bundle_stands_for_nothing.Goals as goal

pub returns : goal.returns
returns c = bundle_opens
