use Rattle.sound_plans.proofs.Bundled.{bundled}
use Rattle.sound_plans.proofs.bundles.bundles_of_plans_fit.Goals as goal

pub returns : goal.returns
returns c = bundled
