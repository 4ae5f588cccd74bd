use Rattle.std.proofs.Common.{◌∙◌}
use Rattle.std.specs.Prelude.{unwrap_or}
use Rattle.clock_objects.proofs.Starting.{not_started, starts_by}
use Rattle.clock_objects.proofs.laws.starts_go_by_flags.Goals as goal

pub returns : goal.returns
returns c = λ k event n off start. starts_by k n (unwrap_or n.event 0) event start.wish ∙ not_started k event off
