use Rattle.std.proofs.Common.{◌∙◌}
use Rattle.core_runtime.proofs.Asleep.{starts_touch}
use Rattle.core_runtime.proofs.resting.rest_started.Goals as goal

pub returns-in-Start : goal.returns-in-Start
returns-in-Start c = λ p n t cores deed touching watch.
    c.rest_if_over.ensures p t cores (touching ∙ starts_touch p n c.in-Start.event c.in-Start.point c.in-Start.value (deed ∙ c.in-Start.is)) watch
