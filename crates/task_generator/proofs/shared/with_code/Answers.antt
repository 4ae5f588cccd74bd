use Rattle.std.proofs.Common.{sym, ap, ◌∙◌}
use Rattle.std.specs.Option.{option_copied}
use Rattle.task_generator.proofs.shared.with_code.Goals as goal

pub returns : goal.returns
returns c b is = (c.in_ok-place.place.now, (sym c.get.ensures.value ∙ ap option_copied c.in_ok-place.was, sym c.body_at.ensures ∙ is))
