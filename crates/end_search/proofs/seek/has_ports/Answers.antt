use Rattle.std.proofs.Common.{◌∙◌, sym}
use Rattle.end_search.proofs.Wishing.{same_numbers}
use Rattle.end_search.proofs.seek.has_ports.Goals as goal

pub returns : goal.returns
returns c = λ h. sym c.as_slice.ensures.value ∙ same_numbers c.as_slice.result.now c.args.ports.now (sym c.eq.ensures ∙ h)
