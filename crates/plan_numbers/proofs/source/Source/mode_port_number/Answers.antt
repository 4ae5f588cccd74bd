use Rattle.std.proofs.Common.{Some, ap, ◌∙◌}
use Rattle.plan_definitions.specs.Keys.{keys_of, number_in}
use Rattle.plan_numbers.proofs.source.Source.mode_port_number.Goals as goal

pub returns : goal.returns
returns c = c.number.ensures ∙ ap (λ keys. number_in keys (Some c.args.instance, Some c.args.port, 0)) c.args.self.now.numbered.mode_ports
    ∙ ap (λ sites. number_in (keys_of sites) (Some c.args.instance, Some c.args.port, 0)) c.args.self.now.listed.mode_ports
