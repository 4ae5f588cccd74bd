use Rattle.std.proofs.Common.{◌∙◌}
use Rattle.event_mapping.proofs.pieces.modes_of.Goals as goal

pub returns : goal.returns
returns c = record { machines = c.of-machines.ensures ∙ c.in_ok-machine_list.ensures; mode_ports = c.of-mode_ports.ensures ∙ c.in_ok-port_list.ensures }
