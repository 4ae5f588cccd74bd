use Rattle.event_mapping.proofs.pieces.services_of.Goals as goal

pub returns : goal.returns
returns c = record { points = c.in_ok-points.ensures; servers = c.in_ok-servers.ensures; areas = c.in_ok-areas.ensures }
