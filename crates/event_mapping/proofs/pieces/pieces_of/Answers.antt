use Rattle.event_mapping.proofs.pieces.pieces_of.Goals as goal

pub returns : goal.returns
returns c = record { items = c.in_ok-items.ensures; services = c.in_ok-services.ensures; modes = c.in_ok-modes.ensures; events = c.in_ok-events.ensures }
