use Rattle.trace_check.proofs.bus_state.BusState.wanted.Goals as goal

pub returns : goal.returns
returns c = λ p h w bodies fit stands is. c.wanted.ensures p h w bodies fit stands.walks is
