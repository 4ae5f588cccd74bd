use Rattle.trace_check.proofs.bus_state.BusState.may_begin.Goals as goal

pub returns : goal.returns
returns c = λ t h fit stands told. c.may_begin.ensures t h fit stands.walks told
