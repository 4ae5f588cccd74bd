use Rattle.std.proofs.Common.{[], inl, inr, refl}
use Rattle.rte_program.proofs.Fed as by
use Rattle.rte_program.proofs.live.serve_node.Goals as goal

pub returns-in-Memory : goal.returns-in-Memory
returns-in-Memory g c = inr (inr (refl, refl, inl refl))

pub returns-in-Finished : goal.returns-in-Finished
returns-in-Finished g c = inl (
  refl,
  c.in-Finished.ensures.faults,
  by.ran c.args.node c.args.feeds.now c.in-Stopped.report c.in-Stopped.ensures.bus c.in-Stopped.ensures.lawful c.in-Stopped.ensures.calls c.requires.lawful
      (g.K.Sink.told c.args.out.now) (g.K.Sink.told c.put_live.new.out) (c.in-Finished.ensures.finished refl [] (c.in-Stopped.ensures.lawful.lawful [] c.requires.lawful)),
)

pub returns-in-Failed : goal.returns-in-Failed
returns-in-Failed g c = inr (inl (
  refl,
  c.in-Failed.ensures.faults,
  by.began c.args.node c.args.feeds.now c.in-Stopped.report c.in-Stopped.ensures.bus c.in-Stopped.ensures.lawful c.in-Stopped.ensures.calls c.requires.lawful
      (g.K.Sink.told c.args.out.now) (g.K.Sink.told c.put_live.new.out) (c.in-Failed.ensures.cut (λ e. absurd cc) [] (c.in-Stopped.ensures.lawful.lawful [] c.requires.lawful)),
))

pub returns-in-Memory-put_live : goal.returns-in-Memory-put_live
returns-in-Memory-put_live g c = inr (inr (
  refl,
  c.in-Memory-put_live.ensures.faults,
  inr (by.began c.args.node c.args.feeds.now c.in-Stopped.report c.in-Stopped.ensures.bus c.in-Stopped.ensures.lawful c.in-Stopped.ensures.calls c.requires.lawful
      (g.K.Sink.told c.args.out.now) (g.K.Sink.told c.put_live.new.out) (c.in-Memory-put_live.ensures.cut (λ e. absurd cc) [] (c.in-Stopped.ensures.lawful.lawful [] c.requires.lawful))),
))
