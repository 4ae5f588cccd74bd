use Rattle.std.proofs.Common.{ℕ, ap, sym, ◌∙◌}
use Rattle.feed_queue.specs.declared.views.View.TheVariants.{Feeds}
use Rattle.feed_queue.proofs.Steps.{pushes_at}
use Rattle.feed_queue.proofs.passes.Feeder.push.Goals as goal

pub push_as-requires-clause-rule : goal.push_as-requires-clause-rule
push_as-requires-clause-rule g c =
    let me = c.args.self.now in
    pushes_at g.F.Feeding.lengths _ me.pass.id _ (record { feed = me.feed; number = c.args.number }) (me.feeds ∙ ap (λ (n : ℕ). Feeds me.feed n) (sym c.requires.next)) c.requires.within
