use Rattle.std.proofs.Common.{inl, inr, ⊎_elim, ap}
use Rattle.description_types.specs.declared.description.InnerPort.{InnerPort}
use Rattle.composition_tables.specs.Inner.{port_of}
use Rattle.composition_tables.proofs.Pairs.{seen_more}
use Rattle.composition_tables.proofs.inner.note_inner.Goals as goal

pub returns : goal.returns
returns c = λ k. let more = seen_more c.args.found.now.keys (c.args.inner.prototype, c.args.inner.port) c.insert.new.self.keys c.in_ok-insert.ensures.keys k in (
  (λ h. ⊎_elim (λ o. inl o) (λ e. inr (ap port_of e)) (more.0 h)),
  (λ s. more.1 (⊎_elim (λ o. inl o) (λ e. inr (ap (λ (p : InnerPort). (p.prototype, p.port)) e)) s)),
)
