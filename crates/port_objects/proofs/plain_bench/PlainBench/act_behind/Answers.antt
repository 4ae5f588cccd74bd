use Rattle.std.proofs.Common.{◌∷◌, [], ◌++◌, ℕ, ◌∙◌, ap, subst}
use Rattle.std.specs.Prelude.{Option}
use Rattle.bus_semantics.specs.declared.entries.Actor.TheVariants.{Env}
use Rattle.bus_semantics.specs.declared.entries.Deed.TheVariants.{Tick}
use Rattle.bus_semantics.specs.declared.entries.Stamped.{Stamped}
use Rattle.bus_semantics.specs.Common.{plan_of, wanted_of}
use Rattle.object_kinds.specs.Kinds.{acted}
use Rattle.port_objects.specs.Benches.{ActedOn, Plain}
use Rattle.port_objects.proofs.Written.{filled_behind}
use Rattle.port_objects.proofs.plain_bench.PlainBench.act_behind.Goals as goal

pub returns-clause-made : goal.returns-clause-made
returns-clause-made c =
    let before = c.args.made.now.items in
    let e = c.act_among.new.out in
    let blank : Stamped = record { stamp = c.self.inside.next; entry = record { actor = Env; deed = Tick }; event = c.event_of.result } in
    let lies = filled_behind before c.push_reserved.new.self.items c.len-at.result blank c.index_mut-stamped.result.now e (c.len-at.ensures ∙ c.args.made.now.ok.0) c.push_reserved.ensures.items c.index_mut-stamped.ensures.value in (
      e,
      lies
          ∙ ap (λ (b : Plain). before ++ record { stamp = b.next; entry = e; event = c.event_of.result } ∷ []) c.self.view_is
          ∙ ap (λ (event : Option ℕ). before ++ record { stamp = c.args.self.now.next; entry = e; event = event } ∷ []) c.event_of.ensures,
      subst (λ (b : Plain). ActedOn (plan_of b.plan) c.args.object c.args.who.now (wanted_of c.args.wish.now) b.objects c.act_among.new.objects.items (acted c.act_among.result e)) c.self.view_is c.act_among.ensures.on,
    )
