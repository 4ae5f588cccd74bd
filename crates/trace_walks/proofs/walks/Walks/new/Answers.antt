use Rattle.std.proofs.Common.{◌∙◌, sym, ap, refl, length}
use Rattle.bus_semantics.specs.Common.{length-map, plan_of, runnable_of, plain_key}
use Rattle.trace_walks.proofs.Fresh.{not_running}
use Rattle.trace_walks.proofs.walks.Walks.new.Goals as goal

pub returns : goal.returns
returns c = λ t.
    let p = c.args.p.now in
    record {
      runnables = c.in_ok-plain.ensures.whole ∙ ap length c.items.ensures ∙ sym (length-map p.runnables runnable_of);
      points = c.in_ok-direct.ensures.whole ∙ ap length c.items-2.ensures;
      plain = λ r w is. c.in_ok-plain.ensures.fresh r w is t (plan_of p) (plain_key r);
      direct = λ k q w at fit is. c.in_ok-direct.ensures.fresh q w is t (plan_of p) k;
      idle = λ q w none is. not_running t (plan_of p) (plain_key 0) w (c.in_ok-direct.ensures.fresh q w is t (plan_of p) (plain_key 0));
      outside = λ r none. refl;
    }
