use Rattle.std.proofs.Common.{◌∙◌, sym, ap, false, length, get_or}
use Rattle.bus_semantics.specs.Common.{length-map, length-replicate, plan_of, runnable_of}
use Rattle.trace_walks.proofs.Flags.{none_at_first, none_set}
use Rattle.trace_walks.proofs.runners.Runners.new.Goals as goal

pub returns : goal.returns
returns c =
    let p = c.args.p.now in
    record {
      runnables = ap length c.in_ok-plain.ensures ∙ length-replicate _ false ∙ ap length c.items.ensures ∙ sym (length-map p.runnables runnable_of);
      points = ap length c.in_ok-direct.ensures ∙ length-replicate _ false ∙ ap length c.items-2.ensures;
      plain = λ r less. ap (λ xs. get_or xs r false) c.in_ok-plain.ensures ∙ none_set _ r;
      direct = λ q. ap (λ xs. get_or xs q false) c.in_ok-direct.ensures ∙ none_set _ q ∙ sym (none_at_first (plan_of p) q);
    }
