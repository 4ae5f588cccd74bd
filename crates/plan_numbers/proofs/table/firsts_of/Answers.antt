use Rattle.std.proofs.Common.{◌∷◌, ◌∙◌, ◌+◌, ap, drop, sym}
use Rattle.std.proofs.lemmas.List.{drop_more}
use Rattle.std.specs.Map.{lookup}
use Rattle.std.specs.Option.{option_or}
use Rattle.indexmap.specs.IndexMap.{get}
use Rattle.plan_numbers.proofs.Firsts.{all_first, one_first}
use Rattle.plan_numbers.proofs.table.firsts_of.Goals as goal

pub loop-entry-preserved : goal.loop-entry-preserved
loop-entry-preserved g c = λ q.
    let rest = drop (c.loop-entry.entry-index + 1) c.args.entries.now in
    let split = drop_more c.args.entries.now c.loop-entry.entry-index c.entry-item.result c.loop-entry-test.true ∙ ap (λ e. e ∷ rest) (sym c.entry-item.is) in
    one_first g.K.PartialEq.eq g.met.K.Eq.laws c.loop-entry.firsts c.note.new.map c.entry-item.result.0 c.entry-item.result.1 c.in_ok-note.ensures q (lookup (g.K.PartialEq.eq q) c.args.entries.now) rest
    (c.loop-entry.invariant q ∙ ap (λ l. option_or (get g.K.PartialEq.eq c.loop-entry.firsts q) (lookup (g.K.PartialEq.eq q) l)) split)

pub returns : goal.returns
returns g c = λ q. all_first g.K.PartialEq.eq q c.args.entries.now c.loop-entry.entry-index (get g.K.PartialEq.eq c.loop-entry.firsts q) c.loop-entry-test.false (c.loop-entry.invariant q)
