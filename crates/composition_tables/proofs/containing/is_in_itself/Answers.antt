use Rattle.std.proofs.Common.{sym, ◌∙◌, true≢false}
use Rattle.std.proofs.lemmas.Bool.{OnTrue_at}
use Rattle.composition_tables.proofs.InItself.{not_in_itself}
use Rattle.composition_tables.proofs.containing.is_in_itself.Goals as goal

pub returns-then-stands_above : goal.returns-then-stands_above
returns-then-stands_above c = ((λ h. absurd (true≢false (sym h))), (λ r. absurd (not_in_itself c.args.d.now c.args.composition c.args.ranks.now (OnTrue_at c.if-are_ranks.true c.requires.ranked) (sym c.stands_above.ensures ∙ c.if-stands_above.true) c.requires.declared r)))
