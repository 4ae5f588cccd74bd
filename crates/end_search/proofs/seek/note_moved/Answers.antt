use Rattle.std.proofs.Common.{◌≡◌, subst}
use Rattle.composition_tables.specs.declared.tree.PortEnd.{PortEnd}
use Rattle.end_search.specs.Wishes.{Sought}
use Rattle.end_search.proofs.seek.note_moved.Goals as goal

pub returns-clause-found : goal.returns-clause-found
returns-clause-found c = subst (λ (y : PortEnd). Sought (λ x. x ≡ y) c.args.found.now.keys c.note_end.new.found.keys c.in_ok-is_cut.is_cut) c.end_from.ensures c.in_ok-is_cut.ensures.found
