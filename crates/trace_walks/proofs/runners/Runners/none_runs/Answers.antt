use Rattle.std.proofs.Common.{◌≡◌, ◌∙◌, ◌&&◌, not, sym, ap, true, false}
use Rattle.std.specs.List.{list_all}
use Rattle.trace_walks.proofs.Idle.{none_set}
use Rattle.trace_walks.proofs.runners.Runners.none_runs.Goals as goal

pub returns-then-is_empty-clause-none : goal.returns-then-is_empty-clause-none
returns-then-is_empty-clause-none c = λ p m h sound stands.
    let rs = c.args.self.now in
    let first : list_all not rs.plain ≡ true = sym c.is_empty.ensures.empty ∙ c.if-is_empty.true in
    c.is_empty-then-is_empty.ensures.empty ∙ sym (ap (λ b. b && list_all not rs.direct) first) ∙ none_set p m sound h rs stands

pub returns-else-is_empty-clause-none : goal.returns-else-is_empty-clause-none
returns-else-is_empty-clause-none c = λ p m h sound stands.
    let rs = c.args.self.now in
    let first : list_all not rs.plain ≡ false = sym c.is_empty.ensures.empty ∙ c.if-is_empty.false in
    c.if-is_empty.false ∙ sym (ap (λ b. b && list_all not rs.direct) first) ∙ none_set p m sound h rs stands
