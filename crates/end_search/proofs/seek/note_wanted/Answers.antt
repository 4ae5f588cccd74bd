use Rattle.std.proofs.Common.{◌≡◌, ◌∙◌, sym, subst, true≢false}
use Rattle.composition_tables.specs.declared.tree.PortEnd.{PortEnd}
use Rattle.end_search.specs.Wishes.{IsWanted}
use Rattle.end_search.proofs.Wishing.{sought_none, sought_same}
use Rattle.end_search.proofs.seek.note_wanted.Goals as goal

pub returns-then-not-is_wanted-clause-found : goal.returns-then-not-is_wanted-clause-found
returns-then-not-is_wanted-clause-found c = sought_none (λ x. (x ≡ c.args.end) × IsWanted c.args.wish.now.wanted x.interface) c.args.found.now.keys _
    (λ x h. true≢false (sym (c.is_wanted.ensures.1 (subst (λ (y : PortEnd). IsWanted c.args.wish.now.wanted y.interface) h.0 h.1)) ∙ c.if-not-is_wanted.true))

pub returns-clause-found : goal.returns-clause-found
returns-clause-found c = sought_same (λ x. x ≡ c.args.end) (λ x. (x ≡ c.args.end) × IsWanted c.args.wish.now.wanted x.interface) c.args.found.now.keys c.note_end.new.found.keys c.in_ok-is_cut.is_cut
    (λ x e. (e, subst (λ (y : PortEnd). IsWanted c.args.wish.now.wanted y.interface) (sym e) (c.is_wanted.ensures.0 c.if-not-is_wanted.false))) (λ x h. h.0) c.in_ok-is_cut.ensures.found
