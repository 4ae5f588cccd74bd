use Rattle.std.proofs.Common.{◌≡◌, ◌∙◌, inl, ⊎_elim, sym, ap, subst}
use Rattle.description_types.specs.declared.description.PrototypeType.TheVariants.{Component}
use Rattle.composition_tables.specs.declared.tree.Owner.TheVariants.{Instance}
use Rattle.composition_tables.specs.Ends.{own_end}
use Rattle.description_types.specs.Members.{Among}
use Rattle.end_search.specs.Wishes.{IsEnd, IsWanted}
use Rattle.end_search.proofs.Wishing.{sought_none, sought_same}
use Rattle.end_search.proofs.seek.note_port.Goals as goal

pub returns-in_ok-is_cut-in-Some-clause-found : goal.returns-in_ok-is_cut-in-Some-clause-found
returns-in_ok-is_cut-in-Some-clause-found c =
    let some = ap (λ o. own_end o c.args.first c.args.port) (sym c.interface_of.ensures ∙ c.in-Some.is) in
    sought_same (λ x. (x ≡ record { owner = Instance c.args.first; port = c.args.port; interface = c.in-Some.interface }) × IsWanted c.args.wish.now.wanted x.interface)
    (IsEnd c.args.tree.now.d.now c.args.wish.now.wanted 0 (Component c.args.component) c.args.first c.args.port) c.args.found.now.keys c.note_wanted.new.found.keys c.in_ok-is_cut-in-Some.is_cut
    (λ x h. (subst (Among x) (sym some) (inl h.0), h.1)) (λ x h. (⊎_elim (λ e. e) (λ no. absurd no) (subst (Among x) some h.0), h.1)) c.in_ok-is_cut-in-Some.ensures.found

pub returns-in-None-clause-found : goal.returns-in-None-clause-found
returns-in-None-clause-found c = sought_none (IsEnd c.args.tree.now.d.now c.args.wish.now.wanted 0 (Component c.args.component) c.args.first c.args.port) c.args.found.now.keys _
    (λ x h. subst (Among x) (ap (λ o. own_end o c.args.first c.args.port) (sym c.interface_of.ensures ∙ c.in-None.is)) h.0)
