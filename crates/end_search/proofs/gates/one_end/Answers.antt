use Rattle.std.proofs.Common.{inl, inr, ⊎_elim, subst}
use Rattle.composition_tables.specs.declared.tree.Owner.TheVariants.{Environment}
use Rattle.description_types.specs.Members.{Among}
use Rattle.composition_tables.proofs.Members.{key_iff}
use Rattle.end_search.proofs.SameEnds.{same_end, itself_end}
use Rattle.end_search.proofs.gates.one_end.Goals as goal

pub returns-clause-found : goal.returns-clause-found
returns-clause-found c = λ w.
    let more = key_iff _ same_end itself_end c.new-ends.result.keys (record { owner = Environment; port = c.args.port; interface = c.args.interface }) c.insert.new.self.keys c.in_ok-insert.ensures.keys in
    record {
      sound = λ x h. ⊎_elim (λ o. absurd (subst (Among x) c.new-ends.ensures.empty o)) (λ e. inl e) ((more x).0 h);
      whole = λ _ x h _. (more x).1 (⊎_elim (λ e. inr e) (λ no. absurd no) h);
    }
