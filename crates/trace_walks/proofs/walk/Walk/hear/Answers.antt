use Rattle.std.proofs.Common.{◌≡◌, ◌∷◌, ◌∙◌, sym, subst}
use Rattle.bus_semantics.specs.Common.{plan_of}
use Rattle.trace_walks.specs.declared.walk.Walk.{Walk}
use Rattle.trace_walks.specs.Walking.{WalkStands, entry_of}
use Rattle.trace_walks.proofs.Going.{heard_last, heard_on}
use Rattle.trace_walks.proofs.walk.Walk.hear.Goals as goal
use Rattle.trace_walks.proofs.walk.Walk.hear.Goals.{then-is_over, else-is_over}

pub returns : goal.returns
returns c = λ k h other running stands.
    let p = plan_of c.args.p.now in
    let t = c.args.t.now in
    let d = c.args.deed.now in
    let asked = c.accepted_point-self.result in
    let held = c.holds_back-self.result in
    let After : Walk → Type 0 = λ x. WalkStands t p k (entry_of k d ∷ h) (record { running = x.running; asked = asked; held = held }) in
    elim c.if-is_over.branch [
      | then-is_over w ↦
          let last = heard_last t p k h d asked held c.accepted_point-self.ensures c.holds_back-self.ensures (sym c.is_over.ensures ∙ w.if-is_over.true) in
          subst After (sym w.self-is) (subst (λ o. WalkStands t p k (entry_of k d ∷ h) (record { running = o; asked = asked; held = held })) (sym w.end.ensures) last)
      | else-is_over w ↦
          subst After (sym w.self-is)
          (heard_on t p k h d asked held c.accepted_point-self.ensures c.holds_back-self.ensures (sym c.is_over.ensures ∙ w.if-is_over.false) other running c.args.self.now.running w.hear.new.self w.hear.ensures stands.running)
    ]
