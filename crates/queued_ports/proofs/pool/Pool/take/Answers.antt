use Rattle.std.proofs.Common.{ℕ, Option, Some, sym, ◌∙◌, ap, subst, IfSome}
use Rattle.queued_ports.proofs.Free.{one_taken, last_taken}
use Rattle.queued_ports.specs.KeptBlocks.{Kept, IsTaken}
use Rattle.queued_ports.proofs.pool.Pool.take.Goals as goal
use Rattle.queued_ports.proofs.pool.Pool.take.Goals.{in-Some, in-None}

pub invariant_of-self : goal.invariant_of-self
invariant_of-self c = one_taken c.self.inside.values.items c.self.inside.free c.pop.new.self c.pop.result c.pop.ensures.items c.pop.ensures.capacity c.self.invariant

pub returns-clause-now_taken : goal.returns-clause-now_taken
returns-clause-now_taken c =
    let values = c.self.inside.values.items in
    let less = c.pop.new.self in
    let now : Kept = record { values = values; free = less.items } in
    let Holds = λ (r : Option ℕ). IfSome r (λ b. IsTaken b now) in
    elim c.match-pop.branch [
      | in-Some w ↦ subst Holds (sym (w.result-is ∙ ap (λ b. Some b) w.numbered.ensures)) (last_taken values c.self.inside.free less w.in-Some.at w.in-Some.ensures.items c.self.invariant)
      | in-None w ↦ subst Holds (sym w.result-is) tt
    ]
