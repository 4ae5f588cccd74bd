use Rattle.std.proofs.Common.{◌≡◌, ℕ, [], ap, ◌∙◌}
use Rattle.circular_buffer.specs.Buffer.{Buffer}
use Rattle.client_server.specs.Queue.{waiting_in}
use Rattle.client_server.proofs.Asked.{none_asked}
use Rattle.client_server.proofs.server.Server.new.Goals as goal
use Rattle.client_server.proofs.server.Server.new.Goals.{in-Some+in_ok-with_capacity-in-Some, in-None}

pub invariant_of-result : goal.invariant_of-result
invariant_of-result c =
    let none : waiting_in c.match-queue.waiting ≡ [] = elim c.match-queue.branch [
      | in-Some+in_ok-with_capacity-in-Some w ↦ ap waiting_in w.waiting-is ∙ ap (λ (b : Buffer ℕ). b.items) w.in_ok-with_capacity-in-Some.ensures
      | in-None w ↦ ap waiting_in w.waiting-is
    ] in
    none_asked c.in_ok-points.points.items (waiting_in c.match-queue.waiting) none
