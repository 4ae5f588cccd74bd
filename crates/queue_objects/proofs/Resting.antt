-- What is in a queue is what was accepted and not taken.
use Rattle.std.proofs.Common.{◌≡◌, ◌≤◌, ◌-◌, ◌+◌, ℕ, sym, ◌∙◌, ap, subst, arith, ◌++◌, length, map, Some}
use Rattle.bus_semantics.specs.Common.{slice_get, length-drop, length-map, take-append-drop, same_Some, words_of, Plan, Past, accepted_at, taken_at, places_at}
use Rattle.queued_ports.specs.Kept.{Queue}
use Rattle.object_kinds.specs.Common.{StandsFor, place}
use Rattle.queue_objects.specs.Kept.{Kept}
use Rattle.queue_objects.specs.Order.{values_taken}
use Rattle.queue_objects.specs.Standing.{Contents, contents_of, contents_after, Keeps}
use Rattle.queue_objects.proofs.Keeping.{queue_at}
use Rattle.queue_objects.proofs.Order.{past_in_order, accepted_few}

module _ (p : Plan) (g : ℕ) (k : Kept) (l : Past) (x r : ℕ) (q : Queue) (stands : StandsFor p g (Keeps p g) k l) (there : place x k.receivers ≡ Some r) (found : slice_get k.queued.queues r ≡ Some q) where
  contents_are : contents_of q ≡ contents_after p l x
  contents_are =
      let at = queue_at p l k.queued.queues k.receivers x r stands.kept.group.queues there in
      subst (λ z. contents_of z ≡ contents_after p l x) (same_Some at.queue q (sym at.found ∙ found)) at.contents

  pub rest_is_held : values_taken x l ++ map words_of q.held ≡ accepted_at p x l
  rest_is_held =
      (λ i. (past_in_order p g x l stands.past).order i ++ (ap (λ (c : Contents). c.values) contents_are) i) ∙ take-append-drop (taken_at x l) (accepted_at p x l)

  pub few_are_held : length q.held ≤ places_at p x
  few_are_held =
      let many : length q.held ≡ length (accepted_at p x l) - taken_at x l =
      sym (length-map q.held words_of) ∙ ap (λ (c : Contents). length c.values) contents_are ∙ length-drop (taken_at x l) (accepted_at p x l) in
      let few : length (accepted_at p x l) ≤ taken_at x l + places_at p x = accepted_few p x l in
      omega arith
