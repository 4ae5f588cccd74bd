use Rattle.std.proofs.Common.{◌≡◌, ◌<◌, ◌==◌, ◌++◌, ◌∷◌, [], ◌∙◌, ap, length, false, arith}
use Rattle.std.specs.List.{list_any}
use Rattle.queued_ports.proofs.Free.{has_room, one_given}
use Rattle.queued_ports.specs.KeptBlocks.{Kept}
use Rattle.queued_ports.proofs.pool.Pool.give.Goals as goal

pub push_reserved-requires : goal.push_reserved-requires
push_reserved-requires c =
    let values = c.self.inside.values.items in
    let free = c.self.inside.free in
    let within : c.args.block < length values = omega (arith, c.requires.within, ap (λ (k : Kept). length k.values) c.self.view_is) in
    let apart : list_any (λ f. c.args.block == f) free.items ≡ false = ap (λ (k : Kept). list_any (λ f. c.args.block == f) k.free) c.self.view_is ∙ c.requires.not_free in
    let room = has_room values free c.args.block within apart c.self.invariant in
    omega (arith, room, free.ok)

pub invariant_of-self : goal.invariant_of-self
invariant_of-self c =
    let values = c.self.inside.values.items in
    let free = c.self.inside.free in
    let within : c.args.block < length values = omega (arith, c.requires.within, ap (λ (k : Kept). length k.values) c.self.view_is) in
    let apart : list_any (λ f. c.args.block == f) free.items ≡ false = ap (λ (k : Kept). list_any (λ f. c.args.block == f) k.free) c.self.view_is ∙ c.requires.not_free in
    one_given values free c.args.block within apart c.self.invariant c.push_reserved.new.self
    (c.push_reserved.ensures.items ∙ ap (λ b. free.items ++ b ∷ []) c.number.ensures) c.push_reserved.ensures.capacity
