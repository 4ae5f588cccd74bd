use Rattle.std.proofs.Common.{◌≡◌, ◌++◌, ℕ, List, Bool, false, length, take, drop, if◌then◌else◌, sym, ap, ◌∙◌, arith}
use Rattle.std.proofs.lemmas.List.{length-take}
use Rattle.signal_link.specs.Pipes.{Pipe, fails_next, given_of}
use Rattle.signal_link.proofs.Pipes.{filled}
use Rattle.signal_link.proofs.pipe_link.PipeLinkLink.receive.Goals as goal

pub returns-clause-filled : goal.returns-clause-filled
returns-clause-filled c =
    let most = c.min-most.result in
    let gave = c.read_into-gave.result in
    let way : c.self.inside.way.items ≡ c.args.self.now.way = ap (λ (p : Pipe). p.way) (c.self.view_is ∙ c.count.ensures) in
    let long = length-take c.min-most.result c.args.room.now in
    let ways : length c.self.inside.way.items ≡ length c.args.self.now.way = ap (λ (l : List ℕ). length l) way in
    let most_is = c.min-most.ensures in
    let gave_is = c.read_into-gave.ensures.count in
    let cut_is = c.cut.ensures.cut in
    let count : c.read_into-gave.result ≡ given_of c.args.self.now c.args.room.now = omega (arith, long, ways, most_is, gave_is, cut_is) in
    let not_failed : fails_next c.args.self.now ≡ false = sym c.fails_next-fails.ensures.fails ∙ c.if-fails.false in
    ap (λ (l : List ℕ). l ++ drop c.min-most.result c.args.room.now) c.read_into-gave.ensures.read
    ∙ filled c.self.inside.way.items c.args.room.now c.min-most.result c.read_into-gave.result (omega (arith, most_is)) (omega (arith, long, gave_is))
    ∙ ap (λ (l : List ℕ). take c.read_into-gave.result l ++ drop c.read_into-gave.result c.args.room.now) way
    ∙ ap (λ (n : ℕ). take n c.args.self.now.way ++ drop n c.args.room.now) count
    ∙ sym (ap (λ (b : Bool). if b then c.args.room.now else take (given_of c.args.self.now c.args.room.now) c.args.self.now.way ++ drop (given_of c.args.self.now c.args.room.now) c.args.room.now) not_failed)
