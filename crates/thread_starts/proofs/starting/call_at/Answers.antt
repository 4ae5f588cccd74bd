use Rattle.std.proofs.Common.{◌≡◌, ◌<◌, length, slice_index_or, get_or-set_same, sym, subst, arith}
use Rattle.std.proofs.lemmas.List.{get_or_default}
use Rattle.std.specs.Fork.{ChangesAt}
use Rattle.thread_starts.proofs.starting.call_at.Goals as goal

pub returns-clause-called : goal.returns-clause-called
returns-clause-called g c d =
    let s = c.args.s.now in let y = c.call_one.new.it in
    let l : 0 < length s = omega (arith, c.requires.one) in
    let R : g.row.T.Denot → g.row.T.Denot → Type 0 = ChangesAt g.F.Fn c.args.f.now c.args.place in
    subst (λ z. R (slice_index_or s 0 d) z) (sym (get_or-set_same s 0 y d l)) (subst (λ x. R x y) (get_or_default s 0 _ d l) c.call_one.ensures)
