use Rattle.std.proofs.Common.{◌≡◌, ◌<◌, ℕ, List, Vec, length, ⊎_elim, subst, arith}
use Rattle.std.specs.Global.{Global}
use Rattle.std.proofs.lemmas.Result.{IfOk-weaker}
use Rattle.end_search.specs.Sharing.{AreShared}
use Rattle.end_search.proofs.sides.shared.Goals as goal

pub returns-then-len : goal.returns-then-len
returns-then-len c =
    let first : c.len.result ≡ length c.args.provided.now.interfaces.keys = c.len.ensures.len in
    let second : c.len-2.result ≡ length c.args.required.now.interfaces.keys = c.len-2.ensures.len in
    let less = c.if-len.true in
    let many : 1 < length c.args.required.now.interfaces.keys = ⊎_elim (λ h. omega (arith, h, less, first, second)) (λ h. h) c.requires.several in
    IfOk-weaker c.pairs_of_provided.result _ (λ (pairs : Vec (ℕ × ℕ) Global). AreShared c.args.d.now c.args.provided.now.interfaces.keys c.args.required.now.interfaces.keys pairs.items)
    (λ pairs are. subst (λ l. AreShared c.args.d.now l c.args.required.now.interfaces.keys pairs.items) c.as_slice-interfaces.ensures.keys (are c.args.required.now.interfaces.keys (c.requires.required many))) c.pairs_of_provided.ensures

pub returns : goal.returns
returns c =
    let first : c.len.result ≡ length c.args.provided.now.interfaces.keys = c.len.ensures.len in
    let second : c.len-2.result ≡ length c.args.required.now.interfaces.keys = c.len-2.ensures.len in
    let more = c.if-len.false in
    let many : 1 < length c.args.provided.now.interfaces.keys = ⊎_elim (λ h. h) (λ h. omega (arith, h, more, first, second)) c.requires.several in
    IfOk-weaker c.pairs_of_required.result _ (λ (pairs : Vec (ℕ × ℕ) Global). AreShared c.args.d.now c.args.provided.now.interfaces.keys c.args.required.now.interfaces.keys pairs.items)
    (λ pairs are. subst (λ l. AreShared c.args.d.now c.args.provided.now.interfaces.keys l pairs.items) c.as_slice-interfaces-2.ensures.keys (are c.args.provided.now.interfaces.keys (c.requires.provided many))) c.pairs_of_required.ensures
