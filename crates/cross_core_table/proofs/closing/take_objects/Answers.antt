use Rattle.std.proofs.Common.{◌≡◌, ◌<◌, ◌∙◌, ◌++◌, ◌∷◌, [], ℕ, List, Bool, false, get_or, get_or-set_other, set, ◌+◌, sym, ap, subst, arith}
use mathlib.Core.Logic.{dite}
use mathlib.Core.Option.{some}
use native.Mathlib.Decide.{ℕ_discrete}
use lib.ListN.{get_elem?}
use Rattle.std.specs.Slots.{slots_filled, slots_items}
use Rattle.port_objects.specs.declared.object.Object.{Object}
use Rattle.cross_core_table.proofs.Closes.{take_more, cleared}
use Rattle.cross_core_table.proofs.closing.take_objects.Goals as goal

pub loop-i-preserved : goal.loop-i-preserved
loop-i-preserved c =
    let at = c.loop-i in
    let was = at.invariant in
    let i : ℕ = at.i in
    let others = c.take.ensures.others in
    let filled : List Bool = slots_filled at.closed.slots in
    record {
      filled = λ k from below.
          ap (λ (l : List Bool). get_or l k false) others.1 ∙ (get_or-set_other filled i k false false (λ e. omega arith) ∙ was.filled k (omega arith) (subst (λ (n : ℕ). k < n) others.2 below));
      taken = λ k below. ap (λ (l : List Bool). get_or l k false) others.1 ∙ dite (ℕ_discrete k i)
          (λ e. subst (λ (j : ℕ). get_or (set filled i false) j false ≡ false) (sym e) (cleared filled i))
          (λ ne. get_or-set_other filled i k false false ne ∙ was.taken k (omega arith));
      same = others.0 ∙ was.same;
      long = others.2 ∙ was.long;
      so_far = c.push_reserved.ensures.items ∙ (ap (λ (l : List Object). l ++ c.take.result ∷ []) was.so_far
          ∙ sym (take_more (slots_items c.args.closed.slots) i (i + 1) c.take.result (omega arith) (subst (λ (l : List Object). get_elem? l i ≡ some c.take.result) was.same c.take.ensures.value)));
      space = c.push_reserved.ensures.capacity ∙ was.space;
    }
