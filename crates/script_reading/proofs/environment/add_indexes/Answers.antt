use Rattle.std.proofs.Common.{◌∷◌, [], sym, subst}
use Rattle.bus_semantics.specs.Common.{plan_of}
use Rattle.script_reading.specs.Common.{Write, Send, Read, Receive, Ask, Switch}
use Rattle.script_reading.specs.Index.{AreIndexes}
use Rattle.script_reading.proofs.ByForm.{own_index, seven}
use Rattle.script_reading.proofs.environment.add_indexes.Goals as goal

pub returns-clause-all_forms : goal.returns-clause-all_forms
returns-clause-all_forms c =
    let p = plan_of c.args.plan.now in
    let one = c.in_ok-add_index.ensures [] (subst (λ l. AreIndexes p [] l) (sym c.requires.none) tt) in
    let two = c.in_ok-add_index-2.ensures (Write ∷ []) one in
    let three = c.in_ok-add_index-3.ensures (Write ∷ Send ∷ []) two in
    let four = c.in_ok-add_index-4.ensures (Write ∷ Send ∷ Read ∷ []) three in
    let five = c.in_ok-add_index-5.ensures (Write ∷ Send ∷ Read ∷ Receive ∷ []) four in
    let six = c.in_ok-add_index-6.ensures (Write ∷ Send ∷ Read ∷ Receive ∷ Ask ∷ []) five in
    seven p c.add_index-7.new.indexes.items (c.in_ok-add_index-7.ensures (Write ∷ Send ∷ Read ∷ Receive ∷ Ask ∷ Switch ∷ []) six)

pub returns-clause-known : goal.returns-clause-known
returns-clause-known c =
    let p = plan_of c.args.plan.now in
    let one = c.in_ok-add_index.ensures [] (subst (λ l. AreIndexes p [] l) (sym c.requires.none) tt) in
    let two = c.in_ok-add_index-2.ensures (Write ∷ []) one in
    let three = c.in_ok-add_index-3.ensures (Write ∷ Send ∷ []) two in
    let four = c.in_ok-add_index-4.ensures (Write ∷ Send ∷ Read ∷ []) three in
    let five = c.in_ok-add_index-5.ensures (Write ∷ Send ∷ Read ∷ Receive ∷ []) four in
    let six = c.in_ok-add_index-6.ensures (Write ∷ Send ∷ Read ∷ Receive ∷ Ask ∷ []) five in
    own_index p c.add_index-7.new.indexes.items (c.in_ok-add_index-7.ensures (Write ∷ Send ∷ Read ∷ Receive ∷ Ask ∷ Switch ∷ []) six)
