use Rattle.std.proofs.Common.{◌∷◌, [], sym, subst}
use Rattle.bus_semantics.specs.Common.{plan_of}
use Rattle.trace_reading.specs.Tables.{AreTables}
use Rattle.trace_reading.specs.declared.tables.Kind.TheVariants.{Instance, Runnable as a_runnable, Elem, Point, Result, Area, Machine, ModePort}
use Rattle.trace_reading.proofs.ByKind.{nine, own_table}
use Rattle.trace_reading.proofs.tables.add_tables.Goals as goal

pub returns-clause-all_kinds : goal.returns-clause-all_kinds
returns-clause-all_kinds c =
    let p = plan_of c.args.plan.now in
    let one = c.in_ok-add_table.ensures [] (subst (λ l. AreTables p [] l) (sym c.requires) tt) in
    let two = c.in_ok-add_table-2.ensures (Instance ∷ []) one in
    let three = c.in_ok-add_table-3.ensures (Instance ∷ a_runnable ∷ []) two in
    let four = c.in_ok-add_table-4.ensures (Instance ∷ a_runnable ∷ Elem ∷ []) three in
    let five = c.in_ok-add_table-5.ensures (Instance ∷ a_runnable ∷ Elem ∷ Point ∷ []) four in
    let six = c.in_ok-add_table-6.ensures (Instance ∷ a_runnable ∷ Elem ∷ Point ∷ Result ∷ []) five in
    let seven = c.in_ok-add_table-7.ensures (Instance ∷ a_runnable ∷ Elem ∷ Point ∷ Result ∷ Area ∷ []) six in
    let eight = c.in_ok-add_table-8.ensures (Instance ∷ a_runnable ∷ Elem ∷ Point ∷ Result ∷ Area ∷ Machine ∷ []) seven in
    nine p c.add_table-9.new.tables.items (c.in_ok-add_table-9.ensures (Instance ∷ a_runnable ∷ Elem ∷ Point ∷ Result ∷ Area ∷ Machine ∷ ModePort ∷ []) eight)

pub returns-clause-has_tables : goal.returns-clause-has_tables
returns-clause-has_tables c =
    let p = plan_of c.args.plan.now in
    let one = c.in_ok-add_table.ensures [] (subst (λ l. AreTables p [] l) (sym c.requires) tt) in
    let two = c.in_ok-add_table-2.ensures (Instance ∷ []) one in
    let three = c.in_ok-add_table-3.ensures (Instance ∷ a_runnable ∷ []) two in
    let four = c.in_ok-add_table-4.ensures (Instance ∷ a_runnable ∷ Elem ∷ []) three in
    let five = c.in_ok-add_table-5.ensures (Instance ∷ a_runnable ∷ Elem ∷ Point ∷ []) four in
    let six = c.in_ok-add_table-6.ensures (Instance ∷ a_runnable ∷ Elem ∷ Point ∷ Result ∷ []) five in
    let seven = c.in_ok-add_table-7.ensures (Instance ∷ a_runnable ∷ Elem ∷ Point ∷ Result ∷ Area ∷ []) six in
    let eight = c.in_ok-add_table-8.ensures (Instance ∷ a_runnable ∷ Elem ∷ Point ∷ Result ∷ Area ∷ Machine ∷ []) seven in
    own_table p c.add_table-9.new.tables.items (c.in_ok-add_table-9.ensures (Instance ∷ a_runnable ∷ Elem ∷ Point ∷ Result ∷ Area ∷ Machine ∷ ModePort ∷ []) eight)
