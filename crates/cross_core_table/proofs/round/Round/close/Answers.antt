use Rattle.std.proofs.Common.{◌≤◌, ◌∙◌, ℕ, List, map, sym, ap, subst, le_trans}
use Rattle.bus_semantics.specs.declared.entries.Stamped.{Stamped}
use Rattle.bus_semantics.specs.Common.{IsInterleaved, vec_capacity}
use Rattle.std.specs.Slots.{slots_items}
use Rattle.cross_core_table.specs.Common.{OpenRound, AreSeatsOf, made_of, round_at, items_of}
use Rattle.cross_core_table.proofs.Closes.{has_ended, word_first, third, closed_is}
use Rattle.cross_core_table.proofs.round.Round.close.Goals as goal

pub in_order-entries-requires-clause-space : goal.in_order-entries-requires-clause-space
in_order-entries-requires-clause-space c =
    let r : OpenRound = round_at c.self.inside.table.shared.table_id c.self.inside.table.shared.key c.self.inside.cores in
    let seats = c.args.seats.items in
    let ws : List ℕ = slots_items c.close_with-closed.result.words in
    let e = has_ended c.rounds_end_whole.ensures r seats c.in-Some.first ws (slots_items c.close_with-closed.result.slots) (subst (λ (x : OpenRound). AreSeatsOf x seats) (sym c.self.view_is) c.requires.seats) c.in-Some.ensures.taken
    c.self.invariant.some_core c.self.invariant.planned (third c.close_with-closed.ensures.values) in
    let count = sym (word_first ws c.word-count.result c.word-count.ensures) ∙ e.count in
    subst (λ (n : ℕ). n ≤ vec_capacity c.self.inside.entries) (sym count) (le_trans e.fits c.self.invariant.for_entries)

pub in_order-entries-requires-clause-parts : goal.in_order-entries-requires-clause-parts
in_order-entries-requires-clause-parts c =
    let r : OpenRound = round_at c.self.inside.table.shared.table_id c.self.inside.table.shared.key c.self.inside.cores in
    let seats = c.args.seats.items in
    let ws : List ℕ = slots_items c.close_with-closed.result.words in
    let e = has_ended c.rounds_end_whole.ensures r seats c.in-Some.first ws (slots_items c.close_with-closed.result.slots) (subst (λ (x : OpenRound). AreSeatsOf x seats) (sym c.self.view_is) c.requires.seats) c.in-Some.ensures.taken
    c.self.invariant.some_core c.self.invariant.planned (third c.close_with-closed.ensures.values) in
    let count = sym (word_first ws c.word-count.result c.word-count.ensures) ∙ e.count in
    let parts = ap items_of c.as_slice.ensures.value ∙ c.take_in_all.ensures.parts in
    (e.entries, subst (λ (l : List (List Stamped)). IsInterleaved e.entries l) (sym parts) e.interleaved, sym count)

pub returns : goal.returns
returns c =
    let r : OpenRound = round_at c.self.inside.table.shared.table_id c.self.inside.table.shared.key c.self.inside.cores in
    let seats = c.args.seats.items in
    let ws : List ℕ = slots_items c.close_with-closed.result.words in
    let e = has_ended c.rounds_end_whole.ensures r seats c.in-Some.first ws (slots_items c.close_with-closed.result.slots) (subst (λ (x : OpenRound). AreSeatsOf x seats) (sym c.self.view_is) c.requires.seats) c.in-Some.ensures.taken
    c.self.invariant.some_core c.self.invariant.planned (third c.close_with-closed.ensures.values) in
    let count = sym (word_first ws c.word-count.result c.word-count.ensures) ∙ e.count in
    let parts = ap items_of c.as_slice.ensures.value ∙ c.take_in_all.ensures.parts in
    closed_is r.opening c.args.self.opening (map made_of seats) (slots_items c.close_with-closed.result.slots) c.take_objects.result.items e.entries c.in_order-entries.result.items
    (sym (ap (λ (x : OpenRound). x.opening) c.self.view_is)) c.take_objects.ensures
    (c.in_order-entries.ensures e.entries (subst (λ (l : List (List Stamped)). IsInterleaved e.entries l) (sym parts) e.interleaved) (sym count)) e.closed
