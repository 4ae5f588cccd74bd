use Rattle.std.proofs.Common.{◌≡◌, ◌++◌, ◌∷◌, [], ◌∙◌, List, map, length, sym, ap, subst, arith, append_assoc, append-nil}
use Rattle.bus_semantics.specs.Common.{map-append, length-map, into_iter_items}
use Rattle.bus_semantics.specs.declared.entries.Stamped.{Stamped}
use Rattle.cross_core_table.specs.Common.{CoreSeat, made_of, round_at, TakenIn}
use Rattle.cross_core_table.proofs.Takings.{at_seat, fewer, nothing_left}
use Rattle.cross_core_table.proofs.closing.take_in_all.Goals as goal

pub take_in-requires-clause-taken : goal.take_in-requires-clause-taken
take_in-requires-clause-taken c =
    let at = c.loop-seat in
    let x : CoreSeat = c.in-Some.seat in
    let rest : List CoreSeat = into_iter_items c.next.new.self in
    let steps : into_iter_items at.seat-iterator ≡ x ∷ rest = c.in-Some.ensures.steps.0 in
    let whole : at.yielded ++ x ∷ rest ≡ c.args.seats.items = ap (λ (l : List CoreSeat). at.yielded ++ l) (sym steps) ∙ (at.invariant.all ∙ c.into_iter-seat-iterator.ensures.into_iter_gives.0) in
    (at.yielded, at.invariant.taken, c.requires.seats.each (length at.yielded) x (at_seat at.yielded rest c.args.seats.items x whole), omega (arith, fewer at.yielded rest c.args.seats.items x whole, c.requires.seats.count))

pub take_in-requires-clause-space : goal.take_in-requires-clause-space
take_in-requires-clause-space c =
    let at = c.loop-seat in
    let x : CoreSeat = c.in-Some.seat in
    let rest : List CoreSeat = into_iter_items c.next.new.self in
    let steps : into_iter_items at.seat-iterator ≡ x ∷ rest = c.in-Some.ensures.steps.0 in
    let whole : at.yielded ++ x ∷ rest ≡ c.args.seats.items = ap (λ (l : List CoreSeat). at.yielded ++ l) (sym steps) ∙ (at.invariant.all ∙ c.into_iter-seat-iterator.ensures.into_iter_gives.0) in
    let space = c.requires.parts.1 in
    omega (arith, fewer at.yielded rest c.args.seats.items x whole, c.requires.seats.count, ap (λ (l : List (List Stamped)). length l) at.invariant.kept, length-map at.yielded made_of, length-map at.parts.items (λ v. v.items), at.invariant.space)

pub loop-seat-preserved : goal.loop-seat-preserved
loop-seat-preserved c =
    let at = c.loop-seat in
    let x : CoreSeat = c.in-Some.seat in
    let rest : List CoreSeat = into_iter_items c.next.new.self in
    let steps : into_iter_items at.seat-iterator ≡ x ∷ rest = c.in-Some.ensures.steps.0 in
    let given : at.yielded ++ x ∷ rest ≡ _ = ap (λ (l : List CoreSeat). at.yielded ++ l) (sym steps) ∙ at.invariant.all in
    let whole : at.yielded ++ x ∷ rest ≡ c.args.seats.items = given ∙ c.into_iter-seat-iterator.ensures.into_iter_gives.0 in
    let was = at.invariant.left in
    let gone = c.in-Some.ensures.steps.1 in
    record {
      all = append_assoc at.yielded (x ∷ []) rest ∙ given;
      left = let short = ap (λ (l : List CoreSeat). length l) steps in omega arith;
      taken = c.take_in.ensures.taken at.yielded at.invariant.taken (c.requires.seats.each (length at.yielded) x (at_seat at.yielded rest c.args.seats.items x whole));
      kept = c.take_in.ensures.parts ∙ (ap (λ (l : List (List Stamped)). l ++ made_of x ∷ []) at.invariant.kept ∙ sym (map-append made_of at.yielded (x ∷ [])));
      space = c.take_in.ensures.space ∙ at.invariant.space;
    }

pub returns-clause-taken : goal.returns-clause-taken
returns-clause-taken c =
    let at = c.loop-seat in
    let none = c.in-None.ensures.steps in
    let empty : into_iter_items at.seat-iterator ≡ [] = nothing_left (into_iter_items at.seat-iterator) (sym at.invariant.left ∙ none.0) in
    let all : at.yielded ≡ c.args.seats.items = sym (append-nil at.yielded) ∙ (ap (λ (l : List CoreSeat). at.yielded ++ l) (sym empty) ∙ (at.invariant.all ∙ c.into_iter-seat-iterator.ensures.into_iter_gives.0)) in
    subst (λ (l : List CoreSeat). TakenIn (round_at c.args.top.now.table_id c.args.top.now.key c.args.cores) l at.first) all at.invariant.taken

pub returns-clause-parts : goal.returns-clause-parts
returns-clause-parts c =
    let at = c.loop-seat in
    let none = c.in-None.ensures.steps in
    let empty : into_iter_items at.seat-iterator ≡ [] = nothing_left (into_iter_items at.seat-iterator) (sym at.invariant.left ∙ none.0) in
    let all : at.yielded ≡ c.args.seats.items = sym (append-nil at.yielded) ∙ (ap (λ (l : List CoreSeat). at.yielded ++ l) (sym empty) ∙ (at.invariant.all ∙ c.into_iter-seat-iterator.ensures.into_iter_gives.0)) in
    at.invariant.kept ∙ ap (λ (l : List CoreSeat). map made_of l) all
