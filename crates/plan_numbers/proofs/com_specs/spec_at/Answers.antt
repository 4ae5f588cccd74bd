use Rattle.std.proofs.Common.{map, refl, sym, ap, nat_eq, ◌∙◌}
use Rattle.std.specs.List.{find}
use Rattle.std.specs.Option.{option_and_then}
use Rattle.std.proofs.lemmas.Option.{slice_get_read}
use Rattle.plan_numbers.proofs.Finding.{table_at}
use Rattle.plan_numbers.proofs.com_specs.spec_at.Goals as goal

pub spec_named-requires : goal.spec_named-requires
spec_named-requires c =
    let port = slice_get_read c.args.ports.now _ c.args.port c.in_ok-found.found.now refl c.in_ok-found.ensures.lookup.3.0 c.in_ok-found.ensures.lookup.1 in
    let table = slice_get_read c.args.tables.now _ c.args.port c.in_ok-table.table.now refl c.in_ok-table.ensures.lookup.3.0 c.in_ok-table.ensures.lookup.1 in
    table_at c.args.ports.now c.args.tables.now c.args.port c.in_ok-found.found.now c.in_ok-table.table.now c.requires port table ∙ ap (λ specs. map (λ s. s.element) specs) (sym c.items.ensures)

pub returns : goal.returns
returns c =
    let port = slice_get_read c.args.ports.now _ c.args.port c.in_ok-found.found.now refl c.in_ok-found.ensures.lookup.3.0 c.in_ok-found.ensures.lookup.1 in
    c.spec_named.ensures ∙ ap (find (λ s. nat_eq s.element c.args.item)) c.items.ensures ∙ ap (option_and_then (λ p. find (λ s. nat_eq s.element c.args.item) p.com_specs)) (sym port)
