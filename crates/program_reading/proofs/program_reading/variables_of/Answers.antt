use Rattle.std.proofs.Common.{map, length, sym, ap, ◌∙◌}
use Rattle.std.proofs.lemmas.List.{length-map}
use Rattle.serde_json.specs.View.{view}
use Rattle.description_shapes.specs.declared.kind.Kind.TheVariants.{Statements}
use Rattle.declared_names.specs.Names.{text_of}
use Rattle.program_reading.specs.Variables.{all_added, names_in}
use Rattle.program_reading.proofs.Counted.{few_variables}
use Rattle.program_reading.proofs.program_reading.variables_of.Goals as goal

pub positions-requires : goal.positions-requires
positions-requires c =
    let first = map text_of c.args.first.now in
    few_variables first (view c.args.value.now) c.add_names.new.vars (length c.args.first.now)
    (c.in_ok-add_names.ensures ∙ ap (λ vs. all_added vs (names_in (view c.args.value.now) Statements)) (c.in_ok-add_all.ensures ∙ ap (λ vs. all_added vs first) c.new-vars.ensures))
    (sym (length-map c.args.first.now text_of)) c.requires
