use Rattle.std.proofs.Common.{Some, ◌≤◌, ◌∙◌, ap, subst, sym}
use Rattle.serde_json.specs.Data.{Data, depth}
use Rattle.serde_json.specs.Read.{max_depth}
use Rattle.soak_maker.proofs.Depths.{description_below}
use Rattle.soak_maker.proofs.Scripts.{is_only_script}
use Rattle.soak_maker.proofs.soak.make_soak.Goals as goal

pub returns-clause-described : goal.returns-clause-described
returns-clause-described c =
    let is = c.in_ok-value.ensures in
    let bytes = c.in_ok-to_vec.ensures in
    (bytes.utf8, bytes.reads_back (subst (λ (d : Data). depth d ≤ max_depth) (sym is) (description_below c.args.n)) ∙ ap (λ (d : Data). Some d) is)

pub returns-clause-once : goal.returns-clause-once
returns-clause-once c = is_only_script c.in_ok-script.field-0.items c.in_ok-script.ensures
