use Rattle.std.proofs.Common.{◌≡◌, length, arith, ap, sym, ◌∙◌}
use Rattle.mapping_rules.proofs.Unnamed.{all_named}
use Rattle.mapping_rules.proofs.mapped.Mapped.are_named.Goals as goal

pub returns : goal.returns
returns c = λ t.
    let counts : length c.args.self.now.tasks.entries.items ≡ length c.args.self.now.names.d.now.mapping.events = grind (arith, t) in
    all_named c.args.self.now.names.d.now c.args.self.now.names.f.now (sym (ap length c.args.self.now.are_tasks) ∙ counts)
