use Rattle.std.proofs.Common.{◌≡◌, ◌||◌, not, nat_eq, sym, ap, ◌∙◌}
use Rattle.indexmap.specs.IndexSet.{contains}
use Rattle.plan_services.proofs.Using.{waits_kept}
use Rattle.plan_services.proofs.users.Users.wait.Goals as goal

pub returns-then-not-contains : goal.returns-then-not-contains
returns-then-not-contains c = ap not c.if-not-contains.true ∙ sym (waits_kept c.args.source.now.d.now c.args.source.now.f.now c.args.machine c.args.self.now c.requires
    ∙ ap (λ b. not b || contains nat_eq c.args.self.now.refused c.args.machine) (sym c.contains.ensures ∙ c.if-not-contains.true))

pub returns-else-not-contains : goal.returns-else-not-contains
returns-else-not-contains c = c.contains-else-not-contains.ensures ∙ sym (waits_kept c.args.source.now.d.now c.args.source.now.f.now c.args.machine c.args.self.now c.requires
    ∙ ap (λ b. not b || contains nat_eq c.args.self.now.refused c.args.machine) (sym c.contains.ensures ∙ c.if-not-contains.false))
