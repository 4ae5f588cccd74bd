use Rattle.std.proofs.Common.{◌≡◌, ◌∙◌, sym, true}
use Rattle.std.specs.Map.{lookup}
use Rattle.plan_definitions.specs.Joined.{provider_of}
use Rattle.plan_numbers.specs.Ends.{is_served, same_end_key}
use Rattle.plan_numbers.proofs.Finding.{provider_found}
use Rattle.plan_numbers.proofs.joined.Joined.provider_of.Goals as goal

pub returns-then-is_served : goal.returns-then-is_served
returns-then-is_served c =
    let served : is_served c.self.inside.d.now c.self.inside.f.now c.args.required ≡ true = sym c.is_served.ensures ∙ c.if-is_served.true in
    c.find.ensures ∙ (λ j. lookup (same_end_key (c.key_of.ensures j)) c.self.inside.served.entries.items)
    ∙ provider_found c.self.inside.d.now c.self.inside.f.now c.self.inside.f.now.joins c.self.inside.served.entries.items c.args.required c.self.invariant served ∙ (λ j. provider_of (c.self.view_is j) c.args.required)
