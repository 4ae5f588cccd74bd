use Rattle.std.proofs.Common.{◌≡◌, ◌==◌, None, Some, length, rules}
use Rattle.std.specs.List.{list_all}
use Rattle.plan_definitions.specs.Joined.{end_at, provider_of}
use Rattle.mapping_rules.proofs.Unserved.{where_none, none_behind, tables_empty}
use Rattle.mapping_rules.proofs.servers.Servers.tasks_joined.Goals as goal

pub returns-in-None : goal.returns-in-None
returns-in-None c =
    let gone : c.args.self.now.providers ≡ None = search rules in
    let none = where_none c.args.self.now.providers (list_all (λ t. length t.entries.items == 0) c.args.self.now.invocations.items) gone c.args.self.now.unserved in
    none_behind c.args.self.now.mapped.now.names.d.now c.args.self.now.mapped.now.names.f.now
    (tables_empty (λ t. t.entries.items) c.args.self.now.invocations.items c.args.self.now.mapped.now.names.d.now.components c.args.self.now.are_invocations none)
    (provider_of c.args.self.now.mapped.now.names.f.now.joins (end_at (Some c.args.instance) c.args.port c.args.item))
