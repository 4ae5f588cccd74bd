use Rattle.std.proofs.Common.{◌≡◌, ◌==◌, None, length, rules}
use Rattle.std.specs.List.{list_all}
use Rattle.mapping_rules.proofs.Unserved.{where_none, tables_empty, waits_by_none}
use Rattle.mapping_rules.proofs.servers.Servers.serve_nothing.Goals as goal

pub returns : goal.returns
returns c = λ t.
    let gone : c.args.self.now.providers ≡ None = search (rules, t) in
    let none = where_none c.args.self.now.providers (list_all (λ t. length t.entries.items == 0) c.args.self.now.invocations.items) gone c.args.self.now.unserved in
    waits_by_none c.args.self.now.mapped.now.names.d.now c.args.self.now.mapped.now.names.f.now
    (tables_empty (λ t. t.entries.items) c.args.self.now.invocations.items c.args.self.now.mapped.now.names.d.now.components c.args.self.now.are_invocations none)
