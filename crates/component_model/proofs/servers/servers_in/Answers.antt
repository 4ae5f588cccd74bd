use Rattle.std.proofs.Common.{map, filter, ap, ◌∙◌}
use Rattle.serde_json.specs.View.{view}
use Rattle.component_model.specs.Programs.{is_invoked, runnable_names}
use Rattle.declared_names.specs.Values.{seen}
use Rattle.component_model.proofs.Few.{few_servers}
use Rattle.component_model.proofs.servers.servers_in.Goals as goal

pub of-requires : goal.of-requires
of-requires c = few_servers c.in_ok-names.names.items (map seen c.in_ok-events.events.items) (view c.args.behavior.now)
    (c.in_ok-names.ensures ∙ ap (λ es. runnable_names (map seen es)) c.deref.ensures.value) (c.in_ok-events.ensures ∙ ap (filter is_invoked) c.items_at.ensures) c.requires
