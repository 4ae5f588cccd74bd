use Rattle.std.proofs.Common.{[], ◌∙◌, Some, ap, get_or, map, option_map, sym}
use Rattle.runnable_lang.specs.Trees.{program_tree}
use Rattle.plan_definitions.specs.Common.{pair_number, runnables_of, served_number, target_of}
use Rattle.plan_services.proofs.Serving.{served_found}
use Rattle.plan_services.proofs.runnables.runnable_of.Goals as goal

pub returns-clause-seen : goal.returns-clause-seen
returns-clause-seen c =
    let d = c.args.source.now.d.now in
    let f = c.args.source.now.f.now in
    let common = c.args.common.now in
    let name = c.in_ok-name.ensures ∙ c.bytes.ensures in
    let program = ap program_tree c.in_ok-program.ensures in
    let accesses = ap (λ s. s.accesses) c.in_ok-shared.ensures ∙ c.requires.signature in
    let targets = c.in_ok-targets.ensures ∙ ap (map (target_of d f c.args.instance c.args.position)) c.items-accesses.ensures in
    let server = c.server_of.ensures ∙ ap (option_map (served_number d f c.args.instance)) (served_found c.args.position common.component.now.behavior.events common.served.now.entries.items c.requires.serves) in
    let lists = c.in_ok-lists.ensures ∙ ap (λ numbers. get_or numbers (pair_number (runnables_of d f) (c.args.instance, c.args.position)) []) c.requires.lists in
    λ j. record { instance = c.args.instance; name = name j; program = program j; accesses = accesses j; targets = targets j; server = server j; lists = lists j }

pub returns-clause-coded : goal.returns-clause-coded
returns-clause-coded c =
    let program = ap program_tree c.in_ok-program.ensures in
    let accesses = ap (λ s. s.accesses) c.in_ok-shared.ensures ∙ c.requires.signature in
    c.requires.own ∙ (λ j. Some (sym program j, sym accesses j))
