use Rattle.std.proofs.Common.{◌≡◌, ◌∙◌, ap, option_map, bytes_eq}
use Rattle.std.specs.Map.{lookup}
use Rattle.plan_text.specs.Calls.{seen}
use Rattle.plan_text.proofs.Entries.{found}
use Rattle.plan_text.proofs.header_listing.find.Goals as goal

pub returns : goal.returns
returns c =
    let looked_up : c.copied.result ≡ lookup (λ k. bytes_eq c.args.name.now k.items) c.args.calls.now.entries = c.copied.ensures ∙ c.get.ensures.value in
    ap (option_map seen) looked_up ∙ found c.args.calls.now.entries c.args.name.now c.requires.named
