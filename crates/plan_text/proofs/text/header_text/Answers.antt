use Rattle.std.proofs.Common.{◌≡◌, rules}
use Rattle.plan_text.specs.Headers.{title}
use Rattle.plan_text.proofs.Entries.{whole_text}
use Rattle.plan_text.proofs.text.header_text.Goals as goal

pub returns : goal.returns
returns c =
    let titled : c.add_title.new.text.items ≡ title c.args.name.now = search rules in
    whole_text c.add_lines.new.text.items c.add_title.new.text.items c.args.name.now c.args.calls.now.entries c.requires.named titled c.in_ok-add_lines.ensures
