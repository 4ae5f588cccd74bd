use Rattle.std.proofs.Common.{◌++◌, length, ap, ◌∙◌, arith}
use Rattle.bus_semantics.specs.Common.{plan_of, entry_text}
use Rattle.trace_text.proofs.ShortLines.{entry_short}
use Rattle.trace_text.proofs.lines.write_entry.Goals as goal

pub returns : goal.returns
returns c =
    let p = plan_of c.args.p.now in
    let short = entry_short c.args.v p c.requires.names c.requires.lists c.args.e.now c.write_line.ensures.short in
    let empty = ap length c.requires.empty in
    c.write_line.ensures.text.appended (omega arith) ∙ ap (λ t. t ++ entry_text c.args.v p c.args.e.now) c.requires.empty
