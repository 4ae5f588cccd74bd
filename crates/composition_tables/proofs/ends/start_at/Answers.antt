use Rattle.std.proofs.Common.{◌∙◌, ap, slice_get, []}
use Rattle.std.specs.Option.{option_map_or}
use Rattle.composition_tables.specs.Trees.{start_in, items_of}
use Rattle.composition_tables.proofs.Following.{started}
use Rattle.composition_tables.proofs.ends.start_at.Goals as goal

pub returns : goal.returns
returns c = c.start_in.ensures ∙ ap (λ l. start_in l c.args.composition c.args.prototype) (c.starts_at.ensures ∙ ap (λ l. option_map_or items_of (slice_get l c.args.depth) []) c.as_slice.ensures.value)
    ∙ started c.args.tree.now.d.now c.args.tree.now.starts.items c.args.depth c.args.composition c.args.prototype c.requires.is_tree.started c.requires.within c.requires.declared
