use Rattle.std.proofs.Common.{◌++◌}
use Rattle.composition_flatten.proofs.Naming.{none_named}
use Rattle.composition_flatten.proofs.listing.+listing.Goals as goal

pub list_prototype-returns-then-count_below-eq0 : goal.list_prototype-returns-then-count_below-eq0
list_prototype-returns-then-count_below-eq0 t c = none_named c.args.d.now c.args.levels.now c.args.depth c.in-Composition.held c.count_below.result c.args.prototype.now.of_type (c.args.prefix.now ++ c.args.prototype.now.short_name) c.args.listed.now.items
    c.requires.counted c.requires.within c.count_below.ensures c.if-count_below-eq0.true c.in-Composition.is
