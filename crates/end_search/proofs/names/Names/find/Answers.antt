use Rattle.std.proofs.Common.{sym}
use Rattle.end_search.proofs.Lookups.{name_found, name_absent}
use Rattle.end_search.proofs.names.Names.find.Goals as goal

pub returns-in-Some : goal.returns-in-Some
returns-in-Some c = λ j. name_found c.self.inside.names.items c.self.inside.places c.args.self.now (sym c.self.view_is) c.self.invariant.1 c.args.name j c.in-Some.positions.now c.as_slice.result.now c.as_slice.ensures.value (sym c.in-Some.ensures.value)

pub returns-in-None : goal.returns-in-None
returns-in-None c = λ j. name_absent c.self.inside.names.items c.self.inside.places c.args.self.now (sym c.self.view_is) c.self.invariant.1 c.args.name j (sym c.in-None.ensures.value)
