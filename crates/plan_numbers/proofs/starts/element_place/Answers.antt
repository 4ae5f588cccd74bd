use Rattle.plan_numbers.proofs.Starting.{key_within, key_outside}
use Rattle.plan_numbers.proofs.starts.element_place.Goals as goal

pub returns-in-Some : goal.returns-in-Some
returns-in-Some c = key_within c.args.d.now c.args.f.now c.args.starts.now c.requires c.args.key c.in-Some.instance c.place_within.result c.in-Some.is c.place_within.ensures

pub returns-in-None : goal.returns-in-None
returns-in-None c = key_outside c.args.d.now c.args.f.now c.args.starts.now c.requires c.args.key c.place_outside.result c.in-None.is c.place_outside.ensures
