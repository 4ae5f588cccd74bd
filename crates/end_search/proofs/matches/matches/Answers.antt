use Rattle.std.proofs.Common.{refl, sym}
use Rattle.std.proofs.lemmas.Bool.{ltb-true}
use Rattle.std.proofs.lemmas.Option.{slice_get_read, slice_get_past}
use Rattle.end_search.proofs.SameNames.{both_listed, first_unlisted, second_unlisted}
use Rattle.end_search.proofs.matches.matches.Goals as goal

pub returns-in_ok-pairs-in-Some-get : goal.returns-in_ok-pairs-in-Some-get
returns-in_ok-pairs-in-Some-get c = λ i j. both_listed c.args.d.now c.args.interfaces.now c.args.provided c.args.required c.requires i j c.in-Some.first.now c.in-Some-get.second.now _
    (slice_get_read c.args.interfaces.now _ c.args.provided c.in-Some.first.now refl (ltb-true _ _ (sym c.in-Some.ensures.lookup.0)) c.in-Some.ensures.lookup.1) (slice_get_read c.args.interfaces.now _ c.args.required c.in-Some-get.second.now refl (ltb-true _ _ (sym c.in-Some-get.ensures.lookup.0)) c.in-Some-get.ensures.lookup.1) (c.in_ok-pairs-in-Some-get.ensures i j)

pub returns-in-None-get : goal.returns-in-None-get
returns-in-None-get c = λ i j. second_unlisted c.args.d.now c.args.interfaces.now c.args.provided c.args.required c.requires i j c.new.result.items c.new.ensures.items (slice_get_past c.args.interfaces.now c.args.required c.in-None-get.ensures.lookup.3)

pub returns-in-None : goal.returns-in-None
returns-in-None c = λ i j. first_unlisted c.args.d.now c.args.interfaces.now c.args.provided c.args.required c.requires i j c.new-in-None.result.items c.new-in-None.ensures.items (slice_get_past c.args.interfaces.now c.args.provided c.in-None.ensures.lookup.3)
