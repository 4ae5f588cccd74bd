use Rattle.std.proofs.Common.{⊎_elim, sym, subst}
use Rattle.indexmap.specs.IndexMap.{get}
use Rattle.std.proofs.lemmas.List.{take_all}
use Rattle.description_types.specs.Items.{interface_at}
use Rattle.description_types.specs.Members.{Among}
use Rattle.end_search.specs.Sharing.{interface_keys, same_item}
use Rattle.composition_tables.specs.Multi.{under}
use Rattle.end_search.proofs.Keying.{taken_cases}
use Rattle.end_search.proofs.partners.index_of.Goals as goal

pub loop-interface-init : goal.loop-interface-init
loop-interface-init c = λ q i a b. absurd a

pub loop-interface-preserved : goal.loop-interface-preserved
loop-interface-preserved c = λ q i a b. ⊎_elim (λ l. c.in_ok-note_interface.ensures.stays q i (c.loop-interface.invariant q i l b))
    (λ e. subst (λ z. Among z (under (get same_item c.note_interface.new.index q))) (sym e) (c.in_ok-note_interface.ensures.has q (subst (λ z. Among (q.0, q.1.now) (interface_keys (interface_at c.args.d.now z))) e b)))
    (taken_cases c.args.chosen.now c.loop-interface.interface-index 0 i c.loop-interface-test.true a)

pub returns : goal.returns
returns c = λ q i a b. c.loop-interface.invariant q i (subst (Among i) (sym (take_all c.loop-interface.interface-index c.args.chosen.now c.loop-interface-test.false)) a) b
