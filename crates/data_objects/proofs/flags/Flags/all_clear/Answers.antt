use Rattle.std.proofs.Common.{◌≡◌, ◌∙◌, ap, sym, subst, refl, map, replicate, false}
use Rattle.std.proofs.lemmas.List.{length-replicate}
use Rattle.std.proofs.lemmas.List.Elements.{All-map, All-replicate}
use Rattle.latches.specs.Latches.{Latch, clear_in}
use Rattle.data_objects.specs.Flags.{are_set, AreOneGroup}
use Rattle.data_objects.proofs.OneGroup.{none_set}
use Rattle.data_objects.proofs.flags.Flags.all_clear.Goals as goal

pub invariant_of-result : goal.invariant_of-result
invariant_of-result c =
    let zeros = replicate c.args.count 0 in
    let made = c.in_ok-latches.ensures ∙ ap (map clear_in) (c.deref.ensures.value ∙ c.in_ok-groups.ensures.items_if_clones_equal (λ y e. e)) in
    let one = All-map (λ (l : Latch). l.group ≡ 0) clear_in zeros (All-replicate (λ g. g ≡ 0) c.args.count 0 refl) in
    subst AreOneGroup (sym made) one

pub returns : goal.returns
returns c =
    let zeros = replicate c.args.count 0 in
    let made = c.in_ok-latches.ensures ∙ ap (map clear_in) (c.deref.ensures.value ∙ c.in_ok-groups.ensures.items_if_clones_equal (λ y e. e)) in
    ap are_set made ∙ none_set zeros ∙ ap (λ n. replicate n false) (length-replicate c.args.count 0)
