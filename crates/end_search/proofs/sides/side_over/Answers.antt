use Rattle.std.proofs.Common.{◌∙◌, ◌<◌, length, refl, sym, subst}
use Rattle.description_types.specs.Members.{Among}
use Rattle.end_search.specs.Sharing.{IsIndexed}
use Rattle.end_search.proofs.sides.side_over.Goals as goal

pub returns : goal.returns
returns c =
    let d = c.args.tree.now.d.now in
    let keys = c.in_ok-interfaces.interfaces.keys in
    record {
      covers = λ x a. subst (Among x.interface) (sym c.in_ok-side.ensures.interfaces) (c.in_ok-interfaces.ensures x a);
      indexed = subst (λ l. 1 < length l → IsIndexed d l c.in_ok-side.side.index) (sym c.in_ok-side.ensures.interfaces)
          (subst (λ m. 1 < length keys → IsIndexed d keys m) (sym c.in_ok-side.ensures.index)
          (subst (λ l. 1 < length l → IsIndexed d l c.in_ok-index.index) c.as_slice.ensures.keys c.in_ok-index.ensures));
      sound = λ q x h. let g = (c.in_ok-side.ensures.groups q x).0 h in (c.requires.found.sound x g.0, g.1);
      whole = λ all x a. (c.in_ok-side.ensures.groups x.interface x).1 (c.requires.found.whole (sym c.in_ok-side.ensures.cut ∙ all) x a tt, refl);
      known = λ q k. absurd (subst (Among q) c.in_ok-side.ensures.known k);
    }
