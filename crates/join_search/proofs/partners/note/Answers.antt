use Rattle.std.proofs.Common.{rules, ◌≡◌, ◌∙◌, Some, None, ap, subst, arith, unwrap_or}
use Rattle.indexmap.specs.IndexMap.{Updates, get}
use Rattle.indexmap.specs.Entry.{map_with_value}
use Rattle.join_search.specs.Partners.{key_of, same_key, with_one}
use Rattle.join_search.proofs.Keeping.{set_first}
use Rattle.join_search.proofs.partners.note.Goals as goal

pub returns : goal.returns
returns c =
    let had : c.or_insert-kept.result.now ≡ unwrap_or (get same_key c.args.map.now (key_of c.args.end)) (with_one None c.args.partner) = grind arith in
    let value : c.with_one-2.result ≡ with_one (get same_key c.args.map.now (key_of c.args.end)) c.args.partner =
    c.with_one-2.ensures ∙ ap (λ p. with_one (Some p) c.args.partner) had ∙ set_first (get same_key c.args.map.now (key_of c.args.end)) c.args.partner in
    let sets = subst (λ k. Updates same_key c.args.map.now (map_with_value c.in_ok-map.field-0 c.with_one-2.result) k (Some c.with_one-2.result)) c.key_of_end.ensures (c.in_ok-map.ensures.update.0 c.with_one-2.result) in
    let now = subst (λ v. Updates same_key c.args.map.now (map_with_value c.in_ok-map.field-0 c.with_one-2.result) (key_of c.args.end) (Some v)) value sets in
    search (rules, now)
