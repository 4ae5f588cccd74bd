use Rattle.std.proofs.Common.{◌≡◌, ◌∙◌, ap, bytes_eq, ◌++◌, ◌∷◌, []}
use Rattle.indexmap.proofs.CallerLemmas.{insert_entry-new}
use Rattle.plan_text.specs.Listing.{has_name}
use Rattle.plan_text.specs.Noting.{kept}
use Rattle.plan_text.proofs.Entries.{absent, kept_more}
use Rattle.plan_text.proofs.header_listing.keep.Goals as goal

pub returns-clause-kept : goal.returns-clause-kept
returns-clause-kept c =
    let none = absent c.args.calls.now.entries c.args.name.items c.requires.kept.named (ap (has_name (kept c.args.calls.now)) c.requires.named ∙ c.requires.new) in
    let entries : c.insert.new.self.entries ≡ c.args.calls.now.entries ++ (c.args.name, c.args.call) ∷ [] =
    c.in_ok-insert.ensures.entries ∙ insert_entry-new (λ x y. bytes_eq x.items y.items) c.args.calls.now c.args.name c.args.call none in
    (kept_more c.args.calls.now c.insert.new.self (c.args.name, c.args.call) c.requires.kept c.requires.named c.requires.new entries).0

pub returns-clause-last : goal.returns-clause-last
returns-clause-last c =
    let none = absent c.args.calls.now.entries c.args.name.items c.requires.kept.named (ap (has_name (kept c.args.calls.now)) c.requires.named ∙ c.requires.new) in
    let entries : c.insert.new.self.entries ≡ c.args.calls.now.entries ++ (c.args.name, c.args.call) ∷ [] =
    c.in_ok-insert.ensures.entries ∙ insert_entry-new (λ x y. bytes_eq x.items y.items) c.args.calls.now c.args.name c.args.call none in
    (kept_more c.args.calls.now c.insert.new.self (c.args.name, c.args.call) c.requires.kept c.requires.named c.requires.new entries).1
