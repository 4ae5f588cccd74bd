use Rattle.std.proofs.Common.{ℕ, nat_eq, ◌&&◌, ◌∙◌}
use Rattle.composition_tables.proofs.Pairs.{seen_now}
use Rattle.end_search.proofs.Seeking.{insert_last}
use Rattle.end_search.proofs.below.note_port.Goals as goal

pub returns-clause-stays : goal.returns-clause-stays
returns-clause-stays c = let last = insert_last (λ (x y : ℕ × ℕ). nat_eq x.0 y.0 && nat_eq x.1 y.1) c.args.search.now.seen.keys (c.args.composition, c.args.port) in
    record { seen = (last.0, c.in_ok-insert.ensures.keys ∙ last.1); found = λ i h. h }

pub returns-clause-seen : goal.returns-clause-seen
returns-clause-seen c = seen_now c.args.search.now.seen.keys (c.args.composition, c.args.port) c.insert.new.self.keys c.in_ok-insert.ensures.keys
