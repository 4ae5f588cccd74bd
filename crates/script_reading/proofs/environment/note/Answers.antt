use Rattle.std.proofs.Common.{Some}
use Rattle.std.proofs.lemmas.Map.Text.{hash_map_updates_str}
use Rattle.script_reading.proofs.environment.note.Goals as goal

pub returns-in_ok-insert : goal.returns-in_ok-insert
returns-in_ok-insert c = λ q. rw c.in-Some.is
    (hash_map_updates_str c.in-Some.name.now c.args.index.now c.insert.new.self (Some c.args.number) c.in_ok-insert.ensures.updates q)
