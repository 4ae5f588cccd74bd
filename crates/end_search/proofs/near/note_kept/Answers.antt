use Rattle.std.proofs.Common.{sym, arith}
use Rattle.description_types.specs.declared.description.PrototypeType.TheVariants.{Composition}
use Rattle.end_search.specs.declared.gates.Gate.TheVariants as gate
use Rattle.end_search.specs.Wishes.{IsEnd}
use Rattle.end_search.proofs.Nearing.{kept_moved, sought_part}
use Rattle.end_search.proofs.near.note_kept.Goals as goal

pub returns-in_ok-is_cut-in-Some : goal.returns-in_ok-is_cut-in-Some
returns-in_ok-is_cut-in-Some c = λ d w near. kept_moved d w c.args.depth c.args.composition c.args.first c.args.port c.in-Some.ends.now.items c.as_slice.result.now c.args.found.now.keys c.note_all_moved.new.found.keys c.in_ok-is_cut-in-Some.is_cut
    (omega arith) c.as_slice.ensures.value (near (gate.Composition c.args.depth c.args.composition 0 c.args.port) c.in-Some.ends.now (sym c.in-Some.ensures.value)) c.in_ok-is_cut-in-Some.ensures.found

pub returns-in-None : goal.returns-in-None
returns-in-None c = λ d w near. sought_part (IsEnd d w c.args.depth (Composition c.args.composition) c.args.first c.args.port) c.args.found.now.keys
