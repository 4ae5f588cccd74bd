use Rattle.bus_semantics.specs.Plan.{plan_of}
use Rattle.trace_walks.specs.Standing.{IsNoted}
use Rattle.trace_walks.proofs.Noted.{noted_stands, others_stand}
use Rattle.trace_walks.proofs.walks.Walks.note.Goals as goal

pub returns-in_ok-go_on-in-Act : goal.returns-in_ok-go_on-in-Act
returns-in_ok-go_on-in-Act c = λ m h sound legal stands.
    let p = plan_of c.args.p.now in
    let e = c.args.entry.now in
    let k = c.in-Act.key in
    let old = c.args.self.now in
    let new = c.free.new.self in
    let of : IsNoted c.args.t.now p k e.deed old new = record { between = c.go_on.new.self; gone = c.in_ok-go_on-in-Act.ensures; freed = c.free.ensures } in
    noted_stands c.args.t.now p m h e k old new c.in-Act.is sound legal stands of

pub returns-in_default : goal.returns-in_default
returns-in_default c = λ m h sound legal stands. others_stand c.args.t.now (plan_of c.args.p.now) h c.args.entry.now c.args.self.now c.in_default.not-Act stands
