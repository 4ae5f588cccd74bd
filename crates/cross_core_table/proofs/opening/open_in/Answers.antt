use Rattle.std.proofs.Common.{◌∙◌, ap, sym, subst, rules, length}
use Rattle.bus_semantics.specs.declared.plan.BusPlan.{BusPlan}
use Rattle.bus_semantics.specs.Plan.{plan_of}
use Rattle.port_objects.specs.Objects.{ArePlans}
use Rattle.cross_core_table.specs.Common.{place_of}
use Rattle.cross_core_table.proofs.Seating.{opens}
use Rattle.cross_core_table.proofs.Opens.{zeros_long, zeros_at, is_ready}
use Rattle.cross_core_table.proofs.opening.open_in.Goals as goal

pub new-requires : goal.new-requires
new-requires c =
    let objects = c.args.objects.items in
    let words = c.as_slice.ensures.value ∙ c.requires.space.words in
    opens (record { plan = c.of.result; objects = c.of-2.result; room = c.args.room }) c.as_slice.result.now objects (search rules) (ap (λ v. v.items) c.of-2.ensures)
    (subst (λ (b : BusPlan). ArePlans (plan_of b) objects) (sym c.of.ensures) c.requires.planned) (zeros_long c.as_slice.result.now (place_of (length objects)) words) (zeros_at c.as_slice.result.now (place_of (length objects)) words)

pub invariant_of-result : goal.invariant_of-result
invariant_of-result c =
    let objects = c.args.objects.items in
    let words = c.as_slice.ensures.value ∙ c.requires.space.words in
    let o = c.in-Ok.ensures.ok in
    let key = o.5 in
    is_ready c.in-Ok.table.shared.table_id c.in-Ok.table.shared.key c.args.p.now objects c.args.cores c.args.room c.args.space c.give_seats.new.rooms c.requires.sound c.requires.planned c.requires.cores.0 c.requires.space
    (o.0 ∙ zeros_long c.as_slice.result.now (place_of (length objects)) words) o.1 (ap (λ k. k.plan.value) key ∙ c.of.ensures) (ap (λ k. k.objects.value.items) key ∙ ap (λ v. v.items) c.of-2.ensures) (ap (λ k. k.room) key)
    c.give_seats.ensures.rooms.0 c.give_seats.ensures.rooms.1
