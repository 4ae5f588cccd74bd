use Rattle.std.proofs.Common.{ap, subst}
use Rattle.bus_semantics.specs.declared.entries.Deed.TheVariants as deed
use Rattle.object_kinds.specs.Common.{given}
use Rattle.server_objects.specs.Acting.{IsStart}
use Rattle.server_objects.specs.Leading.{lead_of_server}
use Rattle.server_objects.proofs.Acted.{start_leads}
use Rattle.server_objects.proofs.server_object.ServerObject.start_for.Goals as goal

pub returns-then-take_start : goal.returns-then-take_start
returns-then-take_start c =
    start_leads c.args.who.now c.args.key.now.point c.args.event c.args.self.now c.take_start.new.self c.take_start.new.deed (λ point value. ap (lead_of_server c.args.self.now.kept (deed.Start c.args.event point value)) c.requires)
    (subst (IsStart c.args.key.now.point c.args.event c.args.self.now c.take_start.new.self) (ap (λ b. given b c.take_start.new.deed) c.if-take_start.true) c.take_start.ensures)
