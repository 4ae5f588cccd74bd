use Rattle.std.proofs.Common.{refl}
use Rattle.core_runtime.proofs.Together.{shaped, watch_after}
use Rattle.core_runtime.proofs.watch.Watch.wake_all.Goals as goal

pub rouse_all-requires : goal.rouse_all-requires
rouse_all-requires c =
    let r = c.requires in
    (r.3, shaped r.0 r.1 r.2 r.3 c.args.self.now.awake.items r.4.awake, r.5)

pub returns : goal.returns
returns c = λ p t objects later before watch same. watch_after p t objects later before c.args.cores.now c.args.self.now _ watch same c.rouse_all.ensures refl refl
