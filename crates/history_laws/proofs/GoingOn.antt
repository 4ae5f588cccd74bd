-- A running activation goes on: it has a next wish, which fits.
use Rattle.std.proofs.Common.{◌≡◌, true, ◌∙◌}
use Rattle.bus_semantics.specs.Common.{ActKey, Plan, History, runs, IsLegal, IsSound}
use Rattle.bus_semantics.specs.declared.script.Mapping.{Mapping}
use Rattle.history_laws.specs.Followed.{IsActivation}
use Rattle.history_laws.proofs.Asking.{goes_on_asking, fits, own}
use Rattle.history_laws.specs.Running.{GoesOn}
use Rattle.history_laws.proofs.Keys.{Alive, alive, alive_next}

pub acting : (p : Plan) (m : Mapping) (k : ActKey) (h : History) → IsSound p m → (a : Alive p k h) → IsActivation p m k a.runnable a.activation.event
acting p m k h sound a = record { sound = sound; key = a.key; runnable = a.found; starts = a.own }

pub goes_on : (p : Plan) (m : Mapping) (h : History) (k : ActKey) → IsSound p m → IsLegal p h → runs k h ≡ true → GoesOn p h k
goes_on p m h k sound legal running =
    let a = alive p k h legal running in
    let of = acting p m k h sound a in
    let b = a.activation in
    let next = goes_on_asking p m k a.runnable b.event of b.start b.deeds a.followed a.going in
    record {
      runnable = a.runnable;
      activation = b;
      wish = next.0;
      key = a.key;
      found = a.found;
      is = a.is;
      started = a.started;
      own = a.own;
      asks = record { followed = a.followed; next = next.1 };
      going = a.going;
      next = alive_next p k h running a ∙ next.1;
      fits = fits p m k a.runnable b.event of b.start b.deeds next.0 next.1;
      asked = own p m k a.runnable b.event of b.start b.deeds next.0 next.1;
    }
