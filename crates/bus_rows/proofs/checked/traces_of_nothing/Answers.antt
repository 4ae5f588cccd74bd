use Rattle.std.proofs.Common.{[], ◌∷◌, refl, inl, inr}
use Rattle.bus_semantics.specs.declared.version.Version.TheVariants.{One}
use Rattle.bus_semantics.specs.declared.entries.Deed.TheVariants as deed
use Rattle.bus_semantics.specs.Run.{run_begins, run_closes, idle, a_run}
use Rattle.bus_rows.specs.RowParts.{env, ten_ticks}
use Rattle.bus_rows.proofs.Lines.{version_nine}
use Rattle.bus_rows.proofs.checked.traces_of_nothing.Goals as goal

pub returns-clause-empty : goal.returns-clause-empty
returns-clause-empty c = inl (inl (record { none = refl; line_is = refl; clause_is = refl }))

pub returns-clause-version : goal.returns-clause-version
returns-clause-version c = λ more. inl (record { some = λ e. cc; none = λ v left e. version_nine v more left e; line_is = refl })

pub returns-clause-outside : goal.returns-clause-outside
returns-clause-outside c = λ more. inr (record {
  version = One;
  session = [];
  item = run_closes idle;
  more = more;
  so_far = record { fit = refl; text = refl; run = record { session = record { left = _; orders = refl; placed = refl }; legal = tt } };
  fit = refl;
  line_is = refl;
  refused = record { closes_not = λ closes. (let out = closes.inside in cc); clause_is = refl };
})

pub returns-clause-run : goal.returns-clause-run
returns-clause-run c = λ more. inr (record {
  version = One;
  session = [];
  item = run_begins;
  more = more;
  so_far = record { fit = refl; text = refl; run = record { session = record { left = _; orders = refl; placed = refl }; legal = tt } };
  fit = refl;
  line_is = refl;
  refused = record { no_beginning = λ begun. (let orders = begun.orders in cc); clause_is = refl };
})

pub returns-clause-tick : goal.returns-clause-tick
returns-clause-tick c = λ more. inr (record {
  version = One;
  session = ten_ticks;
  item = env deed.Tick;
  more = more;
  so_far = record { fit = refl; text = refl; run = record { session = record { left = a_run ∷ []; orders = refl; placed = refl }; legal = c.ten_ticks_write_then_read.ensures.runs.legal.0.0.0.0.0.0.0 } };
  fit = refl;
  line_is = refl;
  refused = inl (record { no_beginning = λ begun. (let orders = begun.orders in cc); clause_is = refl });
})
