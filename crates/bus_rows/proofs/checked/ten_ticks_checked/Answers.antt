use Rattle.std.proofs.Common.{pos, [], codes, refl, inl, inr}
use Rattle.bus_semantics.specs.Common.{digits, one_word, made, run_closes, idle, IsRunOf, IsBegunRunOf}
use Rattle.bus_semantics.specs.declared.version.Version.TheVariants.{One, Two}
use Rattle.bus_semantics.specs.declared.entries.Deed.TheVariants as deed
use Rattle.bus_rows.specs.RowParts.{act_of, by, start}
use Rattle.bus_rows.specs.OneWriter.{one_writer, one_task, ten_ticks_and_run, until_look, written_then_read, six_read}
use Rattle.bus_rows.specs.Traces.{until_write, until_end}
use Rattle.bus_rows.proofs.Lines.{no_item}
use Rattle.bus_rows.proofs.checked.ten_ticks_checked.Goals as goal

look_begun : IsRunOf one_writer one_task ten_ticks_and_run written_then_read → IsBegunRunOf one_writer one_task ten_ticks_and_run until_look
look_begun run = record { session = record { left = []; orders = refl; placed = refl }; legal = run.legal.0.0.0 }

end_begun : IsRunOf one_writer one_task ten_ticks_and_run written_then_read → IsBegunRunOf one_writer one_task ten_ticks_and_run until_end
end_begun run = record { session = record { left = []; orders = refl; placed = refl }; legal = run.legal.0.0.0.0 }

write_begun : IsRunOf one_writer one_task ten_ticks_and_run written_then_read → IsBegunRunOf one_writer one_task ten_ticks_and_run until_write
write_begun run = record { session = record { left = []; orders = refl; placed = refl }; legal = run.legal.0.0.0.0.0.0 }

pub returns-clause-legal : goal.returns-clause-legal
returns-clause-legal c = record { version = One; session = written_then_read; fit = refl; text = c.ten_ticks_write_then_read.ensures.spelled; run = c.ten_ticks_write_then_read.ensures.runs }

pub returns-clause-named : goal.returns-clause-named
unfolding digits
returns-clause-named c = record { version = Two; session = written_then_read; fit = refl; text = refl; run = c.ten_ticks_write_then_read.ensures.runs }

pub returns-clause-program : goal.returns-clause-program
unfolding digits
returns-clause-program c = λ more. inr (record {
  version = One;
  session = until_write;
  item = by 0 (deed.Write 0 (one_word (pos 8)));
  more = more;
  so_far = record { fit = refl; text = refl; run = write_begun c.ten_ticks_write_then_read.ensures.runs };
  fit = refl;
  line_is = refl;
  refused = inr (record { in_order = record { left = []; orders = refl; placed = refl }; broken = refl });
})

pub returns-clause-answer : goal.returns-clause-answer
unfolding digits
returns-clause-answer c = λ more. inr (record {
  version = One;
  session = until_look;
  item = made six_read;
  more = more;
  so_far = record { fit = refl; text = refl; run = look_begun c.ten_ticks_write_then_read.ensures.runs };
  fit = refl;
  line_is = refl;
  refused = inr (record { in_order = record { left = []; orders = refl; placed = refl }; broken = refl });
})

-- the reader's start may follow
pub returns-clause-early : goal.returns-clause-early
unfolding digits
returns-clause-early c = λ more. inr (record {
  version = One;
  session = until_end;
  item = run_closes idle;
  more = more;
  so_far = record { fit = refl; text = refl; run = end_begun c.ten_ticks_write_then_read.ensures.runs };
  fit = refl;
  line_is = refl;
  refused = record { closes_not = λ closes. closes.holds.rest.1.0 (act_of 1 (start 1)) refl c.ten_ticks_write_then_read.ensures.runs.legal.0.0.0.1; clause_is = refl };
})

pub returns-clause-ended : goal.returns-clause-ended
unfolding digits
returns-clause-ended c = inl (inr (record {
  version = One;
  session = until_end;
  so_far = record { fit = refl; text = refl; run = end_begun c.ten_ticks_write_then_read.ensures.runs };
  open_end = λ whole. (let out = whole.closed in cc);
  line_is = refl;
  clause_is = refl;
}))

pub returns-clause-cut : goal.returns-clause-cut
unfolding digits
returns-clause-cut c = inr (record {
  version = One;
  session = until_end;
  left = codes "r:Look start E";
  so_far = record { fit = refl; text = refl; run = end_begun c.ten_ticks_write_then_read.ensures.runs };
  some = λ e. cc;
  none = no_item One one_writer (c.items_have_one_line.ensures one_writer one_task c.ten_ticks_write_then_read.ensures.sound) (codes "r:Look start E") refl;
  line_is = refl;
})
