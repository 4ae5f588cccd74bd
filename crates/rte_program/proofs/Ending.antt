-- What the answer of a command that ended says.
use Rattle.std.proofs.Common.{◌≡◌, Some, refl, sym, ◌∙◌, inl, inr}
use Rattle.std.specs.Prelude.{◌≢◌, ◌⊎◌}
use Rattle.rte_text.specs.Counts.{Rose}
use Rattle.commands.specs.declared.status.Status.{Status}
use Rattle.commands.specs.declared.status.Status.TheVariants as status
use Rattle.rte_program.specs.Answers.{Answers, CutsText, EndsForMemory, IsOfVerdict, of_file, of_run, of_verdict, SaysUnread}
use Rattle.commands.specs.Carrying.{BreaksOff, CarriesOut, Ends, FetchesNot, PutsBeginning, ReadsAll, ReadsNot, TellsVerdict, WantsMemory, World}
use Rattle.commands.specs.Commands.{Words, Command, command_of}
use Rattle.commands.specs.Texts.{unread_text}
use Rattle.commands.specs.Verdicts.{status_of}
use Rattle.commands.proofs.Puts.{IsCut, IsWhole, no_other, whole_or_cut}

-- one of the ways in which it ended
pub data Ending (command : Command) (answer : Status) (b : World) (a : World) : Type 0 where
  unread : (x : ReadsNot command answer b a) → IsWhole (unread_text x.place) status.NotRead answer b.told a.told b.faults a.faults → Ending command answer b a
  unread_cut : (x : ReadsNot command answer b a) → IsCut (unread_text x.place) answer b.told a.told b.faults a.faults → Ending command answer b a
  unfetched : FetchesNot answer b a → Ending command answer b a
  told : (x : ReadsAll command answer b a) → (t : TellsVerdict command x.files answer b.told a.told b.faults a.faults)
      → IsWhole t.text (status_of t.verdict) answer b.told a.told b.faults a.faults → Ending command answer b a
  told_cut : (x : ReadsAll command answer b a) → (t : TellsVerdict command x.files answer b.told a.told b.faults a.faults)
      → IsCut t.text answer b.told a.told b.faults a.faults → Ending command answer b a
  broke_off : (x : ReadsAll command answer b a) → BreaksOff command x.files answer b.told a.told b.faults a.faults → Ending command answer b a
  no_memory : (x : ReadsAll command answer b a) → WantsMemory command x.files answer b.told a.told b.faults a.faults → Ending command answer b a

pub ending : (command : Command) (answer : Status) (b a : World) → Ends command answer b a → Ending command answer b a
ending command answer b a (inl x) = by (whole_or_cut (unread_text x.place) status.NotRead answer b.told a.told b.faults a.faults x.put)
  where
    by : IsWhole (unread_text x.place) status.NotRead answer b.told a.told b.faults a.faults ⊎ IsCut (unread_text x.place) answer b.told a.told b.faults a.faults → Ending command answer b a
    by (inl w) = unread x w
    by (inr c) = unread_cut x c
ending command answer b a (inr (inl x)) = unfetched x
ending command answer b a (inr (inr x)) = by x.carried
  where
    verdict : (t : TellsVerdict command x.files answer b.told a.told b.faults a.faults)
        → IsWhole t.text (status_of t.verdict) answer b.told a.told b.faults a.faults ⊎ IsCut t.text answer b.told a.told b.faults a.faults → Ending command answer b a
    verdict t (inl w) = told x t w
    verdict t (inr c) = told_cut x t c

    by : CarriesOut command x.files answer b.told a.told b.faults a.faults → Ending command answer b a
    by (inl t) = verdict t (whole_or_cut t.text (status_of t.verdict) answer b.told a.told b.faults a.faults t.put)
    by (inr (inl o)) = broke_off x o
    by (inr (inr m)) = no_memory x m

-- ---- the clauses

module _ (words : Words) (command : Command) (given : command_of words ≡ Some command) (answer : Status) (b a : World) where
  answers_by : Ending command answer b a → IsOfVerdict answer → Answers words b.files answer b.told a.told
  answers_by (unread x w) is = absurd ((no_other is.0).unread (sym is.1 ∙ w.status_is))
  answers_by (unread_cut x c) is = absurd ((no_other is.0).unwritten (sym is.1 ∙ c.status_is))
  answers_by (unfetched x) is = let said = x.unsaid in absurd ((no_other is.0).memory (sym is.1 ∙ said.status_is))
  answers_by (told x t w) is = record {
    command = command;
    files = x.files;
    named = record { given = given; held = x.held };
    verdict = t.verdict;
    verdict_is = t.verdict_is;
    status_is = w.status_is;
    text = t.text;
    said = t.said;
    put = w.told;
  }
  answers_by (told_cut x t c) is = absurd ((no_other is.0).unwritten (sym is.1 ∙ c.status_is))
  answers_by (broke_off x o) is = absurd ((no_other is.0).unwritten (sym is.1 ∙ o.status_is))
  answers_by (no_memory x m) is = absurd ((no_other is.0).memory (sym is.1 ∙ m.status_is))

  pub answers : Ends command answer b a → IsOfVerdict answer → Answers words b.files answer b.told a.told
  answers e is = answers_by (ending command answer b a e) is

  -- a command was given, so its words are not refused
  no_words_by : Ending command answer b a → answer ≡ status.Words → ⊥
  no_words_by (unread x w) is = let e : status.NotRead ≡ status.Words = sym w.status_is ∙ is in cc
  no_words_by (unread_cut x c) is = let e : status.NotWritten ≡ status.Words = sym c.status_is ∙ is in cc
  no_words_by (unfetched x) is = let said = x.unsaid in let e : status.Memory ≡ status.Words = sym said.status_is ∙ is in cc
  no_words_by (told x t w) is = (no_other t.verdict).words (sym w.status_is ∙ is)
  no_words_by (told_cut x t c) is = let e : status.NotWritten ≡ status.Words = sym c.status_is ∙ is in cc
  no_words_by (broke_off x o) is = let e : status.NotWritten ≡ status.Words = sym o.status_is ∙ is in cc
  no_words_by (no_memory x m) is = let e : status.Memory ≡ status.Words = sym m.status_is ∙ is in cc

  pub no_words : Ends command answer b a → answer ≡ status.Words → ⊥
  no_words e is = no_words_by (ending command answer b a e) is

  not_read_by : Ending command answer b a → answer ≡ status.NotRead → SaysUnread words b.files b.counts a.counts b.fetches a.fetches b.told a.told
  not_read_by (unread x w) is = record { place = x.place; named = record { command = command; given = given; unread = x.unread }; first = x.fetched; put = w.told }
  not_read_by (unread_cut x c) is = let e : status.NotWritten ≡ status.NotRead = sym c.status_is ∙ is in absurd cc
  not_read_by (unfetched x) is = let said = x.unsaid in let e : status.Memory ≡ status.NotRead = sym said.status_is ∙ is in absurd cc
  not_read_by (told x t w) is = absurd ((no_other t.verdict).unread (sym w.status_is ∙ is))
  not_read_by (told_cut x t c) is = let e : status.NotWritten ≡ status.NotRead = sym c.status_is ∙ is in absurd cc
  not_read_by (broke_off x o) is = let e : status.NotWritten ≡ status.NotRead = sym o.status_is ∙ is in absurd cc
  not_read_by (no_memory x m) is = let e : status.Memory ≡ status.NotRead = sym m.status_is ∙ is in absurd cc

  pub not_read : Ends command answer b a → answer ≡ status.NotRead → SaysUnread words b.files b.counts a.counts b.fetches a.fetches b.told a.told
  not_read e is = not_read_by (ending command answer b a e) is

  not_written_by : Ending command answer b a → answer ≡ status.NotWritten → Rose b.faults a.faults
  not_written_by (unread x w) is = let e : status.NotRead ≡ status.NotWritten = sym w.status_is ∙ is in absurd cc
  not_written_by (unread_cut x c) is = c.rose
  not_written_by (unfetched x) is = let said = x.unsaid in let e : status.Memory ≡ status.NotWritten = sym said.status_is ∙ is in absurd cc
  not_written_by (told x t w) is = absurd ((no_other t.verdict).unwritten (sym w.status_is ∙ is))
  not_written_by (told_cut x t c) is = c.rose
  not_written_by (broke_off x o) is = o.rose
  not_written_by (no_memory x m) is = let e : status.Memory ≡ status.NotWritten = sym m.status_is ∙ is in absurd cc

  pub not_written : Ends command answer b a → answer ≡ status.NotWritten → Rose b.faults a.faults
  not_written e is = not_written_by (ending command answer b a e) is

  cut_by : Ending command answer b a → answer ≡ status.NotWritten → CutsText words b.files b.counts a.counts b.told a.told
  cut_by (unread x w) is = let e : status.NotRead ≡ status.NotWritten = sym w.status_is ∙ is in absurd cc
  cut_by (unread_cut x c) is = record { text = unread_text x.place; may_be = of_file x.place (record { command = command; given = given; unread = x.unread }) refl; put = c.told }
  cut_by (unfetched x) is = let said = x.unsaid in let e : status.Memory ≡ status.NotWritten = sym said.status_is ∙ is in absurd cc
  cut_by (told x t w) is = absurd ((no_other t.verdict).unwritten (sym w.status_is ∙ is))
  cut_by (told_cut x t c) is = record {
    text = t.text;
    may_be = of_verdict command x.files (record { given = given; held = x.held }) x.counts t.verdict t.verdict_is t.said;
    put = c.told;
  }
  cut_by (broke_off x o) is = let cut = o.put in
      record { text = cut.text; may_be = of_run command x.files (record { given = given; held = x.held }) x.counts cut.begun; put = cut.put }
  cut_by (no_memory x m) is = let e : status.Memory ≡ status.NotWritten = sym m.status_is ∙ is in absurd cc

  pub cut : Ends command answer b a → answer ≡ status.NotWritten → CutsText words b.files b.counts a.counts b.told a.told
  cut e is = cut_by (ending command answer b a e) is

  beginning : (x : ReadsAll command answer b a) → (a.told ≡ b.told) ⊎ PutsBeginning command x.files b.told a.told → EndsForMemory words b.files b.told a.told
  beginning x (inl same) = inl same
  beginning x (inr cut) = inr (record { command = command; files = x.files; named = record { given = given; held = x.held }; text = cut.text; begun = cut.begun; put = cut.put })

  memory_by : Ending command answer b a → answer ≡ status.Memory → EndsForMemory words b.files b.told a.told
  memory_by (unread x w) is = let e : status.NotRead ≡ status.Memory = sym w.status_is ∙ is in absurd cc
  memory_by (unread_cut x c) is = let e : status.NotWritten ≡ status.Memory = sym c.status_is ∙ is in absurd cc
  memory_by (unfetched x) is = let said = x.unsaid in inl said.told
  memory_by (told x t w) is = absurd ((no_other t.verdict).memory (sym w.status_is ∙ is))
  memory_by (told_cut x t c) is = let e : status.NotWritten ≡ status.Memory = sym c.status_is ∙ is in absurd cc
  memory_by (broke_off x o) is = let e : status.NotWritten ≡ status.Memory = sym o.status_is ∙ is in absurd cc
  memory_by (no_memory x m) is = beginning x m.put

  pub memory : Ends command answer b a → answer ≡ status.Memory → EndsForMemory words b.files b.told a.told
  memory e is = memory_by (ending command answer b a e) is

  no_write_fault_by : Ending command answer b a → answer ≢ status.NotWritten → a.faults ≡ b.faults
  no_write_fault_by (unread x w) other = w.faults
  no_write_fault_by (unread_cut x c) other = absurd (other c.status_is)
  no_write_fault_by (unfetched x) other = let said = x.unsaid in said.faults
  no_write_fault_by (told x t w) other = w.faults
  no_write_fault_by (told_cut x t c) other = absurd (other c.status_is)
  no_write_fault_by (broke_off x o) other = absurd (other o.status_is)
  no_write_fault_by (no_memory x m) other = m.faults

  pub no_write_fault : Ends command answer b a → answer ≢ status.NotWritten → a.faults ≡ b.faults
  no_write_fault e other = no_write_fault_by (ending command answer b a e) other

  no_read_fault_by : Ending command answer b a → answer ≢ status.NotRead → answer ≢ status.NotWritten → a.counts ≡ b.counts
  no_read_fault_by (unread x w) read written = absurd (read w.status_is)
  no_read_fault_by (unread_cut x c) read written = absurd (written c.status_is)
  no_read_fault_by (unfetched x) read written = x.counts
  no_read_fault_by (told x t w) read written = x.counts
  no_read_fault_by (told_cut x t c) read written = x.counts
  no_read_fault_by (broke_off x o) read written = x.counts
  no_read_fault_by (no_memory x m) read written = x.counts

  pub no_read_fault : Ends command answer b a → answer ≢ status.NotRead → answer ≢ status.NotWritten → a.counts ≡ b.counts
  no_read_fault e read written = no_read_fault_by (ending command answer b a e) read written
