-- A worked plan: a writer and a reader of two elements, each with a coherent list of both; and the rows in which, after ten ticks, the
-- writer publishes both or one of them, and the reader fetches both at one moment. Sessions have their newest item first.
use Rattle.std.specs.Prelude.{ℕ, ℤ, pos, List, [], ◌∷◌, ◌++◌, codes, replicate, true, false, refl, Some, None}
use Rattle.bus_semantics.specs.Common.{leb-true, Value, empty_value, one_word, AccessSig, BodyTree, constant, writes_late, done, next, Plan, Runnable, run_begins, run_closes, idle, Session}
use Rattle.runnable_lang.specs.declared.program.AccessKind.TheVariants as kind
use Rattle.bus_laws.specs.Common.{Unqueued, Timing, Entry}
use Rattle.bus_semantics.specs.declared.entries.Deed.TheVariants as deed
use Rattle.bus_rows.specs.RowParts.{provided, required, giving, taking, starting, act_of, by, start, ten_ticks, ten_ticks_text}

abbrev pub two_words : ℤ → ℤ → Value
two_words x y = record { words = x ∷ y ∷ replicate 14 (pos 0); len = 2; short = leb-true 2 16 refl; padded = refl }

-- `Step` of `w` writes 3 to `o.a` and 4 to `o.b`, or 4 to `o.b` alone, implicitly
abbrev pub writes_both : BodyTree
writes_both = next (writes_late 0 0 (constant (pos 3) ∷ [])) (next (writes_late 0 1 (constant (pos 4) ∷ [])) done)

abbrev pub writes_second : BodyTree
writes_second = next (writes_late 0 1 (constant (pos 4) ∷ [])) done

-- an access to the first element of port 0, and one to the second
abbrev pub to_both : AccessSig → List AccessSig
to_both a = a ∷ record a { item = 1 } ∷ []

abbrev pub lister : (body : BodyTree) → Runnable
lister body = record {
  instance = 0;
  name = codes "Step";
  program = record { vars = 0; body = body };
  accesses = to_both (giving kind.IWrite 0);
  targets = 0 ∷ 1 ∷ [];
  server = None;
  lists = 0 ∷ [];
}

-- `Look` of `r` reads both elements implicitly and does nothing else
abbrev pub looker : Runnable
looker = record {
  instance = 1;
  name = codes "Look";
  program = record { vars = 0; body = done };
  accesses = to_both (taking kind.IRead 0);
  targets = 2 ∷ 3 ∷ [];
  server = None;
  lists = 1 ∷ [];
}

abbrev pub two_lists : (body : BodyTree) → Plan
two_lists body = record {
  names = codes "w" ∷ codes "r" ∷ [];
  elements = provided (Some 0) (codes "o.a") Unqueued true 0 ∷ provided (Some 0) (codes "o.b") Unqueued true 1
      ∷ required (Some 1) (codes "i.a") Unqueued 0 1 ∷ required (Some 1) (codes "i.b") Unqueued 1 1 ∷ [];
  groups = (0 ∷ 2 ∷ []) ∷ (1 ∷ 3 ∷ []) ∷ [];
  points = [];
  servers = [];
  areas = [];
  machines = [];
  mode_ports = [];
  events = starting 0 (codes "E") (Timing 10) ∷ starting 1 (codes "E") (Timing 10) ∷ [];
  runnables = lister body ∷ looker ∷ [];
  lists = record { runnable = 0; elems = 0 ∷ 1 ∷ []; reads = false } ∷ record { runnable = 1; elems = 2 ∷ 3 ∷ []; reads = true } ∷ [];
  homes = 0 ∷ 0 ∷ [];
  bundles = (0 ∷ 1 ∷ []) ∷ [];
  objects = 2;
}

-- the reader's list names one element twice
abbrev pub listed_twice : Plan
listed_twice = record (two_lists writes_both) { lists = record { runnable = 0; elems = 0 ∷ 1 ∷ []; reads = false } ∷ record { runnable = 1; elems = 2 ∷ 2 ∷ []; reads = true } ∷ [] }

-- ---- both written

abbrev pub until_published : Session
until_published = by 0 (start 0) ∷ run_begins ∷ ten_ticks

abbrev pub until_fetched : Session
until_fetched = by 1 (start 1) ∷ by 0 deed.End ∷ by 0 (deed.PublishAll 0 3 (two_words (pos 3) (pos 4))) ∷ until_published

abbrev pub both_fetched : Session
both_fetched = run_closes idle ∷ by 1 deed.End ∷ by 1 (deed.FetchAll 1 (two_words (pos 3) (pos 4))) ∷ until_fetched

abbrev pub both_fetched_text : List ℕ
both_fetched_text =
    codes "rte-trace 1\n" ++ ten_ticks_text
    ++ codes "run\nw:Step start E\nw:Step publishAll 0 11 3,4\nw:Step end\nr:Look start E\nr:Look fetchAll 0 3,4\nr:Look end\nidle\n"

-- ---- the second one written alone

abbrev pub until_second_fetched : Session
until_second_fetched = by 1 (start 1) ∷ by 0 deed.End ∷ by 0 (deed.PublishAll 0 2 (one_word (pos 4))) ∷ until_published

abbrev pub second_fetched : Session
second_fetched = run_closes idle ∷ by 1 deed.End ∷ by 1 (deed.FetchAll 1 (two_words (pos 0) (pos 4))) ∷ until_second_fetched

abbrev pub second_fetched_text : List ℕ
second_fetched_text =
    codes "rte-trace 1\n" ++ ten_ticks_text
    ++ codes "run\nw:Step start E\nw:Step publishAll 0 01 4\nw:Step end\nr:Look start E\nr:Look fetchAll 0 0,4\nr:Look end\nidle\n"

-- ---- wrong variants

-- the reader sees one element before the publication and the other one after it
abbrev pub fetched_at_two_moments : Entry
fetched_at_two_moments = act_of 1 (deed.FetchAll 1 (two_words (pos 0) (pos 4)))

-- the reader sees what was not published, or the writer publishes what was not written
abbrev pub both_seen : Entry
both_seen = act_of 1 (deed.FetchAll 1 (two_words (pos 3) (pos 4)))

abbrev pub both_published : Entry
both_published = act_of 0 (deed.PublishAll 0 3 (two_words (pos 0) (pos 4)))

-- one word is missing
abbrev pub fetched_too_few : Entry
fetched_too_few = act_of 1 (deed.FetchAll 1 (one_word (pos 3)))

-- the elements are fetched one by one
abbrev pub fetched_alone : Entry
fetched_alone = act_of 1 (deed.Fetch 2 (one_word (pos 3)))

-- one of the written elements is published, or none, or both in the other order, or each alone
abbrev pub published_first : Entry
published_first = act_of 0 (deed.PublishAll 0 1 (one_word (pos 3)))

abbrev pub published_none : Entry
published_none = act_of 0 (deed.PublishAll 0 0 empty_value)

abbrev pub published_crossed : Entry
published_crossed = act_of 0 (deed.PublishAll 0 3 (two_words (pos 4) (pos 3)))

abbrev pub published_alone : Entry
published_alone = act_of 0 (deed.Publish 0 (one_word (pos 3)))

-- entries that do not fit: a value too short for its marks, marks past the list, another runnable's list, and lists of the other kind
abbrev pub publication_too_short : Entry
publication_too_short = act_of 0 (deed.PublishAll 0 3 (one_word (pos 3)))

abbrev pub marks_past_the_list : Entry
marks_past_the_list = act_of 0 (deed.PublishAll 0 4 empty_value)

abbrev pub foreign_list : Entry
foreign_list = act_of 0 (deed.FetchAll 1 (two_words (pos 3) (pos 4)))

abbrev pub list_of_writes : Entry
list_of_writes = act_of 0 (deed.FetchAll 0 (two_words (pos 3) (pos 4)))
