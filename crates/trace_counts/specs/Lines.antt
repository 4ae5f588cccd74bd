-- What a line of a trace counts as, by its fields: ACTOR WORD NAME CODE .. or ACTOR WORD NAME VALUE CODE, or one word alone.
use Rattle.std.specs.Prelude.{ℕ, ◌+◌, min, List, [], ◌∷◌, ◌++◌, length, bytes_eq, codes, nat_lt, ◌==◌, ◌||◌, if◌then◌else◌}
use Rattle.trace_counts.specs.declared.numbers.Mark.{Mark}
use Rattle.trace_counts.specs.declared.numbers.Mark.TheVariants.{Run, Idle, Sent, SentAtLimit, Taken, Asked, AskedAtLimit, Answered, Other}

-- a line as far as it was told: how many spaces came, the field that is being told, and the fields that tell what the line counts as, each by
-- its first eight bytes
pub record Begun : Type 0 where
  pub place : ℕ
  pub field : List ℕ
  pub first : List ℕ
  pub word : List ℕ
  pub third : List ℕ
  pub fourth : List ℕ

abbrev pub nothing_begun : Begun
nothing_begun = record { place = 0; field = []; first = []; word = []; third = []; fourth = [] }

-- one more byte of a field
abbrev pub kept : List ℕ → ℕ → List ℕ
kept field byte = if nat_lt (length field) 8 then field ++ byte ∷ [] else field

abbrev pub with_byte : Begun → ℕ → Begun
with_byte l byte = record { place = l.place; field = kept l.field byte; first = l.first; word = l.word; third = l.third; fourth = l.fourth }

-- the field at this place is this one, if it is the one that ends here
abbrev pub field_at : (place : ℕ) → Begun → (before : List ℕ) → List ℕ
field_at place l before = if l.place == place then l.field else before

abbrev pub closed : Begun → Begun
closed l = record {
  place = min (l.place + 1) 255;
  field = [];
  first = field_at 0 l l.first;
  word = field_at 1 l l.word;
  third = field_at 3 l l.third;
  fourth = field_at 4 l l.fourth;
}

-- by the code
abbrev pub send_mark : List ℕ → Mark
send_mark code = if bytes_eq code (codes "130") then SentAtLimit else Sent

abbrev pub receive_mark : List ℕ → Mark
receive_mark code = if bytes_eq code (codes "0") || bytes_eq code (codes "64") then Taken else Other

abbrev pub ask_mark : List ℕ → Mark
ask_mark code = if bytes_eq code (codes "130") then AskedAtLimit else (if bytes_eq code (codes "0") then Asked else Other)

abbrev pub answer_mark : List ℕ → Mark
answer_mark code = if bytes_eq code (codes "0") then Answered else Other

-- of one field
abbrev pub plain_mark : List ℕ → Mark
plain_mark first = if bytes_eq first (codes "run") then Run else (if bytes_eq first (codes "idle") then Idle else Other)

abbrev pub closed_mark : Begun → Mark
closed_mark l =
    if bytes_eq l.word (codes "send") then send_mark l.fourth
    else (if bytes_eq l.word (codes "receive") then receive_mark l.third
    else (if bytes_eq l.word (codes "ask") then ask_mark l.fourth
    else (if bytes_eq l.word (codes "answer") then answer_mark l.third
    else (if length l.word == 0 then plain_mark l.first else Other))))

-- where the line ends here
abbrev pub mark_of : Begun → Mark
mark_of l = closed_mark (closed l)
