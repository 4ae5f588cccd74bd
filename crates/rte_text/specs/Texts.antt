-- The bytes that a text holds.
use Rattle.std.specs.Prelude.{ℕ, List, take}
use Rattle.rte_text.specs.declared.text.Held.{Held}
use Rattle.rte_text.specs.declared.text.Held.TheVariants.{Here, Apart}

abbrev pub bytes_held : Held → List ℕ
bytes_held (Here short) = take short.count short.bytes
bytes_held (Apart bytes) = bytes.items
