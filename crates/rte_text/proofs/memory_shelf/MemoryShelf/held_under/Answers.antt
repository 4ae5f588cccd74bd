use Rattle.std.proofs.Common.{refl}
use Rattle.rte_text.proofs.Files.{file_named-first}
use Rattle.rte_text.proofs.memory_shelf.MemoryShelf.held_under.Goals as goal

pub returns-in_err-bytes : goal.returns-in_err-bytes
returns-in_err-bytes c = rw (c.from_residual.ensures, ← c.self.view_is, file_named-first c.self.inside.held.items c.args.name.now, ← c.as_slice.ensures.value, ← c.first_named.ensures, c.in_err-bytes.was) refl

pub returns : goal.returns
returns c = rw (← c.self.view_is, file_named-first c.self.inside.held.items c.args.name.now, ← c.as_slice.ensures.value, ← c.first_named.ensures, c.in_ok-bytes.was, c.as_slice-2.ensures.value) refl
