use Rattle.std.proofs.Common.{sym}
use Rattle.edit_journal.proofs.Texts.{text_read, text_refused}
use Rattle.store_records.proofs.text.read_tree.Goals as goal

pub returns-in-Ok : goal.returns-in-Ok
returns-in-Ok c = sym (text_read c.args.payload.now _ c.in-Ok.ensures.ok)

pub returns-else-is_memory : goal.returns-else-is_memory
returns-else-is_memory c = sym (text_refused c.args.payload.now (c.in-Err.ensures.err (λ memory. let never = c.if-is_memory.ensures.1 memory in cc)))
