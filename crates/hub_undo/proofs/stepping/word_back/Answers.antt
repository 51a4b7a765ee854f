use Rattle.hub_undo.proofs.OneEdit.{acts_or_not}
use Rattle.hub_undo.proofs.stepping.word_back.Goals as goal

pub unreachable-requires : goal.unreachable-requires
unreachable-requires c = acts_or_not _ _ _ c.requires.acts.1 (rw (c.in-Err-NoApply.field-0-is, c.deref.ensures) at c.in-Err-NoApply.ensures.exact)
