use Rattle.std.proofs.Common.{◌≡◌, drop}
use Rattle.texts.specs.Keys.{has_name}
use Rattle.file_forms.specs.Forms.{word_names}
use Rattle.file_forms.proofs.words.has_member.Given as goal

abbrev pub invariant-loop-word : goal.invariant-loop-word
invariant-loop-word l = has_name l.name (word_names (drop l.word-index l.words)) ≡ has_name l.name (word_names l.words)
