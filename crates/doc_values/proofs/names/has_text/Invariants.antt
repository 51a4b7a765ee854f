use Rattle.std.proofs.Common.{◌≡◌, drop}
use Rattle.texts.specs.Keys.{has_name}
use Rattle.doc_values.proofs.names.has_text.Given as goal

abbrev pub invariant-loop-name : goal.invariant-loop-name
invariant-loop-name l = has_name l.text (drop l.name-index l.name-items) ≡ has_name l.text l.name-items
