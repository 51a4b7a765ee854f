use Rattle.std.proofs.Common.{◌≡◌, drop}
use Rattle.file_forms.specs.Forms.{forms_view, word_literals}
use Rattle.file_forms.specs.Slots.{some_literal_meets}
use Rattle.file_forms.proofs.fit.some_word_meets.Given as goal

abbrev pub invariant-loop-word : goal.invariant-loop-word
invariant-loop-word l =
    some_literal_meets (word_literals (drop l.word-index l.word-items)) (forms_view l.others) ≡ some_literal_meets (word_literals l.word-items) (forms_view l.others)
