use Rattle.std.proofs.Common.{◌≡◌, drop}
use Rattle.file_forms.specs.Forms.{word_literals}
use Rattle.file_forms.specs.Signs.{sign_view}
use Rattle.file_forms.specs.Slots.{sign_meets_literals}
use Rattle.file_forms.proofs.words.sign_meets_words.Given as goal

abbrev pub invariant-loop-word : goal.invariant-loop-word
invariant-loop-word l =
    sign_meets_literals (sign_view l.own) (word_literals (drop l.word-index l.words)) ≡ sign_meets_literals (sign_view l.own) (word_literals l.words)
