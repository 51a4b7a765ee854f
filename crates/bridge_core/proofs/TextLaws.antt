-- The laws of bridges between texts, as what the lemmas here assume.
use Rattle.std.specs.Prelude.{◌≡◌, ℕ, List, [], Some}
use Rattle.std.specs.Str.{IsUtf8}
use Rattle.texts.specs.Characters.{character_count, splice}
use Rattle.bridge_texts.specs.declared.run.Run.{Run}
use Rattle.bridge_texts.specs.Runs.{far_spliced, near_spliced, carried, all_spliced, shortest}
use Rattle.bridge_texts.specs.Laws.{SpansTexts, IsCarriedTo}

-- `a_text_is_spanned`, `a_splice_of_the_far_text_is_spanned` and `a_splice_of_the_near_text_is_carried`
abbrev pub SameTexts : Type 0
SameTexts = (t : List ℕ) → IsUtf8 t → SpansTexts [] t t

abbrev pub FarSplices : Type 0
FarSplices = (rs : List Run) (i k : ℕ) (x s t u : List ℕ) → IsUtf8 x → SpansTexts rs s t → splice t i k x ≡ Some u → SpansTexts (shortest (far_spliced rs i k (character_count x))) s u

abbrev pub NearSplices : Type 0
NearSplices = (rs : List Run) (i k : ℕ) (x s t u : List ℕ) → IsUtf8 x → SpansTexts rs s t → splice s i k x ≡ Some u
    → IsCarriedTo (shortest (near_spliced rs i k (character_count x))) (all_spliced (carried rs i k x) t) u
