-- What a bridge says of two texts, and what a carried splice makes.
use Rattle.std.specs.Prelude.{◌≡◌, ℕ, List, Option, Some}
use Rattle.std.specs.Str.{chars, IsUtf8}
use Rattle.bridge_texts.specs.declared.run.Run.{Run}
use Rattle.bridge_texts.specs.Spans.{Spans}

-- both are texts, and the runs lead from the characters of the near one to those of the far one
pub record SpansTexts (rs : List Run) (s t : List ℕ) : Type 0 where
  pub near_utf8 : IsUtf8 s
  pub far_utf8 : IsUtf8 t
  pub reads : Spans rs (chars s) (chars t)

-- the splices found their characters in the far text, and the runs lead from the new near text to the new far one
pub record IsCarriedTo (rs : List Run) (found : Option (List ℕ)) (s : List ℕ) : Type 0 where
  pub far : List ℕ
  pub found_is : found ≡ Some far
  pub spans : SpansTexts rs s far
