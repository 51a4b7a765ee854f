-- The bytes of a text that the reader of JSON gives a tree for, or none.
use Rattle.std.proofs.Common.{◌≡◌, ℕ, List, Bool, true, false, cond, Option, Some, None, refl}
use Rattle.std.specs.Str.{IsUtf8, is_utf8}
use Rattle.std.proofs.lemmas.Str.{is_utf8-from_IsUtf8, IsUtf8-from_is_utf8}
use Rattle.serde_json.specs.Data.{Data}
use Rattle.serde_json.specs.Read.{read}
use Rattle.edit_journal.specs.EntryJson.{tree_of_text}

pub text_read : (bytes : List ℕ) (d : Data) → IsUtf8 bytes × (read bytes ≡ Some d) → tree_of_text bytes ≡ Some d
text_read bytes d h = rw (is_utf8-from_IsUtf8 bytes h.0) h.1

pub text_refused : (bytes : List ℕ) → (IsUtf8 bytes → read bytes ≡ None) → tree_of_text bytes ≡ None
text_refused bytes h = by_test (is_utf8 bytes) (read bytes) (λ is. h (IsUtf8-from_is_utf8 bytes is)) where
  by_test : (b : Bool) (o : Option Data) → (b ≡ true → o ≡ None) → cond b o None ≡ None
  by_test true o h = h refl
  by_test false o h = refl
