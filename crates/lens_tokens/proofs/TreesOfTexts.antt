-- The tree of a text whose tokens are one value.
use Rattle.std.proofs.Common.{◌≡◌, ℕ, List, [], Option, Some, option_and_then, ap, ◌∙◌}
use Rattle.std.specs.Str.{IsUtf8}
use Rattle.json.specs.Json as json
use Rattle.json.specs.Lex.{tokens}
use Rattle.serde_json.specs.Data.{Data}
use Rattle.serde_json.specs.Read.{of_json, read}
use Rattle.edit_journal.proofs.Texts.{text_read}
use Rattle.edit_journal.specs.EntryJson.{tree_of_text}
use Rattle.json_tokens.specs.TreesAt.{tree_at, read_at}
use Rattle.json_tokens.proofs.Conversions.{found}

pub tree_read : (text : List ℕ) (d : Data) → IsUtf8 text → tree_at 127 (tokens text) ≡ Some (d, []) → tree_of_text text ≡ Some d
tree_read text d utf8 h =
    let j = found of_json (json.value 127 (tokens text)) d [] h in
    let tree : read text ≡ Some d = ap (λ o. option_and_then of_json (option_and_then (λ q. json.if_last q.0 q.1) o)) j.1 ∙ j.2 in
    text_read text d (utf8, tree)

-- what a function makes of that tree
pub value_read : {X : Type 0} (f : Data → Option X) (text : List ℕ) (x : X) → IsUtf8 text → read_at f 127 (tokens text) ≡ Some (x, [])
    → (tree : Data) × (tree_of_text text ≡ Some tree) × (f tree ≡ Some x)
value_read f text x utf8 h =
    let p = found f (tree_at 127 (tokens text)) x [] h in
    (p.0, tree_read text p.0 utf8 p.1, p.2)
