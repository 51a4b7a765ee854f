-- The members of an object among the tokens of a text, and what functions make of them.
use Rattle.std.specs.Prelude.{ℕ, ◌-◌, ◌==◌, Bool, true, List, [], length, slice_index_or, if◌then◌else◌, Option, Some, None, option_map}
use Rattle.json.specs.Token.{Token}
use Rattle.serde_json.specs.Data.{Members, no_members}
use Rattle.serde_json.specs.Read.{converted}
use Rattle.texts.specs.Keys.{is_before}
use Rattle.doc_values.specs.Documents.{DocTrees}
use Rattle.doc_values.specs.Types.{TyTree}
use Rattle.json_tokens.specs.TreesAt.{members_at}
use Rattle.value_json.specs.DocumentJson.{member_documents, member_names}

-- what a function makes of the members up to the brace that closes an object
abbrev pub read_members_at : {X : Type 0} → (Members → Option X) → ℕ → List Token → Option (X × List Token)
read_members_at f depth ts = converted f (members_at depth no_members ts)

-- a name comes behind the last one, if there is one
abbrev pub follows : Option (List ℕ) → List ℕ → Bool
follows None k = true
follows (Some l) k = is_before l k

-- the last of some names
abbrev pub last_of : List (List ℕ) → Option (List ℕ)
last_of ns = if length ns == 0 then None else Some (slice_index_or ns (length ns - 1) [])

-- the names of members, and their contents, all of the type
abbrev pub entry_documents : TyTree → Members → Option (List (List ℕ) × DocTrees)
entry_documents t ms = option_map (λ ds. (member_names ms, ds)) (member_documents t ms)
