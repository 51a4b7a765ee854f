-- What a store of a pair of documents begins with that is made anew: `pair_beginning`.
use Rattle.std.specs.Prelude.{ℕ, List, ◌++◌, take, Option, Some, None, option_to_list}
use Rattle.lens_forms.specs.Forms.{FormTree}
use Rattle.store_records.specs.StoredLens.{stored_lens}
use Rattle.store_session.specs.StoredStates.{version_for}

-- the version record, if the first record says version 1
abbrev pub version_due : Option (FormTree × ℕ) → Option (List ℕ)
version_due (Some opening) = version_for opening.1
version_due None = None

-- the first payload, which has the program, and the version record if that payload says version 1
abbrev pub pair_beginning : List (List ℕ) → List (List ℕ)
pair_beginning payloads = take 1 payloads ++ option_to_list (version_due (stored_lens payloads))
