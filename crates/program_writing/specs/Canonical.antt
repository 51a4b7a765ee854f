-- Canonical text. Each form is written before the text behind it, which is the last argument.
-- Read it from the end: `canonical_type` and `canonical`, then `put_lens` and `put_type`.
use Rattle.std.specs.Prelude.{ℕ, List, [], ◌∷◌, ◌++◌, codes, bytes_eq, if◌then◌else◌}
use Rattle.std.specs.Fmt.{signed_decimal}
use Rattle.std.specs.Ordering.{int_eq}
use lib.IntN.{ℤ}
use Rattle.program_tokens.specs.Words.{is_name}
use Rattle.program_terms.specs.Terms.{TypeTree, TermFields, unit, bool, int, text, enum_of, record_of, one_of, list}
use Rattle.program_terms.specs.Terms.{keyed, tree, named, no_fields, more_fields, LensTree, id_of, bij_of, disc_of}
use Rattle.program_terms.specs.Terms.{then_of, rec_lens, alt_lens, each_of, keyed_each, tree_each, part_of, inv_of}
use Rattle.program_terms.specs.Terms.{named_lens, TermRows, no_rows, both, only_left, only_right, TermArms, no_arms}
use Rattle.program_terms.specs.Terms.{more_arms, DefTree, type_def, lens_def, ProgramTree, initial_number}
use Rattle.program_terms.specs.Terms.{initial_text, initial_member, initial_left}
use Rattle.doc_values.specs.Types.{TyTree, ty_unit, ty_bool, ty_int, ty_text, ty_enum, ty_rec, ty_alt, ty_list}
use Rattle.doc_values.specs.Types.{ty_keyed, ty_ordered}
use Rattle.doc_values.specs.Types as of_documents

-- a string between its quotes
abbrev pub put_string : List ℕ → List ℕ → List ℕ
put_string s rest = codes "\"" ++ (s ++ (codes "\"" ++ rest))

-- a field, a tag or a defined name: as it is where it is a name, and else as a string
abbrev pub put_name : List ℕ → List ℕ → List ℕ
put_name name rest = if is_name name then name ++ rest else put_string name rest

-- The elements of a list are separated by `, `. The first argument is what stands before the first of them: nothing, or
-- `, ` where others stand before it.

abbrev pub put_strings : List ℕ → List (List ℕ) → List ℕ → List ℕ
put_strings before [] rest = rest
put_strings before (m ∷ ms) rest = before ++ put_string m (put_strings (codes ", ") ms rest)

abbrev pub put_pairs : List ℕ → List (List ℕ × List ℕ) → List ℕ → List ℕ
put_pairs before [] rest = rest
put_pairs before (p ∷ ps) rest = before ++ put_string p.0 (codes "=" ++ put_string p.1 (put_pairs (codes ", ") ps rest))

-- An initial value stands behind ` = ` where it differs from the one that is meant when it is left out.

unfoldable pub put_initial_number : ℤ → List ℕ → List ℕ
put_initial_number z rest = if int_eq z initial_number then rest else codes " = " ++ (signed_decimal z ++ rest)

abbrev pub put_initial_string : List ℕ → List ℕ → List ℕ → List ℕ
put_initial_string left_out s rest = if bytes_eq s left_out then rest else codes " = " ++ put_string s rest

abbrev mutual
  pub put_type : TypeTree → List ℕ → List ℕ
  put_type unit rest = codes "unit" ++ rest
  put_type bool rest = codes "bool" ++ rest
  put_type (int z) rest = codes "int" ++ put_initial_number z rest
  put_type (text s) rest = codes "text" ++ put_initial_string initial_text s rest
  put_type (enum_of ms m) rest =
      codes "enum[" ++ put_strings [] ms (codes "]" ++ put_initial_string (initial_member ms) m rest)
  put_type (record_of fs) rest = codes "{" ++ put_fields [] fs (codes "}" ++ rest)
  put_type (one_of fs) rest = codes "<" ++ put_fields [] fs (codes ">" ++ rest)
  put_type (list t) rest = codes "list " ++ put_type t rest
  put_type (keyed t) rest = codes "keyed " ++ put_type t rest
  put_type (tree t) rest = codes "tree " ++ put_type t rest
  put_type (named n) rest = put_name n rest

  -- a record's fields, or tags, each with its type
  pub put_fields : List ℕ → TermFields → List ℕ → List ℕ
  put_fields before no_fields rest = rest
  put_fields before (more_fields f t fs) rest =
      before ++ put_name f (codes ": " ++ put_type t (put_fields (codes ", ") fs rest))

abbrev mutual
  pub put_lens : LensTree → List ℕ → List ℕ
  put_lens (id_of t) rest = codes "id " ++ put_type t rest
  put_lens (disc_of t u) rest = codes "disc " ++ put_type t (codes " " ++ put_type u rest)
  put_lens (bij_of ps m) rest =
      codes "bij[" ++ put_pairs [] ps (codes "]" ++ put_initial_string (initial_left ps) m rest)
  put_lens (then_of l k) rest = codes "then(" ++ put_lens l (codes ", " ++ put_lens k (codes ")" ++ rest))
  put_lens (rec_lens rows) rest = codes "{" ++ put_rows [] rows (codes "}" ++ rest)
  put_lens (alt_lens arms) rest = codes "<" ++ put_arms [] arms (codes ">" ++ rest)
  put_lens (each_of l) rest = codes "each " ++ put_lens l rest
  put_lens (keyed_each l) rest = codes "keyed " ++ put_lens l rest
  put_lens (tree_each l) rest = codes "tree " ++ put_lens l rest
  put_lens (part_of fs) rest = codes "part <" ++ put_fields [] fs (codes ">" ++ rest)
  put_lens (inv_of l) rest = codes "inv " ++ put_lens l rest
  put_lens (named_lens n) rest = put_name n rest

  pub put_rows : List ℕ → TermRows → List ℕ → List ℕ
  put_rows before no_rows rest = rest
  put_rows before (both f g l rows) rest =
      before ++ put_name f (codes " ~ " ++ put_name g (codes ": " ++ put_lens l (put_rows (codes ", ") rows rest)))
  put_rows before (only_left f t rows) rest =
      before ++ (codes "left " ++ put_name f (codes ": " ++ put_type t (put_rows (codes ", ") rows rest)))
  put_rows before (only_right f t rows) rest =
      before ++ (codes "right " ++ put_name f (codes ": " ++ put_type t (put_rows (codes ", ") rows rest)))

  pub put_arms : List ℕ → TermArms → List ℕ → List ℕ
  put_arms before no_arms rest = rest
  put_arms before (more_arms f g l arms) rest =
      before ++ put_name f (codes " ~ " ++ put_name g (codes ": " ++ put_lens l (put_arms (codes ", ") arms rest)))

-- a definition on a line of its own
abbrev pub put_definition : List ℕ → DefTree → List ℕ → List ℕ
put_definition name (type_def t) rest = codes "type " ++ put_name name (codes " = " ++ put_type t (codes ";\n" ++ rest))
put_definition name (lens_def l) rest = codes "lens " ++ put_name name (codes " = " ++ put_lens l (codes ";\n" ++ rest))

abbrev pub put_definitions : List (List ℕ × DefTree) → List ℕ → List ℕ
put_definitions [] rest = rest
put_definitions (d ∷ ds) rest = put_definition d.0 d.1 (put_definitions ds rest)

-- the canonical text of a program: its definitions, and the main lens on a last line that is not ended
abbrev pub canonical : ProgramTree → List ℕ
canonical p = put_definitions p.definitions (codes "main " ++ put_lens p.main [])

-- a type of documents, as a program writes it
abbrev mutual
  pub term_of_type : TyTree → TypeTree
  term_of_type ty_unit = unit
  term_of_type ty_bool = bool
  term_of_type (ty_int z) = int z
  term_of_type (ty_text s) = text s
  term_of_type (ty_enum ms m) = enum_of ms m
  term_of_type (ty_rec fs) = record_of (terms_of_fields fs)
  term_of_type (ty_alt fs) = one_of (terms_of_fields fs)
  term_of_type (ty_list t) = list (term_of_type t)
  term_of_type (ty_keyed t) = keyed (term_of_type t)
  term_of_type (ty_ordered t) = tree (term_of_type t)

  pub terms_of_fields : of_documents.FieldTrees → TermFields
  terms_of_fields of_documents.no_fields = no_fields
  terms_of_fields (of_documents.more_fields f t fs) = more_fields f (term_of_type t) (terms_of_fields fs)

-- the canonical text of a type of documents
abbrev pub canonical_type : TyTree → List ℕ
canonical_type t = put_type (term_of_type t) []

-- the text of a name by itself, as a field is written
abbrev pub canonical_name : List ℕ → List ℕ
canonical_name name = put_name name []
