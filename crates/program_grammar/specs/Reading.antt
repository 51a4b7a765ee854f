-- Reading from left to right, without going back: the value and the point behind it, or the offset of the unexpected
-- token (none if the tokens ran out). A form for proofs: the laws show that it reads what is spelled, and that it stops
-- at the unexpected token. Read it from the end: `program_at`, then `lens_at` and `type_at`; `lens_from` and
-- `type_from` have a line for each first token.
use Rattle.std.specs.Prelude.{ℕ, zero, suc, ◌-◌, Bool, true, false, List, [], ◌∷◌, ◌++◌, length, Option, Some, None}
use Rattle.std.specs.Prelude.{Result, Ok, Err, ◌==◌, if◌then◌else◌}
use lib.IntN.{ℤ}
use Rattle.program_tokens.specs.Words.{mark_byte}
use Rattle.program_tokens.specs.declared.keyword.Keyword.{Keyword}
use Rattle.program_tokens.specs.declared.keyword.Keyword.TheVariants as words
use Rattle.program_tokens.specs.declared.mark.Mark.{Mark}
use Rattle.program_tokens.specs.declared.mark.Mark.TheVariants.{Equals, Semicolon, OpenBrace, CloseBrace, Less}
use Rattle.program_tokens.specs.declared.mark.Mark.TheVariants.{Greater, OpenBracket, CloseBracket, OpenParen}
use Rattle.program_tokens.specs.declared.mark.Mark.TheVariants.{CloseParen, Colon, Comma, Tilde}
use Rattle.program_tokens.specs.declared.token.Token.{Token}
use Rattle.program_tokens.specs.declared.token.Token.TheVariants as tokens
use Rattle.program_tokens.specs.declared.token.PlacedToken.{PlacedToken}
use Rattle.program_terms.specs.Terms.{TypeTree, unit, bool, int, text, enum_of, record_of, one_of, list, keyed, tree}
use Rattle.program_terms.specs.Terms.{named, term_fields_of, LensTree, id_of, bij_of, disc_of, then_of, rec_lens}
use Rattle.program_terms.specs.Terms.{alt_lens, each_of, keyed_each, tree_each, part_of, inv_of, named_lens, RowTree}
use Rattle.program_terms.specs.Terms.{row_both, row_left, row_right, term_rows_of, term_arms_of, DefTree, type_def}
use Rattle.program_terms.specs.Terms.{lens_def, initial_number, initial_text, initial_member, initial_left}
use Rattle.program_grammar.specs.declared.mention.Mention.{Mention}
use Rattle.program_grammar.specs.declared.mention.Sort.TheVariants as sorts
use Rattle.program_grammar.specs.Mentions.{Point, mention, NotedDefinition, NotedProgram}

-- what reading gives
abbrev pub Read : Type 0 → Type 0
Read A = Result (A × Point) (Option ℕ)

infixl 10 ◌>>=◌
abbrev pub ◌>>=◌ : {A B : Type 0} → Result A (Option ℕ) → (A → Result B (Option ℕ)) → Result B (Option ℕ)
(Ok x) >>= f = f x
(Err e) >>= f = Err e

abbrev pub next_offset : List PlacedToken → Option ℕ
next_offset [] = None
next_offset (t ∷ ts) = Some t.at

-- what the next token is

abbrev pub is_mark : Mark → Token → Bool
is_mark m (tokens.Mark k) = mark_byte k == mark_byte m
is_mark m (tokens.Keyword k) = false
is_mark m (tokens.Name n) = false
is_mark m (tokens.Text s) = false
is_mark m (tokens.Number z) = false
is_mark m tokens.Bad = false
is_mark m tokens.End = false

abbrev pub next_is : Mark → List PlacedToken → Bool
next_is m [] = false
next_is m (t ∷ ts) = is_mark m t.token

abbrev pub word_in : Token → Option Keyword
word_in (tokens.Keyword k) = Some k
word_in _ = None

abbrev pub next_word : List PlacedToken → Option Keyword
next_word [] = None
next_word (t ∷ ts) = word_in t.token

abbrev pub string_in : Token → Option (List ℕ)
string_in (tokens.Text s) = Some s
string_in _ = None

abbrev pub number_in : Token → Option ℤ
number_in (tokens.Number z) = Some z
number_in _ = None

abbrev pub field_in : Token → Option (List ℕ)
field_in (tokens.Name n) = Some n
field_in (tokens.Text s) = Some s
field_in _ = None

-- one token

abbrev pub mark_in : Mark → List Mention → List PlacedToken → Result Point (Option ℕ)
mark_in m ms [] = Err None
mark_in m ms (t ∷ ts) = if is_mark m t.token then Ok (ms, ts) else Err (Some t.at)

unfoldable pub mark_at : Mark → Point → Result Point (Option ℕ)
mark_at m p = mark_in m p.0 p.1

abbrev pub token_value : {A : Type 0} → Option A → ℕ → List Mention → List PlacedToken → Read A
token_value (Some x) at ms ts = Ok (x, (ms, ts))
token_value None at ms ts = Err (Some at)

abbrev pub string_from : List Mention → List PlacedToken → Read (List ℕ)
string_from ms [] = Err None
string_from ms (t ∷ ts) = token_value (string_in t.token) t.at ms ts

unfoldable pub string_at : Point → Read (List ℕ)
string_at p = string_from p.0 p.1

abbrev pub number_from : List Mention → List PlacedToken → Read ℤ
number_from ms [] = Err None
number_from ms (t ∷ ts) = token_value (number_in t.token) t.at ms ts

unfoldable pub number_at : Point → Read ℤ
number_at p = number_from p.0 p.1

abbrev pub field_from : List Mention → List PlacedToken → Read (List ℕ)
field_from ms [] = Err None
field_from ms (t ∷ ts) = token_value (field_in t.token) t.at ms ts

unfoldable pub field_at : Point → Read (List ℕ)
field_at p = field_from p.0 p.1

-- lists

-- the elements behind further commas, after skipping some tokens
unfoldable pub more_at : {A : Type 0} → (Point → Read A) → ℕ → List Mention → List PlacedToken → Read (List A)
more_at element skip ms [] = Ok ([], (ms, []))
more_at element (suc skip) ms (t ∷ ts) = more_at element skip ms ts
more_at element zero ms (t ∷ ts) =
    if is_mark Comma t.token
    then (element (ms, ts) >>= λ x. more_at element (length ts - length x.1.1) x.1.0 ts >>= λ xs. Ok (x.0 ∷ xs.0, xs.1))
    else Ok ([], (ms, t ∷ ts))

-- one element, and those behind commas
unfoldable pub list_at : {A : Type 0} → (Point → Read A) → Point → Read (List A)
list_at element p = do
  x ← element p
  xs ← more_at element 0 x.1.0 x.1.1
  Ok (x.0 ∷ xs.0, xs.1)

-- a list and the mark after it
unfoldable pub closed_at : {A : Type 0} → (Point → Read A) → Mark → Point → Read (List A)
closed_at element close p = do
  xs ← list_at element p
  rest ← mark_at close xs.1
  Ok (xs.0, rest)

-- a list that may be empty, and the mark after it
unfoldable pub perhaps_at : {A : Type 0} → (Point → Read A) → Mark → Point → Read (List A)
perhaps_at element close p =
    if next_is close p.1
    then (mark_at close p >>= λ rest. Ok ([], rest))
    else closed_at element close p

-- an initial value behind "=", or the one that is meant when none is there
unfoldable pub initial_at : {A : Type 0} → (Point → Read A) → A → Point → Read A
initial_at value left_out p =
    if next_is Equals p.1
    then (mark_at Equals p >>= λ rest. value rest)
    else Ok (left_out, p)

-- types

-- field ":" and a type
unfoldable pub typed_at : {A : Type 0} → (Point → Read A) → Point → Read (List ℕ × A)
typed_at inner p = do
  f ← field_at p
  rest ← mark_at Colon f.1
  t ← inner rest
  Ok ((f.0, t.0), t.1)

unfoldable pub enum_at : Point → Read TypeTree
enum_at p = do
  rest ← mark_at OpenBracket p
  ms ← closed_at string_at CloseBracket rest
  m ← initial_at string_at (initial_member ms.0) ms.1
  Ok (enum_of ms.0 m.0, m.1)

unfoldable pub record_at : (Point → Read TypeTree) → Point → Read TypeTree
record_at inner p = perhaps_at (typed_at inner) CloseBrace p >>= λ fs. Ok (record_of (term_fields_of fs.0), fs.1)

unfoldable pub one_of_at : (Point → Read TypeTree) → Point → Read TypeTree
one_of_at inner p = closed_at (typed_at inner) Greater p >>= λ fs. Ok (one_of (term_fields_of fs.0), fs.1)

unfoldable pub word_type : (Point → Read TypeTree) → Keyword → ℕ → Point → Read TypeTree
word_type inner words.Unit at p = Ok (unit, p)
word_type inner words.Bool at p = Ok (bool, p)
word_type inner words.Int at p = initial_at number_at initial_number p >>= λ z. Ok (int z.0, z.1)
word_type inner words.Text at p = initial_at string_at initial_text p >>= λ s. Ok (text s.0, s.1)
word_type inner words.Enum at p = enum_at p
word_type inner words.List at p = inner p >>= λ t. Ok (list t.0, t.1)
word_type inner words.Keyed at p = inner p >>= λ t. Ok (keyed t.0, t.1)
word_type inner words.Tree at p = inner p >>= λ t. Ok (tree t.0, t.1)
word_type inner _ at p = Err (Some at)

unfoldable pub mark_type : (Point → Read TypeTree) → Mark → ℕ → Point → Read TypeTree
mark_type inner OpenBrace at p = record_at inner p
mark_type inner Less at p = one_of_at inner p
mark_type inner _ at p = Err (Some at)

-- a type that begins with a token
unfoldable pub begun_type : (Point → Read TypeTree) → Token → ℕ → Point → Read TypeTree
begun_type inner (tokens.Keyword k) at p = word_type inner k at p
begun_type inner (tokens.Name n) at p = Ok (named n, (p.0 ++ mention sorts.Type n at ∷ [], p.1))
begun_type inner (tokens.Mark m) at p = mark_type inner m at p
begun_type inner (tokens.Text s) at p = Err (Some at)
begun_type inner (tokens.Number z) at p = Err (Some at)
begun_type inner tokens.Bad at p = Err (Some at)
begun_type inner tokens.End at p = Err (Some at)

abbrev pub type_from : (Point → Read TypeTree) → List Mention → List PlacedToken → Read TypeTree
type_from inner ms [] = Err None
type_from inner ms (t ∷ ts) = begun_type inner t.token t.at (ms, ts)

unfoldable pub type_step : (Point → Read TypeTree) → Point → Read TypeTree
type_step inner p = type_from inner p.0 p.1

-- a type with at most this many types nested, itself among them
unfoldable pub type_at : ℕ → Point → Read TypeTree
type_at zero p = Err (next_offset p.1)
type_at (suc room) p = type_step (type_at room) p

-- lenses

-- STRING "=" STRING
unfoldable pub pair_at : Point → Read (List ℕ × List ℕ)
pair_at p = do
  a ← string_at p
  rest ← mark_at Equals a.1
  b ← string_at rest
  Ok ((a.0, b.0), b.1)

unfoldable pub bij_at : Point → Read LensTree
bij_at p = do
  rest ← mark_at OpenBracket p
  ps ← closed_at pair_at CloseBracket rest
  m ← initial_at string_at (initial_left ps.0) ps.1
  Ok (bij_of ps.0 m.0, m.1)

-- field "~" field ":" and a lens
unfoldable pub arm_at : (Point → Read LensTree) → Point → Read (List ℕ × List ℕ × LensTree)
arm_at inner p = do
  a ← field_at p
  rest ← mark_at Tilde a.1
  b ← field_at rest
  rest ← mark_at Colon b.1
  l ← inner rest
  Ok ((a.0, b.0, l.0), l.1)

unfoldable pub left_row_at : (Point → Read TypeTree) → Point → Read RowTree
left_row_at type p = typed_at type p >>= λ f. Ok (row_left f.0.0 f.0.1, f.1)

unfoldable pub right_row_at : (Point → Read TypeTree) → Point → Read RowTree
right_row_at type p = typed_at type p >>= λ f. Ok (row_right f.0.0 f.0.1, f.1)

unfoldable pub both_row_at : (Point → Read LensTree) → Point → Read RowTree
both_row_at inner p = arm_at inner p >>= λ a. Ok (row_both a.0.0 a.0.1 a.0.2, a.1)

-- a row, by the word that is next
abbrev pub row_by : (Point → Read TypeTree) → (Point → Read LensTree) → Option Keyword → List Mention → List PlacedToken
    → Read RowTree
row_by type inner (Some words.Left) ms (t ∷ ts) = left_row_at type (ms, ts)
row_by type inner (Some words.Right) ms (t ∷ ts) = right_row_at type (ms, ts)
row_by type inner _ ms ts = both_row_at inner (ms, ts)

unfoldable pub row_at : (Point → Read TypeTree) → (Point → Read LensTree) → Point → Read RowTree
row_at type inner p = row_by type inner (next_word p.1) p.0 p.1

unfoldable pub then_at : (Point → Read LensTree) → Point → Read LensTree
then_at inner p = do
  rest ← mark_at OpenParen p
  a ← inner rest
  rest ← mark_at Comma a.1
  b ← inner rest
  rest ← mark_at CloseParen b.1
  Ok (then_of a.0 b.0, rest)

unfoldable pub disc_at : (Point → Read TypeTree) → Point → Read LensTree
disc_at type p = do
  a ← type p
  b ← type a.1
  Ok (disc_of a.0 b.0, b.1)

unfoldable pub part_at : (Point → Read TypeTree) → Point → Read LensTree
part_at type p = do
  rest ← mark_at Less p
  fs ← closed_at (typed_at type) Greater rest
  Ok (part_of (term_fields_of fs.0), fs.1)

unfoldable pub word_lens : (Point → Read TypeTree) → (Point → Read LensTree) → Keyword → ℕ → Point → Read LensTree
word_lens type inner words.Id at p = type p >>= λ t. Ok (id_of t.0, t.1)
word_lens type inner words.Bij at p = bij_at p
word_lens type inner words.Disc at p = disc_at type p
word_lens type inner words.Then at p = then_at inner p
word_lens type inner words.Each at p = inner p >>= λ l. Ok (each_of l.0, l.1)
word_lens type inner words.Keyed at p = inner p >>= λ l. Ok (keyed_each l.0, l.1)
word_lens type inner words.Tree at p = inner p >>= λ l. Ok (tree_each l.0, l.1)
word_lens type inner words.Part at p = part_at type p
word_lens type inner words.Inv at p = inner p >>= λ l. Ok (inv_of l.0, l.1)
word_lens type inner _ at p = Err (Some at)

unfoldable pub rec_at : (Point → Read TypeTree) → (Point → Read LensTree) → Point → Read LensTree
rec_at type inner p = perhaps_at (row_at type inner) CloseBrace p >>= λ rs. Ok (rec_lens (term_rows_of rs.0), rs.1)

unfoldable pub alt_at : (Point → Read LensTree) → Point → Read LensTree
alt_at inner p = closed_at (arm_at inner) Greater p >>= λ rs. Ok (alt_lens (term_arms_of rs.0), rs.1)

unfoldable pub mark_lens : (Point → Read TypeTree) → (Point → Read LensTree) → Mark → ℕ → Point → Read LensTree
mark_lens type inner OpenBrace at p = rec_at type inner p
mark_lens type inner Less at p = alt_at inner p
mark_lens type inner _ at p = Err (Some at)

-- a lens that begins with a token
unfoldable pub begun_lens : (Point → Read TypeTree) → (Point → Read LensTree) → Token → ℕ → Point → Read LensTree
begun_lens type inner (tokens.Keyword k) at p = word_lens type inner k at p
begun_lens type inner (tokens.Name n) at p = Ok (named_lens n, (p.0 ++ mention sorts.Lens n at ∷ [], p.1))
begun_lens type inner (tokens.Mark m) at p = mark_lens type inner m at p
begun_lens type inner (tokens.Text s) at p = Err (Some at)
begun_lens type inner (tokens.Number z) at p = Err (Some at)
begun_lens type inner tokens.Bad at p = Err (Some at)
begun_lens type inner tokens.End at p = Err (Some at)

abbrev pub lens_from : (Point → Read TypeTree) → (Point → Read LensTree) → List Mention → List PlacedToken
    → Read LensTree
lens_from type inner ms [] = Err None
lens_from type inner ms (t ∷ ts) = begun_lens type inner t.token t.at (ms, ts)

unfoldable pub lens_step : (Point → Read TypeTree) → (Point → Read LensTree) → Point → Read LensTree
lens_step type inner p = lens_from type inner p.0 p.1

-- a lens with at most this many types and lenses nested, itself among them
unfoldable pub lens_at : ℕ → Point → Read LensTree
lens_at zero p = Err (next_offset p.1)
lens_at (suc room) p = lens_step (type_at room) (lens_at room) p

-- programs

-- a name that is defined, with its offset
abbrev pub name_in : Token → ℕ → Option (List ℕ × ℕ)
name_in (tokens.Name n) at = Some (n, at)
name_in _ at = None

abbrev pub name_from : List Mention → List PlacedToken → Read (List ℕ × ℕ)
name_from ms [] = Err None
name_from ms (t ∷ ts) = token_value (name_in t.token t.at) t.at ms ts

unfoldable pub name_at : Point → Read (List ℕ × ℕ)
name_at p = name_from p.0 p.1

-- what a name is defined as, by the word before it
unfoldable pub type_term_at : Point → Read DefTree
type_term_at p = type_at 100 p >>= λ t. Ok (type_def t.0, t.1)

unfoldable pub lens_term_at : Point → Read DefTree
lens_term_at p = lens_at 100 p >>= λ l. Ok (lens_def l.0, l.1)

-- the rest of a definition behind its first word; the mentions are those since it began
unfoldable pub definition_at : (Point → Read DefTree) → List PlacedToken
    → Result (NotedDefinition × List PlacedToken) (Option ℕ)
definition_at term ts = do
  n ← name_at ([], ts)
  rest ← mark_at Equals n.1
  d ← term rest
  rest ← mark_at Semicolon d.1
  Ok (record { name = n.0.0; at = n.0.1; def = d.0; mentions = rest.0 }, rest.1)

-- the definition that begins with a word, where it is one of the two
abbrev pub definition_of : Option Keyword → Option (Point → Read DefTree)
definition_of (Some words.Type) = Some type_term_at
definition_of (Some words.Lens) = Some lens_term_at
definition_of _ = None

-- the definitions in written order, after skipping some tokens
unfoldable pub definitions_at : ℕ → List PlacedToken → Result (List NotedDefinition × List PlacedToken) (Option ℕ)
definitions_at skip [] = Ok ([], [])
definitions_at (suc skip) (t ∷ ts) = definitions_at skip ts
definitions_at zero (t ∷ ts) = elim (definition_of (word_in t.token)) [
  | Some term ↦ definition_at term ts >>= λ d. definitions_at (length ts - length d.1) ts >>= λ ds. Ok
      (d.0 ∷ ds.0, ds.1)
  | None ↦ Ok ([], t ∷ ts)
]

abbrev pub is_main : Option Keyword → Bool
is_main (Some words.Main) = true
is_main _ = false

unfoldable pub main_at : List PlacedToken → Result (List PlacedToken) (Option ℕ)
main_at [] = Err None
main_at (t ∷ ts) = if is_main (word_in t.token) then Ok ts else Err (Some t.at)

abbrev pub is_end : Token → Bool
is_end tokens.End = true
is_end _ = false

-- nothing is left
abbrev pub none_left : List PlacedToken → Result (List PlacedToken) (Option ℕ)
none_left [] = Ok []
none_left (t ∷ ts) = Err (Some t.at)

-- the end, and nothing behind it
unfoldable pub end_at : List PlacedToken → Result (List PlacedToken) (Option ℕ)
end_at [] = Err None
end_at (t ∷ ts) = if is_end t.token then none_left ts else Err (Some t.at)

-- a complete program
unfoldable pub program_at : List PlacedToken → Result NotedProgram (Option ℕ)
program_at ts = do
  ds ← definitions_at 0 ts
  rest ← main_at ds.1
  l ← lens_at 100 ([], rest)
  u ← end_at l.1.1
  Ok (record { definitions = ds.0; main = l.0; mentions = l.1.0 })
