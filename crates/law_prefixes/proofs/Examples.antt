-- Reading small texts, and some lists of tokens that no text has.
use Rattle.std.proofs.Common.{◌≡◌, ℕ, List, [], ◌∷◌, ◌++◌, Option, Some, None, Result, Ok, Err, refl}
use Rattle.std.specs.Prelude.{codes, replicate}
use Rattle.std.specs.Str.{is_utf8, chars}
use lib.IntN.{pos, negsuc}
use lib.Utf8.{encode}
use Rattle.program_tokens.specs.declared.keyword.Keyword.TheVariants as words
use Rattle.program_tokens.specs.declared.token.Token.TheVariants as tokens
use Rattle.program_tokens.specs.declared.token.PlacedToken.{PlacedToken}
use Rattle.program_tokens.specs.Tokens.{tokens_of, tokens_from, piece_of, placed}
use Rattle.program_tokens.specs.Numbers.{number_of}
use Rattle.program_tokens.specs.Words.{is_space, begins_word, in_word, keyword_of, mark_of, is_text, in_text}
use Rattle.program_terms.specs.Terms.{unit, bool, int, text, enum_of, named, id_of, disc_of, rec_lens, no_rows, only_left, only_right, type_def}
use Rattle.program_grammar.specs.declared.mention.Sort.TheVariants as sorts
use Rattle.program_grammar.specs.Mentions.{mention, NotedProgram}
use Rattle.program_grammar.specs.Reading.{mark_at, field_at, string_at, number_at, initial_at, more_at, list_at, closed_at, perhaps_at, typed_at, enum_at, word_type, begun_type, type_step, type_at, arm_at, left_row_at, right_row_at, both_row_at, row_at, word_lens, disc_at, rec_at, alt_at, mark_lens, begun_lens, lens_step, lens_at, name_at, type_term_at, lens_term_at, definition_at, definitions_at, main_at, end_at, program_at}

abbrev read : List PlacedToken → Result NotedProgram (Option ℕ)
unfolding mark_at field_at string_at number_at initial_at more_at list_at closed_at perhaps_at typed_at enum_at word_type begun_type type_step type_at arm_at left_row_at right_row_at both_row_at row_at word_lens disc_at rec_at alt_at mark_lens begun_lens lens_step lens_at name_at type_term_at lens_term_at definition_at definitions_at main_at end_at program_at
read ts = program_at ts

abbrev found : List ℕ → Result NotedProgram (Option ℕ)
unfolding read tokens_from piece_of is_space begins_word in_word keyword_of mark_of number_of is_text in_text is_utf8 chars encode
found bytes = read (tokens_of bytes)

smallest : found (codes "main id int") ≡ Ok (record { definitions = []; main = id_of (int (pos 0)); mentions = [] })
unfolding found
smallest = refl

-- the end is a token too, at the offset behind the text
type_missing : found (codes "main id") ≡ Err (Some 7)
unfolding found
type_missing = refl

empty_text : found [] ≡ Err (Some 0)
unfolding found
empty_text = refl

-- no comma stands before the bracket that closes
comma_too_many : found (codes "main {a ~ b: id int,}") ≡ Err (Some 20)
unfolding found
comma_too_many = refl

member_missing : found (codes "main id enum [\"a\",]") ≡ Err (Some 18)
unfolding found
member_missing = refl

-- a record may have no row, and alternatives have one at least
no_row : found (codes "main {}") ≡ Ok (record { definitions = []; main = rec_lens no_rows; mentions = [] })
unfolding found
no_row = refl

no_arm : found (codes "main <>") ≡ Err (Some 6)
unfolding found
no_arm = refl

two_rows : found (codes "main {left a: unit, right b: bool}") ≡ Ok (record { definitions = []; main = rec_lens (only_left (codes "a") unit (only_right (codes "b") bool no_rows)); mentions = [] })
unfolding found
two_rows = refl

-- a name is noted where it is mentioned, and again where it is defined
defined : found (codes "type t = int; main id t") ≡ Ok (record { definitions = record { name = codes "t"; at = 5; def = type_def (int (pos 0)); mentions = [] } ∷ []; main = id_of (named (codes "t")); mentions = mention sorts.Type (codes "t") 22 ∷ [] })
unfolding found
defined = refl

-- an initial value that is left out, and others
initial_values : found (codes "main disc int = -5 enum[\"a\"]") ≡ Ok (record { definitions = []; main = disc_of (int (negsuc 4)) (enum_of (codes "a" ∷ []) (codes "a")); mentions = [] })
unfolding found
initial_values = refl

initial_text_read : found (codes "main id text = \"a\"") ≡ Ok (record { definitions = []; main = id_of (text (codes "a")); mentions = [] })
unfolding found
initial_text_read = refl

-- a number is wanted behind `int =`, and a string behind `text =`
number_missing : found (codes "main id int = \"a\"") ≡ Err (Some 14)
unfolding found
number_missing = refl

string_missing : found (codes "main id text = 5") ≡ Err (Some 15)
unfolding found
string_missing = refl

-- no other type has an initial value
unit_with_value : found (codes "main id unit = 5") ≡ Err (Some 13)
unfolding found
unit_with_value = refl

-- a keyword is no name
keyword_defined : found (codes "lens main = id int; main id int") ≡ Err (Some 5)
unfolding found
keyword_defined = refl

-- nothing stands behind the main lens
semicolon_behind : found (codes "main id int;") ≡ Err (Some 11)
unfolding found
semicolon_behind = refl

bad_token : found (codes "main id !") ≡ Err (Some 8)
unfolding found
bad_token = refl

-- the beginning of a program, without its end
ran_out : read (placed (tokens.Keyword words.Main) 0 ∷ placed (tokens.Keyword words.Id) 5 ∷ []) ≡ Err None
unfolding read
ran_out = refl

second_end : read (placed (tokens.Keyword words.Main) 0 ∷ placed (tokens.Keyword words.Id) 5 ∷ placed (tokens.Keyword words.Int) 8 ∷ placed tokens.End 11 ∷ placed tokens.End 12 ∷ []) ≡ Err (Some 12)
unfolding read
second_end = refl

-- the last of these types would be inside 100 others: the lens and 99 lists
too_deep : read (placed (tokens.Keyword words.Main) 0 ∷ placed (tokens.Keyword words.Id) 5 ∷ replicate 99 (placed (tokens.Keyword words.List) 8) ++ placed (tokens.Keyword words.Int) 500 ∷ placed tokens.End 503 ∷ []) ≡ Err (Some 500)
unfolding read
too_deep = refl
