-- A machine whose stack is a list of symbols, where the next token alone decides: the middle term between reading and viable prefixes.
use Rattle.std.specs.Prelude.{ℕ, Bool, true, false, List, [], ◌∷◌, ◌++◌, Option, Some, None, ◌==◌, if◌then◌else◌}
use Rattle.std.specs.Option.{option_or}
use Rattle.program_tokens.specs.declared.keyword.Keyword.{Keyword}
use Rattle.program_tokens.specs.declared.keyword.Keyword.TheVariants as words
use Rattle.program_tokens.specs.declared.token.Token.{Token}
use Rattle.program_tokens.specs.declared.token.Token.TheVariants as tokens
use Rattle.program_tokens.specs.declared.token.PlacedToken.{PlacedToken}
use Rattle.program_grammar.specs.Grammar.{Symbol, mark, word, a_name, a_string, a_number, the_end, rule, perhaps, repeated, contents, alternatives}
use Rattle.program_grammar.specs.Reading.{is_mark, is_end}

abbrev pub is_name : Token → Bool
is_name (tokens.Name n) = true
is_name _ = false

abbrev pub is_string : Token → Bool
is_string (tokens.Text n) = true
is_string _ = false

abbrev pub is_number : Token → Bool
is_number (tokens.Number z) = true
is_number _ = false

-- a number for each keyword
abbrev pub code : Keyword → ℕ
code words.Type = 0
code words.Lens = 1
code words.Main = 2
code words.Unit = 3
code words.Bool = 4
code words.Int = 5
code words.Text = 6
code words.Enum = 7
code words.List = 8
code words.Keyed = 9
code words.Tree = 10
code words.Id = 11
code words.Bij = 12
code words.Disc = 13
code words.Then = 14
code words.Left = 15
code words.Right = 16
code words.Each = 17
code words.Part = 18
code words.Inv = 19

abbrev pub is_word : Keyword → Token → Bool
is_word k (tokens.Keyword j) = code j == code k
is_word k _ = false

abbrev pub first_of : (List Symbol → Option (List Symbol)) → List (List Symbol) → Option (List Symbol)
first_of f [] = None
first_of f (a ∷ others) = option_or (f a) (first_of f others)

-- The symbols that are left after a token, where it fits. What a rule or a part is replaced by is asked of the function inside.
abbrev pub step : (List Symbol → Token → Option (List Symbol)) → List Symbol → Token → Option (List Symbol)
step inner [] t = None
step inner (mark m ∷ s) t = if is_mark m t then Some s else None
step inner (word k ∷ s) t = if is_word k t then Some s else None
step inner (a_name ∷ s) t = if is_name t then Some s else None
step inner (a_string ∷ s) t = if is_string t then Some s else None
step inner (a_number ∷ s) t = if is_number t then Some s else None
step inner (the_end ∷ s) t = if is_end t then Some s else None
step inner (rule r ∷ s) t = first_of (λ a. inner (a ++ s) t) (alternatives r)
step inner (perhaps p ∷ s) t = option_or (first_of (λ a. inner (a ++ s) t) (contents p)) (step inner s t)
step inner (repeated p ∷ s) t = option_or (first_of (λ a. inner (a ++ (repeated p ∷ s)) t) (contents p)) (step inner s t)

abbrev pub no_step : List Symbol → Token → Option (List Symbol)
no_step s t = None

-- Rows begin with a row, a row with a field and a field with a token, so three steps inside are enough.
abbrev pub take_inside : List Symbol → Token → Option (List Symbol)
take_inside s t = step (step (step no_step)) s t

unfoldable pub take_one : List Symbol → Token → Option (List Symbol)
take_one s t = step take_inside s t

-- the offset of the first token that does not fit
unfoldable pub stop : List Symbol → List PlacedToken → Option ℕ
stop s [] = None
stop s (t ∷ ts) = elim (take_one s t.token) [ Some r ↦ stop r ts | None ↦ Some t.at ]

-- every token fits
unfoldable pub goes : List Symbol → List Token → Bool
goes s [] = true
goes s (t ∷ ts) = elim (take_one s t) [ Some r ↦ goes r ts | None ↦ false ]
