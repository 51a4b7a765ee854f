-- The grammar of programs: symbols, productions, and the viable prefixes of what they derive. docs/LANGUAGE.md has it
-- in prose. In order: `alternatives` has the productions, `contents` their optional and repeated parts, and
-- `IsViablePrefix`, at the end, is the main definition.
use Rattle.std.specs.Prelude.{◌≡◌, ℕ, zero, suc, List, [], ◌∷◌, ◌++◌, ◌⊎◌}
use lib.IntN.{ℤ}
use Rattle.program_tokens.specs.declared.keyword.Keyword.{Keyword}
use Rattle.program_tokens.specs.declared.keyword.Keyword.TheVariants as words
use Rattle.program_tokens.specs.declared.mark.Mark.{Mark}
use Rattle.program_tokens.specs.declared.mark.Mark.TheVariants.{Equals, Semicolon, OpenBrace, CloseBrace, Less}
use Rattle.program_tokens.specs.declared.mark.Mark.TheVariants.{Greater, OpenBracket, CloseBracket, OpenParen}
use Rattle.program_tokens.specs.declared.mark.Mark.TheVariants.{CloseParen, Colon, Comma, Tilde}
use Rattle.program_tokens.specs.declared.token.Token.{Token}
use Rattle.program_tokens.specs.declared.token.Token.TheVariants as tokens

-- The rules. A type, a lens and a row are numbered by how many types and lenses may still be nested, itself among them:
-- a type with the number 0 is inside 100 others, and has no alternative. The plain productions, without numbers, are in
-- PlainGrammar.
pub data Rule : Type 0 where
  program : Rule
  field : Rule
  type : ℕ → Rule
  lens : ℕ → Rule
  row : ℕ → Rule

-- what a rule has in braces, which may come again, or in brackets, which may be missing
pub data Part : Type 0 where
  definitions : Part
  other_members : Part
  other_pairs : Part
  declared_number : Part
  declared_string : Part
  fields : ℕ → Part
  other_fields : ℕ → Part
  rows : ℕ → Part
  other_rows : ℕ → Part
  other_arms : ℕ → Part

-- the symbol of a token, a rule's name, a part in brackets or a part in braces
pub data Symbol : Type 0 where
  mark : Mark → Symbol
  word : Keyword → Symbol
  a_name : Symbol
  a_string : Symbol
  a_number : Symbol
  the_end : Symbol
  rule : Rule → Symbol
  perhaps : Part → Symbol
  repeated : Part → Symbol

-- `field ":" type`, and `field "~" field ":" lens`
abbrev pub a_field : ℕ → List Symbol
a_field n = rule field ∷ mark Colon ∷ rule (type n) ∷ []

abbrev pub an_arm : ℕ → List Symbol
an_arm n = rule field ∷ mark Tilde ∷ rule field ∷ mark Colon ∷ rule (lens n) ∷ []

-- `STRING "=" STRING`
abbrev pub a_pair : List Symbol
a_pair = a_string ∷ mark Equals ∷ a_string ∷ []

-- the contents of a part, any one of which may stand there
abbrev pub contents : Part → List (List Symbol)
contents definitions =
    (word words.Type ∷ a_name ∷ mark Equals ∷ rule (type 100) ∷ mark Semicolon ∷ [])
    ∷ (word words.Lens ∷ a_name ∷ mark Equals ∷ rule (lens 100) ∷ mark Semicolon ∷ [])
    ∷ []
contents other_members = (mark Comma ∷ a_string ∷ []) ∷ []
contents other_pairs = (mark Comma ∷ a_pair) ∷ []
contents declared_number = (mark Equals ∷ a_number ∷ []) ∷ []
contents declared_string = (mark Equals ∷ a_string ∷ []) ∷ []
contents (fields n) = (a_field n ++ repeated (other_fields n) ∷ []) ∷ []
contents (other_fields n) = (mark Comma ∷ a_field n) ∷ []
contents (rows n) = (rule (row n) ∷ repeated (other_rows n) ∷ []) ∷ []
contents (other_rows n) = (mark Comma ∷ rule (row n) ∷ []) ∷ []
contents (other_arms n) = (mark Comma ∷ an_arm n) ∷ []

-- the alternatives of a rule
abbrev pub alternatives : Rule → List (List Symbol)
alternatives program = (repeated definitions ∷ word words.Main ∷ rule (lens 100) ∷ []) ∷ []
alternatives field = (a_name ∷ []) ∷ (a_string ∷ []) ∷ []
alternatives (type zero) = []
alternatives (type (suc n)) =
    (word words.Unit ∷ [])
    ∷ (word words.Bool ∷ [])
    ∷ (word words.Int ∷ perhaps declared_number ∷ [])
    ∷ (word words.Text ∷ perhaps declared_string ∷ [])
    ∷ (word words.Enum ∷ mark OpenBracket ∷ a_string ∷ repeated other_members ∷ mark CloseBracket
    ∷ perhaps declared_string ∷ [])
    ∷ (mark OpenBrace ∷ perhaps (fields n) ∷ mark CloseBrace ∷ [])
    ∷ (mark Less ∷ a_field n ++ repeated (other_fields n) ∷ mark Greater ∷ [])
    ∷ (word words.List ∷ rule (type n) ∷ [])
    ∷ (word words.Keyed ∷ rule (type n) ∷ [])
    ∷ (word words.Tree ∷ rule (type n) ∷ [])
    ∷ (a_name ∷ [])
    ∷ []
alternatives (lens zero) = []
alternatives (lens (suc n)) =
    (word words.Id ∷ rule (type n) ∷ [])
    ∷ (word words.Disc ∷ rule (type n) ∷ rule (type n) ∷ [])
    ∷ (word words.Bij ∷ mark OpenBracket ∷ a_pair ++ repeated other_pairs ∷ mark CloseBracket ∷ perhaps declared_string
    ∷ [])
    ∷ (word words.Then ∷ mark OpenParen ∷ rule (lens n) ∷ mark Comma ∷ rule (lens n) ∷ mark CloseParen ∷ [])
    ∷ (mark OpenBrace ∷ perhaps (rows n) ∷ mark CloseBrace ∷ [])
    ∷ (mark Less ∷ an_arm n ++ repeated (other_arms n) ∷ mark Greater ∷ [])
    ∷ (word words.Each ∷ rule (lens n) ∷ [])
    ∷ (word words.Keyed ∷ rule (lens n) ∷ [])
    ∷ (word words.Tree ∷ rule (lens n) ∷ [])
    ∷ (word words.Part ∷ mark Less ∷ a_field n ++ repeated (other_fields n) ∷ mark Greater ∷ [])
    ∷ (word words.Inv ∷ rule (lens n) ∷ [])
    ∷ (a_name ∷ [])
    ∷ []
alternatives (row n) =
    an_arm n
    ∷ (word words.Left ∷ a_field n)
    ∷ (word words.Right ∷ a_field n)
    ∷ []

-- a program followed by the end
abbrev pub program_and_end : List Symbol
program_and_end = rule program ∷ the_end ∷ []

-- it is one of these
abbrev pub IsAmong : {A : Type 0} → A → List A → Type 0
IsAmong a [] = ⊥
IsAmong a (b ∷ bs) = (a ≡ b) ⊎ IsAmong a bs

-- The tokens are a viable prefix of the symbols: they begin something that the symbols derive.
pub data IsViablePrefix : List Symbol → List Token → Type 0 where
  no_tokens : (s : List Symbol) → IsViablePrefix s []
  mark_first : (m : Mark) (s : List Symbol) (ts : List Token) → IsViablePrefix s ts
      → IsViablePrefix (mark m ∷ s) (tokens.Mark m ∷ ts)
  word_first : (k : Keyword) (s : List Symbol) (ts : List Token) → IsViablePrefix s ts
      → IsViablePrefix (word k ∷ s) (tokens.Keyword k ∷ ts)
  name_first : (n : List ℕ) (s : List Symbol) (ts : List Token) → IsViablePrefix s ts
      → IsViablePrefix (a_name ∷ s) (tokens.Name n ∷ ts)
  string_first : (n : List ℕ) (s : List Symbol) (ts : List Token) → IsViablePrefix s ts
      → IsViablePrefix (a_string ∷ s) (tokens.Text n ∷ ts)
  number_first : (z : ℤ) (s : List Symbol) (ts : List Token) → IsViablePrefix s ts
      → IsViablePrefix (a_number ∷ s) (tokens.Number z ∷ ts)
  end_first : (s : List Symbol) (ts : List Token) → IsViablePrefix s ts → IsViablePrefix (the_end ∷ s) (tokens.End ∷ ts)
  rule_replaced : (r : Rule) (a : List Symbol) (s : List Symbol) (ts : List Token) → IsAmong a (alternatives r)
      → IsViablePrefix (a ++ s) ts → IsViablePrefix (rule r ∷ s) ts
  option_present : (p : Part) (a : List Symbol) (s : List Symbol) (ts : List Token) → IsAmong a (contents p)
      → IsViablePrefix (a ++ s) ts → IsViablePrefix (perhaps p ∷ s) ts
  option_absent : (p : Part) (s : List Symbol) (ts : List Token) → IsViablePrefix s ts
      → IsViablePrefix (perhaps p ∷ s) ts
  repeated_once_more : (p : Part) (a : List Symbol) (s : List Symbol) (ts : List Token) → IsAmong a (contents p)
      → IsViablePrefix (a ++ (repeated p ∷ s)) ts → IsViablePrefix (repeated p ∷ s) ts
  repeated_no_more : (p : Part) (s : List Symbol) (ts : List Token) → IsViablePrefix s ts
      → IsViablePrefix (repeated p ∷ s) ts
