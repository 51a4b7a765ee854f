-- The plain grammar of programs, without a bound on nesting, and how deep the types and lenses of a text are nested.
-- In order: `alternatives` has the productions, `IsPlainPrefix` says which tokens begin a program, and `IsNestedBelow`
-- how deep they are nested.
use Rattle.std.specs.Prelude.{ℕ, suc, ◌<◌, List, [], ◌∷◌, ◌++◌}
use lib.IntN.{ℤ}
use Rattle.program_tokens.specs.declared.keyword.Keyword.{Keyword}
use Rattle.program_tokens.specs.declared.keyword.Keyword.TheVariants as words
use Rattle.program_tokens.specs.declared.mark.Mark.{Mark}
use Rattle.program_tokens.specs.declared.mark.Mark.TheVariants.{Equals, Semicolon, OpenBrace, CloseBrace, Less}
use Rattle.program_tokens.specs.declared.mark.Mark.TheVariants.{Greater, OpenBracket, CloseBracket, OpenParen}
use Rattle.program_tokens.specs.declared.mark.Mark.TheVariants.{CloseParen, Colon, Comma, Tilde}
use Rattle.program_tokens.specs.declared.token.Token.{Token}
use Rattle.program_tokens.specs.declared.token.Token.TheVariants as tokens
use Rattle.program_grammar.specs.Grammar.{IsAmong}

-- ---- the productions

-- the rules
pub data PlainRule : Type 0 where
  program : PlainRule
  field : PlainRule
  type : PlainRule
  lens : PlainRule
  row : PlainRule

-- what a rule has in braces, which may come again, or in brackets, which may be missing
pub data PlainPart : Type 0 where
  definitions : PlainPart
  other_members : PlainPart
  other_pairs : PlainPart
  declared_number : PlainPart
  declared_string : PlainPart
  fields : PlainPart
  other_fields : PlainPart
  rows : PlainPart
  other_rows : PlainPart
  other_arms : PlainPart

-- the symbol of a token, a rule's name, a part in brackets or a part in braces
pub data PlainSymbol : Type 0 where
  mark : Mark → PlainSymbol
  word : Keyword → PlainSymbol
  a_name : PlainSymbol
  a_string : PlainSymbol
  a_number : PlainSymbol
  the_end : PlainSymbol
  rule : PlainRule → PlainSymbol
  perhaps : PlainPart → PlainSymbol
  repeated : PlainPart → PlainSymbol

-- `field ":" type`, and `field "~" field ":" lens`
abbrev pub a_field : List PlainSymbol
a_field = rule field ∷ mark Colon ∷ rule type ∷ []

abbrev pub an_arm : List PlainSymbol
an_arm = rule field ∷ mark Tilde ∷ rule field ∷ mark Colon ∷ rule lens ∷ []

-- `STRING "=" STRING`
abbrev pub a_pair : List PlainSymbol
a_pair = a_string ∷ mark Equals ∷ a_string ∷ []

-- the contents of a part, any one of which may stand there
abbrev pub contents : PlainPart → List (List PlainSymbol)
contents definitions =
    (word words.Type ∷ a_name ∷ mark Equals ∷ rule type ∷ mark Semicolon ∷ [])
    ∷ (word words.Lens ∷ a_name ∷ mark Equals ∷ rule lens ∷ mark Semicolon ∷ [])
    ∷ []
contents other_members = (mark Comma ∷ a_string ∷ []) ∷ []
contents other_pairs = (mark Comma ∷ a_pair) ∷ []
contents declared_number = (mark Equals ∷ a_number ∷ []) ∷ []
contents declared_string = (mark Equals ∷ a_string ∷ []) ∷ []
contents fields = (a_field ++ repeated other_fields ∷ []) ∷ []
contents other_fields = (mark Comma ∷ a_field) ∷ []
contents rows = (rule row ∷ repeated other_rows ∷ []) ∷ []
contents other_rows = (mark Comma ∷ rule row ∷ []) ∷ []
contents other_arms = (mark Comma ∷ an_arm) ∷ []

-- the alternatives of a rule
abbrev pub alternatives : PlainRule → List (List PlainSymbol)
alternatives program = (repeated definitions ∷ word words.Main ∷ rule lens ∷ []) ∷ []
alternatives field = (a_name ∷ []) ∷ (a_string ∷ []) ∷ []
alternatives type =
    (word words.Unit ∷ [])
    ∷ (word words.Bool ∷ [])
    ∷ (word words.Int ∷ perhaps declared_number ∷ [])
    ∷ (word words.Text ∷ perhaps declared_string ∷ [])
    ∷ (word words.Enum ∷ mark OpenBracket ∷ a_string ∷ repeated other_members ∷ mark CloseBracket
    ∷ perhaps declared_string ∷ [])
    ∷ (mark OpenBrace ∷ perhaps fields ∷ mark CloseBrace ∷ [])
    ∷ (mark Less ∷ a_field ++ repeated other_fields ∷ mark Greater ∷ [])
    ∷ (word words.List ∷ rule type ∷ [])
    ∷ (word words.Keyed ∷ rule type ∷ [])
    ∷ (word words.Tree ∷ rule type ∷ [])
    ∷ (a_name ∷ [])
    ∷ []
alternatives lens =
    (word words.Id ∷ rule type ∷ [])
    ∷ (word words.Disc ∷ rule type ∷ rule type ∷ [])
    ∷ (word words.Bij ∷ mark OpenBracket ∷ a_pair ++ repeated other_pairs ∷ mark CloseBracket ∷ perhaps declared_string
    ∷ [])
    ∷ (word words.Then ∷ mark OpenParen ∷ rule lens ∷ mark Comma ∷ rule lens ∷ mark CloseParen ∷ [])
    ∷ (mark OpenBrace ∷ perhaps rows ∷ mark CloseBrace ∷ [])
    ∷ (mark Less ∷ an_arm ++ repeated other_arms ∷ mark Greater ∷ [])
    ∷ (word words.Each ∷ rule lens ∷ [])
    ∷ (word words.Keyed ∷ rule lens ∷ [])
    ∷ (word words.Tree ∷ rule lens ∷ [])
    ∷ (word words.Part ∷ mark Less ∷ a_field ++ repeated other_fields ∷ mark Greater ∷ [])
    ∷ (word words.Inv ∷ rule lens ∷ [])
    ∷ (a_name ∷ [])
    ∷ []
alternatives row =
    an_arm
    ∷ (word words.Left ∷ a_field)
    ∷ (word words.Right ∷ a_field)
    ∷ []

-- a program followed by the end
abbrev pub plain_program_and_end : List PlainSymbol
plain_program_and_end = rule program ∷ the_end ∷ []

-- ---- prefixes

-- The tokens are a prefix of something that the symbols derive. Only what a token needs is replaced.
pub data IsPlainPrefix : List PlainSymbol → List Token → Type 0 where
  no_tokens : (s : List PlainSymbol) → IsPlainPrefix s []
  mark_first : (m : Mark) (s : List PlainSymbol) (ts : List Token) → IsPlainPrefix s ts
      → IsPlainPrefix (mark m ∷ s) (tokens.Mark m ∷ ts)
  word_first : (k : Keyword) (s : List PlainSymbol) (ts : List Token) → IsPlainPrefix s ts
      → IsPlainPrefix (word k ∷ s) (tokens.Keyword k ∷ ts)
  name_first : (n : List ℕ) (s : List PlainSymbol) (ts : List Token) → IsPlainPrefix s ts
      → IsPlainPrefix (a_name ∷ s) (tokens.Name n ∷ ts)
  string_first : (n : List ℕ) (s : List PlainSymbol) (ts : List Token) → IsPlainPrefix s ts
      → IsPlainPrefix (a_string ∷ s) (tokens.Text n ∷ ts)
  number_first : (z : ℤ) (s : List PlainSymbol) (ts : List Token) → IsPlainPrefix s ts
      → IsPlainPrefix (a_number ∷ s) (tokens.Number z ∷ ts)
  end_first : (s : List PlainSymbol) (ts : List Token) → IsPlainPrefix s ts
      → IsPlainPrefix (the_end ∷ s) (tokens.End ∷ ts)
  rule_replaced : (r : PlainRule) (a : List PlainSymbol) (s : List PlainSymbol) (t : Token) (ts : List Token)
      → IsAmong a (alternatives r) → IsPlainPrefix (a ++ s) (t ∷ ts) → IsPlainPrefix (rule r ∷ s) (t ∷ ts)
  option_present : (p : PlainPart) (a : List PlainSymbol) (s : List PlainSymbol) (t : Token) (ts : List Token)
      → IsAmong a (contents p) → IsPlainPrefix (a ++ s) (t ∷ ts) → IsPlainPrefix (perhaps p ∷ s) (t ∷ ts)
  option_absent : (p : PlainPart) (s : List PlainSymbol) (t : Token) (ts : List Token) → IsPlainPrefix s (t ∷ ts)
      → IsPlainPrefix (perhaps p ∷ s) (t ∷ ts)
  repeated_once_more : (p : PlainPart) (a : List PlainSymbol) (s : List PlainSymbol) (t : Token) (ts : List Token)
      → IsAmong a (contents p) → IsPlainPrefix (a ++ (repeated p ∷ s)) (t ∷ ts)
      → IsPlainPrefix (repeated p ∷ s) (t ∷ ts)
  repeated_no_more : (p : PlainPart) (s : List PlainSymbol) (t : Token) (ts : List Token) → IsPlainPrefix s (t ∷ ts)
      → IsPlainPrefix (repeated p ∷ s) (t ∷ ts)

-- ---- nesting

-- how many types and lenses the symbols of a rule's alternative are inside, where the rule is inside n
abbrev pub inside_rule : PlainRule → ℕ → ℕ
inside_rule program n = 0
inside_rule field n = n
inside_rule type n = suc n
inside_rule lens n = suc n
inside_rule row n = n

-- the same of a part; what a program defines is inside nothing
abbrev pub inside_part : PlainPart → ℕ → ℕ
inside_part definitions n = 0
inside_part other_members n = n
inside_part other_pairs n = n
inside_part declared_number n = n
inside_part declared_string n = n
inside_part fields n = n
inside_part other_fields n = n
inside_part rows n = n
inside_part other_rows n = n
inside_part other_arms n = n

-- A list of depths says of each symbol how many types and lenses it is inside: 0 for those that the list does not
-- reach.
abbrev pub first_depth : List ℕ → ℕ
first_depth [] = 0
first_depth (n ∷ ns) = n

abbrev pub other_depths : List ℕ → List ℕ
other_depths [] = []
other_depths (n ∷ ns) = ns

-- these symbols, all inside n, before others
abbrev pub depths_before : ℕ → List PlainSymbol → List ℕ → List ℕ
depths_before n [] ns = ns
depths_before n (x ∷ a) ns = n ∷ depths_before n a ns

-- a type or a lens is inside fewer than `most` others
abbrev pub IsAllowed : ℕ → PlainRule → ℕ → Type 0
IsAllowed most program n = Unit {0}
IsAllowed most field n = Unit {0}
IsAllowed most type n = n < most
IsAllowed most lens n = n < most
IsAllowed most row n = Unit {0}

-- Each type and each lens that begins at one of the tokens is inside fewer than `most` others.
abbrev pub IsNestedBelow : ℕ → List ℕ → {s : List PlainSymbol} {ts : List Token} → IsPlainPrefix s ts → Type 0
IsNestedBelow most ns (no_tokens s) = Unit {0}
IsNestedBelow most ns (mark_first m s ts h) = IsNestedBelow most (other_depths ns) h
IsNestedBelow most ns (word_first k s ts h) = IsNestedBelow most (other_depths ns) h
IsNestedBelow most ns (name_first n s ts h) = IsNestedBelow most (other_depths ns) h
IsNestedBelow most ns (string_first n s ts h) = IsNestedBelow most (other_depths ns) h
IsNestedBelow most ns (number_first z s ts h) = IsNestedBelow most (other_depths ns) h
IsNestedBelow most ns (end_first s ts h) = IsNestedBelow most (other_depths ns) h
IsNestedBelow most ns (rule_replaced r a s t ts k h) = IsAllowed most r (first_depth ns)
    × IsNestedBelow most (depths_before (inside_rule r (first_depth ns)) a (other_depths ns)) h
IsNestedBelow most ns (option_present p a s t ts k h) =
    IsNestedBelow most (depths_before (inside_part p (first_depth ns)) a (other_depths ns)) h
IsNestedBelow most ns (option_absent p s t ts h) = IsNestedBelow most (other_depths ns) h
IsNestedBelow most ns (repeated_once_more p a s t ts k h) =
    IsNestedBelow most (depths_before (inside_part p (first_depth ns)) a (first_depth ns ∷ other_depths ns)) h
IsNestedBelow most ns (repeated_no_more p s t ts h) = IsNestedBelow most (other_depths ns) h
