-- The bytes of words, of marks and of strings.
-- The main definitions are `keyword_of`, `mark_of` and, at the end, `is_name` and `is_text`.
use Rattle.std.specs.Prelude.{ℕ, Bool, false, ◌&&◌, ◌||◌, List, [], ◌∷◌, length, Option, is_none, ◌==◌, nat_le, not}
use Rattle.std.specs.Prelude.{bytes_eq, codes, find}
use Rattle.std.specs.List.{list_all}
use Rattle.std.specs.Str.{is_utf8, chars}
use Rattle.program_tokens.specs.Numbers.{is_digit}
use Rattle.program_tokens.specs.declared.keyword.Keyword.{Keyword}
use Rattle.program_tokens.specs.declared.keyword.Keyword.TheVariants as words
use Rattle.program_tokens.specs.declared.mark.Mark.{Mark}
use Rattle.program_tokens.specs.declared.mark.Mark.TheVariants.{Equals, Semicolon, OpenBrace, CloseBrace, Less}
use Rattle.program_tokens.specs.declared.mark.Mark.TheVariants.{Greater, OpenBracket, CloseBracket, OpenParen}
use Rattle.program_tokens.specs.declared.mark.Mark.TheVariants.{CloseParen, Colon, Comma, Tilde}

-- a space, a tab, CR or LF
unfoldable pub is_space : ℕ → Bool
is_space b = (b == 32) || (b == 9) || (b == 13) || (b == 10)

-- an ASCII letter or `_`
unfoldable pub begins_word : ℕ → Bool
begins_word b = (nat_le 65 b && nat_le b 90) || (nat_le 97 b && nat_le b 122) || (b == 95)

-- an ASCII letter, a digit or `_`
unfoldable pub in_word : ℕ → Bool
in_word b = begins_word b || is_digit b

-- how each keyword is written
abbrev pub keyword_text : Keyword → List ℕ
keyword_text words.Type = codes "type"
keyword_text words.Lens = codes "lens"
keyword_text words.Main = codes "main"
keyword_text words.Unit = codes "unit"
keyword_text words.Bool = codes "bool"
keyword_text words.Int = codes "int"
keyword_text words.Text = codes "text"
keyword_text words.Enum = codes "enum"
keyword_text words.List = codes "list"
keyword_text words.Keyed = codes "keyed"
keyword_text words.Tree = codes "tree"
keyword_text words.Id = codes "id"
keyword_text words.Bij = codes "bij"
keyword_text words.Disc = codes "disc"
keyword_text words.Then = codes "then"
keyword_text words.Left = codes "left"
keyword_text words.Right = codes "right"
keyword_text words.Each = codes "each"
keyword_text words.Part = codes "part"
keyword_text words.Inv = codes "inv"

abbrev pub all_keywords : List Keyword
all_keywords = words.Type ∷ words.Lens ∷ words.Main ∷ words.Unit ∷ words.Bool ∷ words.Int ∷ words.Text ∷ words.Enum
    ∷ words.List ∷ words.Keyed ∷ words.Tree ∷ words.Id ∷ words.Bij ∷ words.Disc ∷ words.Then ∷ words.Left ∷ words.Right
    ∷ words.Each ∷ words.Part ∷ words.Inv ∷ []

-- the keyword that is written so
unfoldable pub keyword_of : List ℕ → Option Keyword
keyword_of w = find (λ k. bytes_eq (keyword_text k) w) all_keywords

-- the byte of each mark
abbrev pub mark_byte : Mark → ℕ
mark_byte Equals = 61
mark_byte Semicolon = 59
mark_byte OpenBrace = 123
mark_byte CloseBrace = 125
mark_byte Less = 60
mark_byte Greater = 62
mark_byte OpenBracket = 91
mark_byte CloseBracket = 93
mark_byte OpenParen = 40
mark_byte CloseParen = 41
mark_byte Colon = 58
mark_byte Comma = 44
mark_byte Tilde = 126

abbrev pub all_marks : List Mark
all_marks = Equals ∷ Semicolon ∷ OpenBrace ∷ CloseBrace ∷ Less ∷ Greater ∷ OpenBracket ∷ CloseBracket ∷ OpenParen
    ∷ CloseParen ∷ Colon ∷ Comma ∷ Tilde ∷ []

-- the mark of this byte
unfoldable pub mark_of : ℕ → Option Mark
mark_of b = find (λ m. b == mark_byte m) all_marks

-- letters, digits and `_`, of which the first is not a digit
unfoldable pub is_word : List ℕ → Bool
is_word [] = false
is_word (b ∷ bs) = begins_word b && list_all in_word bs

-- a word of 1 to 64 bytes that is not a keyword
unfoldable pub is_name : List ℕ → Bool
is_name w = is_word w && nat_le (length w) 64 && is_none (keyword_of w)

-- a character that a string may hold: from U+0020 up, neither `"` nor `\`
unfoldable pub in_text : ℕ → Bool
in_text c = nat_le 32 c && not (c == 34) && not (c == 92)

-- what a string may hold: 1 to 64 such characters in valid UTF-8
unfoldable pub is_text : List ℕ → Bool
is_text s = is_utf8 s && nat_le 1 (length (chars s)) && nat_le (length (chars s)) 64 && list_all in_text (chars s)
