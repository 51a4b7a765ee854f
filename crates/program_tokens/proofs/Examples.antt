-- The definitions at work on small texts.
use Rattle.std.proofs.Common.{◌≡◌, [], ◌∷◌, true, false, refl}
use Rattle.std.specs.Prelude.{codes}
use Rattle.std.specs.Str.{is_utf8, chars}
use lib.Utf8.{encode}
use lib.IntN.{pos, negsuc}
use Rattle.program_tokens.specs.Numbers.{number_of}
use Rattle.program_tokens.specs.Words.{is_space, begins_word, in_word, keyword_of, mark_of, is_word, is_name, in_text, is_text}
use Rattle.program_tokens.specs.Tokens.{tokens_of, tokens_from, piece_of, placed}
use Rattle.program_tokens.specs.declared.keyword.Keyword.TheVariants as words
use Rattle.program_tokens.specs.declared.mark.Mark.TheVariants as marks
use Rattle.program_tokens.specs.declared.token.Token.TheVariants as tokens

-- an empty text has its end alone
empty : tokens_of [] ≡ placed tokens.End 0 ∷ []
unfolding tokens_from
empty = refl

two_keywords : tokens_of (codes "main id") ≡ placed (tokens.Keyword words.Main) 0 ∷ placed (tokens.Keyword words.Id) 5 ∷ placed tokens.End 7 ∷ []
unfolding tokens_from piece_of is_space begins_word in_word keyword_of
two_keywords = refl

-- a word is as long as it can be
longest_word : tokens_of (codes "ids:x") ≡ placed (tokens.Name (codes "ids")) 0 ∷ placed (tokens.Mark marks.Colon) 3 ∷ placed (tokens.Name (codes "x")) 4 ∷ placed tokens.End 5 ∷ []
unfolding tokens_from piece_of is_space begins_word in_word keyword_of mark_of
longest_word = refl

-- a comment goes to the LF, or to the end
comments : tokens_of (97 ∷ 35 ∷ 98 ∷ 10 ∷ 99 ∷ 35 ∷ []) ≡ placed (tokens.Name (codes "a")) 0 ∷ placed (tokens.Name (codes "c")) 4 ∷ placed tokens.End 6 ∷ []
unfolding tokens_from piece_of is_space begins_word in_word keyword_of
comments = refl

-- a `#` inside a string begins no comment
held_sign : tokens_of (34 ∷ 35 ∷ 34 ∷ []) ≡ placed (tokens.Text (codes "#")) 0 ∷ placed tokens.End 3 ∷ []
unfolding tokens_from piece_of is_space begins_word is_text in_text is_utf8 chars encode
held_sign = refl

-- a string that is not closed, and one that is empty, are bad where they begin, and nothing follows
not_closed : tokens_of (97 ∷ 34 ∷ 98 ∷ 32 ∷ []) ≡ placed (tokens.Name (codes "a")) 0 ∷ placed tokens.Bad 1 ∷ []
unfolding tokens_from piece_of is_space begins_word in_word keyword_of
not_closed = refl

no_text : tokens_of (34 ∷ 34 ∷ 97 ∷ []) ≡ placed tokens.Bad 0 ∷ []
unfolding tokens_from piece_of is_space begins_word is_text is_utf8 chars
no_text = refl

-- a number has at most 19 digits, and its value is in i64
numbers : tokens_of (codes "-5 007 -0") ≡ placed (tokens.Number (negsuc 4)) 0 ∷ placed (tokens.Number (pos 7)) 3 ∷ placed (tokens.Number (pos 0)) 7 ∷ placed tokens.End 9 ∷ []
unfolding tokens_from piece_of is_space begins_word number_of
numbers = refl

most : tokens_of (codes "9223372036854775807") ≡ placed (tokens.Number (pos 9223372036854775807)) 0 ∷ placed tokens.End 19 ∷ []
unfolding tokens_from piece_of is_space begins_word number_of
most = refl

least : tokens_of (codes "-9223372036854775808") ≡ placed (tokens.Number (negsuc 9223372036854775807)) 0 ∷ placed tokens.End 20 ∷ []
unfolding tokens_from piece_of is_space begins_word number_of
least = refl

past_most : tokens_of (codes "9223372036854775808") ≡ placed tokens.Bad 0 ∷ []
unfolding tokens_from piece_of is_space begins_word number_of
past_most = refl

past_least : tokens_of (codes "-9223372036854775809") ≡ placed tokens.Bad 0 ∷ []
unfolding tokens_from piece_of is_space begins_word number_of
past_least = refl

twenty_digits : tokens_of (codes "00000000000000000005") ≡ placed tokens.Bad 0 ∷ []
unfolding tokens_from piece_of is_space begins_word number_of
twenty_digits = refl

-- a `-` stands directly before its digits, and a number ends before a word
lone_minus : tokens_of (codes "- 5") ≡ placed tokens.Bad 0 ∷ []
unfolding tokens_from piece_of is_space begins_word number_of
lone_minus = refl

then_word : tokens_of (codes "5a a5") ≡ placed (tokens.Number (pos 5)) 0 ∷ placed (tokens.Name (codes "a")) 1 ∷ placed (tokens.Name (codes "a5")) 3 ∷ placed tokens.End 5 ∷ []
unfolding tokens_from piece_of is_space begins_word in_word keyword_of number_of
then_word = refl

-- a backslash stands in no string, and a letter that is not ASCII begins nothing
backslash : is_text (codes "a\\b") ≡ false
unfolding is_text in_text is_utf8 chars encode
backslash = refl

accented : tokens_of (195 ∷ 169 ∷ []) ≡ placed tokens.Bad 0 ∷ []
unfolding tokens_from piece_of is_space begins_word mark_of
accented = refl

-- but a string may hold it
accented_text : is_text (195 ∷ 169 ∷ []) ≡ true
unfolding is_text in_text is_utf8 chars encode
accented_text = refl

keyword_no_name : is_name (codes "part") ≡ false
unfolding is_name is_word begins_word in_word keyword_of
keyword_no_name = refl

other_name : is_name (codes "Part") ≡ true
unfolding is_name is_word begins_word in_word keyword_of
other_name = refl
