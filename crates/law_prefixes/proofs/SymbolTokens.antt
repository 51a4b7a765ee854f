-- The token that a symbol takes.
use Rattle.std.proofs.Common.{◌≡◌, ℕ, Bool, true, false, cond, List, [], ◌∷◌, get_or, Option, Some, None, refl, sym, ap, ◌∙◌, eqb}
use Rattle.std.proofs.lemmas.Bool.{eqb-true}
use lib.IntN.{ℤ}
use Rattle.program_tokens.specs.declared.keyword.Keyword.{Keyword}
use Rattle.program_tokens.specs.declared.keyword.Keyword.TheVariants as words
use Rattle.program_tokens.specs.declared.token.Token.{Token}
use Rattle.program_tokens.specs.declared.token.Token.TheVariants as tokens
use Rattle.program_grammar.specs.Grammar.{Symbol}
use Rattle.program_grammar.specs.Reading.{is_end}
use Rattle.law_prefixes.proofs.Machine.{is_name, is_string, is_number, is_word, code}
use Rattle.std.proofs.lemmas.Option.{same_Some}

abbrev pub absent : Option (List Symbol)
absent = None

pub nothing_there : (q : List Symbol) → absent ≡ Some q → ⊥
nothing_there q e = absurd cc

-- a keyword is known by its number

abbrev in_order : List Keyword
in_order = words.Type ∷ words.Lens ∷ words.Main ∷ words.Unit ∷ words.Bool ∷ words.Int ∷ words.Text ∷ words.Enum ∷ words.List ∷ words.Keyed ∷ words.Tree ∷ words.Id ∷ words.Bij ∷ words.Disc ∷ words.Then ∷ words.Left ∷ words.Right ∷ words.Each ∷ words.Part ∷ words.Inv ∷ []

word_at_code : (k : Keyword) → get_or in_order (code k) words.Type ≡ k
word_at_code words.Type = refl
word_at_code words.Lens = refl
word_at_code words.Main = refl
word_at_code words.Unit = refl
word_at_code words.Bool = refl
word_at_code words.Int = refl
word_at_code words.Text = refl
word_at_code words.Enum = refl
word_at_code words.List = refl
word_at_code words.Keyed = refl
word_at_code words.Tree = refl
word_at_code words.Id = refl
word_at_code words.Bij = refl
word_at_code words.Disc = refl
word_at_code words.Then = refl
word_at_code words.Left = refl
word_at_code words.Right = refl
word_at_code words.Each = refl
word_at_code words.Part = refl
word_at_code words.Inv = refl

code_word : (k j : Keyword) → eqb (code j) (code k) ≡ true → j ≡ k
code_word k j e = sym (word_at_code j) ∙ ap (λ n. get_or in_order n words.Type) (eqb-true (code j) (code k) e) ∙ word_at_code k

pub word_is : (k : Keyword) (t : Token) → is_word k t ≡ true → t ≡ tokens.Keyword k
word_is k (tokens.Keyword j) e = ap tokens.Keyword (code_word k j e)
word_is k (tokens.Mark c) e = absurd cc
word_is k (tokens.Name c) e = absurd cc
word_is k (tokens.Text c) e = absurd cc
word_is k (tokens.Number z) e = absurd cc
word_is k tokens.Bad e = absurd cc
word_is k tokens.End e = absurd cc

pub chosen : (b : Bool) (s q : List Symbol) → cond b (Some s) None ≡ Some q → (b ≡ true) × (s ≡ q)
chosen true s q e = (refl, same_Some s q e)
chosen false s q e = absurd (nothing_there q e)

pub name_is : (t : Token) → is_name t ≡ true → (n : List ℕ) × (t ≡ tokens.Name n)
name_is (tokens.Name n) e = (n, refl)
name_is (tokens.Keyword j) e = absurd cc
name_is (tokens.Mark c) e = absurd cc
name_is (tokens.Text c) e = absurd cc
name_is (tokens.Number z) e = absurd cc
name_is tokens.Bad e = absurd cc
name_is tokens.End e = absurd cc

pub string_is : (t : Token) → is_string t ≡ true → (n : List ℕ) × (t ≡ tokens.Text n)
string_is (tokens.Text n) e = (n, refl)
string_is (tokens.Keyword j) e = absurd cc
string_is (tokens.Mark c) e = absurd cc
string_is (tokens.Name c) e = absurd cc
string_is (tokens.Number z) e = absurd cc
string_is tokens.Bad e = absurd cc
string_is tokens.End e = absurd cc

pub number_is : (t : Token) → is_number t ≡ true → (z : ℤ) × (t ≡ tokens.Number z)
number_is (tokens.Number z) e = (z, refl)
number_is (tokens.Text n) e = absurd cc
number_is (tokens.Keyword j) e = absurd cc
number_is (tokens.Mark c) e = absurd cc
number_is (tokens.Name c) e = absurd cc
number_is tokens.Bad e = absurd cc
number_is tokens.End e = absurd cc

pub end_is : (t : Token) → is_end t ≡ true → t ≡ tokens.End
end_is tokens.End e = refl
end_is (tokens.Keyword j) e = absurd cc
end_is (tokens.Mark c) e = absurd cc
end_is (tokens.Name c) e = absurd cc
end_is (tokens.Text c) e = absurd cc
end_is (tokens.Number z) e = absurd cc
end_is tokens.Bad e = absurd cc
