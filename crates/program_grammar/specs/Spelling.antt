-- How programs are spelled: which tokens of a text, from one point to another, are those of a type, of a lens, of a
-- program. Read it from the end: `IsProgram`, then `IsDefinition`, `IsLens` and `IsType`.
use Rattle.std.specs.Prelude.{◌≡◌, ℕ, zero, suc, List, [], ◌∷◌, ◌++◌, ◌⊎◌}
use Rattle.program_tokens.specs.declared.keyword.Keyword.TheVariants as words
use Rattle.program_tokens.specs.declared.mark.Mark.TheVariants.{Equals, Semicolon, OpenBrace, CloseBrace, Less}
use Rattle.program_tokens.specs.declared.mark.Mark.TheVariants.{Greater, OpenBracket, CloseBracket, OpenParen}
use Rattle.program_tokens.specs.declared.mark.Mark.TheVariants.{CloseParen, Colon, Comma, Tilde}
use Rattle.program_tokens.specs.declared.token.Token.{Token}
use Rattle.program_tokens.specs.declared.token.Token.TheVariants.{Keyword, Name, Text, Number, Mark, End}
use Rattle.program_tokens.specs.declared.token.PlacedToken.{PlacedToken}
use Rattle.program_tokens.specs.Tokens.{placed}
use Rattle.program_terms.specs.Terms.{TypeTree, TermFields, unit, bool, int, text, enum_of, record_of, one_of, list}
use Rattle.program_terms.specs.Terms.{keyed, tree, named, no_fields, more_fields, LensTree, id_of, bij_of, disc_of}
use Rattle.program_terms.specs.Terms.{then_of, rec_lens, alt_lens, each_of, keyed_each, tree_each, part_of, inv_of}
use Rattle.program_terms.specs.Terms.{named_lens, TermRows, no_rows, both, only_left, only_right, TermArms, no_arms}
use Rattle.program_terms.specs.Terms.{more_arms, DefTree, type_def, lens_def, initial_number, initial_text}
use Rattle.program_terms.specs.Terms.{initial_member, initial_left}
use Rattle.program_grammar.specs.declared.mention.Sort.{Sort}
use Rattle.program_grammar.specs.declared.mention.Sort.TheVariants as sorts
use Rattle.program_grammar.specs.Mentions.{Point, mention, NotedDefinition, NotedProgram}

-- one token, which mentions nothing
pub record Is (k : Token) (here there : Point) : Type 0 where
  pub at : ℕ
  pub names : there.0 ≡ here.0
  pub parts : here.1 ≡ placed k at ∷ there.1

-- a name that stands for a definition of this sort
pub record IsMention (sort : Sort) (name : List ℕ) (here there : Point) : Type 0 where
  pub at : ℕ
  pub names : there.0 ≡ here.0 ++ mention sort name at ∷ []
  pub parts : here.1 ≡ placed (Name name) at ∷ there.1

-- a field or a tag, as a name or as a string
abbrev pub IsField : List ℕ → Point → Point → Type 0
IsField f here there = Is (Name f) here there ⊎ Is (Text f) here there

-- strings behind commas, and strings with commas between them
abbrev pub OtherStrings : List (List ℕ) → Point → Point → Type 0
OtherStrings [] here there = here ≡ there
OtherStrings (m ∷ ms) here there = (a b : Point) × Is (Mark Comma) here a × Is (Text m) a b × OtherStrings ms b there

abbrev pub AreStrings : List (List ℕ) → Point → Point → Type 0
AreStrings [] here there = ⊥
AreStrings (m ∷ ms) here there = (a : Point) × Is (Text m) here a × OtherStrings ms a there

-- a pair of strings; pairs behind commas, and pairs with commas between them
abbrev pub IsTextPair : List ℕ × List ℕ → Point → Point → Type 0
IsTextPair p here there = (a b : Point) × Is (Text p.0) here a × Is (Mark Equals) a b × Is (Text p.1) b there

abbrev pub OtherPairs : List (List ℕ × List ℕ) → Point → Point → Type 0
OtherPairs [] here there = here ≡ there
OtherPairs (p ∷ ps) here there = (a b : Point) × Is (Mark Comma) here a × IsTextPair p a b × OtherPairs ps b there

abbrev pub ArePairs : List (List ℕ × List ℕ) → Point → Point → Type 0
ArePairs [] here there = ⊥
ArePairs (p ∷ ps) here there = (a : Point) × IsTextPair p here a × OtherPairs ps a there

-- an initial value: left out, where it is the one that is then meant, or behind `=`
abbrev pub IsInitial : {A : Type 0} → (A → Token) → A → A → Point → Point → Type 0
IsInitial token left_out value here there =
    ((value ≡ left_out) × (here ≡ there)) ⊎ ((a : Point) × Is (Mark Equals) here a × Is (token value) a there)

-- a type with at most n types and lenses nested, itself among them
abbrev mutual
  pub IsType : ℕ → TypeTree → Point → Point → Type 0
  IsType zero t here there = ⊥
  IsType (suc n) unit here there = Is (Keyword words.Unit) here there
  IsType (suc n) bool here there = Is (Keyword words.Bool) here there
  IsType (suc n) (int z) here there = (a : Point) × Is (Keyword words.Int) here a
      × IsInitial Number initial_number z a there
  IsType (suc n) (text s) here there = (a : Point) × Is (Keyword words.Text) here a
      × IsInitial Text initial_text s a there
  IsType (suc n) (enum_of ms m) here there = (a b c d : Point) × Is (Keyword words.Enum) here a
      × Is (Mark OpenBracket) a b × AreStrings ms b c × Is (Mark CloseBracket) c d
      × IsInitial Text (initial_member ms) m d there
  IsType (suc n) (record_of fs) here there = (a b : Point) × Is (Mark OpenBrace) here a × PerhapsFields n fs a b
      × Is (Mark CloseBrace) b there
  IsType (suc n) (one_of fs) here there = (a b : Point) × Is (Mark Less) here a × AreFields n fs a b
      × Is (Mark Greater) b there
  IsType (suc n) (list t) here there = (a : Point) × Is (Keyword words.List) here a × IsType n t a there
  IsType (suc n) (keyed t) here there = (a : Point) × Is (Keyword words.Keyed) here a × IsType n t a there
  IsType (suc n) (tree t) here there = (a : Point) × Is (Keyword words.Tree) here a × IsType n t a there
  IsType (suc n) (named s) here there = IsMention sorts.Type s here there

  pub PerhapsFields : ℕ → TermFields → Point → Point → Type 0
  PerhapsFields n no_fields here there = here ≡ there
  PerhapsFields n (more_fields f t fs) here there = (a b c : Point) × IsField f here a × Is (Mark Colon) a b
      × IsType n t b c × OtherFields n fs c there

  pub AreFields : ℕ → TermFields → Point → Point → Type 0
  AreFields n no_fields here there = ⊥
  AreFields n (more_fields f t fs) here there = (a b c : Point) × IsField f here a × Is (Mark Colon) a b
      × IsType n t b c × OtherFields n fs c there

  pub OtherFields : ℕ → TermFields → Point → Point → Type 0
  OtherFields n no_fields here there = here ≡ there
  OtherFields n (more_fields f t fs) here there = (a b c d : Point) × Is (Mark Comma) here a × IsField f a b
      × Is (Mark Colon) b c × IsType n t c d × OtherFields n fs d there

-- a lens with at most n types and lenses nested, itself among them
abbrev mutual
  pub IsLens : ℕ → LensTree → Point → Point → Type 0
  IsLens zero l here there = ⊥
  IsLens (suc n) (id_of t) here there = (a : Point) × Is (Keyword words.Id) here a × IsType n t a there
  IsLens (suc n) (disc_of t u) here there = (a b : Point) × Is (Keyword words.Disc) here a × IsType n t a b
      × IsType n u b there
  IsLens (suc n) (bij_of ps m) here there = (a b c d : Point) × Is (Keyword words.Bij) here a
      × Is (Mark OpenBracket) a b × ArePairs ps b c × Is (Mark CloseBracket) c d
      × IsInitial Text (initial_left ps) m d there
  IsLens (suc n) (then_of l k) here there = (a b c d e : Point) × Is (Keyword words.Then) here a
      × Is (Mark OpenParen) a b × IsLens n l b c × Is (Mark Comma) c d × IsLens n k d e × Is (Mark CloseParen) e there
  IsLens (suc n) (rec_lens rs) here there = (a b : Point) × Is (Mark OpenBrace) here a × PerhapsRows n rs a b
      × Is (Mark CloseBrace) b there
  IsLens (suc n) (alt_lens arms) here there = (a b : Point) × Is (Mark Less) here a × AreArms n arms a b
      × Is (Mark Greater) b there
  IsLens (suc n) (each_of l) here there = (a : Point) × Is (Keyword words.Each) here a × IsLens n l a there
  IsLens (suc n) (keyed_each l) here there = (a : Point) × Is (Keyword words.Keyed) here a × IsLens n l a there
  IsLens (suc n) (tree_each l) here there = (a : Point) × Is (Keyword words.Tree) here a × IsLens n l a there
  IsLens (suc n) (part_of fs) here there = (a b c : Point) × Is (Keyword words.Part) here a × Is (Mark Less) a b
      × AreFields n fs b c × Is (Mark Greater) c there
  IsLens (suc n) (inv_of l) here there = (a : Point) × Is (Keyword words.Inv) here a × IsLens n l a there
  IsLens (suc n) (named_lens s) here there = IsMention sorts.Lens s here there

  pub PerhapsRows : ℕ → TermRows → Point → Point → Type 0
  PerhapsRows n no_rows here there = here ≡ there
  PerhapsRows n (both f g l rs) here there = (a b c d e : Point) × IsField f here a × Is (Mark Tilde) a b
      × IsField g b c × Is (Mark Colon) c d × IsLens n l d e × OtherRows n rs e there
  PerhapsRows n (only_left f t rs) here there = (a b c d : Point) × Is (Keyword words.Left) here a × IsField f a b
      × Is (Mark Colon) b c × IsType n t c d × OtherRows n rs d there
  PerhapsRows n (only_right f t rs) here there = (a b c d : Point) × Is (Keyword words.Right) here a × IsField f a b
      × Is (Mark Colon) b c × IsType n t c d × OtherRows n rs d there

  pub OtherRows : ℕ → TermRows → Point → Point → Type 0
  OtherRows n no_rows here there = here ≡ there
  OtherRows n (both f g l rs) here there = (z a b c d e : Point) × Is (Mark Comma) here z × IsField f z a
      × Is (Mark Tilde) a b × IsField g b c × Is (Mark Colon) c d × IsLens n l d e × OtherRows n rs e there
  OtherRows n (only_left f t rs) here there = (z a b c d : Point) × Is (Mark Comma) here z × Is (Keyword words.Left) z a
      × IsField f a b × Is (Mark Colon) b c × IsType n t c d × OtherRows n rs d there
  OtherRows n (only_right f t rs) here there = (z a b c d : Point) × Is (Mark Comma) here z
      × Is (Keyword words.Right) z a × IsField f a b × Is (Mark Colon) b c × IsType n t c d × OtherRows n rs d there

  pub AreArms : ℕ → TermArms → Point → Point → Type 0
  AreArms n no_arms here there = ⊥
  AreArms n (more_arms f g l arms) here there = (a b c d e : Point) × IsField f here a × Is (Mark Tilde) a b
      × IsField g b c × Is (Mark Colon) c d × IsLens n l d e × OtherArms n arms e there

  pub OtherArms : ℕ → TermArms → Point → Point → Type 0
  OtherArms n no_arms here there = here ≡ there
  OtherArms n (more_arms f g l arms) here there = (z a b c d e : Point) × Is (Mark Comma) here z × IsField f z a
      × Is (Mark Tilde) a b × IsField g b c × Is (Mark Colon) c d × IsLens n l d e × OtherArms n arms e there

-- what a name is defined as, with the word before it
abbrev pub IsStatement : DefTree → Token → Point → Point → Type 0
IsStatement (type_def t) k here there = (k ≡ Keyword words.Type) × IsType 100 t here there
IsStatement (lens_def l) k here there = (k ≡ Keyword words.Lens) × IsLens 100 l here there

-- A definition: `type` or `lens`, its name, `=`, what it is defined as, `;`. Its mentions are those since it began.
pub record IsDefinition (d : NotedDefinition) (here there : List PlacedToken) : Type 0 where
  pub word : Token
  pub word_at : ℕ
  pub a : List PlacedToken
  pub b : Point
  pub c : Point
  pub begins : here ≡ placed word word_at ∷ placed (Name d.name) d.at ∷ a
  pub equals : Is (Mark Equals) ([], a) b
  pub stands : IsStatement d.def word b c
  pub ends : Is (Mark Semicolon) c (d.mentions, there)

-- definitions in written order
abbrev pub AreDefinitions : List NotedDefinition → List PlacedToken → List PlacedToken → Type 0
AreDefinitions [] here there = here ≡ there
AreDefinitions (d ∷ ds) here there = (a : List PlacedToken) × IsDefinition d here a × AreDefinitions ds a there

-- A program, with the end of the text behind it and nothing after that.
pub record IsProgram (p : NotedProgram) (ts : List PlacedToken) : Type 0 where
  pub a : List PlacedToken
  pub b : Point
  pub c : Point
  pub definitions : AreDefinitions p.definitions ts a
  pub main : Is (Keyword words.Main) ([], a) b
  pub lens : IsLens 100 p.main b c
  pub ends : Is End c (p.mentions, [])
