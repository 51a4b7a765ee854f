-- Definitions are read if and only if they are spelled.
use Rattle.std.proofs.Common.{◌≡◌, ℕ, zero, suc, ◌-◌, List, [], ◌∷◌, length, drop, Option, Result, Ok, refl, sym, ap, subst, ◌∙◌, ◌⊎◌, inl, inr}
use Rattle.program_tokens.specs.Tokens.{placed}
use Rattle.program_tokens.specs.declared.keyword.Keyword.{Keyword}
use Rattle.program_tokens.specs.declared.keyword.Keyword.TheVariants as words
use Rattle.program_tokens.specs.declared.mark.Mark.TheVariants.{Equals, Semicolon}
use Rattle.program_tokens.specs.declared.token.Token.{Token}
use Rattle.program_tokens.specs.declared.token.Token.TheVariants as tokens
use Rattle.program_tokens.specs.declared.token.PlacedToken.{PlacedToken}
use Rattle.program_terms.specs.Terms.{DefTree, type_def, lens_def}
use Rattle.program_grammar.specs.Mentions.{Point, NotedDefinition}
use Rattle.program_grammar.specs.Reading.{Read, ◌>>=◌, token_value, type_at, lens_at, name_in, name_at, type_term_at, lens_term_at, definition_at, definitions_at}
use Rattle.program_grammar.specs.Spelling.{IsType, IsLens, IsStatement, IsDefinition, AreDefinitions}
use Rattle.program_grammar.proofs.ReadingResults.{done, ok_is, bind_ok}
use Rattle.program_grammar.proofs.RestOfTokens.{same_tail, drop_to_rest, definitions_after}
use Rattle.law_spellings.proofs.ReadingSteps.{ComesBefore, onward, is_ahead, NoEquals, Exact, read_first, made_of}
use Rattle.law_spellings.proofs.Marks.{mark_again, mark_first, other_mark}
use Rattle.law_spellings.proofs.Types.{type_exact}
use Rattle.law_spellings.proofs.Lenses.{lens_exact}

-- what a name is defined as, behind this word
abbrev IsTerm : Keyword → DefTree → Point → Point → Type 0
IsTerm k d here there = IsStatement d (tokens.Keyword k) here there

statement_ahead : (d : DefTree) (k : Token) (here there : Point) → IsStatement d k here there → ComesBefore here there
statement_ahead (type_def t) k here there h = (type_exact 100).moves t here there h.1
statement_ahead (lens_def l) k here there h = (lens_exact 100).moves l here there h.1

type_term_found : (here : Point) (x : DefTree × Point) → type_term_at here ≡ Ok x → IsTerm words.Type x.0 here x.1
unfolding type_term_at
type_term_found here x h = made_of (IsType 100) (type_at 100) (type_exact 100) (IsTerm words.Type) type_def here here x h (λ t there so. (refl, so))

type_term_again : (d : DefTree) (here there : Point) → IsTerm words.Type d here there → NoEquals there → type_term_at here ≡ Ok (d, there)
unfolding type_term_at
type_term_again (type_def t) here there h behind = rw ((type_exact 100).again t here there h.1 behind) refl
type_term_again (lens_def l) here there h behind = let e = h.0 in absurd cc

type_term_exact : Exact (IsTerm words.Type) NoEquals type_term_at
type_term_exact = record {
  moves = λ d here there h. statement_ahead d (tokens.Keyword words.Type) here there h;
  found = type_term_found;
  again = type_term_again;
}

lens_term_found : (here : Point) (x : DefTree × Point) → lens_term_at here ≡ Ok x → IsTerm words.Lens x.0 here x.1
unfolding lens_term_at
lens_term_found here x h = made_of (IsLens 100) (lens_at 100) (lens_exact 100) (IsTerm words.Lens) lens_def here here x h (λ l there so. (refl, so))

lens_term_again : (d : DefTree) (here there : Point) → IsTerm words.Lens d here there → NoEquals there → lens_term_at here ≡ Ok (d, there)
unfolding lens_term_at
lens_term_again (type_def t) here there h behind = let e = h.0 in absurd cc
lens_term_again (lens_def l) here there h behind = rw ((lens_exact 100).again l here there h.1 behind) refl

lens_term_exact : Exact (IsTerm words.Lens) NoEquals lens_term_at
lens_term_exact = record {
  moves = λ d here there h. statement_ahead d (tokens.Keyword words.Lens) here there h;
  found = lens_term_found;
  again = lens_term_again;
}

-- one definition

-- a name, and what follows from the steps after it
name_token : {B : Type 0} (k : Token) (at : ℕ) (ts : List PlacedToken) (f : (List ℕ × ℕ) × Point → Result B (Option ℕ)) (y : B) (G : Type 0) → (token_value (name_in k at) at [] ts >>= f) ≡ Ok y
    → ((s : List ℕ) (n : ℕ) (rest : List PlacedToken) → placed k at ∷ ts ≡ placed (tokens.Name s) n ∷ rest → f ((s, n), ([], rest)) ≡ Ok y → G) → G
name_token (tokens.Name s) at ts f y G h k = k s at ts refl h
name_token (tokens.Keyword w) at ts f y G h k = absurd cc
name_token (tokens.Mark m) at ts f y G h k = absurd cc
name_token (tokens.Text s) at ts f y G h k = absurd cc
name_token (tokens.Number z) at ts f y G h k = absurd cc
name_token tokens.Bad at ts f y G h k = absurd cc
name_token tokens.End at ts f y G h k = absurd cc

name_first : {B : Type 0} (ts : List PlacedToken) (f : (List ℕ × ℕ) × Point → Result B (Option ℕ)) (y : B) (G : Type 0) → (name_at ([], ts) >>= f) ≡ Ok y
    → ((s : List ℕ) (n : ℕ) (rest : List PlacedToken) → ts ≡ placed (tokens.Name s) n ∷ rest → f ((s, n), ([], rest)) ≡ Ok y → G) → G
unfolding name_at
name_first [] f y G h k = absurd cc
name_first (t ∷ ts) f y G h k = name_token t.token t.at ts f y G h k

definition_found : (k : Keyword) (term : Point → Read DefTree) → Exact (IsTerm k) NoEquals term → (at : ℕ) (ts : List PlacedToken) (x : NotedDefinition × List PlacedToken) → definition_at term ts ≡ Ok x
    → IsDefinition x.0 (placed (tokens.Keyword k) at ∷ ts) x.1
unfolding definition_at
definition_found k term e at ts x h =
    name_first ts _ x _ h (λ s n a begins h.
    mark_first Equals ([], a) _ x _ h (λ b equals h.
    read_first (IsTerm k) term e b _ x _ h (λ d stands h.
    mark_first Semicolon d.1 _ x _ h (λ c ends h.
    subst (λ (z : NotedDefinition × List PlacedToken). IsDefinition z.0 (placed (tokens.Keyword k) at ∷ ts) z.1) (ok_is (record { name = s; at = n; def = d.0; mentions = c.0 }, c.1) x h)
    (record {
      word = tokens.Keyword k;
      word_at = at;
      a = a;
      b = b;
      c = d.1;
      begins = ap (λ (r : List PlacedToken). placed (tokens.Keyword k) at ∷ r) begins;
      equals = equals;
      stands = stands;
      ends = ends;
    })))))

definition_again : (term : Point → Read DefTree) (d : NotedDefinition) (here there : List PlacedToken) (h : IsDefinition d here there) → term h.b ≡ Ok (d.def, h.c)
    → definition_at term (placed (tokens.Name d.name) d.at ∷ h.a) ≡ Ok (d, there)
unfolding definition_at name_at
definition_again term d here there h read = rw (mark_again Equals ([], h.a) h.b h.equals, read, mark_again Semicolon h.c (d.mentions, there) h.ends) refl

-- behind its first word a definition is ahead of what is behind it
definition_ahead : (d : NotedDefinition) (here there : List PlacedToken) (h : IsDefinition d here there) → ComesBefore ([], placed (tokens.Name d.name) d.at ∷ h.a) ([], there)
definition_ahead d here there h =
    let name : ComesBefore ([], placed (tokens.Name d.name) d.at ∷ h.a) ([], h.a) = record { rest = record { front = placed (tokens.Name d.name) d.at ∷ []; parts = refl } } in
    let last : ComesBefore (d.mentions, there) ([], there) = record { rest = record { front = []; parts = refl } } in
    onward name (onward (is_ahead h.equals) (onward (statement_ahead d.def h.word h.b h.c h.stands) (onward (is_ahead h.ends) last)))

-- definitions in written order

-- the definition with this term, and those behind it
abbrev with_definition : (Point → Read DefTree) → List PlacedToken → Result (List NotedDefinition × List PlacedToken) (Option ℕ)
with_definition term ts = definition_at term ts >>= λ d. definitions_at (length ts - length d.1) ts >>= λ ds. Ok (d.0 ∷ ds.0, ds.1)

abbrev Gathered : List PlacedToken → Type 0
Gathered ts = (skip : ℕ) (x : List NotedDefinition × List PlacedToken) → definitions_at skip ts ≡ Ok x → AreDefinitions x.0 (drop skip ts) x.1

gathered_as : (here : List PlacedToken) (y x : List NotedDefinition × List PlacedToken) → done y ≡ done x → AreDefinitions y.0 here y.1 → AreDefinitions x.0 here x.1
gathered_as here y x e h = subst (λ (z : List NotedDefinition × List PlacedToken). AreDefinitions z.0 here z.1) (ok_is y x e) h

with_found : (k : Keyword) (term : Point → Read DefTree) → Exact (IsTerm k) NoEquals term → (at : ℕ) (ts : List PlacedToken) → Gathered ts → (x : List NotedDefinition × List PlacedToken) → with_definition term ts ≡ Ok x
    → AreDefinitions x.0 (placed (tokens.Keyword k) at ∷ ts) x.1
with_found k term e at ts gathered x h =
    let a = bind_ok (definition_at term ts) (λ d. definitions_at (length ts - length d.1) ts >>= λ ds. Ok (d.0 ∷ ds.0, ds.1)) x h in
    let b = bind_ok (definitions_at (length ts - length a.0.1) ts) (λ ds. Ok (a.0.0 ∷ ds.0, ds.1)) x a.2 in
    let one = definition_found k term e at ts a.0 a.1 in
    let behind : ts ≡ placed (tokens.Name a.0.0.name) a.0.0.at ∷ one.a = same_tail _ _ _ _ one.begins in
    let ahead : ComesBefore ([], ts) ([], a.0.1) = subst (λ (r : List PlacedToken). ComesBefore ([], r) ([], a.0.1)) (sym behind) (definition_ahead a.0.0 (placed (tokens.Keyword k) at ∷ ts) a.0.1 one) in
    let others = gathered (length ts - length a.0.1) b.0 b.1 in
    gathered_as (placed (tokens.Keyword k) at ∷ ts) (a.0.0 ∷ b.0.0, b.0.1) x b.2
    (a.0.1, one, subst (λ (r : List PlacedToken). AreDefinitions b.0.0 r b.0.1) (drop_to_rest ts a.0.1 ahead.rest) others)

begun_found : (k : Token) (at : ℕ) (ts : List PlacedToken) → Gathered ts → (x : List NotedDefinition × List PlacedToken) → definitions_at 0 (placed k at ∷ ts) ≡ Ok x → AreDefinitions x.0 (placed k at ∷ ts) x.1
unfolding definitions_at
begun_found (tokens.Keyword words.Type) at ts gathered x h = with_found words.Type type_term_at type_term_exact at ts gathered x h
begun_found (tokens.Keyword words.Lens) at ts gathered x h = with_found words.Lens lens_term_at lens_term_exact at ts gathered x h
begun_found k at ts gathered x h = gathered_as (placed k at ∷ ts) ([], placed k at ∷ ts) x h refl

pub definitions_found : (ts : List PlacedToken) → Gathered ts
unfolding definitions_at
definitions_found [] zero x h = gathered_as [] ([], []) x h refl
definitions_found [] (suc skip) x h = gathered_as [] ([], []) x h refl
definitions_found (t ∷ ts) (suc skip) x h = definitions_found ts skip x h
definitions_found (t ∷ ts) zero x h = begun_found t.token t.at ts (definitions_found ts) x h

-- a definition that is spelled with its word comes first
with_again : (term : Point → Read DefTree) (d : NotedDefinition) (here there : List PlacedToken) (h : IsDefinition d here there) → term h.b ≡ Ok (d.def, h.c)
    → with_definition term (placed (tokens.Name d.name) d.at ∷ h.a) ≡ (definitions_at 0 there >>= λ ds. Ok (d ∷ ds.0, ds.1))
with_again term d here there h read =
    let ts = placed (tokens.Name d.name) d.at ∷ h.a in
    ap (λ (r : Result (NotedDefinition × List PlacedToken) (Option ℕ)). r >>= λ y. definitions_at (length ts - length y.1) ts >>= λ ds. done (y.0 ∷ ds.0, ds.1)) (definition_again term d here there h read)
    ∙ ap (λ (r : Result (List NotedDefinition × List PlacedToken) (Option ℕ)). r >>= λ ds. done (d ∷ ds.0, ds.1)) (definitions_after ts there (definition_ahead d here there h).rest)

type_word : (at : ℕ) (ts : List PlacedToken) → definitions_at 0 (placed (tokens.Keyword words.Type) at ∷ ts) ≡ with_definition type_term_at ts
unfolding definitions_at
type_word at ts = refl

lens_word : (at : ℕ) (ts : List PlacedToken) → definitions_at 0 (placed (tokens.Keyword words.Lens) at ∷ ts) ≡ with_definition lens_term_at ts
unfolding definitions_at
lens_word at ts = refl

-- the word of a statement, and that its term is read
abbrev Stated : DefTree → Token → Point → Point → Type 0
Stated d k here there = ((k ≡ tokens.Keyword words.Type) × (type_term_at here ≡ Ok (d, there))) ⊎ ((k ≡ tokens.Keyword words.Lens) × (lens_term_at here ≡ Ok (d, there)))

stated : (d : DefTree) (k : Token) (here there : Point) → IsStatement d k here there → NoEquals there → Stated d k here there
stated (type_def t) k here there h behind = inl (h.0, type_term_again (type_def t) here there (refl, h.1) behind)
stated (lens_def l) k here there h behind = inr (h.0, lens_term_again (lens_def l) here there (refl, h.1) behind)

first_again : (d : NotedDefinition) (here there : List PlacedToken) → IsDefinition d here there → definitions_at 0 here ≡ (definitions_at 0 there >>= λ ds. Ok (d ∷ ds.0, ds.1))
first_again d here there h =
    let ts = placed (tokens.Name d.name) d.at ∷ h.a in
    elim (stated d.def h.word h.b h.c h.stands (other_mark Equals Semicolon refl h.ends)) [
      | inl s ↦ ap (definitions_at 0) (h.begins ∙ ap (λ (k : Token). placed k h.word_at ∷ ts) s.0) ∙ type_word h.word_at ts ∙ with_again type_term_at d here there h s.1
      | inr s ↦ ap (definitions_at 0) (h.begins ∙ ap (λ (k : Token). placed k h.word_at ∷ ts) s.0) ∙ lens_word h.word_at ts ∙ with_again lens_term_at d here there h s.1
    ]

pub definitions_again : (ds : List NotedDefinition) (here there : List PlacedToken) → AreDefinitions ds here there → definitions_at 0 there ≡ Ok ([], there) → definitions_at 0 here ≡ Ok (ds, there)
definitions_again [] here there h ends = ap (definitions_at 0) h ∙ ends
definitions_again (d ∷ ds) here there h ends =
    first_again d here h.0 h.1 ∙ ap (λ (r : Result (List NotedDefinition × List PlacedToken) (Option ℕ)). r >>= λ ds. done (d ∷ ds.0, ds.1)) (definitions_again ds h.0 there h.2 ends)
