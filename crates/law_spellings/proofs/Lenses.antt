-- A lens is read if and only if it is spelled.
use Rattle.std.proofs.Common.{◌≡◌, ℕ, zero, suc, List, [], ◌∷◌, ◌++◌, Ok, refl, sym, ap, ◌∙◌}
use Rattle.program_tokens.specs.declared.keyword.Keyword.{Keyword}
use Rattle.program_tokens.specs.declared.keyword.Keyword.TheVariants as words
use Rattle.program_tokens.specs.declared.mark.Mark.{Mark}
use Rattle.program_tokens.specs.declared.mark.Mark.TheVariants.{Equals, OpenBrace, CloseBrace, Less, Greater, OpenBracket, CloseBracket, OpenParen, CloseParen, Comma}
use Rattle.program_tokens.specs.declared.mark.Mark.TheVariants as marks
use Rattle.program_tokens.specs.declared.token.Token.{Token}
use Rattle.program_tokens.specs.declared.token.Token.TheVariants as tokens
use Rattle.program_tokens.specs.declared.token.PlacedToken.{PlacedToken}
use Rattle.program_terms.specs.Terms.{TypeTree, term_fields_of, type_field_list, LensTree, id_of, bij_of, disc_of, then_of, rec_lens, alt_lens, each_of, keyed_each, tree_each, part_of, inv_of, named_lens, term_rows_of, row_list, term_arms_of, arm_list, initial_left}
use Rattle.program_grammar.specs.declared.mention.Mention.{Mention}
use Rattle.program_grammar.specs.declared.mention.Sort.TheVariants as sorts
use Rattle.program_terms.proofs.TreeLists.{term_fields_of-field_list, term_arms_of-arm_list, term_rows_of-row_list}
use Rattle.program_grammar.specs.Mentions.{Point, mention}
use Rattle.program_grammar.specs.Reading.{Read, ◌>>=◌, string_at, initial_at, typed_at, closed_at, perhaps_at, type_at, pair_at, bij_at, arm_at, row_at, then_at, disc_at, part_at, word_lens, rec_at, alt_at, mark_lens, begun_lens, lens_from, lens_step, lens_at}
use Rattle.program_grammar.specs.Spelling.{Is, IsTextPair, IsInitial, IsType, IsLens}
use Rattle.program_grammar.proofs.ReadingResults.{done}
use Rattle.law_spellings.proofs.ReadingSteps.{ComesBefore, onward, is_ahead, Anything, NoEquals, Exact, read_as, read_first, made_of}
use Rattle.law_spellings.proofs.Marks.{before, it_is, point_is, mention_ahead, mark_again, mark_first, other_mark}
use Rattle.law_spellings.proofs.Lists.{Closed, Perhaps}
use Rattle.law_spellings.proofs.Types.{Typed, listed_are_fields, fields_are_listed, fields_exact, type_exact, type_no_equals}
use Rattle.law_spellings.proofs.InitialValues.{initial_string_exact}
use Rattle.law_spellings.proofs.Rows.{listed_are_pairs, pairs_are_listed, pairs_exact, IsArm, listed_are_arms, arms_are_listed, arms_exact, IsRow, perhaps_are_rows, rows_are_perhaps, rows_exact}

-- the readers of what stands inside are exact
record Inside (n : ℕ) (type : Point → Read TypeTree) (inner : Point → Read LensTree) : Type 0 where
  types : Exact (IsType n) NoEquals type
  lenses : Exact (IsLens n) NoEquals inner

part_fields : (n : ℕ) (type : Point → Read TypeTree) → Exact (IsType n) NoEquals type → Exact (Closed (Typed (IsType n)) Greater) Anything (closed_at (typed_at type) Greater)
part_fields n type d = fields_exact n type Greater (refl, refl) d

-- what a lens spells is ahead of what is behind it
lens_moves : (n : ℕ) (type : Point → Read TypeTree) (inner : Point → Read LensTree) → Inside n type inner → (l : LensTree) (here there : Point) → IsLens (suc n) l here there → ComesBefore here there
lens_moves n type inner e (id_of t) here there h = onward (is_ahead h.1) (e.types.moves t h.0 there h.2)
lens_moves n type inner e (disc_of t u) here there h = onward (is_ahead h.2) (onward (e.types.moves t h.0 h.1 h.3) (e.types.moves u h.1 there h.4))
lens_moves n type inner e (bij_of ps m) here there h =
    onward (is_ahead h.4) (onward (is_ahead h.5) (onward (pairs_exact.moves ps h.1 h.3 (h.2, pairs_are_listed ps h.1 h.2 h.6, h.7)) ((initial_string_exact (initial_left ps)).moves m h.3 there h.8)))
lens_moves n type inner e (then_of l k) here there h =
    onward (is_ahead h.5) (onward (is_ahead h.6) (onward (e.lenses.moves l h.1 h.2 h.7) (onward (is_ahead h.8) (onward (e.lenses.moves k h.3 h.4 h.9) (is_ahead h.10)))))
lens_moves n type inner e (rec_lens rows) here there h =
    onward (is_ahead h.2) ((rows_exact n type inner e.types e.lenses).moves (row_list rows) h.0 there (rows_are_perhaps n rows h.0 there (h.1, h.3, h.4)))
lens_moves n type inner e (alt_lens arms) here there h =
    onward (is_ahead h.2) ((arms_exact n inner e.lenses).moves (arm_list arms) h.0 there (h.1, arms_are_listed n arms h.0 h.1 h.3, h.4))
lens_moves n type inner e (each_of l) here there h = onward (is_ahead h.1) (e.lenses.moves l h.0 there h.2)
lens_moves n type inner e (keyed_each l) here there h = onward (is_ahead h.1) (e.lenses.moves l h.0 there h.2)
lens_moves n type inner e (tree_each l) here there h = onward (is_ahead h.1) (e.lenses.moves l h.0 there h.2)
lens_moves n type inner e (part_of fs) here there h =
    onward (is_ahead h.3) (onward (is_ahead h.4) ((part_fields n type e.types).moves (type_field_list fs) h.1 there (h.2, fields_are_listed n fs h.1 h.2 h.5, h.6)))
lens_moves n type inner e (inv_of l) here there h = onward (is_ahead h.1) (e.lenses.moves l h.0 there h.2)
lens_moves n type inner e (named_lens s) here there h = mention_ahead h

-- what is read is spelled so

abbrev Begun : ℕ → Token → ℕ → (Point → Read LensTree) → Type 0
Begun n k at reader = (here : Point) (x : LensTree × Point) → reader here ≡ Ok x → IsLens (suc n) x.0 (before k at here) x.1

bij_found : (n at : ℕ) → Begun n (tokens.Keyword words.Bij) at bij_at
unfolding bij_at
bij_found n at here x h =
    mark_first OpenBracket here _ x _ h (λ a opens h.
    read_first (Closed IsTextPair CloseBracket) (closed_at pair_at CloseBracket) pairs_exact a _ x _ h (λ ps pairs h.
    made_of (IsInitial tokens.Text (initial_left ps.0)) (initial_at string_at (initial_left ps.0)) (initial_string_exact (initial_left ps.0)) (IsLens (suc n)) (bij_of ps.0) (before (tokens.Keyword words.Bij) at here) ps.1 x h (λ m there so.
    (here, a, pairs.0, ps.1, it_is (tokens.Keyword words.Bij) at here, opens, listed_are_pairs ps.0 a pairs.0 pairs.1, pairs.2, so))))

disc_found : (n : ℕ) (type : Point → Read TypeTree) → Exact (IsType n) NoEquals type → (at : ℕ) → Begun n (tokens.Keyword words.Disc) at (disc_at type)
unfolding disc_at
disc_found n type d at here x h =
    read_first (IsType n) type d here _ x _ h (λ t left h.
    made_of (IsType n) type d (IsLens (suc n)) (disc_of t.0) (before (tokens.Keyword words.Disc) at here) t.1 x h (λ u there right.
    (here, t.1, it_is (tokens.Keyword words.Disc) at here, left, right)))

then_found : (n : ℕ) (inner : Point → Read LensTree) → Exact (IsLens n) NoEquals inner → (at : ℕ) → Begun n (tokens.Keyword words.Then) at (then_at inner)
unfolding then_at
then_found n inner e at here x h =
    mark_first OpenParen here _ x _ h (λ b opens h.
    read_first (IsLens n) inner e b _ x _ h (λ l one h.
    mark_first Comma l.1 _ x _ h (λ d comma h.
    read_first (IsLens n) inner e d _ x _ h (λ k other h.
    mark_first CloseParen k.1 _ x _ h (λ there closes h.
    read_as (IsLens (suc n)) (before (tokens.Keyword words.Then) at here) (then_of l.0 k.0, there) x h
    (here, b, l.1, d, k.1, it_is (tokens.Keyword words.Then) at here, opens, one, comma, other, closes))))))

part_found : (n : ℕ) (type : Point → Read TypeTree) → Exact (IsType n) NoEquals type → (at : ℕ) → Begun n (tokens.Keyword words.Part) at (part_at type)
unfolding part_at
part_found n type d at here x h =
    mark_first Less here _ x _ h (λ a opens h.
    made_of (Closed (Typed (IsType n)) Greater) (closed_at (typed_at type) Greater) (part_fields n type d) (IsLens (suc n)) (λ fs. part_of (term_fields_of fs)) (before (tokens.Keyword words.Part) at here) a x h (λ fs there so.
    (here, a, so.0, it_is (tokens.Keyword words.Part) at here, opens, listed_are_fields n fs a so.0 so.1, so.2)))

-- a word and a lens
over_found : (n : ℕ) (inner : Point → Read LensTree) → Exact (IsLens n) NoEquals inner → (k : Keyword) (at : ℕ) (f : LensTree → LensTree)
    → ((l : LensTree) (here there : Point) → ((a : Point) × Is (tokens.Keyword k) here a × IsLens n l a there) → IsLens (suc n) (f l) here there)
    → Begun n (tokens.Keyword k) at (λ p. inner p >>= λ l. Ok (f l.0, l.1))
over_found n inner e k at f spelled here x h =
    made_of (IsLens n) inner e (IsLens (suc n)) f (before (tokens.Keyword k) at here) here x h (λ l there so. spelled l (before (tokens.Keyword k) at here) there (here, it_is (tokens.Keyword k) at here, so))

word_found : (n : ℕ) (type : Point → Read TypeTree) (inner : Point → Read LensTree) → Inside n type inner → (k : Keyword) (at : ℕ) → Begun n (tokens.Keyword k) at (word_lens type inner k at)
unfolding word_lens
word_found n type inner e words.Id at here x h =
    made_of (IsType n) type e.types (IsLens (suc n)) id_of (before (tokens.Keyword words.Id) at here) here x h (λ t there so. (here, it_is (tokens.Keyword words.Id) at here, so))
word_found n type inner e words.Bij at here x h = bij_found n at here x h
word_found n type inner e words.Disc at here x h = disc_found n type e.types at here x h
word_found n type inner e words.Then at here x h = then_found n inner e.lenses at here x h
word_found n type inner e words.Each at here x h = over_found n inner e.lenses words.Each at each_of (λ l a b so. so) here x h
word_found n type inner e words.Keyed at here x h = over_found n inner e.lenses words.Keyed at keyed_each (λ l a b so. so) here x h
word_found n type inner e words.Tree at here x h = over_found n inner e.lenses words.Tree at tree_each (λ l a b so. so) here x h
word_found n type inner e words.Part at here x h = part_found n type e.types at here x h
word_found n type inner e words.Inv at here x h = over_found n inner e.lenses words.Inv at inv_of (λ l a b so. so) here x h
word_found n type inner e _ at here x h = absurd cc

mark_lens_found : (n : ℕ) (type : Point → Read TypeTree) (inner : Point → Read LensTree) → Inside n type inner → (m : Mark) (at : ℕ) → Begun n (tokens.Mark m) at (mark_lens type inner m at)
unfolding mark_lens rec_at alt_at
mark_lens_found n type inner e marks.OpenBrace at here x h =
    made_of (Perhaps (IsRow n) CloseBrace) (perhaps_at (row_at type inner) CloseBrace) (rows_exact n type inner e.types e.lenses) (IsLens (suc n)) (λ rs. rec_lens (term_rows_of rs)) (before (tokens.Mark OpenBrace) at here) here x h (λ rs there so.
    let braced = perhaps_are_rows n rs here there so in
    (here, braced.0, it_is (tokens.Mark OpenBrace) at here, braced.1, braced.2))
mark_lens_found n type inner e marks.Less at here x h =
    made_of (Closed (IsArm n) Greater) (closed_at (arm_at inner) Greater) (arms_exact n inner e.lenses) (IsLens (suc n)) (λ xs. alt_lens (term_arms_of xs)) (before (tokens.Mark Less) at here) here x h (λ xs there so.
    (here, so.0, it_is (tokens.Mark Less) at here, listed_are_arms n xs here so.0 so.1, so.2))
mark_lens_found n type inner e _ at here x h = absurd cc

begun_found : (n : ℕ) (type : Point → Read TypeTree) (inner : Point → Read LensTree) → Inside n type inner → (k : Token) (at : ℕ) → Begun n k at (begun_lens type inner k at)
unfolding begun_lens
begun_found n type inner e (tokens.Keyword k) at here x h = word_found n type inner e k at here x h
begun_found n type inner e (tokens.Mark m) at here x h = mark_lens_found n type inner e m at here x h
begun_found n type inner e (tokens.Name s) at here x h =
    read_as (IsLens (suc n)) (before (tokens.Name s) at here) (named_lens s, (here.0 ++ mention sorts.Lens s at ∷ [], here.1)) x h (record { at = at; names = refl; parts = refl })
begun_found n type inner e (tokens.Text s) at here x h = absurd cc
begun_found n type inner e (tokens.Number z) at here x h = absurd cc
begun_found n type inner e tokens.Bad at here x h = absurd cc
begun_found n type inner e tokens.End at here x h = absurd cc

lens_from_found : (n : ℕ) (type : Point → Read TypeTree) (inner : Point → Read LensTree) → Inside n type inner → (ms : List Mention) (ts : List PlacedToken) (x : LensTree × Point) → lens_from type inner ms ts ≡ Ok x
    → IsLens (suc n) x.0 (ms, ts) x.1
lens_from_found n type inner e ms [] x h = absurd cc
lens_from_found n type inner e ms (t ∷ ts) x h = begun_found n type inner e t.token t.at (ms, ts) x h

-- what is spelled so is read

lens_again : (n : ℕ) (type : Point → Read TypeTree) (inner : Point → Read LensTree) → Inside n type inner → (l : LensTree) (here there : Point) → IsLens (suc n) l here there → NoEquals there → lens_step type inner here ≡ Ok (l, there)
unfolding lens_step begun_lens word_lens mark_lens bij_at disc_at then_at part_at rec_at alt_at
lens_again n type inner e (id_of t) here there h behind = ap (lens_step type inner) (point_is h.1) ∙ rw (e.types.again t h.0 there h.2 behind) refl
lens_again n type inner e (disc_of t u) here there h behind =
    ap (lens_step type inner) (point_is h.2) ∙ rw (e.types.again t h.0 h.1 h.3 (type_no_equals n u h.1 there h.4), e.types.again u h.1 there h.4 behind) refl
lens_again n type inner e (bij_of ps m) here there h behind =
    ap (lens_step type inner) (point_is h.4)
    ∙ rw (mark_again OpenBracket h.0 h.1 h.5, pairs_exact.again ps h.1 h.3 (h.2, pairs_are_listed ps h.1 h.2 h.6, h.7) tt, (initial_string_exact (initial_left ps)).again m h.3 there h.8 behind) refl
lens_again n type inner e (then_of l k) here there h behind =
    ap (lens_step type inner) (point_is h.5)
    ∙ rw (mark_again OpenParen h.0 h.1 h.6, e.lenses.again l h.1 h.2 h.7 (other_mark Equals Comma refl h.8), mark_again Comma h.2 h.3 h.8, e.lenses.again k h.3 h.4 h.9 (other_mark Equals CloseParen refl h.10), mark_again CloseParen h.4 there h.10) refl
lens_again n type inner e (rec_lens rows) here there h behind =
    ap (lens_step type inner) (point_is h.2) ∙ rw ((rows_exact n type inner e.types e.lenses).again (row_list rows) h.0 there (rows_are_perhaps n rows h.0 there (h.1, h.3, h.4)) tt, term_rows_of-row_list rows) refl
lens_again n type inner e (alt_lens arms) here there h behind =
    ap (lens_step type inner) (point_is h.2) ∙ rw ((arms_exact n inner e.lenses).again (arm_list arms) h.0 there (h.1, arms_are_listed n arms h.0 h.1 h.3, h.4) tt, term_arms_of-arm_list arms) refl
lens_again n type inner e (each_of l) here there h behind = ap (lens_step type inner) (point_is h.1) ∙ rw (e.lenses.again l h.0 there h.2 behind) refl
lens_again n type inner e (keyed_each l) here there h behind = ap (lens_step type inner) (point_is h.1) ∙ rw (e.lenses.again l h.0 there h.2 behind) refl
lens_again n type inner e (tree_each l) here there h behind = ap (lens_step type inner) (point_is h.1) ∙ rw (e.lenses.again l h.0 there h.2 behind) refl
lens_again n type inner e (part_of fs) here there h behind =
    ap (lens_step type inner) (point_is h.3)
    ∙ rw (mark_again Less h.0 h.1 h.4, (part_fields n type e.types).again (type_field_list fs) h.1 there (h.2, fields_are_listed n fs h.1 h.2 h.5, h.6) tt, term_fields_of-field_list fs) refl
lens_again n type inner e (inv_of l) here there h behind = ap (lens_step type inner) (point_is h.1) ∙ rw (e.lenses.again l h.0 there h.2 behind) refl
lens_again n type inner e (named_lens s) here there h behind =
    ap (λ (ts : List PlacedToken). lens_step type inner (here.0, ts)) h.parts ∙ ap (λ (ms : List Mention). done (named_lens s, (ms, there.1))) (sym h.names)

pub lens_exact : (room : ℕ) → Exact (IsLens room) NoEquals (lens_at room)
unfolding lens_at lens_step
lens_exact zero = record {
  moves = λ l here there h. absurd h;
  found = λ here x h. absurd cc;
  again = λ l here there h behind. absurd h;
}
lens_exact (suc room) =
    let e : Inside room (type_at room) (lens_at room) = record { types = type_exact room; lenses = lens_exact room } in
    record {
      moves = lens_moves room (type_at room) (lens_at room) e;
      found = λ here x h. lens_from_found room (type_at room) (lens_at room) e here.0 here.1 x h;
      again = lens_again room (type_at room) (lens_at room) e;
    }
