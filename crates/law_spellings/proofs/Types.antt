-- A type is read if and only if it is spelled.
use Rattle.std.proofs.Common.{◌≡◌, ℕ, zero, suc, List, [], ◌∷◌, ◌++◌, Ok, refl, sym, ap, subst, ◌∙◌}
use Rattle.program_tokens.specs.declared.keyword.Keyword.{Keyword}
use Rattle.program_tokens.specs.declared.keyword.Keyword.TheVariants as words
use Rattle.program_tokens.specs.declared.mark.Mark.{Mark}
use Rattle.program_tokens.specs.declared.mark.Mark.TheVariants.{Equals, OpenBrace, CloseBrace, Less, Greater, OpenBracket, CloseBracket, Colon}
use Rattle.program_tokens.specs.declared.mark.Mark.TheVariants as marks
use Rattle.program_tokens.specs.declared.token.Token.{Token}
use Rattle.program_tokens.specs.declared.token.Token.TheVariants as tokens
use Rattle.program_tokens.specs.declared.token.PlacedToken.{PlacedToken}
use Rattle.program_terms.specs.Terms.{TypeTree, TermFields, unit, bool, int, text, enum_of, record_of, one_of, list, keyed, tree, named, no_fields, more_fields, term_fields_of, type_field_list, initial_number, initial_text, initial_member}
use Rattle.program_grammar.specs.declared.mention.Mention.{Mention}
use Rattle.program_grammar.specs.declared.mention.Sort.TheVariants as sorts
use Rattle.program_terms.proofs.TreeLists.{term_fields_of-field_list}
use Rattle.program_grammar.specs.Mentions.{Point, mention}
use Rattle.program_grammar.specs.Reading.{Read, next_is, string_at, number_at, field_at, initial_at, typed_at, closed_at, perhaps_at, enum_at, record_at, one_of_at, word_type, mark_type, begun_type, type_from, type_step, type_at}
use Rattle.program_grammar.specs.Spelling.{Is, IsField, OtherStrings, AreStrings, IsInitial, IsType, PerhapsFields, AreFields, OtherFields}
use Rattle.program_grammar.proofs.ReadingResults.{done}
use Rattle.law_spellings.proofs.ReadingSteps.{ComesBefore, onward, is_ahead, Anything, NoEquals, Exact, but_equals, read_as, read_first, made_of}
use Rattle.law_spellings.proofs.Marks.{before, it_is, point_is, mention_ahead, mark_again, mark_first, IsText, string_exact, field_exact, field_again, field_no_mark}
use Rattle.law_spellings.proofs.Lists.{Others, Listed, Closed, Closes, Perhaps, closed_exact, perhaps_exact}
use Rattle.law_spellings.proofs.InitialValues.{initial_number_exact, initial_string_exact}

-- lists of strings

others_are_strings : (ms : List (List ℕ)) (here there : Point) → Others IsText ms here there → OtherStrings ms here there
others_are_strings [] here there h = h
others_are_strings (m ∷ ms) here there h = (h.0, h.1, h.2, h.3, others_are_strings ms h.1 there h.4)

listed_are_strings : (ms : List (List ℕ)) (here there : Point) → Listed IsText ms here there → AreStrings ms here there
listed_are_strings [] here there h = h
listed_are_strings (m ∷ ms) here there h = (h.0, h.1, others_are_strings ms h.0 there h.2)

strings_are_others : (ms : List (List ℕ)) (here there : Point) → OtherStrings ms here there → Others IsText ms here there
strings_are_others [] here there h = h
strings_are_others (m ∷ ms) here there h = (h.0, h.1, h.2, h.3, strings_are_others ms h.1 there h.4)

strings_are_listed : (ms : List (List ℕ)) (here there : Point) → AreStrings ms here there → Listed IsText ms here there
strings_are_listed [] here there h = h
strings_are_listed (m ∷ ms) here there h = (h.0, h.1, strings_are_others ms h.0 there h.2)

strings_exact : Exact (Closed IsText CloseBracket) Anything (closed_at string_at CloseBracket)
strings_exact = closed_exact IsText string_at CloseBracket (refl, refl) (but_equals IsText string_at string_exact)

-- a field, a colon and what it has

abbrev pub Typed : {A : Type 0} → (A → Point → Point → Type 0) → List ℕ × A → Point → Point → Type 0
Typed R x here there = (a b : Point) × IsField x.0 here a × Is (tokens.Mark Colon) a b × R x.1 b there

typed_found : {A : Type 0} (R : A → Point → Point → Type 0) (inner : Point → Read A) → Exact R NoEquals inner → (here : Point) (x : (List ℕ × A) × Point) → typed_at inner here ≡ Ok x → Typed R x.0 here x.1
unfolding typed_at
typed_found R inner e here x h =
    read_first IsField field_at field_exact here _ x _ h (λ f is_field h.
    mark_first Colon f.1 _ x _ h (λ a colon h.
    read_first R inner e a _ x _ h (λ t is_so h.
    read_as (Typed R) here ((f.0, t.0), t.1) x h (f.1, a, is_field, colon, is_so))))

typed_again : {A : Type 0} (R : A → Point → Point → Type 0) (inner : Point → Read A) → Exact R NoEquals inner → (x : List ℕ × A) (here there : Point) → Typed R x here there → NoEquals there → typed_at inner here ≡ Ok (x, there)
unfolding typed_at
typed_again R inner e x here there h behind = rw (field_again x.0 here h.0 h.2, mark_again Colon h.0 h.1 h.3, e.again x.1 h.1 there h.4 behind) refl

pub typed_exact : {A : Type 0} (R : A → Point → Point → Type 0) (inner : Point → Read A) → Exact R NoEquals inner → Exact (Typed R) NoEquals (typed_at inner)
typed_exact R inner e = record {
  moves = λ x here there h. onward (field_exact.moves x.0 here h.0 h.2) (onward (is_ahead h.3) (e.moves x.1 h.1 there h.4));
  found = typed_found R inner e;
  again = typed_again R inner e;
}

-- fields

others_are_fields : (n : ℕ) (fs : List (List ℕ × TypeTree)) (here there : Point) → Others (Typed (IsType n)) fs here there → OtherFields n (term_fields_of fs) here there
others_are_fields n [] here there h = h
others_are_fields n (f ∷ fs) here there h = (h.0, h.3.0, h.3.1, h.1, h.2, h.3.2, h.3.3, h.3.4, others_are_fields n fs h.1 there h.4)

pub listed_are_fields : (n : ℕ) (fs : List (List ℕ × TypeTree)) (here there : Point) → Listed (Typed (IsType n)) fs here there → AreFields n (term_fields_of fs) here there
listed_are_fields n [] here there h = h
listed_are_fields n (f ∷ fs) here there h = (h.1.0, h.1.1, h.0, h.1.2, h.1.3, h.1.4, others_are_fields n fs h.0 there h.2)

fields_are_others : (n : ℕ) (fs : TermFields) (here there : Point) → OtherFields n fs here there → Others (Typed (IsType n)) (type_field_list fs) here there
fields_are_others n no_fields here there h = h
fields_are_others n (more_fields f t fs) here there h = (h.0, h.3, h.4, (h.1, h.2, h.5, h.6, h.7), fields_are_others n fs h.3 there h.8)

pub fields_are_listed : (n : ℕ) (fs : TermFields) (here there : Point) → AreFields n fs here there → Listed (Typed (IsType n)) (type_field_list fs) here there
fields_are_listed n no_fields here there h = h
fields_are_listed n (more_fields f t fs) here there h = (h.2, (h.0, h.1, h.3, h.4, h.5), fields_are_others n fs h.2 there h.6)

abbrev BracedFields : ℕ → TermFields → Point → Point → Type 0
BracedFields n fs here there = (a : Point) × PerhapsFields n fs here a × Is (tokens.Mark CloseBrace) a there

perhaps_are_fields : (n : ℕ) (fs : List (List ℕ × TypeTree)) (here there : Point) → Perhaps (Typed (IsType n)) CloseBrace fs here there → BracedFields n (term_fields_of fs) here there
perhaps_are_fields n [] here there h = (here, refl, h)
perhaps_are_fields n (f ∷ fs) here there h = (h.0, listed_are_fields n (f ∷ fs) here h.0 h.1, h.2)

fields_are_perhaps : (n : ℕ) (fs : TermFields) (here there : Point) → BracedFields n fs here there → Perhaps (Typed (IsType n)) CloseBrace (type_field_list fs) here there
fields_are_perhaps n no_fields here there h = subst (λ p. Is (tokens.Mark CloseBrace) p there) (sym h.1) h.2
fields_are_perhaps n (more_fields f t fs) here there h = (h.0, fields_are_listed n (more_fields f t fs) here h.0 h.1, h.2)

pub fields_exact : (n : ℕ) (inner : Point → Read TypeTree) (close : Mark) → Closes close → Exact (IsType n) NoEquals inner → Exact (Closed (Typed (IsType n)) close) Anything (closed_at (typed_at inner) close)
fields_exact n inner close closes e = closed_exact (Typed (IsType n)) (typed_at inner) close closes (typed_exact (IsType n) inner e)

braced_fields_exact : (n : ℕ) (inner : Point → Read TypeTree) → Exact (IsType n) NoEquals inner → Exact (Perhaps (Typed (IsType n)) CloseBrace) Anything (perhaps_at (typed_at inner) CloseBrace)
braced_fields_exact n inner e =
    perhaps_exact (Typed (IsType n)) (typed_at inner) CloseBrace (refl, refl) (λ x here there h. field_no_mark CloseBrace x.0 here h.0 h.2) (typed_exact (IsType n) inner e)

-- what a type spells is ahead of what is behind it
type_moves : (n : ℕ) (inner : Point → Read TypeTree) → Exact (IsType n) NoEquals inner → (t : TypeTree) (here there : Point) → IsType (suc n) t here there → ComesBefore here there
type_moves n inner e unit here there h = is_ahead h
type_moves n inner e bool here there h = is_ahead h
type_moves n inner e (int z) here there h = onward (is_ahead h.1) ((initial_number_exact initial_number).moves z h.0 there h.2)
type_moves n inner e (text s) here there h = onward (is_ahead h.1) ((initial_string_exact initial_text).moves s h.0 there h.2)
type_moves n inner e (enum_of ms m) here there h =
    onward (is_ahead h.4) (onward (is_ahead h.5) (onward (strings_exact.moves ms h.1 h.3 (h.2, strings_are_listed ms h.1 h.2 h.6, h.7)) ((initial_string_exact (initial_member ms)).moves m h.3 there h.8)))
type_moves n inner e (record_of fs) here there h = onward (is_ahead h.2) ((braced_fields_exact n inner e).moves (type_field_list fs) h.0 there (fields_are_perhaps n fs h.0 there (h.1, h.3, h.4)))
type_moves n inner e (one_of fs) here there h = onward (is_ahead h.2) ((fields_exact n inner Greater (refl, refl) e).moves (type_field_list fs) h.0 there (h.1, fields_are_listed n fs h.0 h.1 h.3, h.4))
type_moves n inner e (list t) here there h = onward (is_ahead h.1) (e.moves t h.0 there h.2)
type_moves n inner e (keyed t) here there h = onward (is_ahead h.1) (e.moves t h.0 there h.2)
type_moves n inner e (tree t) here there h = onward (is_ahead h.1) (e.moves t h.0 there h.2)
type_moves n inner e (named s) here there h = mention_ahead h

-- what is read is spelled so

abbrev Begun : ℕ → Token → ℕ → (Point → Read TypeTree) → Type 0
Begun n k at reader = (here : Point) (x : TypeTree × Point) → reader here ≡ Ok x → IsType (suc n) x.0 (before k at here) x.1

enum_found : (n at : ℕ) → Begun n (tokens.Keyword words.Enum) at enum_at
unfolding enum_at
enum_found n at here x h =
    mark_first OpenBracket here _ x _ h (λ a opens h.
    read_first (Closed IsText CloseBracket) (closed_at string_at CloseBracket) strings_exact a _ x _ h (λ ms members h.
    made_of (IsInitial tokens.Text (initial_member ms.0)) (initial_at string_at (initial_member ms.0)) (initial_string_exact (initial_member ms.0)) (IsType (suc n)) (enum_of ms.0) (before (tokens.Keyword words.Enum) at here) ms.1 x h (λ m there so.
    (here, a, members.0, ms.1, it_is (tokens.Keyword words.Enum) at here, opens, listed_are_strings ms.0 a members.0 members.1, members.2, so))))

word_found : (n : ℕ) (inner : Point → Read TypeTree) → Exact (IsType n) NoEquals inner → (k : Keyword) (at : ℕ) → Begun n (tokens.Keyword k) at (word_type inner k at)
unfolding word_type
word_found n inner e words.Unit at here x h = read_as (IsType (suc n)) (before (tokens.Keyword words.Unit) at here) (unit, here) x h (it_is (tokens.Keyword words.Unit) at here)
word_found n inner e words.Bool at here x h = read_as (IsType (suc n)) (before (tokens.Keyword words.Bool) at here) (bool, here) x h (it_is (tokens.Keyword words.Bool) at here)
word_found n inner e words.Int at here x h =
    made_of (IsInitial tokens.Number initial_number) (initial_at number_at initial_number) (initial_number_exact initial_number) (IsType (suc n)) int (before (tokens.Keyword words.Int) at here) here x h (λ z there so.
    (here, it_is (tokens.Keyword words.Int) at here, so))
word_found n inner e words.Text at here x h =
    made_of (IsInitial tokens.Text initial_text) (initial_at string_at initial_text) (initial_string_exact initial_text) (IsType (suc n)) text (before (tokens.Keyword words.Text) at here) here x h (λ s there so.
    (here, it_is (tokens.Keyword words.Text) at here, so))
word_found n inner e words.Enum at here x h = enum_found n at here x h
word_found n inner e words.List at here x h =
    made_of (IsType n) inner e (IsType (suc n)) list (before (tokens.Keyword words.List) at here) here x h (λ t there so. (here, it_is (tokens.Keyword words.List) at here, so))
word_found n inner e words.Keyed at here x h =
    made_of (IsType n) inner e (IsType (suc n)) keyed (before (tokens.Keyword words.Keyed) at here) here x h (λ t there so. (here, it_is (tokens.Keyword words.Keyed) at here, so))
word_found n inner e words.Tree at here x h =
    made_of (IsType n) inner e (IsType (suc n)) tree (before (tokens.Keyword words.Tree) at here) here x h (λ t there so. (here, it_is (tokens.Keyword words.Tree) at here, so))
word_found n inner e _ at here x h = absurd cc

mark_type_found : (n : ℕ) (inner : Point → Read TypeTree) → Exact (IsType n) NoEquals inner → (m : Mark) (at : ℕ) → Begun n (tokens.Mark m) at (mark_type inner m at)
unfolding mark_type record_at one_of_at
mark_type_found n inner e marks.OpenBrace at here x h =
    made_of (Perhaps (Typed (IsType n)) CloseBrace) (perhaps_at (typed_at inner) CloseBrace) (braced_fields_exact n inner e) (IsType (suc n)) (λ fs. record_of (term_fields_of fs)) (before (tokens.Mark OpenBrace) at here) here x h (λ fs there so.
    let braced = perhaps_are_fields n fs here there so in
    (here, braced.0, it_is (tokens.Mark OpenBrace) at here, braced.1, braced.2))
mark_type_found n inner e marks.Less at here x h =
    made_of (Closed (Typed (IsType n)) Greater) (closed_at (typed_at inner) Greater) (fields_exact n inner Greater (refl, refl) e) (IsType (suc n)) (λ fs. one_of (term_fields_of fs)) (before (tokens.Mark Less) at here) here x h (λ fs there so.
    (here, so.0, it_is (tokens.Mark Less) at here, listed_are_fields n fs here so.0 so.1, so.2))
mark_type_found n inner e _ at here x h = absurd cc

begun_found : (n : ℕ) (inner : Point → Read TypeTree) → Exact (IsType n) NoEquals inner → (k : Token) (at : ℕ) → Begun n k at (begun_type inner k at)
unfolding begun_type
begun_found n inner e (tokens.Keyword k) at here x h = word_found n inner e k at here x h
begun_found n inner e (tokens.Mark m) at here x h = mark_type_found n inner e m at here x h
begun_found n inner e (tokens.Name s) at here x h =
    read_as (IsType (suc n)) (before (tokens.Name s) at here) (named s, (here.0 ++ mention sorts.Type s at ∷ [], here.1)) x h (record { at = at; names = refl; parts = refl })
begun_found n inner e (tokens.Text s) at here x h = absurd cc
begun_found n inner e (tokens.Number z) at here x h = absurd cc
begun_found n inner e tokens.Bad at here x h = absurd cc
begun_found n inner e tokens.End at here x h = absurd cc

type_from_found : (n : ℕ) (inner : Point → Read TypeTree) → Exact (IsType n) NoEquals inner → (ms : List Mention) (ts : List PlacedToken) (x : TypeTree × Point) → type_from inner ms ts ≡ Ok x → IsType (suc n) x.0 (ms, ts) x.1
type_from_found n inner e ms [] x h = absurd cc
type_from_found n inner e ms (t ∷ ts) x h = begun_found n inner e t.token t.at (ms, ts) x h

-- what is spelled so is read

type_again : (n : ℕ) (inner : Point → Read TypeTree) → Exact (IsType n) NoEquals inner → (t : TypeTree) (here there : Point) → IsType (suc n) t here there → NoEquals there → type_step inner here ≡ Ok (t, there)
unfolding type_step begun_type word_type mark_type enum_at record_at one_of_at
type_again n inner e unit here there h behind = ap (type_step inner) (point_is h)
type_again n inner e bool here there h behind = ap (type_step inner) (point_is h)
type_again n inner e (int z) here there h behind = ap (type_step inner) (point_is h.1) ∙ rw ((initial_number_exact initial_number).again z h.0 there h.2 behind) refl
type_again n inner e (text s) here there h behind = ap (type_step inner) (point_is h.1) ∙ rw ((initial_string_exact initial_text).again s h.0 there h.2 behind) refl
type_again n inner e (enum_of ms m) here there h behind =
    ap (type_step inner) (point_is h.4)
    ∙ rw (mark_again OpenBracket h.0 h.1 h.5, strings_exact.again ms h.1 h.3 (h.2, strings_are_listed ms h.1 h.2 h.6, h.7) tt, (initial_string_exact (initial_member ms)).again m h.3 there h.8 behind) refl
type_again n inner e (record_of fs) here there h behind =
    ap (type_step inner) (point_is h.2) ∙ rw ((braced_fields_exact n inner e).again (type_field_list fs) h.0 there (fields_are_perhaps n fs h.0 there (h.1, h.3, h.4)) tt, term_fields_of-field_list fs) refl
type_again n inner e (one_of fs) here there h behind =
    ap (type_step inner) (point_is h.2) ∙ rw ((fields_exact n inner Greater (refl, refl) e).again (type_field_list fs) h.0 there (h.1, fields_are_listed n fs h.0 h.1 h.3, h.4) tt, term_fields_of-field_list fs) refl
type_again n inner e (list t) here there h behind = ap (type_step inner) (point_is h.1) ∙ rw (e.again t h.0 there h.2 behind) refl
type_again n inner e (keyed t) here there h behind = ap (type_step inner) (point_is h.1) ∙ rw (e.again t h.0 there h.2 behind) refl
type_again n inner e (tree t) here there h behind = ap (type_step inner) (point_is h.1) ∙ rw (e.again t h.0 there h.2 behind) refl
type_again n inner e (named s) here there h behind =
    ap (λ (ts : List PlacedToken). type_step inner (here.0, ts)) h.parts ∙ ap (λ (ms : List Mention). done (named s, (ms, there.1))) (sym h.names)

pub type_exact : (room : ℕ) → Exact (IsType room) NoEquals (type_at room)
unfolding type_at type_step
type_exact zero = record {
  moves = λ t here there h. absurd h;
  found = λ here x h. absurd cc;
  again = λ t here there h behind. absurd h;
}
type_exact (suc room) = record {
  moves = type_moves room (type_at room) (type_exact room);
  found = λ here x h. type_from_found room (type_at room) (type_exact room) here.0 here.1 x h;
  again = type_again room (type_at room) (type_exact room);
}

-- no type begins with `=`
pub type_no_equals : (room : ℕ) (t : TypeTree) (here there : Point) → IsType room t here there → NoEquals here
type_no_equals zero t here there h = absurd h
type_no_equals (suc n) unit here there h = ap (next_is Equals) h.parts
type_no_equals (suc n) bool here there h = ap (next_is Equals) h.parts
type_no_equals (suc n) (int z) here there h = ap (next_is Equals) h.1.parts
type_no_equals (suc n) (text s) here there h = ap (next_is Equals) h.1.parts
type_no_equals (suc n) (enum_of ms m) here there h = ap (next_is Equals) h.4.parts
type_no_equals (suc n) (record_of fs) here there h = ap (next_is Equals) h.2.parts
type_no_equals (suc n) (one_of fs) here there h = ap (next_is Equals) h.2.parts
type_no_equals (suc n) (list t) here there h = ap (next_is Equals) h.1.parts
type_no_equals (suc n) (keyed t) here there h = ap (next_is Equals) h.1.parts
type_no_equals (suc n) (tree t) here there h = ap (next_is Equals) h.1.parts
type_no_equals (suc n) (named s) here there h = ap (next_is Equals) h.parts
