-- Pairs, arms and rows are read if and only if they are spelled.
use Rattle.std.proofs.Common.{◌≡◌, ℕ, false, List, [], ◌∷◌, Some, Ok, refl, sym, ap, subst, ◌∙◌, inl, inr}
use Rattle.program_tokens.specs.declared.keyword.Keyword.{Keyword}
use Rattle.program_tokens.specs.declared.keyword.Keyword.TheVariants as words
use Rattle.program_tokens.specs.declared.mark.Mark.TheVariants.{Equals, CloseBrace, Greater, CloseBracket, Colon, Tilde}
use Rattle.program_tokens.specs.declared.token.Token.{Token}
use Rattle.program_tokens.specs.declared.token.Token.TheVariants as tokens
use Rattle.program_tokens.specs.declared.token.PlacedToken.{PlacedToken}
use Rattle.program_terms.specs.Terms.{TypeTree, LensTree, RowTree, row_both, row_left, row_right, TermRows, no_rows, both, only_left, only_right, term_rows_of, row_list, TermArms, no_arms, more_arms, term_arms_of, arm_list}
use Rattle.program_grammar.specs.declared.mention.Mention.{Mention}
use Rattle.program_grammar.specs.Mentions.{Point}
use Rattle.program_grammar.specs.Reading.{Read, next_is, word_in, next_word, string_at, field_at, typed_at, closed_at, perhaps_at, pair_at, arm_at, left_row_at, right_row_at, both_row_at, row_by, row_at}
use Rattle.program_grammar.specs.Spelling.{Is, IsField, IsTextPair, OtherPairs, ArePairs, IsType, IsLens, PerhapsRows, OtherRows, AreArms, OtherArms}
use Rattle.law_spellings.proofs.ReadingSteps.{ComesBefore, onward, is_ahead, Anything, NoEquals, Exact, read_as, read_first, made_of}
use Rattle.law_spellings.proofs.Marks.{before, it_is, point_is, mark_again, mark_first, IsText, string_exact, field_exact, field_again, field_no_mark}
use Rattle.law_spellings.proofs.Lists.{Others, Listed, Closed, Perhaps, closed_exact, perhaps_exact}
use Rattle.law_spellings.proofs.Types.{Typed, typed_exact}

-- pairs of strings

pair_found : (here : Point) (x : (List ℕ × List ℕ) × Point) → pair_at here ≡ Ok x → IsTextPair x.0 here x.1
unfolding pair_at
pair_found here x h =
    read_first IsText string_at string_exact here _ x _ h (λ s one h.
    mark_first Equals s.1 _ x _ h (λ a equals h.
    read_first IsText string_at string_exact a _ x _ h (λ t other h.
    read_as IsTextPair here ((s.0, t.0), t.1) x h (s.1, a, one, equals, other))))

pair_again : (p : List ℕ × List ℕ) (here there : Point) → IsTextPair p here there → pair_at here ≡ Ok (p, there)
unfolding pair_at
pair_again p here there h = rw (string_exact.again p.0 here h.0 h.2 tt, mark_again Equals h.0 h.1 h.3, string_exact.again p.1 h.1 there h.4 tt) refl

pair_exact : Exact IsTextPair NoEquals pair_at
pair_exact = record {
  moves = λ p here there h. onward (is_ahead h.2) (onward (is_ahead h.3) (is_ahead h.4));
  found = pair_found;
  again = λ p here there h behind. pair_again p here there h;
}

others_are_pairs : (ps : List (List ℕ × List ℕ)) (here there : Point) → Others IsTextPair ps here there → OtherPairs ps here there
others_are_pairs [] here there h = h
others_are_pairs (p ∷ ps) here there h = (h.0, h.1, h.2, h.3, others_are_pairs ps h.1 there h.4)

pub listed_are_pairs : (ps : List (List ℕ × List ℕ)) (here there : Point) → Listed IsTextPair ps here there → ArePairs ps here there
listed_are_pairs [] here there h = h
listed_are_pairs (p ∷ ps) here there h = (h.0, h.1, others_are_pairs ps h.0 there h.2)

pairs_are_others : (ps : List (List ℕ × List ℕ)) (here there : Point) → OtherPairs ps here there → Others IsTextPair ps here there
pairs_are_others [] here there h = h
pairs_are_others (p ∷ ps) here there h = (h.0, h.1, h.2, h.3, pairs_are_others ps h.1 there h.4)

pub pairs_are_listed : (ps : List (List ℕ × List ℕ)) (here there : Point) → ArePairs ps here there → Listed IsTextPair ps here there
pairs_are_listed [] here there h = h
pairs_are_listed (p ∷ ps) here there h = (h.0, h.1, pairs_are_others ps h.0 there h.2)

pub pairs_exact : Exact (Closed IsTextPair CloseBracket) Anything (closed_at pair_at CloseBracket)
pairs_exact = closed_exact IsTextPair pair_at CloseBracket (refl, refl) pair_exact

-- arms: two fields and a lens

abbrev pub IsArm : ℕ → List ℕ × List ℕ × LensTree → Point → Point → Type 0
IsArm n x here there = (a b c d : Point) × IsField x.0 here a × Is (tokens.Mark Tilde) a b × IsField x.1 b c × Is (tokens.Mark Colon) c d × IsLens n x.2 d there

arm_found : (n : ℕ) (inner : Point → Read LensTree) → Exact (IsLens n) NoEquals inner → (here : Point) (x : (List ℕ × List ℕ × LensTree) × Point) → arm_at inner here ≡ Ok x → IsArm n x.0 here x.1
unfolding arm_at
arm_found n inner e here x h =
    read_first IsField field_at field_exact here _ x _ h (λ f left h.
    mark_first Tilde f.1 _ x _ h (λ b tilde h.
    read_first IsField field_at field_exact b _ x _ h (λ g right h.
    mark_first Colon g.1 _ x _ h (λ d colon h.
    read_first (IsLens n) inner e d _ x _ h (λ l is_so h.
    read_as (IsArm n) here ((f.0, g.0, l.0), l.1) x h (f.1, b, g.1, d, left, tilde, right, colon, is_so))))))

arm_again : (n : ℕ) (inner : Point → Read LensTree) → Exact (IsLens n) NoEquals inner → (x : List ℕ × List ℕ × LensTree) (here there : Point) → IsArm n x here there → NoEquals there → arm_at inner here ≡ Ok (x, there)
unfolding arm_at
arm_again n inner e x here there h behind =
    rw (field_again x.0 here h.0 h.4, mark_again Tilde h.0 h.1 h.5, field_again x.1 h.1 h.2 h.6, mark_again Colon h.2 h.3 h.7, e.again x.2 h.3 there h.8 behind) refl

arm_moves : (n : ℕ) (inner : Point → Read LensTree) → Exact (IsLens n) NoEquals inner → (x : List ℕ × List ℕ × LensTree) (here there : Point) → IsArm n x here there → ComesBefore here there
arm_moves n inner e x here there h =
    onward (field_exact.moves x.0 here h.0 h.4) (onward (is_ahead h.5) (onward (field_exact.moves x.1 h.1 h.2 h.6) (onward (is_ahead h.7) (e.moves x.2 h.3 there h.8))))

arm_exact : (n : ℕ) (inner : Point → Read LensTree) → Exact (IsLens n) NoEquals inner → Exact (IsArm n) NoEquals (arm_at inner)
arm_exact n inner e = record { moves = arm_moves n inner e; found = arm_found n inner e; again = arm_again n inner e }

others_are_arms : (n : ℕ) (xs : List (List ℕ × List ℕ × LensTree)) (here there : Point) → Others (IsArm n) xs here there → OtherArms n (term_arms_of xs) here there
others_are_arms n [] here there h = h
others_are_arms n (x ∷ xs) here there h = (h.0, h.3.0, h.3.1, h.3.2, h.3.3, h.1, h.2, h.3.4, h.3.5, h.3.6, h.3.7, h.3.8, others_are_arms n xs h.1 there h.4)

pub listed_are_arms : (n : ℕ) (xs : List (List ℕ × List ℕ × LensTree)) (here there : Point) → Listed (IsArm n) xs here there → AreArms n (term_arms_of xs) here there
listed_are_arms n [] here there h = h
listed_are_arms n (x ∷ xs) here there h = (h.1.0, h.1.1, h.1.2, h.1.3, h.0, h.1.4, h.1.5, h.1.6, h.1.7, h.1.8, others_are_arms n xs h.0 there h.2)

arms_are_others : (n : ℕ) (arms : TermArms) (here there : Point) → OtherArms n arms here there → Others (IsArm n) (arm_list arms) here there
arms_are_others n no_arms here there h = h
arms_are_others n (more_arms f g l arms) here there h = (h.0, h.5, h.6, (h.1, h.2, h.3, h.4, h.7, h.8, h.9, h.10, h.11), arms_are_others n arms h.5 there h.12)

pub arms_are_listed : (n : ℕ) (arms : TermArms) (here there : Point) → AreArms n arms here there → Listed (IsArm n) (arm_list arms) here there
arms_are_listed n no_arms here there h = h
arms_are_listed n (more_arms f g l arms) here there h = (h.4, (h.0, h.1, h.2, h.3, h.5, h.6, h.7, h.8, h.9), arms_are_others n arms h.4 there h.10)

pub arms_exact : (n : ℕ) (inner : Point → Read LensTree) → Exact (IsLens n) NoEquals inner → Exact (Closed (IsArm n) Greater) Anything (closed_at (arm_at inner) Greater)
arms_exact n inner e = closed_exact (IsArm n) (arm_at inner) Greater (refl, refl) (arm_exact n inner e)

-- rows: an arm, or a word, a field and a type

abbrev pub IsSide : Keyword → ℕ → List ℕ × TypeTree → Point → Point → Type 0
IsSide k n x here there = (a : Point) × Is (tokens.Keyword k) here a × Typed (IsType n) x a there

abbrev pub IsRow : ℕ → RowTree → Point → Point → Type 0
IsRow n (row_both f g l) here there = IsArm n (f, g, l) here there
IsRow n (row_left f t) here there = IsSide words.Left n (f, t) here there
IsRow n (row_right f t) here there = IsSide words.Right n (f, t) here there

row_moves : (n : ℕ) (type : Point → Read TypeTree) (inner : Point → Read LensTree) → Exact (IsType n) NoEquals type → Exact (IsLens n) NoEquals inner → (r : RowTree) (here there : Point) → IsRow n r here there → ComesBefore here there
row_moves n type inner d e (row_both f g l) here there h = arm_moves n inner e (f, g, l) here there h
row_moves n type inner d e (row_left f t) here there h = onward (is_ahead h.1) ((typed_exact (IsType n) type d).moves (f, t) h.0 there h.2)
row_moves n type inner d e (row_right f t) here there h = onward (is_ahead h.1) ((typed_exact (IsType n) type d).moves (f, t) h.0 there h.2)

both_found : (n : ℕ) (inner : Point → Read LensTree) → Exact (IsLens n) NoEquals inner → (here : Point) (x : RowTree × Point) → both_row_at inner here ≡ Ok x → IsRow n x.0 here x.1
unfolding both_row_at
both_found n inner e here x h = made_of (IsArm n) (arm_at inner) (arm_exact n inner e) (IsRow n) (λ a. row_both a.0 a.1 a.2) here here x h (λ a there so. so)

left_found : (n : ℕ) (type : Point → Read TypeTree) → Exact (IsType n) NoEquals type → (at : ℕ) (here : Point) (x : RowTree × Point) → left_row_at type here ≡ Ok x → IsRow n x.0 (before (tokens.Keyword words.Left) at here) x.1
unfolding left_row_at
left_found n type d at here x h =
    made_of (Typed (IsType n)) (typed_at type) (typed_exact (IsType n) type d) (IsRow n) (λ f. row_left f.0 f.1) (before (tokens.Keyword words.Left) at here) here x h (λ f there so.
    (here, it_is (tokens.Keyword words.Left) at here, so))

right_found : (n : ℕ) (type : Point → Read TypeTree) → Exact (IsType n) NoEquals type → (at : ℕ) (here : Point) (x : RowTree × Point) → right_row_at type here ≡ Ok x → IsRow n x.0 (before (tokens.Keyword words.Right) at here) x.1
unfolding right_row_at
right_found n type d at here x h =
    made_of (Typed (IsType n)) (typed_at type) (typed_exact (IsType n) type d) (IsRow n) (λ f. row_right f.0 f.1) (before (tokens.Keyword words.Right) at here) here x h (λ f there so.
    (here, it_is (tokens.Keyword words.Right) at here, so))

worded_found : (n : ℕ) (type : Point → Read TypeTree) (inner : Point → Read LensTree) → Exact (IsType n) NoEquals type → Exact (IsLens n) NoEquals inner → (k : Keyword) (at : ℕ) (here : Point) (x : RowTree × Point)
    → row_by type inner (Some k) here.0 (before (tokens.Keyword k) at here).1 ≡ Ok x → IsRow n x.0 (before (tokens.Keyword k) at here) x.1
worded_found n type inner d e words.Left at here x h = left_found n type d at here x h
worded_found n type inner d e words.Right at here x h = right_found n type d at here x h
worded_found n type inner d e k at here x h = both_found n inner e (before (tokens.Keyword k) at here) x h

begun_row_found : (n : ℕ) (type : Point → Read TypeTree) (inner : Point → Read LensTree) → Exact (IsType n) NoEquals type → Exact (IsLens n) NoEquals inner → (k : Token) (at : ℕ) (here : Point) (x : RowTree × Point)
    → row_by type inner (word_in k) here.0 (before k at here).1 ≡ Ok x → IsRow n x.0 (before k at here) x.1
begun_row_found n type inner d e (tokens.Keyword k) at here x h = worded_found n type inner d e k at here x h
begun_row_found n type inner d e k at here x h = both_found n inner e (before k at here) x h

row_by_found : (n : ℕ) (type : Point → Read TypeTree) (inner : Point → Read LensTree) → Exact (IsType n) NoEquals type → Exact (IsLens n) NoEquals inner → (ms : List Mention) (ts : List PlacedToken) (x : RowTree × Point)
    → row_by type inner (next_word ts) ms ts ≡ Ok x → IsRow n x.0 (ms, ts) x.1
row_by_found n type inner d e ms [] x h = both_found n inner e (ms, []) x h
row_by_found n type inner d e ms (t ∷ ts) x h = begun_row_found n type inner d e t.token t.at (ms, ts) x h

-- a row that begins with a field is an arm
field_row : (type : Point → Read TypeTree) (inner : Point → Read LensTree) (f : List ℕ) (here there : Point) → IsField f here there → row_at type inner here ≡ both_row_at inner here
unfolding row_at
field_row type inner f here there (inl h) = ap (row_at type inner) (point_is h) ∙ ap (both_row_at inner) (sym (point_is h))
field_row type inner f here there (inr h) = ap (row_at type inner) (point_is h) ∙ ap (both_row_at inner) (sym (point_is h))

row_again : (n : ℕ) (type : Point → Read TypeTree) (inner : Point → Read LensTree) → Exact (IsType n) NoEquals type → Exact (IsLens n) NoEquals inner → (r : RowTree) (here there : Point) → IsRow n r here there
    → NoEquals there → row_at type inner here ≡ Ok (r, there)
unfolding row_at both_row_at left_row_at right_row_at
row_again n type inner d e (row_both f g l) here there h behind = field_row type inner f here h.0 h.4 ∙ rw (arm_again n inner e (f, g, l) here there h behind) refl
row_again n type inner d e (row_left f t) here there h behind = ap (row_at type inner) (point_is h.1) ∙ rw ((typed_exact (IsType n) type d).again (f, t) h.0 there h.2 behind) refl
row_again n type inner d e (row_right f t) here there h behind = ap (row_at type inner) (point_is h.1) ∙ rw ((typed_exact (IsType n) type d).again (f, t) h.0 there h.2 behind) refl

row_exact : (n : ℕ) (type : Point → Read TypeTree) (inner : Point → Read LensTree) → Exact (IsType n) NoEquals type → Exact (IsLens n) NoEquals inner → Exact (IsRow n) NoEquals (row_at type inner)
unfolding row_at
row_exact n type inner d e = record {
  moves = row_moves n type inner d e;
  found = λ here x h. row_by_found n type inner d e here.0 here.1 x h;
  again = row_again n type inner d e;
}

-- no row begins with a brace
row_no_brace : (n : ℕ) (r : RowTree) (here there : Point) → IsRow n r here there → next_is CloseBrace here.1 ≡ false
row_no_brace n (row_both f g l) here there h = field_no_mark CloseBrace f here h.0 h.4
row_no_brace n (row_left f t) here there h = ap (next_is CloseBrace) h.1.parts
row_no_brace n (row_right f t) here there h = ap (next_is CloseBrace) h.1.parts

others_are_rows : (n : ℕ) (rs : List RowTree) (here there : Point) → Others (IsRow n) rs here there → OtherRows n (term_rows_of rs) here there
others_are_rows n [] here there h = h
others_are_rows n (row_both f g l ∷ rs) here there h = (h.0, h.3.0, h.3.1, h.3.2, h.3.3, h.1, h.2, h.3.4, h.3.5, h.3.6, h.3.7, h.3.8, others_are_rows n rs h.1 there h.4)
others_are_rows n (row_left f t ∷ rs) here there h = (h.0, h.3.0, h.3.2.0, h.3.2.1, h.1, h.2, h.3.1, h.3.2.2, h.3.2.3, h.3.2.4, others_are_rows n rs h.1 there h.4)
others_are_rows n (row_right f t ∷ rs) here there h = (h.0, h.3.0, h.3.2.0, h.3.2.1, h.1, h.2, h.3.1, h.3.2.2, h.3.2.3, h.3.2.4, others_are_rows n rs h.1 there h.4)

rows_are_others : (n : ℕ) (rows : TermRows) (here there : Point) → OtherRows n rows here there → Others (IsRow n) (row_list rows) here there
rows_are_others n no_rows here there h = h
rows_are_others n (both f g l rows) here there h = (h.0, h.5, h.6, (h.1, h.2, h.3, h.4, h.7, h.8, h.9, h.10, h.11), rows_are_others n rows h.5 there h.12)
rows_are_others n (only_left f t rows) here there h = (h.0, h.4, h.5, (h.1, h.6, (h.2, h.3, h.7, h.8, h.9)), rows_are_others n rows h.4 there h.10)
rows_are_others n (only_right f t rows) here there h = (h.0, h.4, h.5, (h.1, h.6, (h.2, h.3, h.7, h.8, h.9)), rows_are_others n rows h.4 there h.10)

-- rows and the brace behind them
abbrev pub BracedRows : ℕ → TermRows → Point → Point → Type 0
BracedRows n rows here there = (a : Point) × PerhapsRows n rows here a × Is (tokens.Mark CloseBrace) a there

pub perhaps_are_rows : (n : ℕ) (rs : List RowTree) (here there : Point) → Perhaps (IsRow n) CloseBrace rs here there → BracedRows n (term_rows_of rs) here there
perhaps_are_rows n [] here there h = (here, refl, h)
perhaps_are_rows n (row_both f g l ∷ rs) here there h =
    let r = h.1 in (h.0, (r.1.0, r.1.1, r.1.2, r.1.3, r.0, r.1.4, r.1.5, r.1.6, r.1.7, r.1.8, others_are_rows n rs r.0 h.0 r.2), h.2)
perhaps_are_rows n (row_left f t ∷ rs) here there h =
    let r = h.1 in (h.0, (r.1.0, r.1.2.0, r.1.2.1, r.0, r.1.1, r.1.2.2, r.1.2.3, r.1.2.4, others_are_rows n rs r.0 h.0 r.2), h.2)
perhaps_are_rows n (row_right f t ∷ rs) here there h =
    let r = h.1 in (h.0, (r.1.0, r.1.2.0, r.1.2.1, r.0, r.1.1, r.1.2.2, r.1.2.3, r.1.2.4, others_are_rows n rs r.0 h.0 r.2), h.2)

pub rows_are_perhaps : (n : ℕ) (rows : TermRows) (here there : Point) → BracedRows n rows here there → Perhaps (IsRow n) CloseBrace (row_list rows) here there
rows_are_perhaps n no_rows here there h = subst (λ p. Is (tokens.Mark CloseBrace) p there) (sym h.1) h.2
rows_are_perhaps n (both f g l rows) here there h =
    let r = h.1 in (h.0, (r.4, (r.0, r.1, r.2, r.3, r.5, r.6, r.7, r.8, r.9), rows_are_others n rows r.4 h.0 r.10), h.2)
rows_are_perhaps n (only_left f t rows) here there h =
    let r = h.1 in (h.0, (r.3, (r.0, r.4, (r.1, r.2, r.5, r.6, r.7)), rows_are_others n rows r.3 h.0 r.8), h.2)
rows_are_perhaps n (only_right f t rows) here there h =
    let r = h.1 in (h.0, (r.3, (r.0, r.4, (r.1, r.2, r.5, r.6, r.7)), rows_are_others n rows r.3 h.0 r.8), h.2)

pub rows_exact : (n : ℕ) (type : Point → Read TypeTree) (inner : Point → Read LensTree) → Exact (IsType n) NoEquals type → Exact (IsLens n) NoEquals inner
    → Exact (Perhaps (IsRow n) CloseBrace) Anything (perhaps_at (row_at type inner) CloseBrace)
rows_exact n type inner d e = perhaps_exact (IsRow n) (row_at type inner) CloseBrace (refl, refl) (row_no_brace n) (row_exact n type inner d e)
