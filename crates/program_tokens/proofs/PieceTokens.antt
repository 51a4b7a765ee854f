-- The tokens of a text, a piece at a time.
use Rattle.std.proofs.Common.{◌≡◌, ℕ, zero, suc, ◌+◌, ◌-◌, ◌<◌, ◌≤◌, List, [], ◌∷◌, ◌++◌, length, take, drop, get_or, arith, refl, ap, sym, ◌∙◌, subst, add-one, drop-cons, append_assoc}
use Rattle.std.proofs.lemmas.List.{drop_all, take_all, drop-drop, length-drop}
use Rattle.program_tokens.specs.Tokens.{tokens_from, piece_of, placed, IsWithin}
use Rattle.program_tokens.specs.declared.token.PlacedToken.{PlacedToken}
use Rattle.program_tokens.specs.declared.token.Token.{Token}
use Rattle.program_tokens.specs.declared.token.Token.TheVariants as tokens
use Rattle.program_tokens.specs.declared.piece.Piece.{Piece}
use Rattle.program_tokens.specs.declared.piece.Piece.TheVariants as pieces

-- passing over bytes
pub skipped : (n at : ℕ) (bs : List ℕ) → n ≤ length bs → tokens_from n at bs ≡ tokens_from 0 (at + n) (drop n bs)
unfolding tokens_from
skipped zero at bs h = ap (λ a. tokens_from 0 a bs) (omega arith)
skipped (suc n) at [] h = absurd (omega arith)
skipped (suc n) at (b ∷ bs) h = let k : n ≤ length bs = omega arith in skipped n (at + 1) bs k ∙ ap (λ a. tokens_from 0 a (drop n bs)) (omega arith)

by_piece : Piece → ℕ → List ℕ → List PlacedToken
unfolding tokens_from
by_piece p at bs = elim p [
  | pieces.Gap n ↦ tokens_from n (at + 1) bs
  | pieces.Token t n ↦ placed t at ∷ tokens_from n (at + 1) bs
  | pieces.Bad ↦ placed tokens.Bad at ∷ []
]

-- a gap in front
pub gap_first : (b at n : ℕ) (bs : List ℕ) → pieces.Gap n ≡ piece_of b bs → n ≤ length bs → tokens_from 0 at (b ∷ bs) ≡ tokens_from 0 (at + 1 + n) (drop n bs)
unfolding tokens_from by_piece
gap_first b at n bs e h = ap (λ p. by_piece p at bs) (sym e) ∙ skipped n (at + 1) bs h

-- a token in front
pub token_first : (b at n : ℕ) (t : Token) (bs : List ℕ) → pieces.Token t n ≡ piece_of b bs → n ≤ length bs → tokens_from 0 at (b ∷ bs) ≡ placed t at ∷ tokens_from 0 (at + 1 + n) (drop n bs)
unfolding tokens_from by_piece
token_first b at n t bs e h = ap (λ p. by_piece p at bs) (sym e) ∙ ap (λ ts. placed t at ∷ ts) (skipped n (at + 1) bs h)

-- a bad token in front
pub bad_first : (b at : ℕ) (bs : List ℕ) → pieces.Bad ≡ piece_of b bs → tokens_from 0 at (b ∷ bs) ≡ placed tokens.Bad at ∷ []
unfolding tokens_from by_piece
bad_first b at bs e = ap (λ p. by_piece p at bs) (sym e)

further : (n i : ℕ) (text : List ℕ) → tokens_from 0 (i + 1 + n) (drop n (drop (i + 1) text)) ≡ tokens_from 0 (i + (1 + n)) (drop (i + (1 + n)) text)
further n i text =
    let e : i + 1 + n ≡ i + (1 + n) = omega arith in
    ap (tokens_from 0 (i + 1 + n)) (drop-drop n (i + 1) text) ∙ ap (λ k. tokens_from 0 k (drop k text)) e

there : (at : ℕ) (text : List ℕ) → at < length text → drop at text ≡ get_or text at 0 ∷ drop (at + 1) text
there at text h = rw (add-one, drop-cons text at 0) refl

-- one step of a reader that stands at a place of the text
pub past_gap : (text : List ℕ) (at n : ℕ) → at < length text → pieces.Gap n ≡ piece_of (get_or text at 0) (drop (at + 1) text) → n ≤ length (drop (at + 1) text)
    → tokens_from 0 at (drop at text) ≡ tokens_from 0 (at + (1 + n)) (drop (at + (1 + n)) text)
past_gap text at n h e w = ap (tokens_from 0 at) (there at text h) ∙ gap_first (get_or text at 0) at n (drop (at + 1) text) e w ∙ further n at text

pub past_token : (text : List ℕ) (at n : ℕ) (t : Token) → at < length text → pieces.Token t n ≡ piece_of (get_or text at 0) (drop (at + 1) text) → n ≤ length (drop (at + 1) text)
    → tokens_from 0 at (drop at text) ≡ placed t at ∷ tokens_from 0 (at + (1 + n)) (drop (at + (1 + n)) text)
past_token text at n t h e w = ap (tokens_from 0 at) (there at text h) ∙ token_first (get_or text at 0) at n t (drop (at + 1) text) e w ∙ ap (λ ts. placed t at ∷ ts) (further n at text)

pub at_bad : (text : List ℕ) (at : ℕ) → at < length text → pieces.Bad ≡ piece_of (get_or text at 0) (drop (at + 1) text) → tokens_from 0 at (drop at text) ≡ placed tokens.Bad at ∷ []
at_bad text at h e = ap (tokens_from 0 at) (there at text h) ∙ bad_first (get_or text at 0) at (drop (at + 1) text) e

pub at_end : (text : List ℕ) (at : ℕ) → length text ≤ at → tokens_from 0 at (drop at text) ≡ placed tokens.End at ∷ []
unfolding tokens_from
at_end text at h = ap (tokens_from 0 at) (drop_all at text h)

-- What a reader knows at a place of the text: it stands before a piece, which is this one.
pub record Stands (text : List ℕ) (at : ℕ) (p : Piece) : Type 0 where
  pub inside : at < length text
  pub piece : p ≡ piece_of (get_or text at 0) (drop (at + 1) text)
  pub within : IsWithin (length (drop (at + 1) text)) p

rest_of : (text : List ℕ) (i : ℕ) → take (length text - i) (drop i text) ≡ drop i text
rest_of text i = take_all (length text - i) (drop i text) (omega (arith, length-drop i text))

-- as the code slices the text
pub stands : (text : List ℕ) (at : ℕ) (p : Piece) → at < length text → p ≡ piece_of (get_or text at 0) (take (length text - (at + 1)) (drop (at + 1) text))
    → IsWithin (length (take (length text - (at + 1)) (drop (at + 1) text))) p → Stands text at p
stands text at p h e w = record {
  inside = h;
  piece = e ∙ ap (piece_of (get_or text at 0)) (rest_of text (at + 1));
  within = subst (λ bs. IsWithin (length bs) p) (rest_of text (at + 1)) w;
}

-- it stays within the text
pub gap_within : (text : List ℕ) (at n : ℕ) → Stands text at (pieces.Gap n) → at + (1 + n) ≤ length text
gap_within text at n s = let w : n ≤ length (drop (at + 1) text) = s.within in let i = s.inside in omega (arith, length-drop (at + 1) text)

pub token_within : (text : List ℕ) (at n : ℕ) (t : Token) → Stands text at (pieces.Token t n) → at + (1 + n) ≤ length text
token_within text at n t s = let w : n ≤ length (drop (at + 1) text) = s.within in let i = s.inside in omega (arith, length-drop (at + 1) text)

-- What is read, and what is still to be read, are the whole after each step.
pub after_gap : (read whole : List PlacedToken) (text : List ℕ) (at n : ℕ) → Stands text at (pieces.Gap n)
    → read ++ tokens_from 0 at (drop at text) ≡ whole → read ++ tokens_from 0 (at + (1 + n)) (drop (at + (1 + n)) text) ≡ whole
after_gap read whole text at n s e = ap (λ ts. read ++ ts) (sym (past_gap text at n s.inside s.piece s.within)) ∙ e

pub after_token : (read whole : List PlacedToken) (text : List ℕ) (at n : ℕ) (t : Token) → Stands text at (pieces.Token t n)
    → read ++ tokens_from 0 at (drop at text) ≡ whole → (read ++ placed t at ∷ []) ++ tokens_from 0 (at + (1 + n)) (drop (at + (1 + n)) text) ≡ whole
after_token read whole text at n t s e =
    append_assoc read (placed t at ∷ []) (tokens_from 0 (at + (1 + n)) (drop (at + (1 + n)) text)) ∙ ap (λ ts. read ++ ts) (sym (past_token text at n t s.inside s.piece s.within)) ∙ e

pub after_bad : (read whole : List PlacedToken) (text : List ℕ) (at : ℕ) → Stands text at pieces.Bad
    → read ++ tokens_from 0 at (drop at text) ≡ whole → read ++ placed tokens.Bad at ∷ [] ≡ whole
after_bad read whole text at s e = ap (λ ts. read ++ ts) (sym (at_bad text at s.inside s.piece)) ∙ e

pub after_all : (read whole : List PlacedToken) (text : List ℕ) (at : ℕ) → length text ≤ at → at ≤ length text
    → read ++ tokens_from 0 at (drop at text) ≡ whole → read ++ placed tokens.End (length text) ∷ [] ≡ whole
after_all read whole text at h k e =
    let same : length text ≡ at = omega arith in
    ap (λ n. read ++ placed tokens.End n ∷ []) same ∙ ap (λ ts. read ++ ts) (sym (at_end text at h)) ∙ e
