-- The lines of a journal that is cut between lines.
use Rattle.std.proofs.Common.{◌≡◌, inl, inr, ℕ, List, [], ◌∷◌, ◌++◌, Bool, true, false, cond, refl, sym, ap, ◌∙◌, append_assoc}
use Rattle.std.specs.Prelude.{map, ◌==◌}
use Rattle.std.specs.List.{onto_first}
use Rattle.std.proofs.lemmas.List.{map-append}
use Rattle.edit_journal.specs.Lines.{line_of}
use Rattle.edit_journal.specs.Pieces.{texts_of, lines_of}
use Rattle.law_stores.specs.CutStores.{EndsALine}

-- ---- texts

-- the texts behind a last LF follow those in front of it, of which there is a first one
record CutBehind (bytes : List ℕ) : Type 0 where
  first : List ℕ
  others : List (List ℕ)
  is : (more : List ℕ) → texts_of (bytes ++ 10 ∷ more) ≡ first ∷ (others ++ texts_of more)

one_byte_more : (byte : ℕ) (bytes : List ℕ) (b : Bool) → byte == 10 ≡ b → CutBehind bytes → CutBehind (byte ∷ bytes)
one_byte_more byte bytes true e k = record {
  first = [];
  others = k.first ∷ k.others;
  is = λ more. ap (λ b. cond b ([] ∷ texts_of (bytes ++ 10 ∷ more)) (onto_first byte (texts_of (bytes ++ 10 ∷ more)))) e ∙ ap (λ l. [] ∷ l) (k.is more);
}
one_byte_more byte bytes false e k = record {
  first = byte ∷ k.first;
  others = k.others;
  is = λ more. ap (λ b. cond b ([] ∷ texts_of (bytes ++ 10 ∷ more)) (onto_first byte (texts_of (bytes ++ 10 ∷ more)))) e ∙ ap (onto_first byte) (k.is more);
}

cut_behind : (bytes : List ℕ) → CutBehind bytes
cut_behind [] = record { first = []; others = []; is = λ more. refl }
cut_behind (byte ∷ bytes) = one_byte_more byte bytes (byte == 10) refl (cut_behind bytes)

texts_joined : (text more : List ℕ) → texts_of ((text ++ 10 ∷ []) ++ more) ≡ texts_of (text ++ 10 ∷ []) ++ texts_of more
texts_joined text more =
    let k = cut_behind text in
    ap texts_of (append_assoc text (10 ∷ []) more)
    ∙ k.is more
    ∙ sym (ap (λ l. l ++ texts_of more) (k.is []) ∙ ap (λ l. k.first ∷ l) (append_assoc k.others [] (texts_of more)))

-- ---- lines

pub lines_joined : (bytes more : List ℕ) → EndsALine bytes → lines_of (bytes ++ more) ≡ lines_of bytes ++ lines_of more
lines_joined bytes more (inl none) = ap (λ l. lines_of (l ++ more)) none ∙ sym (ap (λ l. lines_of l ++ lines_of more) none)
lines_joined bytes more (inr ends) =
    let text = ends.0 ++ 10 ∷ [] in
    ap (λ l. lines_of (l ++ more)) ends.1
    ∙ ap (map line_of) (texts_joined ends.0 more)
    ∙ map-append line_of (texts_of text) (texts_of more)
    ∙ sym (ap (λ l. lines_of l ++ lines_of more) ends.1)
