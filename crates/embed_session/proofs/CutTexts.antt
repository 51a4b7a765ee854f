-- A text that is cut at each LF, byte by byte.
use Rattle.std.proofs.Common.{◌≡◌, ◌<◌, ℕ, List, [], ◌∷◌, ◌++◌, length, Bool, true, false, refl, ap, append_assoc, arith}
use Rattle.std.specs.Prelude.{◌==◌}
use Rattle.std.proofs.lemmas.Bool.{eqb-true}
use Rattle.std.specs.List.{onto_first}
use Rattle.edit_journal.specs.Pieces.{texts_of}
use Rattle.embed_session.specs.Cutting.{onto}

-- an LF behind the bytes ends them
pub onto_empty : (begun : List ℕ) (texts : List (List ℕ)) → onto begun ([] ∷ texts) ≡ begun ∷ texts
onto_empty [] texts = refl
onto_empty (byte ∷ begun) texts = ap (onto_first byte) (onto_empty begun texts)

-- any other byte continues them
pub onto_longer : (begun : List ℕ) (byte : ℕ) (texts : List (List ℕ)) → onto begun (onto_first byte texts) ≡ onto (begun ++ byte ∷ []) texts
onto_longer [] byte texts = refl
onto_longer (first ∷ begun) byte texts = ap (onto_first first) (onto_longer begun byte texts)

-- bytes with nothing behind them are a text, unless there are none
pub onto_nothing : (begun : List ℕ) → 0 < length begun → onto begun [] ≡ begun ∷ []
onto_nothing [] some = absurd (omega (arith, some))
onto_nothing (byte ∷ []) some = refl
onto_nothing (byte ∷ next ∷ begun) some = ap (onto_first byte) (onto_nothing (next ∷ begun) (omega arith))

-- ---- one byte

pub cut_byte : (texts : List (List ℕ)) (begun : List ℕ) (byte : ℕ) (rest : List ℕ) → byte ≡ 10
    → (texts ++ begun ∷ []) ++ texts_of rest ≡ texts ++ onto begun (texts_of (byte ∷ rest))
cut_byte texts begun byte rest is = rw (is, onto_empty begun (texts_of rest)) (append_assoc texts (begun ∷ []) (texts_of rest))

pub other_byte : (texts : List (List ℕ)) (begun : List ℕ) (byte : ℕ) (rest : List ℕ) → (byte ≡ 10 → ⊥)
    → texts ++ onto (begun ++ byte ∷ []) (texts_of rest) ≡ texts ++ onto begun (texts_of (byte ∷ rest))
other_byte texts begun byte rest other = by_test (byte == 10) refl where
  by_test : (b : Bool) → (byte == 10) ≡ b → texts ++ onto (begun ++ byte ∷ []) (texts_of rest) ≡ texts ++ onto begun (texts_of (byte ∷ rest))
  by_test true e = absurd (other (eqb-true byte 10 e))
  by_test false e = rw (e, onto_longer begun byte (texts_of rest)) refl
