-- Pieces as the code lists them.
use Rattle.std.proofs.Common.{◌≡◌, ℕ, ◌+◌, ◌<◌, Bool, true, false, List, [], ◌∷◌, ◌++◌, length, drop, get_or, refl, sym, ap, ◌∙◌, arith}
use Rattle.std.specs.Prelude.{nat_eq, if◌then◌else◌}
use Rattle.std.proofs.lemmas.Bool.Decides.{nat_tests}
use Rattle.std.proofs.lemmas.List.{append_assoc, append-nil}
use Rattle.texts.specs.Characters.{character_count}
use Rattle.bridge_texts.specs.declared.run.Run.{Run}
use Rattle.bridge_texts.specs.declared.run.Run.TheVariants.{Kept, Added, Gone}
use Rattle.bridge_texts.specs.Runs.{Piece, piece, pieces}
use Rattle.bridge_texts.proofs.Built.{next-run}

-- nothing, and something
pub piece-none : (at k : ℕ) (x : List ℕ) (ps : List Piece) → k ≡ 0 → length x ≡ 0 → ps ≡ ps ++ piece at k x
piece-none at k [] ps h e =
    let none : nat_eq k 0 ≡ true = grind (arith, nat_tests) in
    sym (ap (λ (b : Bool). ps ++ (if b then [] else (at, k, []) ∷ [])) none ∙ append-nil ps)
piece-none at k (c ∷ x) ps h e = absurd (omega arith)

some-go : (b : Bool) (at k : ℕ) (ps : List Piece) → nat_eq k 0 ≡ b → (k ≡ 0 → ⊥) → ps ++ (at, k, []) ∷ [] ≡ ps ++ (if b then [] else (at, k, []) ∷ [])
some-go true at k ps t h = absurd (h (grind (arith, nat_tests)))
some-go false at k ps t h = refl

pub piece-one : (at k : ℕ) (x : List ℕ) (ps : List Piece) → (k ≡ 0 → length x ≡ 0 → ⊥) → ps ++ (at, k, x) ∷ [] ≡ ps ++ piece at k x
piece-one at k [] ps h = some-go (nat_eq k 0) at k ps refl (λ z. h z refl)
piece-one at k (c ∷ x) ps h = refl

-- one run more
pub pieces-kept : (rs : List Run) (i at k n : ℕ) (x : List ℕ) (d : Run) (ps whole : List Piece) → i < length rs → get_or rs i d ≡ Kept n → ps ++ pieces at k x (drop i rs) ≡ whole
    → ps ++ pieces at (k + n) x (drop (i + 1) rs) ≡ whole
pieces-kept rs i at k n x d ps whole p g h = sym (ap (λ (l : List Run). ps ++ pieces at k x l) (next-run rs i d p ∙ ap (λ (q : Run). q ∷ drop (i + 1) rs) g)) ∙ h

pub pieces-gone : (rs : List Run) (i at k n : ℕ) (x : List ℕ) (d : Run) (ps whole : List Piece) → i < length rs → get_or rs i d ≡ Gone n → ps ++ pieces at k x (drop i rs) ≡ whole
    → ps ++ pieces at k x (drop (i + 1) rs) ≡ whole
pieces-gone rs i at k n x d ps whole p g h = sym (ap (λ (l : List Run). ps ++ pieces at k x l) (next-run rs i d p ∙ ap (λ (q : Run). q ∷ drop (i + 1) rs) g)) ∙ h

pub pieces-added : (rs : List Run) (i at k n : ℕ) (x : List ℕ) (d : Run) (ps whole : List Piece) → i < length rs → get_or rs i d ≡ Added n → ps ++ pieces at k x (drop i rs) ≡ whole
    → (ps ++ piece at k x) ++ pieces (at + (character_count x + n)) 0 [] (drop (i + 1) rs) ≡ whole
pieces-added rs i at k n x d ps whole p g h =
    append_assoc ps (piece at k x) (pieces (at + (character_count x + n)) 0 [] (drop (i + 1) rs))
    ∙ (sym (ap (λ (l : List Run). ps ++ pieces at k x l) (next-run rs i d p ∙ ap (λ (q : Run). q ∷ drop (i + 1) rs) g)) ∙ h)

pub ruleset piece_rules = (piece-none, piece-one, pieces-kept, pieces-gone, pieces-added)
