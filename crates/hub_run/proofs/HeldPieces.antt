-- What is added to the pieces of a program part.
use Rattle.std.proofs.Common.{◌≡◌, ℕ, suc, ◌+◌, ◌<◌, ◌≤◌, List, [], ◌∷◌, ◌++◌, length, Bool, true, false, refl, ap, arith, length-append}
use Rattle.std.specs.Prelude.{bytes_eq, codes, ◌||◌}
use Rattle.hub_run.specs.Pieces.{is_cut}
use Rattle.script_input.specs.Parts.{HoldsPart}
use Rattle.hub_run.specs.HeldPieces.{HoldsEach, HoldsUnless}
use Rattle.script_input.specs.declared.script.ProgramText.{ProgramText}
use Rattle.hub_run.specs.declared.pieces.TheConstants.{MOST_VIEWS}
use Rattle.texts.proofs.Tests.{bytes_eq-is}

-- ---- which lines are cuts

few : (text : List ℕ) → is_cut text ≡ true → length text ≤ 4
few text h = by_tests (bytes_eq text (codes "+++")) (bytes_eq text (codes "+++" ++ 13 ∷ [])) (λ e. bytes_eq-is text (codes "+++") e) (λ e. bytes_eq-is text (codes "+++" ++ 13 ∷ []) e) h where
  by_tests : (b c : Bool) → (b ≡ true → text ≡ codes "+++") → (c ≡ true → text ≡ codes "+++" ++ 13 ∷ []) → (b || c) ≡ true → length text ≤ 4
  by_tests true c p q e = omega (arith, ap length (p refl))
  by_tests false c p q e = omega (arith, ap length (q e))

-- ---- all pieces

each_length : (kept : List ProgramText) (pieces : List (List ℕ)) → HoldsEach kept pieces → length kept ≡ length pieces
each_length [] [] h = refl
each_length [] (piece ∷ pieces) h = absurd h
each_length (k ∷ kept) [] h = absurd h
each_length (k ∷ kept) (piece ∷ pieces) h = ap suc (each_length kept pieces h.1)

each_more : (kept : List ProgramText) (last : ProgramText) (pieces : List (List ℕ)) (begun : List ℕ) → HoldsEach kept pieces → HoldsPart last begun → HoldsEach (kept ++ last ∷ []) (pieces ++ begun ∷ [])
each_more [] last [] begun h l = (l, tt)
each_more [] last (piece ∷ pieces) begun h l = absurd h
each_more (k ∷ kept) last [] begun h l = absurd h
each_more (k ∷ kept) last (piece ∷ pieces) begun h l = (h.0, each_more kept last pieces begun h.1 l)

-- a cut after which there are too many
pub cut_many : (b : Bool) (kept : List ProgramText) (last : ProgramText) (ended : List (List ℕ)) (begun : List ℕ) → b ≡ false → HoldsUnless b kept last ended begun → MOST_VIEWS ≤ length kept + 1 → MOST_VIEWS ≤ length (ended ++ begun ∷ [])
cut_many true kept last ended begun is h long = cc
cut_many false kept last ended begun is h long = omega (arith, long, each_length kept ended h.1, length-append ended (begun ∷ []))

-- any other
pub cut_few : (b : Bool) (kept : List ProgramText) (last new : ProgramText) (ended : List (List ℕ)) (begun : List ℕ) → b ≡ false → HoldsUnless b kept last ended begun → length kept + 1 < MOST_VIEWS → HoldsPart new []
    → HoldsUnless b (kept ++ last ∷ []) new (ended ++ begun ∷ []) []
cut_few true kept last new ended begun is h short empty = cc
cut_few false kept last new ended begun is h short empty = (omega (arith, short, each_length kept ended h.1, length-append ended (begun ∷ [])), each_more kept last ended begun h.1 h.2, empty)

-- ---- after a line
