-- The programs of a program part, as a loop over its pieces reads them.
use Rattle.std.proofs.Common.{◌≡◌, ℕ, ◌+◌, ◌<◌, ◌≤◌, List, [], ◌∷◌, ◌++◌, append_assoc, append-nil, length, drop, get_or, map, Option, Some, None, option_map, refl, sym, ap, subst, ◌∙◌, arith}
use Rattle.std.specs.Prelude.{option_and_then}
use Rattle.std.proofs.lemmas.List.{drop_all, map-append}
use Rattle.program_terms.specs.Terms.{ProgramTree}
use Rattle.program_terms.specs.Views.{program_tree}
use Rattle.program_terms.specs.declared.program.Program.{Program}
use Rattle.script_input.specs.Parts.{HoldsPart}
use Rattle.script_input.specs.declared.script.ProgramText.{ProgramText}
use Rattle.hub_run.specs.HeldPieces.{HoldsEach}
use Rattle.hub_run.specs.PiecePrograms.{program_of_piece, programs_of_pieces}
use Rattle.hub_run.proofs.FoundLoops.{PieceAt, each_length, piece_at}

-- ---- pieces, one after another

-- these programs, and behind them those of the pieces
abbrev pub behind : List ProgramTree → List (List ℕ) → Option (List ProgramTree)
behind before [] = Some before
behind before (piece ∷ pieces) = option_and_then (λ p. behind (before ++ p ∷ []) pieces) (program_of_piece piece)

in_front : (before : List ProgramTree) (p : ProgramTree) (o : Option (List ProgramTree)) → option_map (λ rest. (before ++ p ∷ []) ++ rest) o ≡ option_map (λ rest. before ++ rest) (option_map (λ ps. p ∷ ps) o)
in_front before p (Some ps) = ap Some (append_assoc before (p ∷ []) ps)
in_front before p None = refl

behind_is : (before : List ProgramTree) (pieces : List (List ℕ)) → behind before pieces ≡ option_map (λ rest. before ++ rest) (programs_of_pieces pieces)
behind_is before [] = ap Some (sym (append-nil before))
behind_is before (piece ∷ pieces) = by_program (program_of_piece piece) (λ p. behind_is (before ++ p ∷ []) pieces) where
  by_program : (o : Option ProgramTree) → ((p : ProgramTree) → behind (before ++ p ∷ []) pieces ≡ option_map (λ rest. (before ++ p ∷ []) ++ rest) (programs_of_pieces pieces)) → option_and_then (λ p. behind (before ++ p ∷ []) pieces) o ≡ option_map (λ rest. before ++ rest) (option_and_then (λ p. option_map (λ ps. p ∷ ps) (programs_of_pieces pieces)) o)
  by_program (Some p) next = next p ∙ in_front before p (programs_of_pieces pieces)
  by_program None next = refl

pub all_are : (pieces : List (List ℕ)) → behind [] pieces ≡ programs_of_pieces pieces
all_are pieces = behind_is [] pieces ∙ by_answer (programs_of_pieces pieces) where
  by_answer : (o : Option (List ProgramTree)) → option_map (λ rest. [] ++ rest) o ≡ o
  by_answer (Some ps) = refl
  by_answer None = refl

pub next_program : (kept : List ProgramText) (pieces : List (List ℕ)) (i : ℕ) (k : ProgramText) (before after : List Program) (program : Program) → i < length kept → k ≡ get_or kept i k → HoldsEach kept pieces
    → ((text : List ℕ) → HoldsPart k text → Some (program_tree program) ≡ program_of_piece text) → after ≡ before ++ program ∷ []
    → behind (map program_tree after) (drop (i + 1) pieces) ≡ behind (map program_tree before) (drop i pieces)
next_program kept pieces i k before after program within k_is holds found more =
    let p = subst (λ q. PieceAt q pieces i) (sym k_is) (piece_at kept pieces i k within holds) in
    let rest = drop (i + 1) pieces in
    sym (ap (behind (map program_tree before)) p.is ∙ ap (option_and_then (λ q. behind (map program_tree before ++ q ∷ []) rest)) (sym (found p.text p.holds))
    ∙ ap (λ ps. behind ps rest) (sym (ap (map program_tree) more ∙ map-append program_tree before (program ∷ []))))

pub programs_end : (kept : List ProgramText) (pieces : List (List ℕ)) (i : ℕ) (before : List Program) → length kept ≤ i → HoldsEach kept pieces → behind (map program_tree before) (drop i pieces) ≡ Some (map program_tree before)
programs_end kept pieces i before past holds = ap (behind (map program_tree before)) (drop_all i pieces (omega (arith, past, each_length kept pieces holds)))

-- ---- the last piece

pub programs_joined : (before after : List Program) (program : Program) → after ≡ before ++ program ∷ [] → Some (map program_tree after) ≡ Some (map program_tree before ++ program_tree program ∷ [])
programs_joined before after program more = ap Some (ap (map program_tree) more ∙ map-append program_tree before (program ∷ []))

-- the programs of pieces with one more
abbrev with_last : Option ProgramTree → List ProgramTree → Option (List ProgramTree)
with_last o ps = option_map (λ p. ps ++ p ∷ []) o

pass : (q : ProgramTree) (o : Option ProgramTree) (all : Option (List ProgramTree)) → option_map (λ ps. q ∷ ps) (option_and_then (with_last o) all) ≡ option_and_then (with_last o) (option_map (λ ps. q ∷ ps) all)
pass q (Some p) (Some ps) = refl
pass q None (Some ps) = refl
pass q o None = refl

snoc : (pieces : List (List ℕ)) (last : List ℕ) → programs_of_pieces (pieces ++ last ∷ []) ≡ option_and_then (with_last (program_of_piece last)) (programs_of_pieces pieces)
snoc [] last = by_program (program_of_piece last) where
  by_program : (o : Option ProgramTree) → option_and_then (λ p. option_map (λ ps. p ∷ ps) (Some [])) o ≡ with_last o []
  by_program (Some p) = refl
  by_program None = refl
snoc (piece ∷ pieces) last = by_first (program_of_piece piece) (snoc pieces last) where
  by_first : (o : Option ProgramTree) → programs_of_pieces (pieces ++ last ∷ []) ≡ option_and_then (with_last (program_of_piece last)) (programs_of_pieces pieces) → option_and_then (λ p. option_map (λ ps. p ∷ ps) (programs_of_pieces (pieces ++ last ∷ []))) o
      ≡ option_and_then (with_last (program_of_piece last)) (option_and_then (λ p. option_map (λ ps. p ∷ ps) (programs_of_pieces pieces)) o)
  by_first (Some q) next = ap (option_map (λ ps. q ∷ ps)) next ∙ pass q (program_of_piece last) (programs_of_pieces pieces)
  by_first None next = refl

-- the programs of all pieces, where those of the ended ones are known
pub all_with_last : (pieces : List (List ℕ)) (last : List ℕ) (ps : List ProgramTree) → Some ps ≡ programs_of_pieces pieces → option_map (λ p. ps ++ p ∷ []) (program_of_piece last) ≡ programs_of_pieces (pieces ++ last ∷ [])
all_with_last pieces last ps found = ap (option_and_then (with_last (program_of_piece last))) found ∙ sym (snoc pieces last)
