-- A type of documents whose names may stand in strings is writable.
use Rattle.std.proofs.Common.{◌≡◌, ℕ, zero, suc, ◌≤◌, true, List, [], ◌∷◌, arith, refl}
use Rattle.texts.specs.Keys.{has_name, is_rising}
use Rattle.doc_values.specs.Types.{TyTree, ty_unit, ty_bool, ty_int, ty_text, ty_enum, ty_rec, ty_alt, ty_list, ty_keyed, ty_ordered, FieldTrees, no_fields, more_fields, height, highest, names_of, are_choices, is_well_formed, are_well_formed}
use Rattle.program_tokens.specs.Tokens.{tokens_of}
use Rattle.program_tokens.specs.declared.token.Token.TheVariants as tokens
use Rattle.program_tokens.proofs.FirstToken.{lex_end}
use Rattle.texts.proofs.Conjunction.{split}
use Rattle.program_grammar.specs.Mentions.{Point}
use Rattle.program_grammar.specs.Spelling.{Is, IsType}
use Rattle.program_writing.specs.Canonical.{term_of_type, terms_of_fields, canonical_type}
use Rattle.program_writing.specs.Writable.{IsNotEmpty, HasFields, IsWritableType, AreWritableFields, IsSpeakable, AreSpeakable}
use Rattle.program_writing.proofs.CanonicalTokens.{a_type}
use Rattle.program_writing.proofs.TextSteps.{before}

pub has_level : (t : TyTree) → 1 ≤ height t
has_level ty_unit = omega arith
has_level ty_bool = omega arith
has_level (ty_int z) = omega arith
has_level (ty_text s) = omega arith
has_level (ty_enum ms m) = omega arith
has_level (ty_rec fs) = omega arith
has_level (ty_alt fs) = omega arith
has_level (ty_list t) = omega arith
has_level (ty_keyed t) = omega arith
has_level (ty_ordered t) = omega arith

has_members : (ms : List (List ℕ)) → are_choices ms ≡ true → IsNotEmpty ms
has_members [] h = absurd cc
has_members (m ∷ ms) h = tt

has_tags : (fs : FieldTrees) → are_choices (names_of fs) ≡ true → HasFields (terms_of_fields fs)
has_tags no_fields h = absurd cc
has_tags (more_fields f t fs) h = tt

mutual
  writable : (n : ℕ) (t : TyTree) → height t ≤ n → is_well_formed t ≡ true → IsSpeakable t → IsWritableType n (term_of_type t)
  writable zero t h w s = absurd (omega (arith, has_level t))
  writable (suc n) ty_unit h w s = tt
  writable (suc n) ty_bool h w s = tt
  writable (suc n) (ty_int z) h w s = s
  writable (suc n) (ty_text m) h w s = s
  writable (suc n) (ty_enum ms m) h w s = (has_members ms (split (are_choices ms) (has_name m ms) w).0, s.0, s.1)
  writable (suc n) (ty_rec fs) h w s = let k : highest fs ≤ n = omega arith in all_writable n fs k (split (is_rising (names_of fs)) (are_well_formed fs) w).1 s
  writable (suc n) (ty_alt fs) h w s =
      let k : highest fs ≤ n = omega arith in
      let p = split (are_choices (names_of fs)) (are_well_formed fs) w in
      (has_tags fs p.0, all_writable n fs k p.1 s)
  writable (suc n) (ty_list t) h w s = let k : height t ≤ n = omega arith in writable n t k w s
  writable (suc n) (ty_keyed t) h w s = let k : height t ≤ n = omega arith in writable n t k w s
  writable (suc n) (ty_ordered t) h w s = let k : height t ≤ n = omega arith in writable n t k w s

  all_writable : (n : ℕ) (fs : FieldTrees) → highest fs ≤ n → are_well_formed fs ≡ true → AreSpeakable fs → AreWritableFields n (terms_of_fields fs)
  all_writable n no_fields h w s = tt
  all_writable n (more_fields f t fs) h w s =
      let one : height t ≤ n = omega arith in
      let others : highest fs ≤ n = omega arith in
      let p = split (is_well_formed t) (are_well_formed fs) w in
      (s.0, writable n t one p.0 s.1, all_writable n fs others p.1 s.2)

-- The text of such a type spells it, and the text ends behind it.
pub type_spelt : (t : TyTree) → IsSpeakable t → is_well_formed t ≡ true → height t ≤ 100 → (a : Point) × IsType 100 (term_of_type t) ([], tokens_of (canonical_type t)) a × Is tokens.End a (a.0, [])
type_spelt t s w h =
    let r = (a_type 100 (term_of_type t) [] (writable 100 t h w s) tt).from [] 0 in
    (before r.0.0 r.0.1 [], r.1, record { at = r.0.1; names = refl; parts = lex_end r.0.1 })
