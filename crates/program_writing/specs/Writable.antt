-- What the grammar can say: the programs and types that have a text.
-- From the end: `IsSpeakable` for types, `IsWritable` for programs.
use Rattle.std.specs.Prelude.{◌≡◌, ◌⊎◌, ◌<◌, ◌^◌, ℕ, zero, suc, true, List, [], ◌∷◌}
use lib.IntN.{ℤ}
use lib.Signed.{mag}
use Rattle.program_tokens.specs.Words.{is_name, is_text}
use Rattle.program_terms.specs.Terms.{TypeTree, TermFields, unit, bool, int, text, enum_of, record_of, one_of, list}
use Rattle.program_terms.specs.Terms.{keyed, tree, named, no_fields, more_fields, LensTree, id_of, bij_of, disc_of}
use Rattle.program_terms.specs.Terms.{then_of, rec_lens, alt_lens, each_of, keyed_each, tree_each, part_of, inv_of}
use Rattle.program_terms.specs.Terms.{named_lens, TermRows, no_rows, both, only_left, only_right, TermArms, no_arms}
use Rattle.program_terms.specs.Terms.{more_arms, DefTree, type_def, lens_def, ProgramTree}
use Rattle.doc_values.specs.Types.{TyTree, ty_unit, ty_bool, ty_int, ty_text, ty_enum, ty_rec, ty_alt, ty_list}
use Rattle.doc_values.specs.Types.{ty_keyed, ty_ordered}
use Rattle.doc_values.specs.Types as of_documents

-- it is a name; a string may hold it
abbrev pub IsName : List ℕ → Type 0
IsName n = is_name n ≡ true

abbrev pub IsText : List ℕ → Type 0
IsText s = is_text s ≡ true

-- a string may hold the initial value of `text`, or it is the empty text and left out
abbrev pub IsInitialText : List ℕ → Type 0
IsInitialText s = (s ≡ []) ⊎ IsText s

-- the initial value of `int` is in i64
abbrev pub IsInitialNumber : ℤ → Type 0
IsInitialNumber z = mag z < 2 ^ 63

abbrev pub AreTexts : List (List ℕ) → Type 0
AreTexts [] = Unit {0}
AreTexts (s ∷ ss) = IsText s × AreTexts ss

abbrev pub ArePairsOfTexts : List (List ℕ × List ℕ) → Type 0
ArePairsOfTexts [] = Unit {0}
ArePairsOfTexts (p ∷ ps) = IsText p.0 × IsText p.1 × ArePairsOfTexts ps

-- at least one
abbrev pub IsNotEmpty : {A : Type 0} → List A → Type 0
IsNotEmpty [] = ⊥
IsNotEmpty (x ∷ xs) = Unit {0}

abbrev pub HasFields : TermFields → Type 0
HasFields no_fields = ⊥
HasFields (more_fields f t fs) = Unit {0}

abbrev pub HasArms : TermArms → Type 0
HasArms no_arms = ⊥
HasArms (more_arms f g l arms) = Unit {0}

-- A type with at most n types and lenses nested, itself among them. Members, fields and tags may stand in strings, and
-- so may the initial value of an enum. A name is one. An enum and alternatives are not empty.
abbrev mutual
  pub IsWritableType : ℕ → TypeTree → Type 0
  IsWritableType zero t = ⊥
  IsWritableType (suc n) unit = Unit {0}
  IsWritableType (suc n) bool = Unit {0}
  IsWritableType (suc n) (int z) = IsInitialNumber z
  IsWritableType (suc n) (text s) = IsInitialText s
  IsWritableType (suc n) (enum_of ms m) = IsNotEmpty ms × AreTexts ms × IsText m
  IsWritableType (suc n) (record_of fs) = AreWritableFields n fs
  IsWritableType (suc n) (one_of fs) = HasFields fs × AreWritableFields n fs
  IsWritableType (suc n) (list t) = IsWritableType n t
  IsWritableType (suc n) (keyed t) = IsWritableType n t
  IsWritableType (suc n) (tree t) = IsWritableType n t
  IsWritableType (suc n) (named m) = IsName m

  pub AreWritableFields : ℕ → TermFields → Type 0
  AreWritableFields n no_fields = Unit {0}
  AreWritableFields n (more_fields f t fs) = IsText f × IsWritableType n t × AreWritableFields n fs

-- a lens likewise; the pairs of a bijection and its initial value may stand in strings, and there is a pair
abbrev mutual
  pub IsWritableLens : ℕ → LensTree → Type 0
  IsWritableLens zero l = ⊥
  IsWritableLens (suc n) (id_of t) = IsWritableType n t
  IsWritableLens (suc n) (disc_of t u) = IsWritableType n t × IsWritableType n u
  IsWritableLens (suc n) (bij_of ps m) = IsNotEmpty ps × ArePairsOfTexts ps × IsText m
  IsWritableLens (suc n) (then_of l k) = IsWritableLens n l × IsWritableLens n k
  IsWritableLens (suc n) (rec_lens rows) = AreWritableRows n rows
  IsWritableLens (suc n) (alt_lens arms) = HasArms arms × AreWritableArms n arms
  IsWritableLens (suc n) (each_of l) = IsWritableLens n l
  IsWritableLens (suc n) (keyed_each l) = IsWritableLens n l
  IsWritableLens (suc n) (tree_each l) = IsWritableLens n l
  IsWritableLens (suc n) (part_of fs) = HasFields fs × AreWritableFields n fs
  IsWritableLens (suc n) (inv_of l) = IsWritableLens n l
  IsWritableLens (suc n) (named_lens m) = IsName m

  pub AreWritableRows : ℕ → TermRows → Type 0
  AreWritableRows n no_rows = Unit {0}
  AreWritableRows n (both f g l rows) = IsText f × IsText g × IsWritableLens n l × AreWritableRows n rows
  AreWritableRows n (only_left f t rows) = IsText f × IsWritableType n t × AreWritableRows n rows
  AreWritableRows n (only_right f t rows) = IsText f × IsWritableType n t × AreWritableRows n rows

  pub AreWritableArms : ℕ → TermArms → Type 0
  AreWritableArms n no_arms = Unit {0}
  AreWritableArms n (more_arms f g l arms) = IsText f × IsText g × IsWritableLens n l × AreWritableArms n arms

-- a definition: 100 types and lenses may be nested
abbrev pub IsWritableTerm : DefTree → Type 0
IsWritableTerm (type_def t) = IsWritableType 100 t
IsWritableTerm (lens_def l) = IsWritableLens 100 l

abbrev pub AreWritableDefinitions : List (List ℕ × DefTree) → Type 0
AreWritableDefinitions [] = Unit {0}
AreWritableDefinitions (d ∷ ds) = IsName d.0 × IsWritableTerm d.1 × AreWritableDefinitions ds

-- a program: each name that is defined is one, and each term is writable
abbrev pub IsWritable : ProgramTree → Type 0
IsWritable p = AreWritableDefinitions p.definitions × IsWritableLens 100 p.main

-- a type of documents in which a string may hold each member, field and tag, and each initial value may be written
abbrev mutual
  pub IsSpeakable : TyTree → Type 0
  IsSpeakable ty_unit = Unit {0}
  IsSpeakable ty_bool = Unit {0}
  IsSpeakable (ty_int z) = IsInitialNumber z
  IsSpeakable (ty_text s) = IsInitialText s
  IsSpeakable (ty_enum ms m) = AreTexts ms × IsText m
  IsSpeakable (ty_rec fs) = AreSpeakable fs
  IsSpeakable (ty_alt fs) = AreSpeakable fs
  IsSpeakable (ty_list t) = IsSpeakable t
  IsSpeakable (ty_keyed t) = IsSpeakable t
  IsSpeakable (ty_ordered t) = IsSpeakable t

  pub AreSpeakable : of_documents.FieldTrees → Type 0
  AreSpeakable of_documents.no_fields = Unit {0}
  AreSpeakable (of_documents.more_fields f t fs) = IsText f × IsSpeakable t × AreSpeakable fs
