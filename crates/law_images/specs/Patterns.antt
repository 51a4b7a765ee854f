-- Patterns of documents: documents with holes. Which documents are in a pattern, and which patterns are of a type.
-- In order: `PatternTree`, `Matches`, `is_of_type`, `pattern_of`, and `pattern_tree`, the tree that contracts see a
-- pattern as.
use Rattle.std.specs.Prelude.{◌≡◌, IsTrue, ℕ, ◌+◌, ℤ, Bool, true, false, ◌&&◌, List, [], ◌∷◌, None, Some}
use Rattle.texts.specs.Keys.{has_name}
use Rattle.hold_shapes.specs.declared.shape.Shape.{Shape}
use Rattle.doc_values.specs.Documents.{DocTree, unit, truth, int, text, pick, rec, alt, hold, DocTrees, no_docs}
use Rattle.doc_values.specs.Documents.{more_docs}
use Rattle.doc_values.specs.Types.{TyTree, ty_unit, ty_bool, ty_int, ty_text, ty_enum, ty_rec, ty_alt, ty_list}
use Rattle.doc_values.specs.Types.{ty_keyed, ty_ordered, FieldTrees, no_fields, more_fields}
use Rattle.doc_values.specs.Typing.{has, lookup_type, is_list_of, is_keyed_of, is_tree_of}
use Rattle.law_images.specs.declared.pattern.Pattern.{Pattern, fold-Pattern}
use Rattle.law_images.specs.declared.pattern.Patterns.{Patterns, fold-Patterns}
use Rattle.law_images.specs.declared.pattern.Pattern.TheOpen.{Pattern-F, Patterns-F}

-- a hole, or the outermost constructor of a document with patterns inside
mutual
  pub data PatternTree : Type 0 where
    hole : PatternTree
    unit_pattern : PatternTree
    truth_pattern : Bool → PatternTree
    int_pattern : ℤ → PatternTree
    text_pattern : List ℕ → PatternTree
    pick_pattern : List ℕ → PatternTree
    rec_pattern : PatternTrees → PatternTree
    alt_pattern : List ℕ → PatternTree → PatternTree
    hold_pattern : Shape → PatternTrees → PatternTree

  pub data PatternTrees : Type 0 where
    no_patterns : PatternTrees
    more_patterns : PatternTree → PatternTrees → PatternTrees

-- how many patterns there are
abbrev pub pattern_count : PatternTrees → ℕ
pattern_count no_patterns = 0
pattern_count (more_patterns p ps) = pattern_count ps + 1

-- the patterns with the names of the fields, in the order of the fields
abbrev pub in_order : FieldTrees → (List ℕ → PatternTree) → PatternTrees
in_order no_fields at = no_patterns
in_order (more_fields n t fs) at = more_patterns (at n) (in_order fs at)

-- ---- the documents in a pattern

-- the document differs from the pattern only where the pattern has holes; of its type nothing is said
abbrev mutual
  pub Matches : PatternTree → DocTree → Type 0
  Matches hole v = Unit {0}
  Matches unit_pattern v = v ≡ unit
  Matches (truth_pattern b) v = v ≡ truth b
  Matches (int_pattern n) v = v ≡ int n
  Matches (text_pattern s) v = v ≡ text s
  Matches (pick_pattern n) v = v ≡ pick n
  Matches (rec_pattern ps) v = (ds : DocTrees) × (v ≡ rec ds) × MatchEach ps ds
  Matches (alt_pattern n p) v = (d : DocTree) × (v ≡ alt n d) × Matches p d
  Matches (hold_pattern s ps) v = (ds : DocTrees) × (v ≡ hold s ds) × MatchEach ps ds

  -- as many documents as patterns, each in its pattern
  pub MatchEach : PatternTrees → DocTrees → Type 0
  MatchEach no_patterns no_docs = Unit {0}
  MatchEach no_patterns (more_docs d ds) = ⊥
  MatchEach (more_patterns p ps) no_docs = ⊥
  MatchEach (more_patterns p ps) (more_docs d ds) = Matches p d × MatchEach ps ds

-- the document has the type and is in the pattern
abbrev pub IsIn : TyTree → PatternTree → DocTree → Type 0
IsIn t p v = IsTrue (has t v) × Matches p v

-- some document of the type is in the pattern
abbrev pub HasSome : TyTree → PatternTree → Type 0
HasSome t p = (v : DocTree) × IsTrue (has t v) × Matches p v

-- ---- the patterns of a type

-- a hole, or the outermost constructor of a document of the type with patterns inside
abbrev mutual
  pub is_of_type : PatternTree → TyTree → Bool
  is_of_type hole t = true
  is_of_type unit_pattern ty_unit = true
  is_of_type (truth_pattern b) ty_bool = true
  is_of_type (int_pattern n) (ty_int z) = true
  is_of_type (text_pattern s) (ty_text z) = true
  is_of_type (pick_pattern n) (ty_enum ms z) = has_name n ms
  is_of_type (rec_pattern ps) (ty_rec fs) = are_of_fields ps fs
  is_of_type (alt_pattern n p) (ty_alt fs) = elim (lookup_type fs n) [ None ↦ false | Some t ↦ is_of_type p t ]
  is_of_type (hold_pattern s ps) (ty_list t) = is_list_of s (pattern_count ps) && are_of_type ps t
  is_of_type (hold_pattern s ps) (ty_keyed t) = is_keyed_of s (pattern_count ps) && are_of_type ps t
  is_of_type (hold_pattern s ps) (ty_ordered t) = is_tree_of s (pattern_count ps) && are_of_type ps t
  is_of_type _ _ = false

  -- as many patterns as fields, each of its field's type
  pub are_of_fields : PatternTrees → FieldTrees → Bool
  are_of_fields no_patterns no_fields = true
  are_of_fields (more_patterns p ps) (more_fields n t fs) = is_of_type p t && are_of_fields ps fs
  are_of_fields _ _ = false

  -- every pattern is of the type
  pub are_of_type : PatternTrees → TyTree → Bool
  are_of_type no_patterns t = true
  are_of_type (more_patterns p ps) t = is_of_type p t && are_of_type ps t

-- ---- a document as a pattern without holes

abbrev mutual
  pub pattern_of : DocTree → PatternTree
  pattern_of unit = unit_pattern
  pattern_of (truth b) = truth_pattern b
  pattern_of (int n) = int_pattern n
  pattern_of (text s) = text_pattern s
  pattern_of (pick n) = pick_pattern n
  pattern_of (rec ds) = rec_pattern (patterns_of ds)
  pattern_of (alt n d) = alt_pattern n (pattern_of d)
  pattern_of (hold s ds) = hold_pattern s (patterns_of ds)

  pub patterns_of : DocTrees → PatternTrees
  patterns_of no_docs = no_patterns
  patterns_of (more_docs d ds) = more_patterns (pattern_of d) (patterns_of ds)

-- ---- how contracts see a `Pattern`

-- a list of patterns as trees, and back
abbrev pub patterns_from : List PatternTree → PatternTrees
patterns_from [] = no_patterns
patterns_from (p ∷ ps) = more_patterns p (patterns_from ps)

abbrev pub pattern_list : PatternTrees → List PatternTree
pattern_list no_patterns = []
pattern_list (more_patterns p ps) = p ∷ pattern_list ps

-- one level of a `Pattern`, each pattern inside already seen as its tree
abbrev pub pattern_step : Pattern-F PatternTree PatternTrees → PatternTree
pattern_step Pattern-F.Hole = hole
pattern_step Pattern-F.Unit = unit_pattern
pattern_step (Pattern-F.Bool b) = truth_pattern b
pattern_step (Pattern-F.Int n) = int_pattern n
pattern_step (Pattern-F.Text s) = text_pattern s
pattern_step (Pattern-F.Pick n) = pick_pattern n
pattern_step (Pattern-F.Rec ps) = rec_pattern ps
pattern_step (Pattern-F.Alt n p) = alt_pattern n p.value
pattern_step (Pattern-F.Hold s ps) = hold_pattern s ps

abbrev pub patterns_step : Patterns-F PatternTree PatternTrees → PatternTrees
patterns_step ps = patterns_from ps.items

-- the tree of a `Pattern`, and the trees of a `Patterns`
abbrev pub pattern_tree : Pattern → PatternTree
pattern_tree = fold-Pattern PatternTree PatternTrees pattern_step patterns_step

abbrev pub patterns_tree : Patterns → PatternTrees
patterns_tree = fold-Patterns PatternTree PatternTrees pattern_step patterns_step
