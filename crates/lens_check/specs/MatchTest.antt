-- `Matches` of law_images as a test: whether a document is in a pattern.
use Rattle.std.specs.Prelude.{Bool, true, false, ◌&&◌, bytes_eq}
use Rattle.std.specs.Ordering.{int_eq}
use Rattle.doc_values.specs.Documents.{DocTree, unit, truth, int, text, pick, rec, alt, hold, DocTrees, no_docs}
use Rattle.doc_values.specs.Documents.{more_docs}
use Rattle.law_images.specs.Patterns.{PatternTree, hole, unit_pattern, truth_pattern, int_pattern, text_pattern}
use Rattle.law_images.specs.Patterns.{pick_pattern, rec_pattern, alt_pattern, hold_pattern, PatternTrees, no_patterns}
use Rattle.law_images.specs.Patterns.{more_patterns}
use Rattle.law_images.specs.Image.{is_same_shape}

-- two truth values are the same
abbrev pub is_same_truth : Bool → Bool → Bool
is_same_truth true b = b
is_same_truth false true = false
is_same_truth false false = true

-- the document differs from the pattern only in its holes, a line for each pattern as in `Matches`
abbrev mutual
  pub is_match : PatternTree → DocTree → Bool
  is_match hole v = true
  is_match unit_pattern unit = true
  is_match (truth_pattern a) (truth b) = is_same_truth a b
  is_match (int_pattern m) (int n) = int_eq m n
  is_match (text_pattern r) (text s) = bytes_eq r s
  is_match (pick_pattern m) (pick n) = bytes_eq m n
  is_match (rec_pattern ps) (rec ds) = match_each ps ds
  is_match (alt_pattern m p) (alt n d) = bytes_eq m n && is_match p d
  is_match (hold_pattern r ps) (hold s ds) = is_same_shape r s && match_each ps ds
  is_match _ _ = false

  -- as many documents as patterns, each in its pattern
  pub match_each : PatternTrees → DocTrees → Bool
  match_each no_patterns no_docs = true
  match_each (more_patterns p ps) (more_docs d ds) = is_match p d && match_each ps ds
  match_each _ _ = false
