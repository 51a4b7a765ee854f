-- `IsConsistent` of lens_core as a test: whether three values are consistent for a form that is typed.
use Rattle.std.specs.Prelude.{Bool, false, ◌&&◌, Option, None, Some}
use Rattle.texts.specs.declared.side.Side.TheVariants.{Left}
use Rattle.doc_values.specs.Documents.{DocTree}
use Rattle.doc_values.specs.Typing.{has}
use Rattle.lens_forms.specs.Forms.{FormTree, left_type, right_type}
use Rattle.lens_core.specs.Complements.{CompTree}
use Rattle.law_images.specs.Patterns.{PatternTree, pattern_of}
use Rattle.law_images.specs.Image.{image}
use Rattle.lens_check.specs.FitTest.{fits}
use Rattle.lens_check.specs.MatchTest.{is_match}

-- the document is in the image, where there is one
abbrev pub is_in_image : Option PatternTree → DocTree → Bool
is_in_image None y = false
is_in_image (Some q) y = is_match q y

-- Both documents have their types, the complement fits, and the right document is in the image of the left one.
abbrev pub is_consistent : FormTree → DocTree → CompTree → DocTree → Bool
is_consistent l x c y =
    has (left_type l) x && (fits l c && (has (right_type l) y && is_in_image (image l Left c (pattern_of x)) y))
