-- What the code of images needs of a form and a complement: `IsReady`. A typed form and a complement that fits have it.
use Rattle.std.specs.Prelude.{IsTrue, ℕ, Bool, true, false, bytes_eq, List}
use Rattle.tag_seq.specs.Tags.{are_below}
use Rattle.doc_values.specs.Types.{are_distinct}
use Rattle.lens_forms.specs.Forms.{FormTree, form_id, form_bij, form_disc, form_then, form_rec, form_alt, form_each}
use Rattle.lens_forms.specs.Forms.{form_keyed, form_ordered, form_part, form_inv, RowTrees, no_rows, both, only_left}
use Rattle.lens_forms.specs.Forms.{only_right, ArmTrees, no_arms, more_arms}
use Rattle.lens_forms.specs.Typing.{left_names, right_names}
use Rattle.lens_core.specs.Tags.{tag_count}
use Rattle.lens_core.specs.Complements.{CompTree, then_comp, rec_comp, alt_comp, hold_comp, tags_comp, CompTrees}
use Rattle.lens_core.specs.Complements.{no_comps, more_comps, AllFit}

-- a complement of a container whose complements are each ready
abbrev pub AreReadyPlaces : (CompTree → Type 0) → CompTree → Type 0
AreReadyPlaces ready (hold_comp s cs) = AllFit ready cs
AreReadyPlaces ready _ = Unit {0}

-- of two facts, the first where a test passes
abbrev pub Chosen : Bool → Type 0 → Type 0 → Type 0
Chosen true P Q = P
Chosen false P Q = Q

-- Wherever the image of a pattern looks, the field names of each side of a record are distinct, and each number of a
-- partition is that of a tag.
abbrev mutual
  pub IsReady : FormTree → CompTree → Type 0
  IsReady (form_id t) c = Unit {0}
  IsReady (form_bij ps n) c = Unit {0}
  IsReady (form_disc t u) c = Unit {0}
  IsReady (form_then l k) (then_comp c d) = IsReady l c × IsReady k d
  IsReady (form_then l k) _ = Unit {0}
  IsReady (form_rec rows) (rec_comp cs) =
      IsTrue (are_distinct (left_names rows)) × IsTrue (are_distinct (right_names rows)) × AreReadyRows rows cs
  IsReady (form_rec rows) _ = Unit {0}
  IsReady (form_alt arms) (alt_comp t c) = IsReadyArm arms t c
  IsReady (form_alt arms) _ = Unit {0}
  IsReady (form_each l) c = AreReadyPlaces (IsReady l) c
  IsReady (form_keyed l) c = AreReadyPlaces (IsReady l) c
  IsReady (form_ordered l) c = AreReadyPlaces (IsReady l) c
  IsReady (form_part fs) (tags_comp ts) = IsTrue (are_below (tag_count fs) ts)
  IsReady (form_part fs) _ = Unit {0}
  IsReady (form_inv l) c = IsReady l c

  -- for each paired row and its complement
  pub AreReadyRows : RowTrees → CompTrees → Type 0
  AreReadyRows no_rows cs = Unit {0}
  AreReadyRows (both a b l rows) no_comps = Unit {0}
  AreReadyRows (both a b l rows) (more_comps c cs) = IsReady l c × AreReadyRows rows cs
  AreReadyRows (only_left a t rows) cs = AreReadyRows rows cs
  AreReadyRows (only_right b t rows) cs = AreReadyRows rows cs

  -- for the first arm with this left tag
  pub IsReadyArm : ArmTrees → List ℕ → CompTree → Type 0
  IsReadyArm no_arms t c = Unit {0}
  IsReadyArm (more_arms a b l arms) t c = Chosen (bytes_eq t a) (IsReady l c) (IsReadyArm arms t c)
