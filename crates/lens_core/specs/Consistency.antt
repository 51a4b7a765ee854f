-- The consistency relation: which left document, complement and right document belong together. `IsConsistent`, at the
-- end, has a line for each form. No edit occurs in it.
use Rattle.std.specs.Prelude.{◌≡◌, ℕ, IsTrue, bytes_eq, if◌then◌else◌, List, [], ◌∷◌, map, length, Option, None, Some}
use Rattle.std.specs.Prelude.{◌⊎◌}
use Rattle.hold_shapes.specs.declared.shape.Shape.TheVariants.{List as ListOf}
use Rattle.doc_values.specs.Documents.{DocTree, pick, rec, alt, hold, DocTrees, no_docs, more_docs, docs_of, doc_list}
use Rattle.doc_values.specs.Types.{FieldTrees, no_fields, more_fields}
use Rattle.doc_values.specs.Typing.{has}
use Rattle.lens_forms.specs.Forms.{FormTree, form_id, form_bij, form_disc, form_then, form_rec, form_alt, form_each}
use Rattle.lens_forms.specs.Forms.{form_keyed, form_ordered, form_part, form_inv, RowTrees, no_rows, both, only_left}
use Rattle.lens_forms.specs.Forms.{only_right, ArmTrees, no_arms, more_arms, left_type, left_fields, right_type}
use Rattle.lens_forms.specs.Forms.{right_fields, sorted, lists_of}
use Rattle.lens_core.specs.Tags.{tag_number}
use Rattle.lens_core.specs.Complements.{CompTree, then_comp, rec_comp, alt_comp, hold_comp, tags_comp, CompTrees}
use Rattle.lens_core.specs.Complements.{no_comps, more_comps, Fits}

-- the left document has the left type, the complement fits, and the right document has the right type
pub record AreTyped (form : FormTree) (left : DocTree) (comp : CompTree) (right : DocTree) : Type 0 where
  pub left_has : IsTrue (has (left_type form) left)
  pub comp_fits : Fits form comp
  pub right_has : IsTrue (has (right_type form) right)

-- ---- bijection

-- one of the pairs has these two members
abbrev pub IsPair : List (List ℕ × List ℕ) → List ℕ → List ℕ → Type 0
IsPair [] m n = ⊥
IsPair (p ∷ ps) m n = ((m ≡ p.0) × (n ≡ p.1)) ⊎ IsPair ps m n

-- the members of the two documents are partners
abbrev pub ArePartners : List (List ℕ × List ℕ) → DocTree → DocTree → Type 0
ArePartners ps (pick m) (pick n) = IsPair ps m n
ArePartners ps _ _ = ⊥

-- ---- composition

-- a document in the middle is consistent with both outer ones
abbrev pub HasMiddle : (DocTree → CompTree → DocTree → Type 0) → (DocTree → CompTree → DocTree → Type 0) → DocTree
    → CompTree → DocTree → Type 0
HasMiddle first second x (then_comp c d) z = (y : DocTree) × first x c y × second y d z
HasMiddle first second x _ z = ⊥

-- ---- record

-- the content of a record at a field
abbrev pub content : FieldTrees → DocTrees → List ℕ → Option DocTree
content (more_fields m t fs) (more_docs d ds) n = if bytes_eq m n then Some d else content fs ds n
content _ _ n = None

-- two records and a complement for each paired row
abbrev pub AreRecords : (DocTrees → CompTrees → DocTrees → Type 0) → DocTree → CompTree → DocTree → Type 0
AreRecords rows (rec xs) (rec_comp cs) (rec ys) = rows xs cs ys
AreRecords rows _ _ _ = ⊥

-- ---- alternatives

-- three tags, each with its content
abbrev pub AreAlternatives : (List ℕ → DocTree → List ℕ → CompTree → List ℕ → DocTree → Type 0) → DocTree → CompTree
    → DocTree → Type 0
AreAlternatives arm (alt m x) (alt_comp t c) (alt n y) = arm m x t c n y
AreAlternatives arm _ _ _ = ⊥

-- ---- containers

-- at each place the left content, the complement and the right content are in the inner relation
abbrev pub AtEachPlace : (DocTree → CompTree → DocTree → Type 0) → DocTrees → CompTrees → DocTrees → Type 0
AtEachPlace inner no_docs no_comps no_docs = Unit {0}
AtEachPlace inner (more_docs x xs) (more_comps c cs) (more_docs y ys) = inner x c y × AtEachPlace inner xs cs ys
AtEachPlace inner _ _ _ = ⊥

-- three times the same shape, and the inner relation at each place
abbrev pub AreHeld : (DocTree → CompTree → DocTree → Type 0) → DocTree → CompTree → DocTree → Type 0
AreHeld inner (hold s xs) (hold_comp r cs) (hold q ys) = (r ≡ s) × (q ≡ s) × AtEachPlace inner xs cs ys
AreHeld inner _ _ _ = ⊥

-- ---- partition

-- the number of an item's tag
abbrev pub item_tag : FieldTrees → DocTree → Option ℕ
item_tag fs (alt n v) = tag_number fs n
item_tag fs _ = None

-- the contents of the items with this tag, in order
abbrev pub contents_with : List ℕ → List DocTree → List DocTree
contents_with n [] = []
contents_with n (alt m v ∷ xs) = if bytes_eq m n then v ∷ contents_with n xs else contents_with n xs
contents_with n (_ ∷ xs) = contents_with n xs

-- a list of these contents
abbrev pub list_doc : List DocTree → DocTree
list_doc vs = hold (ListOf (record { count = length vs })) (docs_of vs)

-- the record ys, of the fields gs, has at each tag the list of the contents of the items with that tag
abbrev pub HasTheirContents : FieldTrees → FieldTrees → DocTrees → List DocTree → Type 0
HasTheirContents no_fields gs ys xs = Unit {0}
HasTheirContents (more_fields n t fs) gs ys xs = (content gs ys n ≡ Some (list_doc (contents_with n xs)))
    × HasTheirContents fs gs ys xs

-- the complement has the tags of the left items, and the right document their contents by tags
abbrev pub AreParted : FieldTrees → FieldTrees → DocTree → CompTree → DocTree → Type 0
AreParted fs gs (hold s xs) (tags_comp ts) (rec ys) = (map (item_tag fs) (doc_list xs) ≡ map Some ts)
    × HasTheirContents fs gs ys (doc_list xs)
AreParted fs gs _ _ _ = ⊥

-- ---- the relation

-- It holds only where the documents have the two types and the complement fits. Beyond that, by the form:
-- of the identity the two documents are equal; of a bijection they are partners; a disconnection asks nothing more;
-- of a composition some middle document is consistent with both;
-- of a record the left field, its complement and the right field of each paired row are in the relation of the row's
-- lens; of alternatives the three tags are those of one arm, and the contents are in the relation of its lens; of a
-- container the three shapes are the same, and the contents at each place are in the relation of the inner lens; of a
-- partition the complement has the tags of the left items, and each list on the right their contents in order; an
-- inverse turns the sides.
abbrev mutual
  pub IsConsistent : FormTree → DocTree → CompTree → DocTree → Type 0
  IsConsistent (form_id t) x c y = AreTyped (form_id t) x c y × (x ≡ y)
  IsConsistent (form_bij ps n) x c y = AreTyped (form_bij ps n) x c y × ArePartners ps x y
  IsConsistent (form_disc t u) x c y = AreTyped (form_disc t u) x c y
  IsConsistent (form_then l k) x c y = AreTyped (form_then l k) x c y
      × HasMiddle (IsConsistent l) (IsConsistent k) x c y
  IsConsistent (form_rec rows) x c y = AreTyped (form_rec rows) x c y
      × AreRecords (λ xs cs ys. AreConsistentRows rows (left_fields rows) xs cs (right_fields rows) ys) x c y
  IsConsistent (form_alt arms) x c y = AreTyped (form_alt arms) x c y × AreAlternatives (IsInArm arms) x c y
  IsConsistent (form_each l) x c y = AreTyped (form_each l) x c y × AreHeld (IsConsistent l) x c y
  IsConsistent (form_keyed l) x c y = AreTyped (form_keyed l) x c y × AreHeld (IsConsistent l) x c y
  IsConsistent (form_ordered l) x c y = AreTyped (form_ordered l) x c y × AreHeld (IsConsistent l) x c y
  IsConsistent (form_part fs) x c y = AreTyped (form_part fs) x c y × AreParted fs (sorted (lists_of fs)) x c y
  IsConsistent (form_inv l) x c y = IsConsistent l y c x

  -- the rows, in records of the fields ls and rs; fields of one side alone are free
  pub AreConsistentRows : RowTrees → FieldTrees → DocTrees → CompTrees → FieldTrees → DocTrees → Type 0
  AreConsistentRows no_rows ls xs no_comps rs ys = Unit {0}
  AreConsistentRows no_rows ls xs (more_comps c cs) rs ys = ⊥
  AreConsistentRows (both a b l rows) ls xs no_comps rs ys = ⊥
  AreConsistentRows (both a b l rows) ls xs (more_comps c cs) rs ys =
      ((x : DocTree) × (y : DocTree) × (content ls xs a ≡ Some x) × (content rs ys b ≡ Some y) × IsConsistent l x c y)
      × AreConsistentRows rows ls xs cs rs ys
  AreConsistentRows (only_left a t rows) ls xs cs rs ys = AreConsistentRows rows ls xs cs rs ys
  AreConsistentRows (only_right b t rows) ls xs cs rs ys = AreConsistentRows rows ls xs cs rs ys

  -- the tags of one of the arms, and contents that its lens relates
  pub IsInArm : ArmTrees → List ℕ → DocTree → List ℕ → CompTree → List ℕ → DocTree → Type 0
  IsInArm no_arms m x t c n y = ⊥
  IsInArm (more_arms a b l arms) m x t c n y =
      ((m ≡ a) × (t ≡ a) × (n ≡ b) × IsConsistent l x c y) ⊎ IsInArm arms m x t c n y
