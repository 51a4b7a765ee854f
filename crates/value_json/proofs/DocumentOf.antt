-- A document by the parts of its tree, a lemma for each type.
use Rattle.std.proofs.Common.{◌≡◌, ℕ, ℤ, length, Bool, true, false, ◌&&◌, List, Option, Some, None, option_map, option_and_then, codes, bytes_eq, cond, refl, sym, ap}
use Rattle.std.specs.Prelude.{if◌then◌else◌, is_some}
use Rattle.texts.specs.Keys.{has_name}
use Rattle.serde_json.specs.Data.{Data, null, boolean, number, string, array, object, Items, no_members, member}
use Rattle.serde_json.specs.Find.{as_null, as_bool, as_str, as_array, as_object}
use Rattle.doc_values.specs.Types.{TyTree, ty_unit, ty_bool, ty_int, ty_text, ty_enum, ty_rec, ty_alt, ty_list, ty_keyed, ty_ordered, FieldTrees}
use Rattle.doc_values.specs.Documents.{DocTree, unit, truth, int, text, pick, rec, alt, hold, DocTrees, doc_list}
use Rattle.doc_values.specs.Typing.{lookup_type, lookup_field}
use Rattle.value_json.specs.Numbers.{int_of, counts_of}
use Rattle.value_json.specs.Parts.{only_member, two_members, depths_and_items}
use Rattle.hold_shapes.specs.Trees.{is_valid}
use Rattle.hold_shapes.specs.declared.shape.Shape.TheVariants.{Tree as TreeOf}
use Rattle.value_json.specs.DocumentJson.{document_of, field_documents, member_documents, item_documents, member_names, list_document, keyed_document, ordered_document}
use Rattle.std.proofs.lemmas.Bool.{eq-eqb}

pub unit_of : (d : Data) → document_of ty_unit d ≡ cond (is_some (as_null d)) (Some unit) None
unit_of null = refl
unit_of d = refl

pub truth_of : (d : Data) → document_of ty_bool d ≡ option_map truth (as_bool d)
truth_of (boolean b) = refl
truth_of d = refl

pub whole_of : (i : ℤ) (d : Data) → document_of (ty_int i) d ≡ option_map int (int_of d)
whole_of i (number n) = refl
whole_of i d = refl

pub text_of : (i : List ℕ) (d : Data) → document_of (ty_text i) d ≡ option_map text (as_str d)
text_of i (string s) = refl
text_of i d = refl

abbrev pub pick_among : List (List ℕ) → List ℕ → Option DocTree
pick_among ms s = if has_name s ms then Some (pick s) else None

pub pick_of : (ms : List (List ℕ)) (i : List ℕ) (d : Data) → document_of (ty_enum ms i) d ≡ option_and_then (pick_among ms) (as_str d)
pick_of ms i (string s) = refl
pick_of ms i d = refl

pub rec_of : (fs : FieldTrees) (d : Data) → document_of (ty_rec fs) d ≡ option_and_then (λ ms. option_map rec (field_documents fs ms)) (as_object d)
rec_of fs (object ms) = refl
rec_of fs d = refl

abbrev pub tagged_by : FieldTrees → Option (List ℕ × Data) → Option DocTree
tagged_by fs None = None
tagged_by fs (Some p) = option_and_then (λ t. option_map (alt p.0) (document_of t p.1)) (lookup_type fs p.0)

case_tags : (k : List ℕ) (d : Data) (o : Option TyTree) → (elim o [ None ↦ None | Some t ↦ option_map (alt k) (document_of t d) ]) ≡ option_and_then (λ t. option_map (alt k) (document_of t d)) o
case_tags k d None = refl
case_tags k d (Some t) = refl

pub alt_of : (fs : FieldTrees) (d : Data) → document_of (ty_alt fs) d ≡ tagged_by fs (only_member d)
alt_of fs (object (member k d no_members)) = case_tags k d (lookup_type fs k)
alt_of fs d = refl

pub list_of : (t : TyTree) (d : Data) → document_of (ty_list t) d ≡ option_and_then (λ ds. option_map list_document (item_documents t ds)) (as_array d)
list_of t (array ds) = refl
list_of t d = refl

pub keyed_of : (t : TyTree) (d : Data) → document_of (ty_keyed t) d ≡ option_and_then (λ ms. option_and_then (keyed_document (member_names ms)) (member_documents t ms)) (as_object d)
keyed_of t (object ms) = refl
keyed_of t d = refl

abbrev pub ordered_by : TyTree → Option (Items × Items) → Option DocTree
ordered_by t None = None
ordered_by t (Some p) = option_and_then (λ depths. option_and_then (ordered_document depths) (item_documents t p.1)) (counts_of p.0)

ordered_if : (t : TyTree) (b : Bool) (ns ds : Items)
    → cond b (option_and_then (λ depths. option_and_then (ordered_document depths) (item_documents t ds)) (counts_of ns)) None ≡ ordered_by t (cond b (Some (ns, ds)) None)
ordered_if t true ns ds = refl
ordered_if t false ns ds = refl

pub ordered_of : (t : TyTree) (d : Data) → document_of (ty_ordered t) d ≡ ordered_by t (depths_and_items d)
ordered_of t (object (member k (array ns) (member l (array ds) no_members))) = ordered_if t (bytes_eq k (codes "depths") && bytes_eq l (codes "items")) ns ds
ordered_of t d = refl

abbrev pub arrays_of : Option ((List ℕ × Data) × (List ℕ × Data)) → Option (Items × Items)
arrays_of None = None
arrays_of (Some p) =
    if bytes_eq p.0.0 (codes "depths") && bytes_eq p.1.0 (codes "items")
    then option_and_then (λ ns. option_map (λ ds. (ns, ds)) (as_array p.1.1)) (as_array p.0.1)
    else None

cond_none : {A : Type 0} (b : Bool) → cond b None None ≡ (let o : Option A = None in o)
cond_none true = refl
cond_none false = refl

pub arrays_by : (d : Data) → depths_and_items d ≡ arrays_of (two_members d)
arrays_by (object (member k (array ns) (member l (array ds) no_members))) = refl
arrays_by (object (member k d (member l e no_members))) = sym (cond_none (bytes_eq k (codes "depths") && bytes_eq l (codes "items")))
arrays_by d = refl

-- ---- where each part was read

abbrev type_of : Option (ℕ × TyTree) → Option TyTree
type_of o = option_map (λ (f : ℕ × TyTree). f.1) o

pub ordered_found : (t : TyTree) (ns ds : Items) (depths : List ℕ) (vs : DocTrees) → counts_of ns ≡ Some depths → item_documents t ds ≡ Some vs → ordered_by t (Some (ns, ds)) ≡ ordered_document depths vs
ordered_found t ns ds depths vs numbers contents = rw (numbers, contents) refl

pub ordered_is : (depths nodes : List ℕ) (vs : DocTrees) → is_valid depths ≡ true → length depths ≡ length (doc_list vs) → nodes ≡ depths → ordered_document depths vs ≡ Some (hold (TreeOf nodes) vs)
ordered_is depths nodes vs valid many same = rw (valid, eq-eqb (length depths) (length (doc_list vs)) many, same) refl

pub tag_none : (fs : FieldTrees) (k : List ℕ) (d : Data) → lookup_field fs k ≡ None → tagged_by fs (Some (k, d)) ≡ None
tag_none fs k d none = let e = ap type_of none in rw e refl

pub tag_refused : (fs : FieldTrees) (k : List ℕ) (d : Data) (s : ℕ × TyTree) → lookup_field fs k ≡ Some s → document_of s.1 d ≡ None → tagged_by fs (Some (k, d)) ≡ None
tag_refused fs k d s some none = let e = ap type_of some in rw (e, none) refl

pub tag_found : (fs : FieldTrees) (k : List ℕ) (v : DocTree) (d : Data) (s : ℕ × TyTree) → lookup_field fs k ≡ Some s → document_of s.1 d ≡ Some v → tagged_by fs (Some (k, d)) ≡ Some (alt k v)
tag_found fs k v d s some is = let e = ap type_of some in rw (e, is) refl
