-- Lists of trees.
use Rattle.std.proofs.Common.{◌≡◌, ℕ, zero, suc, ◌<◌, Bool, true, false, ◌&&◌, List, [], ◌∷◌, length, map, get_or, refl, drop, ◌++◌, ◌≤◌, append-nil, sym, ap, ◌∙◌, arith, rules}
use Rattle.std.proofs.lemmas.List.{drop_all, get_or-map}
use Rattle.doc_values.specs.Documents.{DocTree, DocTrees, no_docs, more_docs, docs_of, doc_list, doc_tree, docs_tree}
use Rattle.doc_values.specs.Layouts.{items_in}
use Rattle.doc_values.specs.Types.{TyTree, FieldTrees, no_fields, more_fields, type_fields_of, field_list, fields_tree, field_tree, ty_tree}
use Rattle.doc_values.specs.Typing.{has_fields}
use Rattle.doc_values.specs.Initial.{initial_fields}
use Rattle.doc_values.specs.declared.doc.Doc.{Doc}
use Rattle.doc_values.specs.declared.doc.Docs.{Docs, the_lemmas as docs_lemmas}
use Rattle.doc_values.specs.declared.ty.Ty.{Ty}
use Rattle.doc_values.specs.declared.ty.Fields.{Fields, out-Fields, the_lemmas as fields_lemmas}

-- ---- the wrappers

pub docs_tree-out : (ds : Docs) → docs_tree ds ≡ docs_of (map doc_tree (items_in ds.layout))
docs_tree-out ds = search (rules, docs_lemmas)

pub fields_tree-out : (fs : Fields) → fields_tree fs ≡ type_fields_of (map field_tree (out-Fields fs).items.items)
fields_tree-out fs = search (rules, fields_lemmas)

-- ---- trees and lists, there and back

pub doc_list-docs_of : (ds : List DocTree) → doc_list (docs_of ds) ≡ ds
doc_list-docs_of [] = refl
doc_list-docs_of (d ∷ ds) = ap (λ x. d ∷ x) (doc_list-docs_of ds)

pub docs_of-doc_list : (ds : DocTrees) → docs_of (doc_list ds) ≡ ds
docs_of-doc_list no_docs = refl
docs_of-doc_list (more_docs d ds) = ap (more_docs d) (docs_of-doc_list ds)

pub field_list-fields_of : (fs : List (List ℕ × TyTree)) → field_list (type_fields_of fs) ≡ fs
field_list-fields_of [] = refl
field_list-fields_of (f ∷ fs) = ap (λ x. f ∷ x) (field_list-fields_of fs)

pub fields_of-field_list : (fs : FieldTrees) → type_fields_of (field_list fs) ≡ fs
fields_of-field_list no_fields = refl
fields_of-field_list (more_fields n t fs) = ap (more_fields n t) (fields_of-field_list fs)

pub trees_of : (ds : Docs) (xs : List Doc) → docs_of (map doc_tree xs) ≡ docs_tree ds → doc_list (docs_tree ds) ≡ map doc_tree xs
trees_of ds xs e = ap doc_list (sym e) ∙ doc_list-docs_of (map doc_tree xs)

-- ---- lengths

pub length-doc_list : (ds : List Doc) → length (doc_list (docs_of (map doc_tree ds))) ≡ length ds
length-doc_list [] = refl
length-doc_list (d ∷ ds) = ap suc (length-doc_list ds)

pub length-field_list : (fs : List (List ℕ × Ty)) → length (field_list (type_fields_of (map field_tree fs))) ≡ length fs
length-field_list [] = refl
length-field_list (f ∷ fs) = ap suc (length-field_list fs)

and_false : (b : Bool) → false ≡ (b && false)
and_false true = refl
and_false false = refl

pub has_fields-lengths : (fs : List (List ℕ × Ty)) (ds : List Doc) → (length fs ≡ length ds → ⊥)
    → false ≡ has_fields (type_fields_of (map field_tree fs)) (docs_of (map doc_tree ds))
has_fields-lengths [] [] h = absurd (h refl)
has_fields-lengths [] (d ∷ ds) h = refl
has_fields-lengths (f ∷ fs) [] h = refl
has_fields-lengths (f ∷ fs) (d ∷ ds) h =
    rw (← (has_fields-lengths fs ds (λ e. h (ap suc e)))) (and_false _)

-- ---- equal trees have equal parts at each place

pub docs_of_same : (cs ds : List DocTree) → docs_of cs ≡ docs_of ds → cs ≡ ds
docs_of_same cs ds e = sym (doc_list-docs_of cs) ∙ ap doc_list e ∙ doc_list-docs_of ds

pub fields_of_same : (es fs : List (List ℕ × TyTree)) → type_fields_of es ≡ type_fields_of fs → es ≡ fs
fields_of_same es fs e = sym (field_list-fields_of es) ∙ ap field_list e ∙ field_list-fields_of fs

pub same_length : (xs ys : List Doc) → docs_of (map doc_tree xs) ≡ docs_of (map doc_tree ys) → length xs ≡ length ys
same_length xs ys e = sym (length-doc_list xs) ∙ ap (λ z. length (doc_list z)) e ∙ length-doc_list ys

pub same_field_length : (xs ys : List (List ℕ × Ty)) → type_fields_of (map field_tree xs) ≡ type_fields_of (map field_tree ys) → length xs ≡ length ys
same_field_length xs ys e = sym (length-field_list xs) ∙ ap (λ z. length (field_list z)) e ∙ length-field_list ys

same_at_map : {A B : Type 0} (f : A → B) (xs ys : List A) (i : ℕ) (d e : A) → i < length xs → i < length ys → map f xs ≡ map f ys
    → f (get_or xs i d) ≡ f (get_or ys i e)
same_at_map f [] ys i d e h k q = absurd (omega arith)
same_at_map f (x ∷ xs) [] i d e h k q = absurd (omega arith)
same_at_map f (x ∷ xs) (y ∷ ys) zero d e h k q = cc
same_at_map f (x ∷ xs) (y ∷ ys) (suc i) d e h k q = same_at_map f xs ys i d e (omega arith) (omega arith) (cc)

pub same_at : (xs ys : List Doc) (i : ℕ) (d e : Doc) → i < length xs → i < length ys → docs_of (map doc_tree xs) ≡ docs_of (map doc_tree ys)
    → doc_tree (get_or xs i d) ≡ doc_tree (get_or ys i e)
same_at xs ys i d e h k q = same_at_map doc_tree xs ys i d e h k (docs_of_same _ _ q)

pub same_name_at : (xs ys : List (List ℕ × Ty)) (i : ℕ) (d e : List ℕ × Ty) → i < length xs → i < length ys
    → type_fields_of (map field_tree xs) ≡ type_fields_of (map field_tree ys) → (get_or xs i d).0 ≡ (get_or ys i e).0
same_name_at xs ys i d e h k q = ap (λ (f : List ℕ × TyTree). f.0) (same_at_map field_tree xs ys i d e h k (fields_of_same _ _ q))

pub same_ty_at : (xs ys : List (List ℕ × Ty)) (i : ℕ) (d e : List ℕ × Ty) → i < length xs → i < length ys
    → type_fields_of (map field_tree xs) ≡ type_fields_of (map field_tree ys) → ty_tree (get_or xs i d).1 ≡ ty_tree (get_or ys i e).1
same_ty_at xs ys i d e h k q = ap (λ (f : List ℕ × TyTree). f.1) (same_at_map field_tree xs ys i d e h k (fields_of_same _ _ q))

-- ---- the tree at a place

pub place_of_item : (ds : List Doc) (i : ℕ) (d : Doc) (e : DocTree) → i < length ds → d ≡ get_or ds i d → doc_tree d ≡ get_or (map doc_tree ds) i e
place_of_item ds i d e h is = ap doc_tree is ∙ sym (get_or-map doc_tree ds i d e h)

-- ---- once every field is done, the documents made are those of the fields

pub initial_done : (ds : List Doc) (fs : List (List ℕ × Ty)) (i : ℕ) → length fs ≤ i
    → map doc_tree ds ++ doc_list (initial_fields (type_fields_of (map field_tree (drop i fs)))) ≡ doc_list (initial_fields (type_fields_of (map field_tree fs)))
    → docs_of (map doc_tree ds) ≡ initial_fields (type_fields_of (map field_tree fs))
initial_done ds fs i h e =
    ap docs_of (rw (drop_all i fs h, append-nil) at e) ∙ docs_of-doc_list _
