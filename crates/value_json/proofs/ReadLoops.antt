-- Loops that read contents one after another: the contents so far, and those of what is left.
use Rattle.std.proofs.Math.Seq.{drop-cons}
use Rattle.std.proofs.lemmas.List.{drop_all}
use Rattle.std.proofs.Common.{◌≡◌, ℕ, suc, ◌+◌, add-one, ◌<◌, ◌≤◌, true, bytes_eq, cond, List, [], ◌∷◌, ◌++◌, map, drop, length, get_or, Option, Some, None, option_map, option_and_then, refl, sym, ap, ◌∙◌}
use Rattle.serde_json.specs.Data.{Data, Members, no_members, member}
use Rattle.serde_json.specs.View.{view, items_view}
use Rattle.serde_json.specs.declared.value.Value.{Value}
use Rattle.doc_values.specs.Documents.{DocTree, DocTrees, no_docs, more_docs, docs_of}
use Rattle.doc_values.specs.Types.{TyTree, type_fields_of, field_tree, ty_tree}
use Rattle.doc_values.specs.declared.ty.Ty.{Ty}
use Rattle.value_json.specs.DocumentJson.{document_of, field_documents, member_documents, item_documents}
use Rattle.value_json.proofs.Counts.{left_items}

-- the contents, and then those
abbrev pub then_docs : List DocTree → DocTrees → DocTrees
then_docs [] ds = ds
then_docs (c ∷ cs) ds = more_docs c (then_docs cs ds)

then_docs-append : (cs : List DocTree) (c : DocTree) (ds : DocTrees) → then_docs (cs ++ c ∷ []) ds ≡ then_docs cs (more_docs c ds)
then_docs-append [] c ds = refl
then_docs-append (x ∷ cs) c ds = ap (more_docs x) (then_docs-append cs c ds)

pub then_docs-nil : (cs : List DocTree) → then_docs cs no_docs ≡ docs_of cs
then_docs-nil [] = refl
then_docs-nil (x ∷ cs) = ap (more_docs x) (then_docs-nil cs)

pub one_more : (cs : List DocTree) (c : DocTree) (first : Option DocTree) (rest : Option DocTrees) → first ≡ Some c
    → option_map (then_docs cs) (option_and_then (λ x. option_map (more_docs x) rest) first) ≡ option_map (then_docs (cs ++ c ∷ [])) rest
one_more cs c first None h = rw h refl
one_more cs c first (Some ds) h = rw h (ap Some (sym (then_docs-append cs c ds)))

-- ---- an item of an array, or an entry of a map

pub next_item : (t : TyTree) (vs : List Value) (i : ℕ) (v : Value) (cs : List DocTree) (c : DocTree) → i < length vs → v ≡ get_or vs i v → document_of t (view v) ≡ Some c
    → option_map (then_docs cs) (item_documents t (items_view (drop i vs))) ≡ option_map (then_docs (cs ++ c ∷ [])) (item_documents t (items_view (drop (i + 1) vs)))
next_item t vs i v cs c within is h =
    ap (λ xs. option_map (then_docs cs) (item_documents t (items_view xs))) (left_items vs i v within is)
    ∙ one_more cs c (document_of t (view v)) (item_documents t (items_view (drop (i + 1) vs))) h

pub items_done : (t : TyTree) (vs : List Value) (i : ℕ) (cs : List DocTree) → length vs ≤ i → option_map (then_docs cs) (item_documents t (items_view (drop i vs))) ≡ Some (docs_of cs)
items_done t vs i cs past = ap (λ xs. option_map (then_docs cs) (item_documents t (items_view xs))) (drop_all i vs past) ∙ ap Some (then_docs-nil cs)

pub next_entry : (t : TyTree) (k : List ℕ) (d : Data) (ms : Members) (cs : List DocTree) (c : DocTree) → document_of t d ≡ Some c
    → option_map (then_docs cs) (member_documents t (member k d ms)) ≡ option_map (then_docs (cs ++ c ∷ [])) (member_documents t ms)
next_entry t k d ms cs c h = one_more cs c (document_of t d) (member_documents t ms) h

pub entries_done : (t : TyTree) (cs : List DocTree) → option_map (then_docs cs) (member_documents t no_members) ≡ Some (docs_of cs)
entries_done t cs = ap Some (then_docs-nil cs)

-- ---- a field of a record

left_fields : (fs : List (List ℕ × Ty)) (i : ℕ) (f : List ℕ × Ty) → i < length fs → f ≡ get_or fs i f → drop i fs ≡ f ∷ drop (i + 1) fs
left_fields fs i f within is = rw (add-one, drop-cons fs i f within) (ap (λ x. x ∷ drop (suc i) fs) (sym is))

pub next_field : (fs : List (List ℕ × Ty)) (i : ℕ) (f : List ℕ × Ty) (k : List ℕ) (d : Data) (ms : Members) (cs : List DocTree) (c : DocTree) → i < length fs → f ≡ get_or fs i f
    → bytes_eq f.0 k ≡ true → document_of (ty_tree f.1) d ≡ Some c
    → option_map (then_docs cs) (field_documents (type_fields_of (map field_tree (drop i fs))) (member k d ms)) ≡ option_map (then_docs (cs ++ c ∷ [])) (field_documents (type_fields_of (map field_tree (drop (i + 1) fs))) ms)
next_field fs i f k d ms cs c within is same h =
    ap (λ xs. option_map (then_docs cs) (field_documents (type_fields_of (map field_tree xs)) (member k d ms))) (left_fields fs i f within is)
    ∙ ap (λ b. option_map (then_docs cs) (cond b (option_and_then (λ x. option_map (more_docs x) (field_documents (type_fields_of (map field_tree (drop (i + 1) fs))) ms)) (document_of (ty_tree f.1) d)) None)) same
    ∙ one_more cs c (document_of (ty_tree f.1) d) (field_documents (type_fields_of (map field_tree (drop (i + 1) fs))) ms) h

pub fields_done : (fs : List (List ℕ × Ty)) (i : ℕ) (cs : List DocTree) → length fs ≤ i → option_map (then_docs cs) (field_documents (type_fields_of (map field_tree (drop i fs))) no_members) ≡ Some (docs_of cs)
fields_done fs i cs past = ap (λ xs. option_map (then_docs cs) (field_documents (type_fields_of (map field_tree xs)) no_members)) (drop_all i fs past) ∙ ap Some (then_docs-nil cs)
