-- Loops that read contents one after another: the contents so far, and those of what is left.
use Rattle.std.proofs.lemmas.List.{drop_all}
use Rattle.std.proofs.Common.{◌≡◌, ℕ, ◌+◌, ◌<◌, ◌≤◌, true, cond, bytes_eq, List, [], ◌∷◌, ◌++◌, append-nil, append_assoc, drop, length, get_or, Option, Some, None, Result, Ok, Err, refl, sym, ap, ◌∙◌}
use Rattle.json.specs.Json.{Json, Items, no_items, item, Members, no_members, member}
use Rattle.doc_values.specs.Documents.{DocTree, rec, alt, DocTrees, more_docs, docs_of, doc_list}
use Rattle.doc_values.proofs.Lists.{docs_of-doc_list}
use Rattle.file_trees.specs.FileTrees.{file_tree, items_view}
use Rattle.file_trees.specs.declared.tree.FileTree.{FileTree}
use Rattle.file_forms.specs.Forms.{FileFormTree, as_object, form_names, file_form_tree, forms_view}
use Rattle.file_forms.specs.Orders.{first_named}
use Rattle.file_forms.specs.Slots.{takes}
use Rattle.file_forms.specs.declared.form.FileForm.{FileForm}
use Rattle.file_values.specs.Reading.{Misfit, map_ok, and_then, inside, known_members, one_reading, items_reading, members_reading, reading, fields_reading, tag_reading, bare_reading, Fails}
use Rattle.file_values.specs.declared.misfit.FileStep.TheVariants.{Member, Item}
use Rattle.file_values.proofs.WriteLoops.{left_from}

-- the contents, and then those that are read of what is left
abbrev pub after : List DocTree → Result DocTrees Misfit → Result DocTrees Misfit
after cs left = map_ok (λ ds. docs_of (cs ++ doc_list ds)) left

-- before the first content, what is left is all
pub before_all : (cs : List DocTree) (all : Result DocTrees Misfit) → cs ≡ [] → all ≡ after cs all
before_all cs all none = from_first all ∙ ap (λ xs. after xs all) (sym none)
  where
    from_first : (r : Result DocTrees Misfit) → r ≡ after [] r
    from_first (Ok ds) = ap Ok (sym (docs_of-doc_list ds))
    from_first (Err m) = refl

-- one content, and then the others
abbrev joined : Result DocTrees Misfit → Result DocTree Misfit → Result DocTrees Misfit
joined left one = and_then (λ d. map_ok (more_docs d) left) one

one_more : (cs : List DocTree) (c : DocTree) (one : Result DocTree Misfit) (left : Result DocTrees Misfit) → one ≡ Ok c → after cs (joined left one) ≡ after (cs ++ c ∷ []) left
one_more cs c one (Ok ds) h = ap (λ r. after cs (joined (Ok ds) r)) h ∙ ap (λ xs. Ok (docs_of xs)) (sym (append_assoc cs (c ∷ []) (doc_list ds)))
one_more cs c one (Err m) h = ap (λ r. after cs (joined (Err m) r)) h

not_one : (cs : List DocTree) (m : Misfit) (one : Result DocTree Misfit) (left : Result DocTrees Misfit) → one ≡ Err m → after cs (joined left one) ≡ Err m
not_one cs m one left h = ap (λ r. after cs (joined left r)) h

-- ---- fields of a record

pub next_field : (fs : List (List ℕ × FileForm)) (i : ℕ) (f : List ℕ × FileForm) (ms : Members) (cs : List DocTree) (c : DocTree) → i < length fs → f ≡ get_or fs i f
    → inside (Member f.0) (reading (file_form_tree f.1) (first_named f.0 ms)) ≡ Ok c → after cs (fields_reading (forms_view (drop i fs)) ms) ≡ after (cs ++ c ∷ []) (fields_reading (forms_view (drop (i + 1) fs)) ms)
next_field fs i f ms cs c within is h =
    ap (λ xs. after cs (fields_reading (forms_view xs) ms)) (left_from fs i f within is)
    ∙ one_more cs c (inside (Member f.0) (reading (file_form_tree f.1) (first_named f.0 ms))) (fields_reading (forms_view (drop (i + 1) fs)) ms) h

pub field_refused : (fs : List (List ℕ × FileForm)) (i : ℕ) (f : List ℕ × FileForm) (ms : Members) (cs : List DocTree) (m : Misfit) → i < length fs → f ≡ get_or fs i f
    → inside (Member f.0) (reading (file_form_tree f.1) (first_named f.0 ms)) ≡ Err m → after cs (fields_reading (forms_view (drop i fs)) ms) ≡ Err m
field_refused fs i f ms cs m within is h =
    ap (λ xs. after cs (fields_reading (forms_view xs) ms)) (left_from fs i f within is)
    ∙ not_one cs m (inside (Member f.0) (reading (file_form_tree f.1) (first_named f.0 ms))) (fields_reading (forms_view (drop (i + 1) fs)) ms) h

pub fields_done : (fs : List (List ℕ × FileForm)) (i : ℕ) (ms : Members) (cs : List DocTree) → length fs ≤ i → after cs (fields_reading (forms_view (drop i fs)) ms) ≡ Ok (docs_of cs)
fields_done fs i ms cs past = ap (λ xs. after cs (fields_reading (forms_view xs) ms)) (drop_all i fs past) ∙ ap (λ xs. Ok (docs_of xs)) (append-nil cs)

-- members that no field has are refused with the record
pub strangers_refused : (fs gs : List (List ℕ × FileForm)) (s : Option Json) (m : Misfit) → gs ≡ fs → known_members (form_names (forms_view gs)) s ≡ Err m → reading (as_object (forms_view fs)) s ≡ Err m
strangers_refused fs gs s m same h =
    ap (λ r. map_ok rec (and_then (fields_reading (forms_view fs)) r)) (ap (λ xs. known_members (form_names (forms_view xs)) s) (sym same) ∙ h)

-- ---- contents of one form

module _ (read : Json → Result DocTree Misfit) where
  pub next_item : (i : ℕ) (j : Json) (js : Items) (cs : List DocTree) (c : DocTree) → inside (Item i) (read j) ≡ Ok c → after cs (items_reading read i (item j js)) ≡ after (cs ++ c ∷ []) (items_reading read (i + 1) js)
  next_item i j js cs c h = one_more cs c (inside (Item i) (read j)) (items_reading read (i + 1) js) h

  pub item_refused : (i : ℕ) (j : Json) (js : Items) (cs : List DocTree) (m : Misfit) → inside (Item i) (read j) ≡ Err m → after cs (items_reading read i (item j js)) ≡ Err m
  item_refused i j js cs m h = not_one cs m (inside (Item i) (read j)) (items_reading read (i + 1) js) h

  pub items_done : (i : ℕ) (cs : List DocTree) → after cs (items_reading read i no_items) ≡ Ok (docs_of cs)
  items_done i cs = ap (λ xs. Ok (docs_of xs)) (append-nil cs)

  pub next_member : (k : List ℕ) (j : Json) (ms : Members) (cs : List DocTree) (c : DocTree) → inside (Member k) (read j) ≡ Ok c → after cs (members_reading read (member k j ms)) ≡ after (cs ++ c ∷ []) (members_reading read ms)
  next_member k j ms cs c h = one_more cs c (inside (Member k) (read j)) (members_reading read ms) h

  pub member_refused : (k : List ℕ) (j : Json) (ms : Members) (cs : List DocTree) (m : Misfit) → inside (Member k) (read j) ≡ Err m → after cs (members_reading read (member k j ms)) ≡ Err m
  member_refused k j ms cs m h = not_one cs m (inside (Member k) (read j)) (members_reading read ms) h

  pub members_done : (cs : List DocTree) → after cs (members_reading read no_members) ≡ Ok (docs_of cs)
  members_done cs = ap (λ xs. Ok (docs_of xs)) (append-nil cs)

-- the contents of items by a form
abbrev pub items_by : FileFormTree → ℕ → List FileTree → Result DocTrees Misfit
items_by f i ts = items_reading (λ j. reading f (Some j)) i (items_view ts)

pub next_item_at : (f : FileFormTree) (ts : List FileTree) (i : ℕ) (t : FileTree) (cs : List DocTree) (c : DocTree) → i < length ts → t ≡ get_or ts i t → inside (Item i) (reading f (Some (file_tree t))) ≡ Ok c
    → after cs (items_by f i (drop i ts)) ≡ after (cs ++ c ∷ []) (items_by f (i + 1) (drop (i + 1) ts))
next_item_at f ts i t cs c within is h =
    ap (λ xs. after cs (items_by f i xs)) (left_from ts i t within is)
    ∙ next_item (λ j. reading f (Some j)) i (file_tree t) (items_view (drop (i + 1) ts)) cs c h

pub item_refused_at : (f : FileFormTree) (ts : List FileTree) (i : ℕ) (t : FileTree) (cs : List DocTree) (m : Misfit) → i < length ts → t ≡ get_or ts i t → inside (Item i) (reading f (Some (file_tree t))) ≡ Err m
    → after cs (items_by f i (drop i ts)) ≡ Err m
item_refused_at f ts i t cs m within is h =
    ap (λ xs. after cs (items_by f i xs)) (left_from ts i t within is)
    ∙ item_refused (λ j. reading f (Some j)) i (file_tree t) (items_view (drop (i + 1) ts)) cs m h

pub items_done_at : (f : FileFormTree) (ts : List FileTree) (i : ℕ) (cs : List DocTree) → length ts ≤ i → after cs (items_by f i (drop i ts)) ≡ Ok (docs_of cs)
items_done_at f ts i cs past = ap (λ xs. after cs (items_by f i xs)) (drop_all i ts past) ∙ items_done (λ j. reading f (Some j)) i cs

-- ---- alternatives

pub tag_found : (fs : List (List ℕ × FileForm)) (i : ℕ) (f : List ℕ × FileForm) (k : List ℕ) (j : Json) → i < length fs → f ≡ get_or fs i f → bytes_eq f.0 k ≡ true
    → tag_reading (forms_view (drop i fs)) k j ≡ inside (Member k) (reading (file_form_tree f.1) (Some j))
tag_found fs i f k j within is same =
    ap (λ xs. tag_reading (forms_view xs) k j) (left_from fs i f within is)
    ∙ ap (λ b. cond b (inside (Member k) (reading (file_form_tree f.1) (Some j))) (tag_reading (forms_view (drop (i + 1) fs)) k j)) same

pub bare_found : (fs : List (List ℕ × FileForm)) (i : ℕ) (f : List ℕ × FileForm) (s : Option Json) → i < length fs → f ≡ get_or fs i f → takes (file_form_tree f.1) s ≡ true
    → bare_reading (forms_view (drop i fs)) s ≡ map_ok (alt f.0) (reading (file_form_tree f.1) s)
bare_found fs i f s within is taken =
    ap (λ xs. bare_reading (forms_view xs) s) (left_from fs i f within is)
    ∙ ap (λ b. cond b (map_ok (alt f.0) (reading (file_form_tree f.1) s)) (bare_reading (forms_view (drop (i + 1) fs)) s)) taken

pub one_found : (r : List ℕ → Json → Result DocTree Misfit) (o : Option (List ℕ × Json)) (k : List ℕ) (j : Json) (one : Result DocTree Misfit) → Some (k, j) ≡ o → r k j ≡ one → one_reading r o ≡ map_ok (alt k) one
one_found r o k j one h e = ap (one_reading r) (sym h) ∙ ap (map_ok (alt k)) e

-- ---- misfits

-- the misfit of a part is that of the whole
pub fails_with : {X Y : Type 0} (v : Option Misfit) (part : Result X Misfit) (whole : Result Y Misfit) → ((m : Misfit) → part ≡ Err m → whole ≡ Err m) → Fails v part → Fails v whole
fails_with (Some m) part whole as_part h = as_part m h
fails_with None part whole as_part h = tt
