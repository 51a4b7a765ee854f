-- Loops that write contents one after another: what is made so far, and what is made of those that are left.
use Rattle.std.proofs.Math.Seq.{drop-cons}
use Rattle.std.proofs.lemmas.List.{drop_all}
use Rattle.std.proofs.Common.{◌≡◌, ℕ, zero, suc, ◌+◌, true, cond, add-one, ◌<◌, ◌≤◌, List, [], ◌∷◌, ◌++◌, drop, length, get_or, Option, Some, None, option_map, option_and_then, refl, sym, ap, ◌∙◌, arith}
use Rattle.std.specs.Option.{option_flatten}
use Rattle.json.specs.Json.{Json, array, Items, no_items, item, Members, no_members, member}
use Rattle.texts.specs.Keys.{is_rising}
use Rattle.hold_shapes.specs.declared.shape.Shape.{Shape}
use Rattle.hold_shapes.specs.declared.shape.Shape.TheVariants.{List as ListOf, Keyed as KeyedOf, Tree as TreeOf}
use Rattle.doc_values.specs.Documents.{DocTree, hold, DocTrees, no_docs, more_docs, doc_list}
use Rattle.doc_values.specs.Typing.{is_list_of}
use Rattle.file_trees.specs.FileTrees.{file_tree, items_view, members_view}
use Rattle.file_trees.specs.declared.tree.FileTree.{FileTree}
use Rattle.file_forms.specs.Forms.{FileFormTree, as_items, as_map, file_form_tree, forms_view}
use Rattle.file_forms.specs.declared.form.FileForm.{FileForm}
use Rattle.file_forms.specs.FileValues.{with_slot, array_slot, object_slot, items_written, members_written, write, write_fields}
use Rattle.file_values.specs.Writing.{Refuses, then_members, then_items}
use Rattle.file_values.specs.declared.fault.WriteFault.{WriteFault}
use Rattle.file_values.specs.declared.fault.WriteFault.TheVariants.{NoFile, NoMemory}

-- what is left from a place is the item there, and what is left behind it
pub left_from : {A : Type 0} (xs : List A) (i : ℕ) (x : A) → i < length xs → x ≡ get_or xs i x → drop i xs ≡ x ∷ drop (i + 1) xs
left_from xs i x within is = rw (add-one, drop-cons xs i x within) (ap (λ y. y ∷ drop (suc i) xs) (sym is))

-- ---- one more

pub then_members-append : (ms : List (List ℕ × FileTree)) (n : List ℕ) (t : FileTree) (rest : Members) → then_members (ms ++ (n, t) ∷ []) rest ≡ then_members ms (member n (file_tree t) rest)
then_members-append [] n t rest = refl
then_members-append (m ∷ ms) n t rest = ap (member m.0 (file_tree m.1)) (then_members-append ms n t rest)

pub then_members-nil : (ms : List (List ℕ × FileTree)) → then_members ms no_members ≡ members_view ms
then_members-nil [] = refl
then_members-nil (m ∷ ms) = ap (member m.0 (file_tree m.1)) (then_members-nil ms)

pub then_items-append : (ts : List FileTree) (t : FileTree) (rest : Items) → then_items (ts ++ t ∷ []) rest ≡ then_items ts (item (file_tree t) rest)
then_items-append [] t rest = refl
then_items-append (u ∷ ts) t rest = ap (item (file_tree u)) (then_items-append ts t rest)

pub then_items-nil : (ts : List FileTree) → then_items ts no_items ≡ items_view ts
then_items-nil [] = refl
then_items-nil (t ∷ ts) = ap (item (file_tree t)) (then_items-nil ts)

-- the members after one more, where its slot may be empty
abbrev pub Grows : List (List ℕ × FileTree) → List ℕ → Option Json → List (List ℕ × FileTree) → Type 0
Grows ms n s more = (rest : Members) → then_members more rest ≡ then_members ms (with_slot n s rest)

grown : (ms more : List (List ℕ × FileTree)) (n : List ℕ) (s : Option Json) (o : Option Members) → Grows ms n s more → option_map (then_members ms) (option_map (with_slot n s) o) ≡ option_map (then_members more) o
grown ms more n s None g = refl
grown ms more n s (Some rest) g = ap Some (sym (g rest))

-- ---- fields of a record

-- the members so far, and those of the fields and the contents that are left
abbrev pub fields_from : List (List ℕ × FileTree) → List (List ℕ × FileForm) → DocTrees → Option Members
fields_from ms fs ds = option_map (then_members ms) (write_fields (forms_view fs) ds)

-- those of a field that is written so, and the others
abbrev field_by : List (List ℕ × FileTree) → List ℕ → Option Members → Option (Option Json) → Option Members
field_by ms n rest w = option_map (then_members ms) (option_and_then (λ s. option_map (with_slot n s) rest) w)

first_field : (fs : List (List ℕ × FileForm)) (i : ℕ) (f : List ℕ × FileForm) (d : DocTree) (ds : DocTrees) (ms : List (List ℕ × FileTree)) → i < length fs → f ≡ get_or fs i f
    → fields_from ms (drop i fs) (more_docs d ds) ≡ field_by ms f.0 (write_fields (forms_view (drop (i + 1) fs)) ds) (write (file_form_tree f.1) d)
first_field fs i f d ds ms within is = ap (λ xs. fields_from ms xs (more_docs d ds)) (left_from fs i f within is)

pub next_field : (fs : List (List ℕ × FileForm)) (i : ℕ) (f : List ℕ × FileForm) (d : DocTree) (ds : DocTrees) (ms more : List (List ℕ × FileTree)) (s : Option Json) → i < length fs → f ≡ get_or fs i f
    → write (file_form_tree f.1) d ≡ Some s → Grows ms f.0 s more → fields_from ms (drop i fs) (more_docs d ds) ≡ fields_from more (drop (i + 1) fs) ds
next_field fs i f d ds ms more s within is h g =
    let rest = write_fields (forms_view (drop (i + 1) fs)) ds in
    first_field fs i f d ds ms within is ∙ ap (field_by ms f.0 rest) h ∙ grown ms more f.0 s rest g

pub field_refused : (fs : List (List ℕ × FileForm)) (i : ℕ) (f : List ℕ × FileForm) (d : DocTree) (ds : DocTrees) (ms : List (List ℕ × FileTree)) → i < length fs → f ≡ get_or fs i f
    → write (file_form_tree f.1) d ≡ None → fields_from ms (drop i fs) (more_docs d ds) ≡ None
field_refused fs i f d ds ms within is h =
    first_field fs i f d ds ms within is ∙ ap (field_by ms f.0 (write_fields (forms_view (drop (i + 1) fs)) ds)) h

pub field_without : (fs : List (List ℕ × FileForm)) (i : ℕ) (f : List ℕ × FileForm) (ms : List (List ℕ × FileTree)) → i < length fs → f ≡ get_or fs i f → fields_from ms (drop i fs) no_docs ≡ None
field_without fs i f ms within is = ap (λ xs. fields_from ms xs no_docs) (left_from fs i f within is)

pub fields_done : (fs : List (List ℕ × FileForm)) (i : ℕ) (ms : List (List ℕ × FileTree)) → length fs ≤ i → fields_from ms (drop i fs) no_docs ≡ Some (members_view ms)
fields_done fs i ms past = ap (λ xs. fields_from ms xs no_docs) (drop_all i fs past) ∙ ap Some (then_members-nil ms)

pub content_without : (fs : List (List ℕ × FileForm)) (i : ℕ) (d : DocTree) (ds : DocTrees) (ms : List (List ℕ × FileTree)) → length fs ≤ i → fields_from ms (drop i fs) (more_docs d ds) ≡ None
content_without fs i d ds ms past = ap (λ xs. fields_from ms xs (more_docs d ds)) (drop_all i fs past)

-- ---- contents of one form

module _ (write : DocTree → Option (Option Json)) where
  -- the items so far, and those of the contents that are left
  abbrev pub items_from : List FileTree → DocTrees → Option Items
  items_from ts ds = option_map (then_items ts) (items_written write ds)

  more_items : (ts : List FileTree) (t : FileTree) (o : Option Items) → option_map (then_items ts) (option_map (item (file_tree t)) o) ≡ option_map (then_items (ts ++ t ∷ [])) o
  more_items ts t None = refl
  more_items ts t (Some rest) = ap Some (sym (then_items-append ts t rest))

  abbrev item_by : List FileTree → Option Items → Option (Option Json) → Option Items
  item_by ts rest w = option_map (then_items ts) (option_and_then (λ j. option_map (item j) rest) (option_flatten w))

  pub next_item : (d : DocTree) (ds : DocTrees) (ts : List FileTree) (t : FileTree) → write d ≡ Some (Some (file_tree t)) → items_from ts (more_docs d ds) ≡ items_from (ts ++ t ∷ []) ds
  next_item d ds ts t h = ap (item_by ts (items_written write ds)) h ∙ more_items ts t (items_written write ds)

  pub item_refused : (d : DocTree) (ds : DocTrees) (ts : List FileTree) → option_flatten (write d) ≡ None → items_from ts (more_docs d ds) ≡ None
  item_refused d ds ts h = ap (λ w. option_map (then_items ts) (option_and_then (λ j. option_map (item j) (items_written write ds)) w)) h

  pub items_done : (ts : List FileTree) → items_from ts no_docs ≡ Some (items_view ts)
  items_done ts = ap Some (then_items-nil ts)

  -- the members so far, and those of the keys and the contents that are left
  abbrev pub keys_from : List (List ℕ × FileTree) → List (List ℕ) → DocTrees → Option Members
  keys_from ms ks ds = option_map (then_members ms) (members_written write ks ds)

  more_members : (ms : List (List ℕ × FileTree)) (k : List ℕ) (t : FileTree) (o : Option Members) → option_map (then_members ms) (option_map (member k (file_tree t)) o) ≡ option_map (then_members (ms ++ (k, t) ∷ [])) o
  more_members ms k t None = refl
  more_members ms k t (Some rest) = ap Some (sym (then_members-append ms k t rest))

  abbrev key_by : List (List ℕ × FileTree) → List ℕ → Option Members → Option (Option Json) → Option Members
  key_by ms k rest w = option_map (then_members ms) (option_and_then (λ j. option_map (member k j) rest) (option_flatten w))

  pub next_key : (k : List ℕ) (ks : List (List ℕ)) (d : DocTree) (ds : DocTrees) (ms : List (List ℕ × FileTree)) (t : FileTree) → write d ≡ Some (Some (file_tree t))
      → keys_from ms (k ∷ ks) (more_docs d ds) ≡ keys_from (ms ++ (k, t) ∷ []) ks ds
  next_key k ks d ds ms t h = ap (key_by ms k (members_written write ks ds)) h ∙ more_members ms k t (members_written write ks ds)

  pub key_refused : (k : List ℕ) (ks : List (List ℕ)) (d : DocTree) (ds : DocTrees) (ms : List (List ℕ × FileTree)) → option_flatten (write d) ≡ None → keys_from ms (k ∷ ks) (more_docs d ds) ≡ None
  key_refused k ks d ds ms h = ap (λ w. option_map (then_members ms) (option_and_then (λ j. option_map (member k j) (members_written write ks ds)) w)) h

  pub keys_done : (ms : List (List ℕ × FileTree)) → keys_from ms [] no_docs ≡ Some (members_view ms)
  keys_done ms = ap Some (then_members-nil ms)

-- ---- lists and keyed maps

pub items_are : (f : FileFormTree) (s : Shape) (ds : DocTrees) (js : Items) → is_list_of s (length (doc_list ds)) ≡ true → items_written (write f) ds ≡ Some js → write (as_items f) (hold s ds) ≡ Some (Some (array js))
items_are f (ListOf s) ds js listed h = ap (λ b. cond b (option_map array_slot (items_written (write f) ds)) None) listed ∙ ap (option_map array_slot) h
items_are f (KeyedOf ks) ds js listed h = cc
items_are f (TreeOf ns) ds js listed h = cc

pub keys_are : (f : FileFormTree) (s : Shape) (ks : List (List ℕ)) (ds : DocTrees) → s ≡ KeyedOf ks → is_rising ks ≡ true → write (as_map f) (hold s ds) ≡ option_map object_slot (members_written (write f) ks ds)
keys_are f s ks ds is rising =
    ap (λ x. write (as_map f) (hold x ds)) is ∙ ap (λ b. cond b (option_map object_slot (members_written (write f) ks ds)) None) rising

-- what is made of the keys and the contents that are left
abbrev pub left_keys : FileFormTree → List (List ℕ × FileTree) → List (List ℕ) → DocTrees → Option Members
left_keys f ms ks ds = keys_from (write f) ms ks ds

pub key_without : (f : FileFormTree) (ms : List (List ℕ × FileTree)) (ks : List (List ℕ)) (i : ℕ) → i < length ks → left_keys f ms (drop i ks) no_docs ≡ None
key_without f ms [] i h = absurd (omega arith)
key_without f ms (k ∷ ks) zero h = refl
key_without f ms (k ∷ ks) (suc i) h = key_without f ms ks i (omega arith)

pub key_refused_at : (f : FileFormTree) (ms : List (List ℕ × FileTree)) (ks : List (List ℕ)) (i : ℕ) (d : DocTree) (ds : DocTrees) → i < length ks → option_flatten (write f d) ≡ None → left_keys f ms (drop i ks) (more_docs d ds) ≡ None
key_refused_at f ms [] i d ds h none = absurd (omega arith)
key_refused_at f ms (k ∷ ks) zero d ds h none = key_refused (write f) k ks d ds ms none
key_refused_at f ms (k ∷ ks) (suc i) d ds h none = key_refused_at f ms ks i d ds (omega arith) none

pub next_key_at : (f : FileFormTree) (ms : List (List ℕ × FileTree)) (ks : List (List ℕ)) (i : ℕ) (k : List ℕ) (d : DocTree) (ds : DocTrees) (t : FileTree) → i < length ks → k ≡ get_or ks i k → write f d ≡ Some (Some (file_tree t))
    → left_keys f ms (drop i ks) (more_docs d ds) ≡ left_keys f (ms ++ (k, t) ∷ []) (drop (i + 1) ks) ds
next_key_at f ms ks i k d ds t h is w =
    ap (λ xs. left_keys f ms xs (more_docs d ds)) (left_from ks i k h is) ∙ next_key (write f) k (drop (i + 1) ks) d ds ms t w

pub keys_done_at : (f : FileFormTree) (ms : List (List ℕ × FileTree)) (ks : List (List ℕ)) (i : ℕ) → length ks ≤ i → left_keys f ms (drop i ks) no_docs ≡ Some (members_view ms)
keys_done_at f ms ks i past = ap (λ xs. left_keys f ms xs no_docs) (drop_all i ks past) ∙ keys_done (write f) ms

-- what is refused with a part is refused with the whole
pub refused_with : {X Y : Type 0} (fault : WriteFault) (part : Option X) (whole : Option Y) → (part ≡ None → whole ≡ None) → Refuses fault part → Refuses fault whole
refused_with NoFile part whole as_part h = as_part h
refused_with NoMemory part whole as_part h = tt
