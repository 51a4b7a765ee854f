-- What a file is by a form: the document, or the first part of the file that is not as the form has it. From the end:
-- `reading`, and what a reader returns.
use Rattle.std.specs.Prelude.{◌≡◌, ℕ, ◌+◌, Bool, true, ◌&&◌, if◌then◌else◌, bytes_eq, List, [], ◌∷◌, Option, Some}
use Rattle.std.specs.Prelude.{None, option_map, Result, Ok, Err}
use Rattle.std.specs.Borrow.{Bor}
use Rattle.json.specs.Json.{Json, boolean, number, string, array, object, Items, no_items, item, Members, no_members}
use Rattle.json.specs.Json.{member}
use Rattle.json.specs.Strict.{keys}
use Rattle.texts.specs.Keys.{has_name}
use Rattle.hold_shapes.specs.declared.shape.Shape.TheVariants.{Keyed as KeyedOf}
use Rattle.doc_values.specs.Documents.{DocTree, unit, truth, int, text, pick, rec, alt, hold, DocTrees, no_docs}
use Rattle.doc_values.specs.Documents.{more_docs}
use Rattle.file_trees.specs.FileTrees.{file_tree}
use Rattle.file_trees.specs.declared.tree.FileTree.{FileTree}
use Rattle.file_forms.specs.Forms.{FileFormTree, as_literal, as_bool, as_truths, as_int, as_text, as_enum, as_words}
use Rattle.file_forms.specs.Forms.{as_number, as_object, as_tagged, as_bare, as_items, as_map, FormFields, no_forms}
use Rattle.file_forms.specs.Forms.{more_forms, form_names}
use Rattle.file_forms.specs.Numbers.{is_number}
use Rattle.file_forms.specs.Orders.{by_name, first_named}
use Rattle.file_forms.specs.Slots.{is_literal, takes}
use Rattle.file_forms.specs.FileValues.{truth_of, word_of, int_text, listed_doc}
use Rattle.file_values.specs.declared.misfit.ReadCause.{ReadCause}
use Rattle.file_values.specs.declared.misfit.ReadCause.TheVariants.{Missing, OtherSort, OtherLiteral, NotAnInt}
use Rattle.file_values.specs.declared.misfit.ReadCause.TheVariants.{NotANumber, NotAMember, NoField, NotOneTag, NoTag}
use Rattle.file_values.specs.declared.misfit.FileStep.{FileStep}
use Rattle.file_values.specs.declared.misfit.FileStep.TheVariants.{Member, Item}
use Rattle.file_values.specs.declared.misfit.FileMisfit.{FileMisfit}
use Rattle.file_values.specs.declared.misfit.ReadFault.{ReadFault}
use Rattle.file_values.specs.declared.misfit.ReadFault.TheVariants as faults

-- ---- outcomes

-- the steps to a part of a file, and why that part is not as the form has it
abbrev pub Misfit : Type 0
Misfit = List FileStep × ReadCause

abbrev pub not_so : {A : Type 0} → ReadCause → Result A Misfit
not_so cause = Err ([], cause)

abbrev pub ok_or : {A : Type 0} → ReadCause → Option A → Result A Misfit
ok_or cause None = not_so cause
ok_or cause (Some a) = Ok a

abbrev pub map_ok : {A B : Type 0} → (A → B) → Result A Misfit → Result B Misfit
map_ok f (Ok a) = Ok (f a)
map_ok f (Err m) = Err m

abbrev pub and_then : {A B : Type 0} → (A → Result B Misfit) → Result A Misfit → Result B Misfit
and_then f (Ok a) = f a
and_then f (Err m) = Err m

-- the misfit of a part, and its outcome, seen from one step further out
abbrev pub outer : FileStep → Misfit → Misfit
outer s m = (s ∷ m.0, m.1)

abbrev pub inside : {A : Type 0} → FileStep → Result A Misfit → Result A Misfit
inside s (Ok a) = Ok a
inside s (Err m) = Err (outer s m)

-- ---- what a slot has

abbrev pub truth_in : Option Json → Result Bool Misfit
truth_in None = not_so Missing
truth_in (Some (boolean b)) = Ok b
truth_in (Some j) = not_so OtherSort

abbrev pub number_in : Option Json → Result (List ℕ) Misfit
number_in None = not_so Missing
number_in (Some (number s)) = Ok s
number_in (Some j) = not_so OtherSort

abbrev pub string_in : Option Json → Result (List ℕ) Misfit
string_in None = not_so Missing
string_in (Some (string s)) = Ok s
string_in (Some j) = not_so OtherSort

abbrev pub items_in : Option Json → Result Items Misfit
items_in None = not_so Missing
items_in (Some (array js)) = Ok js
items_in (Some j) = not_so OtherSort

abbrev pub members_in : Option Json → Result Members Misfit
members_in None = not_so Missing
members_in (Some (object ms)) = Ok ms
members_in (Some j) = not_so OtherSort

-- ---- members and contents

-- the first member that has none of the names
abbrev pub stranger : List (List ℕ) → Members → Option (List ℕ)
stranger ns no_members = None
stranger ns (member k j ms) = if has_name k ns then stranger ns ms else Some k

-- the members, unless one of them is a stranger
abbrev pub unless_stranger : Option (List ℕ) → Members → Result Members Misfit
unless_stranger None ms = Ok ms
unless_stranger (Some k) ms = inside (Member k) (not_so NoField)

-- the members of an object, if each has one of the names
abbrev pub known_members : List (List ℕ) → Option Json → Result Members Misfit
known_members ns s = and_then (λ ms. unless_stranger (stranger ns ms) ms) (members_in s)

-- every member has the name
abbrev pub all_named : List ℕ → Members → Bool
all_named k no_members = true
all_named k (member l j ms) = bytes_eq k l && all_named k ms

-- the name and the content of the one member of an object, which may come again under its name
abbrev pub one_member : Members → Option (List ℕ × Json)
one_member no_members = None
one_member (member k j ms) = if all_named k ms then Some (k, j) else None

-- what that member is, by its name and its content
abbrev pub one_reading : (List ℕ → Json → Result DocTree Misfit) → Option (List ℕ × Json) → Result DocTree Misfit
one_reading read None = not_so NotOneTag
one_reading read (Some m) = map_ok (alt m.0) (read m.0 m.1)

-- what items are, each read by itself; the first has this place
abbrev pub items_reading : (Json → Result DocTree Misfit) → ℕ → Items → Result DocTrees Misfit
items_reading read i no_items = Ok no_docs
items_reading read i (item j js) =
    and_then (λ d. map_ok (more_docs d) (items_reading read (i + 1) js)) (inside (Item i) (read j))

-- what the contents of members are
abbrev pub members_reading : (Json → Result DocTree Misfit) → Members → Result DocTrees Misfit
members_reading read no_members = Ok no_docs
members_reading read (member k j ms) =
    and_then (λ d. map_ok (more_docs d) (members_reading read ms)) (inside (Member k) (read j))

-- a keyed map, with its members in byte order
abbrev pub map_reading : (Json → Result DocTree Misfit) → Members → Result DocTree Misfit
map_reading read ms = map_ok (hold (KeyedOf (keys (by_name ms)))) (members_reading read (by_name ms))

abbrev pub pick_in : List (List ℕ) → List ℕ → Result DocTree Misfit
pick_in ms s = if has_name s ms then Ok (pick s) else not_so NotAMember

abbrev pub number_text : List ℕ → Result DocTree Misfit
number_text s = if is_number s then Ok (text s) else not_so NotANumber

-- ---- reading

-- The document that a slot is, or the first part of it that is not as the form has it. Of an object with fields, the
-- members that no field has come first, and then the fields in their order. Items come in their order, and the members
-- of a keyed map in byte order.
abbrev mutual
  pub reading : FileFormTree → Option Json → Result DocTree Misfit
  reading (as_literal l) s = if is_literal l s then Ok unit else not_so OtherLiteral
  reading as_bool s = map_ok truth (truth_in s)
  reading (as_truths f t) s = ok_or OtherLiteral (option_map truth (truth_of f t s))
  reading (as_int i) s = and_then (λ t. ok_or NotAnInt (option_map int (int_text t))) (number_in s)
  reading (as_text i) s = map_ok text (string_in s)
  reading (as_enum ms i) s = and_then (pick_in ms) (string_in s)
  reading (as_words ws i) s = ok_or NotAMember (option_map pick (word_of ws s))
  reading (as_number i) s = and_then number_text (number_in s)
  reading (as_object fs) s = map_ok rec (and_then (fields_reading fs) (known_members (form_names fs) s))
  reading (as_tagged fs) s = and_then (λ ms. one_reading (tag_reading fs) (one_member ms)) (members_in s)
  reading (as_bare fs) s = bare_reading fs s
  reading (as_items f) s = map_ok listed_doc (and_then (items_reading (λ j. reading f (Some j)) 0) (items_in s))
  reading (as_map f) s = and_then (map_reading (λ j. reading f (Some j))) (members_in s)

  pub fields_reading : FormFields → Members → Result DocTrees Misfit
  fields_reading no_forms ms = Ok no_docs
  fields_reading (more_forms n f fs) ms =
      and_then (λ d. map_ok (more_docs d) (fields_reading fs ms)) (inside (Member n) (reading f (first_named n ms)))

  -- the content of a tag
  pub tag_reading : FormFields → List ℕ → Json → Result DocTree Misfit
  tag_reading no_forms k j = not_so NotOneTag
  tag_reading (more_forms n f fs) k j =
      if bytes_eq n k then inside (Member k) (reading f (Some j)) else tag_reading fs k j

  -- the first tag whose form takes the slot
  pub bare_reading : FormFields → Option Json → Result DocTree Misfit
  bare_reading no_forms s = not_so NoTag
  bare_reading (more_forms n f fs) s = if takes f s then map_ok (alt n) (reading f s) else bare_reading fs s

-- ---- what a reader returns

abbrev pub misfit_view : FileMisfit → Misfit
misfit_view m = (m.place.items, m.cause)

-- the misfit of a fault; running out of memory has none
abbrev pub fault_view : ReadFault → Option Misfit
fault_view (faults.Misfit m) = Some (misfit_view m)
fault_view faults.NoMemory = None

-- the fault of a part, seen from one step further out, or running out of memory
abbrev pub Deepens : FileStep → ReadFault → ReadFault → Type 0
Deepens s fault faults.NoMemory = Unit {0}
Deepens s fault (faults.Misfit m) = option_map (outer s) (fault_view fault) ≡ Some (misfit_view m)

-- a misfit is that of the file; running out of memory says nothing
abbrev pub Fails : {Y : Type 0} → Option Misfit → Result Y Misfit → Type 0
Fails (Some m) outcome = outcome ≡ Err m
Fails None outcome = Unit {0}

-- what is returned is what there is to read
abbrev pub Reads : {X Y : Type 0} → (X → Y) → Result X ReadFault → Result Y Misfit → Type 0
Reads view (Ok x) outcome = outcome ≡ Ok (view x)
Reads view (Err fault) outcome = Fails (fault_view fault) outcome

-- the slot of what is there, or nothing
abbrev pub slot_of : Option (Bor FileTree) → Option Json
slot_of = option_map (λ t. file_tree t.now)

-- the members of a map of what trees have
abbrev pub lent_members : List (Bor (List ℕ) × Bor FileTree) → Members
lent_members [] = no_members
lent_members (m ∷ ms) = member m.0.now (file_tree m.1.now) (lent_members ms)
