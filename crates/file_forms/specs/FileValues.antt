-- The document that a tree of a file is, and the slot that a document is written as, by a form. From the end: `write`,
-- `read`.
use Rattle.std.specs.Prelude.{ℕ, ℤ, Bool, true, false, ◌&&◌, List, [], ◌∷◌, length, Option, Some, None, option_map}
use Rattle.std.specs.Prelude.{option_and_then, if◌then◌else◌, bytes_eq, nat_eq, pos, neg_ℤ, cond, ◌==◌}
use Rattle.std.specs.Option.{option_flatten}
use Rattle.std.specs.Fmt.{signed_decimal}
use Rattle.std.specs.Str.Parse.{digits_value}
use Rattle.json.specs.Json.{Json, boolean, number, string, array, object, Items, no_items, item, Members}
use Rattle.json.specs.Json.{no_members, member}
use Rattle.json.specs.Strict.{keys}
use Rattle.texts.specs.Keys.{is_rising, has_name}
use Rattle.hold_shapes.specs.declared.shape.Shape.TheVariants.{List as ListOf, Keyed as KeyedOf}
use Rattle.doc_values.specs.Documents.{DocTree, unit, truth, int, text, pick, rec, alt, hold, DocTrees, no_docs}
use Rattle.doc_values.specs.Documents.{more_docs, doc_list}
use Rattle.doc_values.specs.Integers.{fits_i64}
use Rattle.file_forms.specs.declared.literal.Literal.{Literal}
use Rattle.file_forms.specs.Forms.{FileFormTree, as_literal, as_bool, as_truths, as_int, as_text, as_enum, as_words}
use Rattle.file_forms.specs.Forms.{as_number, as_object, as_tagged, as_bare, as_items, as_map, FormFields, no_forms}
use Rattle.file_forms.specs.Forms.{more_forms}
use Rattle.file_forms.specs.Numbers.{is_number}
use Rattle.file_forms.specs.Orders.{by_name}
use Rattle.file_forms.specs.Slots.{literal_slot, is_literal, takes}

-- ---- numbers

-- the number that digits write, perhaps after a minus
abbrev pub int_value : List ℕ → ℤ
int_value [] = pos 0
int_value (c ∷ cs) = cond (c == 45) (neg_ℤ (pos (digits_value 10 cs))) (pos (digits_value 10 (c ∷ cs)))

-- the number, if it is an i64 with exactly this text
abbrev pub int_from : List ℕ → ℤ → Option ℤ
int_from s z = if fits_i64 z && bytes_eq (signed_decimal z) s then Some z else None

-- the i64 that is written as this text
abbrev pub int_text : List ℕ → Option ℤ
int_text s = int_from s (int_value s)

-- ---- literals

-- the truth value whose literal the slot is
abbrev pub truth_of : Literal → Literal → Option Json → Option Bool
truth_of f t s = if is_literal f s then Some false else (if is_literal t s then Some true else None)

-- the literal of a truth value
abbrev pub truth_literal : Literal → Literal → Bool → Literal
truth_literal f t false = f
truth_literal f t true = t

-- the first member whose literal the slot is
abbrev pub word_of : List (List ℕ × Literal) → Option Json → Option (List ℕ)
word_of [] s = None
word_of (w ∷ ws) s = if is_literal w.1 s then Some w.0 else word_of ws s

-- what the literal of a member stands for
abbrev pub word_slot : List (List ℕ × Literal) → List ℕ → Option (Option Json)
word_slot [] n = None
word_slot (w ∷ ws) n = if bytes_eq w.0 n then Some (literal_slot w.1) else word_slot ws n

-- ---- members and contents

-- the slot of the first member, where it has the name; and the members after it, or all of them
abbrev pub head_slot : List ℕ → Members → Option Json
head_slot n no_members = None
head_slot n (member k j ms) = if bytes_eq n k then Some j else None

abbrev pub after_head : List ℕ → Members → Members
after_head n no_members = no_members
after_head n (member k j ms) = if bytes_eq n k then ms else member k j ms

-- the members with one in front, if its slot is not empty
abbrev pub with_slot : List ℕ → Option Json → Members → Members
with_slot n None ms = ms
with_slot n (Some j) ms = member n j ms

abbrev pub listed_doc : DocTrees → DocTree
listed_doc ds = hold (ListOf (record { count = length (doc_list ds) })) ds

abbrev pub keyed_doc : List (List ℕ) → DocTrees → Option DocTree
keyed_doc ks ds = if is_rising ks then Some (hold (KeyedOf ks) ds) else None

-- the contents that items are, each read by itself
abbrev pub items_read : (Json → Option DocTree) → Items → Option DocTrees
items_read read no_items = Some no_docs
items_read read (item j js) = option_and_then (λ d. option_map (more_docs d) (items_read read js)) (read j)

-- those that the contents of members are
abbrev pub members_read : (Json → Option DocTree) → Members → Option DocTrees
members_read read no_members = Some no_docs
members_read read (member k j ms) = option_and_then (λ d. option_map (more_docs d) (members_read read ms)) (read j)

-- the items that contents are written as: none is left out
abbrev pub items_written : (DocTree → Option (Option Json)) → DocTrees → Option Items
items_written write no_docs = Some no_items
items_written write (more_docs d ds) =
    option_and_then (λ j. option_map (item j) (items_written write ds)) (option_flatten (write d))

-- the members that keys with contents are written as
abbrev pub members_written : (DocTree → Option (Option Json)) → List (List ℕ) → DocTrees → Option Members
members_written write [] no_docs = Some no_members
members_written write (k ∷ ks) (more_docs d ds) =
    option_and_then (λ j. option_map (member k j) (members_written write ks ds)) (option_flatten (write d))
members_written write _ _ = None

abbrev pub array_slot : Items → Option Json
array_slot js = Some (array js)

abbrev pub object_slot : Members → Option Json
object_slot ms = Some (object ms)

-- what an object with exactly one member is, by what its name and its content are
abbrev pub only_read : (List ℕ → Json → Option DocTree) → Members → Option DocTree
only_read read no_members = None
only_read read (member k j no_members) = option_map (alt k) (read k j)
only_read read (member k j (member l i ms)) = None

-- an object with one member
abbrev pub tagged_slot : List ℕ → Json → Option Json
tagged_slot n j = Some (object (member n j no_members))

-- ---- reading

-- The document of the form's type that a slot is; none where no document is written so. The members of an object are
-- read in byte order of their names: for each field the member of its name, or none, and no other.
abbrev mutual
  pub read : FileFormTree → Option Json → Option DocTree
  read (as_literal l) s = if is_literal l s then Some unit else None
  read as_bool (Some (boolean b)) = Some (truth b)
  read (as_truths f t) s = option_map truth (truth_of f t s)
  read (as_int i) (Some (number s)) = option_map int (int_text s)
  read (as_text i) (Some (string s)) = Some (text s)
  read (as_enum ms i) (Some (string s)) = if has_name s ms then Some (pick s) else None
  read (as_words ws i) s = option_map pick (word_of ws s)
  read (as_number i) (Some (number s)) = if is_number s then Some (text s) else None
  read (as_object fs) (Some (object ms)) = option_map rec (read_fields fs (by_name ms))
  read (as_tagged fs) (Some (object ms)) = only_read (read_tag fs) (by_name ms)
  read (as_bare fs) s = read_bare fs s
  read (as_items f) (Some (array js)) = option_map listed_doc (items_read (λ j. read f (Some j)) js)
  read (as_map f) (Some (object ms)) =
      option_and_then (keyed_doc (keys (by_name ms))) (members_read (λ j. read f (Some j)) (by_name ms))
  read _ _ = None

  pub read_fields : FormFields → Members → Option DocTrees
  read_fields no_forms no_members = Some no_docs
  read_fields no_forms (member k j ms) = None
  read_fields (more_forms n f fs) ms =
      option_and_then (λ d. option_map (more_docs d) (read_fields fs (after_head n ms))) (read f (head_slot n ms))

  -- the content of a tag
  pub read_tag : FormFields → List ℕ → Json → Option DocTree
  read_tag no_forms k j = None
  read_tag (more_forms n f fs) k j = if bytes_eq n k then read f (Some j) else read_tag fs k j

  -- the first tag whose form takes the slot
  pub read_bare : FormFields → Option Json → Option DocTree
  read_bare no_forms s = None
  read_bare (more_forms n f fs) s = if takes f s then option_map (alt n) (read f s) else read_bare fs s

-- ---- writing

-- The slot that a document is written as; none where the document is not of the form's type, or no file has it.
abbrev mutual
  pub write : FileFormTree → DocTree → Option (Option Json)
  write (as_literal l) unit = Some (literal_slot l)
  write as_bool (truth b) = Some (Some (boolean b))
  write (as_truths f t) (truth b) = Some (literal_slot (truth_literal f t b))
  write (as_int i) (int z) = if fits_i64 z then Some (Some (number (signed_decimal z))) else None
  write (as_text i) (text s) = Some (Some (string s))
  write (as_enum ms i) (pick n) = if has_name n ms then Some (Some (string n)) else None
  write (as_words ws i) (pick n) = word_slot ws n
  write (as_number i) (text s) = if is_number s then Some (Some (number s)) else None
  write (as_object fs) (rec ds) = option_map object_slot (write_fields fs ds)
  write (as_tagged fs) (alt n d) = option_map (tagged_slot n) (option_flatten (write_tag fs n d))
  write (as_bare fs) (alt n d) = write_tag fs n d
  write (as_items f) (hold (ListOf s) ds) =
      if nat_eq s.count (length (doc_list ds)) then option_map array_slot (items_written (write f) ds) else None
  write (as_map f) (hold (KeyedOf ks) ds) =
      if is_rising ks then option_map object_slot (members_written (write f) ks ds) else None
  write _ _ = None

  pub write_fields : FormFields → DocTrees → Option Members
  write_fields no_forms no_docs = Some no_members
  write_fields (more_forms n f fs) (more_docs d ds) =
      option_and_then (λ s. option_map (with_slot n s) (write_fields fs ds)) (write f d)
  write_fields _ _ = None

  pub write_tag : FormFields → List ℕ → DocTree → Option (Option Json)
  write_tag no_forms n d = None
  write_tag (more_forms m f fs) n d = if bytes_eq m n then write f d else write_tag fs n d
