-- Documents as JSON trees: the tree of a document of a type, and the document of a type that a tree is.
-- From the end: `holds_i64s`, `document_of`, `tree_of_document`.
use Rattle.std.specs.Prelude.{ℕ, ◌&&◌, Bool, true, List, [], ◌∷◌, length, Option, Some, None, option_map}
use Rattle.std.specs.Prelude.{option_and_then, if◌then◌else◌, codes, bytes_eq, nat_eq}
use Rattle.serde_json.specs.Data.{Data, null, boolean, number, string, array, object, Items, no_items, item, Members}
use Rattle.serde_json.specs.Data.{no_members, member}
use Rattle.texts.specs.Keys.{is_rising, has_name}
use Rattle.hold_shapes.specs.Trees.{is_valid}
use Rattle.hold_shapes.specs.declared.shape.Shape.TheVariants.{List as ListOf, Keyed as KeyedOf, Tree as TreeOf}
use Rattle.doc_values.specs.Types.{TyTree, ty_unit, ty_bool, ty_int, ty_text, ty_enum, ty_rec, ty_alt, ty_list}
use Rattle.doc_values.specs.Types.{ty_keyed, ty_ordered, FieldTrees, no_fields, more_fields}
use Rattle.doc_values.specs.Documents.{DocTree, unit, truth, int, text, pick, rec, alt, hold, DocTrees, no_docs}
use Rattle.doc_values.specs.Documents.{more_docs, doc_list}
use Rattle.doc_values.specs.Typing.{lookup_type}
use Rattle.doc_values.specs.Integers.{fits_i64}
use Rattle.value_json.specs.Numbers.{int_in, counts_of, int_tree, count_items}

-- The tree of a document of the type, a line for each type; `null` where the document is of another type.
-- The members of a tree's object are in byte order, and so are the names of its type or of its shape.
abbrev mutual
  pub tree_of_document : TyTree → DocTree → Data
  tree_of_document ty_unit unit = null
  tree_of_document ty_bool (truth b) = boolean b
  tree_of_document (ty_int i) (int z) = int_tree z
  tree_of_document (ty_text i) (text s) = string s
  tree_of_document (ty_enum ms i) (pick n) = string n
  tree_of_document (ty_rec fs) (rec ds) = object (field_members fs ds)
  tree_of_document (ty_alt fs) (alt n d) =
      object (member n (elim (lookup_type fs n) [ None ↦ null | Some t ↦ tree_of_document t d ]) no_members)
  tree_of_document (ty_list t) (hold (ListOf s) ds) = array (content_items t ds)
  tree_of_document (ty_keyed t) (hold (KeyedOf ks) ds) = object (key_members t ks ds)
  tree_of_document (ty_ordered t) (hold (TreeOf depths) ds) =
      object (member (codes "depths") (array (count_items depths))
      (member (codes "items") (array (content_items t ds)) no_members))
  tree_of_document _ _ = null

  -- a member for each field: its name, and the tree of its content
  pub field_members : FieldTrees → DocTrees → Members
  field_members (more_fields n t fs) (more_docs d ds) = member n (tree_of_document t d) (field_members fs ds)
  field_members _ _ = no_members

  -- a member for each key: the key, and the tree of its content
  pub key_members : TyTree → List (List ℕ) → DocTrees → Members
  key_members t (k ∷ ks) (more_docs d ds) = member k (tree_of_document t d) (key_members t ks ds)
  key_members _ _ _ = no_members

  -- an item for each content: its tree
  pub content_items : TyTree → DocTrees → Items
  content_items t no_docs = no_items
  content_items t (more_docs d ds) = item (tree_of_document t d) (content_items t ds)

-- the names of an object's members
abbrev pub member_names : Members → List (List ℕ)
member_names no_members = []
member_names (member k d ms) = k ∷ member_names ms

-- a list of these contents
abbrev pub list_document : DocTrees → DocTree
list_document ds = hold (ListOf (record { count = length (doc_list ds) })) ds

-- a keyed map with these keys, which rise by bytes
abbrev pub keyed_document : List (List ℕ) → DocTrees → Option DocTree
keyed_document ks ds = if is_rising ks then Some (hold (KeyedOf ks) ds) else None

-- an ordered tree with these depths, which are valid and as many as the contents
abbrev pub ordered_document : List ℕ → DocTrees → Option DocTree
ordered_document depths ds = if is_valid depths && nat_eq (length depths) (length (doc_list ds))
    then Some (hold (TreeOf depths) ds) else None

-- The document of the type that has this tree, a line for each type; none where no document of the type has it.
abbrev mutual
  pub document_of : TyTree → Data → Option DocTree
  document_of ty_unit null = Some unit
  document_of ty_bool (boolean b) = Some (truth b)
  document_of (ty_int i) (number n) = option_map int (int_in n)
  document_of (ty_text i) (string s) = Some (text s)
  document_of (ty_enum ms i) (string s) = if has_name s ms then Some (pick s) else None
  document_of (ty_rec fs) (object ms) = option_map rec (field_documents fs ms)
  document_of (ty_alt fs) (object (member k d no_members)) =
      elim (lookup_type fs k) [ None ↦ None | Some t ↦ option_map (alt k) (document_of t d) ]
  document_of (ty_list t) (array ds) = option_map list_document (item_documents t ds)
  document_of (ty_keyed t) (object ms) = option_and_then (keyed_document (member_names ms)) (member_documents t ms)
  document_of (ty_ordered t) (object (member k (array ns) (member l (array ds) no_members))) =
      if bytes_eq k (codes "depths") && bytes_eq l (codes "items")
      then option_and_then (λ depths. option_and_then (ordered_document depths) (item_documents t ds)) (counts_of ns)
      else None
  document_of _ _ = None

  -- exactly the fields as members, each with a content of its type
  pub field_documents : FieldTrees → Members → Option DocTrees
  field_documents no_fields no_members = Some no_docs
  field_documents (more_fields n t fs) (member k d ms) =
      if bytes_eq n k
      then option_and_then (λ c. option_map (more_docs c) (field_documents fs ms)) (document_of t d)
      else None
  field_documents _ _ = None

  -- the contents of an object's members, all of the type
  pub member_documents : TyTree → Members → Option DocTrees
  member_documents t no_members = Some no_docs
  member_documents t (member k d ms) =
      option_and_then (λ c. option_map (more_docs c) (member_documents t ms)) (document_of t d)

  -- the contents that an array's items are, all of the type
  pub item_documents : TyTree → Items → Option DocTrees
  item_documents t no_items = Some no_docs
  item_documents t (item d ds) = option_and_then (λ c. option_map (more_docs c) (item_documents t ds)) (document_of t d)

-- every int in the document is an i64, as in a document of the program
abbrev mutual
  pub holds_i64s : DocTree → Bool
  holds_i64s (int z) = fits_i64 z
  holds_i64s (rec ds) = all_hold_i64s ds
  holds_i64s (alt n d) = holds_i64s d
  holds_i64s (hold s ds) = all_hold_i64s ds
  holds_i64s _ = true

  pub all_hold_i64s : DocTrees → Bool
  all_hold_i64s no_docs = true
  all_hold_i64s (more_docs d ds) = holds_i64s d && all_hold_i64s ds
