-- A word that takes a document to another one of its type.
-- Read it from the end: `between` has a line for each type.
use Rattle.std.specs.Prelude.{ℕ, zero, suc, ◌+◌, ◌-◌, ◌/◌, ◌%◌, Bool, false, List, [], ◌∷◌, take, drop}
use Rattle.std.specs.Prelude.{None, Some, if◌then◌else◌, nat_eq, bytes_eq, slice_index_or}
use Rattle.std.specs.Bool.{beq}
use Rattle.std.specs.Ordering.{int_eq}
use Rattle.texts.specs.Keys.{key_rank}
use Rattle.hold_shapes.specs.declared.lists.TheConstants.{MOST_ITEMS}
use Rattle.hold_shapes.specs.declared.edit.Place.TheVariants.{Key, Node}
use Rattle.hold_shapes.specs.declared.edit.ShapeEdit.TheVariants.{Del, DropKey, PutKey, Prune}
use Rattle.hold_shapes.specs.Shapes.{size_of}
use Rattle.hold_shapes.specs.Trees.{children}
use Rattle.doc_values.specs.Documents.{DocTree, unit, truth, int, text, pick, rec, alt, hold, DocTrees, no_docs}
use Rattle.doc_values.specs.Documents.{more_docs, doc_list}
use Rattle.doc_values.specs.Types.{TyTree, ty_bool, ty_int, ty_text, ty_enum, ty_rec, ty_alt, ty_list, ty_keyed}
use Rattle.doc_values.specs.Types.{ty_ordered, FieldTrees, no_fields, more_fields, names_of}
use Rattle.doc_values.specs.Typing.{lookup_type}
use Rattle.edit_module.specs.declared.atom.Atom.TheVariants.{Truth, Number, Letters}
use Rattle.edit_module.specs.Words.{WordTree, no_primitives, stay, switch, modify}
use Rattle.edit_inverse.specs.Construct.{construct, construct_each, only, reshape, set_unless, unless_empty, at_each}
use Rattle.edit_inverse.specs.Construct.{insertions, modify_each, grow, names_in, depths_in}
use Rattle.edit_inverse.specs.Paths.{paths}

-- ---- lists

-- Del of `MOST_ITEMS` items k times
abbrev pub full_deletions : ℕ → WordTree → WordTree
full_deletions zero rest = rest
full_deletions (suc k) rest = reshape (Del MOST_ITEMS) (full_deletions k rest)

-- Del of c items, where c is not 0
abbrev pub last_deletion : ℕ → WordTree → WordTree
last_deletion c rest = if nat_eq c 0 then rest else reshape (Del c) rest

-- the last n items, in pieces of `MOST_ITEMS`
abbrev pub deletions : ℕ → WordTree → WordTree
deletions n rest = full_deletions (n / MOST_ITEMS) (last_deletion (n % MOST_ITEMS) rest)

-- n items become m: the last ones go, or initial ones come behind the others
abbrev pub resized : ℕ → ℕ → WordTree → WordTree
resized n m rest = deletions (n - m) (insertions (m - n) rest)

-- ---- keyed maps

-- DropKey for each of the keys
abbrev pub drop_keys : List (List ℕ) → WordTree → WordTree
drop_keys [] rest = rest
drop_keys (k ∷ ks) rest = reshape (DropKey k) (drop_keys ks rest)

-- a key is the first of these
abbrev pub is_first : List ℕ → List (List ℕ) → Bool
is_first k [] = false
is_first k (l ∷ ls) = bytes_eq k l

-- the first of the contents
abbrev pub first_doc : List DocTree → DocTree
first_doc ds = slice_index_or ds 0 unit

-- ---- ordered trees

-- Prune of the last child of the root, k times
abbrev pub prunes : ℕ → WordTree → WordTree
prunes zero rest = rest
prunes (suc k) rest = reshape (Prune []) (prunes k rest)

-- Mod of each node
abbrev pub modify_nodes : List (List ℕ) → List WordTree → WordTree
modify_nodes [] ws = no_primitives
modify_nodes (q ∷ qs) [] = no_primitives
modify_nodes (q ∷ qs) (w ∷ ws) = unless_empty (modify (Node q)) w (modify_nodes qs ws)

-- the words of the nodes that are made anew: the root has another content, and all other nodes are new
abbrev pub with_root : List WordTree → List WordTree → List WordTree
with_root (w ∷ ws) (u ∷ us) = w ∷ us
with_root ws us = []

-- ---- all types

abbrev mutual
  pub between : TyTree → DocTree → DocTree → WordTree
  between ty_bool (truth a) (truth b) = set_unless (beq b a) (Truth b)
  between (ty_int z) (int m) (int n) = set_unless (int_eq n m) (Number n)
  between (ty_text z) (text r) (text s) = set_unless (bytes_eq s r) (Letters s)
  between (ty_enum ms z) (pick m) (pick n) = set_unless (bytes_eq n m) (Letters n)
  between (ty_rec fs) (rec ds) (rec es) = at_each (names_of fs) (between_fields fs ds es)
  between (ty_alt fs) (alt a v) (alt b u) = elim (lookup_type fs b) [
    | None ↦ no_primitives
    | Some t ↦
        if bytes_eq a b then unless_empty (stay b) (between t v u) no_primitives
        else only (switch a b (construct t u))
  ]
  between (ty_list t) (hold r ds) (hold s es) =
      resized (size_of r) (size_of s) (modify_each 0 (between_items t ds es))
  between (ty_keyed t) (hold r ds) (hold s es) = between_keys t (names_in r) (doc_list ds) (names_in s) es
  between (ty_ordered t) (hold r ds) (hold s es) =
      if bytes_eq (depths_in r) (depths_in s)
      then modify_nodes (paths (depths_in s)) (between_items t ds es)
      else prunes (children (depths_in r) 0)
      (grow (paths (depths_in s)) (with_root (between_items t ds es) (construct_each t es)))
  between _ _ _ = no_primitives

  -- the words of a record's contents, each with its field's type
  pub between_fields : FieldTrees → DocTrees → DocTrees → List WordTree
  between_fields fs ds no_docs = []
  between_fields no_fields ds (more_docs e es) = []
  between_fields (more_fields n t fs) no_docs (more_docs e es) = []
  between_fields (more_fields n t fs) (more_docs d ds) (more_docs e es) = between t d e ∷ between_fields fs ds es

  -- the words of contents, one for each new place: from the old content of the place, or from an initial one
  pub between_items : TyTree → DocTrees → DocTrees → List WordTree
  between_items t ds no_docs = []
  between_items t no_docs (more_docs e es) = construct t e ∷ between_items t no_docs es
  between_items t (more_docs d ds) (more_docs e es) = between t d e ∷ between_items t ds es

  -- from old keys with their contents to new ones, both in byte order: the old keys before the first new one go; then
  -- Mod of that one, which comes first if it is not there
  pub between_keys : TyTree → List (List ℕ) → List DocTree → List (List ℕ) → DocTrees → WordTree
  between_keys t ks ds ls no_docs = drop_keys ks no_primitives
  between_keys t ks ds [] (more_docs e es) = no_primitives
  between_keys t ks ds (l ∷ ls) (more_docs e es) =
      drop_keys (take (key_rank l ks) ks)
      (if is_first l (drop (key_rank l ks) ks)
      then unless_empty (modify (Key l)) (between t (first_doc (drop (key_rank l ks) ds)) e)
      (between_keys t (drop (key_rank l ks + 1) ks) (drop (key_rank l ks + 1) ds) ls es)
      else reshape (PutKey l) (unless_empty (modify (Key l)) (construct t e)
      (between_keys t (drop (key_rank l ks) ks) (drop (key_rank l ks) ds) ls es)))
