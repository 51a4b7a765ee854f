-- The bridge after a word has acted on the far document.
-- Read it from the end: `bridge` goes through a word, and `bridge_primitive` has a line for each primitive that acts.
use Rattle.std.specs.Prelude.{ℕ, Bool, List, [], ◌&&◌, if◌then◌else◌, length, Option, None, Some, Result, Ok, Err}
use Rattle.std.specs.Str.{is_utf8}
use Rattle.texts.specs.Characters.{character_count}
use Rattle.hold_shapes.specs.declared.edit.Place.TheVariants.{Index}
use Rattle.hold_shapes.specs.declared.edit.ShapeEdit.{ShapeEdit}
use Rattle.hold_shapes.specs.Plans.{Planned, plan_list}
use Rattle.hold_shapes.specs.Shapes.{place_of}
use Rattle.bridge_links.specs.declared.link.Link.{Link}
use Rattle.bridge_links.specs.Links.{came, same_places}
use Rattle.bridge_links.specs.Links as Links
use Rattle.bridge_lists.specs.Carried as Lists
use Rattle.bridge_texts.specs.declared.run.Run.{Run}
use Rattle.bridge_texts.specs.Runs.{far_spliced, shortest}
use Rattle.doc_values.specs.Documents.{DocTree, text, rec, alt, hold, DocTrees, doc_list}
use Rattle.doc_values.specs.Types.{TyTree, ty_text, ty_rec, ty_alt, ty_list}
use Rattle.doc_values.specs.Typing.{lookup_field, lookup_type}
use Rattle.edit_module.specs.declared.fault.Cause.{Cause}
use Rattle.edit_module.specs.Words.{PrimitiveTree, set, add, splice, at, stay, switch, modify, shape, WordTree}
use Rattle.edit_module.specs.Words.{no_primitives, more_primitives}
use Rattle.edit_module.specs.Action.{act_primitive, doc_at}
use Rattle.bridge_core.specs.Bridges.{BridgeTree, same, other, lost, cells, parts, arm, away, linked, BridgeTrees}
use Rattle.bridge_core.specs.Bridges.{no_bridges, bridge_at, put_bridge_at, same_each}

-- what is done with what was looked up; the bridge stays where nothing was found
abbrev pub for_found : {A : Type 0} → BridgeTree → Option A → (A → BridgeTree) → BridgeTree
for_found b None go = b
for_found b (Some x) go = go x

-- ---- values

-- a value is set
abbrev pub bridge_set : TyTree → BridgeTree
bridge_set (ty_text z) = lost
bridge_set _ = other

-- k characters of the far text from place i on are replaced by those of x; only of texts that are UTF-8 the runs are
-- known, as all texts of the code are
abbrev pub with_splice : Bool → List Run → ℕ → ℕ → List ℕ → BridgeTree
with_splice known rs i k x = if known then cells (shortest (far_spliced rs i k (character_count x))) else lost

abbrev pub bridge_splice : List ℕ → BridgeTree → ℕ → ℕ → List ℕ → BridgeTree
bridge_splice v same i k x = with_splice (is_utf8 v && is_utf8 x) [] i k x
bridge_splice v (cells rs) i k x = with_splice (is_utf8 x) rs i k x
bridge_splice v _ i k x = lost

-- ---- records

-- the bridges of the fields of a far record
abbrev pub parts_of : BridgeTree → DocTrees → BridgeTrees
parts_of same ds = same_each ds
parts_of (parts bs) ds = bs
parts_of _ ds = no_bridges

-- a field at a place, whose bridge is led on by `inner`
abbrev pub bridge_field : BridgeTrees → ℕ → (BridgeTree → BridgeTree) → BridgeTree
bridge_field bs i inner = parts (put_bridge_at bs i (inner (bridge_at bs i)))

-- ---- alternatives

-- the bridge of the contents, where both documents have the same tag
abbrev pub arm_of : BridgeTree → BridgeTree
arm_of (arm a b) = b
arm_of _ = same

-- the content of the far tag was acted on, and `b` is the bridge of both contents
abbrev pub bridge_stay : BridgeTree → List ℕ → BridgeTree → BridgeTree
bridge_stay (away a c) tag b = away a c
bridge_stay _ tag b = arm tag b

-- the far document went from the tag a to the tag c
abbrev pub bridge_switch : BridgeTree → List ℕ → List ℕ → BridgeTree
bridge_switch (away old new) a c = away old c
bridge_switch _ a c = away a c

-- ---- lists

-- the bridge of two lists, where each item of the near one has a link
abbrev pub linked_of : BridgeTree → DocTrees → BridgeTree
linked_of same ds = linked (same_places (length (doc_list ds))) (length (doc_list ds)) (same_each ds)
linked_of b ds = b

-- the bridge of an item of the near list, if there is one, and another one there
abbrev pub inner_at : BridgeTrees → Option ℕ → BridgeTree
inner_at bs None = same
inner_at bs (Some x) = bridge_at bs x

abbrev pub put_inner_at : BridgeTrees → Option ℕ → BridgeTree → BridgeTrees
put_inner_at bs None b = bs
put_inner_at bs (Some x) b = put_bridge_at bs x b

-- the item of the near list that is at the place y of the far one
abbrev pub near_place : List Link → ℕ → Option ℕ
near_place ls y = Links.place_of (came 0 y ls)

-- the bridge of the item at the place y of the far list, and another one there
abbrev pub inner_of : BridgeTree → ℕ → BridgeTree
inner_of (linked ls m bs) y = inner_at bs (near_place ls y)
inner_of b y = same

abbrev pub with_inner : BridgeTree → ℕ → BridgeTree → BridgeTree
with_inner (linked ls m bs) y c = linked ls m (put_inner_at bs (near_place ls y) c)
with_inner b y c = b

-- that bridge is led on by `inner`
abbrev pub bridge_item : BridgeTree → ℕ → (BridgeTree → BridgeTree) → BridgeTree
bridge_item b y inner = with_inner b y (inner (inner_of b y))

-- the links after an edit of the far list; they stay where the edit has no plan
abbrev pub links_after : Planned → ShapeEdit → List Link → ℕ → BridgeTrees → BridgeTree
links_after (Ok p) e ls m bs = linked (Lists.led_on e (ls, m)).0 (Lists.led_on e (ls, m)).1 bs
links_after (Err cause) e ls m bs = linked ls m bs

abbrev pub bridge_shape : BridgeTree → ShapeEdit → BridgeTree
bridge_shape (linked ls m bs) e = links_after (plan_list m e) e ls m bs
bridge_shape b e = b

-- ---- all primitives and words

-- the bridge of a word's rest, where its first primitive acts
abbrev pub led_on : BridgeTree → Result DocTree Cause → (DocTree → BridgeTree) → BridgeTree
led_on b (Ok u) rest = rest u
led_on b (Err cause) rest = b

abbrev mutual
  -- the bridge when the far document v was acted on by a word, where b is the bridge before
  pub bridge : TyTree → WordTree → DocTree → BridgeTree → BridgeTree
  bridge t no_primitives v b = b
  bridge t (more_primitives p w) v b = led_on b (act_primitive t p v) (λ u. bridge t w u (bridge_primitive t p v b))

  pub bridge_primitive : TyTree → PrimitiveTree → DocTree → BridgeTree → BridgeTree
  bridge_primitive t (set a) v b = bridge_set t
  bridge_primitive t (add n) v b = other
  bridge_primitive t (splice i k x) (text v) b = bridge_splice v b i k x
  bridge_primitive (ty_rec fs) (at f w) (rec ds) b =
      for_found b (lookup_field fs f) (λ s. bridge_field (parts_of b ds) s.0 (λ c. bridge s.1 w (doc_at ds s.0) c))
  bridge_primitive (ty_alt fs) (stay a w) (alt tag v) b =
      for_found b (lookup_type fs tag) (λ t. bridge_stay b tag (bridge t w v (arm_of b)))
  bridge_primitive t (switch a c w) v b = bridge_switch b a c
  bridge_primitive (ty_list t) (modify (Index i) w) (hold s ds) b =
      for_found b (place_of s (Index i)) (λ y. bridge_item (linked_of b ds) y (λ c. bridge t w (doc_at ds y) c))
  bridge_primitive (ty_list t) (shape e) (hold s ds) b = bridge_shape (linked_of b ds) e
  bridge_primitive t (modify p w) v b = lost
  bridge_primitive t (shape e) v b = lost
  bridge_primitive _ _ _ b = b
