-- What a bridge says of two documents of a type: `Spans`.
use Rattle.std.specs.Prelude.{◌≡◌, ℕ, Bool, true, false, List, [], ◌∷◌, length, slice_get, Option, None, Some}
use Rattle.hold_shapes.specs.declared.shape.Shape.{Shape}
use Rattle.hold_shapes.specs.Plans.{list_of}
use Rattle.bridge_links.specs.declared.link.Link.{Link}
use Rattle.bridge_links.specs.Links.{place_of}
use Rattle.bridge_links.specs.Spans.{AreApart}
use Rattle.bridge_texts.specs.declared.run.Run.{Run}
use Rattle.bridge_texts.specs.Laws.{SpansTexts}
use Rattle.doc_values.specs.Documents.{DocTree, text, rec, alt, hold, DocTrees, no_docs, more_docs}
use Rattle.doc_values.specs.Documents.{doc_list}
use Rattle.doc_values.specs.Types.{TyTree, ty_bool, ty_int, ty_text, ty_enum, ty_rec, ty_alt, ty_list, ty_keyed}
use Rattle.doc_values.specs.Types.{ty_ordered, FieldTrees, no_fields, more_fields}
use Rattle.doc_values.specs.Typing.{has, lookup_type}
use Rattle.bridge_core.specs.Bridges.{BridgeTree, same, other, lost, cells, parts, arm, away, linked, BridgeTrees}
use Rattle.bridge_core.specs.Bridges.{no_bridges, more_bridges}

-- a bool, an int or an enum
abbrev pub is_plain : TyTree → Bool
is_plain ty_bool = true
is_plain (ty_int z) = true
is_plain (ty_enum ms z) = true
is_plain _ = false

-- a text, a keyed map or an ordered tree
abbrev pub is_row : TyTree → Bool
is_row (ty_text z) = true
is_row (ty_keyed t) = true
is_row (ty_ordered t) = true
is_row _ = false

-- both documents are of a type of this kind
pub record AreOf (kind : Bool) (t : TyTree) (s u : DocTree) : Type 0 where
  pub kind_is : kind ≡ true
  pub near_has : has t s ≡ true
  pub far_has : has t u ≡ true

-- the runs lead from one text to the other
abbrev pub SpanTexts : List Run → DocTree → DocTree → Type 0
SpanTexts rs (text s) (text u) = SpansTexts rs s u
SpanTexts rs _ _ = ⊥

-- what holds of a type that was looked up, and it was found
abbrev pub AtType : Option TyTree → (TyTree → Type 0) → Type 0
AtType None P = ⊥
AtType (Some t) P = P t

-- what holds of the document at a place, and there is one
abbrev pub IsThere : Option DocTree → (DocTree → Type 0) → Type 0
IsThere None P = ⊥
IsThere (Some d) P = P d

-- what holds of the item that a link leads to; nothing where it leads nowhere
abbrev pub AtItem : Option ℕ → DocTrees → (DocTree → Type 0) → Type 0
AtItem None es P = Unit {0}
AtItem (Some y) es P = IsThere (slice_get (doc_list es) y) P

-- both documents are lists, the far one of m items; no two items of the near one are at one place of the far one
pub record AreLinked (ls : List Link) (m : ℕ) (x y : Shape) (ds es : DocTrees) (Items : Type 0) : Type 0 where
  pub near_is : x ≡ list_of (length (doc_list ds))
  pub far_is : y ≡ list_of m
  pub far_size : length (doc_list es) ≡ m
  pub apart : AreApart ls
  pub items : Items

abbrev mutual
  -- the bridge leads from the near document s to the far one u
  pub Spans : BridgeTree → TyTree → DocTree → DocTree → Type 0
  Spans same t s u = s ≡ u
  Spans other t s u = AreOf (is_plain t) t s u
  Spans lost t s u = AreOf (is_row t) t s u
  Spans (cells rs) t s u = SpanTexts rs s u
  Spans (parts bs) (ty_rec fs) (rec ds) (rec es) = SpanFields bs fs ds es
  Spans (arm a b) (ty_alt fs) (alt c s) (alt d u) = (c ≡ a) × (d ≡ a) × AtType (lookup_type fs a) (λ t. Spans b t s u)
  Spans (away a b) (ty_alt fs) (alt c s) (alt d u) = (c ≡ a) × (d ≡ b)
  Spans (linked ls m bs) (ty_list t) (hold x ds) (hold y es) = AreLinked ls m x y ds es (SpanItems bs ls t ds es)
  Spans _ _ _ _ = ⊥

  -- a bridge for each field
  pub SpanFields : BridgeTrees → FieldTrees → DocTrees → DocTrees → Type 0
  SpanFields no_bridges no_fields no_docs no_docs = Unit {0}
  SpanFields (more_bridges b bs) (more_fields n t fs) (more_docs d ds) (more_docs e es) =
      Spans b t d e × SpanFields bs fs ds es
  SpanFields _ _ _ _ = ⊥

  -- a bridge and a link for each item of the near list: where the link leads, the bridge leads from the item to the one
  -- there; items of the far list to which no link leads are free
  pub SpanItems : BridgeTrees → List Link → TyTree → DocTrees → DocTrees → Type 0
  SpanItems no_bridges [] t no_docs es = Unit {0}
  SpanItems (more_bridges b bs) (l ∷ ls) t (more_docs d ds) es =
      AtItem (place_of l) es (λ e. Spans b t d e) × SpanItems bs ls t ds es
  SpanItems _ _ _ _ _ = ⊥
