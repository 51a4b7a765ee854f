-- A word that was made for the near document, as a word for the far one, with the bridge behind it.
-- Read it from the end: `carry` goes through a word, and `carry_primitive` has a line for each bridge.
use Rattle.std.specs.Prelude.{ℕ, Bool, List, map, bytes_eq, nat_lt, if◌then◌else◌, length, Option, None, Some, Result}
use Rattle.std.specs.Prelude.{Ok, Err}
use Rattle.std.specs.Str.{is_utf8}
use Rattle.texts.specs.Characters.{character_count}
use Rattle.hold_shapes.specs.declared.edit.Place.{Place as PlaceOf}
use Rattle.hold_shapes.specs.declared.edit.Place.TheVariants.{Index, Key, Node}
use Rattle.hold_shapes.specs.declared.edit.ShapeEdit.{ShapeEdit}
use Rattle.hold_shapes.specs.Plans.{Planned, plan_list}
use Rattle.bridge_links.specs.declared.link.Link.{Link}
use Rattle.bridge_links.specs.Links.{link_at}
use Rattle.bridge_lists.specs.Carried.{far_place}
use Rattle.bridge_lists.specs.Carried as Lists
use Rattle.bridge_texts.specs.declared.run.Run.{Run}
use Rattle.bridge_texts.specs.Runs.{Piece, carried, near_spliced, shortest}
use Rattle.doc_values.specs.Types.{TyTree, ty_rec, ty_alt, ty_list}
use Rattle.doc_values.specs.Typing.{lookup_field, lookup_type}
use Rattle.edit_module.specs.Action.{cause_of}
use Rattle.edit_module.specs.declared.fault.Cause.{Cause}
use Rattle.edit_module.specs.declared.fault.Cause.TheVariants.{Kind, Place, Tag}
use Rattle.edit_module.specs.Words.{PrimitiveTree, set, add, splice, at, stay, switch, modify, shape, WordTree}
use Rattle.edit_module.specs.Words.{no_primitives, more_primitives, word_of, joined}
use Rattle.bridge_core.specs.Bridges.{BridgeTree, same, other, lost, cells, parts, arm, away, linked, BridgeTrees}
use Rattle.bridge_core.specs.Bridges.{bridge_at, put_bridge_at, bridges_after}

-- why a word is not carried: what it changes is gone, or it does not act on the near document for this cause
pub data WhyNot : Type 0 where
  gone : WhyNot
  fails : Cause → WhyNot

-- the word for the far document with the bridge behind it, or why there is none
abbrev pub Answer : Type 0
Answer = Result (WordTree × BridgeTree) WhyNot

-- what is done with what was looked up; without it the word does not act on the near document
abbrev pub if_there : {A : Type 0} → Option A → Cause → (A → Answer) → Answer
if_there None cause go = Err (fails cause)
if_there (Some x) cause go = go x

-- a primitive for the far document, and the bridge behind it
abbrev pub passes : PrimitiveTree → BridgeTree → Answer
passes p b = Ok (more_primitives p no_primitives, b)

-- the answer of an inner word, with a primitive and a bridge round it
abbrev pub around : (WordTree → PrimitiveTree) → (BridgeTree → BridgeTree) → Answer → Answer
around p b (Ok a) = passes (p a.0) (b a.1)
around p b (Err why) = Err why

-- ---- values

abbrev pub carry_other : PrimitiveTree → Answer
carry_other (set a) = passes (set a) same
carry_other (add n) = passes (add n) other
carry_other _ = Err (fails Kind)

abbrev pub carry_lost : PrimitiveTree → Answer
carry_lost (set a) = passes (set a) same
carry_lost (splice i k x) = Err gone
carry_lost (modify p w) = Err gone
carry_lost (shape e) = Err gone
carry_lost _ = Err (fails Kind)

-- splices, one after another
abbrev pub splice_of : Piece → PrimitiveTree
splice_of p = splice p.0 p.1 p.2

abbrev pub splices : List Piece → WordTree
splices ps = word_of (map splice_of ps)

-- a text that is not UTF-8 goes nowhere; the code has none
abbrev pub carry_splice : Bool → List Run → ℕ → ℕ → List ℕ → Answer
carry_splice known rs i k x =
    if known then Ok (splices (carried rs i k x), cells (shortest (near_spliced rs i k (character_count x))))
    else Err gone

abbrev pub carry_text : List Run → PrimitiveTree → Answer
carry_text rs (set a) = passes (set a) same
carry_text rs (splice i k x) = carry_splice (is_utf8 x) rs i k x
carry_text rs _ = Err (fails Kind)

-- ---- records and alternatives; `inner` carries the inner word

abbrev pub carry_at : TyTree → BridgeTrees → List ℕ → (TyTree → BridgeTree → Answer) → Answer
carry_at (ty_rec fs) bs f inner = if_there (lookup_field fs f) Place
    (λ s. around (at f) (λ b. parts (put_bridge_at bs s.0 b)) (inner s.1 (bridge_at bs s.0)))
carry_at _ bs f inner = Err (fails Kind)

-- an edit of the content of the tag a, where both documents have the tag `tag`
abbrev pub carry_stay : TyTree → List ℕ → BridgeTree → List ℕ → (TyTree → BridgeTree → Answer) → Answer
carry_stay (ty_alt fs) tag b a inner =
    if bytes_eq a tag then if_there (lookup_type fs tag) Tag (λ t. around (stay tag) (arm tag) (inner t b))
    else Err (fails Tag)
carry_stay _ tag b a inner = Err (fails Kind)

-- the same edit, where the far document has gone to another tag
abbrev pub carry_left : List ℕ → List ℕ → Answer
carry_left old a = if bytes_eq a old then Err gone else Err (fails Tag)

-- a switch from the tag a to the tag c, where the near document has the tag `old` and the far one `new`
abbrev pub carry_switch : List ℕ → List ℕ → List ℕ → List ℕ → WordTree → Answer
carry_switch old new a c w = if bytes_eq a old then passes (switch new c w) same else Err (fails Tag)

-- ---- lists

-- an edit of the item at a place, at its place in the far list; `inner` carries the inner word
abbrev pub at_far : Option ℕ → (ℕ → Answer) → Answer
at_far None go = Err gone
at_far (Some y) go = go y

abbrev pub carry_index : TyTree → List Link → ℕ → BridgeTrees → ℕ → (TyTree → BridgeTree → Answer) → Answer
carry_index t ls m bs i inner =
    if nat_lt i (length ls) then at_far (far_place m (link_at ls i))
    (λ y. around (modify (Index y)) (λ b. linked ls m (put_bridge_at bs i b)) (inner t (bridge_at bs i)))
    else Err (fails Place)

abbrev pub carry_item :
    TyTree → List Link → ℕ → BridgeTrees → PlaceOf → (TyTree → BridgeTree → Answer) → Answer
carry_item (ty_list t) ls m bs (Index i) inner = carry_index t ls m bs i inner
carry_item _ ls m bs p inner = Err (fails Kind)

-- edits of the shape, one after another
abbrev pub shapes : List ShapeEdit → WordTree
shapes es = word_of (map shape es)

-- an edit of the near list, by its plan and by what it is for the far list: nothing where it moves an item that is gone
abbrev pub carry_planned : Planned → Option Lists.Carried → BridgeTrees → Answer
carry_planned (Err cause) o bs = Err (fails (cause_of cause))
carry_planned (Ok p) None bs = Err gone
carry_planned (Ok p) (Some q) bs = Ok (shapes q.0, linked q.1 q.2 (bridges_after p.1 bs))

abbrev pub carry_shape : List Link → ℕ → BridgeTrees → ShapeEdit → Answer
carry_shape ls m bs e = carry_planned (plan_list (length ls) e) (Lists.carried e m ls) bs

-- ---- all primitives and words

-- a word in front of the one of an answer
abbrev pub in_front : WordTree → Answer → Answer
in_front u (Ok a) = Ok (joined u a.0, a.1)
in_front u (Err why) = Err why

-- the answer of a word's first primitive, and then that of its rest
abbrev pub then_carry : Answer → (BridgeTree → Answer) → Answer
then_carry (Ok a) rest = in_front a.0 (rest a.1)
then_carry (Err why) rest = Err why

abbrev mutual
  pub carry : TyTree → BridgeTree → WordTree → Answer
  carry t b no_primitives = Ok (no_primitives, b)
  carry t b (more_primitives p w) = then_carry (carry_primitive t b p) (λ c. carry t c w)

  pub carry_primitive : TyTree → BridgeTree → PrimitiveTree → Answer
  carry_primitive t same p = passes p same
  carry_primitive t other p = carry_other p
  carry_primitive t lost p = carry_lost p
  carry_primitive t (cells rs) p = carry_text rs p
  carry_primitive t (parts bs) (at f w) = carry_at t bs f (λ u b. carry u b w)
  carry_primitive t (arm tag b) (stay a w) = carry_stay t tag b a (λ u c. carry u c w)
  carry_primitive t (arm tag b) (switch a c w) = carry_switch tag tag a c w
  carry_primitive t (away old new) (stay a w) = carry_left old a
  carry_primitive t (away old new) (switch a c w) = carry_switch old new a c w
  carry_primitive t (linked ls m bs) (modify p w) = carry_item t ls m bs p (λ u b. carry u b w)
  carry_primitive t (linked ls m bs) (shape e) = carry_shape ls m bs e
  carry_primitive _ _ _ = Err (fails Kind)
