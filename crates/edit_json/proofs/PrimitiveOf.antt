-- Primitives by the parts of their trees, and how deep these parts nest.
use Rattle.std.proofs.Common.{◌≡◌, ℕ, zero, suc, ◌<◌, ◌≤◌, List, [], ◌∷◌, length, get_or, Option, Some, None, option_map, option_and_then, refl, ap, arith, rules}
use Rattle.hold_shapes.specs.declared.edit.ShapeEdit.TheVariants as edits
use Rattle.serde_json.specs.Data.{Data, array, object, Items, no_items, item, no_members, member, depth, items_depth}
use Rattle.serde_json.specs.Find.{as_array, as_str}
use Rattle.serde_json.specs.View.{view, items_view}
use Rattle.serde_json.specs.declared.value.Value.{Value}
use Rattle.edit_module.specs.Words.{PrimitiveTree, splice, at, stay, switch, modify, shape}
use Rattle.hold_shapes.specs.declared.edit.Place.{Place}
use Rattle.edit_module.specs.Views.{primitive_tree, word_tree}
use Rattle.edit_module.specs.declared.word.Word.{Word}
use Rattle.edit_module.specs.declared.word.Primitive.{At as AtPrimitive, Stay as StayPrimitive, Switch as SwitchPrimitive, Mod as ModPrimitive, the_lemmas}
use Rattle.value_json.specs.Numbers.{count_of}
use Rattle.value_json.specs.Parts.{only_member}
use Rattle.edit_json.specs.declared.kind.Kind.TheVariants.{Splice, At, Stay, Switch, Mod, Move, Rename, Shift, Hang}
use Rattle.edit_json.specs.Parts.{two_items, three_items}
use Rattle.edit_json.specs.Kinds.{kind_of}
use Rattle.edit_json.specs.Values.{data_place, numbers_of}
use Rattle.edit_json.specs.WordJson.{leaf_of, primitive_of, content_of, word_of_tree, word_of_items}

-- ---- primitives without an inner word

abbrev pub splice_by : Option (Data × Data × Data) → Option PrimitiveTree
splice_by None = None
splice_by (Some p) = option_and_then (λ i. option_and_then (λ k. option_map (splice i k) (as_str p.2)) (count_of p.1)) (count_of p.0)

pub splice_of : (d : Data) → leaf_of Splice d ≡ splice_by (three_items d)
splice_of (array (item i (item k (item s no_items)))) = refl
splice_of d = refl

abbrev pub move_by : Option (Data × Data) → Option PrimitiveTree
move_by None = None
move_by (Some p) = option_and_then (λ i. option_map (λ j. shape (edits.MoveItem i j)) (count_of p.1)) (count_of p.0)

pub move_of : (d : Data) → leaf_of Move d ≡ move_by (two_items d)
move_of (array (item i (item j no_items))) = refl
move_of d = refl

abbrev pub rename_by : Option (Data × Data) → Option PrimitiveTree
rename_by None = None
rename_by (Some p) = option_and_then (λ k. option_map (λ m. shape (edits.RenameKey k m)) (as_str p.1)) (as_str p.0)

pub rename_of : (d : Data) → leaf_of Rename d ≡ rename_by (two_items d)
rename_of (array (item k (item m no_items))) = refl
rename_of d = refl

abbrev pub shift_by : Option (Data × Data × Data) → Option PrimitiveTree
shift_by None = None
shift_by (Some p) = option_and_then (λ q. option_and_then (λ i. option_map (λ j. shape (edits.Shift q i j)) (count_of p.2)) (count_of p.1)) (numbers_of p.0)

pub shift_of : (d : Data) → leaf_of Shift d ≡ shift_by (three_items d)
shift_of (array (item q (item i (item j no_items)))) = refl
shift_of d = refl

abbrev pub hang_by : Option (Data × Data) → Option PrimitiveTree
hang_by None = None
hang_by (Some p) = option_and_then (λ q. option_map (λ r. shape (edits.Hang q r)) (numbers_of p.1)) (numbers_of p.0)

pub hang_of : (d : Data) → leaf_of Hang d ≡ hang_by (two_items d)
hang_of (array (item p (item q no_items))) = refl
hang_of d = refl

-- ---- primitives with an inner word

abbrev pub at_by : Option (Data × Data) → Option PrimitiveTree
at_by None = None
at_by (Some p) = option_and_then (λ f. option_map (at f) (word_of_tree p.1)) (as_str p.0)

pub at_of : (d : Data) → content_of At d ≡ at_by (two_items d)
unfolding primitive_of
at_of (array (item f (item w no_items))) = refl
at_of d = refl

abbrev pub stay_by : Option (Data × Data) → Option PrimitiveTree
stay_by None = None
stay_by (Some p) = option_and_then (λ t. option_map (stay t) (word_of_tree p.1)) (as_str p.0)

pub stay_of : (d : Data) → content_of Stay d ≡ stay_by (two_items d)
unfolding primitive_of
stay_of (array (item t (item w no_items))) = refl
stay_of d = refl

abbrev pub switch_by : Option (Data × Data × Data) → Option PrimitiveTree
switch_by None = None
switch_by (Some p) = option_and_then (λ a. option_and_then (λ b. option_map (switch a b) (word_of_tree p.2)) (as_str p.1)) (as_str p.0)

pub switch_of : (d : Data) → content_of Switch d ≡ switch_by (three_items d)
unfolding primitive_of
switch_of (array (item a (item b (item w no_items)))) = refl
switch_of d = refl

abbrev pub mod_by : Option (Data × Data) → Option PrimitiveTree
mod_by None = None
mod_by (Some p) = option_and_then (λ q. option_map (modify q) (word_of_tree p.1)) (data_place p.0)

pub mod_of : (d : Data) → content_of Mod d ≡ mod_by (two_items d)
unfolding primitive_of
mod_of (array (item p (item w no_items))) = refl
mod_of d = refl

pub primitive_tree-At : (f : List ℕ) (w : Word) → primitive_tree (AtPrimitive f w) ≡ at f (word_tree w)
primitive_tree-At f w = search (rules, the_lemmas)

pub primitive_tree-Stay : (t : List ℕ) (w : Word) → primitive_tree (StayPrimitive t w) ≡ stay t (word_tree w)
primitive_tree-Stay t w = search (rules, the_lemmas)

pub primitive_tree-Switch : (a b : List ℕ) (w : Word) → primitive_tree (SwitchPrimitive a b w) ≡ switch a b (word_tree w)
primitive_tree-Switch a b w = search (rules, the_lemmas)

pub primitive_tree-Mod : (p : Place) (w : Word) → primitive_tree (ModPrimitive p w) ≡ modify p (word_tree w)
primitive_tree-Mod p w = search (rules, the_lemmas)

-- ---- words and primitives

abbrev pub primitive_by : Option (List ℕ × Data) → Option PrimitiveTree
primitive_by None = None
primitive_by (Some p) = option_and_then (λ kind. content_of kind p.1) (kind_of p.0)

pub primitive_of_member : (d : Data) → primitive_of d ≡ primitive_by (only_member d)
unfolding primitive_of
primitive_of_member (object (member k d no_members)) = refl
primitive_of_member d = refl

pub word_of_array : (d : Data) → word_of_tree d ≡ option_and_then word_of_items (as_array d)
unfolding primitive_of
word_of_array (array ds) = refl
word_of_array d = refl

-- ---- parts nest less deep than the whole

pub only_member_depth : (d : Data) (p : List ℕ × Data) → Some p ≡ only_member d → depth p.1 < depth d
only_member_depth (object (member k d no_members)) p h = let same : p ≡ (k, d) = cc in let e = ap (λ (q : List ℕ × Data). depth q.1) same in omega (arith, e)
only_member_depth d p h = cc

pub two_items_depth : (d : Data) (p : Data × Data) → Some p ≡ two_items d → depth p.1 < depth d
two_items_depth (array (item d (item e no_items))) p h = let same : p ≡ (d, e) = cc in let eq = ap (λ (q : Data × Data). depth q.1) same in omega (arith, eq)
two_items_depth d p h = cc

pub three_items_depth : (d : Data) (p : Data × Data × Data) → Some p ≡ three_items d → depth p.2 < depth d
three_items_depth (array (item d (item e (item f no_items)))) p h = let same : p ≡ (d, e, f) = cc in let eq = ap (λ (q : Data × Data × Data). depth q.2) same in omega (arith, eq)
three_items_depth d p h = cc

pub array_depth : (d : Data) (ds : Items) → Some ds ≡ as_array d → items_depth ds < depth d
array_depth (array es) ds h = let same : ds ≡ es = cc in let e = ap items_depth same in omega (arith, e)
array_depth d ds h = cc

pub item_depth : (vs : List Value) (i : ℕ) (v : Value) → i < length vs → depth (view (get_or vs i v)) ≤ items_depth (items_view vs)
item_depth [] i v h = absurd (omega arith)
item_depth (x ∷ vs) zero v h = omega arith
item_depth (x ∷ vs) (suc i) v h = omega (arith, item_depth vs i v (omega arith))

-- ---- what each reader needs

pub ruleset array_rules = (word_of_array, array_depth)

pub ruleset primitive_rules = (primitive_of_member, only_member_depth)

pub ruleset at_rules = (at_of, primitive_tree-At, two_items_depth)

pub ruleset stay_rules = (stay_of, primitive_tree-Stay, two_items_depth)

pub ruleset switch_rules = (switch_of, primitive_tree-Switch, three_items_depth)

pub ruleset mod_rules = (mod_of, primitive_tree-Mod, two_items_depth)
