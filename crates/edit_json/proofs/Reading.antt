-- A word is read item by item; and what is given, and what is refused.
use Rattle.std.proofs.Common.{◌≡◌, ℕ, ◌+◌, ◌<◌, ◌≤◌, List, [], ◌∷◌, ◌++◌, drop, length, get_or, Option, Some, None, option_map, Result, Ok, Err, IfOk, IsErrOf, refl, sym, ap, ◌∙◌}
use Rattle.std.proofs.lemmas.List.{drop_all}
use Rattle.serde_json.specs.Data.{Data, Items, no_items, item}
use Rattle.serde_json.specs.View.{view, items_view}
use Rattle.serde_json.specs.declared.value.Value.{Value}
use Rattle.edit_module.specs.Words.{PrimitiveTree, WordTree, no_primitives, more_primitives}
use Rattle.edit_module.specs.Words as words
use Rattle.value_json.proofs.Counts.{left_items}
use Rattle.edit_json.specs.WordJson.{primitive_of, word_of_items}
use Rattle.edit_json.specs.Reading.{Refuses, Gives}
use Rattle.edit_json.specs.declared.fault.EditFault.{EditFault}
use Rattle.edit_json.specs.declared.fault.EditFault.TheVariants.{NotAnEdit, NoMemory}

-- the primitives, and then the word
abbrev pub then_word : List PrimitiveTree → WordTree → WordTree
then_word [] w = w
then_word (p ∷ ps) w = more_primitives p (then_word ps w)

then_word-append : (ps : List PrimitiveTree) (p : PrimitiveTree) (w : WordTree) → then_word (ps ++ p ∷ []) w ≡ then_word ps (more_primitives p w)
then_word-append [] p w = refl
then_word-append (q ∷ ps) p w = ap (more_primitives q) (then_word-append ps p w)

then_word-nil : (ps : List PrimitiveTree) → then_word ps no_primitives ≡ words.word_of ps
then_word-nil [] = refl
then_word-nil (q ∷ ps) = ap (more_primitives q) (then_word-nil ps)

map_then : (ps : List PrimitiveTree) (p : PrimitiveTree) (o : Option WordTree) → option_map (then_word ps) (option_map (more_primitives p) o) ≡ option_map (then_word (ps ++ p ∷ [])) o
map_then ps p None = refl
map_then ps p (Some w) = ap Some (sym (then_word-append ps p w))

-- one more item is one more primitive
one_more : (ps : List PrimitiveTree) (p : PrimitiveTree) (d : Data) (ds : Items) → primitive_of d ≡ Some p → option_map (then_word ps) (word_of_items (item d ds)) ≡ option_map (then_word (ps ++ p ∷ [])) (word_of_items ds)
unfolding primitive_of
one_more ps p d ds h = rw h (map_then ps p (word_of_items ds))

one_less : (ps : List PrimitiveTree) (d : Data) (ds : Items) → primitive_of d ≡ None → option_map (then_word ps) (word_of_items (item d ds)) ≡ None
unfolding primitive_of
one_less ps d ds h = rw h refl

no_more : (ps : List PrimitiveTree) → option_map (then_word ps) (word_of_items no_items) ≡ Some (words.word_of ps)
unfolding primitive_of
no_more ps = ap Some (then_word-nil ps)

pub next_item : (vs : List Value) (i : ℕ) (v : Value) (ps : List PrimitiveTree) (p : PrimitiveTree) → i < length vs → v ≡ get_or vs i v → primitive_of (view v) ≡ Some p
    → option_map (then_word ps) (word_of_items (items_view (drop i vs))) ≡ option_map (then_word (ps ++ p ∷ [])) (word_of_items (items_view (drop (i + 1) vs)))
next_item vs i v ps p within is h = ap (λ xs. option_map (then_word ps) (word_of_items (items_view xs))) (left_items vs i v within is) ∙ one_more ps p (view v) (items_view (drop (i + 1) vs)) h

pub item_refused : (vs : List Value) (i : ℕ) (v : Value) (ps : List PrimitiveTree) → i < length vs → v ≡ get_or vs i v → primitive_of (view v) ≡ None
    → option_map (then_word ps) (word_of_items (items_view (drop i vs))) ≡ None
item_refused vs i v ps within is h = ap (λ xs. option_map (then_word ps) (word_of_items (items_view xs))) (left_items vs i v within is) ∙ one_less ps (view v) (items_view (drop (i + 1) vs)) h

pub items_done : (vs : List Value) (i : ℕ) (ps : List PrimitiveTree) → length vs ≤ i → option_map (then_word ps) (word_of_items (items_view (drop i vs))) ≡ Some (words.word_of ps)
items_done vs i ps past = ap (λ xs. option_map (then_word ps) (word_of_items (items_view xs))) (drop_all i vs past) ∙ no_more ps

-- ---- what is given, and what is refused

-- what is refused with a part of the tree is refused with the whole
pub refused_with : {X Y : Type 0} (fault : EditFault) (part : Option X) (whole : Option Y) → (part ≡ None → whole ≡ None) → Refuses fault part → Refuses fault whole
refused_with NotAnEdit part whole as_part h = as_part h
refused_with NoMemory part whole as_part h = tt

pub given_some : {X Y : Type 0} (view : X → Y) (P : Y → Type 0) (r : Result X EditFault) (read : Option Y) → ((y : Y) → read ≡ Some y → P y) → Gives view r read → IfOk r (λ x. P (view x))
given_some view P (Ok x) read h g = h (view x) g
given_some view P (Err e) read h g = tt

pub refused_none : {X Y : Type 0} (view : X → Y) (r : Result X EditFault) (read : Option Y) → IsErrOf r NotAnEdit → Gives view r read → read ≡ None
refused_none view (Ok x) read h g = cc
refused_none view (Err NotAnEdit) read h g = g
refused_none view (Err NoMemory) read h g = cc
