-- Words and primitives that are read from tokens: what each part gives the whole.
use Rattle.std.proofs.Common.{◌≡◌, ℕ, ◌-◌, ◌<◌, List, [], ◌∷◌, ◌++◌, Option, Some, None, option_and_then, refl, ap, ◌∙◌}
use Rattle.json.specs.Token.{Token}
use Rattle.json.specs.Json.{after_end_array, read_key, parse_map}
use Rattle.hold_shapes.specs.declared.edit.Place.{Place}
use Rattle.serde_json.specs.Find.{as_str}
use Rattle.serde_json.specs.Data.{Data, array, no_items, item}
use Rattle.edit_module.specs.Words.{PrimitiveTree, WordTree, no_primitives, more_primitives}
use Rattle.edit_module.specs.Words as words
use Rattle.json_tokens.specs.TreesAt.{read_at, read_items_at}
use Rattle.json_tokens.proofs.ReadParts.{more_read, end_read, array_read, one_member_read}
use Rattle.edit_json.specs.Kinds.{kind_of}
use Rattle.edit_json.specs.declared.kind.Kind.{Kind}
use Rattle.edit_json.specs.declared.kind.Kind.TheVariants.{At, Stay, Switch, Mod}
use Rattle.edit_json.specs.Values.{data_place}
use Rattle.edit_json.specs.WordJson.{primitive_of, content_of, word_of_tree, word_of_items}
use Rattle.edit_json.proofs.Reading.{then_word}

pub word_read : (depth : ℕ) (ts r : List Token) (w : WordTree) → 0 < depth → read_items_at word_of_items (depth - 1) ts ≡ Some (w, r) → read_at word_of_tree depth (Token.begin_array ∷ ts) ≡ Some (w, r)
unfolding primitive_of
word_read depth ts r w some e = array_read word_of_items word_of_tree depth ts r w w some e (λ ds h. h)

pub primitive_read : (depth : ℕ) (k : List ℕ) (kind : Kind) (t0 t1 t2 t3 : List Token) (p : PrimitiveTree) → 0 < depth → kind_of k ≡ Some kind
    → read_key t0 ≡ Some (Some k, t1) → read_at (content_of kind) (depth - 1) t1 ≡ Some (p, t2) → read_key t2 ≡ Some (None, t3)
    → read_at primitive_of depth (Token.begin_object ∷ t0) ≡ Some (p, t3)
unfolding primitive_of
primitive_read depth k kind t0 t1 t2 t3 p some known key e end =
    one_member_read (content_of kind) primitive_of depth k t0 t1 t2 t3 p p some key e end (λ d h. ap (option_and_then (λ x. content_of x d)) known ∙ h)

-- ---- primitives one after another

abbrev pub onto_word : List PrimitiveTree → Option (WordTree × List Token) → Option (WordTree × List Token)
onto_word ps o = parse_map (then_word ps) o

then_more : (ps : List PrimitiveTree) (p : PrimitiveTree) (w : WordTree) → then_word ps (more_primitives p w) ≡ then_word (ps ++ p ∷ []) w
then_more [] p w = refl
then_more (q ∷ ps) p w = ap (more_primitives q) (then_more ps p w)

then_none : (ps : List PrimitiveTree) → then_word ps no_primitives ≡ words.word_of ps
then_none [] = refl
then_none (q ∷ ps) = ap (more_primitives q) (then_none ps)

onto_one_more : (ps : List PrimitiveTree) (p : PrimitiveTree) (o : Option (WordTree × List Token)) → onto_word ps (parse_map (more_primitives p) o) ≡ onto_word (ps ++ p ∷ []) o
onto_one_more ps p None = refl
onto_one_more ps p (Some q) = ap (λ w. Some (w, q.1)) (then_more ps p q.0)

pub next_primitive : (depth : ℕ) (ps : List PrimitiveTree) (p : PrimitiveTree) (ts r : List Token) → read_at primitive_of depth ts ≡ Some (p, r)
    → onto_word ps (read_items_at word_of_items depth ts) ≡ onto_word (ps ++ p ∷ []) (read_items_at word_of_items depth r)
unfolding primitive_of
next_primitive depth ps p ts r e =
    ap (onto_word ps) (more_read primitive_of word_of_items more_primitives (λ d ds. refl) depth ts r p e) ∙ onto_one_more ps p (read_items_at word_of_items depth r)

pub primitives_end : (depth : ℕ) (ps : List PrimitiveTree) (ts r : List Token) → after_end_array ts ≡ Some r → onto_word ps (read_items_at word_of_items depth ts) ≡ Some (words.word_of ps, r)
unfolding primitive_of
primitives_end depth ps ts r e = ap (onto_word ps) (end_read word_of_items depth ts r no_primitives refl e) ∙ ap (λ w. Some (w, r)) (then_none ps)

-- ---- primitives with an inner word

pub at_content : (d e : Data) (f : List ℕ) (w : WordTree) → as_str d ≡ Some f → word_of_tree e ≡ Some w → content_of At (array (item d (item e no_items))) ≡ Some (words.at f w)
unfolding primitive_of
at_content d e f w p q = rw (p, q)

pub stay_content : (d e : Data) (t : List ℕ) (w : WordTree) → as_str d ≡ Some t → word_of_tree e ≡ Some w → content_of Stay (array (item d (item e no_items))) ≡ Some (words.stay t w)
unfolding primitive_of
stay_content d e t w p q = rw (p, q)

pub switch_content : (d e i : Data) (a b : List ℕ) (w : WordTree) → as_str d ≡ Some a → as_str e ≡ Some b → word_of_tree i ≡ Some w
    → content_of Switch (array (item d (item e (item i no_items)))) ≡ Some (words.switch a b w)
unfolding primitive_of
switch_content d e i a b w p q r = rw (p, q, r)

pub mod_content : (d e : Data) (x : Place) (w : WordTree) → data_place d ≡ Some x → word_of_tree e ≡ Some w → content_of Mod (array (item d (item e no_items))) ≡ Some (words.modify x w)
unfolding primitive_of
mod_content d e x w p q = rw (p, q)
