-- Values that are read part by part: texts, arrays with two items and with three, arrays of any length, and objects
-- with one member and with two.
use Rattle.std.proofs.Common.{◌≡◌, ℕ, ◌-◌, ◌<◌, List, ◌∷◌, length, Option, Some, None, option_map, option_and_then, refl, ap, ◌∙◌}
use Rattle.json.specs.Token.{Token}
use Rattle.json.specs.Json as json
use Rattle.json.specs.Json.{after_end_array, read_key, parse_map}
use Rattle.serde_json.specs.Data.{Data, array, object, Items, no_items, item, no_members, member, put}
use Rattle.serde_json.specs.Read.{of_json, converted}
use Rattle.json_tokens.specs.TreesAt.{tree_at, items_at, read_at, read_items_at}
use Rattle.json_tokens.proofs.Conversions.{found, with_rest, mapped}
use Rattle.json_tokens.proofs.TreesAt.{shorter, array_at, end_of_items, more_items, object_at, end_of_members, more_members}

-- ---- one value

pub read_of : {X : Type 0} (f : Data → Option X) (depth : ℕ) (ts : List Token) (d : Data) (r : List Token) (x : X) → tree_at depth ts ≡ Some (d, r) → f d ≡ Some x
    → read_at f depth ts ≡ Some (x, r)
read_of f depth ts d r x e h = ap (converted f) e ∙ ap (with_rest r) h

pub read_as : {X Y : Type 0} (f : Data → Option X) (g : Data → Option Y) (depth : ℕ) (ts r : List Token) (x : X) (y : Y) → read_at f depth ts ≡ Some (x, r)
    → ((d : Data) → f d ≡ Some x → g d ≡ Some y) → read_at g depth ts ≡ Some (y, r)
read_as f g depth ts r x y e h = let p = found f (tree_at depth ts) x r e in read_of g depth ts p.0 r y p.1 (h p.0 p.2)

pub read_shorter : {X : Type 0} (f : Data → Option X) (depth : ℕ) (ts r : List Token) (x : X) → read_at f depth ts ≡ Some (x, r) → length r < length ts
read_shorter f depth ts r x e =
    let p = found f (tree_at depth ts) x r e in
    let j = found of_json (json.value depth ts) p.0 r p.1 in
    shorter depth ts j.0 r j.1

-- ---- arrays

module _ {X Y : Type 0} (f : Data → Option X) (g : Items → Option Y) (cons : X → Y → Y)
    (step : (d : Data) (ds : Items) → g (item d ds) ≡ option_and_then (λ x. option_map (cons x) (g ds)) (f d)) where
  converted_step : (d : Data) (x : X) (o : Option (Items × List Token)) → f d ≡ Some x → converted g (parse_map (item d) o) ≡ parse_map (cons x) (converted g o)
  converted_step d x None e = refl
  converted_step d x (Some (ds, r)) e = ap (with_rest r) (step d ds ∙ ap (option_and_then (λ y. option_map (cons y) (g ds))) e) ∙ mapped (cons x) r (g ds)

  pub more_read : (depth : ℕ) (ts r : List Token) (x : X) → read_at f depth ts ≡ Some (x, r) → read_items_at g depth ts ≡ parse_map (cons x) (read_items_at g depth r)
  more_read depth ts r x e =
      let p = found f (tree_at depth ts) x r e in
      ap (converted g) (more_items depth ts p.0 r p.1) ∙ converted_step p.0 x (items_at depth r) p.2

pub end_read : {Y : Type 0} (g : Items → Option Y) (depth : ℕ) (ts r : List Token) (y : Y) → g no_items ≡ Some y → after_end_array ts ≡ Some r → read_items_at g depth ts ≡ Some (y, r)
end_read g depth ts r y none e = ap (converted g) (end_of_items depth ts r e) ∙ ap (with_rest r) none

pub array_read : {Y Z : Type 0} (g : Items → Option Y) (h : Data → Option Z) (depth : ℕ) (ts r : List Token) (y : Y) (z : Z) → 0 < depth → read_items_at g (depth - 1) ts ≡ Some (y, r)
    → ((ds : Items) → g ds ≡ Some y → h (array ds) ≡ Some z) → read_at h depth (Token.begin_array ∷ ts) ≡ Some (z, r)
array_read g h depth ts r y z some e gives =
    let p = found g (items_at (depth - 1) ts) y r e in
    read_of h depth (Token.begin_array ∷ ts) (array p.0) r z (array_at depth ts some ∙ ap (parse_map array) p.1) (gives p.0 p.2)

-- the tree of an array with two items, and with three
pub array_of_two_at : (depth : ℕ) (t0 t1 t2 t3 : List Token) (d e : Data) → 0 < depth → tree_at (depth - 1) t0 ≡ Some (d, t1) → tree_at (depth - 1) t1 ≡ Some (e, t2)
    → after_end_array t2 ≡ Some t3 → tree_at depth (Token.begin_array ∷ t0) ≡ Some (array (item d (item e no_items)), t3)
array_of_two_at depth t0 t1 t2 t3 d e some first second end =
    array_at depth t0 some
    ∙ ap (parse_map array) (more_items (depth - 1) t0 d t1 first ∙ ap (parse_map (item d)) (more_items (depth - 1) t1 e t2 second ∙ ap (parse_map (item e)) (end_of_items (depth - 1) t2 t3 end)))

pub array_of_three_at : (depth : ℕ) (t0 t1 t2 t3 t4 : List Token) (d e c : Data) → 0 < depth → tree_at (depth - 1) t0 ≡ Some (d, t1) → tree_at (depth - 1) t1 ≡ Some (e, t2)
    → tree_at (depth - 1) t2 ≡ Some (c, t3) → after_end_array t3 ≡ Some t4 → tree_at depth (Token.begin_array ∷ t0) ≡ Some (array (item d (item e (item c no_items))), t4)
array_of_three_at depth t0 t1 t2 t3 t4 d e c some first second third end =
    array_at depth t0 some
    ∙ ap (parse_map array) (more_items (depth - 1) t0 d t1 first ∙ ap (parse_map (item d)) (more_items (depth - 1) t1 e t2 second ∙ ap (parse_map (item e))
    (more_items (depth - 1) t2 c t3 third ∙ ap (parse_map (item c)) (end_of_items (depth - 1) t3 t4 end))))

pub two_read : {X Y Z : Type 0} (f : Data → Option X) (g : Data → Option Y) (h : Data → Option Z) (depth : ℕ) (t0 t1 t2 t3 : List Token) (x : X) (y : Y) (z : Z) → 0 < depth
    → read_at f (depth - 1) t0 ≡ Some (x, t1) → read_at g (depth - 1) t1 ≡ Some (y, t2) → after_end_array t2 ≡ Some t3
    → ((d e : Data) → f d ≡ Some x → g e ≡ Some y → h (array (item d (item e no_items))) ≡ Some z) → read_at h depth (Token.begin_array ∷ t0) ≡ Some (z, t3)
two_read f g h depth t0 t1 t2 t3 x y z some first second end gives =
    let p = found f (tree_at (depth - 1) t0) x t1 first in
    let q = found g (tree_at (depth - 1) t1) y t2 second in
    read_of h depth (Token.begin_array ∷ t0) (array (item p.0 (item q.0 no_items))) t3 z (array_of_two_at depth t0 t1 t2 t3 p.0 q.0 some p.1 q.1 end) (gives p.0 q.0 p.2 q.2)

pub three_read : {X Y W Z : Type 0} (f : Data → Option X) (g : Data → Option Y) (k : Data → Option W) (h : Data → Option Z) (depth : ℕ) (t0 t1 t2 t3 t4 : List Token) (x : X) (y : Y) (w : W) (z : Z)
    → 0 < depth → read_at f (depth - 1) t0 ≡ Some (x, t1) → read_at g (depth - 1) t1 ≡ Some (y, t2) → read_at k (depth - 1) t2 ≡ Some (w, t3) → after_end_array t3 ≡ Some t4
    → ((d e c : Data) → f d ≡ Some x → g e ≡ Some y → k c ≡ Some w → h (array (item d (item e (item c no_items)))) ≡ Some z) → read_at h depth (Token.begin_array ∷ t0) ≡ Some (z, t4)
three_read f g k h depth t0 t1 t2 t3 t4 x y w z some first second third end gives =
    let p = found f (tree_at (depth - 1) t0) x t1 first in
    let q = found g (tree_at (depth - 1) t1) y t2 second in
    let r = found k (tree_at (depth - 1) t2) w t3 third in
    read_of h depth (Token.begin_array ∷ t0) (array (item p.0 (item q.0 (item r.0 no_items)))) t4 z
    (array_of_three_at depth t0 t1 t2 t3 t4 p.0 q.0 r.0 some p.1 q.1 r.1 end) (gives p.0 q.0 r.0 p.2 q.2 r.2)

-- ---- objects

pub one_member_read : {X Z : Type 0} (f : Data → Option X) (h : Data → Option Z) (depth : ℕ) (k : List ℕ) (t0 t1 t2 t3 : List Token) (x : X) (z : Z) → 0 < depth
    → read_key t0 ≡ Some (Some k, t1) → read_at f (depth - 1) t1 ≡ Some (x, t2) → read_key t2 ≡ Some (None, t3)
    → ((d : Data) → f d ≡ Some x → h (object (member k d no_members)) ≡ Some z) → read_at h depth (Token.begin_object ∷ t0) ≡ Some (z, t3)
one_member_read f h depth k t0 t1 t2 t3 x z some key e end gives =
    let p = found f (tree_at (depth - 1) t1) x t2 e in
    read_of h depth (Token.begin_object ∷ t0) (object (member k p.0 no_members)) t3 z
    (object_at depth t0 some ∙ ap (parse_map object) (more_members (depth - 1) no_members k t0 t1 p.0 t2 key p.1 ∙ end_of_members (depth - 1) (member k p.0 no_members) t2 t3 end)) (gives p.0 p.2)

pub two_members_read : {X Y Z : Type 0} (f : Data → Option X) (g : Data → Option Y) (h : Data → Option Z) (depth : ℕ) (k l : List ℕ) (t0 t1 t2 t3 t4 t5 : List Token) (x : X) (y : Y) (z : Z)
    → 0 < depth → read_key t0 ≡ Some (Some k, t1) → read_at f (depth - 1) t1 ≡ Some (x, t2) → read_key t2 ≡ Some (Some l, t3) → read_at g (depth - 1) t3 ≡ Some (y, t4)
    → read_key t4 ≡ Some (None, t5) → ((d e : Data) → f d ≡ Some x → g e ≡ Some y → h (object (put l e (member k d no_members))) ≡ Some z)
    → read_at h depth (Token.begin_object ∷ t0) ≡ Some (z, t5)
two_members_read f g h depth k l t0 t1 t2 t3 t4 t5 x y z some key first other second end gives =
    let p = found f (tree_at (depth - 1) t1) x t2 first in
    let q = found g (tree_at (depth - 1) t3) y t4 second in
    let both = put l q.0 (member k p.0 no_members) in
    read_of h depth (Token.begin_object ∷ t0) (object both) t5 z
    (object_at depth t0 some ∙ ap (parse_map object) (more_members (depth - 1) no_members k t0 t1 p.0 t2 key p.1
    ∙ (more_members (depth - 1) (member k p.0 no_members) l t2 t3 q.0 t4 other q.1 ∙ end_of_members (depth - 1) both t4 t5 end))) (gives p.0 q.0 p.2 q.2)
