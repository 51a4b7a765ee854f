-- Reading a complement of each form from its parts: what is found, and why nothing can be.
use Rattle.std.proofs.Common.{◌≡◌, ◌≢◌, ℕ, ◌&&◌, Bool, true, false, codes, List, length, Option, Some, None, IsTrue, refl, sym, ap, ap₂, subst, ◌∙◌, ◌⊎◌, inl, inr, cond, bytes_eq}
use Rattle.std.specs.Prelude.{nat_eq}
use Rattle.texts.specs.Keys.{is_rising}
use Rattle.texts.proofs.Conjunction.{both, first, second}
use Rattle.serde_json.specs.Data.{Data, string, array, object, Items, Members}
use Rattle.serde_json.specs.Find.{as_str}
use Rattle.serde_json.specs.View.{items_view}
use Rattle.serde_json.specs.declared.value.Value.{Value}
use Rattle.hold_shapes.specs.Trees.{is_valid}
use Rattle.hold_shapes.specs.declared.shape.Shape.TheVariants.{List as ListOf, Keyed as KeyedOf, Tree as TreeOf}
use Rattle.doc_values.specs.Types.{FieldTrees}
use Rattle.value_json.specs.Numbers.{counts_of, count_items}
use Rattle.value_json.specs.DocumentJson.{member_names}
use Rattle.value_json.proofs.ReadingHasTree.{counts_take}
use Rattle.value_json.proofs.WritingReadsBack.{counts_again}
use Rattle.lens_forms.specs.Forms.{FormTree, form_then, form_rec, form_alt, form_each, form_keyed, form_ordered, form_part, RowTrees, ArmTrees, no_arms, more_arms}
use Rattle.lens_forms.specs.Typing.{is_typed}
use Rattle.lens_core.specs.Complements.{CompTree, then_comp, rec_comp, alt_comp, hold_comp, tags_comp, CompTrees, comp_count, Fits, FitsArm}
use Rattle.complement_file.specs.ComplementJson.{tree_of_complement, tree_in_arm, arm_with, row_items, place_items, place_members, tag_items}
use Rattle.value_json.specs.SmallTrees.{one_member, array_of_two}
use Rattle.complement_file.specs.Reading.{IsComplement, ArePlaces, AreRows, AreTags, nodes_tree, member_contents}
use Rattle.complement_file.proofs.Arms.{arm_is_there, arm_fits, arm_tree_is}
use Rattle.complement_file.proofs.ReadPlaces.{names_again, contents_again, members_join, places_many}
use Rattle.std.proofs.lemmas.Bool.{eqb-true, eq-eqb}
use Rattle.texts.proofs.Tests.{bytes_eq-is}

same_pair : (n : List ℕ) (a b c d : Data) → one_member n (array_of_two a b) ≡ one_member n (array_of_two c d) → (a ≡ c) × (b ≡ d)
same_pair n a b c d q = let first : a ≡ c = cc in let second : b ≡ d = cc in (first, second)

same_array : (n : List ℕ) (ds es : Items) → one_member n (array ds) ≡ one_member n (array es) → ds ≡ es
same_array n ds es q = cc

same_object : (n : List ℕ) (ds es : Members) → one_member n (object ds) ≡ one_member n (object es) → ds ≡ es
same_object n ds es q = cc

same_nodes : (ns ds ms es : Items) → nodes_tree ns ds ≡ nodes_tree ms es → (ns ≡ ms) × (ds ≡ es)
same_nodes ns ds ms es q = let first : ns ≡ ms = cc in let second : ds ≡ es = cc in (first, second)

-- ---- a composition

pub pair_found : (l m : FormTree) (t d e : Data) (a b : CompTree) → one_member (codes "then") (array_of_two d e) ≡ t → IsComplement l d a → IsComplement m e b → IsComplement (form_then l m) t (then_comp a b)
pair_found l m t d e a b is p q = ((p.0, q.0), ap₂ (λ x y. one_member (codes "then") (array_of_two x y)) p.1 q.1 ∙ is)

pub no_pair : (l m : FormTree) (t : Data) → ((p : Data × Data) → one_member (codes "then") (array_of_two p.0 p.1) ≡ t → ⊥) → (c : CompTree) → IsComplement (form_then l m) t c → ⊥
no_pair l m t none (then_comp a b) h = none (tree_of_complement l a, tree_of_complement m b) h.1
no_pair l m t none c h = absurd h.0

pub first_refused : (l m : FormTree) (t d e : Data) → one_member (codes "then") (array_of_two d e) ≡ t → ((c : CompTree) → IsComplement l d c → ⊥) → (c : CompTree) → IsComplement (form_then l m) t c → ⊥
first_refused l m t d e is none (then_comp a b) h = none a (h.0.0, (same_pair (codes "then") _ _ d e (h.1 ∙ sym is)).0)
first_refused l m t d e is none c h = absurd h.0

pub second_refused : (l m : FormTree) (t d e : Data) → one_member (codes "then") (array_of_two d e) ≡ t → ((c : CompTree) → IsComplement m e c → ⊥) → (c : CompTree) → IsComplement (form_then l m) t c → ⊥
second_refused l m t d e is none (then_comp a b) h = none b (h.0.1, (same_pair (codes "then") _ _ d e (h.1 ∙ sym is)).1)
second_refused l m t d e is none c h = absurd h.0

-- ---- a record

pub rec_found : (rows : RowTrees) (t : Data) (ds : Items) (cs : CompTrees) → one_member (codes "rec") (array ds) ≡ t → AreRows rows ds cs → IsComplement (form_rec rows) t (rec_comp cs)
rec_found rows t ds cs is p = (p.0, ap (λ xs. one_member (codes "rec") (array xs)) p.1 ∙ is)

pub no_rec : (rows : RowTrees) (t : Data) → ((ds : Items) → one_member (codes "rec") (array ds) ≡ t → ⊥) → (c : CompTree) → IsComplement (form_rec rows) t c → ⊥
no_rec rows t none (rec_comp cs) h = none (row_items rows cs) h.1
no_rec rows t none c h = absurd h.0

pub rec_refused : (rows : RowTrees) (t : Data) (ds : Items) → one_member (codes "rec") (array ds) ≡ t → ((cs : CompTrees) → AreRows rows ds cs → ⊥) → (c : CompTree) → IsComplement (form_rec rows) t c → ⊥
rec_refused rows t ds is none (rec_comp cs) h = none cs (h.0, same_array (codes "rec") _ ds (h.1 ∙ sym is))
rec_refused rows t ds is none c h = absurd h.0

-- ---- alternatives

-- a complement of the lens that an arm's tag finds fits the alternatives
fits_step : (t a : List ℕ) (l m : FormTree) (rest : Option FormTree) (c : CompTree) (Rest : Type 0) (k : Bool) → bytes_eq a t ≡ k → cond k (Some m) rest ≡ Some l → Fits l c
    → (rest ≡ Some l → Rest) → ((t ≡ a) × Fits m c) ⊎ Rest
fits_step t a l m rest c Rest true is e h again = let same : m ≡ l = cc in inl (sym (bytes_eq-is a t is), subst (λ z. Fits z c) (sym same) h)
fits_step t a l m rest c Rest false is e h again = inr (again e)

arm_fits_back : (arms : ArmTrees) (t : List ℕ) (l : FormTree) (c : CompTree) → arm_with arms t ≡ Some l → Fits l c → FitsArm arms t c
arm_fits_back no_arms t l c e h = cc
arm_fits_back (more_arms a b m arms) t l c e h = fits_step t a l m (arm_with arms t) c (FitsArm arms t c) (bytes_eq a t) refl e h (λ r. arm_fits_back arms t l c r h)

pub tagged_found : (arms : ArmTrees) (t d e : Data) (s tag : List ℕ) (l : FormTree) (c : CompTree) → one_member (codes "alt") (array_of_two d e) ≡ t → Some s ≡ as_str d → arm_with arms s ≡ Some l → IsComplement l e c
    → tag ≡ s → IsComplement (form_alt arms) t (alt_comp tag c)
tagged_found arms t (string u) e s tag l c is named found p same =
    let text : u ≡ tag = cc in
    let found_too : arm_with arms tag ≡ Some l = subst (λ n. arm_with arms n ≡ Some l) (sym same) found in
    (arm_fits_back arms tag l c found_too p.0, ap₂ (λ x y. one_member (codes "alt") (array_of_two (string x) y)) (sym text) (arm_tree_is tag arms l c found_too ∙ p.1) ∙ is)
tagged_found arms t d e s tag l c is named found p same = cc

pub no_tagged : (arms : ArmTrees) (t : Data) → ((p : Data × Data) → one_member (codes "alt") (array_of_two p.0 p.1) ≡ t → ⊥) → (c : CompTree) → IsComplement (form_alt arms) t c → ⊥
no_tagged arms t none (alt_comp s c) h = none (string s, tree_in_arm arms s c) h.1
no_tagged arms t none c h = absurd h.0

pub not_text : (arms : ArmTrees) (t d e : Data) → one_member (codes "alt") (array_of_two d e) ≡ t → None ≡ as_str d → (c : CompTree) → IsComplement (form_alt arms) t c → ⊥
not_text arms t d e is none (alt_comp s c) h =
    let text : string s ≡ d = (same_pair (codes "alt") _ _ d e (h.1 ∙ sym is)).0 in
    let bad : None ≡ Some s = none ∙ ap as_str (sym text) in
    cc
not_text arms t d e is none c h = absurd h.0

-- the tag that a text is
tag_is : (d : Data) (s u : List ℕ) → string u ≡ d → Some s ≡ as_str d → u ≡ s
tag_is d s u text is = let same : Some s ≡ Some u = is ∙ ap as_str (sym text) in cc

pub no_arm : (arms : ArmTrees) (t d e : Data) (s : List ℕ) → one_member (codes "alt") (array_of_two d e) ≡ t → Some s ≡ as_str d → arm_with arms s ≡ None → (c : CompTree) → IsComplement (form_alt arms) t c → ⊥
no_arm arms t d e s is named none (alt_comp u c) h =
    let tag = tag_is d s u (same_pair (codes "alt") _ _ d e (h.1 ∙ sym is)).0 named in
    arm_is_there arms u c h.0 (subst (λ n. arm_with arms n ≡ None) (sym tag) none)
no_arm arms t d e s is named none c h = absurd h.0

pub arm_refused : (arms : ArmTrees) (t d e : Data) (s : List ℕ) (l : FormTree) → IsTrue (is_typed (form_alt arms)) → one_member (codes "alt") (array_of_two d e) ≡ t → Some s ≡ as_str d → arm_with arms s ≡ Some l
    → ((c : CompTree) → IsComplement l e c → ⊥) → (c : CompTree) → IsComplement (form_alt arms) t c → ⊥
arm_refused arms t d e s l typed is named found none (alt_comp u c) h =
    let parts = same_pair (codes "alt") _ _ d e (h.1 ∙ sym is) in
    let tag = tag_is d s u parts.0 named in
    let found_too : arm_with arms u ≡ Some l = subst (λ n. arm_with arms n ≡ Some l) (sym tag) found in
    none c (arm_fits arms u c l typed h.0 found_too, sym (arm_tree_is u arms l c found_too) ∙ parts.1)
arm_refused arms t d e s l typed is named found none c h = absurd h.0

-- ---- a list

pub list_found : (l : FormTree) (t : Data) (ds : Items) (cs : CompTrees) (n : ℕ) → one_member (codes "list") (array ds) ≡ t → ArePlaces l ds cs → n ≡ comp_count cs
    → IsComplement (form_each l) t (hold_comp (ListOf (record { count = n })) cs)
list_found l t ds cs n is p many = ((eq-eqb n (comp_count cs) many, p.0), ap (λ xs. one_member (codes "list") (array xs)) p.1 ∙ is)

pub no_list : (l : FormTree) (t : Data) → ((ds : Items) → one_member (codes "list") (array ds) ≡ t → ⊥) → (c : CompTree) → IsComplement (form_each l) t c → ⊥
no_list l t none (hold_comp (ListOf s) cs) h = none (place_items (tree_of_complement l) cs) h.1
no_list l t none (hold_comp (KeyedOf ks) cs) h = let bad : false ≡ true = h.0.0 in cc
no_list l t none (hold_comp (TreeOf ks) cs) h = let bad : false ≡ true = h.0.0 in cc
no_list l t none c h = absurd h.0

pub list_refused : (l : FormTree) (t : Data) (ds : Items) → one_member (codes "list") (array ds) ≡ t → ((cs : CompTrees) → ArePlaces l ds cs → ⊥) → (c : CompTree) → IsComplement (form_each l) t c → ⊥
list_refused l t ds is none (hold_comp (ListOf s) cs) h = none cs (h.0.1, same_array (codes "list") _ ds (h.1 ∙ sym is))
list_refused l t ds is none (hold_comp (KeyedOf ks) cs) h = let bad : false ≡ true = h.0.0 in cc
list_refused l t ds is none (hold_comp (TreeOf ks) cs) h = let bad : false ≡ true = h.0.0 in cc
list_refused l t ds is none c h = absurd h.0

-- ---- a keyed map

pub keyed_found : (l : FormTree) (t : Data) (ms : Members) (keys : List (List ℕ)) (cs : CompTrees) → one_member (codes "keyed") (object ms) ≡ t → ArePlaces l (member_contents ms) cs
    → is_rising keys ≡ true → keys ≡ member_names ms → IsComplement (form_keyed l) t (hold_comp (KeyedOf keys) cs)
keyed_found l t ms keys cs is p rising names =
    let joined = members_join (tree_of_complement l) ms cs p.1 in
    let many : length keys ≡ comp_count cs = ap length names ∙ joined.1 in (
      (both (is_rising keys) (nat_eq (length keys) (comp_count cs)) rising (eq-eqb (length keys) (comp_count cs) many), p.0),
      ap (λ ks. one_member (codes "keyed") (object (place_members (tree_of_complement l) ks cs))) names ∙ ap (λ xs. one_member (codes "keyed") (object xs)) joined.0 ∙ is,
    )

pub no_keyed : (l : FormTree) (t : Data) → ((ms : Members) → one_member (codes "keyed") (object ms) ≡ t → ⊥) → (c : CompTree) → IsComplement (form_keyed l) t c → ⊥
no_keyed l t none (hold_comp (KeyedOf ks) cs) h = none (place_members (tree_of_complement l) ks cs) h.1
no_keyed l t none (hold_comp (ListOf s) cs) h = let bad : false ≡ true = h.0.0 in cc
no_keyed l t none (hold_comp (TreeOf ks) cs) h = let bad : false ≡ true = h.0.0 in cc
no_keyed l t none c h = absurd h.0

-- what a complement of a keyed map has where its members are these
keyed_parts : (l : FormTree) (ms : Members) (ks : List (List ℕ)) (cs : CompTrees) → IsTrue (is_rising ks && nat_eq (length ks) (comp_count cs)) → place_members (tree_of_complement l) ks cs ≡ ms
    → (is_rising (member_names ms) ≡ true) × (place_items (tree_of_complement l) cs ≡ member_contents ms)
keyed_parts l ms ks cs shape is =
    let many = eqb-true (length ks) (comp_count cs) (second (is_rising ks) (nat_eq (length ks) (comp_count cs)) shape) in
    let names : ks ≡ member_names ms = sym (names_again (tree_of_complement l) ks cs many) ∙ ap member_names is in
    (subst (λ ns. is_rising ns ≡ true) names (first (is_rising ks) (nat_eq (length ks) (comp_count cs)) shape), sym (contents_again (tree_of_complement l) ks cs many) ∙ ap member_contents is)

pub keys_not_rising : (l : FormTree) (t : Data) (ms : Members) → one_member (codes "keyed") (object ms) ≡ t → is_rising (member_names ms) ≡ false → (c : CompTree) → IsComplement (form_keyed l) t c → ⊥
keys_not_rising l t ms is falls (hold_comp (KeyedOf ks) cs) h =
    let rising : is_rising (member_names ms) ≡ true = (keyed_parts l ms ks cs h.0.0 (same_object (codes "keyed") _ ms (h.1 ∙ sym is))).0 in
    cc
keys_not_rising l t ms is falls (hold_comp (ListOf s) cs) h = let bad : false ≡ true = h.0.0 in cc
keys_not_rising l t ms is falls (hold_comp (TreeOf ks) cs) h = let bad : false ≡ true = h.0.0 in cc
keys_not_rising l t ms is falls c h = absurd h.0

pub contents_refused : (l : FormTree) (t : Data) (ms : Members) → one_member (codes "keyed") (object ms) ≡ t → ((cs : CompTrees) → ArePlaces l (member_contents ms) cs → ⊥)
    → (c : CompTree) → IsComplement (form_keyed l) t c → ⊥
contents_refused l t ms is none (hold_comp (KeyedOf ks) cs) h =
    none cs (h.0.1, (keyed_parts l ms ks cs h.0.0 (same_object (codes "keyed") _ ms (h.1 ∙ sym is))).1)
contents_refused l t ms is none (hold_comp (ListOf s) cs) h = let bad : false ≡ true = h.0.0 in cc
contents_refused l t ms is none (hold_comp (TreeOf ks) cs) h = let bad : false ≡ true = h.0.0 in cc
contents_refused l t ms is none c h = absurd h.0

-- ---- an ordered tree

pub nodes_found : (l : FormTree) (t : Data) (ns ds : Items) (depths nodes : List ℕ) (cs : CompTrees) → nodes_tree ns ds ≡ t → counts_of ns ≡ Some depths → nodes ≡ depths → is_valid nodes ≡ true
    → length depths ≡ comp_count cs → ArePlaces l ds cs → IsComplement (form_ordered l) t (hold_comp (TreeOf nodes) cs)
nodes_found l t ns ds depths nodes cs is numbers same valid many p =
    let many_too : length nodes ≡ comp_count cs = ap length same ∙ many in
    let written : count_items nodes ≡ ns = ap count_items same ∙ counts_take ns depths numbers in (
      (both (is_valid nodes) (nat_eq (length nodes) (comp_count cs)) valid (eq-eqb (length nodes) (comp_count cs) many_too), p.0),
      ap₂ nodes_tree written p.1 ∙ is,
    )

-- what a complement of an ordered tree has where its depths and items are these
pub record NodesParts (l : FormTree) (ns ds : Items) : Type 0 where
  pub depths : List ℕ
  pub comps : CompTrees
  pub numbers : counts_of ns ≡ Some depths
  pub valid : is_valid depths ≡ true
  pub many : length depths ≡ comp_count comps
  pub places : ArePlaces l ds comps

nodes_parts : (l : FormTree) (t : Data) (ns ds : Items) → nodes_tree ns ds ≡ t → (c : CompTree) → IsComplement (form_ordered l) t c → NodesParts l ns ds
nodes_parts l t ns ds is (hold_comp (TreeOf depths) cs) h =
    let same = same_nodes (count_items depths) (place_items (tree_of_complement l) cs) ns ds (h.1 ∙ sym is) in
    let valid = first (is_valid depths) (nat_eq (length depths) (comp_count cs)) h.0.0 in
    record {
      depths = depths;
      comps = cs;
      numbers = ap counts_of (sym same.0) ∙ counts_again depths valid;
      valid = valid;
      many = eqb-true (length depths) (comp_count cs) (second (is_valid depths) (nat_eq (length depths) (comp_count cs)) h.0.0);
      places = (h.0.1, same.1);
    }
nodes_parts l t ns ds is (hold_comp (ListOf s) cs) h = let bad : false ≡ true = h.0.0 in cc
nodes_parts l t ns ds is (hold_comp (KeyedOf ks) cs) h = let bad : false ≡ true = h.0.0 in cc
nodes_parts l t ns ds is c h = absurd h.0

pub no_nodes : (l : FormTree) (t : Data) → ((p : Items × Items) → nodes_tree p.0 p.1 ≡ t → ⊥) → (c : CompTree) → IsComplement (form_ordered l) t c → ⊥
no_nodes l t none (hold_comp (TreeOf depths) cs) h = none (count_items depths, place_items (tree_of_complement l) cs) h.1
no_nodes l t none (hold_comp (ListOf s) cs) h = let bad : false ≡ true = h.0.0 in cc
no_nodes l t none (hold_comp (KeyedOf ks) cs) h = let bad : false ≡ true = h.0.0 in cc
no_nodes l t none c h = absurd h.0

pub not_counts : (l : FormTree) (t : Data) (ns ds : Items) → nodes_tree ns ds ≡ t → counts_of ns ≡ None → (c : CompTree) → IsComplement (form_ordered l) t c → ⊥
not_counts l t ns ds is none c h = let p = nodes_parts l t ns ds is c h in let bad : None ≡ Some p.depths = sym none ∙ p.numbers in cc

same_depths : (a b : List ℕ) → Some a ≡ Some b → a ≡ b
same_depths a b q = cc

pub not_as_many : (l : FormTree) (t : Data) (ns : Items) (vs : List Value) (depths : List ℕ) → nodes_tree ns (items_view vs) ≡ t → counts_of ns ≡ Some depths → length depths ≢ length vs
    → (c : CompTree) → IsComplement (form_ordered l) t c → ⊥
not_as_many l t ns vs depths is numbers differ c h =
    let p = nodes_parts l t ns (items_view vs) is c h in
    let same = same_depths depths p.depths (sym numbers ∙ p.numbers) in
    differ (ap length same ∙ p.many ∙ places_many (tree_of_complement l) p.comps vs p.places.1)

pub not_valid : (l : FormTree) (t : Data) (ns ds : Items) (depths : List ℕ) → nodes_tree ns ds ≡ t → counts_of ns ≡ Some depths → is_valid depths ≡ false → (c : CompTree) → IsComplement (form_ordered l) t c → ⊥
not_valid l t ns ds depths is numbers invalid c h =
    let p = nodes_parts l t ns ds is c h in
    let same = same_depths depths p.depths (sym numbers ∙ p.numbers) in
    let bad : true ≡ false = sym p.valid ∙ ap is_valid (sym same) ∙ invalid in
    cc

pub nodes_refused : (l : FormTree) (t : Data) (ns ds : Items) → nodes_tree ns ds ≡ t → ((cs : CompTrees) → ArePlaces l ds cs → ⊥) → (c : CompTree) → IsComplement (form_ordered l) t c → ⊥
nodes_refused l t ns ds is none c h = let p = nodes_parts l t ns ds is c h in none p.comps p.places

-- ---- a partition

pub tags_found : (fs : FieldTrees) (t : Data) (ds : Items) (ks : List ℕ) → one_member (codes "tags") (array ds) ≡ t → AreTags fs ds ks → IsComplement (form_part fs) t (tags_comp ks)
tags_found fs t ds ks is p = (p.0, ap (λ xs. one_member (codes "tags") (array xs)) p.1 ∙ is)

pub no_tags : (fs : FieldTrees) (t : Data) → ((ds : Items) → one_member (codes "tags") (array ds) ≡ t → ⊥) → (c : CompTree) → IsComplement (form_part fs) t c → ⊥
no_tags fs t none (tags_comp ks) h = none (tag_items fs ks) h.1
no_tags fs t none c h = absurd h.0

pub tags_refused : (fs : FieldTrees) (t : Data) (ds : Items) → one_member (codes "tags") (array ds) ≡ t → ((ks : List ℕ) → AreTags fs ds ks → ⊥) → (c : CompTree) → IsComplement (form_part fs) t c → ⊥
tags_refused fs t ds is none (tags_comp ks) h = none ks (h.0, same_array (codes "tags") _ ds (h.1 ∙ sym is))
tags_refused fs t ds is none c h = absurd h.0
