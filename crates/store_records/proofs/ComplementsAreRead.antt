-- `complement_of` reads a tree as the complement that fits the form and has this tree, and there is none where it reads nothing.
use Rattle.std.proofs.Common.{◌≡◌, ℕ, ◌&&◌, Bool, true, false, cond, codes, List, [], ◌∷◌, length, Option, Some, None, option_map, option_and_then, refl, sym, ap, ap₂, subst, ◌∙◌, bytes_eq, arith}
use Rattle.std.proofs.lemmas.Bool.Decides.{nat_tests}
use Rattle.std.specs.Prelude.{nat_eq, nat_lt}
use Rattle.std.proofs.lemmas.Option.{same_Some}
use Rattle.texts.specs.Keys.{is_rising}
use Rattle.texts.proofs.Conjunction.{both as both_true, first, second}
use Rattle.serde_json.specs.Data.{Data, null, string, array, object, Items, no_items, item, Members, no_members, member}
use Rattle.serde_json.specs.Find.{as_str, as_array, as_object}
use Rattle.hold_shapes.specs.Trees.{is_valid}
use Rattle.hold_shapes.specs.declared.shape.Shape.TheVariants.{List as ListOf, Keyed as KeyedOf, Tree as TreeOf}
use Rattle.tag_seq.specs.Tags.{are_below}
use Rattle.doc_values.specs.Types.{TyTree, FieldTrees, is_well_formed, is_same_ty}
use Rattle.doc_values.specs.Typing.{lookup_field}
use Rattle.value_json.specs.Numbers.{counts_of}
use Rattle.value_json.specs.Parts.{depths_and_items}
use Rattle.value_json.specs.DocumentJson.{member_names}
use Rattle.value_json.proofs.Facts.{bind_some, map_some, if_some}
use Rattle.value_json.proofs.WritingReadsBack.{counts_again}
use Rattle.lens_forms.specs.Forms.{FormTree, form_id, form_bij, form_disc, form_then, form_rec, form_alt, form_each, form_keyed, form_ordered, form_part, form_inv, RowTrees, no_rows, both, only_left, only_right, ArmTrees, no_arms, more_arms, right_type, left_type}
use Rattle.lens_forms.specs.Typing.{is_typed, are_typed_rows, are_typed_arms, left_names, right_names, left_arms, right_arms}
use Rattle.doc_values.specs.Types.{are_distinct, are_choices}
use Rattle.lens_core.specs.Tags.{tag_count, tag_name, tag_number}
use Rattle.lens_core.specs.Complements.{CompTree, nil, then_comp, rec_comp, alt_comp, hold_comp, tags_comp, CompTrees, no_comps, more_comps, comp_count, IsNil, Fits, FitRows, FitsArm, AllFit}
use Rattle.complement_file.specs.ComplementJson.{tree_of_complement, row_items, place_items, tag_items, tree_in_arm, arm_with}
use Rattle.value_json.specs.SmallTrees.{one_member, array_of_two}
use Rattle.complement_file.specs.Reading.{IsComplement, ArePlaces, AreRows, AreTags, IsTag, nodes_tree, member_contents}
use Rattle.complement_file.proofs.Arms.{found_step, arm_is_there, arm_fits, arm_tree_is}
use Rattle.complement_file.proofs.ReadPlaces.{names_again, contents_again}
use Rattle.complement_file.proofs.ReadTags.{is_tag, tag_found, tag_absent}
use Rattle.complement_file.proofs.ReadForms.{pair_found, rec_found, tagged_found, list_found, keyed_found, nodes_found, tags_found}
use Rattle.complement_file.proofs.TreesDiffer.{apart}
use Rattle.store_records.specs.StoredComplements.{nothing_of, content_under, both_items, each_complement, comp_list_of, keyed_of, ordered_of, tag_numbers_of, held_by_keys, held_by_depths, of_both, of_tagged, complement_of, row_complements, arm_complement}
use Rattle.std.proofs.lemmas.Bool.{eqb-true, ltb-true}
use Rattle.texts.proofs.Tests.{bytes_eq-is}

-- ---- the parts of trees

under_is : (name : List ℕ) (t d : Data) → content_under name t ≡ Some d → one_member name d ≡ t
under_is name (object (member k e no_members)) d h =
    let p = if_some (bytes_eq k name) e d h in
    ap₂ one_member (sym (bytes_eq-is k name p.0)) (sym p.1)
under_is name t d h = cc

array_is : (t : Data) (ds : Items) → as_array t ≡ Some ds → array ds ≡ t
array_is (array es) ds h = let e : es ≡ ds = cc in ap array (sym e)
array_is t ds h = cc

object_is : (t : Data) (ms : Members) → as_object t ≡ Some ms → object ms ≡ t
object_is (object ns) ms h = let e : ns ≡ ms = cc in ap object (sym e)
object_is t ms h = cc

pair_is : (t : Data) (p : Data × Data) → both_items t ≡ Some p → array_of_two p.0 p.1 ≡ t
pair_is (array (item d (item e no_items))) p h = ap (λ (q : Data × Data). array_of_two q.0 q.1) (sym (same_Some _ _ h))
pair_is t p h = cc

under_array : (name : List ℕ) (t : Data) (ds : Items) → option_and_then as_array (content_under name t) ≡ Some ds → one_member name (array ds) ≡ t
under_array name t ds h = let a = bind_some as_array (content_under name t) ds h in ap (one_member name) (array_is a.0 ds a.2) ∙ under_is name t a.0 a.1

under_object : (name : List ℕ) (t : Data) (ms : Members) → option_and_then as_object (content_under name t) ≡ Some ms → one_member name (object ms) ≡ t
under_object name t ms h = let a = bind_some as_object (content_under name t) ms h in ap (one_member name) (object_is a.0 ms a.2) ∙ under_is name t a.0 a.1

under_pair : (name : List ℕ) (t : Data) (p : Data × Data) → option_and_then both_items (content_under name t) ≡ Some p → one_member name (array_of_two p.0 p.1) ≡ t
under_pair name t p h = let a = bind_some both_items (content_under name t) p h in ap (one_member name) (pair_is a.0 p a.2) ∙ under_is name t a.0 a.1

nodes_are : (t : Data) (p : Items × Items) → depths_and_items t ≡ Some p
    → object (member (codes "depths") (array p.0) (member (codes "items") (array p.1) no_members)) ≡ t
nodes_are (object (member k (array ns) (member l (array ds) no_members))) p h =
    let c = if_some (bytes_eq k (codes "depths") && bytes_eq l (codes "items")) _ p h in
    let kn = bytes_eq-is k (codes "depths") (first (bytes_eq k (codes "depths")) (bytes_eq l (codes "items")) c.0) in
    let ln = bytes_eq-is l (codes "items") (second (bytes_eq k (codes "depths")) (bytes_eq l (codes "items")) c.0) in
    ap (λ (q : Items × Items). object (member (codes "depths") (array q.0) (member (codes "items") (array q.1) no_members))) (sym c.1)
    ∙ ap₂ (λ x y. object (member x (array ns) (member y (array ds) no_members))) (sym kn) (sym ln)
nodes_are t p h = cc

under_nodes : (t : Data) (p : Items × Items) → option_and_then depths_and_items (content_under (codes "tree") t) ≡ Some p → nodes_tree p.0 p.1 ≡ t
under_nodes t p h =
    let a = bind_some depths_and_items (content_under (codes "tree") t) p h in
    ap (one_member (codes "tree")) (nodes_are a.0 p a.2) ∙ under_is (codes "tree") t a.0 a.1

-- ---- what is read fits and has the tree

-- what is read as a complement of the form is one, and has the tree
abbrev IsSound : FormTree → Type 0
IsSound l = (t : Data) (c : CompTree) → complement_of l t ≡ Some c → IsComplement l t c

nothing_sound : (t : Data) (c : CompTree) → nothing_of t ≡ Some c → IsNil c × (null ≡ t)
nothing_sound null c h = let e : nil ≡ c = cc in (subst IsNil e tt, refl)
nothing_sound t c h = cc

pair_sound : (l k : FormTree) → IsSound l → IsSound k → IsSound (form_then l k)
pair_sound l k s u t c h =
    let o = bind_some (of_both (complement_of l) (complement_of k)) (option_and_then both_items (content_under (codes "then") t)) c h in
    let b = bind_some (λ a. option_map (then_comp a) (complement_of k o.0.1)) (complement_of l o.0.0) c o.2 in
    let m = map_some (then_comp b.0) (complement_of k o.0.1) c b.2 in
    subst (IsComplement (form_then l k) t) m.2
    (pair_found l k t o.0.0 o.0.1 b.0 m.0 (under_pair (codes "then") t o.0 o.1) (s o.0.0 b.0 b.1) (u o.0.1 m.0 m.1))

each_sound : (l : FormTree) → IsSound l → (ds : Items) (cs : CompTrees) → each_complement (complement_of l) ds ≡ Some cs → ArePlaces l ds cs
each_sound l s no_items cs h = subst (ArePlaces l no_items) (same_Some _ _ h) (tt, refl)
each_sound l s (item d ds) cs h =
    let b = bind_some (λ c. option_map (more_comps c) (each_complement (complement_of l) ds)) (complement_of l d) cs h in
    let m = map_some (more_comps b.0) (each_complement (complement_of l) ds) cs b.2 in
    let p = s d b.0 b.1 in
    let q = each_sound l s ds m.0 m.1 in
    subst (ArePlaces l (item d ds)) m.2 ((p.0, q.0), ap₂ item p.1 q.1)

list_sound : (l : FormTree) → IsSound l → IsSound (form_each l)
list_sound l s t c h =
    let m = map_some comp_list_of (option_and_then (each_complement (complement_of l)) (option_and_then as_array (content_under (codes "list") t))) c h in
    let b = bind_some (each_complement (complement_of l)) (option_and_then as_array (content_under (codes "list") t)) m.0 m.1 in
    subst (IsComplement (form_each l) t) m.2 (list_found l t b.0 m.0 (comp_count m.0) (under_array (codes "list") t b.0 b.1) (each_sound l s b.0 m.0 b.2) refl)

keyed_sound : (l : FormTree) → IsSound l → IsSound (form_keyed l)
keyed_sound l s t c h =
    let o = bind_some (held_by_keys (complement_of l)) (option_and_then as_object (content_under (codes "keyed") t)) c h in
    let b = bind_some (keyed_of (member_names o.0)) (each_complement (complement_of l) (member_contents o.0)) c o.2 in
    let r = if_some (is_rising (member_names o.0)) _ c b.2 in
    subst (IsComplement (form_keyed l) t) r.1
    (keyed_found l t o.0 (member_names o.0) b.0 (under_object (codes "keyed") t o.0 o.1) (each_sound l s (member_contents o.0) b.0 b.1) r.0 refl)

ordered_sound : (l : FormTree) → IsSound l → IsSound (form_ordered l)
ordered_sound l s t c h =
    let o = bind_some (held_by_depths (complement_of l)) (option_and_then depths_and_items (content_under (codes "tree") t)) c h in
    let n = bind_some (λ depths. option_and_then (ordered_of depths) (each_complement (complement_of l) o.0.1)) (counts_of o.0.0) c o.2 in
    let b = bind_some (ordered_of n.0) (each_complement (complement_of l) o.0.1) c n.2 in
    let r = if_some (is_valid n.0 && nat_eq (length n.0) (comp_count b.0)) _ c b.2 in
    subst (IsComplement (form_ordered l) t) r.1
    (nodes_found l t o.0.0 o.0.1 n.0 n.0 b.0 (under_nodes t o.0 o.1) n.1 refl (first (is_valid n.0) (nat_eq (length n.0) (comp_count b.0)) r.0)
    (eqb-true (length n.0) (comp_count b.0) (second (is_valid n.0) (nat_eq (length n.0) (comp_count b.0)) r.0)) (each_sound l s o.0.1 b.0 b.1))

tags_sound : (fs : FieldTrees) (ds : Items) (ks : List ℕ) → tag_numbers_of fs ds ≡ Some ks → AreTags fs ds ks
tags_sound fs no_items ks h = subst (AreTags fs no_items) (same_Some _ _ h) (refl, refl)
tags_sound fs (item d ds) ks h =
    let b = bind_some (λ k. option_map (λ js. k ∷ js) (tag_numbers_of fs ds)) (option_and_then (tag_number fs) (as_str d)) ks h in
    let n = bind_some (tag_number fs) (as_str d) b.0 b.1 in
    let f = map_some (λ (x : ℕ × TyTree). x.0) (lookup_field fs n.0) b.0 n.2 in
    let m = map_some (λ js. b.0 ∷ js) (tag_numbers_of fs ds) ks b.2 in
    let p = subst (IsTag fs d) f.2 (is_tag fs d n.0 f.0 (sym n.1) f.1) in
    let q = tags_sound fs ds m.0 m.1 in
    subst (AreTags fs (item d ds)) m.2 (both_true (nat_lt b.0 (tag_count fs)) (are_below (tag_count fs) m.0) p.0 q.0, ap₂ item p.1 q.1)

part_sound : (fs : FieldTrees) → IsSound (form_part fs)
part_sound fs t c h =
    let m = map_some tags_comp (option_and_then (tag_numbers_of fs) (option_and_then as_array (content_under (codes "tags") t))) c h in
    let b = bind_some (tag_numbers_of fs) (option_and_then as_array (content_under (codes "tags") t)) m.0 m.1 in
    subst (IsComplement (form_part fs) t) m.2 (tags_found fs t b.0 m.0 (under_array (codes "tags") t b.0 b.1) (tags_sound fs b.0 m.0 b.2))

-- the arm that a tag finds, with a complement of it
abbrev IsInArm : Option FormTree → Data → CompTree → Type 0
IsInArm found d c = (l : FormTree) × (found ≡ Some l) × IsComplement l d c

arm_step : (k : Bool) (l : FormTree) (d : Data) (c : CompTree) (rest : Option FormTree) (later : Option CompTree) → cond k (complement_of l d) later ≡ Some c
    → (complement_of l d ≡ Some c → IsComplement l d c) → (later ≡ Some c → IsInArm rest d c) → IsInArm (cond k (Some l) rest) d c
arm_step true l d c rest later h here again = (l, refl, here h)
arm_step false l d c rest later h here again = again h

alt_sound : (arms : ArmTrees) → ((t : List ℕ) (d : Data) (c : CompTree) → arm_complement arms t d ≡ Some c → IsInArm (arm_with arms t) d c) → IsSound (form_alt arms)
alt_sound arms s t c h =
    let o = bind_some (of_tagged (arm_complement arms)) (option_and_then both_items (content_under (codes "alt") t)) c h in
    let n = bind_some (λ tag. option_map (alt_comp tag) (arm_complement arms tag o.0.1)) (as_str o.0.0) c o.2 in
    let m = map_some (alt_comp n.0) (arm_complement arms n.0 o.0.1) c n.2 in
    let a = s n.0 o.0.1 m.0 m.1 in
    subst (IsComplement (form_alt arms) t) m.2
    (tagged_found arms t o.0.0 o.0.1 n.0 n.0 a.0 m.0 (under_pair (codes "alt") t o.0 o.1) (sym n.1) a.1 a.2 refl)

mutual
  pub sound : (l : FormTree) → IsSound l
  sound (form_id u) t c h = nothing_sound t c h
  sound (form_bij ps n) t c h = nothing_sound t c h
  sound (form_disc u v) t c h = nothing_sound t c h
  sound (form_then l k) t c h = pair_sound l k (λ d a q. sound l d a q) (λ d a q. sound k d a q) t c h
  sound (form_rec rows) t c h =
      let m = map_some rec_comp (option_and_then (row_complements rows) (option_and_then as_array (content_under (codes "rec") t))) c h in
      let b = bind_some (row_complements rows) (option_and_then as_array (content_under (codes "rec") t)) m.0 m.1 in
      subst (IsComplement (form_rec rows) t) m.2 (rec_found rows t b.0 m.0 (under_array (codes "rec") t b.0 b.1) (rows_sound rows b.0 m.0 b.2))
  sound (form_alt arms) t c h = alt_sound arms (λ s d a q. arms_sound arms s d a q) t c h
  sound (form_each l) t c h = list_sound l (λ d a q. sound l d a q) t c h
  sound (form_keyed l) t c h = keyed_sound l (λ d a q. sound l d a q) t c h
  sound (form_ordered l) t c h = ordered_sound l (λ d a q. sound l d a q) t c h
  sound (form_part fs) t c h = part_sound fs t c h
  sound (form_inv l) t c h = sound l t c h

  rows_sound : (rows : RowTrees) (ds : Items) (cs : CompTrees) → row_complements rows ds ≡ Some cs → AreRows rows ds cs
  rows_sound no_rows no_items cs h = subst (AreRows no_rows no_items) (same_Some _ _ h) (tt, refl)
  rows_sound no_rows (item d ds) cs h = cc
  rows_sound (both a b l rows) no_items cs h = cc
  rows_sound (both a b l rows) (item d ds) cs h =
      let n = bind_some (λ c. option_map (more_comps c) (row_complements rows ds)) (complement_of l d) cs h in
      let m = map_some (more_comps n.0) (row_complements rows ds) cs n.2 in
      let p = sound l d n.0 n.1 in
      let q = rows_sound rows ds m.0 m.1 in
      subst (AreRows (both a b l rows) (item d ds)) m.2 ((p.0, q.0), ap₂ item p.1 q.1)
  rows_sound (only_left a t rows) ds cs h = rows_sound rows ds cs h
  rows_sound (only_right b t rows) ds cs h = rows_sound rows ds cs h

  arms_sound : (arms : ArmTrees) (s : List ℕ) (d : Data) (c : CompTree) → arm_complement arms s d ≡ Some c → IsInArm (arm_with arms s) d c
  arms_sound no_arms s d c h = cc
  arms_sound (more_arms a b l arms) s d c h =
      arm_step (bytes_eq a s) l d c (arm_with arms s) (arm_complement arms s d) h (λ q. sound l d c q) (λ q. arms_sound arms s d c q)

-- ---- a complement that fits is read from its tree

abbrev IsReadBack : FormTree → Type 0
IsReadBack l = (c : CompTree) → Fits l c → complement_of l (tree_of_complement l c) ≡ Some c

nothing_back : (c : CompTree) → IsNil c → Some nil ≡ Some c
nothing_back nil h = refl
nothing_back c h = absurd h

each_back : (l : FormTree) → IsReadBack l → (cs : CompTrees) → AllFit (Fits l) cs → each_complement (complement_of l) (place_items (tree_of_complement l) cs) ≡ Some cs
each_back l f no_comps h = refl
each_back l f (more_comps c cs) h = rw (f c h.0, each_back l f cs h.1) refl

list_back : (l : FormTree) → IsReadBack l → IsReadBack (form_each l)
list_back l f (hold_comp (ListOf s) cs) h =
    rw (each_back l f cs h.1) (ap (λ n. Some (hold_comp (ListOf (record { count = n })) cs)) (sym (eqb-true s.count (comp_count cs) h.0)))
list_back l f (hold_comp (KeyedOf ks) cs) h = let bad : false ≡ true = h.0 in cc
list_back l f (hold_comp (TreeOf ks) cs) h = let bad : false ≡ true = h.0 in cc
list_back l f c h = absurd h

keyed_back : (l : FormTree) → IsReadBack l → IsReadBack (form_keyed l)
keyed_back l f (hold_comp (KeyedOf ks) cs) h =
    let many = eqb-true (length ks) (comp_count cs) (second (is_rising ks) (nat_eq (length ks) (comp_count cs)) h.0) in
    let rises = first (is_rising ks) (nat_eq (length ks) (comp_count cs)) h.0 in
    rw (names_again (tree_of_complement l) ks cs many, contents_again (tree_of_complement l) ks cs many, each_back l f cs h.1, rises) refl
keyed_back l f (hold_comp (ListOf s) cs) h = let bad : false ≡ true = h.0 in cc
keyed_back l f (hold_comp (TreeOf ks) cs) h = let bad : false ≡ true = h.0 in cc
keyed_back l f c h = absurd h

ordered_back : (l : FormTree) → IsReadBack l → IsReadBack (form_ordered l)
ordered_back l f (hold_comp (TreeOf ds) cs) h =
    let valid = first (is_valid ds) (nat_eq (length ds) (comp_count cs)) h.0 in
    rw (counts_again ds valid, each_back l f cs h.1, h.0) refl
ordered_back l f (hold_comp (ListOf s) cs) h = let bad : false ≡ true = h.0 in cc
ordered_back l f (hold_comp (KeyedOf ks) cs) h = let bad : false ≡ true = h.0 in cc
ordered_back l f c h = absurd h

-- the number of a tag's name is the tag's
only_number : (j k : ℕ) → tags_comp (j ∷ []) ≡ tags_comp (k ∷ []) → j ≡ k
only_number j k e = cc

number_back : (fs : FieldTrees) (k : ℕ) (o : Option (ℕ × TyTree)) → lookup_field fs (tag_name fs k) ≡ o → is_typed (form_part fs) ≡ true → nat_lt k (tag_count fs) ≡ true
    → option_map (λ (x : ℕ × TyTree). x.0) o ≡ Some k
number_back fs k None e typed h = absurd (tag_absent fs (tag_name fs k) k e (ltb-true k (tag_count fs) h) refl)
number_back fs k (Some q) e typed h =
    let f = tag_found fs (tag_name fs k) q e in
    let below : nat_lt q.0 (tag_count fs) ≡ true = grind (arith, nat_tests, f.0) in
    let same = apart (form_part fs) typed (tags_comp (q.0 ∷ [])) (tags_comp (k ∷ []))
    (both_true (nat_lt q.0 (tag_count fs)) true below refl) (both_true (nat_lt k (tag_count fs)) true h refl)
    (ap (λ n. one_member (codes "tags") (array (item (string n) no_items))) f.1) in
    ap Some (only_number q.0 k same)

tags_back : (fs : FieldTrees) (ks : List ℕ) → is_typed (form_part fs) ≡ true → are_below (tag_count fs) ks ≡ true → tag_numbers_of fs (tag_items fs ks) ≡ Some ks
tags_back fs [] typed h = refl
tags_back fs (k ∷ ks) typed h =
    let below = first (nat_lt k (tag_count fs)) (are_below (tag_count fs) ks) h in
    let rest = second (nat_lt k (tag_count fs)) (are_below (tag_count fs) ks) h in
    let this : tag_number fs (tag_name fs k) ≡ Some k = number_back fs k (lookup_field fs (tag_name fs k)) refl typed below in
    rw (this, tags_back fs ks typed rest) refl

part_back : (fs : FieldTrees) → is_typed (form_part fs) ≡ true → IsReadBack (form_part fs)
part_back fs typed (tags_comp ks) h = rw (tags_back fs ks typed h) refl
part_back fs typed c h = absurd h

-- the arm that a tag finds reads its complement
arm_reads_step : (k : Bool) (l m : FormTree) (rest : Option FormTree) (d : Data) (later : Option CompTree) → cond k (Some m) rest ≡ Some l → (rest ≡ Some l → later ≡ complement_of l d)
    → cond k (complement_of m d) later ≡ complement_of l d
arm_reads_step true l m rest d later e again = ap (λ z. complement_of z d) (same_Some m l e)
arm_reads_step false l m rest d later e again = again e

arm_reads : (arms : ArmTrees) (t : List ℕ) (l : FormTree) (d : Data) → arm_with arms t ≡ Some l → arm_complement arms t d ≡ complement_of l d
arm_reads no_arms t l d e = cc
arm_reads (more_arms a b m arms) t l d e = arm_reads_step (bytes_eq a t) l m (arm_with arms t) d (arm_complement arms t d) e (λ s. arm_reads arms t l d s)

alt_back_in : (arms : ArmTrees) (t : List ℕ) (c : CompTree) (o : Option FormTree) → arm_with arms t ≡ o → is_typed (form_alt arms) ≡ true → FitsArm arms t c
    → ((l : FormTree) → arm_with arms t ≡ Some l → IsReadBack l) → arm_complement arms t (tree_in_arm arms t c) ≡ Some c
alt_back_in arms t c None e typed h f = absurd (arm_is_there arms t c h e)
alt_back_in arms t c (Some l) e typed h f =
    ap (arm_complement arms t) (arm_tree_is t arms l c e) ∙ arm_reads arms t l (tree_of_complement l c) e ∙ f l e c (arm_fits arms t c l typed h e)

alt_back : (arms : ArmTrees) → is_typed (form_alt arms) ≡ true → ((t : List ℕ) (l : FormTree) → arm_with arms t ≡ Some l → IsReadBack l) → IsReadBack (form_alt arms)
alt_back arms typed f (alt_comp t c) h = rw (alt_back_in arms t c (arm_with arms t) refl typed h (f t)) refl
alt_back arms typed f c h = absurd h

pair_back : (l k : FormTree) → IsReadBack l → IsReadBack k → IsReadBack (form_then l k)
pair_back l k f g (then_comp a b) h = rw (f a h.0, g b h.1) refl
pair_back l k f g c h = absurd h

rec_back : (rows : RowTrees) → ((cs : CompTrees) → FitRows rows cs → row_complements rows (row_items rows cs) ≡ Some cs) → IsReadBack (form_rec rows)
rec_back rows f (rec_comp cs) h = rw (f cs h) refl
rec_back rows f c h = absurd h

mutual
  pub read_back : (l : FormTree) → is_typed l ≡ true → IsReadBack l
  read_back (form_id t) w c h = nothing_back c h
  read_back (form_bij ps n) w c h = nothing_back c h
  read_back (form_disc t u) w c h = nothing_back c h
  read_back (form_then l m) w c h =
      let typed = first (is_typed l && is_typed m) (is_same_ty (right_type l) (left_type m)) w in
      pair_back l m (read_back l (first (is_typed l) (is_typed m) typed)) (read_back m (second (is_typed l) (is_typed m) typed)) c h
  read_back (form_rec rows) w c h =
      rec_back rows (rows_back rows (first (are_typed_rows rows) (are_distinct (left_names rows) && are_distinct (right_names rows)) w)) c h
  read_back (form_alt arms) w c h =
      alt_back arms w (arms_back arms (first (are_typed_arms arms) (are_choices (left_arms arms) && are_choices (right_arms arms)) w)) c h
  read_back (form_each l) w c h = list_back l (read_back l w) c h
  read_back (form_keyed l) w c h = keyed_back l (read_back l w) c h
  read_back (form_ordered l) w c h = ordered_back l (read_back l w) c h
  read_back (form_part fs) w c h = part_back fs w c h
  read_back (form_inv l) w c h = read_back l w c h

  rows_back : (rows : RowTrees) → are_typed_rows rows ≡ true → (cs : CompTrees) → FitRows rows cs → row_complements rows (row_items rows cs) ≡ Some cs
  rows_back no_rows w no_comps h = refl
  rows_back no_rows w (more_comps c cs) h = absurd h
  rows_back (both a b l rows) w no_comps h = absurd h
  rows_back (both a b l rows) w (more_comps c cs) h =
      rw (read_back l (first (is_typed l) (are_typed_rows rows) w) c h.0, rows_back rows (second (is_typed l) (are_typed_rows rows) w) cs h.1) refl
  rows_back (only_left a t rows) w cs h = rows_back rows (second (is_well_formed t) (are_typed_rows rows) w) cs h
  rows_back (only_right b t rows) w cs h = rows_back rows (second (is_well_formed t) (are_typed_rows rows) w) cs h

  arms_back : (arms : ArmTrees) → are_typed_arms arms ≡ true → (t : List ℕ) (l : FormTree) → arm_with arms t ≡ Some l → IsReadBack l
  arms_back no_arms w t l e = cc
  arms_back (more_arms a b m arms) w t l e =
      found_step IsReadBack l m (arm_with arms t) (bytes_eq a t) e (read_back m (first (is_typed m) (are_typed_arms arms) w)) (λ r. arms_back arms (second (is_typed m) (are_typed_arms arms) w) t l r)
