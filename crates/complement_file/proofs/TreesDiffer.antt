-- Two complements of one lens never have the same tree.
use Rattle.std.proofs.Common.{◌≡◌, ℕ, zero, suc, ◌<◌, true, false, not, ◌&&◌, List, [], ◌∷◌, length, Option, Some, None, bytes_eq, refl, sym, ap, ap₂, subst, ◌∙◌, arith}
use Rattle.std.specs.Prelude.{nat_eq, nat_lt}
use Rattle.texts.specs.Keys.{is_rising, has_name}
use Rattle.texts.proofs.Conjunction.{first as left, second as right}
use Rattle.hold_shapes.specs.declared.shape.Shape.TheVariants.{List as ListOf, Keyed as KeyedOf, Tree as TreeOf}
use Rattle.tag_seq.specs.Tags.{are_below}
use Rattle.doc_values.specs.Types.{FieldTrees, no_fields, more_fields, names_of, are_distinct, are_choices, are_well_formed, is_well_formed, is_same_ty}
use Rattle.doc_values.proofs.DistinctNames.{are_choices-distinct}
use Rattle.value_json.specs.Numbers.{count_items}
use Rattle.value_json.specs.DocumentJson.{member_names}
use Rattle.value_json.proofs.TreesDiffer.{counts_apart}
use Rattle.lens_forms.specs.Forms.{FormTree, form_id, form_bij, form_disc, form_then, form_rec, form_alt, form_each, form_keyed, form_ordered, form_part, form_inv, RowTrees, no_rows, both, only_left, only_right, ArmTrees, no_arms, more_arms, right_type, left_type}
use Rattle.lens_forms.specs.Typing.{is_typed, are_typed_rows, are_typed_arms, left_names, right_names, left_arms, right_arms}
use Rattle.lens_core.specs.Tags.{tag_count, tag_name}
use Rattle.lens_core.specs.Complements.{CompTree, nil, then_comp, rec_comp, alt_comp, hold_comp, tags_comp, CompTrees, no_comps, more_comps, comp_count, IsNil, Fits, FitRows, FitsArm, AllFit}
use Rattle.lens_core.proofs.Tags.{tag_name-among}
use Rattle.complement_file.specs.ComplementJson.{tree_of_complement, row_items, tree_in_arm, arm_with, place_items, place_members, tag_items}
use Rattle.complement_file.specs.Reading.{member_contents}
use Rattle.complement_file.proofs.Arms.{found_step, arm_is_there, arm_fits, arm_tree_is}
use Rattle.complement_file.proofs.ReadPlaces.{names_again, contents_again}
use Rattle.std.proofs.lemmas.Bool.{not-true, eqb-true, ltb-true}

-- complements of the form with the same tree are the same
abbrev IsApart : FormTree → Type 0
IsApart l = (c d : CompTree) → Fits l c → Fits l d → tree_of_complement l c ≡ tree_of_complement l d → c ≡ d

nothing_apart : (c d : CompTree) → IsNil c → IsNil d → c ≡ d
nothing_apart nil nil h k = refl
nothing_apart nil d h k = absurd k
nothing_apart c d h k = absurd h

-- ---- places

places_apart : (l : FormTree) → IsApart l → (cs ds : CompTrees) → AllFit (Fits l) cs → AllFit (Fits l) ds → place_items (tree_of_complement l) cs ≡ place_items (tree_of_complement l) ds → cs ≡ ds
places_apart l apart no_comps no_comps h k q = refl
places_apart l apart no_comps (more_comps d ds) h k q = cc
places_apart l apart (more_comps c cs) no_comps h k q = cc
places_apart l apart (more_comps c cs) (more_comps d ds) h k q =
    let this : tree_of_complement l c ≡ tree_of_complement l d = cc in
    let rest : place_items (tree_of_complement l) cs ≡ place_items (tree_of_complement l) ds = cc in
    ap₂ more_comps (apart c d h.0 k.0 this) (places_apart l apart cs ds h.1 k.1 rest)

list_apart : (l : FormTree) → IsApart l → (m n : ℕ) (cs ds : CompTrees) → nat_eq m (comp_count cs) ≡ true → nat_eq n (comp_count ds) ≡ true → AllFit (Fits l) cs → AllFit (Fits l) ds
    → place_items (tree_of_complement l) cs ≡ place_items (tree_of_complement l) ds → hold_comp (ListOf (record { count = m })) cs ≡ hold_comp (ListOf (record { count = n })) ds
list_apart l apart m n cs ds a b h k q =
    let same = places_apart l apart cs ds h k q in
    let many : m ≡ n = eqb-true m (comp_count cs) a ∙ ap comp_count same ∙ sym (eqb-true n (comp_count ds) b) in
    ap₂ (λ c xs. hold_comp (ListOf (record { count = c })) xs) many same

keyed_apart : (l : FormTree) → IsApart l → (js ks : List (List ℕ)) (cs ds : CompTrees) → (is_rising js && nat_eq (length js) (comp_count cs)) ≡ true → (is_rising ks && nat_eq (length ks) (comp_count ds)) ≡ true
    → AllFit (Fits l) cs → AllFit (Fits l) ds → place_members (tree_of_complement l) js cs ≡ place_members (tree_of_complement l) ks ds → hold_comp (KeyedOf js) cs ≡ hold_comp (KeyedOf ks) ds
keyed_apart l apart js ks cs ds a b h k q =
    let tree = tree_of_complement l in
    let m = eqb-true (length js) (comp_count cs) (right (is_rising js) (nat_eq (length js) (comp_count cs)) a) in
    let n = eqb-true (length ks) (comp_count ds) (right (is_rising ks) (nat_eq (length ks) (comp_count ds)) b) in
    let names : js ≡ ks = sym (names_again tree js cs m) ∙ ap member_names q ∙ names_again tree ks ds n in
    let items : place_items tree cs ≡ place_items tree ds = sym (contents_again tree js cs m) ∙ ap member_contents q ∙ contents_again tree ks ds n in
    ap₂ (λ x y. hold_comp (KeyedOf x) y) names (places_apart l apart cs ds h k items)

-- ---- tags

not_among : (n : List ℕ) (fs : FieldTrees) (k : ℕ) → has_name n (names_of fs) ≡ false → k < tag_count fs → n ≡ tag_name fs k → ⊥
not_among n fs k none h is = let some : has_name n (names_of fs) ≡ true = subst (λ z. has_name z (names_of fs) ≡ true) (sym is) (tag_name-among fs k h) in cc

number_apart : (fs : FieldTrees) (j k : ℕ) → are_distinct (names_of fs) ≡ true → j < tag_count fs → k < tag_count fs → tag_name fs j ≡ tag_name fs k → j ≡ k
number_apart no_fields j k d h i q = absurd (omega arith)
number_apart (more_fields n t fs) zero zero d h i q = refl
number_apart (more_fields n t fs) zero (suc k) d h i q =
    absurd (not_among n fs k (not-true (has_name n (names_of fs)) (left (not (has_name n (names_of fs))) (are_distinct (names_of fs)) d)) (omega arith) q)
number_apart (more_fields n t fs) (suc j) zero d h i q =
    absurd (not_among n fs j (not-true (has_name n (names_of fs)) (left (not (has_name n (names_of fs))) (are_distinct (names_of fs)) d)) (omega arith) (sym q))
number_apart (more_fields n t fs) (suc j) (suc k) d h i q =
    ap suc (number_apart fs j k (right (not (has_name n (names_of fs))) (are_distinct (names_of fs)) d) (omega arith) (omega arith) q)

tags_apart : (fs : FieldTrees) (js ks : List ℕ) → are_distinct (names_of fs) ≡ true → are_below (tag_count fs) js ≡ true → are_below (tag_count fs) ks ≡ true → tag_items fs js ≡ tag_items fs ks → js ≡ ks
tags_apart fs [] [] d h i q = refl
tags_apart fs [] (k ∷ ks) d h i q = cc
tags_apart fs (j ∷ js) [] d h i q = cc
tags_apart fs (j ∷ js) (k ∷ ks) d h i q =
    let this : tag_name fs j ≡ tag_name fs k = cc in
    let rest : tag_items fs js ≡ tag_items fs ks = cc in
    ap₂ (λ x xs. x ∷ xs)
    (number_apart fs j k d (ltb-true j (tag_count fs) (left (nat_lt j (tag_count fs)) (are_below (tag_count fs) js) h)) (ltb-true k (tag_count fs) (left (nat_lt k (tag_count fs)) (are_below (tag_count fs) ks) i)) this)
    (tags_apart fs js ks d (right (nat_lt j (tag_count fs)) (are_below (tag_count fs) js) h) (right (nat_lt k (tag_count fs)) (are_below (tag_count fs) ks) i) rest)

-- ---- alternatives

in_arm : (arms : ArmTrees) (s : List ℕ) (c d : CompTree) (o : Option FormTree) → arm_with arms s ≡ o → is_typed (form_alt arms) ≡ true → FitsArm arms s c → FitsArm arms s d → tree_in_arm arms s c ≡ tree_in_arm arms s d
    → ((l : FormTree) → arm_with arms s ≡ Some l → IsApart l) → c ≡ d
in_arm arms s c d None found typed h k q apart = absurd (arm_is_there arms s c h found)
in_arm arms s c d (Some l) found typed h k q apart =
    apart l found c d (arm_fits arms s c l typed h found) (arm_fits arms s d l typed k found) (sym (arm_tree_is s arms l c found) ∙ q ∙ arm_tree_is s arms l d found)

alt_apart : (arms : ArmTrees) (s t : List ℕ) (c d : CompTree) → s ≡ t → is_typed (form_alt arms) ≡ true → FitsArm arms s c → FitsArm arms t d → tree_in_arm arms s c ≡ tree_in_arm arms t d
    → ((r : List ℕ) (l : FormTree) → arm_with arms r ≡ Some l → IsApart l) → alt_comp s c ≡ alt_comp t d
alt_apart arms s t c d tag typed h k q apart =
    let fits = subst (λ r. FitsArm arms r d) (sym tag) k in
    let same = subst (λ r. tree_in_arm arms s c ≡ tree_in_arm arms r d) (sym tag) q in
    ap₂ alt_comp tag (in_arm arms s c d (arm_with arms s) refl typed h fits same (apart s))

-- ---- complements

mutual
  pub apart : (l : FormTree) → is_typed l ≡ true → (c d : CompTree) → Fits l c → Fits l d → tree_of_complement l c ≡ tree_of_complement l d → c ≡ d
  apart (form_id t) w c d h k q = nothing_apart c d h k
  apart (form_bij ps n) w c d h k q = nothing_apart c d h k
  apart (form_disc t u) w c d h k q = nothing_apart c d h k
  apart (form_then l m) w (then_comp a b) (then_comp c d) h k q =
      let this : tree_of_complement l a ≡ tree_of_complement l c = cc in
      let other : tree_of_complement m b ≡ tree_of_complement m d = cc in
      let typed = left (is_typed l && is_typed m) (is_same_ty (right_type l) (left_type m)) w in
      ap₂ then_comp (apart l (left (is_typed l) (is_typed m) typed) a c h.0 k.0 this) (apart m (right (is_typed l) (is_typed m) typed) b d h.1 k.1 other)
  apart (form_then l m) w (then_comp a b) d h k q = absurd k
  apart (form_then l m) w c d h k q = absurd h
  apart (form_rec rows) w (rec_comp cs) (rec_comp ds) h k q =
      let same : row_items rows cs ≡ row_items rows ds = cc in
      ap rec_comp (rows_apart rows (left (are_typed_rows rows) (are_distinct (left_names rows) && are_distinct (right_names rows)) w) cs ds h k same)
  apart (form_rec rows) w (rec_comp cs) d h k q = absurd k
  apart (form_rec rows) w c d h k q = absurd h
  apart (form_alt arms) w (alt_comp s c) (alt_comp t d) h k q =
      let tag : s ≡ t = cc in
      let same : tree_in_arm arms s c ≡ tree_in_arm arms t d = cc in
      alt_apart arms s t c d tag w h k same (arms_apart arms (left (are_typed_arms arms) (are_choices (left_arms arms) && are_choices (right_arms arms)) w))
  apart (form_alt arms) w (alt_comp s c) d h k q = absurd k
  apart (form_alt arms) w c d h k q = absurd h
  apart (form_each l) w (hold_comp (ListOf r) cs) (hold_comp (ListOf s) ds) h k q =
      let same : place_items (tree_of_complement l) cs ≡ place_items (tree_of_complement l) ds = cc in
      list_apart l (apart l w) r.count s.count cs ds h.0 k.0 h.1 k.1 same
  apart (form_each l) w (hold_comp (ListOf r) cs) (hold_comp s ds) h k q = let bad : false ≡ true = k.0 in cc
  apart (form_each l) w (hold_comp r cs) (hold_comp s ds) h k q = let bad : false ≡ true = h.0 in cc
  apart (form_each l) w (hold_comp r cs) d h k q = absurd k
  apart (form_each l) w c d h k q = absurd h
  apart (form_keyed l) w (hold_comp (KeyedOf r) cs) (hold_comp (KeyedOf s) ds) h k q =
      let same : place_members (tree_of_complement l) r cs ≡ place_members (tree_of_complement l) s ds = cc in
      keyed_apart l (apart l w) r s cs ds h.0 k.0 h.1 k.1 same
  apart (form_keyed l) w (hold_comp (KeyedOf r) cs) (hold_comp s ds) h k q = let bad : false ≡ true = k.0 in cc
  apart (form_keyed l) w (hold_comp r cs) (hold_comp s ds) h k q = let bad : false ≡ true = h.0 in cc
  apart (form_keyed l) w (hold_comp r cs) d h k q = absurd k
  apart (form_keyed l) w c d h k q = absurd h
  apart (form_ordered l) w (hold_comp (TreeOf r) cs) (hold_comp (TreeOf s) ds) h k q =
      let numbers : count_items r ≡ count_items s = cc in
      let same : place_items (tree_of_complement l) cs ≡ place_items (tree_of_complement l) ds = cc in
      ap₂ (λ x y. hold_comp (TreeOf x) y) (counts_apart r s numbers) (places_apart l (apart l w) cs ds h.1 k.1 same)
  apart (form_ordered l) w (hold_comp (TreeOf r) cs) (hold_comp s ds) h k q = let bad : false ≡ true = k.0 in cc
  apart (form_ordered l) w (hold_comp r cs) (hold_comp s ds) h k q = let bad : false ≡ true = h.0 in cc
  apart (form_ordered l) w (hold_comp r cs) d h k q = absurd k
  apart (form_ordered l) w c d h k q = absurd h
  apart (form_part fs) w (tags_comp r) (tags_comp s) h k q =
      let same : tag_items fs r ≡ tag_items fs s = cc in
      ap tags_comp (tags_apart fs r s (are_choices-distinct (names_of fs) (left (are_choices (names_of fs)) (are_well_formed fs) w)) h k same)
  apart (form_part fs) w (tags_comp r) d h k q = absurd k
  apart (form_part fs) w c d h k q = absurd h
  apart (form_inv l) w c d h k q = apart l w c d h k q

  rows_apart : (rows : RowTrees) → are_typed_rows rows ≡ true → (cs ds : CompTrees) → FitRows rows cs → FitRows rows ds → row_items rows cs ≡ row_items rows ds → cs ≡ ds
  rows_apart no_rows w no_comps no_comps h k q = refl
  rows_apart no_rows w no_comps (more_comps d ds) h k q = absurd k
  rows_apart no_rows w (more_comps c cs) ds h k q = absurd h
  rows_apart (both a b l rows) w (more_comps c cs) (more_comps d ds) h k q =
      let this : tree_of_complement l c ≡ tree_of_complement l d = cc in
      let rest : row_items rows cs ≡ row_items rows ds = cc in
      ap₂ more_comps (apart l (left (is_typed l) (are_typed_rows rows) w) c d h.0 k.0 this) (rows_apart rows (right (is_typed l) (are_typed_rows rows) w) cs ds h.1 k.1 rest)
  rows_apart (both a b l rows) w (more_comps c cs) no_comps h k q = absurd k
  rows_apart (both a b l rows) w no_comps ds h k q = absurd h
  rows_apart (only_left a t rows) w cs ds h k q = rows_apart rows (right (is_well_formed t) (are_typed_rows rows) w) cs ds h k q
  rows_apart (only_right b t rows) w cs ds h k q = rows_apart rows (right (is_well_formed t) (are_typed_rows rows) w) cs ds h k q

  arms_apart : (arms : ArmTrees) → are_typed_arms arms ≡ true → (s : List ℕ) (l : FormTree) → arm_with arms s ≡ Some l → IsApart l
  arms_apart no_arms w s l e = cc
  arms_apart (more_arms a b m arms) w s l e =
      found_step IsApart l m (arm_with arms s) (bytes_eq a s) e (apart m (left (is_typed m) (are_typed_arms arms) w)) (λ r. arms_apart arms (right (is_typed m) (are_typed_arms arms) w) s l r)
