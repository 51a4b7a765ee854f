-- A form is fit if and only if it has no misfit.
use Rattle.std.proofs.Common.{◌≡◌, ◌↔◌, ℕ, Bool, true, false, not, ◌&&◌, ◌||◌, cond, List, [], ◌∷◌, Option, Some, None, option_map, Result, Ok, Err, IfOk, refl, sym, ap, ◌∙◌}
use Rattle.std.specs.declared.alloc.AllocError.{AllocError}
use Rattle.texts.specs.Keys.{is_before, is_rising, has_name}
use Rattle.texts.proofs.Conjunction.{both, first as left, second as right}
use Rattle.doc_values.specs.Types.{are_distinct}
use Rattle.file_forms.specs.declared.literal.Literal.{Literal}
use Rattle.file_forms.specs.Forms.{FileFormTree, as_literal, as_truths, as_words, as_object, as_tagged, as_bare, as_items, as_map, FormFields, no_forms, more_forms, form_names, word_names, word_literals}
use Rattle.file_forms.specs.Slots.{literal_slot, is_literal, is_any, meets_any, are_told_apart}
use Rattle.file_forms.specs.Fitting.{is_writable, are_writable, are_unlike, is_fit, are_fit}
use Rattle.file_forms.specs.Misfits.{misfit_view, inside, at_field, first_of, not_after, out_of_order, tag_twice, same_slot, member_twice, same_literal, not_writable, literal_misfit, truths_misfit, words_misfit, first_misfit, part_misfit}
use Rattle.file_forms.specs.declared.misfit.FormMisfit.{FormMisfit}
use Rattle.file_forms.specs.declared.misfit.FormFault.TheVariants.{FieldOrder, TagTwice, SameSlot, NotANumber, MemberTwice, SameLiteral}
use Rattle.file_forms.specs.declared.misfit.FormStep.TheVariants.{Named, Inside}

-- ---- options

map_none : {X Y : Type 0} (f : X → Y) (o : Option X) → option_map f o ≡ None → o ≡ None
map_none f None h = refl
map_none f (Some x) h = cc

map_none_back : {X Y : Type 0} (f : X → Y) (o : Option X) → o ≡ None → option_map f o ≡ None
map_none_back f None h = refl
map_none_back f (Some x) h = cc

neither : {X : Type 0} (o p : Option X) → first_of o p ≡ None → (o ≡ None) × (p ≡ None)
neither None p h = (refl, h)
neither (Some x) p h = cc

neither_back : {X : Type 0} (o p : Option X) → o ≡ None → p ≡ None → first_of o p ≡ None
neither_back None p h k = k
neither_back (Some x) p h k = cc

cond_none : {X : Type 0} (b : Bool) (o : Option X) (x : X) → cond b o (Some x) ≡ None → (b ≡ true) × (o ≡ None)
cond_none true o x h = (refl, h)
cond_none false o x h = cc

cond_some : {X : Type 0} (b : Bool) (o : Option X) (x : X) → cond b (Some x) o ≡ None → (not b ≡ true) × (o ≡ None)
cond_some true o x h = cc
cond_some false o x h = (refl, h)

cond_not : {X : Type 0} (b : Bool) (o p : Option X) → not b ≡ true → p ≡ None → cond b o p ≡ None
cond_not true o p h k = cc
cond_not false o p h k = k

-- ---- a form by itself

rises : (m : List ℕ) (fs : FormFields) → not_after m fs ≡ None → is_rising (m ∷ form_names fs) ≡ true
rises m no_forms h = refl
rises m (more_forms n f fs) h =
    let p = cond_none (is_before m n) (not_after n fs) n h in
    both (is_before m n) (is_rising (n ∷ form_names fs)) p.0 (rises n fs p.1)

rises_back : (m : List ℕ) (fs : FormFields) → is_rising (m ∷ form_names fs) ≡ true → not_after m fs ≡ None
rises_back m no_forms h = refl
rises_back m (more_forms n f fs) h =
    ap (λ b. cond b (not_after n fs) (Some n)) (left (is_before m n) (is_rising (n ∷ form_names fs)) h)
    ∙ rises_back n fs (right (is_before m n) (is_rising (n ∷ form_names fs)) h)

in_order : (fs : FormFields) → out_of_order fs ≡ None → is_rising (form_names fs) ≡ true
in_order no_forms h = refl
in_order (more_forms n f fs) h = rises n fs h

in_order_back : (fs : FormFields) → is_rising (form_names fs) ≡ true → out_of_order fs ≡ None
in_order_back no_forms h = refl
in_order_back (more_forms n f fs) h = rises_back n fs h

distinct : (fs : FormFields) → tag_twice fs ≡ None → are_distinct (form_names fs) ≡ true
distinct no_forms h = refl
distinct (more_forms n f fs) h =
    let p = cond_some (has_name n (form_names fs)) (tag_twice fs) n h in
    both (not (has_name n (form_names fs))) (are_distinct (form_names fs)) p.0 (distinct fs p.1)

distinct_back : (fs : FormFields) → are_distinct (form_names fs) ≡ true → tag_twice fs ≡ None
distinct_back no_forms h = refl
distinct_back (more_forms n f fs) h =
    let b = has_name n (form_names fs) in
    cond_not b (Some n) (tag_twice fs) (left (not b) (are_distinct (form_names fs)) h) (distinct_back fs (right (not b) (are_distinct (form_names fs)) h))

apart : (fs : FormFields) → same_slot fs ≡ None → are_told_apart fs ≡ true
apart no_forms h = refl
apart (more_forms n f fs) h =
    let p = cond_some (meets_any f fs) (same_slot fs) n h in
    both (not (meets_any f fs)) (are_told_apart fs) p.0 (apart fs p.1)

apart_back : (fs : FormFields) → are_told_apart fs ≡ true → same_slot fs ≡ None
apart_back no_forms h = refl
apart_back (more_forms n f fs) h =
    let b = meets_any f fs in
    cond_not b (Some n) (same_slot fs) (left (not b) (are_told_apart fs) h) (apart_back fs (right (not b) (are_told_apart fs) h))

-- ---- literals

truths_fit : (f t : Literal) → truths_misfit f t ≡ None → (are_unlike (f ∷ t ∷ []) && are_writable (f ∷ t ∷ [])) ≡ true
truths_fit f t h =
    let p = cond_some (is_literal t (literal_slot f)) (literal_misfit (is_writable f && is_writable t)) _ h in
    let q = cond_none (is_writable f && is_writable t) None _ p.1 in
    both (are_unlike (f ∷ t ∷ [])) (are_writable (f ∷ t ∷ [])) (unlike_by (is_literal t (literal_slot f)) p.0) (writable_by (is_writable f) (is_writable t) q.0)
  where
    unlike_by : (b : Bool) → not b ≡ true → (not (b || false) && true) ≡ true
    unlike_by true h = cc
    unlike_by false h = refl

    writable_by : (a b : Bool) → (a && b) ≡ true → (a && (b && true)) ≡ true
    writable_by true true h = refl
    writable_by true false h = cc
    writable_by false b h = cc

truths_fit_back : (f t : Literal) → (are_unlike (f ∷ t ∷ []) && are_writable (f ∷ t ∷ [])) ≡ true → truths_misfit f t ≡ None
truths_fit_back f t h =
    cond_not (is_literal t (literal_slot f)) (Some ([], SameLiteral)) (literal_misfit (is_writable f && is_writable t))
    (apart_by (is_literal t (literal_slot f)) (left (are_unlike (f ∷ t ∷ [])) (are_writable (f ∷ t ∷ [])) h))
    (ap literal_misfit (writable_by (is_writable f) (is_writable t) (right (are_unlike (f ∷ t ∷ [])) (are_writable (f ∷ t ∷ [])) h)))
  where
    apart_by : (b : Bool) → (not (b || false) && true) ≡ true → not b ≡ true
    apart_by true h = cc
    apart_by false h = refl

    writable_by : (a b : Bool) → (a && (b && true)) ≡ true → (a && b) ≡ true
    writable_by true true h = refl
    writable_by true false h = cc
    writable_by false b h = cc

members_differ : (ws : List (List ℕ × Literal)) → member_twice ws ≡ None → are_distinct (word_names ws) ≡ true
members_differ [] h = refl
members_differ (w ∷ ws) h =
    let p = cond_some (has_name w.0 (word_names ws)) (member_twice ws) w.0 h in
    both (not (has_name w.0 (word_names ws))) (are_distinct (word_names ws)) p.0 (members_differ ws p.1)

members_differ_back : (ws : List (List ℕ × Literal)) → are_distinct (word_names ws) ≡ true → member_twice ws ≡ None
members_differ_back [] h = refl
members_differ_back (w ∷ ws) h =
    let b = has_name w.0 (word_names ws) in
    cond_not b (Some w.0) (member_twice ws) (left (not b) (are_distinct (word_names ws)) h) (members_differ_back ws (right (not b) (are_distinct (word_names ws)) h))

literals_differ : (ws : List (List ℕ × Literal)) → same_literal ws ≡ None → are_unlike (word_literals ws) ≡ true
literals_differ [] h = refl
literals_differ (w ∷ ws) h =
    let b = is_any (word_literals ws) (literal_slot w.1) in
    let p = cond_some b (same_literal ws) w.0 h in
    both (not b) (are_unlike (word_literals ws)) p.0 (literals_differ ws p.1)

literals_differ_back : (ws : List (List ℕ × Literal)) → are_unlike (word_literals ws) ≡ true → same_literal ws ≡ None
literals_differ_back [] h = refl
literals_differ_back (w ∷ ws) h =
    let b = is_any (word_literals ws) (literal_slot w.1) in
    cond_not b (Some w.0) (same_literal ws) (left (not b) (are_unlike (word_literals ws)) h) (literals_differ_back ws (right (not b) (are_unlike (word_literals ws)) h))

writable : (ws : List (List ℕ × Literal)) → not_writable ws ≡ None → are_writable (word_literals ws) ≡ true
writable [] h = refl
writable (w ∷ ws) h =
    let p = cond_none (is_writable w.1) (not_writable ws) w.0 h in
    both (is_writable w.1) (are_writable (word_literals ws)) p.0 (writable ws p.1)

writable_back : (ws : List (List ℕ × Literal)) → are_writable (word_literals ws) ≡ true → not_writable ws ≡ None
writable_back [] h = refl
writable_back (w ∷ ws) h =
    ap (λ b. cond b (not_writable ws) (Some w.0)) (left (is_writable w.1) (are_writable (word_literals ws)) h)
    ∙ writable_back ws (right (is_writable w.1) (are_writable (word_literals ws)) h)

words_fit : (ws : List (List ℕ × Literal)) → words_misfit ws ≡ None → (are_distinct (word_names ws) && (are_unlike (word_literals ws) && are_writable (word_literals ws))) ≡ true
words_fit ws h =
    let same = option_map (at_field SameLiteral) (same_literal ws) in
    let letters = option_map (at_field NotANumber) (not_writable ws) in
    let p = neither (option_map (at_field MemberTwice) (member_twice ws)) (first_of same letters) h in
    let q = neither same letters p.1 in
    both (are_distinct (word_names ws)) (are_unlike (word_literals ws) && are_writable (word_literals ws))
    (members_differ ws (map_none (at_field MemberTwice) (member_twice ws) p.0))
    (both (are_unlike (word_literals ws)) (are_writable (word_literals ws))
    (literals_differ ws (map_none (at_field SameLiteral) (same_literal ws) q.0)) (writable ws (map_none (at_field NotANumber) (not_writable ws) q.1)))

words_fit_back : (ws : List (List ℕ × Literal)) → (are_distinct (word_names ws) && (are_unlike (word_literals ws) && are_writable (word_literals ws))) ≡ true → words_misfit ws ≡ None
words_fit_back ws h =
    let same = option_map (at_field SameLiteral) (same_literal ws) in
    let letters = option_map (at_field NotANumber) (not_writable ws) in
    let literals = right (are_distinct (word_names ws)) (are_unlike (word_literals ws) && are_writable (word_literals ws)) h in
    neither_back (option_map (at_field MemberTwice) (member_twice ws)) (first_of same letters)
    (map_none_back (at_field MemberTwice) (member_twice ws)
    (members_differ_back ws (left (are_distinct (word_names ws)) (are_unlike (word_literals ws) && are_writable (word_literals ws)) h)))
    (neither_back same letters
    (map_none_back (at_field SameLiteral) (same_literal ws) (literals_differ_back ws (left (are_unlike (word_literals ws)) (are_writable (word_literals ws)) literals)))
    (map_none_back (at_field NotANumber) (not_writable ws) (writable_back ws (right (are_unlike (word_literals ws)) (are_writable (word_literals ws)) literals))))

-- ---- a form and its parts

mutual
  pub fits : (f : FileFormTree) → first_misfit f ≡ None → is_fit f ≡ true
  fits (as_literal l) h = (cond_none (is_writable l) None _ h).0
  fits (as_truths f t) h = truths_fit f t h
  fits (as_words ws n) h = words_fit ws h
  fits (as_object fs) h =
      let p = neither (option_map (at_field FieldOrder) (out_of_order fs)) (part_misfit fs) h in
      both (is_rising (form_names fs)) (are_fit fs) (in_order fs (map_none (at_field FieldOrder) (out_of_order fs) p.0)) (parts_fit fs p.1)
  fits (as_tagged fs) h =
      let p = neither (option_map (at_field TagTwice) (tag_twice fs)) (part_misfit fs) h in
      both (are_distinct (form_names fs)) (are_fit fs) (distinct fs (map_none (at_field TagTwice) (tag_twice fs) p.0)) (parts_fit fs p.1)
  fits (as_bare fs) h =
      let p = neither (first_of (option_map (at_field TagTwice) (tag_twice fs)) (option_map (at_field SameSlot) (same_slot fs))) (part_misfit fs) h in
      let q = neither (option_map (at_field TagTwice) (tag_twice fs)) (option_map (at_field SameSlot) (same_slot fs)) p.0 in
      both (are_distinct (form_names fs) && are_told_apart fs) (are_fit fs)
      (both (are_distinct (form_names fs)) (are_told_apart fs) (distinct fs (map_none (at_field TagTwice) (tag_twice fs) q.0)) (apart fs (map_none (at_field SameSlot) (same_slot fs) q.1)))
      (parts_fit fs p.1)
  fits (as_items f) h = fits f (map_none (inside Inside) (first_misfit f) h)
  fits (as_map f) h = fits f (map_none (inside Inside) (first_misfit f) h)
  fits f h = refl

  parts_fit : (fs : FormFields) → part_misfit fs ≡ None → are_fit fs ≡ true
  parts_fit no_forms h = refl
  parts_fit (more_forms n f fs) h =
      let p = neither (option_map (inside (Named n)) (first_misfit f)) (part_misfit fs) h in
      both (is_fit f) (are_fit fs) (fits f (map_none (inside (Named n)) (first_misfit f) p.0)) (parts_fit fs p.1)

mutual
  pub fits_back : (f : FileFormTree) → is_fit f ≡ true → first_misfit f ≡ None
  fits_back (as_literal l) h = ap literal_misfit h
  fits_back (as_truths f t) h = truths_fit_back f t h
  fits_back (as_words ws n) h = words_fit_back ws h
  fits_back (as_object fs) h =
      neither_back (option_map (at_field FieldOrder) (out_of_order fs)) (part_misfit fs)
      (map_none_back (at_field FieldOrder) (out_of_order fs) (in_order_back fs (left (is_rising (form_names fs)) (are_fit fs) h)))
      (parts_fit_back fs (right (is_rising (form_names fs)) (are_fit fs) h))
  fits_back (as_tagged fs) h =
      neither_back (option_map (at_field TagTwice) (tag_twice fs)) (part_misfit fs)
      (map_none_back (at_field TagTwice) (tag_twice fs) (distinct_back fs (left (are_distinct (form_names fs)) (are_fit fs) h)))
      (parts_fit_back fs (right (are_distinct (form_names fs)) (are_fit fs) h))
  fits_back (as_bare fs) h =
      let shape = left (are_distinct (form_names fs) && are_told_apart fs) (are_fit fs) h in
      neither_back (first_of (option_map (at_field TagTwice) (tag_twice fs)) (option_map (at_field SameSlot) (same_slot fs))) (part_misfit fs)
      (neither_back (option_map (at_field TagTwice) (tag_twice fs)) (option_map (at_field SameSlot) (same_slot fs))
      (map_none_back (at_field TagTwice) (tag_twice fs) (distinct_back fs (left (are_distinct (form_names fs)) (are_told_apart fs) shape)))
      (map_none_back (at_field SameSlot) (same_slot fs) (apart_back fs (right (are_distinct (form_names fs)) (are_told_apart fs) shape))))
      (parts_fit_back fs (right (are_distinct (form_names fs) && are_told_apart fs) (are_fit fs) h))
  fits_back (as_items f) h = map_none_back (inside Inside) (first_misfit f) (fits_back f h)
  fits_back (as_map f) h = map_none_back (inside Inside) (first_misfit f) (fits_back f h)
  fits_back f h = refl

  parts_fit_back : (fs : FormFields) → are_fit fs ≡ true → part_misfit fs ≡ None
  parts_fit_back no_forms h = refl
  parts_fit_back (more_forms n f fs) h =
      neither_back (option_map (inside (Named n)) (first_misfit f)) (part_misfit fs)
      (map_none_back (inside (Named n)) (first_misfit f) (fits_back f (left (is_fit f) (are_fit fs) h)))
      (parts_fit_back fs (right (is_fit f) (are_fit fs) h))

-- what a search for a misfit returns says whether the form is fit
fit_found : (m : Option FormMisfit) (f : FileFormTree) → option_map misfit_view m ≡ first_misfit f → (m ≡ None) ↔ (is_fit f ≡ true)
fit_found m f h = (λ none. fits f (sym h ∙ ap (option_map misfit_view) none), λ fit. map_none misfit_view m (h ∙ fits_back f fit))

pub fit_returned : (r : Result (Option FormMisfit) AllocError) (f : FileFormTree) → IfOk r (λ m. option_map misfit_view m ≡ first_misfit f) → IfOk r (λ m. (m ≡ None) ↔ (is_fit f ≡ true))
fit_returned (Ok m) f h = fit_found m f h
fit_returned (Err e) f h = tt
