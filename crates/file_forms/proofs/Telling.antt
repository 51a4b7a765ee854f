-- Which slots a form takes: what it writes, and of forms that are told apart one alone.
use Rattle.std.proofs.Common.{◌≡◌, ℕ, Bool, true, false, not, ◌||◌, bytes_eq, List, [], ◌∷◌, Option, Some, None, option_map, refl, sym, subst, ap, ◌∙◌}
use Rattle.std.specs.Prelude.{nat_eq}
use Rattle.std.specs.Option.{option_flatten}
use Rattle.std.proofs.lemmas.Bool.{eqb-true, eq-eqb}
use Rattle.json.specs.Json.{Json, null, boolean, number, string, array, object, Items, Members}
use Rattle.texts.specs.Keys.{has_name, is_rising}
use Rattle.texts.proofs.KeyOrder.{bytes_eq-refl}
use Rattle.texts.proofs.Tests.{bytes_eq-is_back, or_second}
use Rattle.hold_shapes.specs.declared.shape.Shape.TheVariants.{List as ListOf, Keyed as KeyedOf}
use Rattle.doc_values.specs.Documents.{DocTree, unit, truth, int, text, pick, rec, alt, hold, doc_list}
use Rattle.doc_values.specs.Integers.{fits_i64}
use Rattle.std.specs.Fmt.{signed_decimal}
use Rattle.std.proofs.Common.{length}
use Rattle.file_forms.specs.declared.literal.Literal.{Literal}
use Rattle.file_forms.specs.declared.literal.Literal.TheVariants.{Gone, Null, Bool as Truth, Number, Text}
use Rattle.file_forms.specs.Forms.{FileFormTree, as_literal, as_bool, as_truths, as_int, as_text, as_enum, as_words, as_number, as_object, as_tagged, as_bare, as_items, as_map, FormFields, no_forms, more_forms, word_literals}
use Rattle.file_forms.specs.Orders.{sorted, sorted_items, sorted_members}
use Rattle.file_forms.specs.Slots.{literal_slot, is_literal, is_any, sort_of, sort_number, same_sort, Sign, exactly, any_of, has_sign, sign, takes, any_takes, clash, sign_meets, sign_meets_literals, sign_meets_any, meets_any, some_meets_any, some_literal_meets}
use Rattle.file_forms.specs.Numbers.{is_number}
use Rattle.file_forms.specs.FileValues.{truth_literal, word_slot, array_slot, object_slot, tagged_slot, items_written, members_written, write, write_fields, write_tag}
use Rattle.file_forms.proofs.Facts.{some_is, map_some, if_some, if_then, choice_or, either, refuted, not_both}

-- ---- literals

pub literal-refl : (l : Literal) → is_literal l (literal_slot l) ≡ true
literal-refl Gone = refl
literal-refl Null = refl
literal-refl (Truth true) = refl
literal-refl (Truth false) = refl
literal-refl (Number s) = bytes_eq-refl s
literal-refl (Text s) = bytes_eq-refl s

pub literal-is : (l : Literal) (s : Option Json) → is_literal l s ≡ true → s ≡ literal_slot l
literal-is Gone None h = refl
literal-is Null (Some null) h = refl
literal-is (Truth true) (Some (boolean b)) h = ap (λ x. Some (boolean x)) h
literal-is (Truth false) (Some (boolean true)) h = cc
literal-is (Truth false) (Some (boolean false)) h = refl
literal-is (Number r) (Some (number s)) h = ap (λ x. Some (number x)) (bytes_eq-is_back r s h)
literal-is (Text r) (Some (string s)) h = ap (λ x. Some (string x)) (bytes_eq-is_back r s h)
literal-is l s h = cc

pub sorted_literal : (l : Literal) → option_map sorted (literal_slot l) ≡ literal_slot l
sorted_literal Gone = refl
sorted_literal Null = refl
sorted_literal (Truth b) = refl
sorted_literal (Number s) = refl
sorted_literal (Text s) = refl

literal-array : (l : Literal) (js : Items) → is_literal l (Some (array js)) ≡ false
literal-array Gone js = refl
literal-array Null js = refl
literal-array (Truth true) js = refl
literal-array (Truth false) js = refl
literal-array (Number s) js = refl
literal-array (Text s) js = refl

literal-object : (l : Literal) (ms : Members) → is_literal l (Some (object ms)) ≡ false
literal-object Gone ms = refl
literal-object Null ms = refl
literal-object (Truth true) ms = refl
literal-object (Truth false) ms = refl
literal-object (Number s) ms = refl
literal-object (Text s) ms = refl

-- ---- signs

clash-shown : (g h : Sign) (s : Option Json) → has_sign g s ≡ true → has_sign h s ≡ true → clash g h ≡ true
clash-shown (exactly l) (exactly m) s a b = subst (λ x. is_literal l x ≡ true) (literal-is m s b) a
clash-shown (exactly l) (any_of t) s a b = subst (λ x. same_sort t (sort_of x) ≡ true) (literal-is l s a) b
clash-shown (any_of t) (exactly m) s a b = subst (λ x. same_sort t (sort_of x) ≡ true) (literal-is m s b) a
clash-shown (any_of t) (any_of u) s a b =
    eq-eqb (sort_number t) (sort_number u) (eqb-true (sort_number t) (sort_number (sort_of s)) a ∙ sym (eqb-true (sort_number u) (sort_number (sort_of s)) b))

sign-meets-literals : (g : Sign) (ls : List Literal) (s : Option Json) → has_sign g s ≡ true → is_any ls s ≡ true → sign_meets_literals g ls ≡ true
sign-meets-literals g [] s a b = cc
sign-meets-literals g (l ∷ ls) s a b =
    either (is_literal l s) (is_any ls s) (clash g (exactly l)) (sign_meets_literals g ls) b
    (λ h. clash-shown g (exactly l) s a h) (λ h. sign-meets-literals g ls s a h)

mutual
  sign-meets : (g : Sign) (f : FileFormTree) (s : Option Json) → has_sign g s ≡ true → takes f s ≡ true → sign_meets g f ≡ true
  sign-meets g (as_truths f t) s a b = sign-meets-literals g (f ∷ t ∷ []) s a b
  sign-meets g (as_words ws n) s a b = sign-meets-literals g (word_literals ws) s a b
  sign-meets g (as_bare fs) s a b = sign-meets-any g fs s a b
  sign-meets g f s a b = clash-shown g (sign f) s a b

  sign-meets-any : (g : Sign) (fs : FormFields) (s : Option Json) → has_sign g s ≡ true → any_takes fs s ≡ true → sign_meets_any g fs ≡ true
  sign-meets-any g no_forms s a b = cc
  sign-meets-any g (more_forms n f fs) s a b =
      either (takes f s) (any_takes fs s) (sign_meets g f) (sign_meets_any g fs) b (λ h. sign-meets g f s a h) (λ h. sign-meets-any g fs s a h)

some-literal-meets : (ls : List Literal) (fs : FormFields) (s : Option Json) → is_any ls s ≡ true → any_takes fs s ≡ true → some_literal_meets ls fs ≡ true
some-literal-meets [] fs s a b = cc
some-literal-meets (l ∷ ls) fs s a b =
    either (is_literal l s) (is_any ls s) (sign_meets_any (exactly l) fs) (some_literal_meets ls fs) a
    (λ h. sign-meets-any (exactly l) fs s h b) (λ h. some-literal-meets ls fs s h b)

mutual
  meets-any : (f : FileFormTree) (fs : FormFields) (s : Option Json) → takes f s ≡ true → any_takes fs s ≡ true → meets_any f fs ≡ true
  meets-any (as_truths f t) fs s a b = some-literal-meets (f ∷ t ∷ []) fs s a b
  meets-any (as_words ws n) fs s a b = some-literal-meets (word_literals ws) fs s a b
  meets-any (as_bare gs) fs s a b = some-meets-any gs fs s a b
  meets-any f fs s a b = sign-meets-any (sign f) fs s a b

  some-meets-any : (gs fs : FormFields) (s : Option Json) → any_takes gs s ≡ true → any_takes fs s ≡ true → some_meets_any gs fs ≡ true
  some-meets-any no_forms fs s a b = cc
  some-meets-any (more_forms n g gs) fs s a b =
      either (takes g s) (any_takes gs s) (meets_any g fs) (some_meets_any gs fs) a (λ h. meets-any g fs s h b) (λ h. some-meets-any gs fs s h b)

-- a slot that one of the forms takes is not taken by a form told apart from them
pub taken_once : (f : FileFormTree) (fs : FormFields) (s : Option Json) → not (meets_any f fs) ≡ true → any_takes fs s ≡ true → takes f s ≡ false
taken_once f fs s apart taken = refuted (takes f s) (λ h. not_both (meets_any f fs) apart (meets-any f fs s h taken))

-- ---- what is written is taken

truth-takes : (f t : Literal) (b : Bool) → is_any (f ∷ t ∷ []) (literal_slot (truth_literal f t b)) ≡ true
truth-takes f t false = ap (λ b. b || is_any (t ∷ []) (literal_slot f)) (literal-refl f)
truth-takes f t true = or_second (is_literal f (literal_slot t)) (is_any (t ∷ []) (literal_slot t)) (ap (λ b. b || false) (literal-refl t))

pub word-takes : (ws : List (List ℕ × Literal)) (n : List ℕ) (s : Option Json) → word_slot ws n ≡ Some s → is_any (word_literals ws) s ≡ true
word-takes [] n s h = cc
word-takes (w ∷ ws) n s h =
    choice_or (bytes_eq w.0 n) (Some (literal_slot w.1)) (word_slot ws n) (Some s) (is_literal w.1 s) (is_any (word_literals ws) s)
    (λ e. subst (λ x. is_literal w.1 x ≡ true) (some_is _ _ e) (literal-refl w.1)) (λ e. word-takes ws n s e) h

mutual
  pub write-takes : (f : FileFormTree) (d : DocTree) (s : Option Json) → write f d ≡ Some s → takes f s ≡ true
  write-takes (as_literal l) unit s h = subst (λ x. takes (as_literal l) x ≡ true) (some_is _ _ h) (literal-refl l)
  write-takes as_bool (truth b) s h = subst (λ x. takes as_bool x ≡ true) (some_is _ _ h) refl
  write-takes (as_truths f t) (truth b) s h = subst (λ x. takes (as_truths f t) x ≡ true) (some_is _ _ h) (truth-takes f t b)
  write-takes (as_int i) (int z) s h = subst (λ x. takes (as_int i) x ≡ true) (if_some (fits_i64 z) (Some (number (signed_decimal z))) s h).1 refl
  write-takes (as_text i) (text t) s h = subst (λ x. takes (as_text i) x ≡ true) (some_is _ _ h) refl
  write-takes (as_enum ms i) (pick n) s h = subst (λ x. takes (as_enum ms i) x ≡ true) (if_some (has_name n ms) (Some (string n)) s h).1 refl
  write-takes (as_words ws i) (pick n) s h = word-takes ws n s h
  write-takes (as_number i) (text t) s h = subst (λ x. takes (as_number i) x ≡ true) (if_some (is_number t) (Some (number t)) s h).1 refl
  write-takes (as_object fs) (rec ds) s h = subst (λ x. takes (as_object fs) x ≡ true) (map_some object_slot (write_fields fs ds) s h).2 refl
  write-takes (as_tagged fs) (alt n d) s h = subst (λ x. takes (as_tagged fs) x ≡ true) (map_some (tagged_slot n) (option_flatten (write_tag fs n d)) s h).2 refl
  write-takes (as_bare fs) (alt n d) s h = tag-takes fs n d s h
  write-takes (as_items f) (hold (ListOf c) ds) s h =
      let p = if_then (nat_eq c.count (length (doc_list ds))) (option_map array_slot (items_written (write f) ds)) s h in
      subst (λ x. takes (as_items f) x ≡ true) (map_some array_slot (items_written (write f) ds) s p.1).2 refl
  write-takes (as_map f) (hold (KeyedOf ks) ds) s h =
      let p = if_then (is_rising ks) (option_map object_slot (members_written (write f) ks ds)) s h in
      subst (λ x. takes (as_map f) x ≡ true) (map_some object_slot (members_written (write f) ks ds) s p.1).2 refl
  write-takes f d s h = cc

  pub tag-takes : (fs : FormFields) (n : List ℕ) (d : DocTree) (s : Option Json) → write_tag fs n d ≡ Some s → any_takes fs s ≡ true
  tag-takes no_forms n d s h = cc
  tag-takes (more_forms m f fs) n d s h =
      choice_or (bytes_eq m n) (write f d) (write_tag fs n d) (Some s) (takes f s) (any_takes fs s) (λ e. write-takes f d s e) (λ e. tag-takes fs n d s e) h

-- ---- a slot and the sorted one are taken alike

pub tree_alike : {X : Type 0} (g : Option Json → X) → ((js : Items) → g (Some (array js)) ≡ g (Some (array (sorted_items js))))
    → ((ms : Members) → g (Some (object ms)) ≡ g (Some (object (sorted_members ms)))) → (s : Option Json) → g s ≡ g (option_map sorted s)
tree_alike g a o None = refl
tree_alike g a o (Some null) = refl
tree_alike g a o (Some (boolean b)) = refl
tree_alike g a o (Some (number t)) = refl
tree_alike g a o (Some (string t)) = refl
tree_alike g a o (Some (array js)) = a js
tree_alike g a o (Some (object ms)) = o ms

pub literal_alike : (l : Literal) (s : Option Json) → is_literal l s ≡ is_literal l (option_map sorted s)
literal_alike l s =
    tree_alike (is_literal l) (λ js. literal-array l js ∙ sym (literal-array l (sorted_items js))) (λ ms. literal-object l ms ∙ sym (literal-object l (sorted_members ms))) s

sign_alike : (g : Sign) (s : Option Json) → has_sign g s ≡ has_sign g (option_map sorted s)
sign_alike (exactly l) s = literal_alike l s
sign_alike (any_of t) s = ap (same_sort t) (tree_alike sort_of (λ js. refl) (λ ms. refl) s)

pub any_literal_alike : (ls : List Literal) (s : Option Json) → is_any ls s ≡ is_any ls (option_map sorted s)
any_literal_alike [] s = refl
any_literal_alike (l ∷ ls) s =
    ap (λ b. b || is_any ls s) (literal_alike l s) ∙ ap (λ b. is_literal l (option_map sorted s) || b) (any_literal_alike ls s)

mutual
  pub takes_alike : (f : FileFormTree) (s : Option Json) → takes f s ≡ takes f (option_map sorted s)
  takes_alike (as_truths f t) s = any_literal_alike (f ∷ t ∷ []) s
  takes_alike (as_words ws n) s = any_literal_alike (word_literals ws) s
  takes_alike (as_bare fs) s = any_alike fs s
  takes_alike f s = sign_alike (sign f) s

  any_alike : (fs : FormFields) (s : Option Json) → any_takes fs s ≡ any_takes fs (option_map sorted s)
  any_alike no_forms s = refl
  any_alike (more_forms n f fs) s =
      ap (λ b. b || any_takes fs s) (takes_alike f s) ∙ ap (λ b. takes f (option_map sorted s) || b) (any_alike fs s)
