-- The literals of members and of truth values: what is written is read, and what is read is written.
use Rattle.std.proofs.Common.{◌≡◌, ℕ, Bool, true, false, not, ◌&&◌, ◌||◌, cond, bytes_eq, List, [], ◌∷◌, Option, Some, None, option_map, refl, sym, subst, ap, ap₂, ◌∙◌}
use Rattle.json.specs.Json.{Json}
use Rattle.texts.specs.Keys.{has_name}
use Rattle.texts.proofs.Conjunction.{first as left, second as right}
use Rattle.texts.proofs.KeyOrder.{bytes_eq-refl}
use Rattle.texts.proofs.Tests.{bytes_eq-is, or_second}
use Rattle.doc_values.specs.Types.{are_distinct}
use Rattle.file_forms.specs.declared.literal.Literal.{Literal}
use Rattle.file_forms.specs.Forms.{word_names, word_literals}
use Rattle.file_forms.specs.Orders.{sorted}
use Rattle.file_forms.specs.Slots.{literal_slot, is_literal, is_any}
use Rattle.file_forms.specs.Fitting.{are_unlike}
use Rattle.file_forms.specs.FileValues.{truth_of, truth_literal, word_of, word_slot}
use Rattle.file_forms.proofs.Facts.{some_is, choice, choice_or, refuted, not_both}
use Rattle.file_forms.proofs.Telling.{literal-refl, literal-is, sorted_literal, literal_alike, word-takes}

-- ---- truth values

pub truth_again : (f t : Literal) (b : Bool) → are_unlike (f ∷ t ∷ []) ≡ true → truth_of f t (literal_slot (truth_literal f t b)) ≡ Some b
truth_again f t false k = ap (λ b. cond b (Some false) (cond (is_literal t (literal_slot f)) (Some true) None)) (literal-refl f)
truth_again f t true k =
    let apart = left (not (is_any (t ∷ []) (literal_slot f))) true k in
    let differ = refuted (is_literal f (literal_slot t)) (λ e. not_both (is_any (t ∷ []) (literal_slot f)) apart
    (ap (is_any (t ∷ [])) (sym (literal-is f (literal_slot t) e)) ∙ ap (λ b. b || false) (literal-refl t))) in
    ap (λ b. cond b (Some false) (cond (is_literal t (literal_slot t)) (Some true) None)) differ
    ∙ ap (λ b. cond b (Some true) None) (literal-refl t)

pub truth_found : (f t : Literal) (s : Option Json) (b : Bool) → truth_of f t s ≡ Some b → literal_slot (truth_literal f t b) ≡ option_map sorted s
truth_found f t s b h = by_first (is_literal f s) (is_literal t s) refl refl h
  where
    is : (l : Literal) → is_literal l s ≡ true → literal_slot l ≡ option_map sorted s
    is l e = sym (ap (option_map sorted) (literal-is l s e) ∙ sorted_literal l)

    by_first : (p q : Bool) → is_literal f s ≡ p → is_literal t s ≡ q → cond p (Some false) (cond q (Some true) None) ≡ Some b → literal_slot (truth_literal f t b) ≡ option_map sorted s
    by_first true q e g h = subst (λ x. literal_slot (truth_literal f t x) ≡ option_map sorted s) (some_is false b h) (is f e)
    by_first false true e g h = subst (λ x. literal_slot (truth_literal f t x) ≡ option_map sorted s) (some_is true b h) (is t g)
    by_first false false e g h = cc

pub truth_alike : (f t : Literal) (s : Option Json) → truth_of f t s ≡ truth_of f t (option_map sorted s)
truth_alike f t s = ap₂ (λ a b. cond a (Some false) (cond b (Some true) None)) (literal_alike f s) (literal_alike t s)

-- ---- members

-- a slot that is none of the literals is not the first one's
unlike : (l : Literal) (ls : List Literal) (s : Option Json) → not (is_any ls (literal_slot l)) ≡ true → is_any ls s ≡ true → is_literal l s ≡ false
unlike l ls s apart any =
    refuted (is_literal l s) (λ e. not_both (is_any ls (literal_slot l)) apart (ap (is_any ls) (sym (literal-is l s e)) ∙ any))

pub word_again : (ws : List (List ℕ × Literal)) (n : List ℕ) (s : Option Json) → are_unlike (word_literals ws) ≡ true → word_slot ws n ≡ Some s → word_of ws s ≡ Some n
word_again [] n s k h = cc
word_again (w ∷ ws) n s k h =
    let b = is_any (word_literals ws) (literal_slot w.1) in
    by_name (bytes_eq w.0 n) refl (λ e. word_again ws n s (right (not b) (are_unlike (word_literals ws)) k) e) h
  where
    apart : not (is_any (word_literals ws) (literal_slot w.1)) ≡ true
    apart = left (not (is_any (word_literals ws) (literal_slot w.1))) (are_unlike (word_literals ws)) k

    by_name : (b : Bool) → bytes_eq w.0 n ≡ b → (word_slot ws n ≡ Some s → word_of ws s ≡ Some n) → cond b (Some (literal_slot w.1)) (word_slot ws n) ≡ Some s → word_of (w ∷ ws) s ≡ Some n
    by_name true e more h =
        subst (λ x. word_of (w ∷ ws) x ≡ Some n) (some_is (literal_slot w.1) s h)
        (ap (λ b. cond b (Some w.0) (word_of ws (literal_slot w.1))) (literal-refl w.1) ∙ ap Some (bytes_eq-is w.0 n e))
    by_name false e more h =
        ap (λ b. cond b (Some w.0) (word_of ws s)) (unlike w.1 (word_literals ws) s apart (word-takes ws n s h)) ∙ more h

-- a member that is read is one of the members
pub word_named : (ws : List (List ℕ × Literal)) (s : Option Json) (n : List ℕ) → word_of ws s ≡ Some n → has_name n (word_names ws) ≡ true
word_named [] s n h = cc
word_named (w ∷ ws) s n h =
    choice_or (is_literal w.1 s) (Some w.0) (word_of ws s) (Some n) (bytes_eq n w.0) (has_name n (word_names ws))
    (λ e. subst (λ x. bytes_eq x w.0 ≡ true) (some_is w.0 n e) (bytes_eq-refl w.0)) (λ e. word_named ws s n e) h

pub slot_named : (ws : List (List ℕ × Literal)) (n : List ℕ) (s : Option Json) → word_slot ws n ≡ Some s → has_name n (word_names ws) ≡ true
slot_named [] n s h = cc
slot_named (w ∷ ws) n s h =
    by_name (bytes_eq w.0 n) refl (λ e. slot_named ws n s e) h
  where
    by_name : (b : Bool) → bytes_eq w.0 n ≡ b → (word_slot ws n ≡ Some s → has_name n (word_names ws) ≡ true) → cond b (Some (literal_slot w.1)) (word_slot ws n) ≡ Some s → has_name n (word_names (w ∷ ws)) ≡ true
    by_name true e more h = ap (λ b. b || has_name n (word_names ws)) (ap (bytes_eq n) (bytes_eq-is w.0 n e) ∙ bytes_eq-refl n)
    by_name false e more h = or_second (bytes_eq n w.0) (has_name n (word_names ws)) (more h)

-- another name of the list is not the name that the list lacks
pub other_name : (n m : List ℕ) (ns : List (List ℕ)) → not (has_name n ns) ≡ true → has_name m ns ≡ true → bytes_eq n m ≡ false
other_name n m ns lacks has = refuted (bytes_eq n m) (λ e. not_both (has_name n ns) lacks (ap (λ x. has_name x ns) (bytes_eq-is n m e) ∙ has))

pub word_found : (ws : List (List ℕ × Literal)) (s : Option Json) (n : List ℕ) → are_distinct (word_names ws) ≡ true → word_of ws s ≡ Some n → word_slot ws n ≡ Some (option_map sorted s)
word_found [] s n k h = cc
word_found (w ∷ ws) s n k h =
    let b = has_name w.0 (word_names ws) in
    by_literal (is_literal w.1 s) refl (λ e. word_found ws s n (right (not b) (are_distinct (word_names ws)) k) e) h
  where
    lacks : not (has_name w.0 (word_names ws)) ≡ true
    lacks = left (not (has_name w.0 (word_names ws))) (are_distinct (word_names ws)) k

    by_literal : (b : Bool) → is_literal w.1 s ≡ b → (word_of ws s ≡ Some n → word_slot ws n ≡ Some (option_map sorted s)) → cond b (Some w.0) (word_of ws s) ≡ Some n → word_slot (w ∷ ws) n ≡ Some (option_map sorted s)
    by_literal true e more h =
        subst (λ x. word_slot (w ∷ ws) x ≡ Some (option_map sorted s)) (some_is w.0 n h)
        (ap (λ b. cond b (Some (literal_slot w.1)) (word_slot ws w.0)) (bytes_eq-refl w.0)
        ∙ ap Some (sym (ap (option_map sorted) (literal-is w.1 s e) ∙ sorted_literal w.1)))
    by_literal false e more h =
        ap (λ b. cond b (Some (literal_slot w.1)) (word_slot ws n)) (other_name w.0 n (word_names ws) lacks (word_named ws s n h)) ∙ more h

pub word_alike : (ws : List (List ℕ × Literal)) (s : Option Json) → word_of ws s ≡ word_of ws (option_map sorted s)
word_alike [] s = refl
word_alike (w ∷ ws) s = ap₂ (λ b o. cond b (Some w.0) o) (literal_alike w.1 s) (word_alike ws s)
