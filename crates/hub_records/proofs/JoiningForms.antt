-- The lenses of a stored hub as a loop finds them: their forms, and that they have one left type.
use Rattle.std.proofs.Common.{◌≡◌, ℕ, suc, ◌+◌, ◌<◌, ◌≤◌, add-one, Bool, true, false, cond, List, [], ◌∷◌, ◌++◌, length, drop, drop-cons, get_or, Option, Some, None, refl, sym, ap, subst, ◌∙◌, arith}
use Rattle.std.specs.Prelude.{option_map, option_and_then, nat_lt}
use Rattle.std.proofs.lemmas.List.{map-append, drop_all}
use Rattle.texts.proofs.Conjunction.{second}
use Rattle.serde_json.specs.View.{view, items_view}
use Rattle.serde_json.specs.declared.value.Value.{Value}
use Rattle.doc_values.specs.Types.{TyTree, is_same_ty}
use Rattle.doc_values.proofs.SameTypes.{is_same_ty-equal}
use Rattle.lens_flat.specs.declared.flat.ReadyForm.{ReadyForm}
use Rattle.lens_forms.specs.Forms.{FormTree, form_tree, left_type}
use Rattle.view_hub.specs.Laws.{SameLeft, HaveOneLeftType}
use Rattle.hub_run.specs.RunStates.{forms_of_lenses, ready_lens}
use Rattle.hub_run.specs.declared.pieces.TheConstants.{MOST_VIEWS}
use Rattle.hub_records.specs.HubLenses.{joins, joining_form, forms_more, form_of_item, forms_behind, forms_of_items}
use Rattle.hub_records.specs.OneLeftType.{HasOneLeft}

abbrev form_of : ReadyForm → FormTree
form_of l = form_tree l.typed

-- ---- one lens more

pub forms_snoc : (ls : List ReadyForm) (l : ReadyForm) → forms_of_lenses (ls ++ l ∷ []) ≡ forms_of_lenses ls ++ form_of l ∷ []
forms_snoc ls l = map-append form_of ls (l ∷ [])

pub joined : (before : List FormTree) (found : Option FormTree) (l : FormTree) → joining_form before found ≡ Some l → (found ≡ Some l) × (joins before l ≡ true)
joined before (Some m) l h = by_test (joins before m) refl h where
  by_test : (b : Bool) → joins before m ≡ b → cond b (Some m) None ≡ Some l → (Some m ≡ Some l) × (joins before l ≡ true)
  by_test true is e = let same : m ≡ l = cc in (ap Some same, subst (λ l. joins before l ≡ true) same is)
  by_test false is e = cc
joined before None l h = cc

same_more : (ty : TyTree) (ls : List ReadyForm) (l : ReadyForm) → SameLeft ready_lens ty ls → left_type (form_of l) ≡ ty → SameLeft ready_lens ty (ls ++ l ∷ [])
same_more ty [] l all is = (is, tt)
same_more ty (m ∷ ls) l all is = (all.0, same_more ty ls l all.1 is)

pub one_more : (ls : List ReadyForm) (l : ReadyForm) → HasOneLeft ls → joins (forms_of_lenses ls) (form_of l) ≡ true → HaveOneLeftType ready_lens (ls ++ l ∷ [])
one_more [] l all is = tt
one_more (m ∷ ls) l all is =
    let few = nat_lt (length (forms_of_lenses (m ∷ ls))) MOST_VIEWS in
    let same = second few (is_same_ty (left_type (form_of m)) (left_type (form_of l))) is in
    same_more (left_type (form_of m)) ls l all (sym (is_same_ty-equal (left_type (form_of m)) (left_type (form_of l)) same))

-- a lens that may stand behind others has their left type
pub joined_left : (ls : List ReadyForm) (found : Option FormTree) (l : ReadyForm) → Some (form_of l) ≡ joining_form (forms_of_lenses ls) found → HasOneLeft ls
    → HaveOneLeftType ready_lens (ls ++ l ∷ [])
joined_left ls found l is all = one_more ls l all (joined (forms_of_lenses ls) found (form_of l) (sym is)).1

pub has_one : (ls : List ReadyForm) → HaveOneLeftType ready_lens ls → HasOneLeft ls
has_one [] all = tt
has_one (l ∷ ls) all = all

-- ---- the loop

pub next_found : (items : List Value) (i : ℕ) (d : Value) (ls : List ReadyForm) (l : ReadyForm) (all : Option (List FormTree)) → i < length items → d ≡ get_or items i d
    → Some (form_of l) ≡ joining_form (forms_of_lenses ls) (form_of_item (view d))
    → forms_behind (forms_of_lenses ls) (items_view (drop i items)) ≡ all
    → forms_behind (forms_of_lenses (ls ++ l ∷ [])) (items_view (drop (i + 1) items)) ≡ all
next_found items i d ls l all within is found h =
    let here : forms_more (forms_of_lenses ls) (form_of_item (view (get_or items i d))) ≡ Some (forms_of_lenses ls ++ form_of l ∷ []) =
    ap (option_map (λ (f : FormTree). forms_of_lenses ls ++ f ∷ [])) (ap (λ x. joining_form (forms_of_lenses ls) (form_of_item (view x))) (sym is) ∙ sym found) in
    let step : forms_behind (forms_of_lenses ls) (items_view (drop i items)) ≡ forms_behind (forms_of_lenses ls ++ form_of l ∷ []) (items_view (drop (suc i) items)) =
    rw (drop-cons items i d within) (ap (option_and_then (λ forms. forms_behind forms (items_view (drop (suc i) items)))) here) in
    rw (add-one i, forms_snoc ls l) (sym step ∙ h)

pub next_lost : (items : List Value) (i : ℕ) (d : Value) (ls : List ReadyForm) (all : Option (List FormTree)) → i < length items → d ≡ get_or items i d
    → None ≡ joining_form (forms_of_lenses ls) (form_of_item (view d))
    → forms_behind (forms_of_lenses ls) (items_view (drop i items)) ≡ all → None ≡ all
next_lost items i d ls all within is lost h =
    let here : forms_more (forms_of_lenses ls) (form_of_item (view (get_or items i d))) ≡ None =
    ap (option_map (λ (f : FormTree). forms_of_lenses ls ++ f ∷ [])) (ap (λ x. joining_form (forms_of_lenses ls) (form_of_item (view x))) (sym is) ∙ sym lost) in
    let step : forms_behind (forms_of_lenses ls) (items_view (drop i items)) ≡ None =
    rw (drop-cons items i d within) (ap (option_and_then (λ forms. forms_behind forms (items_view (drop (suc i) items)))) here) in
    sym step ∙ h

pub all_found : (items : List Value) (i : ℕ) (ls : List ReadyForm) (all : Option (List FormTree)) → length items ≤ i
    → forms_behind (forms_of_lenses ls) (items_view (drop i items)) ≡ all → Some (forms_of_lenses ls) ≡ all
all_found items i ls all past h = ap (λ xs. forms_behind (forms_of_lenses ls) (items_view xs)) (sym (drop_all i items past)) ∙ h

-- where there is a program, the lenses are those behind none
pub some_items : (items : List Value) → 0 < length items → forms_behind [] (items_view items) ≡ forms_of_items (items_view items)
some_items [] some = absurd (omega arith)
some_items (d ∷ items) some = refl

pub no_items_none : (items : List Value) → length items ≡ 0 → None ≡ forms_of_items (items_view items)
no_items_none [] none = refl
no_items_none (d ∷ items) none = absurd (omega arith)

-- as many lenses as programs, so that there is one
pub some_lens : (ls : List ReadyForm) → 0 < length ls → HasOneLeft ls → HaveOneLeftType ready_lens ls
some_lens [] some all = absurd (omega arith)
some_lens (l ∷ ls) some all = all

pub ruleset joining_rules = (joined_left, next_found, next_lost, all_found, some_items, no_items_none, some_lens)
