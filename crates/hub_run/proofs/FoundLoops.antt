-- The views of a program part, as a loop over its pieces finds them.
use Rattle.std.proofs.Common.{◌≡◌, ℕ, zero, suc, ◌+◌, ◌<◌, ◌≤◌, Bool, true, false, cond, List, [], ◌∷◌, ◌++◌, length, length-append, drop, get_or, map, Ok, Err, refl, sym, ap, subst, ◌∙◌, arith, lt-ltb}
use Rattle.std.specs.Prelude.{nat_lt}
use borrow.Author.Tests.{ltb-true}
use Rattle.std.proofs.lemmas.List.{drop_all, length-map, map-append}
use Rattle.lens_forms.specs.Forms.{FormTree, form_tree}
use Rattle.view_hub.specs.Laws.{HaveOneLeftType}
use Rattle.lens_types.specs.declared.typed.Typed.{Typed}
use Rattle.script_input.specs.Parts.{HoldsPart}
use Rattle.hub_run.specs.HeldPieces.{HoldsEach, HoldsUnless}
use Rattle.hub_run.specs.Lenses.{too_many_views, form_of_view, first_left, then_forms, forms_from, forms_of}
use Rattle.hub_run.specs.FormLenses.{form_lens}
use Rattle.hub_run.specs.FoundLenses.{HasLeft, IsRefusedHub}
use Rattle.script_input.specs.declared.script.ProgramText.{ProgramText}
use Rattle.hub_run.specs.declared.pieces.TheConstants.{MOST_VIEWS}
use Rattle.hub_run.specs.declared.views.HubRefused.{HubRefused}
use Rattle.hub_run.specs.declared.views.HubRefused.TheVariants.{TooManyViews, InView, ViewsDiffer, NoMemory}
use Rattle.hub_run.proofs.FoundForms.{OneLeft, one_more, some_left}

-- ---- pieces

-- the piece at a place, and those behind it
pub record PieceAt (kept : ProgramText) (pieces : List (List ℕ)) (i : ℕ) : Type 0 where
  pub text : List ℕ
  pub holds : HoldsPart kept text
  pub is : drop i pieces ≡ text ∷ drop (i + 1) pieces

pub piece_at : (kept : List ProgramText) (pieces : List (List ℕ)) (i : ℕ) (d : ProgramText) → i < length kept → HoldsEach kept pieces → PieceAt (get_or kept i d) pieces i
piece_at [] pieces i d within h = absurd (omega (arith, within))
piece_at (k ∷ kept) [] i d within h = absurd h
piece_at (k ∷ kept) (text ∷ pieces) zero d within h = record { text = text; holds = h.0; is = refl }
piece_at (k ∷ kept) (text ∷ pieces) (suc i) d within h =
    let p = piece_at kept pieces i d (omega (arith, within)) h.1 in
    let e : suc (i + 1) ≡ suc i + 1 = omega arith in
    record { text = p.text; holds = p.holds; is = p.is ∙ ap (λ n. p.text ∷ drop n (text ∷ pieces)) e }

pub each_length : (kept : List ProgramText) (pieces : List (List ℕ)) → HoldsEach kept pieces → length kept ≡ length pieces
each_length [] [] h = refl
each_length [] (piece ∷ pieces) h = absurd h
each_length (k ∷ kept) [] h = absurd h
each_length (k ∷ kept) (piece ∷ pieces) h = ap suc (each_length kept pieces h.1)

-- ---- one view more

-- a view that is refused refuses all
refused_all : (text : List ℕ) (others : List (List ℕ)) (before : List FormTree) (refused : HubRefused)
    → IsRefusedHub (form_of_view (first_left before) (length before) text) refused → IsRefusedHub (forms_from (text ∷ others) before) refused
refused_all text others before TooManyViews h = (h.0, ap (then_forms (forms_from others) before) h.1, h.2)
refused_all text others before (InView v refused) h = (h.0, ap (then_forms (forms_from others) before) h.1, h.2)
refused_all text others before (ViewsDiffer v) h = (h.0, ap (then_forms (forms_from others) before) h.1, h.2)
refused_all text others before NoMemory h = tt

-- a view at the front that is accepted joins those before it
joins : (text : List ℕ) (others : List (List ℕ)) (before after : List Typed) (lens : Typed)
    → form_of_view (first_left (map form_tree before)) (length before) text ≡ Ok (form_tree lens) → after ≡ before ++ lens ∷ []
    → forms_from (text ∷ others) (map form_tree before) ≡ forms_from others (map form_tree after)
joins text others before after lens is more =
    ap (λ n. then_forms (forms_from others) (map form_tree before) (form_of_view (first_left (map form_tree before)) n text)) (length-map before form_tree)
    ∙ ap (then_forms (forms_from others) (map form_tree before)) is
    ∙ ap (forms_from others) (sym (ap (map form_tree) more ∙ map-append form_tree before (lens ∷ [])))

pub view_found : (kept : List ProgramText) (ended : List (List ℕ)) (i : ℕ) (k : ProgramText) (before after : List Typed) (lens : Typed) (begun : List ℕ)
    → i < length kept → k ≡ get_or kept i k → HoldsEach kept ended
    → ((text : List ℕ) → HoldsPart k text → form_of_view (first_left (map form_tree before)) (length before) text ≡ Ok (form_tree lens)) → after ≡ before ++ lens ∷ []
    → forms_from (drop (i + 1) ended ++ begun ∷ []) (map form_tree after) ≡ forms_from (drop i ended ++ begun ∷ []) (map form_tree before)
view_found kept ended i k before after lens begun within k_is holds found more =
    let p = subst (λ q. PieceAt q ended i) (sym k_is) (piece_at kept ended i k within holds) in
    sym (ap (λ ps. forms_from (ps ++ begun ∷ []) (map form_tree before)) p.is ∙ joins p.text (drop (i + 1) ended ++ begun ∷ []) before after lens (found p.text p.holds) more)

pub view_not_found : (kept : List ProgramText) (ended : List (List ℕ)) (i : ℕ) (k : ProgramText) (before : List Typed) (begun : List ℕ) (refused : HubRefused)
    → i < length kept → k ≡ get_or kept i k → HoldsEach kept ended
    → ((text : List ℕ) → HoldsPart k text → IsRefusedHub (form_of_view (first_left (map form_tree before)) (length before) text) refused)
    → IsRefusedHub (forms_from (drop i ended ++ begun ∷ []) (map form_tree before)) refused
view_not_found kept ended i k before begun refused within k_is holds found =
    let p = subst (λ q. PieceAt q ended i) (sym k_is) (piece_at kept ended i k within holds) in
    let here = subst (λ n. IsRefusedHub (form_of_view (first_left (map form_tree before)) n p.text) refused) (sym (length-map before form_tree)) (found p.text p.holds) in
    subst (λ ps. IsRefusedHub (forms_from (ps ++ begun ∷ []) (map form_tree before)) refused) (sym p.is) (refused_all p.text (drop (i + 1) ended ++ begun ∷ []) (map form_tree before) refused here)

-- ---- the view of the piece that has begun, which is the last

only_begun : (kept : List ProgramText) (ended : List (List ℕ)) (i : ℕ) (begun : List ℕ) → length kept ≤ i → HoldsEach kept ended → drop i ended ++ begun ∷ [] ≡ begun ∷ []
only_begun kept ended i begun past holds = ap (λ ps. ps ++ begun ∷ []) (drop_all i ended (omega (arith, past, each_length kept ended holds)))

pub last_found : (kept : List ProgramText) (ended : List (List ℕ)) (i : ℕ) (before after : List Typed) (lens : Typed) (begun : List ℕ) → length kept ≤ i → HoldsEach kept ended
    → form_of_view (first_left (map form_tree before)) (length before) begun ≡ Ok (form_tree lens) → after ≡ before ++ lens ∷ []
    → forms_from (drop i ended ++ begun ∷ []) (map form_tree before) ≡ Ok (map form_tree after)
last_found kept ended i before after lens begun past holds found more =
    ap (λ ps. forms_from ps (map form_tree before)) (only_begun kept ended i begun past holds) ∙ joins begun [] before after lens found more

pub last_not_found : (kept : List ProgramText) (ended : List (List ℕ)) (i : ℕ) (before : List Typed) (begun : List ℕ) (refused : HubRefused) → length kept ≤ i → HoldsEach kept ended
    → IsRefusedHub (form_of_view (first_left (map form_tree before)) (length before) begun) refused → IsRefusedHub (forms_from (drop i ended ++ begun ∷ []) (map form_tree before)) refused
last_not_found kept ended i before begun refused past holds found =
    let here = subst (λ n. IsRefusedHub (form_of_view (first_left (map form_tree before)) n begun) refused) (sym (length-map before form_tree)) found in
    subst (λ ps. IsRefusedHub (forms_from ps (map form_tree before)) refused) (sym (only_begun kept ended i begun past holds)) (refused_all begun [] (map form_tree before) refused here)

-- ---- how many pieces there are

pub few_forms : (ended : List (List ℕ)) (begun : List ℕ) → length ended < MOST_VIEWS → forms_of (ended ++ begun ∷ []) ≡ forms_from (ended ++ begun ∷ []) []
few_forms ended begun short = by_test (nat_lt 64 (length (ended ++ begun ∷ []))) refl where
  by_test : (b : Bool) → b ≡ nat_lt 64 (length (ended ++ begun ∷ [])) → cond b (Err too_many_views) (forms_from (ended ++ begun ∷ []) []) ≡ forms_from (ended ++ begun ∷ []) []
  by_test true is = absurd (omega (arith, ltb-true 64 (length (ended ++ begun ∷ [])) (sym is), short, length-append ended (begun ∷ [])))
  by_test false is = refl

pub many_forms : (ended : List (List ℕ)) (begun : List ℕ) → MOST_VIEWS ≤ length ended → forms_of (ended ++ begun ∷ []) ≡ Err too_many_views
many_forms ended begun long =
    ap (λ b. cond b (Err too_many_views) (forms_from (ended ++ begun ∷ []) [])) (lt-ltb 64 (length (ended ++ begun ∷ [])) (omega (arith, long, length-append ended (begun ∷ []))))

-- what is kept where there are not too many
pub kept_few : (b : Bool) (kept : List ProgramText) (last : ProgramText) (ended : List (List ℕ)) (begun : List ℕ) → b ≡ false → HoldsUnless b kept last ended begun
    → (length ended < MOST_VIEWS) × HoldsEach kept ended × HoldsPart last begun
kept_few true kept last ended begun is h = cc
kept_few false kept last ended begun is h = h

pub kept_many : (b : Bool) (kept : List ProgramText) (last : ProgramText) (ended : List (List ℕ)) (begun : List ℕ) → b ≡ true → HoldsUnless b kept last ended begun → MOST_VIEWS ≤ length ended
kept_many true kept last ended begun is h = h
kept_many false kept last ended begun is h = cc

-- ---- one left type

-- the views with one more have one left type
pub view_joins : (before after : List Typed) (lens : Typed) → after ≡ before ++ lens ∷ [] → OneLeft (map form_tree before) → HasLeft (first_left (map form_tree before)) (form_tree lens) → OneLeft (map form_tree after)
view_joins before after lens more one same =
    subst OneLeft (sym (ap (map form_tree) more ∙ map-append form_tree before (lens ∷ []))) (one_more (map form_tree before) (form_tree lens) one same)

pub last_joins : (before after : List Typed) (lens : Typed) → after ≡ before ++ lens ∷ [] → OneLeft (map form_tree before) → HasLeft (first_left (map form_tree before)) (form_tree lens)
    → HaveOneLeftType form_lens (map form_tree after)
last_joins before after lens more one same =
    subst (HaveOneLeftType form_lens) (sym (ap (map form_tree) more ∙ map-append form_tree before (lens ∷ [])))
    (some_left (map form_tree before) (form_tree lens) (one_more (map form_tree before) (form_tree lens) one same))
