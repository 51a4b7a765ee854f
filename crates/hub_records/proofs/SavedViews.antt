-- The views of a snapshot as a loop writes them.
use Rattle.std.proofs.Common.{◌≡◌, ℕ, zero, suc, ◌+◌, ◌<◌, ◌≤◌, add-one, true, List, [], ◌∷◌, ◌++◌, codes, map, take, length, drop, drop-cons, get_or, slice_get, Some, IsTrue, refl, sym, ap, ap₂, subst, ◌∙◌, arith}
use Rattle.std.proofs.lemmas.List.{drop_all, take_all}
use Rattle.std.proofs.lemmas.List.{length-map}
use Rattle.std.proofs.lemmas.Option.{slice_get_read, slice_get-map}
use Rattle.std.specs.Prelude.{option_map}
use Rattle.texts.proofs.Conjunction.{both, first, second}
use Rattle.texts.proofs.Tests.{same_value}
use Rattle.texts.specs.declared.side.Side.TheVariants.{Left, Right}
use Rattle.serde_json.specs.Data.{Data, array, object, Items, no_items, item, no_members, member}
use Rattle.serde_json.specs.View.{items_of}
use Rattle.doc_values.specs.Documents.{DocTree, doc_tree}
use Rattle.doc_values.specs.Typing.{has}
use Rattle.value_json.specs.DocumentJson.{holds_i64s, tree_of_document}
use Rattle.lens_core.specs.Complements.{comp_tree, Fits}
use Rattle.lens_steps.specs.LawsOfForms.{form_edits}
use Rattle.lens_flat.specs.declared.flat.ReadyForm.{ReadyForm}
use Rattle.lens_forms.specs.Forms.{FormTree, form_tree, left_type, right_type}
use Rattle.view_hub.specs.Hubs.{ViewTree, HubTree}
use Rattle.view_hub.proofs.HubOutcomes.{hub_length}
use Rattle.view_hub.specs.Views.{view_tree, view_trees}
use Rattle.view_hub.specs.declared.view.View as a_view
use Rattle.hub_run.specs.RunStates.{forms_of_lenses, ready_lens, IsHubOf}
use Rattle.hub_run.proofs.StateLines.{view_there, hub_has}
use Rattle.hub_records.specs.HubRecords.{tree_of_view, items_of_views, tree_of_hub}
use Rattle.hub_records.specs.WholeInts.{views_hold_i64s}

abbrev form_of : ReadyForm → FormTree
form_of l = form_tree l.typed

-- what is read at a place of a list, as another value
read_at : {A B : Type 0} (f : A → B) (xs : List A) (i : ℕ) (x : A) → i < length xs → x ≡ get_or xs i x → slice_get (map f xs) i ≡ Some (f x)
read_at f xs i x within is = slice_get-map f xs i ∙ ap (option_map f) (slice_get_read xs (length xs) i x refl within is)

-- ---- a hub in step: a lens for each view, and each view of its lens

pub lens_within : (ls : List ReadyForm) (x : DocTree) (vs : List a_view.View) (i : ℕ) → IsHubOf ls (record { hub = x; views = view_trees vs }) → i < length vs → i < length ls
lens_within ls x vs i all within =
    let same = hub_length ready_lens (λ l. form_edits (form_of l) l.ready.0 Left) (λ l. form_edits (form_of l) l.ready.0 Right) ls (record { hub = x; views = view_trees vs }) all in
    omega (arith, same, length-map vs view_tree, within)

-- the view at a place, which has its lens's right type, and whose complement fits
pub there : (ls : List ReadyForm) (x : DocTree) (vs : List a_view.View) (i : ℕ) (l : ReadyForm) (v : a_view.View) → IsHubOf ls (record { hub = x; views = view_trees vs }) → i < length vs
    → l ≡ get_or ls i l → v ≡ get_or vs i v → IsTrue (has (right_type (form_of l)) (doc_tree v.doc.value)) × Fits (form_of l) (comp_tree v.comp)
there ls x vs i l v all within l_is v_is =
    let lens_at = read_at form_of ls i l (lens_within ls x vs i all within) l_is in
    let t = view_there form_of ls (record { hub = x; views = view_trees vs }) i (form_of l) all lens_at in
    let same : t.view ≡ view_tree v = same_value t.is (read_at view_tree vs i v within v_is) in
    (subst (λ (u : ViewTree). IsTrue (has (right_type (form_of l)) u.doc)) same t.right_has, subst (λ (u : ViewTree). Fits (form_of l) u.comp) same t.comp_fits)

-- the hub's document has the left type of the first lens
pub first_has : (ls : List ReadyForm) (h : HubTree) (l : ReadyForm) → IsHubOf ls h → 0 < length ls → l ≡ get_or ls 0 l → IsTrue (has (left_type (form_of l)) h.hub)
first_has ls h l all some is = hub_has form_of ls h (form_of l) all (read_at form_of ls 0 l some is)

-- a hub with a lens has a tree of its first lens
pub hub_tree_is : (ls : List ReadyForm) (h : HubTree) (l : ReadyForm) → 0 < length ls → l ≡ get_or ls 0 l
    → tree_of_hub (forms_of_lenses ls) h ≡ object (member (codes "hub") (tree_of_document (left_type (form_of l)) h.hub)
    (member (codes "views") (array (items_of_views (forms_of_lenses ls) h.views)) no_members))
hub_tree_is [] h l some is = absurd (omega arith)
hub_tree_is (m ∷ ls) h l some is =
    ap (λ (k : ReadyForm). object (member (codes "hub") (tree_of_document (left_type (form_of k)) h.hub) (member (codes "views") (array (items_of_views (forms_of_lenses (m ∷ ls)) h.views)) no_members))) (sym is)

-- ---- the loop

-- these trees, and behind them the items
abbrev pub in_front_of : List Data → Items → Items
in_front_of [] ds = ds
in_front_of (d ∷ front) ds = item d (in_front_of front ds)

in_front_of-more : (front : List Data) (d : Data) (ds : Items) → in_front_of front (item d ds) ≡ in_front_of (front ++ d ∷ []) ds
in_front_of-more [] d ds = refl
in_front_of-more (e ∷ front) d ds = ap (item e) (in_front_of-more front d ds)

in_front_of-none : (front : List Data) → in_front_of front no_items ≡ items_of front
in_front_of-none [] = refl
in_front_of-none (e ∷ front) = ap (item e) (in_front_of-none front)

-- the trees of these views
abbrev pub view_items : List ReadyForm → List a_view.View → Items
view_items ls vs = items_of_views (forms_of_lenses ls) (view_trees vs)

pub next_view : (front : List Data) (ls : List ReadyForm) (vs : List a_view.View) (i : ℕ) (l : ReadyForm) (v : a_view.View) → i < length ls → i < length vs → l ≡ get_or ls i l → v ≡ get_or vs i v
    → in_front_of front (view_items (drop i ls) (drop i vs)) ≡ in_front_of (front ++ tree_of_view (form_of l) (view_tree v) ∷ []) (view_items (drop (i + 1) ls) (drop (i + 1) vs))
next_view front ls vs i l v within here l_is v_is =
    let lens_at = drop-cons ls i l within ∙ ap₂ (λ (x : ReadyForm) (xs : List ReadyForm). x ∷ xs) (sym l_is) (ap (λ n. drop n ls) (sym (add-one i))) in
    let view_at = drop-cons vs i v here ∙ ap₂ (λ (x : a_view.View) (xs : List a_view.View). x ∷ xs) (sym v_is) (ap (λ n. drop n vs) (sym (add-one i))) in
    ap₂ (λ xs ys. in_front_of front (view_items xs ys)) lens_at view_at ∙ in_front_of-more front (tree_of_view (form_of l) (view_tree v)) (view_items (drop (i + 1) ls) (drop (i + 1) vs))

pub views_done : (front : List Data) (ls : List ReadyForm) (vs : List a_view.View) (i : ℕ) → length vs ≤ i → in_front_of front (view_items (drop i ls) (drop i vs)) ≡ items_of front
views_done front ls vs i past =
    ap (λ ys. in_front_of front (view_items (drop i ls) ys)) (drop_all i vs past) ∙ ap (in_front_of front) (no_views (forms_of_lenses (drop i ls))) ∙ in_front_of-none front where
      no_views : (fs : List FormTree) → items_of_views fs [] ≡ no_items
      no_views [] = refl
      no_views (f ∷ fs) = refl

ints_at : (vs : List a_view.View) (i : ℕ) (d : a_view.View) → i < length vs → views_hold_i64s (view_trees (take i vs)) ≡ true → holds_i64s (doc_tree (get_or vs i d).doc.value) ≡ true
    → views_hold_i64s (view_trees (take (suc i) vs)) ≡ true
ints_at [] i d within h e = absurd (omega arith)
ints_at (x ∷ vs) zero d within h e = both (holds_i64s (doc_tree x.doc.value)) true e refl
ints_at (x ∷ vs) (suc i) d within h e =
    both (holds_i64s (doc_tree x.doc.value)) _ (first (holds_i64s (doc_tree x.doc.value)) _ h) (ints_at vs i d (omega arith) (second (holds_i64s (doc_tree x.doc.value)) _ h) e)

pub next_ints : (vs : List a_view.View) (i : ℕ) (v : a_view.View) → i < length vs → v ≡ get_or vs i v → views_hold_i64s (view_trees (take i vs)) ≡ true → holds_i64s (doc_tree v.doc.value) ≡ true
    → views_hold_i64s (view_trees (take (i + 1) vs)) ≡ true
next_ints vs i v within is h ints = rw add-one (ints_at vs i v within h (ap (λ (x : a_view.View). holds_i64s (doc_tree x.doc.value)) (sym is) ∙ ints))

pub all_ints : (vs : List a_view.View) (i : ℕ) → length vs ≤ i → views_hold_i64s (view_trees (take i vs)) ≡ true → views_hold_i64s (view_trees vs) ≡ true
all_ints vs i past h = ap (λ (xs : List a_view.View). views_hold_i64s (view_trees xs)) (sym (take_all i vs past)) ∙ h
