-- The image of each form, from what the code found: the complement's parts, and the images inside.
use Rattle.std.proofs.Common.{◌≡◌, ◌∙◌, ℕ, ◌+◌, ◌<◌, ◌≤◌, Bool, true, false, List, [], ◌∷◌, length, map, Option, None, Some, option_map, ◌++◌, get_or, refl, ap, sym, subst, arith, rules}
use Rattle.std.specs.List.{insert}
use Rattle.std.specs.Prelude.{IsTrue, bytes_eq, option_and_then, if◌then◌else◌}
use Rattle.std.proofs.lemmas.List.Edits.{length-insert}
use Rattle.texts.specs.declared.side.Side.{Side}
use Rattle.texts.specs.declared.side.Side.TheVariants.{Left, Right}
use Rattle.texts.specs.Sides.{other}
use Rattle.texts.specs.Keys.{has_name, is_rising}
use Rattle.hold_shapes.specs.declared.shape.Shape.{Shape}
use Rattle.doc_values.specs.Types.{are_distinct, names_of}
use Rattle.doc_values.specs.declared.ty.Ty.{Ty}
use Rattle.lens_forms.specs.Forms.{FormTree, form_tree, form_then, form_rec, form_alt, RowTrees, row_tree, form_rows_of, ArmTrees, no_arms, more_arms}
use Rattle.lens_forms.specs.Typing.{left_names, right_names}
use Rattle.lens_forms.specs.declared.form.Form.{Form}
use Rattle.lens_forms.specs.declared.form.FormRow.{FormRow}
use Rattle.lens_forms.specs.declared.form.FormRow.TheVariants.{Both, OnlyLeft, OnlyRight}
use Rattle.lens_forms.proofs.TreesOfRows.{rows_from}
use Rattle.lens_core.specs.Complements.{CompTree, nil, then_comp, rec_comp, alt_comp, hold_comp, CompTrees, comp_list, comp_count}
use Rattle.lens_core.specs.Sides.{near, far, fields_on, names_on}
use Rattle.lens_core.proofs.ComplementTrees.{comps_of-comp_list, comp_count-length, comp_tree-then, comp_tree-rec, comp_tree-alt, comp_tree-hold}
use Rattle.law_images.specs.Image.{image, image_arm, arm_pattern, image_held, image_rows, patterns_by_name}
use Rattle.law_images.specs.PartImage.{content_pattern}
use Rattle.law_images.specs.Patterns.{PatternTree, hole, unit_pattern, truth_pattern, int_pattern, text_pattern, pick_pattern, rec_pattern, alt_pattern, hold_pattern, patterns_from, pattern_tree, patterns_tree}
use Rattle.law_images.specs.declared.pattern.Pattern.{Pattern, the_lemmas as pattern_lemmas}
use Rattle.law_images.specs.declared.pattern.Pattern.TheVariants.{Hole, Rec as RecPattern}
use Rattle.law_images.specs.declared.pattern.Patterns.{Patterns}
use Rattle.lens_check.specs.ImageParts.{first_arm, has_shape, place_pattern, place_among, if_far}
use Rattle.lens_check.specs.ReadyComplements.{IsReady, AreReadyPlaces, AreReadyRows, IsReadyArm, Chosen}
use Rattle.lens_check.proofs.FarFields.{near_among, placed, still_placed, comps_from, placed_end, placed_start, record_is, ready_both, ready_left, ready_right, placed_both, placed_none, placed_short, placed_left, placed_right}
use Rattle.lens_check.proofs.FieldPlaces.{fields_on-has, fields_on-rising, place_within}
use Rattle.lens_check.proofs.HeldPatterns.{image_list, places_of, places-length, still_imaged, imaged_next, imaged_none, imaged_start, imaged_end, held_is, held_none, has_place, place_is}
use Rattle.std.proofs.lemmas.Option.{same_Some}

-- ---- forms that map another over a container, and patterns as trees

pub hole_tree : pattern_tree Hole ≡ hole
hole_tree = search (rules, pattern_lemmas)

pub record_pattern : (ps : Patterns) → pattern_tree (RecPattern ps) ≡ rec_pattern (patterns_tree ps)
record_pattern ps = search (rules, pattern_lemmas)

-- what a call gave, where its answer is known
pub gave : (o v : Option Pattern) (x : Option PatternTree) → option_map pattern_tree o ≡ x → o ≡ v → x ≡ option_map pattern_tree v
gave o v x e is = sym e ∙ ap (option_map pattern_tree) is

-- ---- composition

pub ready_then : (l k : FormTree) (e c d : CompTree) → e ≡ then_comp c d → IsReady (form_then l k) e → IsReady l c × IsReady k d
ready_then l k e c d is h = subst (λ z. IsReady (form_then l k) z) is h

pub ready_first : (l k : FormTree) (e c d : CompTree) → e ≡ then_comp c d → IsReady (form_then l k) e → IsReady l c
ready_first l k e c d is h = (ready_then l k e c d is h).0

pub ready_second : (l k : FormTree) (e c d : CompTree) → e ≡ then_comp c d → IsReady (form_then l k) e → IsReady k d
ready_second l k e c d is h = (ready_then l k e c d is h).1

pub then_left : (l k : FormTree) (s : Side) (e c d : CompTree) (p m : PatternTree) → s ≡ Left → e ≡ then_comp c d → image l s c p ≡ Some m
    → image (form_then l k) s e p ≡ image k s d m
then_left l k Left e c d p m left is f = rw (is, f) refl
then_left l k Right e c d p m left is f = cc

pub then_right : (l k : FormTree) (s : Side) (e c d : CompTree) (p m : PatternTree) → s ≡ Right → e ≡ then_comp c d → image k s d p ≡ Some m
    → image (form_then l k) s e p ≡ image l s c m
then_right l k Left e c d p m right is f = cc
then_right l k Right e c d p m right is f = rw (is, f) refl

pub none_left : (l k : FormTree) (s : Side) (e c d : CompTree) (p : PatternTree) → s ≡ Left → e ≡ then_comp c d → image l s c p ≡ None
    → image (form_then l k) s e p ≡ None
none_left l k Left e c d p left is f = rw (is, f) refl
none_left l k Right e c d p left is f = cc

pub none_right : (l k : FormTree) (s : Side) (e c d : CompTree) (p : PatternTree) → s ≡ Right → e ≡ then_comp c d → image k s d p ≡ None
    → image (form_then l k) s e p ≡ None
none_right l k Left e c d p right is f = cc
none_right l k Right e c d p right is f = rw (is, f) refl

-- ---- record

apart_on : (s : Side) (rows : RowTrees) → are_distinct (left_names rows) ≡ true → are_distinct (right_names rows) ≡ true → are_distinct (names_on s rows) ≡ true
apart_on Left rows h k = h
apart_on Right rows h k = k

pub ready_record : (rows : RowTrees) (e : CompTree) (cs : CompTrees) → e ≡ rec_comp cs → IsReady (form_rec rows) e
    → IsTrue (are_distinct (left_names rows)) × IsTrue (are_distinct (right_names rows)) × AreReadyRows rows cs
ready_record rows e cs is h = subst (λ z. IsReady (form_rec rows) z) is h

-- the rows and the complements from the first ones on
pub ready_start : (rows : List FormRow) (whole : RowTrees) (e : CompTree) (cs : CompTrees) → form_rows_of (map row_tree rows) ≡ whole → e ≡ rec_comp cs → IsReady (form_rec whole) e
    → AreReadyRows (rows_from rows 0) (comps_from cs 0)
ready_start rows whole e cs same is h =
    subst (λ z. AreReadyRows (rows_from rows 0) z) (sym (comps_of-comp_list cs))
    (subst (λ z. AreReadyRows z cs) (sym same) (ready_record whole e cs is h).2)

pub near_rising : (s : Side) (whole : RowTrees) (e : CompTree) (cs : CompTrees) → e ≡ rec_comp cs → IsReady (form_rec whole) e → is_rising (names_of (fields_on s whole)) ≡ true
near_rising s whole e cs is h = let apart = ready_record whole e cs is h in fields_on-rising s whole (apart_on s whole apart.0 apart.1)

all_rows : (rows : List FormRow) (whole : RowTrees) (s : Side) (e : CompTree) (cs : CompTrees) (p : PatternTree) (i k : ℕ) (ns : List (List ℕ)) (ps : List PatternTree) (o : Option (List PatternTree))
    → form_rows_of (map row_tree rows) ≡ whole → e ≡ rec_comp cs → IsReady (form_rec whole) e
    → still_placed rows s cs (patterns_by_name (fields_on s whole) p) i k ns ps ≡ still_placed rows s cs (patterns_by_name (fields_on s whole) p) 0 0 [] []
    → still_placed rows s cs (patterns_by_name (fields_on s whole) p) i k ns ps ≡ o
    → option_map (λ ps. rec_pattern (patterns_from ps)) o ≡ image (form_rec whole) s e p
all_rows rows whole s e cs p i k ns ps o same is h inv here =
    let at = patterns_by_name (fields_on s whole) p in
    let apart = ready_record whole e cs is h in
    let all : o ≡ option_map (λ qs. placed qs [] []) (image_rows whole s cs (patterns_by_name (fields_on s whole) p)) =
    sym here ∙ inv ∙ placed_start rows s cs (patterns_by_name (fields_on s whole) p)
    ∙ ap (λ z. option_map (λ qs. placed qs [] []) (image_rows z s cs (patterns_by_name (fields_on s whole) p))) same in
    ap (option_map (λ ps. rec_pattern (patterns_from ps))) all ∙ record_is whole s cs p (apart_on (other s) whole apart.0 apart.1)
    ∙ ap (λ z. image (form_rec whole) s z p) (sym is)

pub record_done : (rows : List FormRow) (whole : RowTrees) (s : Side) (e : CompTree) (cs : CompTrees) (p : PatternTree) (i k : ℕ) (ns : List (List ℕ)) (ps : List PatternTree)
    → form_rows_of (map row_tree rows) ≡ whole → e ≡ rec_comp cs → IsReady (form_rec whole) e → length rows ≤ i
    → still_placed rows s cs (patterns_by_name (fields_on s whole) p) i k ns ps ≡ still_placed rows s cs (patterns_by_name (fields_on s whole) p) 0 0 [] []
    → Some (rec_pattern (patterns_from ps)) ≡ image (form_rec whole) s e p
record_done rows whole s e cs p i k ns ps same is h end inv =
    all_rows rows whole s e cs p i k ns ps (Some ps) same is h inv (placed_end rows s cs (patterns_by_name (fields_on s whole) p) i k ns ps end)

pub record_none : (rows : List FormRow) (whole : RowTrees) (s : Side) (e : CompTree) (cs : CompTrees) (p : PatternTree) (i k : ℕ) (ns : List (List ℕ)) (ps : List PatternTree)
    → form_rows_of (map row_tree rows) ≡ whole → e ≡ rec_comp cs → IsReady (form_rec whole) e
    → still_placed rows s cs (patterns_by_name (fields_on s whole) p) i k ns ps ≡ still_placed rows s cs (patterns_by_name (fields_on s whole) p) 0 0 [] []
    → still_placed rows s cs (patterns_by_name (fields_on s whole) p) i k ns ps ≡ None
    → None ≡ image (form_rec whole) s e p
record_none rows whole s e cs p i k ns ps same is h inv none = all_rows rows whole s e cs p i k ns ps None same is h inv none

-- the near field of a paired row is one of the fields of its side
pub field_among : (rows : List FormRow) (whole : RowTrees) (s : Side) (i : ℕ) (r : FormRow) (a b n : List ℕ) (l : Form) → form_rows_of (map row_tree rows) ≡ whole
    → i < length rows → r ≡ get_or rows i r → r ≡ Both a b l → n ≡ near s a b → has_name n (names_of (fields_on s whole)) ≡ true
field_among rows whole s i r a b n l same h is row name =
    subst (λ z. has_name z (names_of (fields_on s whole)) ≡ true) (sym name)
    (subst (λ z. has_name (near s a b) (names_of (fields_on s z)) ≡ true) same
    (fields_on-has s (form_rows_of (map row_tree rows)) (near s a b) ∙ near_among rows s i r a b l h is row))

-- ---- the rows one after the other

-- what holds before a row: the whole is what the far fields up to it and the rows from it on make, and the rows from it on are ready
abbrev pub Underway : List FormRow → Side → CompTrees → (List ℕ → PatternTree) → ℕ → ℕ → List (List ℕ) → List PatternTree → Type 0
Underway rows s cs at i k ns ps =
    (still_placed rows s cs at i k ns ps ≡ still_placed rows s cs at 0 0 [] [])
    × (length ns ≡ length ps)
    × AreReadyRows (rows_from rows i) (comps_from cs k)

moved : (rows : List FormRow) (s : Side) (cs : CompTrees) (at : List ℕ → PatternTree) (i k : ℕ) (ns ms : List (List ℕ)) (ps qs : List PatternTree)
    → ms ≡ ns → qs ≡ ps → Underway rows s cs at i k ns ps → Underway rows s cs at i k ms qs
moved rows s cs at i k ns ms ps qs names patterns u =
    subst (λ z. Underway rows s cs at i k z qs) (sym names) (subst (λ z. Underway rows s cs at i k ns z) (sym patterns) u)

one_longer : {X : Type 0} (n : List ℕ) (q : X) (ns : List (List ℕ)) (ps : List X) → length ns ≡ length ps
    → length (insert ns (place_among n ns) n) ≡ length (insert ps (place_among n ns) q)
one_longer n q ns ps e =
    length-insert ns (place_among n ns) n (place_within n ns) ∙ ap (λ k. k + 1) e
    ∙ sym (length-insert ps (place_among n ns) q (subst (λ k. place_among n ns ≤ k) e (place_within n ns)))

if_far_longer : (o s : Side) (n : List ℕ) (ns : List (List ℕ)) (ps : List PatternTree) → length ns ≡ length ps
    → length (if_far o s (insert ns (place_among n ns) n) ns) ≡ length (if_far o s (insert ps (place_among n ns) hole) ps)
if_far_longer Left Left n ns ps e = e
if_far_longer Left Right n ns ps e = one_longer n hole ns ps e
if_far_longer Right Left n ns ps e = one_longer n hole ns ps e
if_far_longer Right Right n ns ps e = e

pub row_both : (rows : List FormRow) (s : Side) (cs : CompTrees) (at : List ℕ → PatternTree) (i k : ℕ) (ns ms : List (List ℕ)) (ps qs : List PatternTree)
    (r : FormRow) (a b n : List ℕ) (l : Form) (c : CompTree) (p q : PatternTree)
    → i < length rows → r ≡ get_or rows i r → r ≡ Both a b l → k < comp_count cs → c ≡ get_or (comp_list cs) k nil → p ≡ at (near s a b) → image (form_tree l) s c p ≡ Some q
    → n ≡ far s a b → ms ≡ insert ns (place_among n ns) n → qs ≡ insert ps (place_among n ns) q
    → Underway rows s cs at i k ns ps → Underway rows s cs at (i + 1) (k + 1) ms qs
row_both rows s cs at i k ns ms ps qs r a b n l c p q h is row low part near_is e name names patterns u =
    let here : image (form_tree l) s (get_or (comp_list cs) k nil) (at (near s a b)) ≡ Some q =
    subst (λ z. image (form_tree l) s z (at (near s a b)) ≡ Some q) part (subst (λ z. image (form_tree l) s c z ≡ Some q) near_is e) in
    let step = placed_both rows s cs at i k ns ps r a b l q h is row low here in
    moved rows s cs at (i + 1) (k + 1) (insert ns (place_among (far s a b) ns) (far s a b)) ms (insert ps (place_among (far s a b) ns) q) qs
    (names ∙ ap (λ z. insert ns (place_among z ns) z) name) (patterns ∙ ap (λ z. insert ps (place_among z ns) q) name)
    (sym step ∙ u.0, one_longer (far s a b) q ns ps u.1, (ready_both rows cs i k r a b l h is row low u.2).1)

pub row_left : (rows : List FormRow) (s : Side) (cs : CompTrees) (at : List ℕ → PatternTree) (i k : ℕ) (ns ms : List (List ℕ)) (ps qs : List PatternTree)
    (r : FormRow) (a : List ℕ) (t : Ty) → i < length rows → r ≡ get_or rows i r → r ≡ OnlyLeft a t
    → ms ≡ if_far Left s (insert ns (place_among a ns) a) ns → qs ≡ if_far Left s (insert ps (place_among a ns) hole) ps
    → Underway rows s cs at i k ns ps → Underway rows s cs at (i + 1) k ms qs
row_left rows s cs at i k ns ms ps qs r a t h is row names patterns u =
    moved rows s cs at (i + 1) k (if_far Left s (insert ns (place_among a ns) a) ns) ms (if_far Left s (insert ps (place_among a ns) hole) ps) qs names patterns
    (sym (placed_left rows s cs at i k ns ps r a t h is row) ∙ u.0, if_far_longer Left s a ns ps u.1, ready_left rows (comps_from cs k) i r a t h is row u.2)

pub row_right : (rows : List FormRow) (s : Side) (cs : CompTrees) (at : List ℕ → PatternTree) (i k : ℕ) (ns ms : List (List ℕ)) (ps qs : List PatternTree)
    (r : FormRow) (b : List ℕ) (t : Ty) → i < length rows → r ≡ get_or rows i r → r ≡ OnlyRight b t
    → ms ≡ if_far Right s (insert ns (place_among b ns) b) ns → qs ≡ if_far Right s (insert ps (place_among b ns) hole) ps
    → Underway rows s cs at i k ns ps → Underway rows s cs at (i + 1) k ms qs
row_right rows s cs at i k ns ms ps qs r b t h is row names patterns u =
    moved rows s cs at (i + 1) k (if_far Right s (insert ns (place_among b ns) b) ns) ms (if_far Right s (insert ps (place_among b ns) hole) ps) qs names patterns
    (sym (placed_right rows s cs at i k ns ps r b t h is row) ∙ u.0, if_far_longer Right s b ns ps u.1, ready_right rows (comps_from cs k) i r b t h is row u.2)

-- ---- alternatives

arm_found : (arms : ArmTrees) (s : Side) (t : List ℕ) (c : CompTree) (p : PatternTree) (a b : List ℕ) (l : FormTree) → first_arm arms t ≡ Some (a, b, l)
    → image_arm arms s t c p ≡ arm_pattern (near s a b) (far s a b) (image l s c) p
arm_found no_arms s t c p a b l e = cc
arm_found (more_arms x y k arms) s t c p a b l e = go (bytes_eq t x) e (λ h. arm_found arms s t c p a b l h)
  where
    go : (d : Bool) → (if d then Some (x, y, k) else first_arm arms t) ≡ Some (a, b, l)
        → (first_arm arms t ≡ Some (a, b, l) → image_arm arms s t c p ≡ arm_pattern (near s a b) (far s a b) (image l s c) p)
        → (if d then arm_pattern (near s x y) (far s x y) (image k s c) p else image_arm arms s t c p) ≡ arm_pattern (near s a b) (far s a b) (image l s c) p
    go true h again = ap (λ (q : List ℕ × List ℕ × FormTree). arm_pattern (near s q.0 q.1) (far s q.0 q.1) (image q.2 s c) p) (same_Some (x, y, k) (a, b, l) h)
    go false h again = again h

arm_missing : (arms : ArmTrees) (s : Side) (t : List ℕ) (c : CompTree) (p : PatternTree) → first_arm arms t ≡ None → image_arm arms s t c p ≡ None
arm_missing no_arms s t c p e = refl
arm_missing (more_arms x y k arms) s t c p e = go (bytes_eq t x) e (λ h. arm_missing arms s t c p h)
  where
    go : (d : Bool) → (if d then Some (x, y, k) else first_arm arms t) ≡ None → (first_arm arms t ≡ None → image_arm arms s t c p ≡ None)
        → (if d then arm_pattern (near s x y) (far s x y) (image k s c) p else image_arm arms s t c p) ≡ None
    go true h again = cc
    go false h again = again h

arm_ready : (arms : ArmTrees) (t : List ℕ) (c : CompTree) (a b : List ℕ) (l : FormTree) → first_arm arms t ≡ Some (a, b, l) → IsReadyArm arms t c → IsReady l c
arm_ready no_arms t c a b l e h = cc
arm_ready (more_arms x y k arms) t c a b l e h = go (bytes_eq t x) e h (λ m n. arm_ready arms t c a b l m n)
  where
    go : (d : Bool) → (if d then Some (x, y, k) else first_arm arms t) ≡ Some (a, b, l) → Chosen d (IsReady k c) (IsReadyArm arms t c)
        → (first_arm arms t ≡ Some (a, b, l) → IsReadyArm arms t c → IsReady l c) → IsReady l c
    go true m n again = subst (λ (q : List ℕ × List ℕ × FormTree). IsReady q.2 c) (same_Some (x, y, k) (a, b, l) m) n
    go false m n again = again m n

pub alt_found : (arms : ArmTrees) (s : Side) (e : CompTree) (t : List ℕ) (c : CompTree) (p : PatternTree) (a b : List ℕ) (l : FormTree) → e ≡ alt_comp t c
    → first_arm arms t ≡ Some (a, b, l) → image (form_alt arms) s e p ≡ arm_pattern (near s a b) (far s a b) (image l s c) p
alt_found arms s e t c p a b l is f = ap (λ z. image (form_alt arms) s z p) is ∙ arm_found arms s t c p a b l f

pub alt_missing : (arms : ArmTrees) (s : Side) (e : CompTree) (t : List ℕ) (c : CompTree) (p : PatternTree) → e ≡ alt_comp t c
    → first_arm arms t ≡ None → None ≡ image (form_alt arms) s e p
alt_missing arms s e t c p is f = sym (ap (λ z. image (form_alt arms) s z p) is ∙ arm_missing arms s t c p f)

pub ready_found : (arms : ArmTrees) (e : CompTree) (t : List ℕ) (c : CompTree) (a b : List ℕ) (l : FormTree) → e ≡ alt_comp t c → first_arm arms t ≡ Some (a, b, l)
    → IsReady (form_alt arms) e → IsReady l c
ready_found arms e t c a b l is f h = arm_ready arms t c a b l f (subst (λ z. IsReady (form_alt arms) z) is h)

arm_is : (n m : List ℕ) (inner : PatternTree → Option PatternTree) (p : PatternTree)
    → arm_pattern n m inner p ≡ option_and_then (λ q. option_map (alt_pattern m) (inner q)) (content_pattern n p)
arm_is n m inner hole = refl
arm_is n m inner (alt_pattern i p) = go (bytes_eq i n)
  where
    go : (b : Bool) → (if b then option_map (alt_pattern m) (inner p) else None) ≡ option_and_then (λ q. option_map (alt_pattern m) (inner q)) (if b then Some p else None)
    go true = refl
    go false = refl
arm_is n m inner unit_pattern = refl
arm_is n m inner (truth_pattern b) = refl
arm_is n m inner (int_pattern z) = refl
arm_is n m inner (text_pattern t) = refl
arm_is n m inner (pick_pattern i) = refl
arm_is n m inner (rec_pattern ps) = refl
arm_is n m inner (hold_pattern s ps) = refl

pub content_none : (n m : List ℕ) (inner : PatternTree → Option PatternTree) (p : PatternTree) → content_pattern n p ≡ None → arm_pattern n m inner p ≡ None
content_none n m inner p e = arm_is n m inner p ∙ rw e refl

pub inside_none : (n m : List ℕ) (inner : PatternTree → Option PatternTree) (p q : PatternTree) → content_pattern n p ≡ Some q → inner q ≡ None
    → arm_pattern n m inner p ≡ None
inside_none n m inner p q e f = arm_is n m inner p ∙ rw (e, f) refl

pub inside_some : (n m : List ℕ) (inner : PatternTree → Option PatternTree) (p q r : PatternTree) → content_pattern n p ≡ Some q → inner q ≡ Some r
    → arm_pattern n m inner p ≡ Some (alt_pattern m r)
inside_some n m inner p q r e f = arm_is n m inner p ∙ rw (e, f) refl

-- ---- containers

pub ready_held : (ready : CompTree → Type 0) (e : CompTree) (s : Shape) (cs : CompTrees) → e ≡ hold_comp s cs → AreReadyPlaces ready e → AreReadyPlaces ready (hold_comp s cs)
ready_held ready e s cs is h = subst (λ z. AreReadyPlaces ready z) is h

pub held_unlike : (inner : CompTree → PatternTree → Option PatternTree) (e : CompTree) (s : Shape) (cs : CompTrees) (p : PatternTree) → e ≡ hold_comp s cs
    → has_shape s (comp_count cs) p ≡ false → None ≡ image_held inner e p
held_unlike inner e s cs p is h = sym (ap (λ z. image_held inner z p) is ∙ held_none inner s cs p h)

all_places : (inner : CompTree → PatternTree → Option PatternTree) (e : CompTree) (s : Shape) (cs : CompTrees) (p : PatternTree) (o : Option (List PatternTree)) → e ≡ hold_comp s cs
    → has_shape s (comp_count cs) p ≡ true → o ≡ image_list inner (comp_list cs) (places_of (comp_count cs) p)
    → option_map (λ qs. hold_pattern s (patterns_from qs)) o ≡ image_held inner e p
all_places inner e s cs p o is h all =
    ap (option_map (λ qs. hold_pattern s (patterns_from qs))) all ∙ sym (ap (λ z. image_held inner z p) is ∙ held_is inner s cs p h)

pub held_failed : (inner : CompTree → PatternTree → Option PatternTree) (e : CompTree) (s : Shape) (cs : CompTrees) (p : PatternTree) (i : ℕ) (made : List Pattern) → e ≡ hold_comp s cs
    → has_shape s (comp_count cs) p ≡ true
    → still_imaged inner (comp_list cs) (places_of (comp_count cs) p) i made ≡ image_list inner (comp_list cs) (places_of (comp_count cs) p)
    → still_imaged inner (comp_list cs) (places_of (comp_count cs) p) i made ≡ None
    → None ≡ image_held inner e p
held_failed inner e s cs p i made is h inv none = all_places inner e s cs p None is h (sym none ∙ inv)

pub held_done : (inner : CompTree → PatternTree → Option PatternTree) (e : CompTree) (s : Shape) (cs : CompTrees) (p : PatternTree) (i : ℕ) (made : List Pattern) → e ≡ hold_comp s cs
    → has_shape s (comp_count cs) p ≡ true → comp_count cs ≤ i
    → still_imaged inner (comp_list cs) (places_of (comp_count cs) p) i made ≡ image_list inner (comp_list cs) (places_of (comp_count cs) p)
    → Some (hold_pattern s (patterns_from (map pattern_tree made))) ≡ image_held inner e p
held_done inner e s cs p i made is h end inv =
    all_places inner e s cs p (Some (map pattern_tree made)) is h
    (sym (imaged_end inner (comp_list cs) (places_of (comp_count cs) p) i made (omega (arith, comp_count-length cs)) (omega (arith, places-length s (comp_count cs) p h))) ∙ inv)

-- the image of the content of a place, and then those of the places after it
pub held_next : (inner : CompTree → PatternTree → Option PatternTree) (s : Shape) (cs : CompTrees) (p : PatternTree) (i : ℕ) (made : List Pattern) (c : CompTree) (q : PatternTree) (r : Pattern)
    → has_shape s (comp_count cs) p ≡ true → i < comp_count cs → c ≡ get_or (comp_list cs) i nil → q ≡ place_pattern p i → inner c q ≡ Some (pattern_tree r)
    → still_imaged inner (comp_list cs) (places_of (comp_count cs) p) i made ≡ image_list inner (comp_list cs) (places_of (comp_count cs) p)
    → still_imaged inner (comp_list cs) (places_of (comp_count cs) p) (i + 1) (made ++ r ∷ []) ≡ image_list inner (comp_list cs) (places_of (comp_count cs) p)
held_next inner s cs p i made c q r h low at near one inv =
    sym (imaged_next inner (comp_list cs) (places_of (comp_count cs) p) i made r (omega (arith, comp_count-length cs)) (omega (arith, places-length s (comp_count cs) p h))
    (subst (λ z. inner z (get_or (places_of (comp_count cs) p) i hole) ≡ Some (pattern_tree r)) at (subst (λ z. inner c z ≡ Some (pattern_tree r)) (near ∙ place_is s (comp_count cs) p i h) one)))
    ∙ inv

pub held_stopped : (inner : CompTree → PatternTree → Option PatternTree) (e : CompTree) (s : Shape) (cs : CompTrees) (p : PatternTree) (i : ℕ) (made : List Pattern) (c : CompTree) (q : PatternTree)
    → e ≡ hold_comp s cs → has_shape s (comp_count cs) p ≡ true → i < comp_count cs → c ≡ get_or (comp_list cs) i nil → q ≡ place_pattern p i → inner c q ≡ None
    → still_imaged inner (comp_list cs) (places_of (comp_count cs) p) i made ≡ image_list inner (comp_list cs) (places_of (comp_count cs) p)
    → None ≡ image_held inner e p
held_stopped inner e s cs p i made c q is h low at near none inv =
    held_failed inner e s cs p i made is h inv
    (imaged_none inner (comp_list cs) (places_of (comp_count cs) p) i made (omega (arith, comp_count-length cs)) (omega (arith, places-length s (comp_count cs) p h))
    (subst (λ z. inner z (get_or (places_of (comp_count cs) p) i hole) ≡ None) at (subst (λ z. inner c z ≡ None) (near ∙ place_is s (comp_count cs) p i h) none)))

-- ---- what each function of the code uses

pub ruleset then_rules = (comp_tree-then, ready_first, ready_second, then_left, then_right, none_left, none_right)

pub ruleset record_rules = (comp_tree-rec, ready_start, record_none, placed_none, placed_short)

pub ruleset field_rules = (hole_tree)

pub ruleset alternative_rules = (comp_tree-alt, alt_found, ready_found)

pub ruleset arm_rules = (content_none, inside_none, inside_some)

pub ruleset held_rules = (comp_tree-hold, held_unlike, has_place, imaged_start)
