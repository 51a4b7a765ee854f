-- The word that makes a document makes it.
use Rattle.std.proofs.Common.{◌≡◌, ℕ, ◌+◌, Bool, true, false, List, [], ◌∷◌, ◌++◌, length, get_or, set, ℤ, Option, None, Some, option_map, Result, Ok, Err, refl, sym, ap, subst, ◌∙◌, arith}
use Rattle.std.specs.Prelude.{IfOk, if◌then◌else◌, not, bytes_eq}
use Rattle.std.specs.Ordering.{int_eq}
use Rattle.std.proofs.lemmas.List.{append-nil, append_assoc, length-append}
use Rattle.std.proofs.lemmas.Bool.Decides.{Decides-int_eq}
use Rattle.std.proofs.Math.Seq.{get_or-append_seam}
use Rattle.hold_shapes.specs.declared.shape.Shape.{Shape}
use Rattle.hold_shapes.specs.declared.shape.Shape.TheVariants.{List as ListOf, Keyed as KeyedOf, Tree as TreeOf}
use Rattle.hold_shapes.specs.declared.edit.Place.TheVariants.{Node}
use Rattle.hold_shapes.specs.Plans.{list_of}
use Rattle.hold_shapes.specs.Shapes.{size_of}
use Rattle.hold_shapes.proofs.ValidDepths.{GoesOn, Low, Whole, whole}
use Rattle.texts.specs.Keys.{is_rising, all_after}
use Rattle.texts.proofs.Conjunction.{first, second}
use Rattle.texts.proofs.KeyOrder.{bytes_eq-refl, rising-first, rising-rest, before-differs, after-tail}
use Rattle.doc_values.specs.Documents.{DocTree, unit, truth, int, text, pick, rec, alt, hold, DocTrees, no_docs, more_docs, docs_of, doc_list}
use Rattle.doc_values.specs.Types.{TyTree, ty_unit, ty_bool, ty_int, ty_text, ty_enum, ty_rec, ty_alt, ty_list, ty_keyed, ty_ordered, FieldTrees, no_fields, more_fields, names_of, is_well_formed, are_well_formed, are_choices}
use Rattle.doc_values.specs.Typing.{has, has_fields, has_each, lookup_field, lookup_type, later_field}
use Rattle.doc_values.specs.Initial.{initial, initial_fields, initial_tag}
use Rattle.doc_values.proofs.Lists.{doc_list-docs_of, docs_of-doc_list}
use Rattle.doc_values.proofs.FieldPlaces.{lookup_type-well_formed}
use Rattle.edit_module.specs.declared.atom.Atom.{Atom}
use Rattle.edit_module.specs.declared.atom.Atom.TheVariants.{Truth, Number, Letters}
use Rattle.edit_inverse.proofs.ContainerKinds as kinds
use Rattle.edit_module.specs.declared.fault.Cause.{Cause}
use Rattle.edit_module.specs.declared.fault.Cause.TheVariants.{Place, Tag}
use Rattle.edit_module.specs.declared.word.Word.{Word}
use Rattle.edit_module.specs.Views.{word_tree}
use Rattle.edit_module.specs.Words.{set as set_to, at, stay, switch, WordTree, no_primitives}
use Rattle.edit_module.specs.Action.{Why, act, act_primitive, inner, map_ok, if_present, put_result_at, doc_at}
use Rattle.edit_module.proofs.ActionKeepsTypes.{list-held, keyed-held, tree-held}
use Rattle.edit_inverse.specs.Construct.{construct, construct_fields, construct_each, only, set_unless, unless_empty, at_each, to_tag, modify_each, put_each, graft_each, grow, insertions, names_in, depths_in}
use Rattle.edit_inverse.specs.Paths.{paths, paths_after}
use Rattle.edit_inverse.proofs.Acts.{acts-only, acts-unless, acts-there, acts-same, set-seam}
use Rattle.edit_inverse.proofs.Fills.{Built, fill-acts, insertions-act, put-acts, graft-acts}
use Rattle.texts.proofs.Tests.{bytes_eq-is_back}

-- ---- values

set-unless-acts : (b : Bool) (t : TyTree) (a : Atom) (v u : DocTree) → (b ≡ true → v ≡ u) → act_primitive t (set_to a) v ≡ Ok u → act t (set_unless b a) v ≡ Ok u
set-unless-acts true t a v u f h = ap (λ (d : DocTree). Ok d) (f refl)
set-unless-acts false t a v u f h = acts-only t (set_to a) v u h

not-true : (b : Bool) → not b ≡ true → false ≡ b
not-true true h = cc
not-true false h = refl

same-int : (n z : ℤ) → int_eq n z ≡ true → z ≡ n
same-int n z h = sym ((Decides-int_eq n z).0 h)

-- ---- records

-- the fields from place k on are found by their names
abbrev pub Found : FieldTrees → ℕ → FieldTrees → Type 0
Found fs k no_fields = Unit {0}
Found fs k (more_fields n t hs) = (lookup_field fs n ≡ Some (k, t)) × Found fs (k + 1) hs

abbrev pub Apart : List ℕ → FieldTrees → Type 0
Apart m no_fields = Unit {0}
Apart m (more_fields n t hs) = (bytes_eq m n ≡ false) × Apart m hs

apart-after : (m : List ℕ) (hs : FieldTrees) → all_after m (names_of hs) ≡ true → is_rising (names_of hs) ≡ true → Apart m hs
apart-after m no_fields h r = tt
apart-after m (more_fields n t hs) h r =
    (before-differs m n h, apart-after m hs (after-tail m n (names_of hs) h (rising-first n (names_of hs) r)) (rising-rest n (names_of hs) r))

found-later : (m : List ℕ) (u : TyTree) (fs : FieldTrees) (k : ℕ) (hs : FieldTrees) → Apart m hs → Found fs k hs → Found (more_fields m u fs) (k + 1) hs
found-later m u fs k no_fields a f = tt
found-later m u fs k (more_fields n t hs) a f =
    let one : 1 + k ≡ k + 1 = omega arith in
    let rest : lookup_field (more_fields m u fs) n ≡ Some (k + 1, t) =
    rw a.0 (ap (λ (o : Option (ℕ × TyTree)). option_map (later_field 1) o) f.0 ∙ ap (λ (i : ℕ). Some (i, t)) one) in
    (rest, found-later m u fs (k + 1) hs a.1 f.1)

found-all : (fs : FieldTrees) → is_rising (names_of fs) ≡ true → Found fs 0 fs
found-all no_fields r = tt
found-all (more_fields n t fs) r =
    let rest = is_rising (names_of fs) in
    let one : 0 + 1 ≡ 1 = omega arith in
    let tail = rising-rest n (names_of fs) r in
    (rw (bytes_eq-refl n) refl, found-later n t fs 0 fs (apart-after n fs (rising-first n (names_of fs) r) tail) (found-all fs tail))

-- each word makes the content of its field from the initial value
abbrev pub BuiltFields : FieldTrees → List WordTree → List DocTree → Type 0
BuiltFields no_fields [] [] = Unit {0}
BuiltFields (more_fields n t fs) (w ∷ ws) (y ∷ ys) = (act t w (initial t) ≡ Ok y) × BuiltFields fs ws ys
BuiltFields _ _ _ = ⊥

at-makes : (fs : FieldTrees) (n : List ℕ) (t : TyTree) (w : WordTree) (front back : List DocTree) (x y : DocTree) → lookup_field fs n ≡ Some (length front, t) → act t w x ≡ Ok y
    → act_primitive (ty_rec fs) (at n w) (rec (docs_of (front ++ x ∷ back))) ≡ Ok (rec (docs_of (front ++ y ∷ back)))
at-makes fs n t w front back x y e acts =
    let i = length front in
    let all = front ++ x ∷ back in
    let A : List DocTree → Result DocTree Cause = λ zs. map_ok rec (map_ok (λ v. docs_of (set zs i v)) (inner (act t w (get_or zs i unit)))) in
    ap (λ (o : Option (ℕ × TyTree)). if_present o Place (λ s. map_ok rec (put_result_at (docs_of all) s.0 (act s.1 w (doc_at (docs_of all) s.0))))) e
    ∙ (ap A (doc_list-docs_of all)
    ∙ (ap (λ (d : DocTree). map_ok rec (map_ok (λ v. docs_of (set all i v)) (inner (act t w d)))) (get_or-append_seam front x back unit)
    ∙ (ap (λ (r : Result DocTree Why). map_ok rec (map_ok (λ v. docs_of (set all i v)) (inner r))) acts
    ∙ ap (λ (l : List DocTree). Ok (rec (docs_of l))) (set-seam front back x y i refl))))

rec-same : (t : TyTree) (w : WordTree) (xs ys zs us : List DocTree) → xs ≡ ys → zs ≡ us → act t w (rec (docs_of xs)) ≡ Ok (rec (docs_of zs)) → act t w (rec (docs_of ys)) ≡ Ok (rec (docs_of us))
rec-same t w xs ys zs us e f k =
    ap (λ (l : List DocTree). act t w (rec (docs_of l))) (sym e) ∙ (k ∙ ap (λ (l : List DocTree). Ok (rec (docs_of l))) f)

at-acts : (fs hs : FieldTrees) (ws : List WordTree) (front ys : List DocTree) (k : ℕ) → k ≡ length front → Found fs k hs → BuiltFields hs ws ys
    → act (ty_rec fs) (at_each (names_of hs) ws) (rec (docs_of (front ++ doc_list (initial_fields hs)))) ≡ Ok (rec (docs_of (front ++ ys)))
at-acts fs no_fields [] front [] k e f b = refl
at-acts fs no_fields [] front (y ∷ ys) k e f b = absurd b
at-acts fs no_fields (w ∷ ws) front ys k e f b = absurd b
at-acts fs (more_fields n t hs) [] front ys k e f b = absurd b
at-acts fs (more_fields n t hs) (w ∷ ws) front [] k e f b = absurd b
at-acts fs (more_fields n t hs) (w ∷ ws) front (y ∷ ys) k e f b =
    let l = length-append front (y ∷ []) in
    let back = doc_list (initial_fields hs) in
    let ih = at-acts fs hs ws (front ++ y ∷ []) ys (k + 1) (omega arith) f.1 b.1 in
    let goes = rec-same (ty_rec fs) (at_each (names_of hs) ws) ((front ++ y ∷ []) ++ back) (front ++ y ∷ back) ((front ++ y ∷ []) ++ ys) (front ++ y ∷ ys)
    (append_assoc front (y ∷ []) back) (append_assoc front (y ∷ []) ys) ih in
    let here : lookup_field fs n ≡ Some (length front, t) = f.0 ∙ ap (λ (i : ℕ). Some (i, t)) e in
    acts-unless (ty_rec fs) t (at n) w (at_each (names_of hs) ws) (initial t) y (rec (docs_of (front ++ initial t ∷ back))) (rec (docs_of (front ++ y ∷ back))) (rec (docs_of (front ++ y ∷ ys))) b.0
    (λ q. ap (λ (d : DocTree). rec (docs_of (front ++ d ∷ back))) q)
    (at-makes fs n t w front back (initial t) y here b.0) goes

record-acts : (fs : FieldTrees) (ds : DocTrees) (ws : List WordTree) → is_rising (names_of fs) ≡ true → BuiltFields fs ws (doc_list ds)
    → act (ty_rec fs) (at_each (names_of fs) ws) (rec (initial_fields fs)) ≡ Ok (rec ds)
record-acts fs ds ws r b =
    let got = at-acts fs fs ws [] (doc_list ds) 0 refl (found-all fs r) b in
    ap (λ (es : DocTrees). act (ty_rec fs) (at_each (names_of fs) ws) (rec es)) (sym (docs_of-doc_list (initial_fields fs)))
    ∙ (got ∙ ap (λ (es : DocTrees). Ok (rec es)) (docs_of-doc_list ds))

-- ---- alternatives

stay-makes : (fs : FieldTrees) (n : List ℕ) (t : TyTree) (w : WordTree) (x y : DocTree) → lookup_type fs n ≡ Some t → act t w x ≡ Ok y
    → act_primitive (ty_alt fs) (stay n w) (alt n x) ≡ Ok (alt n y)
stay-makes fs n t w x y e acts =
    ap (λ (b : Bool). if b then if_present (lookup_type fs n) Tag (λ ty. map_ok (alt n) (inner (act ty w x))) else Err Tag) (bytes_eq-refl n)
    ∙ (ap (λ (o : Option TyTree). if_present o Tag (λ ty. map_ok (alt n) (inner (act ty w x)))) e
    ∙ ap (λ (r : Result DocTree Why). map_ok (alt n) (inner r)) acts)

switch-makes : (fs : FieldTrees) (n a : List ℕ) (t : TyTree) (w : WordTree) (x y : DocTree) → lookup_type fs a ≡ Some t → act t w (initial t) ≡ Ok y
    → act_primitive (ty_alt fs) (switch n a w) (alt n x) ≡ Ok (alt a y)
switch-makes fs n a t w x y e acts =
    ap (λ (b : Bool). if b then if_present (lookup_type fs a) Tag (λ ty. map_ok (alt a) (inner (act ty w (initial ty)))) else Err Tag) (bytes_eq-refl n)
    ∙ (ap (λ (o : Option TyTree). if_present o Tag (λ ty. map_ok (alt a) (inner (act ty w (initial ty))))) e
    ∙ ap (λ (r : Result DocTree Why). map_ok (alt a) (inner r)) acts)

tag-step : (b : Bool) (n a : List ℕ) (t1 t : TyTree) (fs : FieldTrees) (w : WordTree) (y : DocTree) → bytes_eq n a ≡ b
    → lookup_type (more_fields n t1 fs) a ≡ Some t → act t w (initial t) ≡ Ok y
    → act (ty_alt (more_fields n t1 fs)) (if b then unless_empty (stay n) w no_primitives else only (switch n a w)) (alt n (initial t1)) ≡ Ok (alt a y)
tag-step true n a t1 t fs w y h e acts =
    let gs = more_fields n t1 fs in
    let same : a ≡ n = bytes_eq-is_back n a h in
    let here : lookup_type gs n ≡ Some t1 = rw (bytes_eq-refl n) refl in
    let L : List ℕ → Type 0 = λ m. lookup_type gs m ≡ Some t in
    let one : Some t1 ≡ Some t = sym here ∙ subst L same e in
    let ty : t1 ≡ t = cc in
    let A : TyTree → Type 0 = λ u. act u w (initial u) ≡ Ok y in
    let acts1 : act t1 w (initial t1) ≡ Ok y = subst A (sym ty) acts in
    let G : List ℕ → Type 0 = λ m. act (ty_alt gs) (unless_empty (stay n) w no_primitives) (alt n (initial t1)) ≡ Ok (alt m y) in
    subst G (sym same)
    (acts-unless (ty_alt gs) t1 (stay n) w no_primitives (initial t1) y (alt n (initial t1)) (alt n y) (alt n y) acts1 (λ q. ap (alt n) q) (stay-makes gs n t1 w (initial t1) y here acts1) refl)
tag-step false n a t1 t fs w y h e acts =
    acts-only (ty_alt (more_fields n t1 fs)) (switch n a w) (alt n (initial t1)) (alt a y) (switch-makes (more_fields n t1 fs) n a t w (initial t1) y e acts)

tag-acts : (fs : FieldTrees) (a : List ℕ) (t : TyTree) (w : WordTree) (y : DocTree) → lookup_type fs a ≡ Some t → act t w (initial t) ≡ Ok y
    → act (ty_alt fs) (to_tag fs a w) (initial_tag fs) ≡ Ok (alt a y)
tag-acts no_fields a t w y e acts = cc
tag-acts (more_fields n t1 fs) a t w y e acts = tag-step (bytes_eq n a) n a t1 t fs w y refl e acts

-- ---- containers

list-acts : (t : TyTree) (s : Shape) (ds : DocTrees) (ws : List WordTree) → has (ty_list t) (hold s ds) ≡ true → Built t ws (doc_list ds)
    → act (ty_list t) (insertions (size_of s) (modify_each 0 ws)) (hold (list_of 0) no_docs) ≡ Ok (hold s ds)
list-acts t (ListOf l) ds ws h b =
    let held = list-held t (ListOf l) ds h in
    let ys = doc_list ds in
    let n : l.count ≡ length ys = held.long in
    let filled = fill-acts t ws [] ys (length ys) 0 b refl (omega arith) in
    let P : ℕ → Type 0 = λ m. act (ty_list t) (insertions m (modify_each 0 ws)) (hold (list_of 0) no_docs) ≡ Ok (hold (list_of m) (docs_of ys)) in
    let got : P l.count = subst P (sym n) (insertions-act t (length ys) (modify_each 0 ws) (hold (list_of (length ys)) (docs_of ys)) filled) in
    got ∙ ap (λ (es : DocTrees). Ok (hold (ListOf l) es)) (docs_of-doc_list ds)
list-acts t (KeyedOf ks) ds ws h b = cc
list-acts t (TreeOf e) ds ws h b = cc

keyed-acts : (t : TyTree) (s : Shape) (ds : DocTrees) (ws : List WordTree) → has (ty_keyed t) (hold s ds) ≡ true → Built t ws (doc_list ds)
    → act (ty_keyed t) (put_each (names_in s) ws) (hold (KeyedOf []) no_docs) ≡ Ok (hold s ds)
keyed-acts t (ListOf l) ds ws h b = cc
keyed-acts t (KeyedOf ks) ds ws h b =
    let held = keyed-held t (KeyedOf ks) ds h in
    put-acts t ks ws [] [] (doc_list ds) b held.long refl held.shape_is ∙ ap (λ (es : DocTrees). Ok (hold (KeyedOf ks) es)) (docs_of-doc_list ds)
keyed-acts t (TreeOf e) ds ws h b = cc

low-goes : (b : ℕ) (ds : List ℕ) → GoesOn b ds → Low 1 ds
low-goes b [] g = tt
low-goes b (d ∷ ds) g = (g.0, low-goes d ds g.3)

nodes-act : (t : TyTree) (es : List ℕ) (ys : List DocTree) (ws : List WordTree) → Whole es → length es ≡ length ys → Built t ws ys
    → act (ty_ordered t) (grow (paths es) ws) (hold (TreeOf (0 ∷ [])) (docs_of (initial t ∷ []))) ≡ Ok (hold (TreeOf es) (docs_of ys))
nodes-act t [] ys ws g e b = absurd g
nodes-act t (d ∷ es) [] ws g e b = absurd (omega arith)
nodes-act t (d ∷ es) (y ∷ ys) [] g e b = absurd b
nodes-act t (d ∷ es) (y ∷ ys) (w ∷ ws) g e b =
    let got = graft-acts t es ws ys [] [] [] 0 (y ∷ []) [] refl g.1 (let one : 0 + 1 ≡ 1 = omega arith in let P : ℕ → Type 0 = λ n. Low n es in subst P (sym one) (low-goes 0 es g.1)) tt b.1 (omega arith) refl refl in
    let goes = acts-same (ty_ordered t) (graft_each (paths_after [] es) ws) (TreeOf (0 ∷ [])) (TreeOf (0 ∷ [])) (TreeOf (0 ∷ (es ++ []))) (TreeOf (0 ∷ es))
    (y ∷ []) (y ∷ []) (y ∷ (ys ++ [])) (y ∷ ys) refl refl (ap (λ (l : List ℕ). TreeOf (0 ∷ l)) (append-nil es)) (ap (λ (l : List DocTree). y ∷ l) (append-nil ys)) got in
    let made = acts-there kinds.Tree t (Node []) w (graft_each (paths_after [] es) ws) (TreeOf (0 ∷ [])) [] [] (initial t) y 0 (hold (TreeOf (0 ∷ es)) (docs_of (y ∷ ys))) refl refl refl b.0 goes in
    let P : ℕ → Type 0 = λ n. act (ty_ordered t) (grow (paths (d ∷ es)) (w ∷ ws)) (hold (TreeOf (0 ∷ [])) (docs_of (initial t ∷ []))) ≡ Ok (hold (TreeOf (n ∷ es)) (docs_of (y ∷ ys))) in
    subst P (sym g.0) made

tree-acts : (t : TyTree) (s : Shape) (ds : DocTrees) (ws : List WordTree) → has (ty_ordered t) (hold s ds) ≡ true → Built t ws (doc_list ds)
    → act (ty_ordered t) (grow (paths (depths_in s)) ws) (hold (TreeOf (0 ∷ [])) (more_docs (initial t) no_docs)) ≡ Ok (hold s ds)
tree-acts t (ListOf l) ds ws h b = cc
tree-acts t (KeyedOf ks) ds ws h b = cc
tree-acts t (TreeOf es) ds ws h b =
    let held = tree-held t (TreeOf es) ds h in
    nodes-act t es (doc_list ds) ws (whole es held.shape_is) held.long b ∙ ap (λ (fs : DocTrees). Ok (hold (TreeOf es) fs)) (docs_of-doc_list ds)

-- ---- all documents

tag-word : (o : Option TyTree) (t : TyTree) (v : DocTree) → o ≡ Some t → elim o [ None ↦ no_primitives | Some u ↦ construct u v ] ≡ construct t v
tag-word None t v e = cc
tag-word (Some u) t v e = let same : u ≡ t = cc in ap (λ (x : TyTree). construct x v) same

tag-found : (o : Option TyTree) (v : DocTree) → elim o [ None ↦ false | Some t ↦ has t v ] ≡ true → (t : TyTree) × (o ≡ Some t) × (has t v ≡ true)
tag-found None v h = cc
tag-found (Some t) v h = (t, refl, h)

mutual
  pub construct-acts : (v : DocTree) (t : TyTree) → is_well_formed t ≡ true → has t v ≡ true → act t (construct t v) (initial t) ≡ Ok v
  construct-acts unit ty_unit wf h = refl
  construct-acts (truth b) ty_bool wf h = set-unless-acts (not b) ty_bool (Truth b) (truth false) (truth b) (λ e. ap truth (not-true b e)) refl
  construct-acts (int n) (ty_int z) wf h = set-unless-acts (int_eq n z) (ty_int z) (Number n) (int z) (int n) (λ e. ap int (same-int n z e)) refl
  construct-acts (text s) (ty_text z) wf h = set-unless-acts (bytes_eq s z) (ty_text z) (Letters s) (text z) (text s) (λ e. ap text (bytes_eq-is_back s z e)) refl
  construct-acts (pick n) (ty_enum ms z) wf h = set-unless-acts (bytes_eq n z) (ty_enum ms z) (Letters n) (pick z) (pick n) (λ e. ap pick (bytes_eq-is_back n z e)) (rw h refl)
  construct-acts (rec ds) (ty_rec fs) wf h =
      record-acts fs ds (construct_fields fs ds) (first (is_rising (names_of fs)) (are_well_formed fs) wf) (fields-built ds fs (second (is_rising (names_of fs)) (are_well_formed fs) wf) h)
  construct-acts (alt a v) (ty_alt fs) wf h =
      let k = tag-found (lookup_type fs a) v h in
      let made = construct-acts v k.0 (lookup_type-well_formed fs a k.0 (second (are_choices (names_of fs)) (are_well_formed fs) wf) k.1) k.2 in
      let P : WordTree → Type 0 = λ w. act (ty_alt fs) (to_tag fs a w) (initial_tag fs) ≡ Ok (alt a v) in
      subst P (sym (tag-word (lookup_type fs a) k.0 v k.1)) (tag-acts fs a k.0 (construct k.0 v) v k.1 made)
  construct-acts (hold s ds) (ty_list t) wf h = list-acts t s ds (construct_each t ds) h (each-built ds t wf (list-held t s ds h).each)
  construct-acts (hold s ds) (ty_keyed t) wf h = keyed-acts t s ds (construct_each t ds) h (each-built ds t wf (keyed-held t s ds h).each)
  construct-acts (hold s ds) (ty_ordered t) wf h = tree-acts t s ds (construct_each t ds) h (each-built ds t wf (tree-held t s ds h).each)
  construct-acts _ _ wf h = cc

  pub fields-built : (ds : DocTrees) (fs : FieldTrees) → are_well_formed fs ≡ true → has_fields fs ds ≡ true → BuiltFields fs (construct_fields fs ds) (doc_list ds)
  fields-built no_docs no_fields wf h = tt
  fields-built no_docs (more_fields n t fs) wf h = cc
  fields-built (more_docs d ds) no_fields wf h = cc
  fields-built (more_docs d ds) (more_fields n t fs) wf h = (
    construct-acts d t (first (is_well_formed t) (are_well_formed fs) wf) (first (has t d) (has_fields fs ds) h),
    fields-built ds fs (second (is_well_formed t) (are_well_formed fs) wf) (second (has t d) (has_fields fs ds) h),
  )

  pub each-built : (ds : DocTrees) (t : TyTree) → is_well_formed t ≡ true → has_each t ds ≡ true → Built t (construct_each t ds) (doc_list ds)
  each-built no_docs t wf h = tt
  each-built (more_docs d ds) t wf h = (construct-acts d t wf (first (has t d) (has_each t ds) h), each-built ds t wf (second (has t d) (has_each t ds) h))

pub construct-law : (t : TyTree) (v : DocTree) → is_well_formed t ≡ true → has t v ≡ true → act t (construct t v) (initial t) ≡ Ok v
construct-law t v wf h = construct-acts v t wf h

-- the word that the code made acts so, too
pub made-acts : {E : Type 0} (t : TyTree) (v : DocTree) (r : Result Word E) → has t v ≡ true → IfOk r (λ w. word_tree w ≡ construct t v) → is_well_formed t ≡ true → IfOk r (λ w. act t (word_tree w) (initial t) ≡ Ok v)
made-acts t v (Ok w) h e wf = ap (λ (x : WordTree). act t x (initial t)) e ∙ construct-acts v t wf h
made-acts t v (Err x) h e wf = tt
