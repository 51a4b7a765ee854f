-- The laws of the map over a container, from those of the inner lens: for lists, keyed maps and ordered trees by one proof.
use Rattle.std.proofs.Common.{◌≡◌, ℕ, zero, suc, ◌<◌, Bool, true, List, length, map, Option, None, Some, Result, Ok, Err, refl, ap, sym, ◌∙◌, subst, arith}
use Rattle.std.specs.Prelude.{nat_eq}
use Rattle.std.proofs.lemmas.Bool.Decides.{nat_tests}
use Rattle.hold_shapes.specs.declared.shape.Shape.{Shape}
use Rattle.hold_shapes.specs.declared.shape.Shape.TheVariants.{List as ListOf, Keyed as KeyedOf, Tree as TreeOf}
use Rattle.hold_shapes.specs.declared.origins.Origin.{Origin}
use Rattle.hold_shapes.specs.declared.edit.Place.{Place as PlaceOf}
use Rattle.hold_shapes.specs.declared.edit.Place.TheVariants.{Index, Key, Node}
use Rattle.hold_shapes.specs.declared.edit.ShapeEdit.{ShapeEdit}
use Rattle.hold_shapes.specs.Shapes.{place_of}
use Rattle.hold_shapes.specs.Plans.{plan, Planned}
use Rattle.hold_shapes.specs.Gather.{content_at}
use Rattle.texts.specs.declared.side.Side.{Side}
use Rattle.texts.specs.declared.side.Side.TheVariants.{Left, Right}
use Rattle.edit_module.specs.declared.fault.Cause.TheVariants.{Place}
use Rattle.doc_values.specs.Documents.{DocTree, unit, hold, DocTrees, no_docs, more_docs, doc_list}
use Rattle.doc_values.specs.Types.{TyTree, ty_list, ty_keyed, ty_ordered, is_well_formed}
use Rattle.doc_values.specs.Typing.{has, is_list_of, is_keyed_of, is_tree_of}
use Rattle.doc_values.specs.Initial.{initial}
use Rattle.edit_module.specs.Words.{PrimitiveTree, modify, shape, WordTree, no_primitives, more_primitives}
use Rattle.edit_module.specs.Action.{Why, act, act_primitive, act_at_place, map_ok, put_result_at, put_at, doc_at, if_present, gathered, reshaped, inner}
use Rattle.edit_module.specs.Containers.{IsHeld}
use Rattle.lens_forms.specs.Forms.{FormTree, form_each, form_keyed, form_ordered}
use Rattle.texts.specs.Sides.{other}
use Rattle.lens_core.specs.Sides.{type_on}
use Rattle.lens_core.specs.Emitted.{mod_word, shape_word, one_by_one}
use Rattle.lens_core.specs.Complements.{CompTree, nil, hold_comp, CompTrees, comps_of, comp_list, comp_count, Fits, AllFit, missing}
use Rattle.lens_core.specs.Consistency.{IsConsistent, AreTyped, AtEachPlace, AreHeld}
use Rattle.lens_core.specs.Translation.{translate_one, translate, held_row, comp_at, put_comp}
use Rattle.texts.specs.Keys.{is_rising}
use Rattle.hold_shapes.specs.Trees.{is_valid}
use Rattle.texts.proofs.Conjunction.{both, first, second}
use Rattle.lens_core.specs.Laws.{IsRelated, Carries, Laws}
use Rattle.doc_values.proofs.Lists.{docs_of-doc_list}
use Rattle.edit_module.proofs.ActionKeepsTypes.{has_primitive, has_act, list-held, keyed-held, tree-held}
use Rattle.edit_module.proofs.PlannedShapes.{place_of-within}
use Rattle.lens_core.proofs.LawsOfWords.{edits_carry, consistent_is_typed, related_fits, starts_on}
use Rattle.lens_core.proofs.ComplementTrees.{comp_count-length}
use Rattle.lens_core.proofs.RecordFields.{put_same}
use Rattle.lens_core.proofs.Results.{acted_at}
use Rattle.container_lens.proofs.EachPlace.{each-length, each-at, each-set, each-gathered, each-turned, each-fit}

-- the three kinds
data Kind : Type 0 where
  of_list : Kind
  of_keyed : Kind
  of_tree : Kind

-- the containers of a kind with contents of a type
abbrev container_type : Kind → TyTree → TyTree
container_type of_list t = ty_list t
container_type of_keyed t = ty_keyed t
container_type of_tree t = ty_ordered t

-- the map of a lens over a kind of container
abbrev form_of : Kind → FormTree → FormTree
form_of of_list l = form_each l
form_of of_keyed l = form_keyed l
form_of of_tree l = form_ordered l

-- a shape of the kind with n places
abbrev is_kind_of : Kind → Shape → ℕ → Bool
is_kind_of of_list s n = is_list_of s n
is_kind_of of_keyed s n = is_keyed_of s n
is_kind_of of_tree s n = is_tree_of s n

type_is : (k : Kind) (l : FormTree) (s : Side) → type_on s (form_of k l) ≡ container_type k (type_on s l)
type_is of_list l Left = refl
type_is of_list l Right = refl
type_is of_keyed l Left = refl
type_is of_keyed l Right = refl
type_is of_tree l Left = refl
type_is of_tree l Right = refl

-- ---- a consistent triple taken apart, from either side

record IsHeldTriple (k : Kind) (l : FormTree) (s : Side) (x : DocTree) (c : CompTree) (y : DocTree) : Type 0 where
  sh : Shape
  xs : DocTrees
  cs : CompTrees
  ys : DocTrees
  near_is : x ≡ hold sh xs
  comp_is : c ≡ hold_comp sh cs
  far_is : y ≡ hold sh ys
  near_has : has (container_type k (type_on s l)) (hold sh xs) ≡ true
  far_has : has (container_type k (type_on (other s) l)) (hold sh ys) ≡ true
  comp_kind : is_kind_of k sh (comp_count cs) ≡ true
  places : AtEachPlace (IsRelated l s) xs cs ys

-- three shapes that are the same
record AreSameShapes (R : DocTree → CompTree → DocTree → Type 0) (x : DocTree) (c : CompTree) (y : DocTree) : Type 0 where
  sh : Shape
  xs : DocTrees
  cs : CompTrees
  ys : DocTrees
  near_is : x ≡ hold sh xs
  comp_is : c ≡ hold_comp sh cs
  far_is : y ≡ hold sh ys
  places : AtEachPlace R xs cs ys

held_parts : (R : DocTree → CompTree → DocTree → Type 0) (x : DocTree) (c : CompTree) (y : DocTree) → AreHeld R x c y → AreSameShapes R x c y
held_parts R (hold s xs) (hold_comp r cs) (hold q ys) h = record { sh = s; xs = xs; cs = cs; ys = ys; near_is = refl; comp_is = ap (λ z. hold_comp z cs) h.0; far_is = ap (λ z. hold z ys) h.1; places = h.2 }
held_parts R x c y h = absurd h

-- the fit of a complement of a container
fit_kind : (k : Kind) (l : FormTree) (s : Shape) (cs : CompTrees) → Fits (form_of k l) (hold_comp s cs) → is_kind_of k s (comp_count cs) ≡ true
fit_kind of_list l s cs h = h.0
fit_kind of_keyed l s cs h = h.0
fit_kind of_tree l s cs h = h.0

fit_held : (k : Kind) (l : FormTree) (s : Shape) (cs : CompTrees) → is_kind_of k s (comp_count cs) ≡ true → AllFit (Fits l) cs → Fits (form_of k l) (hold_comp s cs)
fit_held of_list l s cs h f = (h, f)
fit_held of_keyed l s cs h f = (h, f)
fit_held of_tree l s cs h f = (h, f)

-- the relation of a container, as one for the three kinds
held_relation : (k : Kind) (l : FormTree) (x : DocTree) (c : CompTree) (y : DocTree) → IsConsistent (form_of k l) x c y → AreTyped (form_of k l) x c y × AreHeld (IsConsistent l) x c y
held_relation of_list l x c y h = h
held_relation of_keyed l x c y h = h
held_relation of_tree l x c y h = h

held_consistent : (k : Kind) (l : FormTree) (x : DocTree) (c : CompTree) (y : DocTree) → AreTyped (form_of k l) x c y → AreHeld (IsConsistent l) x c y → IsConsistent (form_of k l) x c y
held_consistent of_list l x c y t h = (t, h)
held_consistent of_keyed l x c y t h = (t, h)
held_consistent of_tree l x c y t h = (t, h)

near_has_type : (k : Kind) (l : FormTree) (s : Side) (x : DocTree) → has (type_on s (form_of k l)) x ≡ true → has (container_type k (type_on s l)) x ≡ true
near_has_type k l s x h = subst (λ t. has t x ≡ true) (type_is k l s) h

held_left : (k : Kind) (l : FormTree) (x : DocTree) (c : CompTree) (y : DocTree) → IsConsistent (form_of k l) x c y → IsHeldTriple k l Left x c y
held_left k l x c y h =
    let r = held_relation k l x c y h in
    let a = held_parts (IsConsistent l) x c y r.1 in
    record {
      sh = a.sh;
      xs = a.xs;
      cs = a.cs;
      ys = a.ys;
      near_is = a.near_is;
      comp_is = a.comp_is;
      far_is = a.far_is;
      near_has = near_has_type k l Left (hold a.sh a.xs) (subst (λ z. has (type_on Left (form_of k l)) z ≡ true) a.near_is r.0.left_has);
      far_has = near_has_type k l Right (hold a.sh a.ys) (subst (λ z. has (type_on Right (form_of k l)) z ≡ true) a.far_is r.0.right_has);
      comp_kind = fit_kind k l a.sh a.cs (subst (λ z. Fits (form_of k l) z) a.comp_is r.0.comp_fits);
      places = a.places;
    }

held_right : (k : Kind) (l : FormTree) (x : DocTree) (c : CompTree) (y : DocTree) → IsConsistent (form_of k l) x c y → IsHeldTriple k l Right y c x
held_right k l x c y h =
    let a = held_left k l x c y h in
    record {
      sh = a.sh;
      xs = a.ys;
      cs = a.cs;
      ys = a.xs;
      near_is = a.far_is;
      comp_is = a.comp_is;
      far_is = a.near_is;
      near_has = a.far_has;
      far_has = a.near_has;
      comp_kind = a.comp_kind;
      places = each-turned (IsConsistent l) (IsRelated l Right) (λ x c y h. h) a.xs a.cs a.ys a.places;
    }

held_triple : (k : Kind) (l : FormTree) (s : Side) (x : DocTree) (c : CompTree) (y : DocTree) → IsRelated (form_of k l) s x c y → IsHeldTriple k l s x c y
held_triple k l Left x c y h = held_left k l x c y h
held_triple k l Right x c y h = held_right k l y c x h

-- ---- and put together again

held_related : (k : Kind) (l : FormTree) (s : Side) (sh : Shape) (xs : DocTrees) (cs : CompTrees) (ys : DocTrees)
    → has (container_type k (type_on s l)) (hold sh xs) ≡ true → has (container_type k (type_on (other s) l)) (hold sh ys) ≡ true → is_kind_of k sh (comp_count cs) ≡ true
    → AtEachPlace (IsRelated l s) xs cs ys → IsRelated (form_of k l) s (hold sh xs) (hold_comp sh cs) (hold sh ys)
held_related k l Left sh xs cs ys h g f r = held_consistent k l (hold sh xs) (hold_comp sh cs) (hold sh ys) (record {
  left_has = subst (λ t. has t (hold sh xs) ≡ true) (sym (type_is k l Left)) h;
  comp_fits = fit_held k l sh cs f (each-fit (IsRelated l Left) (Fits l) (λ x c y q. related_fits l Left x c y q) xs cs ys r);
  right_has = subst (λ t. has t (hold sh ys) ≡ true) (sym (type_is k l Right)) g;
}) (refl, refl, r)
held_related k l Right sh ys cs xs h g f r = held_consistent k l (hold sh xs) (hold_comp sh cs) (hold sh ys) (record {
  left_has = subst (λ t. has t (hold sh xs) ≡ true) (sym (type_is k l Left)) g;
  comp_fits = fit_held k l sh cs f (each-fit (IsRelated l Right) (Fits l) (λ x c y q. related_fits l Right x c y q) ys cs xs r);
  right_has = subst (λ t. has t (hold sh ys) ≡ true) (sym (type_is k l Right)) h;
}) (refl, refl, each-turned (IsRelated l Right) (IsConsistent l) (λ x c y q. q) ys cs xs r)

-- ---- what acts on a container

-- one place is acted on, or the shape is edited
data ActsOnHeld (k : Kind) (t : TyTree) (sh : Shape) (xs : DocTrees) (p : PrimitiveTree) (x' : DocTree) : Type 0 where
  acts_at : (q : PlaceOf) (w : WordTree) (i : ℕ) (v : DocTree) → p ≡ modify q w → place_of sh q ≡ Some i → act t w (doc_at xs i) ≡ Ok v → x' ≡ hold sh (put_at xs i v) → ActsOnHeld k t sh xs p x'
  reshapes : (e : ShapeEdit) (sh' : Shape) (from : List Origin) → p ≡ shape e → plan sh e ≡ Ok (sh', from) → x' ≡ hold sh' (gathered from xs (initial t)) → ActsOnHeld k t sh xs p x'

held_of : (k : Kind) (t : TyTree) (sh : Shape) (xs : DocTrees) → has (container_type k t) (hold sh xs) ≡ true → IsHeld t sh xs
held_of of_list t sh xs h = list-held t sh xs h
held_of of_keyed t sh xs h = keyed-held t sh xs h
held_of of_tree t sh xs h = tree-held t sh xs h

acts_at_place : (k : Kind) (t : TyTree) (sh : Shape) (xs : DocTrees) (q : PlaceOf) (w : WordTree) (x' : DocTree) → act_at_place (λ v. act t w v) sh xs q ≡ Ok x' → ActsOnHeld k t sh xs (modify q w) x'
acts_at_place k t sh xs q w x' e = let a = acted_at t w sh xs q x' e in acts_at q w a.0 a.1 refl a.2 a.3 a.4

reshaped_ok : (k : Kind) (t : TyTree) (sh : Shape) (xs : DocTrees) (e : ShapeEdit) (x' : DocTree) (p : Planned) → plan sh e ≡ p → reshaped p xs (initial t) ≡ Ok x' → ActsOnHeld k t sh xs (shape e) x'
reshaped_ok k t sh xs e x' (Ok p) f h = reshapes e p.0 p.1 refl f (cc)
reshaped_ok k t sh xs e x' (Err c) f h = cc

acts_on_held : (k : Kind) (t : TyTree) (sh : Shape) (xs : DocTrees) (p : PrimitiveTree) (x' : DocTree) → act_primitive (container_type k t) p (hold sh xs) ≡ Ok x' → ActsOnHeld k t sh xs p x'
acts_on_held of_list t sh xs (modify (Index q) w) x' e = acts_at_place of_list t sh xs (Index q) w x' e
acts_on_held of_keyed t sh xs (modify (Key q) w) x' e = acts_at_place of_keyed t sh xs (Key q) w x' e
acts_on_held of_tree t sh xs (modify (Node q) w) x' e = acts_at_place of_tree t sh xs (Node q) w x' e
acts_on_held of_list t sh xs (shape a) x' e = reshaped_ok of_list t sh xs a x' (plan sh a) refl e
acts_on_held of_keyed t sh xs (shape a) x' e = reshaped_ok of_keyed t sh xs a x' (plan sh a) refl e
acts_on_held of_tree t sh xs (shape a) x' e = reshaped_ok of_tree t sh xs a x' (plan sh a) refl e
acts_on_held _ t sh xs _ x' e = cc

-- ---- what acts on the other container

acts_there : (t : TyTree) (w : WordTree) (s : Shape) (ds : DocTrees) (q : PlaceOf) (i : ℕ) (v : DocTree) → place_of s q ≡ Some i → act t w (doc_at ds i) ≡ Ok v
    → act_at_place (λ u. act t w u) s ds q ≡ Ok (hold s (put_at ds i v))
acts_there t w s ds q i v f a = rw f (rw a refl)

one_place : (k : Kind) (t : TyTree) (w : WordTree) (sh : Shape) (ys : DocTrees) (n : ℕ) (q : PlaceOf) (i : ℕ) (z : DocTree) → is_kind_of k sh n ≡ true → place_of sh q ≡ Some i
    → act_at_place (λ u. act t w u) sh ys q ≡ Ok z → act_primitive (container_type k t) (modify q w) (hold sh ys) ≡ Ok z
one_place of_list t w (ListOf r) ys n (Index q) i z h f e = e
one_place of_keyed t w (KeyedOf r) ys n (Key q) i z h f e = e
one_place of_tree t w (TreeOf r) ys n (Node q) i z h f e = e
one_place of_list t w (ListOf r) ys n (Key q) i z h f e = cc
one_place of_list t w (ListOf r) ys n (Node q) i z h f e = cc
one_place of_keyed t w (KeyedOf r) ys n (Index q) i z h f e = cc
one_place of_keyed t w (KeyedOf r) ys n (Node q) i z h f e = cc
one_place of_tree t w (TreeOf r) ys n (Index q) i z h f e = cc
one_place of_tree t w (TreeOf r) ys n (Key q) i z h f e = cc
one_place of_list t w (KeyedOf r) ys n q i z h f e = cc
one_place of_list t w (TreeOf r) ys n q i z h f e = cc
one_place of_keyed t w (ListOf r) ys n q i z h f e = cc
one_place of_keyed t w (TreeOf r) ys n q i z h f e = cc
one_place of_tree t w (ListOf r) ys n q i z h f e = cc
one_place of_tree t w (KeyedOf r) ys n q i z h f e = cc

word_at_place : (k : Kind) (t : TyTree) (w : WordTree) (sh : Shape) (ys : DocTrees) (n : ℕ) (q : PlaceOf) (i : ℕ) (v : DocTree) → is_kind_of k sh n ≡ true → place_of sh q ≡ Some i
    → act t w (doc_at ys i) ≡ Ok v → act (container_type k t) (mod_word q w) (hold sh ys) ≡ Ok (hold sh (put_at ys i v))
word_at_place k t no_primitives sh ys n q i v h f a =
    let same : doc_at ys i ≡ v = cc in
    let back : ys ≡ put_at ys i v = subst (λ z. ys ≡ put_at ys i z) same (sym (put_same ys i)) in
    rw (← back) refl
word_at_place k t (more_primitives p w) sh ys n q i v h f a =
    rw (one_place k t (more_primitives p w) sh ys n q i (hold sh (put_at ys i v)) h f (acts_there t (more_primitives p w) sh ys q i v f a)) refl

word_reshapes : (k : Kind) (t : TyTree) (sh sh' : Shape) (ys : DocTrees) (e : ShapeEdit) (from : List Origin) → plan sh e ≡ Ok (sh', from)
    → act (container_type k t) (shape_word e) (hold sh ys) ≡ Ok (hold sh' (gathered from ys (initial t)))
word_reshapes of_list t sh sh' ys e from f = rw f refl
word_reshapes of_keyed t sh sh' ys e from f = rw f refl
word_reshapes of_tree t sh sh' ys e from f = rw f refl

-- ---- what is translated

counts_same : (m n : ℕ) → nat_eq m n ≡ true → nat_eq n m ≡ true
counts_same m n h = grind (arith, nat_tests)

held_translates : (k : Kind) (l : FormTree) (s : Side) (sh : Shape) (cs : CompTrees) (p : PrimitiveTree) → is_kind_of k sh (comp_count cs) ≡ true
    → translate_one (form_of k l) s (hold_comp sh cs) p ≡ held_row (one_by_one (translate_one l s)) (missing l) sh cs p
held_translates of_list l s (ListOf r) cs p h = rw (counts_same _ _ h) refl
held_translates of_keyed l s (KeyedOf r) cs p h = rw (counts_same _ _ (second (is_rising r) _ h)) refl
held_translates of_tree l s (TreeOf r) cs p h = rw (counts_same _ _ (second (is_valid r) _ h)) refl
held_translates of_list l s (KeyedOf r) cs p h = cc
held_translates of_list l s (TreeOf r) cs p h = cc
held_translates of_keyed l s (ListOf r) cs p h = cc
held_translates of_keyed l s (TreeOf r) cs p h = cc
held_translates of_tree l s (ListOf r) cs p h = cc
held_translates of_tree l s (KeyedOf r) cs p h = cc

place_translates : (l : FormTree) (s : Side) (sh : Shape) (cs : CompTrees) (q : PlaceOf) (w : WordTree) (i : ℕ) (u : WordTree) (d : CompTree) → place_of sh q ≡ Some i
    → translate l s (comp_at cs i) w ≡ Some (u, d)
    → held_row (one_by_one (translate_one l s)) (missing l) sh cs (modify q w) ≡ Some (mod_word q u, hold_comp sh (put_comp cs i d))
place_translates l s sh cs q w i u d f e = rw f (rw e refl)

shape_translates : (l : FormTree) (s : Side) (sh sh' : Shape) (cs : CompTrees) (e : ShapeEdit) (from : List Origin) → plan sh e ≡ Ok (sh', from)
    → held_row (one_by_one (translate_one l s)) (missing l) sh cs (shape e) ≡ Some (shape_word e, hold_comp sh' (comps_of (map (content_at (comp_list cs) (missing l)) from)))
shape_translates l s sh sh' cs e from f = rw f refl

-- ---- the kind of the new shape

has_kind : (k : Kind) (t : TyTree) (sh : Shape) (xs : DocTrees) → has (container_type k t) (hold sh xs) ≡ true → is_kind_of k sh (length (doc_list xs)) ≡ true
has_kind of_list t sh xs h = first _ _ h
has_kind of_keyed t sh xs h = first _ _ h
has_kind of_tree t sh xs h = first _ _ h

comps_kind : (k : Kind) (l : FormTree) (s : Side) (sh : Shape) (xs : DocTrees) (cs : CompTrees) (ys : DocTrees) → has (container_type k (type_on s l)) (hold sh xs) ≡ true
    → AtEachPlace (IsRelated l s) xs cs ys → is_kind_of k sh (comp_count cs) ≡ true
comps_kind k l s sh xs cs ys h r =
    subst (λ n. is_kind_of k sh n ≡ true) (sym (comp_count-length cs ∙ (each-length (IsRelated l s) xs cs ys r).0)) (has_kind k (type_on s l) sh xs h)

-- ---- the step

carries_as : (l : FormTree) (s : Side) (p : PrimitiveTree) (x x' : DocTree) (c c' : CompTree) (y y' : DocTree) → x ≡ x' → c ≡ c' → y ≡ y'
    → Carries l s x' y' (translate_one l s c' p) → Carries l s x y (translate_one l s c p)
carries_as l s p x x' c c' y y' e f g h =
    subst (λ z. Carries l s z y (translate_one l s c p)) (sym e)
    (subst (λ z. Carries l s x' y (translate_one l s z p)) (sym f)
    (subst (λ z. Carries l s x' z (translate_one l s c' p)) (sym g) h))

well_formed_of : (k : Kind) (t : TyTree) → is_well_formed t ≡ true → is_well_formed (container_type k t) ≡ true
well_formed_of of_list t h = h
well_formed_of of_keyed t h = h
well_formed_of of_tree t h = h

-- a triple of a container, without the documents' names
record Triple (k : Kind) (l : FormTree) (s : Side) (sh : Shape) (xs : DocTrees) (cs : CompTrees) (ys : DocTrees) : Type 0 where
  near_has : has (container_type k (type_on s l)) (hold sh xs) ≡ true
  far_has : has (container_type k (type_on (other s) l)) (hold sh ys) ≡ true
  comp_kind : is_kind_of k sh (comp_count cs) ≡ true
  places : AtEachPlace (IsRelated l s) xs cs ys

-- what was carried, from the new triple
held_carries : (k : Kind) (l : FormTree) → Laws l → (s : Side) (p : PrimitiveTree) (sh sh' : Shape) (xs' ys ys' : DocTrees) (cs cs' : CompTrees) (w : WordTree)
    → has (container_type k (type_on s l)) (hold sh' xs') ≡ true
    → has (container_type k (type_on (other s) l)) (hold sh ys) ≡ true
    → translate_one (form_of k l) s (hold_comp sh cs) p ≡ Some (w, hold_comp sh' cs')
    → act (container_type k (type_on (other s) l)) w (hold sh ys) ≡ Ok (hold sh' ys')
    → AtEachPlace (IsRelated l s) xs' cs' ys'
    → Carries (form_of k l) s (hold sh' xs') (hold sh ys) (translate_one (form_of k l) s (hold_comp sh cs) p)
held_carries k l laws s p sh sh' xs' ys ys' cs cs' w near far translates acts places =
    let far_has = has_act (container_type k (type_on (other s) l)) w (hold sh ys) (hold sh' ys') (well_formed_of k (type_on (other s) l) (laws.sound (other s))) far acts in
    record {
      word = w;
      comp = hold_comp sh' cs';
      document = hold sh' ys';
      carried = translates;
      acts = subst (λ t. act t w (hold sh ys) ≡ Ok (hold sh' ys')) (sym (type_is k l (other s))) acts;
      consistent = held_related k l s sh' xs' cs' ys' near far_has (comps_kind k l s sh' xs' cs' ys' near places) places;
    }

-- a word at one place
place_acts : (k : Kind) (l : FormTree) → Laws l → (s : Side) (sh : Shape) (xs : DocTrees) (cs : CompTrees) (ys : DocTrees) → Triple k l s sh xs cs ys
    → (q : PlaceOf) (w : WordTree) (i : ℕ) (v : DocTree) → place_of sh q ≡ Some i → act (type_on s l) w (doc_at xs i) ≡ Ok v → has (container_type k (type_on s l)) (hold sh (put_at xs i v)) ≡ true
    → Carries (form_of k l) s (hold sh (put_at xs i v)) (hold sh ys) (translate_one (form_of k l) s (hold_comp sh cs) (modify q w))
place_acts k l laws s sh xs cs ys t q w i v found acts near =
    let held = held_of k (type_on s l) sh xs t.near_has in
    let below : i < length (doc_list xs) = subst (λ n. i < n) held.long (place_of-within sh q i held.shape_is found) in
    let here = each-at (IsRelated l s) xs cs ys i unit nil unit t.places below in
    let b = edits_carry l laws s w (doc_at xs i) (comp_at cs i) (doc_at ys i) v here acts in
    held_carries k l laws s (modify q w) sh sh (put_at xs i v) ys (put_at ys i b.document) cs (put_comp cs i b.comp) (mod_word q b.word) near t.far_has
    (held_translates k l s sh cs (modify q w) t.comp_kind ∙ place_translates l s sh cs q w i b.word b.comp found b.carried)
    (word_at_place k (type_on (other s) l) b.word sh ys (comp_count cs) q i b.document t.comp_kind found b.acts)
    (each-set (IsRelated l s) xs cs ys i v b.comp b.document t.places b.consistent)

-- an edit of the shape
shape_acts : (k : Kind) (l : FormTree) → Laws l → (s : Side) (sh : Shape) (xs : DocTrees) (cs : CompTrees) (ys : DocTrees) → Triple k l s sh xs cs ys
    → (e : ShapeEdit) (sh' : Shape) (from : List Origin) → plan sh e ≡ Ok (sh', from) → has (container_type k (type_on s l)) (hold sh' (gathered from xs (initial (type_on s l)))) ≡ true
    → Carries (form_of k l) s (hold sh' (gathered from xs (initial (type_on s l)))) (hold sh ys) (translate_one (form_of k l) s (hold_comp sh cs) (shape e))
shape_acts k l laws s sh xs cs ys t e sh' from planned near =
    held_carries k l laws s (shape e) sh sh' (gathered from xs (initial (type_on s l))) ys (gathered from ys (initial (type_on (other s) l))) cs
    (comps_of (map (content_at (comp_list cs) (missing l)) from)) (shape_word e) near t.far_has
    (held_translates k l s sh cs (shape e) t.comp_kind ∙ shape_translates l s sh sh' cs e from planned)
    (word_reshapes k (type_on (other s) l) sh sh' ys e from planned)
    (each-gathered (IsRelated l s) from xs cs ys (initial (type_on s l)) (missing l) (initial (type_on (other s) l)) t.places (starts_on l laws s))

held_acts : (k : Kind) (l : FormTree) → Laws l → (s : Side) (sh : Shape) (xs : DocTrees) (cs : CompTrees) (ys : DocTrees) → Triple k l s sh xs cs ys
    → (p : PrimitiveTree) (x' : DocTree) → has (container_type k (type_on s l)) x' ≡ true → ActsOnHeld k (type_on s l) sh xs p x'
    → Carries (form_of k l) s x' (hold sh ys) (translate_one (form_of k l) s (hold_comp sh cs) p)
held_acts k l laws s sh xs cs ys t p x' near (acts_at q w i v is found acts new) =
    subst (λ z. Carries (form_of k l) s x' (hold sh ys) (translate_one (form_of k l) s (hold_comp sh cs) z)) (sym is)
    (subst (λ z. Carries (form_of k l) s z (hold sh ys) (translate_one (form_of k l) s (hold_comp sh cs) (modify q w))) (sym new)
    (place_acts k l laws s sh xs cs ys t q w i v found acts (subst (λ z. has (container_type k (type_on s l)) z ≡ true) new near)))
held_acts k l laws s sh xs cs ys t p x' near (reshapes e sh' from is planned new) =
    subst (λ z. Carries (form_of k l) s x' (hold sh ys) (translate_one (form_of k l) s (hold_comp sh cs) z)) (sym is)
    (subst (λ z. Carries (form_of k l) s z (hold sh ys) (translate_one (form_of k l) s (hold_comp sh cs) (shape e))) (sym new)
    (shape_acts k l laws s sh xs cs ys t e sh' from planned (subst (λ z. has (container_type k (type_on s l)) z ≡ true) new near)))

held_step : (k : Kind) (l : FormTree) → Laws l → (s : Side) (p : PrimitiveTree) (x : DocTree) (c : CompTree) (y x' : DocTree)
    → IsRelated (form_of k l) s x c y → act_primitive (type_on s (form_of k l)) p x ≡ Ok x' → Carries (form_of k l) s x' y (translate_one (form_of k l) s c p)
held_step k l laws s p x c y x' r e =
    let a = held_triple k l s x c y r in
    let t : Triple k l s a.sh a.xs a.cs a.ys = record { near_has = a.near_has; far_has = a.far_has; comp_kind = a.comp_kind; places = a.places } in
    let acts : act_primitive (container_type k (type_on s l)) p (hold a.sh a.xs) ≡ Ok x' =
    subst (λ z. act_primitive (container_type k (type_on s l)) p z ≡ Ok x') a.near_is (subst (λ z. act_primitive z p x ≡ Ok x') (type_is k l s) e) in
    let near = has_primitive (container_type k (type_on s l)) p (hold a.sh a.xs) x' (well_formed_of k (type_on s l) (laws.sound s)) a.near_has acts in
    carries_as (form_of k l) s p x' x' c (hold_comp a.sh a.cs) y (hold a.sh a.ys) refl a.comp_is a.far_is
    (held_acts k l laws s a.sh a.xs a.cs a.ys t p x' near (acts_on_held k (type_on s l) a.sh a.xs p x' acts))

held_sound : (k : Kind) (l : FormTree) → Laws l → (s : Side) → is_well_formed (type_on s (form_of k l)) ≡ true
held_sound k l laws s = subst (λ t. is_well_formed t ≡ true) (sym (type_is k l s)) (well_formed_of k (type_on s l) (laws.sound s))

held_starts : (k : Kind) (l : FormTree) → Laws l → IsConsistent (form_of k l) (initial (type_on Left (form_of k l))) (missing (form_of k l)) (initial (type_on Right (form_of k l)))
held_starts of_list l laws = (record { left_has = refl; comp_fits = (refl, tt); right_has = refl }, (refl, refl, tt))
held_starts of_keyed l laws = (record { left_has = refl; comp_fits = (refl, tt); right_has = refl }, (refl, refl, tt))
held_starts of_tree l laws =
    let t = consistent_is_typed l (initial (type_on Left l)) (missing l) (initial (type_on Right l)) laws.starts in
    (record { left_has = both _ _ t.left_has refl; comp_fits = (refl, (t.comp_fits, tt)); right_has = both _ _ t.right_has refl }, (refl, refl, (laws.starts, tt)))

kind_laws : (k : Kind) (l : FormTree) → Laws l → Laws (form_of k l)
kind_laws k l laws = record { sound = held_sound k l laws; starts = held_starts k l laws; step = held_step k l laws }

pub each_laws : (l : FormTree) → Laws l → Laws (form_each l)
each_laws l laws = kind_laws of_list l laws

pub keyed_laws : (l : FormTree) → Laws l → Laws (form_keyed l)
keyed_laws l laws = kind_laws of_keyed l laws

pub ordered_laws : (l : FormTree) → Laws l → Laws (form_ordered l)
ordered_laws l laws = kind_laws of_tree l laws

pub ruleset container_laws = (each_laws, keyed_laws, ordered_laws)
