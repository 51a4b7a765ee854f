-- The word between two documents of a type takes the first to the second.
use Rattle.std.proofs.Common.{◌≡◌, ℕ, ◌+◌, ◌<◌, suc, zero, Bool, true, false, List, [], ◌∷◌, ◌++◌, length, drop, Option, None, Some, Result, Ok, Err, refl, sym, ap, subst, ◌∙◌, arith}
use Rattle.std.specs.Prelude.{IfOk, if◌then◌else◌, bytes_eq}
use Rattle.std.proofs.lemmas.List.{append_assoc, length-append, length-drop, drop-drop}
use Rattle.hold_shapes.specs.declared.shape.Shape.{Shape}
use Rattle.hold_shapes.specs.declared.shape.Shape.TheVariants.{List as ListOf, Keyed as KeyedOf, Tree as TreeOf}
use Rattle.hold_shapes.specs.Shapes.{size_of}
use Rattle.hold_shapes.specs.Plans.{list_of}
use Rattle.hold_shapes.specs.Trees.{children}
use Rattle.hold_shapes.proofs.ValidDepths.{Whole, whole}
use Rattle.texts.specs.Keys.{is_rising, key_rank}
use Rattle.texts.proofs.Conjunction.{first, second}
use Rattle.texts.proofs.Tests.{bytes_eq-is}
use Rattle.doc_values.specs.Documents.{DocTree, unit, truth, int, text, pick, rec, alt, hold, DocTrees, no_docs, more_docs, docs_of, doc_list}
use Rattle.doc_values.specs.Types.{TyTree, ty_unit, ty_bool, ty_int, ty_text, ty_enum, ty_rec, ty_alt, ty_list, ty_keyed, ty_ordered, FieldTrees, no_fields, more_fields, names_of, is_well_formed, are_well_formed, are_choices}
use Rattle.doc_values.specs.Typing.{has, has_fields, has_each, lookup_type}
use Rattle.doc_values.proofs.Lists.{docs_of-doc_list}
use Rattle.doc_values.proofs.FieldPlaces.{lookup_type-well_formed}
use Rattle.edit_module.specs.declared.word.Word.{Word}
use Rattle.edit_module.specs.Views.{word_tree}
use Rattle.edit_module.specs.Words.{WordTree}
use Rattle.edit_module.specs.Action.{act}
use Rattle.edit_module.proofs.ActionKeepsTypes.{list-held, keyed-held, tree-held}
use Rattle.edit_inverse.specs.Construct.{construct, construct_each, grow, modify_each}
use Rattle.edit_inverse.specs.Paths.{paths}
use Rattle.edit_inverse.proofs.Constructs.{construct-law}
use Rattle.edit_inverse.proofs.Fills.{Built, rising-front}
use Rattle.edit_between.specs.Between.{between, between_fields, between_items, between_keys, resized, modify_nodes, prunes, with_root, is_first, first_doc}
use Rattle.edit_between.proofs.Resized.{Leads, starts, items-act, resized-acts}
use Rattle.edit_between.proofs.KeySteps.{OnKeys, rising-back, drops-act, rising-drop, rank-splits, key-step, drop-rest, joined-rising, seam-rising}
use Rattle.edit_between.proofs.NodeSteps.{nodes-act, prunes-act, grow-acts}
use Rattle.edit_between.proofs.PartSteps.{unit-acts, bool-acts, int-acts, text-acts, pick-acts, LeadsFields, record-acts, tag-acts}

-- ---- contents of a type, as a list

abbrev Each : TyTree → List DocTree → Type 0
Each t [] = Unit {0}
Each t (d ∷ ds) = (has t d ≡ true) × Each t ds

each-of : (t : TyTree) (ds : DocTrees) → has_each t ds ≡ true → Each t (doc_list ds)
each-of t no_docs h = tt
each-of t (more_docs d ds) h = (first (has t d) (has_each t ds) h, each-of t ds (second (has t d) (has_each t ds) h))

each-drop : (t : TyTree) (n : ℕ) (ds : List DocTree) → Each t ds → Each t (drop n ds)
each-drop t zero ds h = h
each-drop t (suc n) [] h = h
each-drop t (suc n) (d ∷ ds) h = each-drop t n ds h.1

each-first : (t : TyTree) (ds : List DocTree) → Each t ds → 0 < length ds → has t (first_doc ds) ≡ true
each-first t [] h some = absurd (omega arith)
each-first t (d ∷ ds) h some = h.0

-- ---- containers

lists-act : (t : TyTree) (r s : Shape) (ds es : DocTrees) (ws : List WordTree) → has (ty_list t) (hold r ds) ≡ true → has (ty_list t) (hold s es) ≡ true
    → Leads t ws (starts t (doc_list ds) (doc_list es)) (doc_list es)
    → act (ty_list t) (resized (size_of r) (size_of s) (modify_each 0 ws)) (hold r ds) ≡ Ok (hold s es)
lists-act t (ListOf a) (ListOf b) ds es ws h k l =
    let xs = doc_list ds in
    let ys = doc_list es in
    let n : a.count ≡ length xs = (list-held t (ListOf a) ds h).long in
    let m : b.count ≡ length ys = (list-held t (ListOf b) es k).long in
    let made = resized-acts t xs ys (modify_each 0 ws) (hold (list_of (length ys)) (docs_of ys)) (items-act t ws [] (starts t xs ys) ys (length ys) 0 l refl (omega arith)) in
    let P : ℕ → Type 0 = λ i. act (ty_list t) (resized i (length ys) (modify_each 0 ws)) (hold (list_of i) (docs_of xs)) ≡ Ok (hold (list_of (length ys)) (docs_of ys)) in
    let Q : ℕ → Type 0 = λ i. act (ty_list t) (resized a.count i (modify_each 0 ws)) (hold (list_of a.count) (docs_of xs)) ≡ Ok (hold (list_of i) (docs_of ys)) in
    let got : Q b.count = subst Q (sym m) (subst P (sym n) made) in
    let D : DocTrees → Type 0 = λ l. act (ty_list t) (resized a.count b.count (modify_each 0 ws)) (hold (ListOf a) l) ≡ Ok (hold (ListOf b) (docs_of ys)) in
    subst D (docs_of-doc_list ds) got ∙ ap (λ (l : DocTrees). Ok (hold (ListOf b) l)) (docs_of-doc_list es)
lists-act t r s ds es ws h k l = cc

-- the same words for the nodes, or all nodes but the root anew
trees-act : (e : Bool) (t : TyTree) (r s : List ℕ) (ds es : DocTrees) (ws us : List WordTree) → bytes_eq r s ≡ e → Whole r → Whole s → length r ≡ length (doc_list ds) → length s ≡ length (doc_list es)
    → Leads t ws (starts t (doc_list ds) (doc_list es)) (doc_list es) → Built t us (doc_list es)
    → act (ty_ordered t) (if e then modify_nodes (paths s) ws else prunes (children r 0) (grow (paths s) (with_root ws us))) (hold (TreeOf r) ds) ≡ Ok (hold (TreeOf s) es)
trees-act true t r s ds es ws us e a b n m l u =
    let xs = doc_list ds in
    let ys = doc_list es in
    let same : r ≡ s = bytes_eq-is r s e in
    let size : length r ≡ length s = ap (λ (q : List ℕ). length q) same in
    let L : List DocTree → Type 0 = λ zs. Leads t ws zs ys in
    let made = nodes-act t s ws xs ys b (subst L (starts-same t xs ys (omega arith)) l) m in
    let P : List ℕ → Type 0 = λ q. act (ty_ordered t) (modify_nodes (paths s) ws) (hold (TreeOf q) (docs_of xs)) ≡ Ok (hold (TreeOf s) (docs_of ys)) in
    let D : DocTrees → Type 0 = λ z. act (ty_ordered t) (modify_nodes (paths s) ws) (hold (TreeOf r) z) ≡ Ok (hold (TreeOf s) (docs_of ys)) in
    subst D (docs_of-doc_list ds) (subst P (sym same) made) ∙ ap (λ (z : DocTrees). Ok (hold (TreeOf s) z)) (docs_of-doc_list es)
  where
    starts-same : (t : TyTree) (xs ys : List DocTree) → length xs ≡ length ys → starts t xs ys ≡ xs
    starts-same t [] [] e = refl
    starts-same t [] (y ∷ ys) e = absurd (omega arith)
    starts-same t (x ∷ xs) [] e = absurd (omega arith)
    starts-same t (x ∷ xs) (y ∷ ys) e = ap (λ (l : List DocTree). x ∷ l) (starts-same t xs ys (omega arith))
trees-act false t r s ds es ws us e a b n m l u =
    let D : DocTrees → Type 0 = λ z. act (ty_ordered t) (prunes (children r 0) (grow (paths s) (with_root ws us))) (hold (TreeOf r) z) ≡ Ok (hold (TreeOf s) (docs_of (doc_list es))) in
    subst D (docs_of-doc_list ds) (anew (doc_list ds) (doc_list es) ws us n m l u (some r a) (some s b)) ∙ ap (λ (z : DocTrees). Ok (hold (TreeOf s) z)) (docs_of-doc_list es)
  where
    some : (q : List ℕ) → Whole q → 0 < length q
    some [] w = absurd w
    some (d ∷ q) w = omega arith

    anew : (xs ys : List DocTree) (ws us : List WordTree) → length r ≡ length xs → length s ≡ length ys → Leads t ws (starts t xs ys) ys → Built t us ys → 0 < length r → 0 < length s
        → act (ty_ordered t) (prunes (children r 0) (grow (paths s) (with_root ws us))) (hold (TreeOf r) (docs_of xs)) ≡ Ok (hold (TreeOf s) (docs_of ys))
    anew [] ys ws us n m l u x y = absurd (omega arith)
    anew (d ∷ xs) [] ws us n m l u x y = absurd (omega arith)
    anew (d ∷ xs) (c ∷ ys) [] us n m l u x y = absurd l
    anew (d ∷ xs) (c ∷ ys) (w ∷ ws) [] n m l u x y = absurd u
    anew (d ∷ xs) (c ∷ ys) (w ∷ ws) (v ∷ us) n m l u x y =
        prunes-act t (children r 0) (grow (paths s) (w ∷ us)) d (hold (TreeOf s) (docs_of (c ∷ ys))) (grow-acts t s (w ∷ us) d (c ∷ ys) b m (l.0, u.1)) r xs a (sym n) refl

tag-found : (o : Option TyTree) (v : DocTree) → elim o [ None ↦ false | Some t ↦ has t v ] ≡ true → (t : TyTree) × (o ≡ Some t) × (has t v ≡ true)
tag-found None v h = cc
tag-found (Some t) v h = (t, refl, h)

-- the type that is found for a tag is that of the content
same-tag : (fs : FieldTrees) (a b : List ℕ) (t : TyTree) (v : DocTree) → a ≡ b → lookup_type fs b ≡ Some t → has (ty_alt fs) (alt a v) ≡ true → has t v ≡ true
same-tag fs a b t v e k h =
    let O : Option TyTree → Type 0 = λ o. elim o [ None ↦ false | Some t ↦ has t v ] ≡ true in
    subst O (ap (λ (n : List ℕ). lookup_type fs n) e ∙ k) h

built-each : (t : TyTree) (es : DocTrees) → is_well_formed t ≡ true → has_each t es ≡ true → Built t (construct_each t es) (doc_list es)
built-each t no_docs wf h = tt
built-each t (more_docs e es) wf h = (construct-law t e wf (first (has t e) (has_each t es) h), built-each t es wf (second (has t e) (has_each t es) h))

-- ---- all documents

mutual
  pub between-acts : (u : DocTree) (t : TyTree) (v : DocTree) → is_well_formed t ≡ true → has t v ≡ true → has t u ≡ true → act t (between t v u) v ≡ Ok u
  between-acts unit ty_unit v wf h k = unit-acts v h
  between-acts (truth b) ty_bool v wf h k = bool-acts b v h
  between-acts (int n) (ty_int z) v wf h k = int-acts z n v h
  between-acts (text s) (ty_text z) v wf h k = text-acts z s v h
  between-acts (pick n) (ty_enum ms z) v wf h k = pick-acts ms z n v h k
  between-acts (rec es) (ty_rec fs) (rec ds) wf h k =
      record-acts fs ds es (between_fields fs ds es) (first (is_rising (names_of fs)) (are_well_formed fs) wf) (fields-lead es fs ds (second (is_rising (names_of fs)) (are_well_formed fs) wf) h k)
  between-acts (alt b u) (ty_alt fs) (alt a v) wf h k =
      let f = tag-found (lookup_type fs b) u k in
      let ok = lookup_type-well_formed fs b f.0 (second (are_choices (names_of fs)) (are_well_formed fs) wf) f.1 in
      tag-acts fs a b f.0 v u f.1 (λ e. between-acts u f.0 v ok (same-tag fs a b f.0 v e f.1 h) f.2) (construct-law f.0 u ok f.2)
  between-acts (hold s es) (ty_list t) (hold r ds) wf h k =
      lists-act t r s ds es (between_items t ds es) h k (items-lead es t ds wf (list-held t r ds h).each (list-held t s es k).each)
  between-acts (hold (KeyedOf ls) es) (ty_keyed t) (hold (KeyedOf ks) ds) wf h k =
      let old = keyed-held t (KeyedOf ks) ds h in
      let new = keyed-held t (KeyedOf ls) es k in
      let got = keys-lead es t ks (doc_list ds) ls [] [] wf (each-of t ds old.each) new.each old.long new.long refl old.shape_is new.shape_is in
      let D : DocTrees → Type 0 = λ z. act (ty_keyed t) (between_keys t ks (doc_list ds) ls es) (hold (KeyedOf ks) z) ≡ Ok (hold (KeyedOf ls) (docs_of (doc_list es))) in
      subst D (docs_of-doc_list ds) got ∙ ap (λ (z : DocTrees). Ok (hold (KeyedOf ls) z)) (docs_of-doc_list es)
  between-acts (hold (TreeOf s) es) (ty_ordered t) (hold (TreeOf r) ds) wf h k =
      let old = tree-held t (TreeOf r) ds h in
      let new = tree-held t (TreeOf s) es k in
      trees-act (bytes_eq r s) t r s ds es (between_items t ds es) (construct_each t es) refl (whole r old.shape_is) (whole s new.shape_is) old.long new.long
      (items-lead es t ds wf old.each new.each) (built-each t es wf new.each)
  between-acts _ _ _ wf h k = cc

  fields-lead : (es : DocTrees) (fs : FieldTrees) (ds : DocTrees) → are_well_formed fs ≡ true → has_fields fs ds ≡ true → has_fields fs es ≡ true → LeadsFields fs (between_fields fs ds es) (doc_list ds) (doc_list es)
  fields-lead no_docs no_fields no_docs wf h k = tt
  fields-lead (more_docs e es) (more_fields n t fs) (more_docs d ds) wf h k = (
    between-acts e t d (first (is_well_formed t) (are_well_formed fs) wf) (first (has t d) (has_fields fs ds) h) (first (has t e) (has_fields fs es) k),
    fields-lead es fs ds (second (is_well_formed t) (are_well_formed fs) wf) (second (has t d) (has_fields fs ds) h) (second (has t e) (has_fields fs es) k),
  )
  fields-lead _ _ _ wf h k = cc

  items-lead : (es : DocTrees) (t : TyTree) (ds : DocTrees) → is_well_formed t ≡ true → has_each t ds ≡ true → has_each t es ≡ true → Leads t (between_items t ds es) (starts t (doc_list ds) (doc_list es)) (doc_list es)
  items-lead no_docs t ds wf h k = tt
  items-lead (more_docs e es) t no_docs wf h k = (construct-law t e wf (first (has t e) (has_each t es) k), items-lead es t no_docs wf h (second (has t e) (has_each t es) k))
  items-lead (more_docs e es) t (more_docs d ds) wf h k = (
    between-acts e t d wf (first (has t d) (has_each t ds) h) (first (has t e) (has_each t es) k),
    items-lead es t ds wf (second (has t d) (has_each t ds) h) (second (has t e) (has_each t es) k),
  )

  keys-lead : (es : DocTrees) (t : TyTree) (ks : List (List ℕ)) (ds : List DocTree) (ls front : List (List ℕ)) (xs : List DocTree) → is_well_formed t ≡ true → Each t ds → has_each t es ≡ true
      → length ks ≡ length ds → length ls ≡ length (doc_list es) → length front ≡ length xs → is_rising (front ++ ks) ≡ true → is_rising (front ++ ls) ≡ true
      → OnKeys t (between_keys t ks ds ls es) (front ++ ks) (xs ++ ds) (hold (KeyedOf (front ++ ls)) (docs_of (xs ++ doc_list es)))
  keys-lead no_docs t ks ds [] front xs wf h k a b c r s = drop-rest t ks ds front xs a c r
  keys-lead no_docs t ks ds (l ∷ ls) front xs wf h k a b c r s = absurd (omega arith)
  keys-lead (more_docs e es) t ks ds [] front xs wf h k a b c r s = absurd (omega arith)
  keys-lead (more_docs e es) t ks ds (l ∷ ls) front xs wf h k a b c r s =
      let n = key_rank l ks in
      let here = first (has t e) (has_each t es) k in
      let rest = second (has t e) (has_each t es) k in
      let left = drop n ks in
      let docs = drop n ds in
      let f1 = length-append front (l ∷ []) in
      let f2 = length-append xs (e ∷ []) in
      let d1 = length-drop n ks in
      let d2 = length-drop n ds in
      let d3 = length-drop 1 left in
      let d4 = length-drop 1 docs in
      let R : List (List ℕ) → Type 0 = λ q. is_rising q ≡ true in
      let s' : is_rising ((front ++ l ∷ []) ++ ls) ≡ true = subst R (sym (append_assoc front (l ∷ []) ls)) s in
      let end : hold (KeyedOf ((front ++ l ∷ []) ++ ls)) (docs_of ((xs ++ e ∷ []) ++ doc_list es)) ≡ hold (KeyedOf (front ++ l ∷ ls)) (docs_of (xs ++ e ∷ doc_list es)) =
      ap (λ (q : List (List ℕ)). hold (KeyedOf q) (docs_of ((xs ++ e ∷ []) ++ doc_list es))) (append_assoc front (l ∷ []) ls)
      ∙ ap (λ (q : List DocTree). hold (KeyedOf (front ++ l ∷ ls)) (docs_of q)) (append_assoc xs (e ∷ []) (doc_list es)) in
      let v = hold (KeyedOf (front ++ l ∷ ls)) (docs_of (xs ++ e ∷ doc_list es)) in
      let one = rising-front (front ++ l ∷ []) ls s' in
      let back = rising-back front ks r in
      let there = rising-drop n front ks r in
      let split = rank-splits l ks back in
      drops-act t n front ks xs ds _ v r c a
      (key-step (is_first l left) t front l left xs docs e (between t (first_doc docs) e) (construct t e) (between_keys t (drop (n + 1) ks) (drop (n + 1) ds) ls es) (between_keys t left docs ls es) v
      refl there one split c (omega arith)
      (λ some. between-acts e t (first_doc docs) wf (each-first t docs (each-drop t n ds h) some) here)
      (construct-law t e wf here)
      (λ q.
      let u = drop-drop 1 n ks in
      let w = drop-drop 1 n ds in
      let ks' = drop 1 left in
      let ds' = drop 1 docs in
      let rising = joined-rising front l left q there one in
      let got = keys-lead es t ks' ds' ls (front ++ l ∷ []) (xs ++ e ∷ []) wf (each-drop t 1 docs (each-drop t n ds h)) rest (omega arith) (omega arith) (omega arith) rising s' in
      let W : List (List ℕ) → List DocTree → Type 0 = λ x y. OnKeys t (between_keys t x y ls es) ((front ++ l ∷ []) ++ ks') ((xs ++ e ∷ []) ++ ds') v in
      let G : DocTree → Type 0 = λ z. OnKeys t (between_keys t ks' ds' ls es) ((front ++ l ∷ []) ++ ks') ((xs ++ e ∷ []) ++ ds') z in
      let g : W ks' ds' = subst G end got in
      subst (λ (x : List (List ℕ)). W x (drop (n + 1) ds)) u (subst (λ (y : List DocTree). W ks' y) w g))
      (λ q.
      let rising = seam-rising front l left one (split q) there in
      let got = keys-lead es t left docs ls (front ++ l ∷ []) (xs ++ e ∷ []) wf (each-drop t n ds h) rest (omega arith) (omega arith) (omega arith) rising s' in
      let G : DocTree → Type 0 = λ z. OnKeys t (between_keys t left docs ls es) ((front ++ l ∷ []) ++ left) ((xs ++ e ∷ []) ++ docs) z in
      subst G end got))

pub between-law : (t : TyTree) (v u : DocTree) → is_well_formed t ≡ true → has t v ≡ true → has t u ≡ true → act t (between t v u) v ≡ Ok u
between-law t v u wf h k = between-acts u t v wf h k

-- the word that the code made acts so, too
pub made-leads : {E : Type 0} (t : TyTree) (v u : DocTree) (r : Result Word E) → has t v ≡ true → has t u ≡ true → IfOk r (λ w. word_tree w ≡ between t v u) → is_well_formed t ≡ true
    → IfOk r (λ w. act t (word_tree w) v ≡ Ok u)
made-leads t v u (Ok w) h k e wf = ap (λ (x : WordTree). act t x v) e ∙ between-acts u t v wf h k
made-leads t v u (Err x) h k e wf = tt
