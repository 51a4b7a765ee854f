-- Words between documents, one content after another.
use Rattle.std.proofs.Common.{◌≡◌, ℕ, ◌+◌, ◌<◌, ◌≤◌, suc, zero, Bool, true, false, get_or, take, drop, List, [], ◌∷◌, length, refl, sym, ap, subst, ◌∙◌, arith}
use Rattle.std.specs.Prelude.{if◌then◌else◌, nat_lt, bytes_eq}
use Rattle.std.proofs.lemmas.Bool.Decides.{nat_tests}
use Rattle.std.proofs.lemmas.List.{drop_all, drop_more, drop-drop, get_or-drop, length-drop}
use Rattle.std.proofs.lemmas.Slice.Eq.{bytes_eq-Decides}
use Rattle.hold_shapes.specs.declared.edit.Place.TheVariants.{Index, Key, Node}
use Rattle.hold_shapes.specs.declared.edit.ShapeEdit.TheVariants.{PutKey}
use Rattle.texts.specs.Keys.{key_rank}
use Rattle.texts.proofs.KeyOrder.{rank-length}
use Rattle.doc_values.specs.declared.ty.Ty.{Ty}
use Rattle.doc_values.specs.Documents.{DocTree, unit, DocTrees, no_docs, more_docs, docs_of, doc_list}
use Rattle.doc_values.specs.Types.{TyTree, ty_tree, names_of}
use Rattle.edit_module.specs.Words.{WordTree, no_primitives, at, modify}
use Rattle.edit_inverse.specs.Construct.{construct, construct_each, reshape, unless_empty, modify_each, at_each, graft_each, grow}
use Rattle.edit_inverse.specs.Paths.{next_path, paths_after, paths}
use Rattle.edit_inverse.proofs.Building.{fields_of}
use Rattle.edit_between.specs.Between.{between, between_fields, between_items, between_keys, modify_nodes, with_root, drop_keys, is_first, first_doc}
use Rattle.edit_between.specs.Steps.{item_word, key_word}

-- ---- items

none-item : (t : TyTree) (i : ℕ) (e : DocTree) → construct t e ≡ item_word t [] i e
none-item t i e = let z : nat_lt i 0 ≡ false = grind (arith, nat_tests) in rw z refl

later-item : (t : TyTree) (d : DocTree) (ds : List DocTree) (i : ℕ) (e : DocTree) → item_word t ds i e ≡ item_word t (d ∷ ds) (suc i) e
later-item t d ds i e = let z : nat_lt (suc i) (suc (length ds)) ≡ nat_lt i (length ds) = grind (arith, nat_tests) in rw z refl

pub item-next : (t : TyTree) (ds es : DocTrees) (i : ℕ) (e : DocTree) → i < length (doc_list es) → e ≡ get_or (doc_list es) i unit
    → drop i (between_items t ds es) ≡ item_word t (doc_list ds) i e ∷ drop (i + 1) (between_items t ds es)
item-next t ds no_docs i e h k = absurd (omega arith)
item-next t no_docs (more_docs x es) zero e h k =
    ap (λ (y : DocTree). construct t y ∷ between_items t no_docs es) (sym k) ∙ ap (λ (w : WordTree). w ∷ between_items t no_docs es) (none-item t 0 e)
item-next t (more_docs d ds) (more_docs x es) zero e h k =
    let z : nat_lt 0 (suc (length (doc_list ds))) ≡ true = grind (arith, nat_tests) in
    rw z (ap (λ (y : DocTree). between t d y ∷ between_items t ds es) (sym k))
item-next t no_docs (more_docs x es) (suc i) e h k =
    let n : suc i + 1 ≡ suc (i + 1) = omega arith in
    rw n (item-next t no_docs es i e (omega arith) k ∙ ap (λ (w : WordTree). w ∷ drop (i + 1) (between_items t no_docs es)) (sym (none-item t i e) ∙ none-item t (suc i) e))
item-next t (more_docs d ds) (more_docs x es) (suc i) e h k =
    let n : suc i + 1 ≡ suc (i + 1) = omega arith in
    rw n (item-next t ds es i e (omega arith) k ∙ ap (λ (w : WordTree). w ∷ drop (i + 1) (between_items t ds es)) (later-item t d (doc_list ds) i e))

pub items-length : (t : TyTree) (ds es : DocTrees) → length (between_items t ds es) ≡ length (doc_list es)
items-length t ds no_docs = refl
items-length t no_docs (more_docs e es) = ap suc (items-length t no_docs es)
items-length t (more_docs d ds) (more_docs e es) = ap suc (items-length t ds es)

pub item-modified : (t : TyTree) (ds es : DocTrees) (i : ℕ) (e : DocTree) → i < length (doc_list es) → e ≡ get_or (doc_list es) i unit
    → modify_each i (drop i (between_items t ds es)) ≡ unless_empty (modify (Index i)) (item_word t (doc_list ds) i e) (modify_each (i + 1) (drop (i + 1) (between_items t ds es)))
item-modified t ds es i e h k = ap (λ (l : List WordTree). modify_each i l) (item-next t ds es i e h k)

pub items-done : (t : TyTree) (ds es : DocTrees) (i : ℕ) → length (doc_list es) ≤ i → modify_each i (drop i (between_items t ds es)) ≡ no_primitives
items-done t ds es i h =
    let l = items-length t ds es in
    let z : drop i (between_items t ds es) ≡ [] = drop_all i (between_items t ds es) (omega arith) in
    ap (λ (x : List WordTree). modify_each i x) z

-- ---- fields

pub field-next : (fs : List (List ℕ × Ty)) (ds es : DocTrees) (i : ℕ) (f : List ℕ × Ty) (d e : DocTree) → i < length fs → i < length (doc_list ds) → i < length (doc_list es)
    → f ≡ get_or fs i f → d ≡ get_or (doc_list ds) i unit → e ≡ get_or (doc_list es) i unit
    → at_each (drop i (names_of (fields_of fs))) (drop i (between_fields (fields_of fs) ds es))
    ≡ unless_empty (at f.0) (between (ty_tree f.1) d e) (at_each (drop (i + 1) (names_of (fields_of fs))) (drop (i + 1) (between_fields (fields_of fs) ds es)))
field-next [] ds es i f d e h k l is a b = absurd (omega arith)
field-next (g ∷ fs) no_docs es i f d e h k l is a b = absurd (omega arith)
field-next (g ∷ fs) (more_docs x ds) no_docs i f d e h k l is a b = absurd (omega arith)
field-next (g ∷ fs) (more_docs x ds) (more_docs y es) zero f d e h k l is a b =
    let rest = at_each (names_of (fields_of fs)) (between_fields (fields_of fs) ds es) in
    ap (λ (p : List ℕ × Ty). unless_empty (at p.0) (between (ty_tree p.1) x y) rest) (sym is)
    ∙ (ap (λ (z : DocTree). unless_empty (at f.0) (between (ty_tree f.1) z y) rest) (sym a)
    ∙ ap (λ (z : DocTree). unless_empty (at f.0) (between (ty_tree f.1) d z) rest) (sym b))
field-next (g ∷ fs) (more_docs x ds) (more_docs y es) (suc i) f d e h k l is a b =
    let n : suc i + 1 ≡ suc (i + 1) = omega arith in rw n (field-next fs ds es i f d e (omega arith) (omega arith) (omega arith) is a b)

-- ---- keys

-- what is left of a keyed map's word, from old place p on and new place i on
abbrev pub keys_left : TyTree → List (List ℕ) → List DocTree → List (List ℕ) → List DocTree → ℕ → ℕ → WordTree
keys_left t ks ds ls es i p = between_keys t (drop p ks) (drop p ds) (drop i ls) (docs_of (drop i es))

pub key-next : (t : TyTree) (ks : List (List ℕ)) (ds : List DocTree) (ls : List (List ℕ)) (es : List DocTree) (i p n : ℕ) (l : List ℕ) (e : DocTree)
    → i < length ls → i < length es → l ≡ get_or ls i l → e ≡ get_or es i unit → n ≡ key_rank l (drop p ks)
    → keys_left t ks ds ls es i p ≡ drop_keys (take n (drop p ks)) (key_word (is_first l (drop (p + n) ks)) t ds l (p + n) e (λ q. keys_left t ks ds ls es (i + 1) q))
key-next t ks ds ls es i p n l e h k is here rank =
    let P : List ℕ → Type 0 = λ m. drop i ls ≡ m ∷ drop (i + 1) ls in
    let names : P l = subst P (sym is) (drop_more ls i l h) in
    let Q : DocTree → Type 0 = λ m. drop i es ≡ m ∷ drop (i + 1) es in
    let docs : Q e = subst Q (sym here) (drop_more es i unit k) in
    let K = drop p ks in
    let D = drop p ds in
    let a = drop-drop n p ks in
    let b = drop-drop n p ds in
    let one : p + n + 1 ≡ p + (n + 1) = omega arith in
    let c : drop (n + 1) K ≡ drop (p + n + 1) ks = drop-drop (n + 1) p ks ∙ ap (λ (j : ℕ). drop j ks) (sym one) in
    let d : drop (n + 1) D ≡ drop (p + n + 1) ds = drop-drop (n + 1) p ds ∙ ap (λ (j : ℕ). drop j ds) (sym one) in
    let first : first_doc (drop n D) ≡ get_or ds (p + n) unit = ap first_doc b ∙ (get_or-drop (p + n) ds 0 unit ∙ (let z : p + n + 0 ≡ p + n = omega arith in ap (λ (j : ℕ). get_or ds j unit) z)) in
    let ls' = drop (i + 1) ls in
    let es' = docs_of (drop (i + 1) es) in
    let F : ℕ → DocTree → List (List ℕ) → List DocTree → List (List ℕ) → List DocTree → WordTree = λ m f k1 d1 k2 d2.
    drop_keys (take m K)
    (if is_first l k2 then unless_empty (modify (Key l)) (between t f e) (between_keys t k1 d1 ls' es')
    else reshape (PutKey l) (unless_empty (modify (Key l)) (construct t e) (between_keys t k2 d2 ls' es'))) in
    let G : ℕ → WordTree = λ m. F m (first_doc (drop m D)) (drop (m + 1) K) (drop (m + 1) D) (drop m K) (drop m D) in
    ap (λ (x : List (List ℕ)). between_keys t K D x (docs_of (drop i es))) names
    ∙ (ap (λ (x : List DocTree). between_keys t K D (l ∷ ls') (docs_of x)) docs
    ∙ (ap G (sym rank)
    ∙ (ap (λ (x : List (List ℕ)). F n (first_doc (drop n D)) (drop (n + 1) K) (drop (n + 1) D) x (drop n D)) a
    ∙ (ap (λ (x : List DocTree). F n (first_doc (drop n D)) (drop (n + 1) K) (drop (n + 1) D) (drop (p + n) ks) x) b
    ∙ (ap (λ (x : DocTree). F n x (drop (n + 1) K) (drop (n + 1) D) (drop (p + n) ks) (drop (p + n) ds)) first
    ∙ (ap (λ (x : List (List ℕ)). F n (get_or ds (p + n) unit) x (drop (n + 1) D) (drop (p + n) ks) (drop (p + n) ds)) c
    ∙ ap (λ (x : List DocTree). F n (get_or ds (p + n) unit) (drop (p + n + 1) ks) x (drop (p + n) ks) (drop (p + n) ds)) d))))))

pub keys-done : (t : TyTree) (ks : List (List ℕ)) (ds : List DocTree) (ls : List (List ℕ)) (es : List DocTree) (i p : ℕ) → length es ≤ i → keys_left t ks ds ls es i p ≡ drop_keys (drop p ks) no_primitives
keys-done t ks ds ls es i p h = ap (λ (x : List DocTree). between_keys t (drop p ks) (drop p ds) (drop i ls) (docs_of x)) (drop_all i es h)

-- ---- nodes

pub node-next : (t : TyTree) (path es : List ℕ) (ds cs : DocTrees) (i d : ℕ) (e : DocTree) → i < length es → i < length (doc_list cs) → d ≡ get_or es i d → e ≡ get_or (doc_list cs) i unit
    → modify_nodes (paths_after path (drop i es)) (drop i (between_items t ds cs))
    ≡ unless_empty (modify (Node (next_path path d))) (item_word t (doc_list ds) i e) (modify_nodes (paths_after (next_path path d) (drop (i + 1) es)) (drop (i + 1) (between_items t ds cs)))
node-next t path es ds cs i d e h within is here =
    let P : ℕ → Type 0 = λ n. drop i es ≡ n ∷ drop (i + 1) es in
    let next : P d = subst P (sym is) (drop_more es i d h) in
    ap (λ (l : List WordTree). modify_nodes (paths_after path (drop i es)) l) (item-next t ds cs i e within here)
    ∙ ap (λ (l : List ℕ). modify_nodes (paths_after path l) (item_word t (doc_list ds) i e ∷ drop (i + 1) (between_items t ds cs))) next

pub nodes-done : (path es : List ℕ) (ws : List WordTree) (i : ℕ) → length es ≤ i → modify_nodes (paths_after path (drop i es)) ws ≡ no_primitives
nodes-done path es ws i h = ap (λ (l : List ℕ). modify_nodes (paths_after path l) ws) (drop_all i es h)

pub root-first : (t : TyTree) (es : List ℕ) (ds cs : DocTrees) (e : DocTree) → 0 < length es → 0 < length (doc_list cs) → e ≡ get_or (doc_list cs) 0 unit
    → modify_nodes (paths es) (between_items t ds cs) ≡ unless_empty (modify (Node [])) (item_word t (doc_list ds) 0 e) (modify_nodes (paths_after [] (drop 1 es)) (drop 1 (between_items t ds cs)))
root-first t [] ds cs e h k here = absurd (omega arith)
root-first t (d ∷ es) ds cs e h k here = ap (λ (l : List WordTree). modify_nodes ([] ∷ paths_after [] es) l) (item-next t ds cs 0 e k here)

pub root-anew : (t : TyTree) (es : List ℕ) (ds cs : DocTrees) (e : DocTree) → 0 < length es → 0 < length (doc_list cs) → e ≡ get_or (doc_list cs) 0 unit
    → grow (paths es) (with_root (between_items t ds cs) (construct_each t cs)) ≡ unless_empty (modify (Node [])) (item_word t (doc_list ds) 0 e) (graft_each (paths_after [] (drop 1 es)) (drop 1 (construct_each t cs)))
root-anew t [] ds cs e h k here = absurd (omega arith)
root-anew t (d ∷ es) ds no_docs e h k here = absurd (omega arith)
root-anew t (d ∷ es) ds (more_docs c cs) e h k here =
    ap (λ (l : List WordTree). grow ([] ∷ paths_after [] es) (with_root l (construct t c ∷ construct_each t cs))) (item-next t ds (more_docs c cs) 0 e k here)

-- ---- keys of which one is there

pub there-within : (l : List ℕ) (ks : List (List ℕ)) (p : ℕ) → is_first l (drop p ks) ≡ true → p + 1 ≤ length ks
there-within l [] zero h = cc
there-within l [] (suc p) h = cc
there-within l (k ∷ ks) zero h = omega arith
there-within l (k ∷ ks) (suc p) h = let e = there-within l ks p h in omega arith

pub rank-within : (l : List ℕ) (ks : List (List ℕ)) (p : ℕ) → p ≤ length ks → p + key_rank l (drop p ks) ≤ length ks
rank-within l ks p h = let r = rank-length l (drop p ks) in let d = length-drop p ks in omega arith

-- the place behind a key, where it is there or not
pub place-behind : (ks : List (List ℕ)) (l : List ℕ) (p q : ℕ) (b : Bool) → b ≡ is_first l (drop p ks) → p ≤ length ks → q ≡ (if b then p + 1 else p) → q ≤ length ks
place-behind ks l p q true e h k = let w = there-within l ks p (sym e) in omega arith
place-behind ks l p q false e h k = omega arith

pub same-names : (r s : List ℕ) → r ≡ s → true ≡ bytes_eq r s
same-names r s e = sym ((bytes_eq-Decides r s).1 e)
