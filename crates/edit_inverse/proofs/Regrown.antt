-- Nodes that grow again, as the code makes them.
use Rattle.std.proofs.Common.{◌≡◌, ℕ, zero, suc, ◌+◌, ◌-◌, ◌<◌, ◌≤◌, List, [], ◌∷◌, length, map, get_or, take, drop, Option, Some, sym, ap, subst, ◌∙◌, arith}
use Rattle.std.specs.Prelude.{slice_range}
use Rattle.std.proofs.lemmas.List.{drop_more}
use Rattle.hold_shapes.specs.declared.edit.Place.TheVariants.{Key, Node}
use Rattle.hold_shapes.specs.declared.edit.ShapeEdit.TheVariants.{Ins, Del, PutKey, DropKey, Graft, Hang, Shift}
use Rattle.hold_shapes.specs.declared.shape.Shape.{Shape}
use Rattle.hold_shapes.specs.Shapes.{size_of, place_of}
use Rattle.hold_shapes.specs.Trees.{node, child, children, end_of}
use Rattle.doc_values.specs.Documents.{DocTree, unit, DocTrees, no_docs, more_docs, doc_list}
use Rattle.doc_values.specs.Types.{TyTree}
use Rattle.law_shapes.specs.Children.{child_path}
use Rattle.edit_module.specs.declared.word.Primitive.{Primitive}
use Rattle.edit_module.specs.Words.{WordTree, no_primitives, word_of, joined, modify, shape}
use Rattle.edit_module.specs.Views.{primitive_tree}
use Rattle.edit_inverse.specs.Paths.{parent_path, last_number, next_path, paths_after, paths}
use Rattle.edit_inverse.specs.Construct.{construct, construct_each, only, unless_empty, reshape, modify_each, graft_each}
use Rattle.edit_inverse.specs.Inverse.{for_found, inverse_shape, restore_key, regrow, regrow_last}
use Rattle.edit_inverse.proofs.Building.{item-next}
use Rattle.edit_inverse.proofs.Ways.{take-paths_after}
use Rattle.edit_module.proofs.JoinedWords.{joined_nothing}

-- ---- parts of lists

range-next : {X : Type 0} (xs : List X) (i to : ℕ) (x : X) → i < to → drop i xs ≡ x ∷ drop (i + 1) xs → slice_range xs i to ≡ x ∷ slice_range xs (i + 1) to
range-next xs i to x h e =
    let n : to - i ≡ suc (to - (i + 1)) = omega arith in
    ap (λ (l : List _). take (to - i) l) e ∙ ap (λ (k : ℕ). take k (x ∷ drop (i + 1) xs)) n

range-none : {X : Type 0} (xs : List X) (i to : ℕ) → to ≤ i → slice_range xs i to ≡ []
range-none xs i to h = let n : to - i ≡ 0 = omega arith in ap (λ (k : ℕ). take k (drop i xs)) n

-- ---- one more node

pub grown-next : (t : TyTree) (path es : List ℕ) (ds : DocTrees) (i to d : ℕ) (v : DocTree) → i < to → i < length es → i < length (doc_list ds) → d ≡ get_or es i d → v ≡ get_or (doc_list ds) i unit
    → graft_each (paths_after path (slice_range es i to)) (slice_range (construct_each t ds) i to)
    ≡ reshape (Graft (parent_path (next_path path d))) (unless_empty (modify (Node (next_path path d))) (construct t v) (graft_each (paths_after (next_path path d) (slice_range es (i + 1) to)) (slice_range (construct_each t ds) (i + 1) to)))
grown-next t path es ds i to d v more h within is e =
    let P : ℕ → Type 0 = λ n. drop i es ≡ n ∷ drop (i + 1) es in
    let next : P d = subst P (sym is) (drop_more es i d h) in
    ap (λ (l : List WordTree). graft_each (paths_after path (slice_range es i to)) l) (range-next (construct_each t ds) i to (construct t v) more (item-next t ds i v within e))
    ∙ ap (λ (l : List ℕ). graft_each (paths_after path l) (construct t v ∷ slice_range (construct_each t ds) (i + 1) to)) (range-next es i to d more next)

pub grown-done : (t : TyTree) (path es : List ℕ) (ds : DocTrees) (i to : ℕ) → to ≤ i
    → graft_each (paths_after path (slice_range es i to)) (slice_range (construct_each t ds) i to) ≡ graft_each [] []
grown-done t path es ds i to h =
    ap (λ (l : List ℕ). graft_each (paths_after path l) (slice_range (construct_each t ds) i to)) (range-none es i to h)
    ∙ ap (λ (l : List WordTree). graft_each [] l) (range-none (construct_each t ds) i to h)

-- ---- the path of the node before a place

pub path-next : (path es : List ℕ) (i d : ℕ) → 1 ≤ i → i < length es → d ≡ get_or es i d → drop (i - 1) (paths_after [] (drop 1 es)) ≡ paths_after path (drop i es)
    → drop (i + 1 - 1) (paths_after [] (drop 1 es)) ≡ paths_after (next_path path d) (drop (i + 1) es)
path-next path es i d some h is e =
    let P : ℕ → Type 0 = λ n. drop i es ≡ n ∷ drop (i + 1) es in
    let next : P d = subst P (sym is) (drop_more es i d h) in
    let whole = paths_after [] (drop 1 es) in
    let all : drop (i - 1) whole ≡ next_path path d ∷ paths_after (next_path path d) (drop (i + 1) es) = e ∙ ap (λ (l : List ℕ). paths_after path l) next in
    let n : i + 1 - 1 ≡ suc (i - 1) = omega arith in
    ap (λ (k : ℕ). drop k whole) n ∙ tail-of (i - 1) whole (next_path path d) (paths_after (next_path path d) (drop (i + 1) es)) all
  where
    tail-of : (k : ℕ) (xs : List (List ℕ)) (y : List ℕ) (ys : List (List ℕ)) → drop k xs ≡ y ∷ ys → drop (suc k) xs ≡ ys
    tail-of zero [] y ys e = cc
    tail-of zero (x ∷ xs) y ys e = cc
    tail-of (suc k) [] y ys e = cc
    tail-of (suc k) (x ∷ xs) y ys e = tail-of k xs y ys e

-- the paths of the nodes from a place on
pub paths-from : (path es : List ℕ) (i to : ℕ) → 1 ≤ i → 0 < length es → drop (i - 1) (paths_after [] (drop 1 es)) ≡ paths_after path (drop i es)
    → slice_range (paths es) i to ≡ paths_after path (slice_range es i to)
paths-from path [] i to some h e = absurd (omega arith)
paths-from path (d ∷ es) zero to some h e = absurd (omega arith)
paths-from path (d ∷ es) (suc i) to some h e =
    let n : suc i - 1 ≡ i = omega arith in
    let here : drop i (paths_after [] es) ≡ paths_after path (drop i es) = ap (λ (k : ℕ). drop k (paths_after [] es)) (sym n) ∙ e in
    ap (λ (l : List (List ℕ)). take (to - suc i) l) here ∙ take-paths_after path (drop i es) (to - suc i)

-- what was pruned, as it was found
pub regrown : (t : TyTree) (es q path : List ℕ) (ds : DocTrees) (p c e : ℕ) → node es q ≡ Some p → child es p (children es p - 1) ≡ Some c → end_of es c ≡ e → 1 ≤ c → 0 < length es
    → drop (c - 1) (paths_after [] (drop 1 es)) ≡ paths_after path (drop c es)
    → for_found (node es q) (regrow_last es (construct_each t ds)) ≡ graft_each (paths_after path (slice_range es c e)) (slice_range (construct_each t ds) c e)
regrown t es q path ds p c e is last ends some h from =
    let ws = construct_each t ds in
    ap (λ (o : Option ℕ). for_found o (regrow_last es ws)) is
    ∙ (ap (λ (o : Option ℕ). for_found o (λ k. regrow (paths es) ws k (end_of es k))) last
    ∙ (ap (λ (n : ℕ). regrow (paths es) ws c n) ends
    ∙ ap (λ (qs : List (List ℕ)). graft_each qs (slice_range ws c e)) (paths-from path es c e some h from)))

-- ---- a subtree that goes back

pub unhung-made : (start one two : List Primitive) (child parent again p q : List ℕ) (number last i : ℕ) → start ≡ []
    → ((rest : WordTree) → joined (word_of (map primitive_tree one)) rest ≡ joined (word_of (map primitive_tree start)) (reshape (Hang child parent) rest))
    → ((rest : WordTree) → joined (word_of (map primitive_tree two)) rest ≡ joined (word_of (map primitive_tree one)) (reshape (Shift again last i) rest))
    → child ≡ child_path q number → parent ≡ parent_path p → again ≡ parent_path p → i ≡ last_number p
    → word_of (map primitive_tree two) ≡ reshape (Hang (child_path q number) (parent_path p)) (only (shape (Shift (parent_path p) last (last_number p))))
unhung-made start one two child parent again p q number last i none first second a b d e =
    let rest = reshape (Shift again last i) no_primitives in
    sym (joined_nothing (word_of (map primitive_tree two)))
    ∙ (second no_primitives
    ∙ (first rest
    ∙ (ap (λ (l : List Primitive). joined (word_of (map primitive_tree l)) (reshape (Hang child parent) rest)) none
    ∙ (ap (λ (x : List ℕ). reshape (Hang x parent) rest) a
    ∙ (ap (λ (x : List ℕ). reshape (Hang (child_path q number) x) rest) b
    ∙ (ap (λ (x : List ℕ). reshape (Hang (child_path q number) (parent_path p)) (reshape (Shift x last i) no_primitives)) d
    ∙ ap (λ (x : ℕ). reshape (Hang (child_path q number) (parent_path p)) (reshape (Shift (parent_path p) last x) no_primitives)) e))))))

-- items that come back
pub items-made : (ws : List WordTree) (start one : List Primitive) (c from : ℕ) (s : Shape) → start ≡ []
    → ((rest : WordTree) → joined (word_of (map primitive_tree one)) rest ≡ joined (word_of (map primitive_tree start)) (reshape (Ins c) rest))
    → from ≡ size_of s - c → joined (word_of (map primitive_tree one)) (modify_each from (drop from ws)) ≡ inverse_shape (Del c) s ws
items-made ws start one c from s none first is =
    first (modify_each from (drop from ws))
    ∙ (ap (λ (l : List Primitive). joined (word_of (map primitive_tree l)) (reshape (Ins c) (modify_each from (drop from ws)))) none
    ∙ ap (λ (n : ℕ). reshape (Ins c) (modify_each n (drop n ws))) is)

-- a key that comes back
pub made-at : (t : TyTree) (ds : DocTrees) (i : ℕ) (d : DocTree) → i < length (doc_list ds) → d ≡ get_or (doc_list ds) i unit → get_or (construct_each t ds) i no_primitives ≡ construct t d
made-at t no_docs i d h e = absurd (omega arith)
made-at t (more_docs v ds) zero d h e = ap (λ (x : DocTree). construct t x) (sym e)
made-at t (more_docs v ds) (suc i) d h e = made-at t ds i d (omega arith) e

pub key-made : (ws : List WordTree) (start one : List Primitive) (k : List ℕ) (s : Shape) (i : ℕ) (w : WordTree) → start ≡ []
    → ((rest : WordTree) → joined (word_of (map primitive_tree one)) rest ≡ joined (word_of (map primitive_tree start)) (reshape (PutKey k) (unless_empty (modify (Key k)) w rest)))
    → place_of s (Key k) ≡ Some i → get_or ws i no_primitives ≡ w → word_of (map primitive_tree one) ≡ inverse_shape (DropKey k) s ws
key-made ws start one k s i w none first there made =
    sym (joined_nothing (word_of (map primitive_tree one)))
    ∙ (first no_primitives
    ∙ (ap (λ (l : List Primitive). joined (word_of (map primitive_tree l)) (reshape (PutKey k) (unless_empty (modify (Key k)) w no_primitives))) none
    ∙ (ap (λ (x : WordTree). reshape (PutKey k) (unless_empty (modify (Key k)) x no_primitives)) (sym made)
    ∙ ap (λ (o : Option ℕ). reshape (PutKey k) (for_found o (restore_key k ws))) (sym there))))
