-- What each edit needs of a list of documents, and what it makes of it.
use Rattle.std.proofs.Common.{◌≡◌, ℕ, zero, suc, ◌+◌, ◌-◌, ◌<◌, ◌≤◌, Bool, true, false, ◌&&◌, List, [], ◌∷◌, ◌++◌, length, map, take, drop, get_or, set, replicate, Some, None, Result, Ok, Err, refl, ap, sym, ◌∙◌, subst, arith, length-append}
use Rattle.std.specs.Prelude.{nat_eq, nat_lt, nat_le, cond}
use Rattle.std.specs.List.{insert, remove, range_with_len}
use Rattle.std.proofs.lemmas.Bool.{ne_eqb, eqb-true, lt-ltb, le-leb, ltb-true}
use Rattle.std.proofs.lemmas.List.{length-replicate, append-nil, map-append, length-map, take_at, take-map, drop-map, length-take-le, length-take, length-drop, length-set, drop_more}
use Rattle.texts.proofs.Conjunction.{first, second}
use Rattle.hold_shapes.specs.declared.shape.Shape.{Shape}
use Rattle.hold_shapes.specs.declared.origins.Origin.{Origin}
use Rattle.hold_shapes.specs.declared.origins.Origin.TheVariants.{Old, Fresh}
use Rattle.hold_shapes.specs.declared.edit.Place.TheVariants.{Index}
use Rattle.hold_shapes.specs.declared.edit.ShapeEdit.{ShapeEdit}
use Rattle.hold_shapes.specs.declared.edit.ShapeEdit.TheVariants.{Ins, Del, MoveItem, Reorder, PutKey, DropKey, RenameKey, Graft, Prune, Shift, Hang}
use Rattle.hold_shapes.specs.Causes as Fault
use Rattle.hold_shapes.specs.Plans.{Planned, old_places, list_of, is_count, is_each_new, plan_list}
use Rattle.hold_shapes.specs.Gather.{content_at}
use Rattle.hold_shapes.specs.declared.lists.TheConstants.{MOST_ITEMS}
use Rattle.law_shapes.proofs.Content.{content-old_places}
use Rattle.doc_values.specs.Documents.{DocTree, unit, hold, docs_of}
use Rattle.doc_values.specs.Types.{TyTree, ty_list}
use Rattle.edit_module.specs.declared.fault.Cause.{Cause}
use Rattle.doc_values.specs.Initial.{initial}
use Rattle.edit_module.specs.Words.{modify, shape, WordTree, no_primitives, more_primitives, joined}
use Rattle.edit_module.specs.Action.{act, act_primitive, put_at, doc_at, reshaped}
use Rattle.lens_core.specs.Emitted.{mod_word, shape_word}
use Rattle.lens_core.specs.Consistency.{list_doc}
use Rattle.lens_core.specs.Partition.{mv, del, reorder, is_identity}
use Rattle.doc_values.proofs.Lists.{doc_list-docs_of}
use Rattle.lens_core.proofs.Results.{acted_at}
use Rattle.lens_core.proofs.ItemLists.{IsSplit, split_at, parts_same, here_is, without_here, set_here, put_here}
use Rattle.edit_module.proofs.JoinedWords.{acts_joined}
use Rattle.lens_core.proofs.RightLists.{Turns}

-- ---- edits of lists of anything

-- what a list of n items must be for the edit to have a plan
abbrev pub Allowed : ℕ → ShapeEdit → Type 0
Allowed n (Ins c) = is_count c ≡ true
Allowed n (Del c) = (is_count c && nat_le c n) ≡ true
Allowed n (MoveItem i j) = (nat_lt i n && nat_lt j n) ≡ true
Allowed n (Reorder f) = (nat_eq (length f) n ≡ true) × (is_each_new n [] f ≡ true)
Allowed n _ = ⊥

-- the list after the edit, d the fresh item
abbrev pub edited : {A : Type 0} → A → ShapeEdit → List A → List A
edited d (Ins c) xs = xs ++ replicate c d
edited d (Del c) xs = take (length xs - c) xs
edited d (MoveItem i j) xs = insert (remove xs i) j (get_or xs i d)
edited d (Reorder f) xs = map (λ k. get_or xs k d) f
edited d _ xs = xs

get_or-through : {A B : Type 0} (f : A → B) (xs : List A) (i : ℕ) (d : A) → get_or (map f xs) i (f d) ≡ f (get_or xs i d)
get_or-through f [] i d = refl
get_or-through f (x ∷ xs) zero d = refl
get_or-through f (x ∷ xs) (suc i) d = get_or-through f xs i d

replicate-through : {A B : Type 0} (f : A → B) (c : ℕ) (d : A) → map f (replicate c d) ≡ replicate c (f d)
replicate-through f zero d = refl
replicate-through f (suc c) d = ap (λ z. f d ∷ z) (replicate-through f c d)

order-through : {A B : Type 0} (f : A → B) (xs : List A) (g : List ℕ) (d : A) → map (λ k. get_or (map f xs) k (f d)) g ≡ map f (map (λ k. get_or xs k d) g)
order-through f xs [] d = refl
order-through f xs (k ∷ g) d = rw (get_or-through f xs k d, order-through f xs g d) refl

pub remove-through : {A B : Type 0} (f : A → B) (xs : List A) (i : ℕ) → remove (map f xs) i ≡ map f (remove xs i)
remove-through f xs i = rw (map-append f (take i xs) (drop (suc i) xs), take-map f i xs, drop-map f (suc i) xs) refl

pub insert-through : {A B : Type 0} (f : A → B) (xs : List A) (i : ℕ) (x : A) → insert (map f xs) i (f x) ≡ map f (insert xs i x)
insert-through f xs i x = rw (map-append f (take i xs) (x ∷ drop i xs), take-map f i xs, drop-map f i xs) refl

-- an edit of the images of items gives the images of the edited items
pub edited-through : {A B : Type 0} (f : A → B) (d : A) (e : ShapeEdit) (xs : List A) → edited (f d) e (map f xs) ≡ map f (edited d e xs)
edited-through f d (Ins c) xs = rw (map-append f xs (replicate c d), replicate-through f c d) refl
edited-through f d (Del c) xs = rw (length-map xs f) (take-map f (length xs - c) xs)
edited-through f d (MoveItem i j) xs = rw (remove-through f xs i, get_or-through f xs i d) (insert-through f (remove xs i) j (get_or xs i d))
edited-through f d (Reorder g) xs = order-through f xs g d
edited-through f d (PutKey k) xs = refl
edited-through f d (DropKey k) xs = refl
edited-through f d (RenameKey k m) xs = refl
edited-through f d (Graft p) xs = refl
edited-through f d (Prune p) xs = refl
edited-through f d (Shift p i j) xs = refl
edited-through f d (Hang p q) xs = refl

-- ---- plans of lists

-- the new size and the origins
abbrev size_after : ℕ → ShapeEdit → ℕ
size_after n (Ins c) = n + c
size_after n (Del c) = n - c
size_after n _ = n

abbrev origins : ℕ → ShapeEdit → List Origin
origins n (Ins c) = old_places n ++ replicate c Fresh
origins n (Del c) = old_places (n - c)
origins n (MoveItem i j) = insert (remove (old_places n) i) j (Old i)
origins n (Reorder f) = map Old f
origins n _ = old_places n

planned : (n : ℕ) (e : ShapeEdit) → Allowed n e → plan_list n e ≡ Ok (list_of (size_after n e), origins n e)
planned n (Ins c) h = rw h refl
planned n (Del c) h = rw h refl
planned n (MoveItem i j) h = rw h refl
planned n (Reorder f) h = rw (h.0, h.1) refl
planned n (PutKey k) h = absurd h
planned n (DropKey k) h = absurd h
planned n (RenameKey k m) h = absurd h
planned n (Graft p) h = absurd h
planned n (Prune p) h = absurd h
planned n (Shift p i j) h = absurd h
planned n (Hang p q) h = absurd h

allowed_if : {A B : Type 0} (b : Bool) (x r : A) (c : B) → cond b (Ok x) (Err c) ≡ Ok r → b ≡ true
allowed_if true x r c e = refl
allowed_if false x r c e = cc

allowed_both : {A B : Type 0} (a b : Bool) (x r : A) (c d : B) → cond a (cond b (Ok x) (Err c)) (Err d) ≡ Ok r → (a ≡ true) × (b ≡ true)
allowed_both true true x r c d e = (refl, refl)
allowed_both true false x r c d e = cc
allowed_both false b x r c d e = cc

plan_allowed : (n : ℕ) (e : ShapeEdit) (r : Shape × List Origin) → plan_list n e ≡ Ok r → Allowed n e
plan_allowed n (Ins c) r h = allowed_if (is_count c) (list_of (n + c), old_places n ++ replicate c Fresh) r Fault.Range h
plan_allowed n (Del c) r h = allowed_if (is_count c && nat_le c n) (list_of (n - c), old_places (n - c)) r Fault.Range h
plan_allowed n (MoveItem i j) r h = allowed_if (nat_lt i n && nat_lt j n) (list_of n, insert (remove (old_places n) i) j (Old i)) r Fault.Place h
plan_allowed n (Reorder f) r h = allowed_both (nat_eq (length f) n) (is_each_new n [] f) (list_of n, map Old f) r Fault.Range Fault.Length h
plan_allowed n (PutKey k) r h = cc
plan_allowed n (DropKey k) r h = cc
plan_allowed n (RenameKey k m) r h = cc
plan_allowed n (Graft p) r h = cc
plan_allowed n (Prune p) r h = cc
plan_allowed n (Shift p i j) r h = cc
plan_allowed n (Hang p q) r h = cc

-- the origins of the contents, gathered
fresh_contents : (c : ℕ) (vs : List DocTree) (d : DocTree) → map (content_at vs d) (replicate c Fresh) ≡ replicate c d
fresh_contents zero vs d = refl
fresh_contents (suc c) vs d = ap (λ z. d ∷ z) (fresh_contents c vs d)

order_contents : (vs : List DocTree) (d : DocTree) (f : List ℕ) → map (content_at vs d) (map Old f) ≡ map (λ k. get_or vs k d) f
order_contents vs d [] = refl
order_contents vs d (k ∷ f) = ap (λ z. get_or vs k d ∷ z) (order_contents vs d f)

range_contents : (vs : List DocTree) (d : DocTree) (a m : ℕ) → a + m ≤ length vs → map (content_at vs d) (map Old (range_with_len a m)) ≡ take m (drop a vs)
range_contents vs d a zero h = refl
range_contents vs d a (suc m) h = rw (drop_more vs a d (omega arith), range_contents vs d (a + 1) m (omega arith)) refl

gathered_as : (vs : List DocTree) (d : DocTree) (e : ShapeEdit) → Allowed (length vs) e → map (content_at vs d) (origins (length vs) e) ≡ edited d e vs
gathered_as vs d (Ins c) h =
    map-append (content_at vs d) (old_places (length vs)) (replicate c Fresh) ∙ rw (content-old_places DocTree d vs (length vs) refl, fresh_contents c vs d) refl
gathered_as vs d (Del c) h = range_contents vs d 0 (length vs - c) (omega arith)
gathered_as vs d (MoveItem i j) h =
    sym (insert-through (content_at vs d) (remove (old_places (length vs)) i) j (Old i))
    ∙ (ap (λ z. insert z j (get_or vs i d)) (sym (remove-through (content_at vs d) (old_places (length vs)) i) ∙ ap (λ z. remove z i) (content-old_places DocTree d vs (length vs) refl)))
gathered_as vs d (Reorder f) h = order_contents vs d f
gathered_as vs d (PutKey k) h = absurd h
gathered_as vs d (DropKey k) h = absurd h
gathered_as vs d (RenameKey k m) h = absurd h
gathered_as vs d (Graft p) h = absurd h
gathered_as vs d (Prune p) h = absurd h
gathered_as vs d (Shift p i j) h = absurd h
gathered_as vs d (Hang p q) h = absurd h

size_is : (vs : List DocTree) (d : DocTree) (e : ShapeEdit) → Allowed (length vs) e → size_after (length vs) e ≡ length (edited d e vs)
size_is vs d (Ins c) h = sym (length-append vs (replicate c d) ∙ ap (λ z. length vs + z) (length-replicate c d))
size_is vs d (Del c) h = sym (length-take-le (length vs - c) vs (omega arith))
size_is vs d (MoveItem i j) h =
    let a = ltb-true i (length vs) (first (nat_lt i (length vs)) (nat_lt j (length vs)) h) in
    let b = ltb-true j (length vs) (second (nat_lt i (length vs)) (nat_lt j (length vs)) h) in
    simp (length-append, length-take, length-drop) (omega arith)
size_is vs d (Reorder f) h = sym (length-map f (λ k. get_or vs k d) ∙ eqb-true (length f) (length vs) h.0)
size_is vs d (PutKey k) h = absurd h
size_is vs d (DropKey k) h = absurd h
size_is vs d (RenameKey k m) h = absurd h
size_is vs d (Graft p) h = absurd h
size_is vs d (Prune p) h = absurd h
size_is vs d (Shift p i j) h = absurd h
size_is vs d (Hang p q) h = absurd h

-- ---- what acts on a list

edit_result : (t : TyTree) (e : ShapeEdit) (vs : List DocTree) → Allowed (length vs) e → act_primitive (ty_list t) (shape e) (list_doc vs) ≡ Ok (list_doc (edited (initial t) e vs))
edit_result t e vs h = rw (planned (length vs) e h, doc_list-docs_of vs, gathered_as vs (initial t) e h, size_is vs (initial t) e h) refl

pub edit_turns : (t : TyTree) (e : ShapeEdit) (vs : List DocTree) → Allowed (length vs) e → Turns t (shape_word e) vs (edited (initial t) e vs)
edit_turns t e vs h = rw (edit_result t e vs h) refl

edit_allowed : (t : TyTree) (e : ShapeEdit) (vs : List DocTree) (x : DocTree) (p : Planned) → plan_list (length vs) e ≡ p → reshaped p (docs_of vs) (initial t) ≡ Ok x → Allowed (length vs) e
edit_allowed t e vs x (Ok r) f h = plan_allowed (length vs) e r f
edit_allowed t e vs x (Err fault) f h = cc

-- an edit that acts was allowed, and its answer is known
pub edit_back : (t : TyTree) (e : ShapeEdit) (vs : List DocTree) (x : DocTree) → act_primitive (ty_list t) (shape e) (list_doc vs) ≡ Ok x
    → Allowed (length vs) e × (x ≡ list_doc (edited (initial t) e vs))
edit_back t e vs x h =
    let a = edit_allowed t e vs x (plan_list (length vs) e) refl h in
    (a, same_ok (act_primitive (ty_list t) (shape e) (list_doc vs)) x (list_doc (edited (initial t) e vs)) h (edit_result t e vs a))
  where
    same_ok : (r : Result DocTree Cause) (u v : DocTree) → r ≡ Ok u → r ≡ Ok v → u ≡ v
    same_ok r u v e f = cc

-- a word inside a place
place_in_list : (us : List DocTree) (v : DocTree) (ws : List DocTree) → nat_lt (length us) (length (us ++ v ∷ ws)) ≡ true
place_in_list us v ws = lt-ltb (length us) (length (us ++ v ∷ ws)) (simp length-append (omega arith))

same_length : (us : List DocTree) (v u : DocTree) (ws : List DocTree) → length (us ++ v ∷ ws) ≡ length (us ++ u ∷ ws)
same_length us v u ws = length-append us (v ∷ ws) ∙ sym (length-append us (u ∷ ws))

doc_there : (us : List DocTree) (v : DocTree) (ws : List DocTree) → doc_at (docs_of (us ++ v ∷ ws)) (length us) ≡ v
doc_there us v ws = ap (λ z. get_or z (length us) unit) (doc_list-docs_of (us ++ v ∷ ws)) ∙ here_is us v ws unit

put_there : (us : List DocTree) (v u : DocTree) (ws : List DocTree) → put_at (docs_of (us ++ v ∷ ws)) (length us) u ≡ docs_of (us ++ u ∷ ws)
put_there us v u ws = ap docs_of (ap (λ z. set z (length us) u) (doc_list-docs_of (us ++ v ∷ ws)) ∙ set_here us v ws u)

pub mod_turns : (t : TyTree) (w : WordTree) (us : List DocTree) (v u : DocTree) (ws : List DocTree) → act t w v ≡ Ok u → Turns t (mod_word (Index (length us)) w) (us ++ v ∷ ws) (us ++ u ∷ ws)
mod_turns t no_primitives us v u ws e = let same : v ≡ u = cc in ap (λ z. Ok (list_doc (us ++ z ∷ ws))) same
mod_turns t (more_primitives p w) us v u ws e =
    rw (place_in_list us v ws, doc_there us v ws, e, put_there us v u ws, same_length us v u ws) refl

-- what acted inside a place
pub record ModActs (t : TyTree) (w : WordTree) (vs : List DocTree) (p : ℕ) (x : DocTree) : Type 0 where
  pub split : IsSplit vs p
  pub content : DocTree
  pub acts : act t w split.here ≡ Ok content
  pub is : x ≡ list_doc (split.before ++ content ∷ split.after)

some_if : (b : Bool) (p i : ℕ) → cond b (Some p) None ≡ Some i → (b ≡ true) × (p ≡ i)
some_if true p i e = (refl, cc)
some_if false p i e = cc

pub mod_back : (t : TyTree) (w : WordTree) (vs : List DocTree) (p : ℕ) (x : DocTree) → act_primitive (ty_list t) (modify (Index p) w) (list_doc vs) ≡ Ok x → ModActs t w vs p x
mod_back t w vs p x e =
    let a = acted_at t w (list_of (length vs)) (docs_of vs) (Index p) x e in
    let b = some_if (nat_lt p (length vs)) p a.0 a.2 in
    let s = split_at vs p (ltb-true p (length vs) b.0) in
    let there : doc_at (docs_of vs) a.0 ≡ s.here =
    ap (λ z. get_or z a.0 unit) (doc_list-docs_of vs) ∙ (ap (λ z. get_or z a.0 unit) s.is ∙ (ap (λ z. get_or (s.before ++ s.here ∷ s.after) z unit) (sym b.1 ∙ sym s.long) ∙ here_is s.before s.here s.after unit)) in
    let changed : set vs a.0 a.1 ≡ s.before ++ a.1 ∷ s.after =
    ap (λ z. set z a.0 a.1) s.is ∙ (ap (λ z. set (s.before ++ s.here ∷ s.after) z a.1) (sym b.1 ∙ sym s.long) ∙ set_here s.before s.here s.after a.1) in
    record {
      split = s;
      content = a.1;
      acts = subst (λ z. act t w z ≡ Ok a.1) there a.3;
      is = a.4 ∙ (ap (λ z. hold (list_of (length vs)) (docs_of (set z a.0 a.1))) (doc_list-docs_of vs)
          ∙ (ap (λ z. hold (list_of z) (docs_of (set vs a.0 a.1))) (sym (length-set vs a.0 a.1)) ∙ ap list_doc changed));
    }

-- ---- the words of the rows

-- an item moved from the end of one first part to the end of another
pub mv_turns : (t : TyTree) (us ws cs ds : List DocTree) (v : DocTree) → us ++ ws ≡ cs ++ ds → Turns t (mv (length us) (length cs)) (us ++ v ∷ ws) (cs ++ v ∷ ds)
mv_turns t us ws cs ds v e = go (nat_eq (length us) (length cs)) refl
  where
    go : (b : Bool) → nat_eq (length us) (length cs) ≡ b → Turns t (cond b no_primitives (shape_word (MoveItem (length us) (length cs)))) (us ++ v ∷ ws) (cs ++ v ∷ ds)
    go true f =
        let same = parts_same us ws cs ds e (eqb-true (length us) (length cs) f) in
        ap (λ z. Ok (list_doc z)) (ap (λ z. z ++ v ∷ ws) same.0 ∙ ap (λ z. cs ++ v ∷ z) same.1)
    go false f =
        let long : length us + length ws ≡ length cs + length ds = sym (length-append us ws) ∙ (ap length e ∙ length-append cs ds) in
        let whole : length (us ++ v ∷ ws) ≡ length us + suc (length ws) = length-append us (v ∷ ws) in
        let a = place_in_list us v ws in
        let b : nat_lt (length cs) (length (us ++ v ∷ ws)) ≡ true = lt-ltb (length cs) (length (us ++ v ∷ ws)) (omega arith) in
        edit_turns t (MoveItem (length us) (length cs)) (us ++ v ∷ ws) (rw (a, b) refl)
        ∙ ap (λ z. Ok (list_doc z)) (rw (here_is us v ws (initial t), without_here us v ws, e) (put_here cs ds v))

-- the last part of a list deleted, where there is one
pub del_turns : (t : TyTree) (us ws : List DocTree) (k : ℕ) → k ≡ length ws → k ≤ MOST_ITEMS → Turns t (del k) (us ++ ws) us
del_turns t us [] zero e h = ap (λ z. Ok (list_doc z)) (append-nil us)
del_turns t us [] (suc k) e h = absurd (omega arith)
del_turns t us (w ∷ ws) zero e h = absurd (omega arith)
del_turns t us (w ∷ ws) (suc k) e h =
    let whole : length (us ++ w ∷ ws) ≡ length us + suc (length ws) = length-append us (w ∷ ws) in
    let a : nat_le 1 (suc k) ≡ true = le-leb 1 (suc k) (omega arith) in
    let b : nat_le (suc k) MOST_ITEMS ≡ true = le-leb (suc k) MOST_ITEMS h in
    let c : nat_le (suc k) (length (us ++ w ∷ ws)) ≡ true = le-leb (suc k) (length (us ++ w ∷ ws)) (omega arith) in
    let n : length us ≡ length (us ++ w ∷ ws) - suc k = omega arith in
    let some : nat_eq (suc k) 0 ≡ false = ne_eqb (suc k) 0 (omega arith) in
    ap (λ z. act (ty_list t) (cond z no_primitives (shape_word (Del (suc k)))) (list_doc (us ++ w ∷ ws))) some
    ∙ (edit_turns t (Del (suc k)) (us ++ w ∷ ws) (rw (a, b, c) refl) ∙ ap (λ z. Ok (list_doc z)) (take_at us (w ∷ ws) (length (us ++ w ∷ ws) - suc k) n))

-- an item moved to the end and deleted
pub remove_turns : (t : TyTree) (us ws : List DocTree) (v : DocTree) (last : ℕ) → last ≡ length (us ++ ws) → Turns t (joined (mv (length us) last) (shape_word (Del 1))) (us ++ v ∷ ws) (us ++ ws)
remove_turns t us ws v last e =
    let moved = mv_turns t us ws (us ++ ws) [] v (sym (append-nil (us ++ ws))) in
    acts_joined (ty_list t) (mv (length us) last) (shape_word (Del 1)) (list_doc (us ++ v ∷ ws)) (list_doc ((us ++ ws) ++ v ∷ [])) (list_doc (us ++ ws))
    (ap (λ z. act (ty_list t) (mv (length us) z) (list_doc (us ++ v ∷ ws))) e ∙ moved) (del_turns t (us ++ ws) (v ∷ []) 1 refl (omega arith))

-- an order of all places
identity_is : (vs : List DocTree) (d : DocTree) (k : ℕ) (g : List ℕ) → is_identity k g ≡ true → g ≡ range_with_len k (length g)
identity_is vs d k [] e = refl
identity_is vs d k (j ∷ g) e =
    let here : k ≡ j = eqb-true k j (first (nat_eq k j) (is_identity (k + 1) g) e) in
    let rest = identity_is vs d (k + 1) g (second (nat_eq k j) (is_identity (k + 1) g) e) in
    ap (λ z. z ∷ g) (sym here) ∙ ap (λ z. k ∷ z) rest

pub reorder_turns : (t : TyTree) (vs : List DocTree) (g : List ℕ) → Allowed (length vs) (Reorder g) → Turns t (reorder g) vs (map (λ k. get_or vs k (initial t)) g)
reorder_turns t vs g h = go (is_identity 0 g) refl
  where
    go : (b : Bool) → is_identity 0 g ≡ b → Turns t (cond b no_primitives (shape_word (Reorder g))) vs (map (λ k. get_or vs k (initial t)) g)
    go true e =
        let n : length g ≡ length vs = eqb-true (length g) (length vs) h.0 in
        let same : g ≡ range_with_len 0 (length vs) = identity_is vs (initial t) 0 g e ∙ ap (range_with_len 0) n in
        let whole : map (λ k. get_or vs k (initial t)) (range_with_len 0 (length vs)) ≡ vs =
        sym (order_contents vs (initial t) (range_with_len 0 (length vs))) ∙ content-old_places DocTree (initial t) vs (length vs) refl in
        ap (λ z. Ok (list_doc z)) (sym (ap (map (λ k. get_or vs k (initial t))) same ∙ whole))
    go false e = edit_turns t (Reorder g) vs h
