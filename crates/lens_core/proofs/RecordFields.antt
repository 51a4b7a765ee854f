-- The fields of a record: their types where one is put in its place, their contents, and an edit of one.
use Rattle.std.proofs.Common.{◌∙◌, ◌≡◌, ℕ, zero, suc, Bool, true, false, List, Option, None, Some, option_map, Result, Ok, Err, refl, ap, sym, subst, one-add}
use Rattle.std.specs.Prelude.{if◌then◌else◌, bytes_eq, cond}
use Rattle.texts.specs.declared.side.Side.{Side}
use Rattle.texts.specs.declared.side.Side.TheVariants.{Left, Right}
use Rattle.texts.specs.Keys.{is_before}
use Rattle.texts.proofs.Conjunction.{second}
use Rattle.texts.proofs.KeyOrder.{before-differs, bytes_eq-refl}
use Rattle.doc_values.specs.Documents.{DocTree, rec, DocTrees, no_docs, more_docs}
use Rattle.doc_values.specs.Types.{TyTree, ty_rec, FieldTrees, no_fields, more_fields}
use Rattle.doc_values.specs.Typing.{has, has_fields, lookup_field, lookup_type, later_field}
use Rattle.doc_values.specs.Initial.{initial, initial_fields}
use Rattle.doc_values.proofs.Lists.{docs_of-doc_list}
use Rattle.edit_module.specs.declared.fault.Cause.TheVariants.{Place}
use Rattle.edit_module.specs.Words.{PrimitiveTree, set as set_to, add, splice, at, stay, switch, modify, shape, WordTree, no_primitives, more_primitives}
use Rattle.edit_module.specs.Action.{Why, act, act_primitive, map_ok, put_result_at, put_at, doc_at, if_present, inner}
use Rattle.lens_forms.specs.Forms.{RowTrees, form_rec, insert_field}
use Rattle.lens_core.specs.Sides.{type_on, fields_on}
use Rattle.lens_core.specs.Emitted.{at_word}
use Rattle.lens_core.specs.Consistency.{content}
use Rattle.lens_core.proofs.LawsOfLeaves.{differs_back}
use Rattle.texts.proofs.Tests.{bytes_eq-is}

-- ---- fields that are sorted

-- the type of a name, by the first field
pub lookup_type-more : (m : List ℕ) (t : TyTree) (fs : FieldTrees) (n : List ℕ) → lookup_type (more_fields m t fs) n ≡ (if bytes_eq m n then Some t else lookup_type fs n)
lookup_type-more m t fs n = go (bytes_eq m n) (lookup_field fs n)
  where
    go : (b : Bool) (o : Option (ℕ × TyTree)) → option_map (λ (f : ℕ × TyTree). f.1) (cond b (Some (0, t)) (option_map (later_field 1) o)) ≡ cond b (Some t) (option_map (λ (f : ℕ × TyTree). f.1) o)
    go true o = refl
    go false None = refl
    go false (Some f) = refl

-- a name that is not the one put in, behind a field before it
pass_first : (b c : Bool) (t u : TyTree) (o : Option TyTree) → (b ≡ true → c ≡ false) → cond b (Some u) (cond c (Some t) o) ≡ cond c (Some t) (cond b (Some u) o)
pass_first true true t u o h = let k : true ≡ false = h refl in cc
pass_first true false t u o h = refl
pass_first false c t u o h = refl

not_both : (m n k : List ℕ) → is_before m n ≡ true → bytes_eq m k ≡ true → bytes_eq n k ≡ false
not_both m n k h e =
    let same = bytes_eq-is m k e in
    differs_back k n (subst (λ z. bytes_eq z n ≡ false) same (before-differs m n h))

pub lookup_type-insert : (n : List ℕ) (t : TyTree) (fs : FieldTrees) (k : List ℕ) → lookup_type (insert_field n t fs) k ≡ (if bytes_eq n k then Some t else lookup_type fs k)
lookup_type-insert n t no_fields k = lookup_type-more n t no_fields k
lookup_type-insert n t (more_fields m u fs) k = go (is_before m n) refl (lookup_type-insert n t fs k)
  where
    go : (b : Bool) → is_before m n ≡ b → lookup_type (insert_field n t fs) k ≡ cond (bytes_eq n k) (Some t) (lookup_type fs k)
        → lookup_type (cond b (more_fields m u (insert_field n t fs)) (more_fields n t (more_fields m u fs))) k ≡ cond (bytes_eq n k) (Some t) (lookup_type (more_fields m u fs) k)
    go true h again =
        lookup_type-more m u (insert_field n t fs) k ∙ (ap (λ o. cond (bytes_eq m k) (Some u) o) again
        ∙ (pass_first (bytes_eq m k) (bytes_eq n k) t u (lookup_type fs k) (λ e. not_both m n k h e)
        ∙ ap (λ o. cond (bytes_eq n k) (Some t) o) (sym (lookup_type-more m u fs k))))
    go false h again = lookup_type-more n t (more_fields m u fs) k

-- ---- contents by fields

pub content-found : (fs : FieldTrees) (ds : DocTrees) (n : List ℕ) (s : ℕ × TyTree) → has_fields fs ds ≡ true → lookup_field fs n ≡ Some s → content fs ds n ≡ Some (doc_at ds s.0)
content-found no_fields ds n s h e = cc
content-found (more_fields m t fs) no_docs n s h e = cc
content-found (more_fields m t fs) (more_docs d ds) n s h e = go (bytes_eq m n) (lookup_field fs n) e (λ r k. content-found fs ds n r (second (has t d) (has_fields fs ds) h) k) refl
  where
    go : (b : Bool) (o : Option (ℕ × TyTree)) → cond b (Some (0, t)) (option_map (later_field 1) o) ≡ Some s → ((r : ℕ × TyTree) → o ≡ Some r → content fs ds n ≡ Some (doc_at ds r.0)) → bytes_eq m n ≡ b
        → cond b (Some d) (content fs ds n) ≡ Some (doc_at (more_docs d ds) s.0)
    go true o f again q = let same : (0, t) ≡ s = cc in subst (λ (z : ℕ × TyTree). Some d ≡ Some (doc_at (more_docs d ds) z.0)) same refl
    go false None f again q = cc
    go false (Some r) f again q =
        let same : later_field 1 r ≡ s = cc in
        subst (λ (z : ℕ × TyTree). content fs ds n ≡ Some (doc_at (more_docs d ds) z.0)) same (again r refl ∙ rw one-add refl)

-- one content exchanged
abbrev pub with_content : List ℕ → DocTree → (List ℕ → Option DocTree) → List ℕ → Option DocTree
with_content n v f k = if bytes_eq n k then Some v else f k

pub content-put : (fs : FieldTrees) (ds : DocTrees) (n : List ℕ) (s : ℕ × TyTree) (v : DocTree) → has_fields fs ds ≡ true → lookup_field fs n ≡ Some s
    → (k : List ℕ) → content fs (put_at ds s.0 v) k ≡ with_content n v (content fs ds) k
content-put no_fields ds n s v h e k = cc
content-put (more_fields m t fs) no_docs n s v h e k = cc
content-put (more_fields m t fs) (more_docs d ds) n s v h e k =
    go (bytes_eq m n) (lookup_field fs n) e (λ r q. content-put fs ds n r v (second (has t d) (has_fields fs ds) h) q k) refl
  where
    same_name : bytes_eq m n ≡ true → bytes_eq m k ≡ bytes_eq n k
    same_name q = ap (λ z. bytes_eq z k) (bytes_eq-is m n q)

    here : (b : Bool) → cond b (Some v) (content fs ds k) ≡ cond b (Some v) (cond b (Some d) (content fs ds k))
    here true = refl
    here false = refl

    unlike : bytes_eq m n ≡ false → (b c : Bool) → bytes_eq m k ≡ b → bytes_eq n k ≡ c → cond b (Some d) (cond c (Some v) (content fs ds k)) ≡ cond c (Some v) (cond b (Some d) (content fs ds k))
    unlike q true true f g =
        let p = bytes_eq-is m k f in let r = bytes_eq-is n k g in
        let z = subst (λ y. bytes_eq y n ≡ false) (p ∙ sym r) q in let w = bytes_eq-refl n in cc
    unlike q true false f g = refl
    unlike q false c f g = refl

    go : (b : Bool) (o : Option (ℕ × TyTree)) → cond b (Some (0, t)) (option_map (later_field 1) o) ≡ Some s
        → ((r : ℕ × TyTree) → o ≡ Some r → content fs (put_at ds r.0 v) k ≡ with_content n v (content fs ds) k) → bytes_eq m n ≡ b
        → content (more_fields m t fs) (put_at (more_docs d ds) s.0 v) k ≡ with_content n v (content (more_fields m t fs) (more_docs d ds)) k
    go true o f again q =
        let same : (0, t) ≡ s = cc in
        subst (λ (z : ℕ × TyTree). content (more_fields m t fs) (put_at (more_docs d ds) z.0 v) k ≡ with_content n v (content (more_fields m t fs) (more_docs d ds)) k) same
        (ap (λ z. cond (bytes_eq m k) (Some v) (content fs z k)) (docs_of-doc_list ds)
        ∙ (rw (same_name q) (here (bytes_eq n k))))
    go false None f again q = cc
    go false (Some r) f again q =
        let same : later_field 1 r ≡ s = cc in
        subst (λ (z : ℕ × TyTree). content (more_fields m t fs) (put_at (more_docs d ds) z.0 v) k ≡ with_content n v (content (more_fields m t fs) (more_docs d ds)) k) same
        (rw one-add (ap (λ z. cond (bytes_eq m k) (Some d) z) (again r refl) ∙ unlike q (bytes_eq m k) (bytes_eq n k) refl refl))

-- ---- the initial triple

pub content-initial : (fs : FieldTrees) (n : List ℕ) → content fs (initial_fields fs) n ≡ option_map initial (lookup_type fs n)
content-initial no_fields n = refl
content-initial (more_fields m t fs) n =
    ap (λ o. cond (bytes_eq m n) (Some (initial t)) o) (content-initial fs n)
    ∙ (mapped (bytes_eq m n) (lookup_type fs n) ∙ ap (option_map initial) (sym (lookup_type-more m t fs n)))
  where
    mapped : (b : Bool) (o : Option TyTree) → cond b (Some (initial t)) (option_map initial o) ≡ option_map initial (cond b (Some t) o)
    mapped true o = refl
    mapped false o = refl

-- a primitive that acts on a record acts on a field
pub record ActsOnField (fs : FieldTrees) (xs : DocTrees) (p : PrimitiveTree) (x' : DocTree) : Type 0 where
  pub field : List ℕ
  pub word : WordTree
  pub place : ℕ × TyTree
  pub content : DocTree
  pub is : p ≡ at field word
  pub found : lookup_field fs field ≡ Some place
  pub acts : act place.1 word (doc_at xs place.0) ≡ Ok content
  pub result : x' ≡ rec (put_at xs place.0 content)

field_acted : (fs : FieldTrees) (xs : DocTrees) (f : List ℕ) (w : WordTree) (x' : DocTree) (o : Option (ℕ × TyTree)) → lookup_field fs f ≡ o
    → if_present o Place (λ s. map_ok rec (put_result_at xs s.0 (act s.1 w (doc_at xs s.0)))) ≡ Ok x' → ActsOnField fs xs (at f w) x'
field_acted fs xs f w x' None e h = cc
field_acted fs xs f w x' (Some s) e h = inside (act s.1 w (doc_at xs s.0)) refl h
  where
    inside : (r : Result DocTree Why) → act s.1 w (doc_at xs s.0) ≡ r → map_ok rec (map_ok (put_at xs s.0) (inner r)) ≡ Ok x' → ActsOnField fs xs (at f w) x'
    inside (Ok v) k q = record { field = f; word = w; place = s; content = v; is = refl; found = e; acts = k; result = cc }
    inside (Err why) k q = cc

pub acts_on_field : (fs : FieldTrees) (xs : DocTrees) (p : PrimitiveTree) (x' : DocTree) → act_primitive (ty_rec fs) p (rec xs) ≡ Ok x' → ActsOnField fs xs p x'
acts_on_field fs xs (at f w) x' e = field_acted fs xs f w x' (lookup_field fs f) refl e
acts_on_field fs xs (set_to a) x' e = cc
acts_on_field fs xs (add n) x' e = cc
acts_on_field fs xs (splice i k s) x' e = cc
acts_on_field fs xs (stay t w) x' e = cc
acts_on_field fs xs (switch a b w) x' e = cc
acts_on_field fs xs (modify p w) x' e = cc
acts_on_field fs xs (shape a) x' e = cc

-- a content that is put back leaves the contents as they were
pub put_same : (ds : DocTrees) (i : ℕ) → put_at ds i (doc_at ds i) ≡ ds
put_same no_docs i = refl
put_same (more_docs d ds) zero = ap (more_docs d) (docs_of-doc_list ds)
put_same (more_docs d ds) (suc i) = ap (more_docs d) (put_same ds i)

-- a word of a field, as an At of the field, acts on the record
pub field_acts : (fs : FieldTrees) (ys : DocTrees) (m : List ℕ) (w : WordTree) (s : ℕ × TyTree) (v : DocTree) → lookup_field fs m ≡ Some s → act s.1 w (doc_at ys s.0) ≡ Ok v
    → act (ty_rec fs) (at_word m w) (rec ys) ≡ Ok (rec (put_at ys s.0 v))
field_acts fs ys m no_primitives s v e h =
    let same : doc_at ys s.0 ≡ v = cc in
    let back : ys ≡ put_at ys s.0 v = subst (λ z. ys ≡ put_at ys s.0 z) same (sym (put_same ys s.0)) in
    rw (← back) refl
field_acts fs ys m (more_primitives p w) s v e h = rw e (rw h refl)

-- the type of a side of a record
pub type_on-rec : (rows : RowTrees) (s : Side) → type_on s (form_rec rows) ≡ ty_rec (fields_on s rows)
type_on-rec rows Left = refl
type_on-rec rows Right = refl
