-- Values, records and alternatives that words take to others.
use Rattle.std.proofs.Common.{◌≡◌, ℕ, ℤ, ◌+◌, Bool, true, false, List, [], ◌∷◌, ◌++◌, length, get_or, set, Option, None, Some, option_map, Result, Ok, Err, refl, sym, ap, subst, ◌∙◌, arith}
use Rattle.std.specs.Prelude.{if◌then◌else◌, bytes_eq}
use Rattle.std.specs.Bool.{beq}
use Rattle.std.specs.Cmp.{booleans_Decides}
use Rattle.std.specs.Ordering.{int_eq}
use Rattle.std.proofs.lemmas.Bool.Decides.{Decides-int_eq}
use Rattle.std.proofs.lemmas.List.{append_assoc, length-append}
use Rattle.std.proofs.Math.Seq.{get_or-append_seam}
use Rattle.texts.specs.Keys.{is_rising, all_after, has_name}
use Rattle.texts.proofs.KeyOrder.{bytes_eq-refl, rising-first, rising-rest, before-differs, after-tail}
use Rattle.texts.proofs.Tests.{bytes_eq-is, bytes_eq-is_back}
use Rattle.doc_values.specs.Documents.{DocTree, unit, truth, int, text, pick, rec, alt, DocTrees, docs_of, doc_list}
use Rattle.doc_values.specs.Types.{TyTree, ty_unit, ty_bool, ty_int, ty_text, ty_enum, ty_rec, ty_alt, FieldTrees, no_fields, more_fields, names_of}
use Rattle.doc_values.specs.Typing.{has, lookup_field, lookup_type, later_field}
use Rattle.doc_values.specs.Initial.{initial}
use Rattle.doc_values.proofs.Lists.{doc_list-docs_of, docs_of-doc_list}
use Rattle.edit_module.specs.declared.atom.Atom.{Atom}
use Rattle.edit_module.specs.declared.atom.Atom.TheVariants.{Truth, Number, Letters}
use Rattle.edit_module.specs.declared.fault.Cause.{Cause}
use Rattle.edit_module.specs.declared.fault.Cause.TheVariants.{Place, Tag}
use Rattle.edit_module.specs.Words.{set as set_to, at, stay, switch, WordTree, no_primitives}
use Rattle.edit_module.specs.Action.{Why, act, act_primitive, inner, map_ok, if_present, put_result_at, doc_at}
use Rattle.edit_inverse.specs.Construct.{only, set_unless, unless_empty, at_each, construct}
use Rattle.edit_inverse.proofs.Constructs.{Found, Apart}
use Rattle.edit_inverse.proofs.Acts.{acts-only, acts-unless, set-seam}
use Rattle.edit_between.specs.Between.{between}

-- ---- values

set-acts : (b : Bool) (t : TyTree) (a : Atom) (v u : DocTree) → (b ≡ true → v ≡ u) → act_primitive t (set_to a) v ≡ Ok u → act t (set_unless b a) v ≡ Ok u
set-acts true t a v u f h = ap (λ (d : DocTree). Ok d) (f refl)
set-acts false t a v u f h = acts-only t (set_to a) v u h

pub unit-acts : (v : DocTree) → has ty_unit v ≡ true → act ty_unit (between ty_unit v unit) v ≡ Ok unit
unit-acts unit h = refl
unit-acts _ h = cc

pub bool-acts : (b : Bool) (v : DocTree) → has ty_bool v ≡ true → act ty_bool (between ty_bool v (truth b)) v ≡ Ok (truth b)
bool-acts b (truth a) h = set-acts (beq b a) ty_bool (Truth b) (truth a) (truth b) (λ e. ap truth (sym ((booleans_Decides b a).0 e))) refl
bool-acts b _ h = cc

pub int-acts : (z n : ℤ) (v : DocTree) → has (ty_int z) v ≡ true → act (ty_int z) (between (ty_int z) v (int n)) v ≡ Ok (int n)
int-acts z n (int m) h = set-acts (int_eq n m) (ty_int z) (Number n) (int m) (int n) (λ e. ap int (sym ((Decides-int_eq n m).0 e))) refl
int-acts z n _ h = cc

pub text-acts : (z s : List ℕ) (v : DocTree) → has (ty_text z) v ≡ true → act (ty_text z) (between (ty_text z) v (text s)) v ≡ Ok (text s)
text-acts z s (text r) h = set-acts (bytes_eq s r) (ty_text z) (Letters s) (text r) (text s) (λ e. ap text (bytes_eq-is_back s r e)) refl
text-acts z s _ h = cc

pub pick-acts : (ms : List (List ℕ)) (z n : List ℕ) (v : DocTree) → has (ty_enum ms z) v ≡ true → has_name n ms ≡ true → act (ty_enum ms z) (between (ty_enum ms z) v (pick n)) v ≡ Ok (pick n)
pick-acts ms z n (pick m) h k = set-acts (bytes_eq n m) (ty_enum ms z) (Letters n) (pick m) (pick n) (λ e. ap pick (bytes_eq-is_back n m e)) (rw k refl)
pick-acts ms z n _ h k = cc

-- ---- records

apart-after : (m : List ℕ) (hs : FieldTrees) → all_after m (names_of hs) ≡ true → is_rising (names_of hs) ≡ true → Apart m hs
apart-after m no_fields h r = tt
apart-after m (more_fields n t hs) h r =
    (before-differs m n h, apart-after m hs (after-tail m n (names_of hs) h (rising-first n (names_of hs) r)) (rising-rest n (names_of hs) r))

found-later : (m : List ℕ) (u : TyTree) (fs : FieldTrees) (k : ℕ) (hs : FieldTrees) → Apart m hs → Found fs k hs → Found (more_fields m u fs) (k + 1) hs
found-later m u fs k no_fields a f = tt
found-later m u fs k (more_fields n t hs) a f =
    let one : 1 + k ≡ k + 1 = omega arith in
    let rest : lookup_field (more_fields m u fs) n ≡ Some (k + 1, t) =
    rw a.0 (ap (λ (o : Option (ℕ × TyTree)). option_map (later_field 1) o) f.0 ∙ ap (λ (i : ℕ). Some (i, t)) one) in
    (rest, found-later m u fs (k + 1) hs a.1 f.1)

found-all : (fs : FieldTrees) → is_rising (names_of fs) ≡ true → Found fs 0 fs
found-all no_fields r = tt
found-all (more_fields n t fs) r =
    let tail = rising-rest n (names_of fs) r in
    (rw (bytes_eq-refl n) refl, found-later n t fs 0 fs (apart-after n fs (rising-first n (names_of fs) r) tail) (found-all fs tail))

at-makes : (fs : FieldTrees) (n : List ℕ) (t : TyTree) (w : WordTree) (front back : List DocTree) (x y : DocTree) → lookup_field fs n ≡ Some (length front, t) → act t w x ≡ Ok y
    → act_primitive (ty_rec fs) (at n w) (rec (docs_of (front ++ x ∷ back))) ≡ Ok (rec (docs_of (front ++ y ∷ back)))
at-makes fs n t w front back x y e acts =
    let i = length front in
    let all = front ++ x ∷ back in
    let A : List DocTree → Result DocTree Cause = λ zs. map_ok rec (map_ok (λ v. docs_of (set zs i v)) (inner (act t w (get_or zs i unit)))) in
    ap (λ (o : Option (ℕ × TyTree)). if_present o Place (λ s. map_ok rec (put_result_at (docs_of all) s.0 (act s.1 w (doc_at (docs_of all) s.0))))) e
    ∙ (ap A (doc_list-docs_of all)
    ∙ (ap (λ (d : DocTree). map_ok rec (map_ok (λ v. docs_of (set all i v)) (inner (act t w d)))) (get_or-append_seam front x back unit)
    ∙ (ap (λ (r : Result DocTree Why). map_ok rec (map_ok (λ v. docs_of (set all i v)) (inner r))) acts
    ∙ ap (λ (l : List DocTree). Ok (rec (docs_of l))) (set-seam front back x y i refl))))

-- each word takes the content of its field to another one
abbrev pub LeadsFields : FieldTrees → List WordTree → List DocTree → List DocTree → Type 0
LeadsFields no_fields [] [] [] = Unit {0}
LeadsFields (more_fields n t fs) (w ∷ ws) (x ∷ xs) (y ∷ ys) = (act t w x ≡ Ok y) × LeadsFields fs ws xs ys
LeadsFields _ _ _ _ = ⊥

rec-same : (t : TyTree) (w : WordTree) (xs ys zs us : List DocTree) → xs ≡ ys → zs ≡ us → act t w (rec (docs_of xs)) ≡ Ok (rec (docs_of zs)) → act t w (rec (docs_of ys)) ≡ Ok (rec (docs_of us))
rec-same t w xs ys zs us e f k =
    ap (λ (l : List DocTree). act t w (rec (docs_of l))) (sym e) ∙ (k ∙ ap (λ (l : List DocTree). Ok (rec (docs_of l))) f)

fields-act : (fs hs : FieldTrees) (ws : List WordTree) (front xs ys : List DocTree) (k : ℕ) → k ≡ length front → Found fs k hs → LeadsFields hs ws xs ys
    → act (ty_rec fs) (at_each (names_of hs) ws) (rec (docs_of (front ++ xs))) ≡ Ok (rec (docs_of (front ++ ys)))
fields-act fs no_fields [] front [] [] k e f b = refl
fields-act fs (more_fields n t hs) (w ∷ ws) front (x ∷ xs) (y ∷ ys) k e f b =
    let l = length-append front (y ∷ []) in
    let ih = fields-act fs hs ws (front ++ y ∷ []) xs ys (k + 1) (omega arith) f.1 b.1 in
    let goes = rec-same (ty_rec fs) (at_each (names_of hs) ws) ((front ++ y ∷ []) ++ xs) (front ++ y ∷ xs) ((front ++ y ∷ []) ++ ys) (front ++ y ∷ ys)
    (append_assoc front (y ∷ []) xs) (append_assoc front (y ∷ []) ys) ih in
    let here : lookup_field fs n ≡ Some (length front, t) = f.0 ∙ ap (λ (i : ℕ). Some (i, t)) e in
    acts-unless (ty_rec fs) t (at n) w (at_each (names_of hs) ws) x y (rec (docs_of (front ++ x ∷ xs))) (rec (docs_of (front ++ y ∷ xs))) (rec (docs_of (front ++ y ∷ ys))) b.0
    (λ q. ap (λ (d : DocTree). rec (docs_of (front ++ d ∷ xs))) q)
    (at-makes fs n t w front xs x y here b.0) goes
fields-act fs _ _ front _ _ k e f b = absurd b

pub record-acts : (fs : FieldTrees) (ds es : DocTrees) (ws : List WordTree) → is_rising (names_of fs) ≡ true → LeadsFields fs ws (doc_list ds) (doc_list es)
    → act (ty_rec fs) (at_each (names_of fs) ws) (rec ds) ≡ Ok (rec es)
record-acts fs ds es ws r b =
    let got = fields-act fs fs ws [] (doc_list ds) (doc_list es) 0 refl (found-all fs r) b in
    ap (λ (l : DocTrees). act (ty_rec fs) (at_each (names_of fs) ws) (rec l)) (sym (docs_of-doc_list ds))
    ∙ (got ∙ ap (λ (l : DocTrees). Ok (rec l)) (docs_of-doc_list es))

-- ---- alternatives

stay-makes : (fs : FieldTrees) (n : List ℕ) (t : TyTree) (w : WordTree) (x y : DocTree) → lookup_type fs n ≡ Some t → act t w x ≡ Ok y
    → act_primitive (ty_alt fs) (stay n w) (alt n x) ≡ Ok (alt n y)
stay-makes fs n t w x y e acts =
    ap (λ (b : Bool). if b then if_present (lookup_type fs n) Tag (λ ty. map_ok (alt n) (inner (act ty w x))) else Err Tag) (bytes_eq-refl n)
    ∙ (ap (λ (o : Option TyTree). if_present o Tag (λ ty. map_ok (alt n) (inner (act ty w x)))) e
    ∙ ap (λ (r : Result DocTree Why). map_ok (alt n) (inner r)) acts)

switch-makes : (fs : FieldTrees) (n a : List ℕ) (t : TyTree) (w : WordTree) (x y : DocTree) → lookup_type fs a ≡ Some t → act t w (initial t) ≡ Ok y
    → act_primitive (ty_alt fs) (switch n a w) (alt n x) ≡ Ok (alt a y)
switch-makes fs n a t w x y e acts =
    ap (λ (b : Bool). if b then if_present (lookup_type fs a) Tag (λ ty. map_ok (alt a) (inner (act ty w (initial ty)))) else Err Tag) (bytes_eq-refl n)
    ∙ (ap (λ (o : Option TyTree). if_present o Tag (λ ty. map_ok (alt a) (inner (act ty w (initial ty))))) e
    ∙ ap (λ (r : Result DocTree Why). map_ok (alt a) (inner r)) acts)

tag-step : (s : Bool) (fs : FieldTrees) (a b : List ℕ) (t : TyTree) (w n : WordTree) (v u : DocTree) → bytes_eq a b ≡ s → lookup_type fs b ≡ Some t
    → (a ≡ b → act t w v ≡ Ok u) → act t n (initial t) ≡ Ok u
    → act (ty_alt fs) (if s then unless_empty (stay b) w no_primitives else only (switch a b n)) (alt a v) ≡ Ok (alt b u)
tag-step true fs a b t w n v u h e f g =
    let same : a ≡ b = bytes_eq-is a b h in
    let P : List ℕ → Type 0 = λ m. act (ty_alt fs) (unless_empty (stay b) w no_primitives) (alt m v) ≡ Ok (alt b u) in
    subst P (sym same) (acts-unless (ty_alt fs) t (stay b) w no_primitives v u (alt b v) (alt b u) (alt b u) (f same) (λ q. ap (alt b) q) (stay-makes fs b t w v u e (f same)) refl)
tag-step false fs a b t w n v u h e f g = acts-only (ty_alt fs) (switch a b n) (alt a v) (alt b u) (switch-makes fs a b t n v u e g)

-- what the definition has for a tag that is looked up
abbrev tag_word : List ℕ → List ℕ → DocTree → DocTree → Option TyTree → WordTree
tag_word a b v u o = elim o [
  | None ↦ no_primitives
  | Some t ↦ if bytes_eq a b then unless_empty (stay b) (between t v u) no_primitives else only (switch a b (construct t u))
]

pub tag-acts : (fs : FieldTrees) (a b : List ℕ) (t : TyTree) (v u : DocTree) → lookup_type fs b ≡ Some t → (a ≡ b → act t (between t v u) v ≡ Ok u) → act t (construct t u) (initial t) ≡ Ok u
    → act (ty_alt fs) (between (ty_alt fs) (alt a v) (alt b u)) (alt a v) ≡ Ok (alt b u)
tag-acts fs a b t v u e f g =
    ap (λ (o : Option TyTree). act (ty_alt fs) (tag_word a b v u o) (alt a v)) e ∙ tag-step (bytes_eq a b) fs a b t (between t v u) (construct t u) v u refl e f g
