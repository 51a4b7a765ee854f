-- A word that acts on the near document is carried to one that acts on the far document.
use Rattle.std.proofs.Common.{◌≡◌, ℕ, ℤ, ◌+ℤ◌, Bool, true, false, List, [], ◌∷◌, Option, None, Some, Result, Ok, Err, refl, sym, ap, ◌∙◌, subst}
use Rattle.std.specs.Prelude.{bytes_eq, cond, if◌then◌else◌, option_and_then}
use Rattle.std.specs.Str.{is_utf8, IsUtf8}
use Rattle.std.proofs.lemmas.Str.{IsUtf8-from_is_utf8}
use Rattle.std.specs.Cmp.Lexicographic.{bytes_decides}
use Rattle.texts.specs.Characters.{character_count, splice as spliced}
use Rattle.bridge_texts.specs.declared.run.Run.{Run}
use Rattle.bridge_texts.specs.Runs.{Piece, carried, near_spliced, shortest, all_spliced}
use Rattle.bridge_texts.specs.Laws.{SpansTexts}
use Rattle.doc_values.specs.Documents.{DocTree, int, text, rec, alt, DocTrees}
use Rattle.doc_values.specs.Types.{TyTree, ty_bool, ty_int, ty_text, ty_enum, ty_rec, ty_alt, FieldTrees}
use Rattle.doc_values.specs.Typing.{has, lookup_field, lookup_type}
use Rattle.doc_values.specs.Initial.{initial}
use Rattle.doc_values.specs.Integers.{fits_i64}
use Rattle.edit_module.specs.declared.atom.Atom.{Atom}
use Rattle.edit_module.specs.declared.atom.Atom.TheVariants.{Truth, Number, Letters}
use Rattle.edit_module.specs.declared.fault.Cause.{Cause}
use Rattle.edit_module.specs.declared.fault.Cause.TheVariants.{Place, Tag, Range, Overflow}
use Rattle.hold_shapes.specs.declared.edit.Place.{Place as PlaceOf}
use Rattle.hold_shapes.specs.declared.edit.ShapeEdit.{ShapeEdit}
use Rattle.edit_module.specs.Words.{PrimitiveTree, set, add, splice, at, stay, switch, modify, shape, WordTree, no_primitives, more_primitives, joined, word_length}
use Rattle.edit_module.specs.Action.{Why, act, act_primitive, later, after, inner, map_ok, if_present, put_result_at, put_at, doc_at}
use Rattle.edit_module.specs.Laws.{in_turn}
use Rattle.edit_module.proofs.ActionKeepsTypes.{after_ok, present_ok, if_ok, map_ok_ok, inner_ok, in_ok}
use Rattle.edit_module.proofs.WordSteps.{act-joined}
use Rattle.bridge_core.specs.Bridges.{BridgeTree, same, other, lost, cells, parts, arm, away, linked, BridgeTrees, bridge_at, put_bridge_at}
use Rattle.bridge_core.specs.Carried.{WhyNot, gone, fails, Answer, if_there, passes, around, splices, carry_text, carry_at, carry_stay, carry_switch, in_front, then_carry, carry, carry_primitive}
use Rattle.bridge_core.specs.Spans.{SpanTexts, AtType, Spans, SpanFields}
use Rattle.bridge_core.specs.Laws.{BeginsAt, LeadsTo}
use Rattle.bridge_core.proofs.CarriedParts.{Carries, IsCarried, then-ok, there-ok, around-ok, test-ok, leads-only, inner-later, leads-fails, begins}
use Rattle.bridge_core.proofs.ListCarries.{item-carries, list-carries}
use Rattle.bridge_core.proofs.TextLaws.{NearSplices}
use Rattle.bridge_core.proofs.BridgeLists.{field-spans, field-set}

-- ---- each primitive

-- a primitive passes as it is, and does the same to both documents
passes-same : (t : TyTree) (p : PrimitiveTree) (u x : DocTree) (q : WordTree × BridgeTree) → act_primitive t p u ≡ Ok x → passes p same ≡ Ok q → LeadsTo q.1 t x (inner (act t q.0 u))
passes-same t p u x q e k =
    let is : (more_primitives p no_primitives, same) ≡ q = cc in
    subst (λ (a : WordTree × BridgeTree). LeadsTo a.1 t x (inner (act t a.0 u))) is (leads-only t p same x u (rw e refl))

same-carries : (p : PrimitiveTree) (t : TyTree) (s u x : DocTree) (q : WordTree × BridgeTree) → s ≡ u → act_primitive t p s ≡ Ok x → passes p same ≡ Ok q → LeadsTo q.1 t x (inner (act t q.0 u))
same-carries p t s u x q h e k = passes-same t p u x q (subst (λ d. act_primitive t p d ≡ Ok x) h e) k

-- what is set does not depend on what there was
set-anywhere : (a : Atom) (t : TyTree) (s u x : DocTree) → act_primitive t (set a) s ≡ Ok x → act_primitive t (set a) u ≡ Ok x
set-anywhere (Truth b) ty_bool s u x e = e
set-anywhere (Number n) (ty_int z) s u x e = e
set-anywhere (Letters l) (ty_text z) s u x e = e
set-anywhere (Letters l) (ty_enum ms z) s u x e = e
set-anywhere _ _ s u x e = absurd cc

set-passes : (a : Atom) (t : TyTree) (s u x : DocTree) (q : WordTree × BridgeTree) → act_primitive t (set a) s ≡ Ok x → passes (set a) same ≡ Ok q → LeadsTo q.1 t x (inner (act t q.0 u))
set-passes a t s u x q e k = passes-same t (set a) u x q (set-anywhere a t s u x e) k

set-carries : (a : Atom) → Carries (set a)
set-carries a t same s u x q h e k = same-carries (set a) t s u x q h e k
set-carries a t other s u x q h e k = set-passes a t s u x q e k
set-carries a t lost s u x q h e k = set-passes a t s u x q e k
set-carries a t (cells rs) s u x q h e k = set-passes a t s u x q e k
set-carries a t (parts bs) s u x q h e k = absurd cc
set-carries a t (arm c b) s u x q h e k = absurd cc
set-carries a t (away c d) s u x q h e k = absurd cc
set-carries a t (linked ls m bs) s u x q h e k = absurd cc

sum-leads : (z : ℤ) (n : ℤ) (m : ℤ) (x : DocTree) (fits : Bool) → has (ty_int z) x ≡ true → LeadsTo other (ty_int z) x (cond fits (Ok (int (m +ℤ n))) (Err Overflow))
sum-leads z n m x true h = record { kind_is = refl; near_has = h; far_has = refl }
sum-leads z n m x false h = (x, record { kind_is = refl; near_has = h; far_has = h })

sum-has : (z : ℤ) (fits : Bool) (n : ℤ) (x : DocTree) → cond fits (Ok (int n)) (Err Overflow) ≡ Ok x → has (ty_int z) x ≡ true
sum-has z true n x e = let is : int n ≡ x = cc in subst (λ d. has (ty_int z) d ≡ true) is refl
sum-has z false n x e = absurd cc

add-leads : (n : ℤ) (t : TyTree) (s u x : DocTree) → has t u ≡ true → act_primitive t (add n) s ≡ Ok x → LeadsTo other t x (act_primitive t (add n) u)
add-leads n (ty_int z) (int m) (int k) x h e = sum-leads z n k x (fits_i64 (k +ℤ n)) (sum-has z (fits_i64 (m +ℤ n)) (m +ℤ n) x e)
add-leads n (ty_int z) (int m) _ x h e = absurd cc
add-leads n _ _ _ x h e = absurd cc

add-carries : (n : ℤ) → Carries (add n)
add-carries n t same s u x q h e k = same-carries (add n) t s u x q h e k
add-carries n t other s u x q h e k =
    let is : (more_primitives (add n) no_primitives, other) ≡ q = cc in
    subst (λ (a : WordTree × BridgeTree). LeadsTo a.1 t x (inner (act t a.0 u))) is (leads-only t (add n) other x u (add-leads n t s u x h.far_has e))
add-carries n t lost s u x q h e k = absurd cc
add-carries n t (cells rs) s u x q h e k = absurd cc
add-carries n t (parts bs) s u x q h e k = absurd cc
add-carries n t (arm c b) s u x q h e k = absurd cc
add-carries n t (away c d) s u x q h e k = absurd cc
add-carries n t (linked ls m bs) s u x q h e k = absurd cc

-- ---- texts

-- splices, one after another, as a word
splice-first : (z : List ℕ) (p : Piece) (ps : List Piece) (v w : List ℕ) → spliced v p.0 p.1 p.2 ≡ Some w → act (ty_text z) (splices (p ∷ ps)) (text v) ≡ later 1 (act (ty_text z) (splices ps) (text w))
splice-first z p ps v w e = rw e refl

pub splices-act : (z : List ℕ) (ps : List Piece) (v r : List ℕ) → all_spliced ps v ≡ Some r → act (ty_text z) (splices ps) (text v) ≡ Ok (text r)
splices-act z [] v r e = let is : v ≡ r = cc in ap (λ y. Ok (text y)) is
splices-act z (p ∷ ps) v r e = of-first (spliced v p.0 p.1 p.2) refl e (λ w g. splices-act z ps w r g)
  where
    of-first : (o : Option (List ℕ)) → spliced v p.0 p.1 p.2 ≡ o → option_and_then (all_spliced ps) o ≡ Some r → ((w : List ℕ) → all_spliced ps w ≡ Some r → act (ty_text z) (splices ps) (text w) ≡ Ok (text r))
        → act (ty_text z) (splices (p ∷ ps)) (text v) ≡ Ok (text r)
    of-first None g k deeper = absurd cc
    of-first (Some w) g k deeper = splice-first z p ps v w g ∙ ap (later 1) (deeper w k)

module _ (near_splices : NearSplices) where
  splice-leads : (z : List ℕ) (rs : List Run) (i k : ℕ) (x s u r : List ℕ) → IsUtf8 x → SpansTexts rs s u → spliced s i k x ≡ Some r
      → LeadsTo (cells (shortest (near_spliced rs i k (character_count x)))) (ty_text z) (text r) (inner (act (ty_text z) (splices (carried rs i k x)) (text u)))
  splice-leads z rs i k x s u r o h e =
      let w = near_splices rs i k x s u r o h e in
      rw (splices-act z (carried rs i k x) u w.far w.found_is) w.spans

  splice-cells : (i k : ℕ) (x : List ℕ) (t : TyTree) (rs : List Run) (s u v : DocTree) (q : WordTree × BridgeTree) → SpanTexts rs s u → act_primitive t (splice i k x) s ≡ Ok v → carry_text rs (splice i k x) ≡ Ok q → LeadsTo q.1 t v (inner (act t q.0 u))
  splice-cells i k x (ty_text z) rs (text s) (text u) v q h e g =
      let r = present_ok (spliced s i k x) Range (λ r. Ok (text r)) v e in
      let is : text r.0 ≡ v = cc (r.2) in
      let c = test-ok (is_utf8 x) (Ok (splices (carried rs i k x), cells (shortest (near_spliced rs i k (character_count x))))) gone q g in
      let made : (splices (carried rs i k x), cells (shortest (near_spliced rs i k (character_count x)))) ≡ q = cc (c.1) in
      subst (λ (a : WordTree × BridgeTree). LeadsTo a.1 (ty_text z) v (inner (act (ty_text z) a.0 (text u)))) made
      (subst (λ d. LeadsTo (cells (shortest (near_spliced rs i k (character_count x)))) (ty_text z) d (inner (act (ty_text z) (splices (carried rs i k x)) (text u)))) is
      (splice-leads z rs i k x s u r.0 (IsUtf8-from_is_utf8 x c.0) h r.1))
  splice-cells i k x (ty_text z) rs (text s) _ v q h e g = absurd h
  splice-cells i k x _ rs _ _ v q h e g = absurd cc

  splice-carries : (i k : ℕ) (x : List ℕ) → Carries (splice i k x)
  splice-carries i k x t same s u v q h e g = same-carries (splice i k x) t s u v q h e g
  splice-carries i k x t (cells rs) s u v q h e g = splice-cells i k x t rs s u v q h e g
  splice-carries i k x t other s u v q h e g = absurd cc
  splice-carries i k x t lost s u v q h e g = absurd cc
  splice-carries i k x t (parts bs) s u v q h e g = absurd cc
  splice-carries i k x t (arm c b) s u v q h e g = absurd cc
  splice-carries i k x t (away c d) s u v q h e g = absurd cc
  splice-carries i k x t (linked ls m bs) s u v q h e g = absurd cc

  -- ---- records

  -- the field of the far record, by what the inner word made of its content
  field-leads : (bs : BridgeTrees) (fs : FieldTrees) (ds es : DocTrees) (f : List ℕ) (l : ℕ × TyTree) (c : BridgeTree) (y : DocTree) (r : Result DocTree Why) → SpanFields bs fs ds es → lookup_field fs f ≡ Some l → LeadsTo c l.1 y (inner r)
      → LeadsTo (parts (put_bridge_at bs l.0 c)) (ty_rec fs) (rec (put_at ds l.0 y)) (map_ok rec (put_result_at es l.0 r))
  field-leads bs fs ds es f l c y (Ok z) h e k = field-set bs fs ds es f l c y z h e k
  field-leads bs fs ds es f l c y (Err why) h e k = leads-fails c (parts (put_bridge_at bs l.0 c)) l.1 (ty_rec fs) y (rec (put_at ds l.0 y)) why.1 (λ g. (rec (put_at es l.0 g.0), field-set bs fs ds es f l c y g.0 h e g.1)) k

  at-acts : (fs : FieldTrees) (f : List ℕ) (w : WordTree) (es : DocTrees) (l : ℕ × TyTree) → lookup_field fs f ≡ Some l → act_primitive (ty_rec fs) (at f w) (rec es) ≡ map_ok rec (put_result_at es l.0 (act l.1 w (doc_at es l.0)))
  at-acts fs f w es l e = ap (λ (o : Option (ℕ × TyTree)). if_present o Place (λ s. map_ok rec (put_result_at es s.0 (act s.1 w (doc_at es s.0))))) e

  at-parts : (f : List ℕ) (w : WordTree) → IsCarried w → (t : TyTree) (bs : BridgeTrees) (s u x : DocTree) (q : WordTree × BridgeTree) → Spans (parts bs) t s u → act_primitive t (at f w) s ≡ Ok x → carry_at t bs f (λ v b. carry v b w) ≡ Ok q
      → LeadsTo q.1 t x (inner (act t q.0 u))
  at-parts f w k (ty_rec fs) bs (rec ds) (rec es) x q h e g =
      let l = present_ok (lookup_field fs f) Place (λ (l : ℕ × TyTree). map_ok rec (put_result_at ds l.0 (act l.1 w (doc_at ds l.0)))) x e in
      let a = map_ok_ok rec (put_result_at ds l.0.0 (act l.0.1 w (doc_at ds l.0.0))) x l.2 in
      let i = in_ok ds l.0.0 (act l.0.1 w (doc_at ds l.0.0)) a.0 a.1 in
      let m = there-ok (lookup_field fs f) Place (λ (s : ℕ × TyTree). around (at f) (λ b. parts (put_bridge_at bs s.0 b)) (carry s.1 (bridge_at bs s.0) w)) q g in
      let one : m.0 ≡ l.0 = let z : Some m.0 ≡ Some l.0 = sym m.1 ∙ l.1 in cc in
      let there : around (at f) (λ b. parts (put_bridge_at bs l.0.0 b)) (carry l.0.1 (bridge_at bs l.0.0) w) ≡ Ok q = subst (λ (s : ℕ × TyTree). around (at f) (λ b. parts (put_bridge_at bs s.0 b)) (carry s.1 (bridge_at bs s.0) w) ≡ Ok q) one m.2 in
      let c = around-ok (at f) (λ b. parts (put_bridge_at bs l.0.0 b)) (carry l.0.1 (bridge_at bs l.0.0) w) q there in
      let inside : LeadsTo c.0.1 l.0.1 i.0 (inner (act l.0.1 c.0.0 (doc_at es l.0.0))) =
      k l.0.1 (bridge_at bs l.0.0) (doc_at ds l.0.0) (doc_at es l.0.0) i.0 c.0 (field-spans bs fs ds es f l.0 h l.1) i.1 c.1 in
      let whole = field-leads bs fs ds es f l.0 c.0.1 i.0 (act l.0.1 c.0.0 (doc_at es l.0.0)) h l.1 inside in
      let far : LeadsTo (parts (put_bridge_at bs l.0.0 c.0.1)) (ty_rec fs) (rec (put_at ds l.0.0 i.0)) (act_primitive (ty_rec fs) (at f c.0.0) (rec es)) =
      subst (λ r. LeadsTo (parts (put_bridge_at bs l.0.0 c.0.1)) (ty_rec fs) (rec (put_at ds l.0.0 i.0)) r) (sym (at-acts fs f c.0.0 es l.0 l.1)) whole in
      let near : rec (put_at ds l.0.0 i.0) ≡ x = ap rec i.2 ∙ a.2 in
      subst (λ (r : WordTree × BridgeTree). LeadsTo r.1 (ty_rec fs) x (inner (act (ty_rec fs) r.0 (rec es)))) c.2
      (subst (λ d. LeadsTo (parts (put_bridge_at bs l.0.0 c.0.1)) (ty_rec fs) d (inner (act (ty_rec fs) (more_primitives (at f c.0.0) no_primitives) (rec es)))) near
      (leads-only (ty_rec fs) (at f c.0.0) (parts (put_bridge_at bs l.0.0 c.0.1)) (rec (put_at ds l.0.0 i.0)) (rec es) far))
  at-parts f w k (ty_rec fs) bs (rec ds) _ x q h e g = absurd h
  at-parts f w k _ bs _ _ x q h e g = absurd cc

  at-carries : (f : List ℕ) (w : WordTree) → IsCarried w → Carries (at f w)
  at-carries f w k t same s u x q h e g = same-carries (at f w) t s u x q h e g
  at-carries f w k t (parts bs) s u x q h e g = at-parts f w k t bs s u x q h e g
  at-carries f w k t other s u x q h e g = absurd cc
  at-carries f w k t lost s u x q h e g = absurd cc
  at-carries f w k t (cells rs) s u x q h e g = absurd cc
  at-carries f w k t (arm c b) s u x q h e g = absurd cc
  at-carries f w k t (away c d) s u x q h e g = absurd cc
  at-carries f w k t (linked ls m bs) s u x q h e g = absurd cc

  -- ---- alternatives

  same-name : (a b : List ℕ) → bytes_eq a b ≡ true → a ≡ b
  same-name a b e = (bytes_decides a b).0 e

  name-same : (a : List ℕ) → bytes_eq a a ≡ true
  name-same a = (bytes_decides a a).1 refl

  -- the content of the tag that both have, by what the inner word made of the far one
  content-leads : (fs : FieldTrees) (tag : List ℕ) (t : TyTree) (c : BridgeTree) (y : DocTree) (r : Result DocTree Why) → lookup_type fs tag ≡ Some t → LeadsTo c t y (inner r) → LeadsTo (arm tag c) (ty_alt fs) (alt tag y) (map_ok (alt tag) (inner r))
  content-leads fs tag t c y (Ok z) e k = (refl, refl, rw e k)
  content-leads fs tag t c y (Err why) e k = leads-fails c (arm tag c) t (ty_alt fs) y (alt tag y) why.1 (λ g. (alt tag g.0, (refl, refl, rw e g.1))) k

  -- the same word acts on the content of the far document
  stay-acts : (fs : FieldTrees) (tag d : List ℕ) (w : WordTree) (v : DocTree) (t : TyTree) → d ≡ tag → lookup_type fs tag ≡ Some t → act_primitive (ty_alt fs) (stay tag w) (alt d v) ≡ map_ok (alt tag) (inner (act t w v))
  stay-acts fs tag d w v t e l = subst (λ x. act_primitive (ty_alt fs) (stay tag w) (alt x v) ≡ map_ok (alt tag) (inner (act t w v))) (sym e) (rw (name-same tag, l) refl)

  stay-arm : (a : List ℕ) (w : WordTree) → IsCarried w → (t : TyTree) (tag : List ℕ) (b : BridgeTree) (s u x : DocTree) (q : WordTree × BridgeTree) → Spans (arm tag b) t s u → act_primitive t (stay a w) s ≡ Ok x → carry_stay t tag b a (λ v c. carry v c w) ≡ Ok q
      → LeadsTo q.1 t x (inner (act t q.0 u))
  stay-arm a w k (ty_alt fs) tag b (alt d s) (alt n u) x q h e g =
      let y = if_ok (bytes_eq a d) Tag (if_present (lookup_type fs d) Tag (λ t. map_ok (alt d) (inner (act t w s)))) x e in
      let l = present_ok (lookup_type fs d) Tag (λ t. map_ok (alt d) (inner (act t w s))) x y.1 in
      let r = map_ok_ok (alt d) (inner (act l.0 w s)) x l.2 in
      let there : lookup_type fs tag ≡ Some l.0 = ap (lookup_type fs) (sym h.0) ∙ l.1 in
      let c = test-ok (bytes_eq a tag) (if_there (lookup_type fs tag) Tag (λ t. around (stay tag) (arm tag) (carry t b w))) (fails Tag) q g in
      let m = there-ok (lookup_type fs tag) Tag (λ t. around (stay tag) (arm tag) (carry t b w)) q c.1 in
      let one : m.0 ≡ l.0 = let z : Some m.0 ≡ Some l.0 = sym m.1 ∙ there in cc in
      let into : around (stay tag) (arm tag) (carry l.0 b w) ≡ Ok q = subst (λ t. around (stay tag) (arm tag) (carry t b w) ≡ Ok q) one m.2 in
      let i = around-ok (stay tag) (arm tag) (carry l.0 b w) q into in
      let was : Spans b l.0 s u = subst (λ (o : Option TyTree). AtType o (λ t. Spans b t s u)) there h.2 in
      let inside : LeadsTo i.0.1 l.0 r.0 (inner (act l.0 i.0.0 u)) = k l.0 b s u r.0 i.0 was (inner_ok (act l.0 w s) r.0 r.1) i.1 in
      let whole = content-leads fs tag l.0 i.0.1 r.0 (act l.0 i.0.0 u) there inside in
      let far : LeadsTo (arm tag i.0.1) (ty_alt fs) (alt tag r.0) (act_primitive (ty_alt fs) (stay tag i.0.0) (alt n u)) =
      subst (λ o. LeadsTo (arm tag i.0.1) (ty_alt fs) (alt tag r.0) o) (sym (stay-acts fs tag n i.0.0 u l.0 h.1 there)) whole in
      let near : alt tag r.0 ≡ x = ap (λ z. alt z r.0) (sym h.0) ∙ r.2 in
      subst (λ (z : WordTree × BridgeTree). LeadsTo z.1 (ty_alt fs) x (inner (act (ty_alt fs) z.0 (alt n u)))) i.2
      (subst (λ d'. LeadsTo (arm tag i.0.1) (ty_alt fs) d' (inner (act (ty_alt fs) (more_primitives (stay tag i.0.0) no_primitives) (alt n u)))) near
      (leads-only (ty_alt fs) (stay tag i.0.0) (arm tag i.0.1) (alt tag r.0) (alt n u) far))
  stay-arm a w k (ty_alt fs) tag b (alt d s) _ x q h e g = absurd h
  stay-arm a w k _ tag b _ _ x q h e g = absurd cc

  left-behind : (old a : List ℕ) (q : WordTree × BridgeTree) (known : Bool) → (if known then Err gone else Err (fails Tag)) ≡ Ok q → ⊥
  left-behind old a q true e = cc
  left-behind old a q false e = cc

  stay-carries : (a : List ℕ) (w : WordTree) → IsCarried w → Carries (stay a w)
  stay-carries a w k t same s u x q h e g = same-carries (stay a w) t s u x q h e g
  stay-carries a w k t (arm tag b) s u x q h e g = stay-arm a w k t tag b s u x q h e g
  stay-carries a w k t (away old new) s u x q h e g = absurd (left-behind old a q (bytes_eq a old) g)
  stay-carries a w k t other s u x q h e g = absurd cc
  stay-carries a w k t lost s u x q h e g = absurd cc
  stay-carries a w k t (cells rs) s u x q h e g = absurd cc
  stay-carries a w k t (parts bs) s u x q h e g = absurd cc
  stay-carries a w k t (linked ls m bs) s u x q h e g = absurd cc

  -- a switch from another tag to the same one makes the same
  switch-from : (fs : FieldTrees) (a d new n c : List ℕ) (w : WordTree) (s u x : DocTree) → n ≡ new → act_primitive (ty_alt fs) (switch a c w) (alt d s) ≡ Ok x → act_primitive (ty_alt fs) (switch new c w) (alt n u) ≡ Ok x
  switch-from fs a d new n c w s u x h e =
      let y = if_ok (bytes_eq a d) Tag (if_present (lookup_type fs c) Tag (λ t. map_ok (alt c) (inner (act t w (initial t))))) x e in
      subst (λ z. act_primitive (ty_alt fs) (switch new c w) (alt z u) ≡ Ok x) (sym h) (rw (name-same new) y.1)

  switch-leads : (old new a c : List ℕ) (w : WordTree) (fs : FieldTrees) (d n : List ℕ) (s u x : DocTree) (q : WordTree × BridgeTree) → n ≡ new → act_primitive (ty_alt fs) (switch a c w) (alt d s) ≡ Ok x → carry_switch old new a c w ≡ Ok q
      → LeadsTo q.1 (ty_alt fs) x (inner (act (ty_alt fs) q.0 (alt n u)))
  switch-leads old new a c w fs d n s u x q h e g =
      let k = test-ok (bytes_eq a old) (passes (switch new c w) same) (fails Tag) q g in
      passes-same (ty_alt fs) (switch new c w) (alt n u) x q (switch-from fs a d new n c w s u x h e) k.1

  switch-arm : (a c : List ℕ) (w : WordTree) (t : TyTree) (tag : List ℕ) (b : BridgeTree) (s u x : DocTree) (q : WordTree × BridgeTree) → Spans (arm tag b) t s u → act_primitive t (switch a c w) s ≡ Ok x → carry_switch tag tag a c w ≡ Ok q
      → LeadsTo q.1 t x (inner (act t q.0 u))
  switch-arm a c w (ty_alt fs) tag b (alt d s) (alt n u) x q h e g = switch-leads tag tag a c w fs d n s u x q h.1 e g
  switch-arm a c w (ty_alt fs) tag b (alt d s) _ x q h e g = absurd h
  switch-arm a c w _ tag b _ _ x q h e g = absurd cc

  switch-away : (a c : List ℕ) (w : WordTree) (t : TyTree) (old new : List ℕ) (s u x : DocTree) (q : WordTree × BridgeTree) → Spans (away old new) t s u → act_primitive t (switch a c w) s ≡ Ok x → carry_switch old new a c w ≡ Ok q
      → LeadsTo q.1 t x (inner (act t q.0 u))
  switch-away a c w (ty_alt fs) old new (alt d s) (alt n u) x q h e g = switch-leads old new a c w fs d n s u x q h.1 e g
  switch-away a c w (ty_alt fs) old new (alt d s) _ x q h e g = absurd h
  switch-away a c w _ old new _ _ x q h e g = absurd cc

  switch-carries : (a c : List ℕ) (w : WordTree) → Carries (switch a c w)
  switch-carries a c w t same s u x q h e g = same-carries (switch a c w) t s u x q h e g
  switch-carries a c w t (arm tag b) s u x q h e g = switch-arm a c w t tag b s u x q h e g
  switch-carries a c w t (away old new) s u x q h e g = switch-away a c w t old new s u x q h e g
  switch-carries a c w t other s u x q h e g = absurd cc
  switch-carries a c w t lost s u x q h e g = absurd cc
  switch-carries a c w t (cells rs) s u x q h e g = absurd cc
  switch-carries a c w t (parts bs) s u x q h e g = absurd cc
  switch-carries a c w t (linked ls m bs) s u x q h e g = absurd cc

  -- ---- containers

  modify-carries : (p : PlaceOf) (w : WordTree) → IsCarried w → Carries (modify p w)
  modify-carries p w k t same s u x q h e g = same-carries (modify p w) t s u x q h e g
  modify-carries p w k t (linked ls m bs) s u x q h e g = item-carries p w k t ls m bs s u x q h e g
  modify-carries p w k t other s u x q h e g = absurd cc
  modify-carries p w k t lost s u x q h e g = absurd cc
  modify-carries p w k t (cells rs) s u x q h e g = absurd cc
  modify-carries p w k t (parts bs) s u x q h e g = absurd cc
  modify-carries p w k t (arm c b) s u x q h e g = absurd cc
  modify-carries p w k t (away c d) s u x q h e g = absurd cc

  shape-carries : (a : ShapeEdit) → Carries (shape a)
  shape-carries a t same s u x q h e g = same-carries (shape a) t s u x q h e g
  shape-carries a t (linked ls m bs) s u x q h e g = list-carries a t ls m bs s u x q h e g
  shape-carries a t other s u x q h e g = absurd cc
  shape-carries a t lost s u x q h e g = absurd cc
  shape-carries a t (cells rs) s u x q h e g = absurd cc
  shape-carries a t (parts bs) s u x q h e g = absurd cc
  shape-carries a t (arm c b) s u x q h e g = absurd cc
  shape-carries a t (away c d) s u x q h e g = absurd cc

  -- ---- all words

  -- the rest of a word acts on what the first part made, unless that failed
  rest-leads : (t : TyTree) (v w : WordTree) (b c : BridgeTree) (x y u : DocTree) (r : Result DocTree Why) → act t v u ≡ r → LeadsTo b t x (inner r) → ((z : DocTree) → Spans b t x z → LeadsTo c t y (inner (act t w z)))
      → LeadsTo c t y (inner (act t (joined v w) u))
  rest-leads t v w b c x y u (Ok z) e h k =
      subst (λ (o : Result DocTree Why). LeadsTo c t y (inner o)) (sym (act-joined t v w u ∙ ap (λ (o : Result DocTree Why). in_turn (word_length v) o (λ d. act t w d)) e))
      (subst (λ o. LeadsTo c t y o) (sym (inner-later (word_length v) (act t w z))) (k z h))
  rest-leads t v w b c x y u (Err why) e h k =
      subst (λ (o : Result DocTree Why). LeadsTo c t y (inner o)) (sym (act-joined t v w u ∙ ap (λ (o : Result DocTree Why). in_turn (word_length v) o (λ d. act t w d)) e))
      (leads-fails b c t t x y why.1 (λ g. begins c t y (inner (act t w g.0)) (k g.0 g.1)) h)

  mutual
    pub word-carries : (w : WordTree) → IsCarried w
    word-carries no_primitives t b s u v q h e g =
        let near : s ≡ v = cc in
        let is : (no_primitives, b) ≡ q = cc in
        subst (λ (a : WordTree × BridgeTree). LeadsTo a.1 t v (inner (act t a.0 u))) is (subst (λ d. Spans b t d u) near h)
    word-carries (more_primitives p w) t b s u v q h e g =
        let x = after_ok (act_primitive t p s) (λ y. act t w y) v e in
        let a = then-ok (carry_primitive t b p) (λ c. carry t c w) q g in
        let one : LeadsTo a.0.1 t x.0 (inner (act t a.0.0 u)) = primitive-carries p t b s u x.0 a.0 h x.1 a.2 in
        subst (λ (z : WordTree × BridgeTree). LeadsTo z.1 t v (inner (act t z.0 u))) a.4
        (rest-leads t a.0.0 a.1.0 a.0.1 a.1.1 x.0 v u (act t a.0.0 u) refl one (λ z k. word-carries w t a.0.1 x.0 z v a.1 k x.2 a.3))

    pub primitive-carries : (p : PrimitiveTree) → Carries p
    primitive-carries (set a) t b s u x q h e g = set-carries a t b s u x q h e g
    primitive-carries (add n) t b s u x q h e g = add-carries n t b s u x q h e g
    primitive-carries (splice i k y) t b s u x q h e g = splice-carries i k y t b s u x q h e g
    primitive-carries (at f w) t b s u x q h e g = at-carries f w (λ t' b' s' u' v' q' i j k. word-carries w t' b' s' u' v' q' i j k) t b s u x q h e g
    primitive-carries (stay a w) t b s u x q h e g = stay-carries a w (λ t' b' s' u' v' q' i j k. word-carries w t' b' s' u' v' q' i j k) t b s u x q h e g
    primitive-carries (switch a c w) t b s u x q h e g = switch-carries a c w t b s u x q h e g
    primitive-carries (modify p w) t b s u x q h e g = modify-carries p w (λ t' b' s' u' v' q' i j k. word-carries w t' b' s' u' v' q' i j k) t b s u x q h e g
    primitive-carries (shape a) t b s u x q h e g = shape-carries a t b s u x q h e g
