-- A word that acts on the near document is refused only because what it changes is gone.
use Rattle.std.proofs.Common.{◌≡◌, ℕ, Bool, true, false, List, length, Option, None, Some, Ok, Err, refl, sym, ap, ◌∙◌, subst, ◌⊎◌, inl, inr}
use Rattle.std.specs.Prelude.{bytes_eq, cond, nat_lt}
use Rattle.std.specs.Str.{is_utf8}
use Rattle.bridge_texts.specs.declared.run.Run.{Run}
use Rattle.bridge_texts.specs.Runs.{carried, near_spliced, shortest}
use Rattle.texts.specs.Characters.{character_count}
use Rattle.doc_values.specs.Documents.{DocTree, text, rec, alt, hold, DocTrees, doc_list}
use Rattle.doc_values.specs.Types.{TyTree, ty_int, ty_text, ty_rec, ty_alt, ty_list, ty_keyed, ty_ordered, FieldTrees}
use Rattle.doc_values.specs.Typing.{lookup_field, lookup_type}
use Rattle.doc_values.specs.Initial.{initial}
use Rattle.hold_shapes.specs.declared.shape.Shape.{Shape}
use Rattle.hold_shapes.specs.declared.origins.Origin.{Origin}
use Rattle.hold_shapes.specs.declared.edit.ShapeEdit.{ShapeEdit}
use Rattle.hold_shapes.specs.Plans.{Planned, plan, plan_list}
use Rattle.hold_shapes.specs.Shapes.{place_of}
use Rattle.bridge_links.specs.declared.link.Link.{Link}
use Rattle.bridge_links.specs.Links.{link_at}
use Rattle.bridge_lists.specs.Carried.{far_place}
use Rattle.bridge_lists.specs.Carried as Lists
use Rattle.bridge_lists.proofs.FarOrders.{linked-place}
use Rattle.hold_shapes.specs.declared.edit.Place.{Place as PlaceOf}
use Rattle.hold_shapes.specs.declared.edit.Place.TheVariants.{Index, Key, Node}
use Rattle.edit_module.specs.declared.fault.Cause.TheVariants.{Place, Tag}
use Rattle.edit_module.specs.Words.{PrimitiveTree, set, add, splice, at, stay, switch, modify, shape, WordTree, no_primitives, more_primitives}
use Rattle.edit_module.specs.Action.{act, act_primitive, inner, map_ok, if_present, put_result_at, doc_at}
use Rattle.edit_module.proofs.ActionKeepsTypes.{after_ok, present_ok, if_ok, map_ok_ok, inner_ok, in_ok}
use Rattle.bridge_core.specs.Bridges.{BridgeTree, same, other, lost, cells, parts, arm, away, linked, BridgeTrees, bridge_at, put_bridge_at}
use Rattle.bridge_core.specs.Carried.{WhyNot, gone, fails, Answer, if_there, around, carry_other, carry_lost, carry_text, splices, carry_at, carry_stay, carry_left, carry_switch, in_front, then_carry, carry, carry_primitive, at_far, carry_index, carry_item, carry_planned, carry_shape}
use Rattle.bridge_core.specs.Spans.{is_plain, is_row, AtType, AreLinked, Spans, SpanItems}
use Rattle.bridge_core.specs.Laws.{BeginsAt}
use Rattle.bridge_core.proofs.TextLaws.{NearSplices}
use Rattle.bridge_core.proofs.BridgeLists.{field-spans}
use Rattle.bridge_core.proofs.CarriedParts.{begins}
use Rattle.bridge_core.proofs.CarriedActs.{primitive-carries}
use Rattle.bridge_core.proofs.Items.{links-as-many, item-spans}
use Rattle.bridge_core.proofs.ListSpans.{reshaped-ok}
use Rattle.bridge_core.proofs.ListCarries.{index-place}

-- ---- answers that are refusals

then-err : (r : Answer) (f : BridgeTree → Answer) (why : WhyNot) → then_carry r f ≡ Err why → (r ≡ Err why) ⊎ ((a : WordTree × BridgeTree) × (r ≡ Ok a) × (f a.1 ≡ Err why))
then-err (Err refused) f why e = inl e
then-err (Ok a) f why e = inr (a, refl, behind (f a.1) e)
  where
    behind : (o : Answer) → in_front a.0 o ≡ Err why → o ≡ Err why
    behind (Ok c) g = absurd cc
    behind (Err refused) g = g

around-err : (p : WordTree → PrimitiveTree) (b : BridgeTree → BridgeTree) (r : Answer) (why : WhyNot) → around p b r ≡ Err why → r ≡ Err why
around-err p b (Ok a) why e = absurd cc
around-err p b (Err refused) why e = e

is-gone : (why : WhyNot) (r : Answer) → r ≡ Err gone → r ≡ Err why → why ≡ gone
is-gone why r h e = cc

passes-test : (t : Bool) (r : WordTree × BridgeTree) (no_tag why : WhyNot) → t ≡ true → cond {A = Answer} t (Ok r) (Err no_tag) ≡ Err why → ⊥
passes-test true r no_tag why h e = cc
passes-test false r no_tag why h e = cc

gone-test : (t : Bool) (no_tag why : WhyNot) → t ≡ true → cond {A = Answer} t (Err gone) (Err no_tag) ≡ Err why → why ≡ gone
gone-test true no_tag why h e = cc
gone-test false no_tag why h e = absurd cc

known-gone : (known : Bool) (r : WordTree × BridgeTree) (why : WhyNot) → cond {A = Answer} known (Ok r) (Err gone) ≡ Err why → why ≡ gone
known-gone true r why e = absurd cc
known-gone false r why e = cc

-- ---- each primitive

abbrev pub Refuses : PrimitiveTree → Type 0
Refuses p = (t : TyTree) (b : BridgeTree) (s u x : DocTree) (why : WhyNot) → Spans b t s u → act_primitive t p s ≡ Ok x → carry_primitive t b p ≡ Err why → why ≡ gone

other-refuses : (p : PrimitiveTree) (t : TyTree) (s x : DocTree) (why : WhyNot) → is_plain t ≡ true → act_primitive t p s ≡ Ok x → carry_other p ≡ Err why → why ≡ gone
other-refuses (set a) t s x why h e g = absurd cc
other-refuses (add n) t s x why h e g = absurd cc
other-refuses (splice i k y) (ty_text z) s x why h e g = absurd cc
other-refuses (splice i k y) _ s x why h e g = absurd cc
other-refuses (at f w) (ty_rec fs) s x why h e g = absurd cc
other-refuses (at f w) _ s x why h e g = absurd cc
other-refuses (stay a w) (ty_alt fs) s x why h e g = absurd cc
other-refuses (stay a w) _ s x why h e g = absurd cc
other-refuses (switch a c w) (ty_alt fs) s x why h e g = absurd cc
other-refuses (switch a c w) _ s x why h e g = absurd cc
other-refuses (modify p w) (ty_list t) s x why h e g = absurd cc
other-refuses (modify p w) (ty_keyed t) s x why h e g = absurd cc
other-refuses (modify p w) (ty_ordered t) s x why h e g = absurd cc
other-refuses (modify p w) _ s x why h e g = absurd cc
other-refuses (shape a) (ty_list t) s x why h e g = absurd cc
other-refuses (shape a) (ty_keyed t) s x why h e g = absurd cc
other-refuses (shape a) (ty_ordered t) s x why h e g = absurd cc
other-refuses (shape a) _ s x why h e g = absurd cc

lost-refuses : (p : PrimitiveTree) (t : TyTree) (s x : DocTree) (why : WhyNot) → is_row t ≡ true → act_primitive t p s ≡ Ok x → carry_lost p ≡ Err why → why ≡ gone
lost-refuses (set a) t s x why h e g = absurd cc
lost-refuses (splice i k y) t s x why h e g = is-gone why (carry_lost (splice i k y)) refl g
lost-refuses (modify p w) t s x why h e g = is-gone why (carry_lost (modify p w)) refl g
lost-refuses (shape a) t s x why h e g = is-gone why (carry_lost (shape a)) refl g
lost-refuses (add n) (ty_int z) s x why h e g = absurd cc
lost-refuses (add n) _ s x why h e g = absurd cc
lost-refuses (at f w) (ty_rec fs) s x why h e g = absurd cc
lost-refuses (at f w) _ s x why h e g = absurd cc
lost-refuses (stay a w) (ty_alt fs) s x why h e g = absurd cc
lost-refuses (stay a w) _ s x why h e g = absurd cc
lost-refuses (switch a c w) (ty_alt fs) s x why h e g = absurd cc
lost-refuses (switch a c w) _ s x why h e g = absurd cc

modify-text : (t : TyTree) (p : PlaceOf) (w : WordTree) (s : List ℕ) (x : DocTree) → act_primitive t (modify p w) (text s) ≡ Ok x → ⊥
modify-text (ty_list t) (Index p) w s x e = cc
modify-text (ty_keyed t) (Key k) w s x e = cc
modify-text (ty_ordered t) (Node q) w s x e = cc
modify-text _ _ w s x e = cc

text-refuses : (p : PrimitiveTree) (t : TyTree) (rs : List Run) (s : List ℕ) (x : DocTree) (why : WhyNot) → act_primitive t p (text s) ≡ Ok x → carry_text rs p ≡ Err why → why ≡ gone
text-refuses (set a) t rs s x why e g = absurd cc
text-refuses (splice i k y) t rs s x why e g = known-gone (is_utf8 y) (splices (carried rs i k y), cells (shortest (near_spliced rs i k (character_count y)))) why g
text-refuses (add n) (ty_int z) rs s x why e g = absurd cc
text-refuses (add n) _ rs s x why e g = absurd cc
text-refuses (at f w) (ty_rec fs) rs s x why e g = absurd cc
text-refuses (at f w) _ rs s x why e g = absurd cc
text-refuses (stay a w) (ty_alt fs) rs s x why e g = absurd cc
text-refuses (stay a w) _ rs s x why e g = absurd cc
text-refuses (switch a c w) (ty_alt fs) rs s x why e g = absurd cc
text-refuses (switch a c w) _ rs s x why e g = absurd cc
text-refuses (modify p w) t rs s x why e g = absurd (modify-text t p w s x e)
text-refuses (shape a) (ty_list t) rs s x why e g = absurd cc
text-refuses (shape a) (ty_keyed t) rs s x why e g = absurd cc
text-refuses (shape a) (ty_ordered t) rs s x why e g = absurd cc
text-refuses (shape a) _ rs s x why e g = absurd cc

-- ---- records and alternatives

abbrev pub IsRefused : WordTree → Type 0
IsRefused w = (t : TyTree) (b : BridgeTree) (s u v : DocTree) (why : WhyNot) → Spans b t s u → act t w s ≡ Ok v → carry t b w ≡ Err why → why ≡ gone

at-refuses : (f : List ℕ) (w : WordTree) → IsRefused w → (t : TyTree) (bs : BridgeTrees) (s u x : DocTree) (why : WhyNot) → Spans (parts bs) t s u → act_primitive t (at f w) s ≡ Ok x → carry_at t bs f (λ v b. carry v b w) ≡ Err why → why ≡ gone
at-refuses f w k (ty_rec fs) bs (rec ds) (rec es) x why h e g =
    let l = present_ok (lookup_field fs f) Place (λ (l : ℕ × TyTree). map_ok rec (put_result_at ds l.0 (act l.1 w (doc_at ds l.0)))) x e in
    let a = map_ok_ok rec (put_result_at ds l.0.0 (act l.0.1 w (doc_at ds l.0.0))) x l.2 in
    let i = in_ok ds l.0.0 (act l.0.1 w (doc_at ds l.0.0)) a.0 a.1 in
    let there : around (at f) (λ b. parts (put_bridge_at bs l.0.0 b)) (carry l.0.1 (bridge_at bs l.0.0) w) ≡ Err why =
    subst (λ (o : Option (ℕ × TyTree)). if_there o Place (λ s. around (at f) (λ b. parts (put_bridge_at bs s.0 b)) (carry s.1 (bridge_at bs s.0) w)) ≡ Err why) l.1 g in
    k l.0.1 (bridge_at bs l.0.0) (doc_at ds l.0.0) (doc_at es l.0.0) i.0 why (field-spans bs fs ds es f l.0 h l.1) i.1
    (around-err (at f) (λ b. parts (put_bridge_at bs l.0.0 b)) (carry l.0.1 (bridge_at bs l.0.0) w) why there)
at-refuses f w k (ty_rec fs) bs (rec ds) _ x why h e g = absurd h
at-refuses f w k _ bs _ _ x why h e g = absurd cc

stay-refuses : (a : List ℕ) (w : WordTree) → IsRefused w → (t : TyTree) (tag : List ℕ) (b : BridgeTree) (s u x : DocTree) (why : WhyNot) → Spans (arm tag b) t s u → act_primitive t (stay a w) s ≡ Ok x
    → carry_stay t tag b a (λ v c. carry v c w) ≡ Err why → why ≡ gone
stay-refuses a w k (ty_alt fs) tag b (alt d s) (alt n u) x why h e g =
    let y = if_ok (bytes_eq a d) Tag (if_present (lookup_type fs d) Tag (λ t. map_ok (alt d) (inner (act t w s)))) x e in
    let l = present_ok (lookup_type fs d) Tag (λ t. map_ok (alt d) (inner (act t w s))) x y.1 in
    let r = map_ok_ok (alt d) (inner (act l.0 w s)) x l.2 in
    let there : lookup_type fs tag ≡ Some l.0 = ap (lookup_type fs) (sym h.0) ∙ l.1 in
    let named : bytes_eq a tag ≡ true = ap (bytes_eq a) (sym h.0) ∙ y.0 in
    let was : Spans b l.0 s u = subst (λ (o : Option TyTree). AtType o (λ t. Spans b t s u)) there h.2 in
    let first : if_there (lookup_type fs tag) Tag (λ t. around (stay tag) (arm tag) (carry t b w)) ≡ Err why =
    subst (λ test. cond {A = Answer} test (if_there (lookup_type fs tag) Tag (λ t. around (stay tag) (arm tag) (carry t b w))) (Err (fails Tag)) ≡ Err why) named g in
    let second : around (stay tag) (arm tag) (carry l.0 b w) ≡ Err why = subst (λ (o : Option TyTree). if_there o Tag (λ t. around (stay tag) (arm tag) (carry t b w)) ≡ Err why) there first in
    k l.0 b s u r.0 why was (inner_ok (act l.0 w s) r.0 r.1) (around-err (stay tag) (arm tag) (carry l.0 b w) why second)
stay-refuses a w k (ty_alt fs) tag b (alt d s) _ x why h e g = absurd h
stay-refuses a w k _ tag b _ _ x why h e g = absurd cc

-- the tag that a word names is that of the near document
left-refuses : (a : List ℕ) (w : WordTree) (t : TyTree) (old new : List ℕ) (s u x : DocTree) (why : WhyNot) → Spans (away old new) t s u → act_primitive t (stay a w) s ≡ Ok x → carry_left old a ≡ Err why → why ≡ gone
left-refuses a w (ty_alt fs) old new (alt d s) (alt n u) x why h e g =
    let y = if_ok (bytes_eq a d) Tag (if_present (lookup_type fs d) Tag (λ t. map_ok (alt d) (inner (act t w s)))) x e in
    let named : bytes_eq a old ≡ true = ap (bytes_eq a) (sym h.0) ∙ y.0 in
    gone-test (bytes_eq a old) (fails Tag) why named g
left-refuses a w (ty_alt fs) old new (alt d s) _ x why h e g = absurd h
left-refuses a w _ old new _ _ x why h e g = absurd cc

named-passes : (old new a c : List ℕ) (w : WordTree) (why : WhyNot) → bytes_eq a old ≡ true → carry_switch old new a c w ≡ Err why → ⊥
named-passes old new a c w why h g = passes-test (bytes_eq a old) (more_primitives (switch new c w) no_primitives, same) (fails Tag) why h g

switch-named : (a c : List ℕ) (w : WordTree) (fs : FieldTrees) (d : List ℕ) (s x : DocTree) → act_primitive (ty_alt fs) (switch a c w) (alt d s) ≡ Ok x → bytes_eq a d ≡ true
switch-named a c w fs d s x e = (if_ok (bytes_eq a d) Tag (if_present (lookup_type fs c) Tag (λ t. map_ok (alt c) (inner (act t w (initial t))))) x e).0

arm-switch : (a c : List ℕ) (w : WordTree) (t : TyTree) (tag : List ℕ) (b : BridgeTree) (s u x : DocTree) (why : WhyNot) → Spans (arm tag b) t s u → act_primitive t (switch a c w) s ≡ Ok x → carry_switch tag tag a c w ≡ Err why → ⊥
arm-switch a c w (ty_alt fs) tag b (alt d s) (alt n u) x why h e g = named-passes tag tag a c w why (ap (bytes_eq a) (sym h.0) ∙ switch-named a c w fs d s x e) g
arm-switch a c w (ty_alt fs) tag b (alt d s) _ x why h e g = h
arm-switch a c w _ tag b _ _ x why h e g = cc

away-switch : (a c : List ℕ) (w : WordTree) (t : TyTree) (old new : List ℕ) (s u x : DocTree) (why : WhyNot) → Spans (away old new) t s u → act_primitive t (switch a c w) s ≡ Ok x → carry_switch old new a c w ≡ Err why → ⊥
away-switch a c w (ty_alt fs) old new (alt d s) (alt n u) x why h e g = named-passes old new a c w why (ap (bytes_eq a) (sym h.0) ∙ switch-named a c w fs d s x e) g
away-switch a c w (ty_alt fs) old new (alt d s) _ x why h e g = h
away-switch a c w _ old new _ _ x why h e g = cc

-- ---- lists

far-err : (o : Option ℕ) (f : ℕ → Answer) (why : WhyNot) → at_far o f ≡ Err why → ((y : ℕ) → o ≡ Some y → f y ≡ Err why → why ≡ gone) → why ≡ gone
far-err None f why h k = cc
far-err (Some y) f why h k = k y refl h

index-refuses : (i : ℕ) (w : WordTree) → IsRefused w → (t : TyTree) (ls : List Link) (m : ℕ) (bs : BridgeTrees) (z y : Shape) (ds es : DocTrees) (x : DocTree) (why : WhyNot) → AreLinked ls m z y ds es (SpanItems bs ls t ds es)
    → act_primitive (ty_list t) (modify (Index i) w) (hold z ds) ≡ Ok x → carry_index t ls m bs i (λ v b. carry v b w) ≡ Err why → why ≡ gone
index-refuses i w k t ls m bs z y ds es x why h e g =
    let p = present_ok (place_of z (Index i)) Place (λ j. map_ok (hold z) (put_result_at ds j (act t w (doc_at ds j)))) x e in
    let n = index-place (length (doc_list ds)) i p.0 (ap (λ s. place_of s (Index i)) (sym h.near_is) ∙ p.1) in
    let there : map_ok (hold z) (put_result_at ds i (act t w (doc_at ds i))) ≡ Ok x = subst (λ j. map_ok (hold z) (put_result_at ds j (act t w (doc_at ds j))) ≡ Ok x) n.1 p.2 in
    let a = map_ok_ok (hold z) (put_result_at ds i (act t w (doc_at ds i))) x there in
    let c = in_ok ds i (act t w (doc_at ds i)) a.0 a.1 in
    let within : nat_lt i (length ls) ≡ true = ap (λ k. nat_lt i k) (links-as-many bs ls t ds es h.items) ∙ n.0 in
    let go = λ (j : ℕ). around (λ u. modify (Index j) u) (λ b. linked ls m (put_bridge_at bs i b)) (carry t (bridge_at bs i) w) in
    let first : at_far (far_place m (link_at ls i)) go ≡ Err why = subst (λ test. cond {A = Answer} test (at_far (far_place m (link_at ls i)) go) (Err (fails Place)) ≡ Err why) within g in
    far-err (far_place m (link_at ls i)) go why first
    (λ j f r. k t (bridge_at bs i) (doc_at ds i) (doc_at es j) c.0 why (item-spans bs ls t ds es i j h.items (linked-place m j i ls f)) c.1
    (around-err (λ u. modify (Index j) u) (λ b. linked ls m (put_bridge_at bs i b)) (carry t (bridge_at bs i) w) why r))

item-refuses : (p : PlaceOf) (w : WordTree) → IsRefused w → (t : TyTree) (ls : List Link) (m : ℕ) (bs : BridgeTrees) (s u x : DocTree) (why : WhyNot) → Spans (linked ls m bs) t s u → act_primitive t (modify p w) s ≡ Ok x
    → carry_item t ls m bs p (λ v b. carry v b w) ≡ Err why → why ≡ gone
item-refuses (Index i) w k (ty_list t) ls m bs (hold z ds) (hold y es) x why h e g = index-refuses i w k t ls m bs z y ds es x why h e g
item-refuses _ w k (ty_list t) ls m bs (hold z ds) (hold y es) x why h e g = absurd cc
item-refuses p w k _ ls m bs _ _ x why h e g = absurd h

planned-err : (p : Shape × List Origin) (o : Option Lists.Carried) (bs : BridgeTrees) (why : WhyNot) → carry_planned (Ok p) o bs ≡ Err why → why ≡ gone
planned-err p None bs why h = cc
planned-err p (Some c) bs why h = absurd cc

list-refuses : (e : ShapeEdit) (t : TyTree) (ls : List Link) (m : ℕ) (bs : BridgeTrees) (s u x : DocTree) (why : WhyNot) → Spans (linked ls m bs) t s u → act_primitive t (shape e) s ≡ Ok x → carry_shape ls m bs e ≡ Err why → why ≡ gone
list-refuses e (ty_list t) ls m bs (hold z ds) (hold y es) x why h k g =
    let r = reshaped-ok (plan z e) ds (initial t) x k in
    let planned : plan_list (length ls) e ≡ Ok r.0 = ap (λ n. plan_list n e) (links-as-many bs ls t ds es h.items) ∙ (ap (λ s. plan s e) (sym h.near_is) ∙ r.1) in
    planned-err r.0 (Lists.carried e m ls) bs why (subst (λ (o : Planned). carry_planned o (Lists.carried e m ls) bs ≡ Err why) planned g)
list-refuses e _ ls m bs _ _ x why h k g = absurd h

-- ---- what acts on records, on alternatives and on lists

abbrev is_at : PrimitiveTree → Bool
is_at (at f w) = true
is_at _ = false

abbrev is_tagged : PrimitiveTree → Bool
is_tagged (stay a w) = true
is_tagged (switch a c w) = true
is_tagged _ = false

abbrev is_held : PrimitiveTree → Bool
is_held (modify q w) = true
is_held (shape a) = true
is_held _ = false

lists-only : (p : PrimitiveTree) (t : TyTree) (ls : List Link) (m : ℕ) (bs : BridgeTrees) (s u x : DocTree) → is_held p ≡ false → Spans (linked ls m bs) t s u → act_primitive t p s ≡ Ok x → ⊥
lists-only (modify q w) t ls m bs s u x n h e = cc
lists-only (shape a) t ls m bs s u x n h e = cc
lists-only (set a) (ty_list t) ls m bs s u x n h e = cc
lists-only (add k) (ty_list t) ls m bs s u x n h e = cc
lists-only (splice i k y) (ty_list t) ls m bs s u x n h e = cc
lists-only (at f w) (ty_list t) ls m bs s u x n h e = cc
lists-only (stay a w) (ty_list t) ls m bs s u x n h e = cc
lists-only (switch a c w) (ty_list t) ls m bs s u x n h e = cc
lists-only _ _ ls m bs s u x n h e = h

record-only : (p : PrimitiveTree) (t : TyTree) (bs : BridgeTrees) (s u x : DocTree) → is_at p ≡ false → Spans (parts bs) t s u → act_primitive t p s ≡ Ok x → ⊥
record-only (at f w) t bs s u x n h e = cc
record-only (set a) (ty_rec fs) bs s u x n h e = cc
record-only (add k) (ty_rec fs) bs s u x n h e = cc
record-only (splice i k y) (ty_rec fs) bs s u x n h e = cc
record-only (stay a w) (ty_rec fs) bs s u x n h e = cc
record-only (switch a c w) (ty_rec fs) bs s u x n h e = cc
record-only (modify q w) (ty_rec fs) bs s u x n h e = cc
record-only (shape a) (ty_rec fs) bs s u x n h e = cc
record-only _ _ bs s u x n h e = h

tags-only : (p : PrimitiveTree) (fs : FieldTrees) (s x : DocTree) → is_tagged p ≡ false → act_primitive (ty_alt fs) p s ≡ Ok x → ⊥
tags-only (stay a w) fs s x n e = cc
tags-only (switch a c w) fs s x n e = cc
tags-only (set a) fs s x n e = cc
tags-only (add k) fs s x n e = cc
tags-only (splice i k y) fs s x n e = cc
tags-only (at f w) fs s x n e = cc
tags-only (modify q w) fs s x n e = cc
tags-only (shape a) fs s x n e = cc

arm-only : (p : PrimitiveTree) (t : TyTree) (tag : List ℕ) (c : BridgeTree) (s u x : DocTree) → is_tagged p ≡ false → Spans (arm tag c) t s u → act_primitive t p s ≡ Ok x → ⊥
arm-only p (ty_alt fs) tag c s u x n h e = tags-only p fs s x n e
arm-only p _ tag c s u x n h e = h

away-only : (p : PrimitiveTree) (t : TyTree) (old new : List ℕ) (s u x : DocTree) → is_tagged p ≡ false → Spans (away old new) t s u → act_primitive t p s ≡ Ok x → ⊥
away-only p (ty_alt fs) old new s u x n h e = tags-only p fs s x n e
away-only p _ old new s u x n h e = h

-- ---- all bridges

-- what is left to say of bridges with parts
record Inner (p : PrimitiveTree) (t : TyTree) (s u : DocTree) (why : WhyNot) : Type 0 where
  in_parts : (bs : BridgeTrees) → Spans (parts bs) t s u → carry_primitive t (parts bs) p ≡ Err why → why ≡ gone
  in_arm : (tag : List ℕ) (c : BridgeTree) → Spans (arm tag c) t s u → carry_primitive t (arm tag c) p ≡ Err why → why ≡ gone
  in_away : (old new : List ℕ) → Spans (away old new) t s u → carry_primitive t (away old new) p ≡ Err why → why ≡ gone
  in_list : (ls : List Link) (m : ℕ) (bs : BridgeTrees) → Spans (linked ls m bs) t s u → carry_primitive t (linked ls m bs) p ≡ Err why → why ≡ gone

by-bridge : (p : PrimitiveTree) (t : TyTree) (b : BridgeTree) (s u x : DocTree) (why : WhyNot) → Inner p t s u why → Spans b t s u → act_primitive t p s ≡ Ok x → carry_primitive t b p ≡ Err why → why ≡ gone
by-bridge p t same s u x why i h e g = absurd cc
by-bridge p t other s u x why i h e g = other-refuses p t s x why h.kind_is e g
by-bridge p t lost s u x why i h e g = lost-refuses p t s x why h.kind_is e g
by-bridge p t (cells rs) (text s) u x why i h e g = text-refuses p t rs s x why e g
by-bridge p t (cells rs) _ u x why i h e g = absurd h
by-bridge p t (parts bs) s u x why i h e g = i.in_parts bs h g
by-bridge p t (arm tag c) s u x why i h e g = i.in_arm tag c h g
by-bridge p t (away old new) s u x why i h e g = i.in_away old new h g
by-bridge p t (linked ls m bs) s u x why i h e g = i.in_list ls m bs h g

-- a primitive of a type without parts
leaf-refuses : (p : PrimitiveTree) → is_at p ≡ false → is_tagged p ≡ false → is_held p ≡ false → Refuses p
leaf-refuses p n m o t b s u x why h e g =
    by-bridge p t b s u x why (
    record {
      in_parts = λ bs k f. absurd (record-only p t bs s u x n k e);
      in_arm = λ tag c k f. absurd (arm-only p t tag c s u x m k e);
      in_away = λ old new k f. absurd (away-only p t old new s u x m k e);
      in_list = λ ls size bs k f. absurd (lists-only p t ls size bs s u x o k e);
    }
    ) h e g

-- ---- all words

module _ (near_splices : NearSplices) where
  mutual
    pub word-refuses : (w : WordTree) → IsRefused w
    word-refuses no_primitives t b s u v why h e g = absurd cc
    word-refuses (more_primitives p w) t b s u v why h e g =
        let x = after_ok (act_primitive t p s) (λ y. act t w y) v e in
        elim (then-err (carry_primitive t b p) (λ c. carry t c w) why g) [
          | inl r ↦ primitive-refuses p t b s u x.0 why h x.1 r
          | inr a ↦
              let next : BeginsAt a.0.1 t x.0 = begins a.0.1 t x.0 (inner (act t a.0.0 u)) (primitive-carries near_splices p t b s u x.0 a.0 h x.1 a.1) in
              word-refuses w t a.0.1 x.0 next.0 v why next.1 x.2 a.2
        ]

    pub primitive-refuses : (p : PrimitiveTree) → Refuses p
    primitive-refuses (set a) t b s u x why h e g = leaf-refuses (set a) refl refl refl t b s u x why h e g
    primitive-refuses (add n) t b s u x why h e g = leaf-refuses (add n) refl refl refl t b s u x why h e g
    primitive-refuses (splice i k y) t b s u x why h e g = leaf-refuses (splice i k y) refl refl refl t b s u x why h e g
    primitive-refuses (at f w) t b s u x why h e g =
        by-bridge (at f w) t b s u x why (
        record {
          in_parts = λ bs k i. at-refuses f w (λ t' b' s' u' v' y' j l m. word-refuses w t' b' s' u' v' y' j l m) t bs s u x why k e i;
          in_arm = λ tag c k i. absurd (arm-only (at f w) t tag c s u x refl k e);
          in_away = λ old new k i. absurd (away-only (at f w) t old new s u x refl k e);
          in_list = λ ls m bs k i. absurd (lists-only (at f w) t ls m bs s u x refl k e);
        }
        ) h e g
    primitive-refuses (stay a w) t b s u x why h e g =
        by-bridge (stay a w) t b s u x why (
        record {
          in_parts = λ bs k i. absurd (record-only (stay a w) t bs s u x refl k e);
          in_arm = λ tag c k i. stay-refuses a w (λ t' b' s' u' v' y' j l m. word-refuses w t' b' s' u' v' y' j l m) t tag c s u x why k e i;
          in_away = λ old new k i. left-refuses a w t old new s u x why k e i;
          in_list = λ ls m bs k i. absurd (lists-only (stay a w) t ls m bs s u x refl k e);
        }
        ) h e g
    primitive-refuses (switch a c w) t b s u x why h e g =
        by-bridge (switch a c w) t b s u x why (
        record {
          in_parts = λ bs k i. absurd (record-only (switch a c w) t bs s u x refl k e);
          in_arm = λ tag d k i. absurd (arm-switch a c w t tag d s u x why k e i);
          in_away = λ old new k i. absurd (away-switch a c w t old new s u x why k e i);
          in_list = λ ls m bs k i. absurd (lists-only (switch a c w) t ls m bs s u x refl k e);
        }
        ) h e g
    primitive-refuses (modify p w) t b s u x why h e g =
        by-bridge (modify p w) t b s u x why (
        record {
          in_parts = λ bs k i. absurd (record-only (modify p w) t bs s u x refl k e);
          in_arm = λ tag c k i. absurd (arm-only (modify p w) t tag c s u x refl k e);
          in_away = λ old new k i. absurd (away-only (modify p w) t old new s u x refl k e);
          in_list = λ ls m bs k i. item-refuses p w (λ t' b' s' u' v' y' j l n. word-refuses w t' b' s' u' v' y' j l n) t ls m bs s u x why k e i;
        }
        ) h e g
    primitive-refuses (shape a) t b s u x why h e g =
        by-bridge (shape a) t b s u x why (
        record {
          in_parts = λ bs k i. absurd (record-only (shape a) t bs s u x refl k e);
          in_arm = λ tag c k i. absurd (arm-only (shape a) t tag c s u x refl k e);
          in_away = λ old new k i. absurd (away-only (shape a) t old new s u x refl k e);
          in_list = λ ls m bs k i. list-refuses a t ls m bs s u x why k e i;
        }
        ) h e g
