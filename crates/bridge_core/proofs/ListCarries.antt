-- A word that acts on a near list is carried to one that acts on the far list.
use Rattle.std.proofs.Common.{◌≡◌, ℕ, zero, suc, ◌+◌, ◌<◌, Bool, true, false, List, [], ◌∷◌, length, map, get_or, Option, None, Some, Result, Ok, Err, refl, sym, ap, ◌∙◌, subst, arith, if◌then◌else◌}
use Rattle.std.specs.Prelude.{cond, nat_lt, option_and_then}
use Rattle.std.proofs.lemmas.List.{length-map}
use Rattle.doc_values.specs.Documents.{DocTree, hold, DocTrees, docs_of, doc_list}
use Rattle.doc_values.specs.Types.{TyTree, ty_list, ty_keyed, ty_ordered}
use Rattle.doc_values.specs.Initial.{initial}
use Rattle.doc_values.proofs.Lists.{docs_of-doc_list, doc_list-docs_of}
use Rattle.hold_shapes.specs.declared.shape.Shape.{Shape}
use Rattle.hold_shapes.specs.declared.origins.Origin.{Origin}
use Rattle.hold_shapes.specs.declared.origins.Origin.TheVariants.{Old, Fresh}
use Rattle.hold_shapes.specs.declared.edit.Place.{Place as PlaceOf}
use Rattle.hold_shapes.specs.declared.edit.Place.TheVariants.{Index, Key, Node}
use Rattle.hold_shapes.specs.declared.edit.ShapeEdit.{ShapeEdit}
use Rattle.hold_shapes.specs.Gather.{content_at}
use Rattle.hold_shapes.specs.Plans.{Planned, plan, plan_list, list_of}
use Rattle.hold_shapes.specs.Shapes.{place_of}
use Rattle.edit_module.specs.declared.fault.Cause.{Cause}
use Rattle.edit_module.specs.declared.fault.Cause.TheVariants.{Place}
use Rattle.edit_module.specs.Words.{WordTree, no_primitives, more_primitives, modify, shape}
use Rattle.edit_module.specs.Action.{Why, act, act_primitive, later, inner, map_ok, if_present, act_at_place, put_result_at, put_at, doc_at, gathered, reshaped, cause_of}
use Rattle.edit_module.proofs.ActionKeepsTypes.{present_ok, map_ok_ok, in_ok, length-put_at}
use Rattle.bridge_links.specs.declared.link.Link.{Link}
use Rattle.bridge_links.specs.Links.{far_at, link_at, content_of}
use Rattle.bridge_links.specs.Links.{place_of as place_of_link}
use Rattle.bridge_links.specs.Spans.{AreApart, Spans as SpanLinks}
use Rattle.bridge_lists.specs.Carried.{far_place, edit_links, edit_size}
use Rattle.bridge_lists.specs.Carried as Lists
use Rattle.bridge_lists.specs.Laws.{edited, all_edited, contents_of, Carries as CarriesItems}
use Rattle.bridge_lists.proofs.Edits.{edit-carries}
use Rattle.bridge_lists.proofs.FarEdits.{plan-followed}
use Rattle.bridge_lists.proofs.FarOrders.{linked-place}
use Rattle.bridge_core.specs.Bridges.{BridgeTree, same, linked, BridgeTrees, bridges_of, bridge_list, bridge_at, put_bridge_at, bridges_after}
use Rattle.bridge_core.specs.Carried.{WhyNot, gone, fails, Answer, around, at_far, carry_index, carry_item, shapes, carry_planned, carry_shape, carry}
use Rattle.bridge_core.specs.Spans.{AreLinked, Spans, SpanItems}
use Rattle.bridge_core.specs.Laws.{BeginsAt, LeadsTo}
use Rattle.bridge_core.proofs.CarriedParts.{IsCarried, around-ok, test-ok, leads-only, leads-fails, inner-later}
use Rattle.bridge_core.proofs.Items.{Leads, pairs, bridges_in, docs_in, bridges-paired, docs-paired, links-as-many, pairs-as-many, as-links, of-links-at, item-spans, item-set}
use Rattle.bridge_core.proofs.ListSpans.{reshaped-ok}

-- ---- an item

far-ok : (o : Option ℕ) (f : ℕ → Answer) (q : WordTree × BridgeTree) → at_far o f ≡ Ok q → (y : ℕ) × (o ≡ Some y) × (f y ≡ Ok q)
far-ok None f q h = absurd cc
far-ok (Some y) f q h = (y, refl, h)

-- the place of an item is its number
pub index-place : (n i j : ℕ) → place_of (list_of n) (Index i) ≡ Some j → (nat_lt i n ≡ true) × (j ≡ i)
index-place n i j h = of-test (nat_lt i n) refl h
  where
    of-test : (b : Bool) → nat_lt i n ≡ b → (if b then Some i else None) ≡ Some j → (nat_lt i n ≡ true) × (j ≡ i)
    of-test true e g = let k : i ≡ j = cc in (e, sym k)
    of-test false e g = absurd cc

-- a far place that is below the size of the list is one of its places
place-below : (m y : ℕ) (o : Option ℕ) → Lists.place_below m o ≡ Some y → nat_lt y m ≡ true
place-below m y None h = absurd cc
place-below m y (Some z) h = of-test (nat_lt z m) refl h
  where
    of-test : (b : Bool) → nat_lt z m ≡ b → (if b then Some z else None) ≡ Some y → nat_lt y m ≡ true
    of-test true e g = let k : z ≡ y = cc in ap (λ i. nat_lt i m) (sym k) ∙ e
    of-test false e g = absurd cc

far-index : (m y : ℕ) → nat_lt y m ≡ true → place_of (list_of m) (Index y) ≡ Some y
far-index m y h = ap (λ (b : Bool). if b then Some y else None) h

-- both lists have another item at linked places
items-set : (ls : List Link) (m : ℕ) (bs : BridgeTrees) (t : TyTree) (x y : Shape) (ds es : DocTrees) (i j : ℕ) (c : BridgeTree) (d e : DocTree) → AreLinked ls m x y ds es (SpanItems bs ls t ds es) → far_at ls i ≡ Some j → Spans c t d e
    → Spans (linked ls m (put_bridge_at bs i c)) (ty_list t) (hold x (put_at ds i d)) (hold y (put_at es j e))
items-set ls m bs t x y ds es i j c d e h k w =
    record {
      near_is = h.near_is ∙ ap (λ n. list_of n) (sym (length-put_at ds i d));
      far_is = h.far_is;
      far_size = length-put_at es j e ∙ h.far_size;
      apart = h.apart;
      items = item-set bs ls t ds es i j c d e h.items h.apart k w;
    }

-- the far list, by what the inner word made of its item
item-leads : (ls : List Link) (m : ℕ) (bs : BridgeTrees) (t : TyTree) (x y : Shape) (ds es : DocTrees) (i j : ℕ) (c : BridgeTree) (d : DocTree) (r : Result DocTree Why) → AreLinked ls m x y ds es (SpanItems bs ls t ds es) → far_at ls i ≡ Some j
    → LeadsTo c t d (inner r) → LeadsTo (linked ls m (put_bridge_at bs i c)) (ty_list t) (hold x (put_at ds i d)) (map_ok (hold y) (put_result_at es j r))
item-leads ls m bs t x y ds es i j c d (Ok z) h k w = items-set ls m bs t x y ds es i j c d z h k w
item-leads ls m bs t x y ds es i j c d (Err why) h k w =
    leads-fails c (linked ls m (put_bridge_at bs i c)) t (ty_list t) d (hold x (put_at ds i d)) why.1 (λ g. (hold y (put_at es j g.0), items-set ls m bs t x y ds es i j c d g.0 h k g.1)) w

item-acts : (t : TyTree) (w : WordTree) (y : Shape) (es : DocTrees) (j : ℕ) → place_of y (Index j) ≡ Some j → act_primitive (ty_list t) (modify (Index j) w) (hold y es) ≡ map_ok (hold y) (put_result_at es j (act t w (doc_at es j)))
item-acts t w y es j h = ap (λ (o : Option ℕ). if_present o Place (λ i. map_ok (hold y) (put_result_at es i (act t w (doc_at es i))))) h

index-carries : (i : ℕ) (w : WordTree) → IsCarried w → (t : TyTree) (ls : List Link) (m : ℕ) (bs : BridgeTrees) (x y : Shape) (ds es : DocTrees) (v : DocTree) (q : WordTree × BridgeTree) → AreLinked ls m x y ds es (SpanItems bs ls t ds es)
    → act_primitive (ty_list t) (modify (Index i) w) (hold x ds) ≡ Ok v → carry_index t ls m bs i (λ u b. carry u b w) ≡ Ok q → LeadsTo q.1 (ty_list t) v (inner (act (ty_list t) q.0 (hold y es)))
index-carries i w k t ls m bs x y ds es v q h e g =
    let p = present_ok (place_of x (Index i)) Place (λ j. map_ok (hold x) (put_result_at ds j (act t w (doc_at ds j)))) v e in
    let at : p.0 ≡ i = (index-place (length (doc_list ds)) i p.0 (ap (λ z. place_of z (Index i)) (sym h.near_is) ∙ p.1)).1 in
    let there : map_ok (hold x) (put_result_at ds i (act t w (doc_at ds i))) ≡ Ok v = subst (λ j. map_ok (hold x) (put_result_at ds j (act t w (doc_at ds j))) ≡ Ok v) at p.2 in
    let a = map_ok_ok (hold x) (put_result_at ds i (act t w (doc_at ds i))) v there in
    let c = in_ok ds i (act t w (doc_at ds i)) a.0 a.1 in
    let go = λ (j : ℕ). around (λ u. modify (Index j) u) (λ b. linked ls m (put_bridge_at bs i b)) (carry t (bridge_at bs i) w) in
    let n = test-ok (nat_lt i (length ls)) (at_far (far_place m (link_at ls i)) go) (fails Place) q g in
    let f = far-ok (far_place m (link_at ls i)) go q n.1 in
    let j = f.0 in
    let r = around-ok (λ u. modify (Index j) u) (λ b. linked ls m (put_bridge_at bs i b)) (carry t (bridge_at bs i) w) q f.2 in
    let led : far_at ls i ≡ Some j = linked-place m j i ls f.1 in
    let inside : LeadsTo r.0.1 t c.0 (inner (act t r.0.0 (doc_at es j))) = k t (bridge_at bs i) (doc_at ds i) (doc_at es j) c.0 r.0 (item-spans bs ls t ds es i j h.items led) c.1 r.1 in
    let whole = item-leads ls m bs t x y ds es i j r.0.1 c.0 (act t r.0.0 (doc_at es j)) h led inside in
    let within : place_of y (Index j) ≡ Some j = ap (λ z. place_of z (Index j)) h.far_is ∙ far-index m j (place-below m j (place_of_link (link_at ls i)) f.1) in
    let next = linked ls m (put_bridge_at bs i r.0.1) in
    let far : LeadsTo next (ty_list t) (hold x (put_at ds i c.0)) (act_primitive (ty_list t) (modify (Index j) r.0.0) (hold y es)) =
    subst (λ o. LeadsTo next (ty_list t) (hold x (put_at ds i c.0)) o) (sym (item-acts t r.0.0 y es j within)) whole in
    let near : hold x (put_at ds i c.0) ≡ v = ap (hold x) c.2 ∙ a.2 in
    subst (λ (z : WordTree × BridgeTree). LeadsTo z.1 (ty_list t) v (inner (act (ty_list t) z.0 (hold y es)))) r.2
    (subst (λ d. LeadsTo next (ty_list t) d (inner (act (ty_list t) (more_primitives (modify (Index j) r.0.0) no_primitives) (hold y es)))) near
    (leads-only (ty_list t) (modify (Index j) r.0.0) next (hold x (put_at ds i c.0)) (hold y es) far))

pub item-carries : (p : PlaceOf) (w : WordTree) → IsCarried w → (t : TyTree) (ls : List Link) (m : ℕ) (bs : BridgeTrees) (s u x : DocTree) (q : WordTree × BridgeTree) → Spans (linked ls m bs) t s u → act_primitive t (modify p w) s ≡ Ok x
    → carry_item t ls m bs p (λ v b. carry v b w) ≡ Ok q → LeadsTo q.1 t x (inner (act t q.0 u))
item-carries (Index i) w k (ty_list t) ls m bs (hold z ds) (hold y es) x q h e g = index-carries i w k t ls m bs z y ds es x q h e g
item-carries _ w k (ty_list t) ls m bs (hold z ds) (hold y es) x q h e g = absurd cc
item-carries p w k _ ls m bs _ _ x q h e g = absurd h

-- ---- edits of the shape

-- the shape that a plan of a list has
shape-long : {A : Type 0} (a : A) (e : ShapeEdit) (xs : List A) (p : Shape × List Origin) → plan_list (length xs) e ≡ Ok p → p.0 ≡ list_of (length (map (content_at xs a) p.1))
shape-long a e xs p h =
    let f = plan-followed a e xs p h in
    let long : length (map (content_at xs a) p.1) ≡ edit_size (length xs) e = ap length f.contents ∙ (length-map (edit_links (length xs) e) (content_of xs a) ∙ f.size) in
    f.shape ∙ ap (λ n. list_of n) (sym long)

-- edits that have plans, one after another, as a word
shape-first : (t : TyTree) (e : ShapeEdit) (es : List ShapeEdit) (n : ℕ) (ds : DocTrees) (p : Shape × List Origin) → plan_list n e ≡ Ok p
    → act (ty_list t) (shapes (e ∷ es)) (hold (list_of n) ds) ≡ later 1 (act (ty_list t) (shapes es) (hold p.0 (gathered p.1 ds (initial t))))
shape-first t e es n ds p h = rw h refl

edited-plan : {A : Type 0} (a : A) (xs ys : List A) (o : Planned) → contents_of a xs o ≡ Some ys → (p : Shape × List Origin) × (o ≡ Ok p) × (map (content_at xs a) p.1 ≡ ys)
edited-plan a xs ys (Ok p) h = (p, refl, cc)
edited-plan a xs ys (Err c) h = absurd cc

-- a list of these items
abbrev list_doc : List DocTree → DocTree
list_doc xs = hold (list_of (length xs)) (docs_of xs)

shapes-act : (t : TyTree) (es : List ShapeEdit) (xs us : List DocTree) → all_edited (initial t) es xs ≡ Some us → act (ty_list t) (shapes es) (list_doc xs) ≡ Ok (list_doc us)
shapes-act t [] xs us h = let is : xs ≡ us = cc in ap (λ ys. Ok (list_doc ys)) is
shapes-act t (e ∷ es) xs us h = of-first (edited (initial t) e xs) refl h (λ ys g. shapes-act t es ys us g)
  where
    of-first : (o : Option (List DocTree)) → edited (initial t) e xs ≡ o → option_and_then (all_edited (initial t) es) o ≡ Some us → ((ys : List DocTree) → all_edited (initial t) es ys ≡ Some us → act (ty_list t) (shapes es) (list_doc ys) ≡ Ok (list_doc us))
        → act (ty_list t) (shapes (e ∷ es)) (list_doc xs) ≡ Ok (list_doc us)
    of-first None k g deeper = absurd cc
    of-first (Some ys) k g deeper =
        let p = edited-plan (initial t) xs ys (plan_list (length xs) e) k in
        let shaped : p.0.0 ≡ list_of (length ys) = shape-long (initial t) e xs p.0 p.1 ∙ ap (λ (zs : List DocTree). list_of (length zs)) p.2 in
        let contents : gathered p.0.1 (docs_of xs) (initial t) ≡ docs_of ys = ap (λ (zs : List DocTree). docs_of (map (content_at zs (initial t)) p.0.1)) (doc_list-docs_of xs) ∙ ap docs_of p.2 in
        shape-first t e es (length xs) (docs_of xs) p.0 p.1
        ∙ (ap (λ s. later 1 (act (ty_list t) (shapes es) (hold s (gathered p.0.1 (docs_of xs) (initial t))))) shaped
        ∙ (ap (λ (ds : DocTrees). later 1 (act (ty_list t) (shapes es) (hold (list_of (length ys)) ds))) contents ∙ ap (later 1) (deeper ys g)))

-- what a plan makes of items with their bridges
index-first : (xs : List (BridgeTree × DocTree)) (k : ℕ) (a : BridgeTree × DocTree) → (get_or xs k a).0 ≡ get_or (bridges_in xs) k a.0
index-first [] k a = refl
index-first (x ∷ xs) zero a = refl
index-first (x ∷ xs) (suc k) a = index-first xs k a

index-second : (xs : List (BridgeTree × DocTree)) (k : ℕ) (a : BridgeTree × DocTree) → (get_or xs k a).1 ≡ get_or (docs_in xs) k a.1
index-second [] k a = refl
index-second (x ∷ xs) zero a = refl
index-second (x ∷ xs) (suc k) a = index-second xs k a

bridges-gathered : (xs : List (BridgeTree × DocTree)) (a : BridgeTree × DocTree) (from : List Origin) → bridges_in (map (content_at xs a) from) ≡ map (content_at (bridges_in xs) a.0) from
bridges-gathered xs a [] = refl
bridges-gathered xs a (Old k ∷ from) = ap (λ b. b ∷ bridges_in (map (content_at xs a) from)) (index-first xs k a) ∙ ap (λ bs. get_or (bridges_in xs) k a.0 ∷ bs) (bridges-gathered xs a from)
bridges-gathered xs a (Fresh ∷ from) = ap (λ bs. a.0 ∷ bs) (bridges-gathered xs a from)

docs-gathered : (xs : List (BridgeTree × DocTree)) (a : BridgeTree × DocTree) (from : List Origin) → docs_in (map (content_at xs a) from) ≡ map (content_at (docs_in xs) a.1) from
docs-gathered xs a [] = refl
docs-gathered xs a (Old k ∷ from) = ap (λ b. b ∷ docs_in (map (content_at xs a) from)) (index-second xs k a) ∙ ap (λ bs. get_or (docs_in xs) k a.1 ∷ bs) (docs-gathered xs a from)
docs-gathered xs a (Fresh ∷ from) = ap (λ bs. a.1 ∷ bs) (docs-gathered xs a from)

planned-ok : (p : Shape × List Origin) (o : Option Lists.Carried) (bs : BridgeTrees) (q : WordTree × BridgeTree) → carry_planned (Ok p) o bs ≡ Ok q
    → (c : Lists.Carried) × (o ≡ Some c) × ((shapes c.0, linked c.1 c.2 (bridges_after p.1 bs)) ≡ q)
planned-ok p None bs q h = absurd cc
planned-ok p (Some c) bs q h = (c, refl, cc)

-- the new lists, by what the edit made of the near items with their bridges
lists-span : (t : TyTree) (e : ShapeEdit) (ls : List Link) (bs : BridgeTrees) (ds es : DocTrees) (p : Shape × List Origin) (c : Lists.Carried) → SpanItems bs ls t ds es → plan_list (length (doc_list ds)) e ≡ Ok p
    → (w : CarriesItems (Leads t) c (edited (same, initial t) e (pairs bs ds)) (initial t) (doc_list es))
    → Spans (linked c.1 c.2 (bridges_after p.1 bs)) (ty_list t) (hold p.0 (gathered p.1 ds (initial t))) (list_doc w.far)
lists-span t e ls bs ds es p c h planned w =
    let xs = pairs bs ds in
    let a : BridgeTree × DocTree = (same, initial t) in
    let many : length (doc_list ds) ≡ length xs = sym (links-as-many bs ls t ds es h) ∙ pairs-as-many bs ls t ds es h in
    let next : edited a e xs ≡ Some (map (content_at xs a) p.1) = ap (contents_of a xs) (ap (λ n. plan_list n e) (sym many) ∙ planned) in
    let near : map (content_at xs a) p.1 ≡ w.near = let z : Some (map (content_at xs a) p.1) ≡ Some w.near = sym next ∙ w.near_is in cc in
    let bridges : bridges_of (bridges_in w.near) ≡ bridges_after p.1 bs =
    ap (λ (ys : List (BridgeTree × DocTree)). bridges_of (bridges_in ys)) (sym near)
    ∙ (ap bridges_of (bridges-gathered xs a p.1) ∙ ap (λ (cs : List BridgeTree). bridges_of (map (content_at cs same) p.1)) (bridges-paired bs ls t ds es h)) in
    let docs : docs_of (docs_in w.near) ≡ gathered p.1 ds (initial t) =
    ap (λ (ys : List (BridgeTree × DocTree)). docs_of (docs_in ys)) (sym near)
    ∙ (ap docs_of (docs-gathered xs a p.1) ∙ ap (λ (cs : List DocTree). docs_of (map (content_at cs (initial t)) p.1)) (docs-paired bs ls t ds es h)) in
    record {
      near_is = shape-long (initial t) e (doc_list ds) p planned ∙ ap (λ (ys : List DocTree). list_of (length ys)) (sym (doc_list-docs_of (map (content_at (doc_list ds) (initial t)) p.1)));
      far_is = ap (λ n. list_of n) w.size;
      far_size = ap length (doc_list-docs_of w.far) ∙ w.size;
      apart = w.spans.apart;
      items = of-links-at w.near c.1 t (bridges_after p.1 bs) (gathered p.1 ds (initial t)) (docs_of w.far) bridges docs
          (subst (λ ys. SpanLinks (Leads t) c.1 w.near ys) (sym (doc_list-docs_of w.far)) w.spans);
    }

shape-leads : (t : TyTree) (e : ShapeEdit) (ls : List Link) (m : ℕ) (bs : BridgeTrees) (x y : Shape) (ds es : DocTrees) (v : DocTree) (q : WordTree × BridgeTree) → AreLinked ls m x y ds es (SpanItems bs ls t ds es)
    → act_primitive (ty_list t) (shape e) (hold x ds) ≡ Ok v → carry_shape ls m bs e ≡ Ok q → LeadsTo q.1 (ty_list t) v (inner (act (ty_list t) q.0 (hold y es)))
shape-leads t e ls m bs x y ds es v q h k g =
    let r = reshaped-ok (plan x e) ds (initial t) v k in
    let p = r.0 in
    let many = links-as-many bs ls t ds es h.items in
    let near_plan : plan_list (length (doc_list ds)) e ≡ Ok p = ap (λ z. plan z e) (sym h.near_is) ∙ r.1 in
    let link_plan : plan_list (length ls) e ≡ Ok p = ap (λ n. plan_list n e) many ∙ near_plan in
    let c = planned-ok p (Lists.carried e m ls) bs q (subst (λ (o : Planned). carry_planned o (Lists.carried e m ls) bs ≡ Ok q) link_plan g) in
    let xs = pairs bs ds in
    let a : BridgeTree × DocTree = (same, initial t) in
    let pair_plan : plan_list (length xs) e ≡ Ok p = ap (λ n. plan_list n e) (sym (pairs-as-many bs ls t ds es h.items)) ∙ link_plan in
    let w = edit-carries (Leads t) e m a (initial t) ls xs (doc_list es) (map (content_at xs a) p.1) c.0 (as-links bs ls t ds es h.items h.apart) h.far_size (ap (contents_of a xs) pair_plan) refl c.1 in
    let next = linked c.0.1 c.0.2 (bridges_after p.1 bs) in
    let spans = lists-span t e ls bs ds es p c.0 h.items near_plan w in
    let far_doc : hold y es ≡ list_doc (doc_list es) = ap (λ z. hold z es) (h.far_is ∙ ap (λ n. list_of n) (sym h.far_size)) ∙ ap (λ d. hold (list_of (length (doc_list es))) d) (sym (docs_of-doc_list es)) in
    let acts : act (ty_list t) (shapes c.0.0) (hold y es) ≡ Ok (list_doc w.far) = ap (λ d. act (ty_list t) (shapes c.0.0) d) far_doc ∙ shapes-act t c.0.0 (doc_list es) w.far w.far_is in
    subst (λ (z : WordTree × BridgeTree). LeadsTo z.1 (ty_list t) v (inner (act (ty_list t) z.0 (hold y es)))) c.2
    (subst (λ d. LeadsTo next (ty_list t) d (inner (act (ty_list t) (shapes c.0.0) (hold y es)))) r.2
    (subst (λ (o : Result DocTree Why). LeadsTo next (ty_list t) (hold p.0 (gathered p.1 ds (initial t))) (inner o)) (sym acts) spans))

pub list-carries : (e : ShapeEdit) (t : TyTree) (ls : List Link) (m : ℕ) (bs : BridgeTrees) (s u x : DocTree) (q : WordTree × BridgeTree) → Spans (linked ls m bs) t s u → act_primitive t (shape e) s ≡ Ok x → carry_shape ls m bs e ≡ Ok q
    → LeadsTo q.1 t x (inner (act t q.0 u))
list-carries e (ty_list t) ls m bs (hold z ds) (hold y es) x q h k g = shape-leads t e ls m bs z y ds es x q h k g
list-carries e _ ls m bs _ _ x q h k g = absurd h
