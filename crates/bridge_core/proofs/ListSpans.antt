-- An edit of a far list leads the bridge on.
use Rattle.std.proofs.Common.{◌≡◌, ℕ, zero, suc, ◌+◌, ◌-◌, ◌<◌, Bool, true, false, List, [], ◌∷◌, length, map, Option, None, Some, Result, Ok, Err, refl, sym, ap, ◌∙◌, subst, arith, if◌then◌else◌}
use Rattle.std.specs.Prelude.{slice_get, ◌&&◌, nat_eq}
use Rattle.std.specs.List.{range_with_len}
use Rattle.std.proofs.lemmas.Bool.Decides.{nat_tests}
use Rattle.std.proofs.lemmas.List.{length-map}
use Rattle.texts.proofs.Conjunction.{first, second}
use Rattle.doc_values.specs.Documents.{DocTree, unit, text, hold, DocTrees, no_docs, more_docs, docs_of, doc_list}
use Rattle.doc_values.specs.Types.{TyTree, ty_list, is_well_formed}
use Rattle.doc_values.specs.Typing.{is_list_of, has, has_each}
use Rattle.doc_values.specs.Initial.{initial}
use Rattle.doc_values.proofs.Lists.{docs_of-doc_list, doc_list-docs_of}
use Rattle.hold_shapes.specs.declared.shape.Shape.{Shape}
use Rattle.hold_shapes.specs.declared.shape.Shape.TheVariants.{List as ListOf, Keyed as KeyedOf, Tree as TreeOf}
use Rattle.hold_shapes.specs.declared.origins.Origin.{Origin}
use Rattle.hold_shapes.specs.declared.edit.Place.TheVariants.{Index}
use Rattle.hold_shapes.specs.declared.edit.ShapeEdit.{ShapeEdit}
use Rattle.hold_shapes.specs.Gather.{content_at}
use Rattle.hold_shapes.specs.Plans.{Planned, plan, plan_list, list_of}
use Rattle.hold_shapes.specs.Shapes.{place_of}
use Rattle.edit_module.specs.declared.fault.Cause.{Cause}
use Rattle.edit_module.specs.declared.fault.Cause.TheVariants.{Place}
use Rattle.edit_module.specs.Words.{WordTree, modify, shape}
use Rattle.edit_module.specs.Action.{act, act_primitive, map_ok, if_present, put_result_at, doc_at, put_at, gathered, reshaped}
use Rattle.edit_module.proofs.ActionKeepsTypes.{present_ok, map_ok_ok, in_ok, has_each-at, length-put_at, list-held, item-typed}
use Rattle.bridge_links.specs.declared.link.Link.{Link}
use Rattle.bridge_links.specs.declared.link.Link.TheVariants.{Stays, Moved, Gone, Missed}
use Rattle.bridge_links.specs.Links.{place_of as place_of_link, far_at, leads_to, placed, came, same_places, far_planned}
use Rattle.bridge_links.specs.Links as Links
use Rattle.bridge_links.specs.Spans.{AreApart, AreRelated, Spans as SpanLinks}
use Rattle.bridge_links.proofs.Planned.{came-is, far-spans}
use Rattle.bridge_lists.specs.Carried.{edit_links, edit_size}
use Rattle.bridge_lists.proofs.FarEdits.{IsFollowed, plan-followed}
use Rattle.bridge_lists.proofs.Plans.{size-same}
use Rattle.bridge_lists.proofs.Theorems.{same-at, same-apart}
use Rattle.bridge_core.specs.Bridges.{BridgeTree, same, other, lost, cells, parts, arm, away, linked, BridgeTrees, bridges_of, bridge_at, put_bridge_at, same_each}
use Rattle.bridge_core.specs.Bridged.{for_found, linked_of, inner_at, put_inner_at, near_place, bridge_item, links_after, bridge_shape, bridge, bridge_primitive}
use Rattle.bridge_core.specs.Spans.{AreLinked, Spans, SpanItems}
use Rattle.bridge_core.proofs.Items.{Leads, pairs, bridges_in, docs_in, bridges-paired, docs-paired, links-as-many, as-links, of-links, of-links-at, item-spans, far-item-set, free-item-set}
use Rattle.bridge_core.proofs.BridgeLists.{bridges-of-list}

-- a word that acts on the far document leads the bridge on
abbrev pub LeadsOn : WordTree → Type 0
LeadsOn w = (t : TyTree) (b : BridgeTree) (s v u : DocTree) → is_well_formed t ≡ true → has t s ≡ true → has t v ≡ true → Spans b t s v → act t w v ≡ Ok u → Spans (bridge t w v b) t s u

-- ---- the links of a list to itself

same-within : (k n x y : ℕ) → far_at (map Stays (range_with_len k n)) x ≡ Some y → x < n
same-within k zero x y h = absurd cc
same-within k (suc n) zero y h = omega arith
same-within k (suc n) (suc x) y h = let w = same-within (k + 1) n x y h in omega arith

same-bridges : (ds : DocTrees) → bridges_of (bridges_in (pairs (same_each ds) ds)) ≡ same_each ds
same-bridges no_docs = refl
same-bridges (more_docs d ds) = rw (same-bridges ds) refl

same-docs : (ds : DocTrees) → docs_of (docs_in (pairs (same_each ds) ds)) ≡ ds
same-docs no_docs = refl
same-docs (more_docs d ds) = rw (same-docs ds) refl

same-pairs : (ds : DocTrees) → length (pairs (same_each ds) ds) ≡ length (doc_list ds)
same-pairs no_docs = refl
same-pairs (more_docs d ds) = ap suc (same-pairs ds)

same-related : (t : TyTree) (ds : DocTrees) (x : ℕ) → x < length (doc_list ds) → AreRelated (Leads t) (slice_get (pairs (same_each ds) ds) x) (slice_get (doc_list ds) x)
same-related t no_docs x h = absurd (omega arith)
same-related t (more_docs d ds) zero h = refl
same-related t (more_docs d ds) (suc x) h = same-related t ds x (omega arith)

same-items : (t : TyTree) (ds : DocTrees) → SpanItems (same_each ds) (same_places (length (doc_list ds))) t ds ds
same-items t ds =
    let n = length (doc_list ds) in
    of-links-at (pairs (same_each ds) ds) (same_places n) t (same_each ds) ds ds (same-bridges ds) (same-docs ds)
    (record {
      as_many = size-same n ∙ sym (same-pairs ds);
      apart = same-apart n;
      related = λ x y k. subst (λ i. AreRelated (Leads t) (slice_get (pairs (same_each ds) ds) x) (slice_get (doc_list ds) i))
          (let e = same-at 0 n x y k in let z : x ≡ y = omega arith in z) (same-related t ds x (same-within 0 n x y k));
    })

-- ---- two lists, and the bridge of both

shape-of-list : (x : Shape) (n : ℕ) → is_list_of x n ≡ true → x ≡ list_of n
shape-of-list (ListOf s) n h = let e : s.count ≡ n = grind (arith, nat_tests) in ap (λ k. list_of k) e
shape-of-list (KeyedOf ks) n h = absurd cc
shape-of-list (TreeOf d) n h = absurd cc

pub list-shape : (t : TyTree) (x : Shape) (ds : DocTrees) → has (ty_list t) (hold x ds) ≡ true → x ≡ list_of (length (doc_list ds))
list-shape t x ds h = shape-of-list x (length (doc_list ds)) (first (is_list_of x (length (doc_list ds))) (has_each t ds) h)

record HasItems (b : BridgeTree) (t : TyTree) (s : DocTree) (y : Shape) (es : DocTrees) : Type 0 where
  links : List Link
  size : ℕ
  inner : BridgeTrees
  near : Shape
  docs : DocTrees
  is : s ≡ hold near docs
  linked_is : linked_of b es ≡ linked links size inner
  typed : has_each t docs ≡ true
  spans : AreLinked links size near y docs es (SpanItems inner links t docs es)

has-items : (b : BridgeTree) (t : TyTree) (s : DocTree) (y : Shape) (es : DocTrees) → has (ty_list t) s ≡ true → has (ty_list t) (hold y es) ≡ true → Spans b (ty_list t) s (hold y es) → HasItems b t s y es
has-items same t s y es h k w =
    let n = length (doc_list es) in
    record {
      links = same_places n;
      size = n;
      inner = same_each es;
      near = y;
      docs = es;
      is = w;
      linked_is = refl;
      typed = second (is_list_of y n) (has_each t es) k;
      spans = record { near_is = list-shape t y es k; far_is = list-shape t y es k; far_size = refl; apart = same-apart n; items = same-items t es };
    }
has-items (linked ls m bs) t (hold x ds) y es h k w =
    record {
      links = ls;
      size = m;
      inner = bs;
      near = x;
      docs = ds;
      is = refl;
      linked_is = refl;
      typed = second (is_list_of x (length (doc_list ds))) (has_each t ds) h;
      spans = w;
    }
has-items other t s y es h k w = let e = w.kind_is in absurd cc
has-items lost t s y es h k w = let e = w.kind_is in absurd cc
has-items (cells rs) t (text s) y es h k w = absurd w
has-items (cells rs) t _ y es h k w = absurd w
has-items _ t _ y es h k w = absurd w

-- ---- an item of the far list

near-leads : (ls : List Link) (x y : ℕ) → near_place ls y ≡ Some x → far_at ls x ≡ Some y
near-leads ls x y h =
    let w = came-is 0 y x ls h in
    let o : x - 0 ≡ x = omega arith in
    subst (λ i. far_at ls i ≡ Some y) o w.back

leads-there : (l : Link) (y : ℕ) → place_of_link l ≡ Some y → leads_to y l ≡ true
leads-there (Stays k) y h = let e : k ≡ y = cc in grind (arith, nat_tests)
leads-there (Moved k) y h = let e : k ≡ y = cc in grind (arith, nat_tests)
leads-there Gone y h = absurd cc
leads-there Missed y h = absurd cc

placed-there : (n y : ℕ) (l : Link) → place_of_link l ≡ Some y → place_of_link (placed n l) ≡ None → ⊥
placed-there n y (Stays k) h e = cc
placed-there n y (Moved k) h e = cc
placed-there n y Gone h e = cc
placed-there n y Missed h e = cc

test-none : (t : Bool) (l m : Link) → place_of_link (if t then l else m) ≡ None → (place_of_link l ≡ None → ⊥) → (t ≡ true → ⊥) × (place_of_link m ≡ None)
test-none true l m h k = absurd (k h)
test-none false l m h k = (λ e. cc, h)

placed-none : (n y : ℕ) (l m : Link) → place_of_link (if leads_to y l then placed n l else m) ≡ None → place_of_link m ≡ None
placed-none n y (Stays k) m h = (test-none (nat_eq k y) (Stays n) m h (λ e. cc)).1
placed-none n y (Moved k) m h = (test-none (nat_eq k y) (Moved n) m h (λ e. cc)).1
placed-none n y Gone m h = h
placed-none n y Missed m h = h

came-none : (n y x : ℕ) (ls : List Link) → place_of_link (came n y ls) ≡ None → far_at ls x ≡ Some y → ⊥
came-none n y x [] h k = cc
came-none n y zero (l ∷ ls) h k =
    let t : leads_to y l ≡ true = leads-there l y k in
    placed-there n y l k (subst (λ (b : Bool). place_of_link (if b then placed n l else came (n + 1) y ls) ≡ None) t h)
came-none n y (suc x) (l ∷ ls) h k = came-none (n + 1) y x ls (placed-none n y l (came (n + 1) y ls) h) k

linked-within : (ls : List Link) (x y : ℕ) → far_at ls x ≡ Some y → x < length ls
linked-within [] x y h = absurd cc
linked-within (l ∷ ls) zero y h = omega arith
linked-within (l ∷ ls) (suc x) y h = let w = linked-within ls x y h in omega arith

-- the contents of linked items are spanned as the inner word says, and others are free
inner-items : (t : TyTree) (w : WordTree) → LeadsOn w → is_well_formed t ≡ true → (bs : BridgeTrees) (ls : List Link) (ds es : DocTrees) (y : ℕ) (u : DocTree) (o : Option ℕ) → near_place ls y ≡ o
    → has_each t ds ≡ true → has t (doc_at es y) ≡ true → AreApart ls → SpanItems bs ls t ds es → act t w (doc_at es y) ≡ Ok u
    → SpanItems (put_inner_at bs o (bridge t w (doc_at es y) (inner_at bs o))) ls t ds (put_at es y u)
inner-items t w k sound bs ls ds es y u None n each f a h e = free-item-set bs ls t ds es y u h a (λ x g. came-none 0 y x ls n g)
inner-items t w k sound bs ls ds es y u (Some x) n each f a h e =
    let g = near-leads ls x y n in
    let within = linked-within ls x y g in
    let many = links-as-many bs ls t ds es h in
    let near : has t (doc_at ds x) ≡ true = has_each-at t ds x unit (omega arith) each in
    far-item-set bs ls t ds es x y (bridge t w (doc_at es y) (bridge_at bs x)) u h a g (k t (bridge_at bs x) (doc_at ds x) (doc_at es y) u sound near f (item-spans bs ls t ds es x y h g) e)

item-linked : (ls : List Link) (m : ℕ) (x y : Shape) (ds es : DocTrees) (i : ℕ) (u : DocTree) (Items Made : Type 0) → AreLinked ls m x y ds es Items → Made → AreLinked ls m x y ds (put_at es i u) Made
item-linked ls m x y ds es i u Items Made h made =
    record { near_is = h.near_is; far_is = h.far_is; far_size = length-put_at es i u ∙ h.far_size; apart = h.apart; items = made }

item-bridge : (i : ℕ) (w : WordTree) (t : TyTree) (b : BridgeTree) (y : Shape) (es : DocTrees) (j m : ℕ) (ls : List Link) (bs : BridgeTrees) → place_of y (Index i) ≡ Some j → linked_of b es ≡ linked ls m bs
    → bridge_primitive (ty_list t) (modify (Index i) w) (hold y es) b ≡ linked ls m (put_inner_at bs (near_place ls j) (bridge t w (doc_at es j) (inner_at bs (near_place ls j))))
item-bridge i w t b y es j m ls bs p e =
    ap (λ (o : Option ℕ). for_found b o (λ k. bridge_item (linked_of b es) k (λ c. bridge t w (doc_at es k) c))) p
    ∙ ap (λ (c : BridgeTree). bridge_item c j (λ c. bridge t w (doc_at es j) c)) e

pub item-bridges : (i : ℕ) (w : WordTree) → LeadsOn w → (t : TyTree) (b : BridgeTree) (s : DocTree) (y : Shape) (es : DocTrees) (u : DocTree) → is_well_formed t ≡ true → has (ty_list t) s ≡ true → has (ty_list t) (hold y es) ≡ true
    → Spans b (ty_list t) s (hold y es) → act_primitive (ty_list t) (modify (Index i) w) (hold y es) ≡ Ok u → Spans (bridge_primitive (ty_list t) (modify (Index i) w) (hold y es) b) (ty_list t) s u
item-bridges i w k t b s y es u sound n f h e =
    let q = has-items b t s y es n f h in
    let p = present_ok (place_of y (Index i)) Place (λ j. map_ok (hold y) (put_result_at es j (act t w (doc_at es j)))) u e in
    let j = p.0 in
    let a = map_ok_ok (hold y) (put_result_at es j (act t w (doc_at es j))) u p.2 in
    let c = in_ok es j (act t w (doc_at es j)) a.0 a.1 in
    let far : has t (doc_at es j) ≡ true = (item-typed t y es (Index i) j (list-held t y es f) p.1).1 in
    let inside = inner-items t w k sound q.inner q.links q.docs es j c.0 (near_place q.links j) refl q.typed far q.spans.apart q.spans.items c.1 in
    let next = put_inner_at q.inner (near_place q.links j) (bridge t w (doc_at es j) (inner_at q.inner (near_place q.links j))) in
    let made : Spans (linked q.links q.size next) (ty_list t) (hold q.near q.docs) (hold y (put_at es j c.0)) =
    item-linked q.links q.size q.near y q.docs es j c.0 (SpanItems q.inner q.links t q.docs es) (SpanItems next q.links t q.docs (put_at es j c.0)) q.spans inside in
    let is : hold y (put_at es j c.0) ≡ u = ap (hold y) c.2 ∙ a.2 in
    subst (λ d. Spans (bridge_primitive (ty_list t) (modify (Index i) w) (hold y es) b) (ty_list t) d u) (sym q.is)
    (subst (λ d. Spans d (ty_list t) (hold q.near q.docs) u) (sym (item-bridge i w t b y es j q.size q.links q.inner p.1 q.linked_is))
    (subst (λ d. Spans (linked q.links q.size next) (ty_list t) (hold q.near q.docs) d) is made))

-- ---- an edit of the far list

pub reshaped-ok : (o : Planned) (ds : DocTrees) (f u : DocTree) → reshaped o ds f ≡ Ok u → (p : Shape × List Origin) × (o ≡ Ok p) × (hold p.0 (gathered p.1 ds f) ≡ u)
reshaped-ok (Ok p) ds f u h = (p, refl, cc)
reshaped-ok (Err cause) ds f u h = absurd cc

-- the plan is that of as many items as there are
led-spans : (t : TyTree) (e : ShapeEdit) (ls : List Link) (m : ℕ) (bs : BridgeTrees) (x y : Shape) (ds es : DocTrees) (f : DocTree) (p : Shape × List Origin) → length (doc_list es) ≡ m → plan_list m e ≡ Ok p
    → AreLinked ls m x y ds es (SpanItems bs ls t ds es) → Spans (linked (far_planned (edit_links m e) ls) (edit_size m e) bs) (ty_list t) (hold x ds) (hold p.0 (gathered p.1 es f))
led-spans t e ls m bs x y ds es f p size planned h =
    let plan_is : plan_list (length (doc_list es)) e ≡ Ok p = ap (λ n. plan_list n e) size ∙ planned in
    let g = plan-followed f e (doc_list es) p plan_is in
    let links = edit_links m e in
    let contents : map (content_at (doc_list es) f) p.1 ≡ Links.gathered links f (doc_list es) = subst (λ n. map (content_at (doc_list es) f) p.1 ≡ Links.gathered (edit_links n e) f (doc_list es)) size g.contents in
    let many : length links ≡ edit_size m e = subst (λ n. length (edit_links n e) ≡ edit_size n e) size g.size in
    let far = far-spans (Leads t) links ls f (pairs bs ds) (doc_list es) (as-links bs ls t ds es h.items h.apart) in
    let listed : doc_list (gathered p.1 es f) ≡ Links.gathered links f (doc_list es) = doc_list-docs_of (map (content_at (doc_list es) f) p.1) ∙ contents in
    record {
      near_is = h.near_is;
      far_is = g.shape ∙ ap (λ n. list_of (edit_size n e)) size;
      far_size = ap length listed ∙ (length-map links (Links.content_of (doc_list es) f) ∙ many);
      apart = far.apart;
      items = of-links-at (pairs bs ds) (far_planned links ls) t bs ds (gathered p.1 es f) (ap bridges_of (bridges-paired bs ls t ds es h.items) ∙ bridges-of-list bs)
          (ap docs_of (docs-paired bs ls t ds es h.items) ∙ docs_of-doc_list ds) (subst (λ ys. SpanLinks (Leads t) (far_planned links ls) (pairs bs ds) ys) (sym listed) far);
    }

pub shape-bridges : (e : ShapeEdit) (t : TyTree) (b : BridgeTree) (s : DocTree) (y : Shape) (es : DocTrees) (u : DocTree) → has (ty_list t) s ≡ true → has (ty_list t) (hold y es) ≡ true
    → Spans b (ty_list t) s (hold y es) → act_primitive (ty_list t) (shape e) (hold y es) ≡ Ok u → Spans (bridge_primitive (ty_list t) (shape e) (hold y es) b) (ty_list t) s u
shape-bridges e t b s y es u n f h g =
    let q = has-items b t s y es n f h in
    let r = reshaped-ok (plan y e) es (initial t) u g in
    let p = r.0 in
    let planned : plan_list q.size e ≡ Ok p = ap (λ z. plan z e) (sym q.spans.far_is) ∙ r.1 in
    let made = led-spans t e q.links q.size q.inner q.near y q.docs es (initial t) p q.spans.far_size planned q.spans in
    let is : bridge_primitive (ty_list t) (shape e) (hold y es) b ≡ linked (far_planned (edit_links q.size e) q.links) (edit_size q.size e) q.inner =
    ap (λ (c : BridgeTree). bridge_shape c e) q.linked_is ∙ ap (λ (o : Planned). links_after o e q.links q.size q.inner) planned in
    subst (λ d. Spans (bridge_primitive (ty_list t) (shape e) (hold y es) b) (ty_list t) d u) (sym q.is)
    (subst (λ d. Spans d (ty_list t) (hold q.near q.docs) u) (sym is)
    (subst (λ d. Spans (linked (far_planned (edit_links q.size e) q.links) (edit_size q.size e) q.inner) (ty_list t) (hold q.near q.docs) d) r.2 made))
