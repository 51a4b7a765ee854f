-- The items of two lists with links: each with its bridge, as contents of the near list.
use Rattle.std.proofs.Common.{◌≡◌, ℕ, zero, suc, ◌+◌, ◌<◌, Bool, true, false, List, [], ◌∷◌, length, map, set, get_or, Option, None, Some, refl, sym, ap, ◌∙◌, subst, arith}
use Rattle.std.specs.Prelude.{slice_get}
use Rattle.std.proofs.lemmas.List.{map-set}
use Rattle.doc_values.specs.Documents.{DocTree, unit, DocTrees, no_docs, more_docs, docs_of, doc_list}
use Rattle.doc_values.specs.Types.{TyTree}
use Rattle.doc_values.proofs.Lists.{docs_of-doc_list, doc_list-docs_of}
use Rattle.edit_module.specs.Action.{doc_at, put_at}
use Rattle.bridge_links.specs.declared.link.Link.{Link}
use Rattle.bridge_links.specs.Links.{place_of, far_at}
use Rattle.bridge_links.specs.Spans.{AreApart, AreRelated, Spans as SpanLinks}
use Rattle.bridge_lists.proofs.Edits.{change-spans}
use Rattle.bridge_core.specs.Bridges.{BridgeTree, same, BridgeTrees, no_bridges, more_bridges, bridges_of, bridge_list, bridge_at, put_bridge_at}
use Rattle.bridge_core.specs.Spans.{Spans, IsThere, AtItem, SpanItems}
use Rattle.bridge_core.proofs.BridgeLists.{bridges-of-list, list-of-bridges}

-- an item of the near list, with its bridge, and an item of the far list
abbrev pub Leads : TyTree → BridgeTree × DocTree → DocTree → Type 0
Leads t x e = Spans x.0 t x.1 e

abbrev pub pairs : BridgeTrees → DocTrees → List (BridgeTree × DocTree)
pairs (more_bridges b bs) (more_docs d ds) = (b, d) ∷ pairs bs ds
pairs _ _ = []

abbrev pub bridges_in : List (BridgeTree × DocTree) → List BridgeTree
bridges_in xs = map (λ (x : BridgeTree × DocTree). x.0) xs

abbrev pub docs_in : List (BridgeTree × DocTree) → List DocTree
docs_in xs = map (λ (x : BridgeTree × DocTree). x.1) xs

-- ---- as many bridges, links and items

pub bridges-paired : (bs : BridgeTrees) (ls : List Link) (t : TyTree) (ds es : DocTrees) → SpanItems bs ls t ds es → bridges_in (pairs bs ds) ≡ bridge_list bs
bridges-paired no_bridges [] t no_docs es h = refl
bridges-paired (more_bridges b bs) (l ∷ ls) t (more_docs d ds) es h = ap (λ cs. b ∷ cs) (bridges-paired bs ls t ds es h.1)
bridges-paired _ _ t _ es h = absurd h

pub docs-paired : (bs : BridgeTrees) (ls : List Link) (t : TyTree) (ds es : DocTrees) → SpanItems bs ls t ds es → docs_in (pairs bs ds) ≡ doc_list ds
docs-paired no_bridges [] t no_docs es h = refl
docs-paired (more_bridges b bs) (l ∷ ls) t (more_docs d ds) es h = ap (λ cs. d ∷ cs) (docs-paired bs ls t ds es h.1)
docs-paired _ _ t _ es h = absurd h

pub links-as-many : (bs : BridgeTrees) (ls : List Link) (t : TyTree) (ds es : DocTrees) → SpanItems bs ls t ds es → length ls ≡ length (doc_list ds)
links-as-many no_bridges [] t no_docs es h = refl
links-as-many (more_bridges b bs) (l ∷ ls) t (more_docs d ds) es h = ap suc (links-as-many bs ls t ds es h.1)
links-as-many _ _ t _ es h = absurd h

pub pairs-as-many : (bs : BridgeTrees) (ls : List Link) (t : TyTree) (ds es : DocTrees) → SpanItems bs ls t ds es → length ls ≡ length (pairs bs ds)
pairs-as-many no_bridges [] t no_docs es h = refl
pairs-as-many (more_bridges b bs) (l ∷ ls) t (more_docs d ds) es h = ap suc (pairs-as-many bs ls t ds es h.1)
pairs-as-many _ _ t _ es h = absurd h

-- ---- as links

there-related : (t : TyTree) (b : BridgeTree) (d : DocTree) (o : Option DocTree) → IsThere o (λ e. Spans b t d e) → AreRelated (Leads t) (Some (b, d)) o
there-related t b d None h = absurd h
there-related t b d (Some e) h = h

related-there : (t : TyTree) (x : BridgeTree × DocTree) (o : Option DocTree) → AreRelated (Leads t) (Some x) o → IsThere o (λ e. Spans x.0 t x.1 e)
related-there t x None h = absurd h
related-there t x (Some e) h = h

items-related : (bs : BridgeTrees) (ls : List Link) (t : TyTree) (ds es : DocTrees) → SpanItems bs ls t ds es → (x y : ℕ) → far_at ls x ≡ Some y → AreRelated (Leads t) (slice_get (pairs bs ds) x) (slice_get (doc_list es) y)
items-related no_bridges [] t no_docs es h x y k = absurd cc
items-related (more_bridges b bs) (l ∷ ls) t (more_docs d ds) es h zero y k =
    there-related t b d (slice_get (doc_list es) y) (subst (λ o. AtItem o es (λ e. Spans b t d e)) k h.0)
items-related (more_bridges b bs) (l ∷ ls) t (more_docs d ds) es h (suc x) y k = items-related bs ls t ds es h.1 x y k
items-related _ _ t _ es h x y k = absurd h

pub as-links : (bs : BridgeTrees) (ls : List Link) (t : TyTree) (ds es : DocTrees) → SpanItems bs ls t ds es → AreApart ls → SpanLinks (Leads t) ls (pairs bs ds) (doc_list es)
as-links bs ls t ds es h a = record { as_many = pairs-as-many bs ls t ds es h; apart = a; related = items-related bs ls t ds es h }

related-items : (xs : List (BridgeTree × DocTree)) (ls : List Link) (t : TyTree) (es : DocTrees) → length ls ≡ length xs
    → ((x y : ℕ) → far_at ls x ≡ Some y → AreRelated (Leads t) (slice_get xs x) (slice_get (doc_list es) y)) → SpanItems (bridges_of (bridges_in xs)) ls t (docs_of (docs_in xs)) es
related-items [] [] t es n h = tt
related-items [] (l ∷ ls) t es n h = absurd (omega arith)
related-items (x ∷ xs) [] t es n h = absurd (omega arith)
related-items (x ∷ xs) (l ∷ ls) t es n h = (of-link (place_of l) refl, related-items xs ls t es (omega arith) (λ i y k. h (suc i) y k))
  where
    of-link : (o : Option ℕ) → place_of l ≡ o → AtItem o es (λ e. Spans x.0 t x.1 e)
    of-link None k = tt
    of-link (Some y) k = related-there t x (slice_get (doc_list es) y) (h 0 y k)

pub of-links : (xs : List (BridgeTree × DocTree)) (ls : List Link) (t : TyTree) (es : List DocTree) → SpanLinks (Leads t) ls xs es → SpanItems (bridges_of (bridges_in xs)) ls t (docs_of (docs_in xs)) (docs_of es)
of-links xs ls t es h =
    related-items xs ls t (docs_of es) h.as_many (subst (λ (ys : List DocTree). (x y : ℕ) → far_at ls x ≡ Some y → AreRelated (Leads t) (slice_get xs x) (slice_get ys y)) (sym (doc_list-docs_of es)) h.related)

-- the same, of bridges and items that are listed
pub of-links-at : (xs : List (BridgeTree × DocTree)) (ls : List Link) (t : TyTree) (bs : BridgeTrees) (ds es : DocTrees) → bridges_of (bridges_in xs) ≡ bs → docs_of (docs_in xs) ≡ ds → SpanLinks (Leads t) ls xs (doc_list es)
    → SpanItems bs ls t ds es
of-links-at xs ls t bs ds es b d h =
    subst (λ cs. SpanItems cs ls t ds es) b
    (subst (λ cs. SpanItems (bridges_of (bridges_in xs)) ls t cs es) d
    (subst (λ cs. SpanItems (bridges_of (bridges_in xs)) ls t (docs_of (docs_in xs)) cs) (docs_of-doc_list es) (of-links xs ls t (doc_list es) h)))

-- ---- one item

there-at : (es : List DocTree) (y : ℕ) (P : DocTree → Type 0) → IsThere (slice_get es y) P → P (get_or es y unit)
there-at [] y P h = absurd h
there-at (e ∷ es) zero P h = h
there-at (e ∷ es) (suc y) P h = there-at es y P h

pub item-spans : (bs : BridgeTrees) (ls : List Link) (t : TyTree) (ds es : DocTrees) (x y : ℕ) → SpanItems bs ls t ds es → far_at ls x ≡ Some y → Spans (bridge_at bs x) t (doc_at ds x) (doc_at es y)
item-spans no_bridges [] t no_docs es x y h k = absurd cc
item-spans (more_bridges b bs) (l ∷ ls) t (more_docs d ds) es zero y h k =
    there-at (doc_list es) y (λ e. Spans b t d e) (subst (λ o. AtItem o es (λ e. Spans b t d e)) k h.0)
item-spans (more_bridges b bs) (l ∷ ls) t (more_docs d ds) es (suc x) y h k = item-spans bs ls t ds es x y h.1 k
item-spans _ _ t _ es x y h k = absurd h

-- another item at linked places of both lists, with its bridge
pub item-set : (bs : BridgeTrees) (ls : List Link) (t : TyTree) (ds es : DocTrees) (x y : ℕ) (c : BridgeTree) (d e : DocTree) → SpanItems bs ls t ds es → AreApart ls → far_at ls x ≡ Some y → Spans c t d e
    → SpanItems (put_bridge_at bs x c) ls t (put_at ds x d) (put_at es y e)
item-set bs ls t ds es x y c d e h a k w =
    let made : SpanItems (bridges_of (bridges_in (set (pairs bs ds) x (c, d)))) ls t (docs_of (docs_in (set (pairs bs ds) x (c, d)))) (put_at es y e) =
    of-links (set (pairs bs ds) x (c, d)) ls t (set (doc_list es) y e) (change-spans (Leads t) x y (c, d) e ls (pairs bs ds) (doc_list es) (as-links bs ls t ds es h a) k w) in
    let b : bridges_of (bridges_in (set (pairs bs ds) x (c, d))) ≡ put_bridge_at bs x c =
    ap bridges_of (map-set (λ (z : BridgeTree × DocTree). z.0) (pairs bs ds) x (c, d) ∙ ap (λ (cs : List BridgeTree). set cs x c) (bridges-paired bs ls t ds es h)) in
    let s : docs_of (docs_in (set (pairs bs ds) x (c, d))) ≡ put_at ds x d =
    ap docs_of (map-set (λ (z : BridgeTree × DocTree). z.1) (pairs bs ds) x (c, d) ∙ ap (λ (cs : List DocTree). set cs x d) (docs-paired bs ls t ds es h)) in
    subst (λ cs. SpanItems cs ls t (put_at ds x d) (put_at es y e)) b
    (subst (λ cs. SpanItems (bridges_of (bridges_in (set (pairs bs ds) x (c, d)))) ls t cs (put_at es y e)) s made)

set-itself : (ds : List DocTree) (x : ℕ) → set ds x (get_or ds x unit) ≡ ds
set-itself [] x = refl
set-itself (d ∷ ds) zero = refl
set-itself (d ∷ ds) (suc x) = ap (λ es. d ∷ es) (set-itself ds x)

put-itself : (ds : DocTrees) (x : ℕ) → put_at ds x (doc_at ds x) ≡ ds
put-itself ds x = ap docs_of (set-itself (doc_list ds) x) ∙ docs_of-doc_list ds

-- another item at a linked place of the far list
pub far-item-set : (bs : BridgeTrees) (ls : List Link) (t : TyTree) (ds es : DocTrees) (x y : ℕ) (c : BridgeTree) (e : DocTree) → SpanItems bs ls t ds es → AreApart ls → far_at ls x ≡ Some y → Spans c t (doc_at ds x) e
    → SpanItems (put_bridge_at bs x c) ls t ds (put_at es y e)
far-item-set bs ls t ds es x y c e h a k w =
    subst (λ cs. SpanItems (put_bridge_at bs x c) ls t cs (put_at es y e)) (put-itself ds x) (item-set bs ls t ds es x y c (doc_at ds x) e h a k w)

-- another item at a place of the far list to which no link leads
set-elsewhere : (es : List DocTree) (y v : ℕ) (e : DocTree) → (y ≡ v → ⊥) → slice_get (set es y e) v ≡ slice_get es v
set-elsewhere [] y v e h = refl
set-elsewhere (d ∷ es) zero zero e h = absurd (h refl)
set-elsewhere (d ∷ es) zero (suc v) e h = refl
set-elsewhere (d ∷ es) (suc y) zero e h = refl
set-elsewhere (d ∷ es) (suc y) (suc v) e h = set-elsewhere es y v e (λ k. h (ap suc k))

pub free-item-set : (bs : BridgeTrees) (ls : List Link) (t : TyTree) (ds es : DocTrees) (y : ℕ) (e : DocTree) → SpanItems bs ls t ds es → AreApart ls → ((x : ℕ) → far_at ls x ≡ Some y → ⊥) → SpanItems bs ls t ds (put_at es y e)
free-item-set bs ls t ds es y e h a free =
    let was = as-links bs ls t ds es h a in
    let now : SpanLinks (Leads t) ls (pairs bs ds) (set (doc_list es) y e) =
    record {
      as_many = was.as_many;
      apart = a;
      related = λ x v k. subst (λ o. AreRelated (Leads t) (slice_get (pairs bs ds) x) o)
          (sym (set-elsewhere (doc_list es) y v e (λ q. free x (k ∙ ap Some (sym q))))) (was.related x v k);
    } in
    let made = of-links (pairs bs ds) ls t (set (doc_list es) y e) now in
    subst (λ cs. SpanItems cs ls t ds (put_at es y e)) (ap bridges_of (bridges-paired bs ls t ds es h) ∙ bridges-of-list bs)
    (subst (λ cs. SpanItems (bridges_of (bridges_in (pairs bs ds))) ls t cs (put_at es y e)) (ap docs_of (docs-paired bs ls t ds es h) ∙ docs_of-doc_list ds) made)
