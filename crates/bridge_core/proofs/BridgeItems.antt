-- The bridges of fields, as the code holds them.
use Rattle.std.proofs.Common.{◌≡◌, ℕ, zero, suc, ◌+◌, ◌<◌, ◌≤◌, List, [], ◌∷◌, ◌++◌, length, map, set, get_or, replicate, refl, sym, ap, ◌∙◌, arith, rules}
use Rattle.std.proofs.lemmas.List.{map-set, map-append, replicate_more}
use Rattle.doc_values.specs.Documents.{DocTrees, no_docs, more_docs, doc_list}
use Rattle.bridge_core.specs.declared.bridge.Bridge.{Bridge, the_lemmas as bridge_lemmas}
use Rattle.bridge_core.specs.declared.bridge.Bridge.TheVariants.{Same}
use Rattle.bridge_core.specs.declared.bridge.Bridges.{Bridges, out-Bridges, the_lemmas as bridges_lemmas}
use Rattle.bridge_core.specs.Bridges.{BridgeTree, same, BridgeTrees, more_bridges, bridges_of, bridge_list, bridge_at, put_bridge_at, bridges_after, same_each, bridge_tree, bridges_tree}
use Rattle.hold_shapes.specs.declared.origins.Origin.{Origin}
use Rattle.hold_shapes.specs.Gather.{content_at}
use Rattle.bridge_core.proofs.BridgeLists.{list-of-bridges}

pub bridges_tree-out : (bs : Bridges) → bridges_tree bs ≡ bridges_of (map bridge_tree (out-Bridges bs).items.items)
bridges_tree-out bs = search (rules, bridges_lemmas)

at-list : (bs : List Bridge) (i : ℕ) (b : Bridge) → i < length bs → get_or (map bridge_tree bs) i same ≡ bridge_tree (get_or bs i b)
at-list [] i b h = absurd (omega arith)
at-list (c ∷ bs) zero b h = refl
at-list (c ∷ bs) (suc i) b h = at-list bs i b (omega arith)

past-list : (bs : List Bridge) (i : ℕ) → length bs ≤ i → get_or (map bridge_tree bs) i same ≡ same
past-list [] i h = refl
past-list (c ∷ bs) zero h = absurd (omega arith)
past-list (c ∷ bs) (suc i) h = past-list bs i (omega arith)

-- the bridge at a place that is one, and at another
pub at-place : (bs : List Bridge) (i : ℕ) (b : Bridge) → i < length bs → b ≡ get_or bs i b → bridge_tree b ≡ bridge_at (bridges_of (map bridge_tree bs)) i
at-place bs i b h is = ap bridge_tree is ∙ (sym (at-list bs i b h) ∙ ap (λ (cs : List BridgeTree). get_or cs i same) (sym (list-of-bridges (map bridge_tree bs))))

pub past-place : (bs : List Bridge) (i : ℕ) → length bs ≤ i → same ≡ bridge_at (bridges_of (map bridge_tree bs)) i
past-place bs i h = sym (ap (λ (cs : List BridgeTree). get_or cs i same) (list-of-bridges (map bridge_tree bs)) ∙ past-list bs i h)

-- another bridge at a place that is one, and at another
pub with-place : (bs : List Bridge) (i : ℕ) (b : Bridge) → bridges_of (map bridge_tree (set bs i b)) ≡ put_bridge_at (bridges_of (map bridge_tree bs)) i (bridge_tree b)
with-place bs i b = ap bridges_of (map-set bridge_tree bs i b ∙ ap (λ (cs : List BridgeTree). set cs i (bridge_tree b)) (sym (list-of-bridges (map bridge_tree bs))))

set-past : {A : Type 0} (xs : List A) (i : ℕ) (x : A) → length xs ≤ i → set xs i x ≡ xs
set-past [] i x h = refl
set-past (y ∷ xs) zero x h = absurd (omega arith)
set-past (y ∷ xs) (suc i) x h = ap (λ ys. y ∷ ys) (set-past xs i x (omega arith))

pub without-place : (bs : List Bridge) (i : ℕ) (b : Bridge) → length bs ≤ i → bridges_of (map bridge_tree bs) ≡ put_bridge_at (bridges_of (map bridge_tree bs)) i (bridge_tree b)
without-place bs i b h = ap (λ (cs : List Bridge). bridges_of (map bridge_tree cs)) (sym (set-past bs i b h)) ∙ with-place bs i b

pub ruleset place_rules = (bridges_tree-out, with-place, without-place)

-- ---- for each document the bridge to itself

pub bridge_tree-Same : bridge_tree Same ≡ same
bridge_tree-Same = search (rules, bridge_lemmas)

pub same-more : (bs cs : List Bridge) (n : ℕ) → map bridge_tree bs ≡ replicate n same → cs ≡ bs ++ Same ∷ [] → map bridge_tree cs ≡ replicate (n + 1) same
same-more bs cs n h made =
    ap (map bridge_tree) made
    ∙ (map-append bridge_tree bs (Same ∷ [])
    ∙ (ap (λ (x : BridgeTree). map bridge_tree bs ++ x ∷ []) bridge_tree-Same
    ∙ (ap (λ (l : List BridgeTree). l ++ same ∷ []) h ∙ replicate_more n same)))

same-all : (ds : DocTrees) → bridges_of (replicate (length (doc_list ds)) same) ≡ same_each ds
same-all no_docs = refl
same-all (more_docs d ds) = ap (more_bridges same) (same-all ds)

pub same-done : (bs : List Bridge) (n : ℕ) (ds : DocTrees) → map bridge_tree bs ≡ replicate n same → n ≡ length (doc_list ds) → bridges_of (map bridge_tree bs) ≡ same_each ds
same-done bs n ds h all = ap bridges_of (h ∙ ap (λ (k : ℕ). replicate k same) all) ∙ same-all ds

pub ruleset same_rules = (bridges_tree-out, same-more, same-done)

-- ---- after a plan of a near list

same-origins : (ys : List Origin) → map (λ (o : Origin). o) ys ≡ ys
same-origins [] = refl
same-origins (y ∷ ys) = ap (λ zs. y ∷ zs) (same-origins ys)

pub after-all : (bs : BridgeTrees) (items : List Bridge) (ys from : List Origin) → map (λ (o : Origin). o) ys ≡ from → map bridge_tree items ≡ map (content_at (bridge_list bs) same) ys
    → bridges_of (map bridge_tree items) ≡ bridges_after from bs
after-all bs items ys from e h = ap bridges_of (h ∙ ap (map (content_at (bridge_list bs) same)) (sym (same-origins ys) ∙ e))
