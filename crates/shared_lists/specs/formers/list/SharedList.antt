-- `SharedList` as a type that may hold the type that holds it: how it stores its items.
--
-- Read by the checker, and not by clauses. From the bottom up: the owner of a value, a node of the tree, the
-- tree, the root behind its pointer, the list. Each section says how the value splits into a shape and the items
-- in it, and that rows of two item types that are alike make rows that are alike.
use mathlib.Core.Path.{◌≡◌, refl, sym, ap, ◌∙◌}
use mathlib.Core.HLevel.{×_prop}
use mathlib.Core.Logic.{◌⊎◌, inl, inr}
use mathlib.Core.List.{List, [], ◌∷◌, ◌++◌, map}
use mathlib.Core.Former.{Former, Row, Count, none_left, one_more, this, const, pair, or, list, via, children}
use Prim.Native.Nat.{ℕ, zero, suc, ◌+◌}
use native.Mathlib.Nat.{ℕ_set}
use native.Mathlib.Bridge.{le_prop}
use native.Mathlib.Omega.{arith}
use lib.ListN.{length, length-map}
use mir.Raw.{raw as bare}
use base.Fml.{fsep, ftrue}
use base.Fraction.{full_share}
use base.Stored.{code_map, gnil}
use denote.Hole.{pointed, coding}
use denote.Hole.Carrier.{listed, list-listed}
use denote.Hole.Fix.{over}
use denote.HoleLaws.{Alike}
use denote.HolePlaces.{Recodes, Mapss, eachs, struct_places, enum_places, laid, one_value}
use denote.Memory.{part_of, lone}
use denote.Model.Knot.{stage}
use denote.Model.Local.{Parts, rows}
use denote.Model.Placed.{Held, held, view_places}
use denote.Param.Weighed.{Weighed, w_list}
use denote.RattleType.{RattleType}
use denote.RawPtr.{Ptr}
use denote.Sharing.{nothing, beside}
use denote.Struct.Owning.{shape, to}
use denote.Struct.Struct.{Struct}
use Rattle.std.specs.contracts.alloc.Global as heap
use Rattle.std.specs.contracts.impls.GlobalAllocator.TheImpl.{ghosts}
use Rattle.std.specs.contracts.option.Option as option
use Rattle.std.specs.contracts.rc.Rc as rc
use Rattle.std.specs.declared.alloc.Global.{Global}
use Rattle.std.specs.declared.option.Option.{Option}
use Rattle.std.specs.declared.option.Option.TheVariants.{None, Some}
use Rattle.std.specs.declared.rc.Rc.{Rc}
use Rattle.std.specs.formers.vec.Vec as vec
use Rattle.std_alloc.specs.Vec.Recursive.{lies_placed, lent_at_placed}
use Rattle.shared_lists.specs.Items.{items_of}
use Rattle.shared_lists.specs.RootMemory.{owner_row}
use Rattle.shared_lists.specs.contracts.list.SharedList as C
use Rattle.shared_lists.specs.contracts.list.SharedList.TheInside as I
use Rattle.shared_lists.specs.contracts.root.Root as root
use Rattle.shared_lists.specs.contracts.tree.Tree as tree
use Rattle.shared_lists.specs.contracts.tree.Tree.TheKnot as K
use Rattle.shared_lists.specs.declared.list.SharedList.TheInside.{Inside}
use Rattle.shared_lists.specs.declared.list.SharedList.TheView.{view, invariant}
use Rattle.shared_lists.specs.declared.root.Root.{Root}
use Rattle.shared_lists.specs.declared.tree.Node.{Node}
use Rattle.shared_lists.specs.declared.tree.Node.TheVariants.{Chunk, Join}
use Rattle.shared_lists.specs.declared.tree.Tree.TheDeep.{member-Tree}
use Rattle.shared_lists.specs.declared.tree.Tree.TheInside as TI
use Rattle.shared_lists.specs.declared.tree.Tree.TheView as TV

-- ---- what the checker asks for, but the places, which end the file

abbrev pub the_former : Former {0} → Former {0}
the_former g = list g

abbrev pub the_weighed : {g : Former {0}} → Weighed g → Weighed (the_former g)
the_weighed w = w_list w

pub the_empty : List ⊥
the_empty = []

abbrev pub the_items : (X : Type 0) → List X → List X
the_items X items = items

pub the_items_listed : (X : Type 0) (items : List X) → listed _ (children (the_former this) X items) ≡ the_items X items
the_items_listed X items = list-listed X items

-- ---- the owner of a value

abbrev owner : Former {0} → Former {0}
owner g = via (pair (const Ptr) g) (λ X. Rc (g.Of X) Global) (λ X r. (r.ptr, r.value))
    (λ X v. record { ptr = v.0; value = v.1 }) (λ X r. refl) (λ X v. refl)

abbrev over_owner : {X Y : Type 0} → (X → Y) → Rc X Global → Rc Y Global
over_owner h r = record { ptr = r.ptr; value = h r.value }

abbrev owners_of : RattleType → RattleType
owners_of R = rc.the_row R heap.the_row ghosts

module _ (R S : RattleType) (h : R.Denot → S.Denot) where
  owner_places : Alike R S h → Alike (owners_of R) (owners_of S) (over_owner h)
  unfolding part_of
  owner_places a = record {
    mir_same = λ i. (owners_of (one_value R (a.mir_same i) (λ _. ftrue) (λ _ _. nothing) gnil)).mir;
    own_same = λ r i.
        (owners_of (one_value R (a.mir_same i) (a.own_same r.value i) (a.shr_same r.value i) gnil)).own_val
        (record { ptr = r.ptr; value = tt });
    shr_same = λ r i. (owners_of (one_value R (a.mir_same i) (a.own_same r.value i) (a.shr_same r.value i) gnil)).shr_at
        (record { ptr = r.ptr; value = tt });
  }

-- ---- a node of the tree

abbrev chunks : Former {0}
chunks = vec.the_former (owner this) Global

module _ (X : Type 0) where
  abbrev Sides : Type 0
  Sides = chunks.Of X ⊎ (Rc (List X) Global × (Rc (List X) Global × (ℕ × (ℕ × (ℕ × ℕ)))))

  abbrev sides : Node X → Sides
  sides (Chunk items) = inl items
  sides (Join left right middle len height hint) = inr (left, (right, (middle, (len, (height, hint)))))

  abbrev node_of : Sides → Node X
  node_of (inl items) = Chunk items
  node_of (inr v) = Join v.0 v.1.0 v.1.1.0 v.1.1.1.0 v.1.1.1.1.0 v.1.1.1.1.1

  node_of-sides : (n : Node X) → node_of (sides n) ≡ n
  node_of-sides (Chunk items) = refl
  node_of-sides (Join left right middle len height hint) = refl

  sides-node_of : (v : Sides) → sides (node_of v) ≡ v
  sides-node_of (inl items) = refl
  sides-node_of (inr v) = refl

abbrev nodes : Former {0}
nodes = via (or chunks (pair (owner (list this)) (pair (owner (list this)) (const (ℕ × (ℕ × (ℕ × ℕ))))))) Node sides
    node_of node_of-sides sides-node_of

abbrev insides : Former {0}
insides = via nodes TI.Inside (λ X a. a.node) (λ X n. record { node = n }) (λ X a. refl) (λ X n. refl)

-- the view of a node shows each item of its fields, in their order
module _ (X : Type 0) where
  held-append : (l r : List X) (n : Count) (t : Row X n)
      → ◌≡◌ {A = Held X} ((list this).count ((list this).shape X (l ++ r)) n, (list this).put X (l ++ r) n t) (
        (list this).count ((list this).shape X l) ((list this).count ((list this).shape X r) n),
        (list this).put X l _ ((list this).put X r n t),
      )
  held-append [] r n t = refl
  held-append (x ∷ l) r n t = ap {B = Held X} (λ (u : Held X). (one_more u.0, (x, u.1))) (held-append l r n t)

  held-items_of : (owners : List (Rc X Global)) (n : Count) (t : Row X n)
      → ◌≡◌ {A = Held X} (
        (list this).count ((list this).shape X (items_of owners)) n,
        (list this).put X (items_of owners) n t,
      )
      ((list (owner this)).count ((list (owner this)).shape X owners) n, (list (owner this)).put X owners n t)
  held-items_of [] n t = refl
  held-items_of (r ∷ owners) n t =
      ap {B = Held X} (λ (u : Held X). (one_more u.0, (r.value, u.1))) (held-items_of owners n t)

  view_keeps : (n : Node X) → held (list this) X (TV.view X (record { node = n }))
      ≡ held insides X (record { node = n })
  view_keeps (Chunk items) = held-items_of items.items none_left tt
  view_keeps (Join left right middle len height hint) = held-append left.value right.value none_left tt

module _ {X Y : Type 0} (h : X → Y) where
  map-append : (l r : List X) → map h l ++ map h r ≡ map h (l ++ r)
  map-append [] r = refl
  map-append (x ∷ l) r = ap (λ ys. h x ∷ ys) (map-append l r)

  items_of-over : (owners : List (Rc X Global)) → items_of (map (over_owner h) owners) ≡ map h (items_of owners)
  items_of-over [] = refl
  items_of-over (r ∷ owners) = ap (λ ys. h r.value ∷ ys) (items_of-over owners)

  view_natural : (n : Node X) → TV.view Y (insides.map X Y h (record { node = n }))
      ≡ map h (TV.view X (record { node = n }))
  view_natural (Chunk items) = items_of-over items.items
  view_natural (Join left right middle len height hint) = map-append left.value right.value

-- the invariant of a node is a fact, and does not turn on what the items are
abbrev Sound : {X : Type 0} → Node X → Type 0
Sound {X} n = TV.invariant X (record { node = n })

Sound-prop : {X : Type 0} (n : Node X) → IsProp (Sound n)
Sound-prop (Chunk items) = λ p q. le_prop p q
Sound-prop (Join left right middle len height hint) =
    ×_prop (λ p q. ℕ_set _ _ p q) (×_prop (λ p q. ℕ_set _ _ p q) (×_prop (λ p q. le_prop p q) (λ p q. le_prop p q)))

module _ {X Y : Type 0} (h : X → Y) where
  length-sides : (l r : List X) → length (map h l ++ map h r) ≡ length (l ++ r)
  length-sides l r = ap length (map-append h l r) ∙ length-map (l ++ r) h

  Sound-to : (n : Node X) → Sound n → Sound (nodes.map X Y h n)
  Sound-to (Chunk items) s = omega (arith, s, length-map items.items (over_owner h))
  Sound-to (Join left right middle len height hint) s = (
    s.0 ∙ sym (length-map left.value h),
    (
      s.1.0 ∙ sym (length-sides left.value right.value),
      (omega (arith, s.1.1.0, length-map left.value h), omega (arith, s.1.1.1, length-map right.value h)),
    ),
  )

  Sound-from : (n : Node X) → Sound (nodes.map X Y h n) → Sound n
  Sound-from (Chunk items) s = omega (arith, s, length-map items.items (over_owner h))
  Sound-from (Join left right middle len height hint) s = (
    s.0 ∙ length-map left.value h,
    (
      s.1.0 ∙ length-sides left.value right.value,
      (omega (arith, s.1.1.0, length-map left.value h), omega (arith, s.1.1.1, length-map right.value h)),
    ),
  )

-- ---- the tree, whose rows are made in stages

module _ (R S : RattleType) (h : R.Denot → S.Denot) (a : Alike R S h) where
  -- a node over two rows of trees that are alike
  module _ (A B : RattleType) (g : A.Denot → B.Denot) (b : Alike A B g) where
    abbrev maps : Mapss (K.type-Node R A A).parts (K.type-Node S B B).parts
    maps = (
      (vec.mapped (over_owner h), tt),
      ((over_owner g, (over_owner g, ((λ n. n), ((λ n. n), ((λ n. n), ((λ n. n), tt)))))), tt),
    )

    abbrev mapped : (K.type-Node R A A).D → (K.type-Node S B B).D
    mapped = eachs (K.type-Node R A A).parts (K.type-Node S B B).parts maps

    variants : Alike (K.layer-Node R A A) (K.layer-Node S B B) mapped
    variants = enum_places (K.type-Node R A A) (K.type-Node S B B) maps mapped (λ d. refl) refl (
      (
        laid _ _ _ (vec.the_places heap.the_row ghosts (owners_of R) (owners_of S) (over_owner h)
            (owner_places R S h a)),
        tt,
      ),
      (
        (
          laid _ _ _ (owner_places A B g b),
          (
            laid _ _ _ (owner_places A B g b),
            (
              (refl, (λ n. refl, λ n. refl)),
              ((refl, (λ n. refl, λ n. refl)), ((refl, (λ n. refl, λ n. refl)), ((refl, (λ n. refl, λ n. refl)), tt))),
            ),
          ),
        ),
        tt,
      ),
    )

  -- what the trees own at one stage
  module _ (p : Parts (K.frame R)) (q : Parts (K.frame S))
      (b : Alike (rows (K.frame R) p member-Tree) (rows (K.frame S) q member-Tree) (map h)) where
    abbrev A : RattleType
    A = rows (K.frame R) p member-Tree

    abbrev B : RattleType
    B = rows (K.frame S) q member-Tree

    variants_at : Alike (K.layer-Node R A A) (K.layer-Node S B B) (mapped A B (map h) b)
    variants_at = variants A B (map h) b

    node_own : (n : Node R.Denot) → (K.at-Node S q).own_val (nodes.map R.Denot S.Denot h n) ≡ (K.at-Node R p).own_val n
    node_own (Chunk items) = variants_at.own_same (inl (items, tt))
    node_own (Join left right middle len height hint) =
        variants_at.own_same (inr (inl (left, (right, (middle, (len, (height, (hint, tt))))))))

    node_shr : (n : Node R.Denot) → (K.at-Node S q).shr_at (nodes.map R.Denot S.Denot h n) ≡ (K.at-Node R p).shr_at n
    node_shr (Chunk items) = variants_at.shr_same (inl (items, tt))
    node_shr (Join left right middle len height hint) =
        variants_at.shr_same (inr (inl (left, (right, (middle, (len, (height, (hint, tt))))))))

    node_places : Alike (K.at-Node R p) (K.at-Node S q) (nodes.map R.Denot S.Denot h)
    node_places = record { mir_same = variants_at.mir_same; own_same = node_own; shr_same = node_shr }

    layer_places : Alike (K.layer-Tree R (K.at-Node R p)) (K.layer-Tree S (K.at-Node S q))
        (λ v. (nodes.map R.Denot S.Denot h v.0, tt))
    layer_places =
        struct_places (K.type-Tree R (K.at-Node R p)) (K.type-Tree S (K.at-Node S q)) (nodes.map R.Denot S.Denot h, tt)
        (λ v. (nodes.map R.Denot S.Denot h v.0, tt)) (λ d. refl) refl (laid _ _ _ node_places, tt)

    inside_places : Alike (K.at-Tree R p) (K.at-Tree S q) (insides.map R.Denot S.Denot h)
    inside_places = record {
      mir_same = layer_places.mir_same;
      own_same = λ d. layer_places.own_same (d.node, tt);
      shr_same = λ d. layer_places.shr_same (d.node, tt);
    }

    view_alike : Alike (K.view-Tree R p) (K.view-Tree S q) (map h)
    view_alike =
        view_places insides (list this) TV.view (λ X Y k u. view_natural k u.node) (λ X u. view_keeps X u.node) R.Denot
        S.Denot h
        (tree.the_row R).coded (tree.the_row S).coded (TV.invariant R.Denot) (TV.invariant S.Denot)
        (λ u. Sound-prop u.node) (λ u. Sound-prop u.node)
        (λ u. Sound-to h u.node) (λ u. Sound-from h u.node) (over (K.at-Tree R p)) (over (K.at-Tree S q)) inside_places

  -- the layout of a tree does not turn on what its sides hold
  ends : Alike (pointed (K.written-Tree R)) (pointed (K.written-Tree S)) (λ g. g)
  ends = record { mir_same = refl; own_same = λ g. refl; shr_same = λ g. refl }

  node_mir : K.mir-Node S ≡ K.mir-Node R
  node_mir = ap lone (variants (pointed (K.written-Tree R)) (pointed (K.written-Tree S)) (λ g. g) ends).mir_same

  node_codings : Alike (coding (K.written-Node R) (K.mir-Node R)) (coding (K.written-Node S) (K.mir-Node S)) (λ g. g)
  node_codings = record { mir_same = λ i. node_mir i ∷ []; own_same = λ g. refl; shr_same = λ g. refl }

  tree_mir : K.mir-Tree S ≡ K.mir-Tree R
  tree_mir = ap lone (struct_places (K.type-Tree R (coding (K.written-Node R) (K.mir-Node R)))
      (K.type-Tree S (coding (K.written-Node S) (K.mir-Node S))) ((λ g. g), tt) (λ v. v) (λ d. refl) refl
      (laid _ _ _ node_codings, tt)).mir_same

  stages : (n : ℕ) → Alike (rows (K.frame R) (stage (K.frame R) (K.step R) n) member-Tree)
      (rows (K.frame S) (stage (K.frame S) (K.step S) n) member-Tree) (map h)
  stages zero = record { mir_same = λ i. tree_mir i ∷ []; own_same = λ d. refl; shr_same = λ d. refl }
  stages (suc n) =
      let v = view_alike (stage (K.frame R) (K.step R) n) (stage (K.frame S) (K.step S) n) (stages n) in
      record { mir_same = λ i. tree_mir i ∷ []; own_same = v.own_same; shr_same = v.shr_same }

  length_same : (d : List R.Denot) → length (map h d) + 1 ≡ length d + 1
  length_same d = ap (λ n. n + 1) (length-map d h)

  tree_places : Alike (tree.the_row R) (tree.the_row S) (map h)
  tree_places = record {
    mir_same = λ i. tree_mir i ∷ [];
    own_same = λ d. ap (λ n. (stage (K.frame S) (K.step S) n member-Tree (map h d)).0) (length_same d) ∙
        (stages (length d + 1)).own_same d;
    shr_same = λ d. ap (λ n. (stage (K.frame S) (K.step S) n member-Tree (map h d)).1) (length_same d) ∙
        (stages (length d + 1)).shr_same d;
  }

-- ---- the root behind its pointer

abbrev roots : Former {0}
roots = via (pair (const (Ptr × (Global × Ptr))) (list this)) Root
    (λ X r. ((r.pointer, (r.alloc, r.owner.ptr)), r.owner.value))
    (λ X v. record { pointer = v.0.0; alloc = v.0.1.0; owner = record { ptr = v.0.1.1; value = v.1 } }) (λ X r. refl)
    (λ X v. refl)

module _ (R S : RattleType) (h : R.Denot → S.Denot) (a : Alike R S h) where
  tree_owners_alike : Alike (owner_row R) (owner_row S) (over_owner (map h))
  tree_owners_alike = owner_places (tree.the_row R) (tree.the_row S) (map h) (tree_places R S h a)

  root_owns_same : (r : Root R.Denot) → root.the_heap S (roots.map R.Denot S.Denot h r) ≡ root.the_heap R r
  root_owns_same r =
      λ i. fsep (lies_placed (owner_row R) (owner_row S) (over_owner (map h)) tree_owners_alike full_share r.pointer
      r.owner i) (ghosts.dealloc_token r.alloc (bare (lone (tree_owners_alike.mir_same i))) r.pointer)

  root_places : Alike (root.the_row R) (root.the_row S) (roots.map R.Denot S.Denot h)
  root_places = record {
    mir_same = refl;
    own_same = λ r i vs. fsep ((Struct (shape (root.the_type R))).own_val (to (root.the_type R) r) vs)
        (root_owns_same r i);
    shr_same = λ r i b o. beside ((Struct (shape (root.the_type R))).shr_at (to (root.the_type R) r) b o)
        (lent_at_placed (owner_row R) (owner_row S) (over_owner (map h)) tree_owners_alike r.pointer r.owner i);
  }

-- ---- the list

module _ (X : Type 0) where
  abbrev root_or_none : Option (Root X) → Unit {0} ⊎ Root X
  root_or_none None = inl tt
  root_or_none (Some r) = inr r

  abbrev optional_root : Unit {0} ⊎ Root X → Option (Root X)
  optional_root (inl u) = None
  optional_root (inr r) = Some r

  optional_root-root_or_none : (o : Option (Root X)) → optional_root (root_or_none o) ≡ o
  optional_root-root_or_none None = refl
  optional_root-root_or_none (Some r) = refl

  root_or_none-optional_root : (v : Unit {0} ⊎ Root X) → root_or_none (optional_root v) ≡ v
  root_or_none-optional_root (inl u) = refl
  root_or_none-optional_root (inr r) = refl

abbrev optional_roots : Former {0}
optional_roots =
    via (or (const (Unit {0})) roots) (λ X. Option (Root X)) root_or_none optional_root optional_root-root_or_none
    root_or_none-optional_root

abbrev fields : Former {0}
fields = via optional_roots Inside (λ X a. a.root) (λ X o. record { root = o }) (λ X a. refl) (λ X o. refl)

list_keeps : (X : Type 0) (o : Option (Root X)) → held (list this) X (view X (record { root = o }))
    ≡ held fields X (record { root = o })
list_keeps X None = refl
list_keeps X (Some r) = refl

list_natural : (X Y : Type 0) (h : X → Y) (o : Option (Root X)) → view Y (fields.map X Y h (record { root = o }))
    ≡ map h (view X (record { root = o }))
list_natural X Y h None = refl
list_natural X Y h (Some r) = refl

module _ (R S : RattleType) (h : R.Denot → S.Denot) where
  variant : (o : Option (Root R.Denot))
      → (option.enum (root.the_row S)).as_values (optional_roots.map R.Denot S.Denot h o)
      ≡ eachs (option.enum (root.the_row R)).parts (option.enum (root.the_row S)).parts
      (tt, ((roots.map R.Denot S.Denot h, tt), tt)) ((option.enum (root.the_row R)).as_values o)
  variant None = refl
  variant (Some r) = refl

  optional_root_places : Alike R S h → Alike (option.the_row (root.the_row R)) (option.the_row (root.the_row S))
      (optional_roots.map R.Denot S.Denot h)
  optional_root_places a =
      enum_places (option.enum (root.the_row R)) (option.enum (root.the_row S))
      (tt, ((roots.map R.Denot S.Denot h, tt), tt)) (optional_roots.map R.Denot S.Denot h) variant refl
      (tt, ((laid _ _ _ (root_places R S h a), tt), tt))

  pub the_places : Alike R S h → Alike (C.the_row R) (C.the_row S) ((the_former this).map R.Denot S.Denot h)
  the_places a =
      view_places fields (list this) view (λ X Y k u. list_natural X Y k u.root) (λ X u. list_keeps X u.root) R.Denot
      S.Denot h (C.the_row R).coded (C.the_row S).coded
      (invariant R.Denot) (invariant S.Denot) (λ u p q. refl) (λ u p q. refl) (λ u e. tt) (λ u e. tt)
      (over (I.the_row R)) (over (I.the_row S))
      (struct_places (I.the_type R) (I.the_type S) (optional_roots.map R.Denot S.Denot h, tt) _ (λ d. refl) refl
      (laid _ _ _ (optional_root_places a), tt))

  pub the_codes_placed : Recodes R S h → Recodes (C.the_row R) (C.the_row S) ((the_former this).map R.Denot S.Denot h)
  the_codes_placed e d = sym (code_map R.coded.code S.coded.code h (λ x. sym (e x)) d)
