-- Loops that go from the items of one tree to those of another.
use Rattle.std.proofs.Math.Seq.{take-suc}
use Rattle.std.proofs.lemmas.List.{map-append}
use Rattle.std.proofs.Common.{◌≡◌, ℕ, ◌+◌, add-one, ◌<◌, List, [], ◌∷◌, ◌++◌, map, take, length, get_or, refl, ap, rules, Vec, Global}
use Rattle.std.specs.Borrow.{Bor}
use Rattle.json.specs.Json.{Json, array, object, member}
use Rattle.json.specs.Value.{value_view, members_view as value_members}
use Rattle.json.specs.declared.value.Value.{Value}
use Rattle.file_trees.specs.FileTrees.{file_tree, members_of, items_view, members_view}
use Rattle.file_trees.specs.declared.tree.FileTree.{FileTree, Array, Object, the_lemmas}

-- a member of a tree, and one of a value
abbrev pub named : List ℕ × FileTree → List ℕ × Json
named m = (m.0, file_tree m.1)

abbrev pub seen : {A : Type 0} → Bor (List ℕ) × Value A → List ℕ × Json
seen m = (m.0.now, value_view m.1)

pub members_seen : {A : Type 0} (ms : List (Bor (List ℕ) × Value A)) → members_of (map seen ms) ≡ value_members ms
members_seen [] = refl
members_seen (m ∷ ms) = ap (member m.0.now (value_view m.1)) (members_seen ms)

pub push_more : {A B : Type 0} (f : A → B) (ds : List A) (i : ℕ) (d e : A) (xs : List B) (x : B) → i < length ds → d ≡ get_or ds i e → xs ≡ map f (take i ds) → x ≡ f d → xs ++ x ∷ [] ≡ map f (take (i + 1) ds)
push_more f ds i d e xs x within is so_far here =
    rw (so_far, here, add-one, take-suc ds i e within, map-append) (ap (λ c. map f (take i ds) ++ f c ∷ []) is)

pub tree-Array : (v : Vec FileTree Global) → file_tree (Array v) ≡ array (items_view v.items)
tree-Array v = search (rules, the_lemmas)

pub tree-Object : (v : Vec (List ℕ × FileTree) Global) → file_tree (Object v) ≡ object (members_view v.items)
tree-Object v = search (rules, the_lemmas)
