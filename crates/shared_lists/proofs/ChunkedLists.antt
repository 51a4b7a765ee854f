-- The items of chunks and of trees that are put together.
use Rattle.std.proofs.Common.{arith}
use Rattle.std.specs.Prelude.{ℕ, ◌≡◌, ◌≤◌, ◌+◌, ◌-◌, List, [], ◌∷◌, ◌++◌, length, take, drop, get_or}
use Rattle.std.proofs.lemmas.List.{drop-append-le, append_assoc, append-nil, length-append, length-map, length-set, map-append, map-set, set-append_left, set-append_right, take-append-drop}
use Rattle.std.proofs.Math.ListN.{drop_of_length-le}
use Rattle.std.specs.declared.alloc.Global.{Global}
use Rattle.std.specs.declared.rc.Rc.{Rc}
use Rattle.shared_lists.specs.Items.{items_of, all_items}
use Rattle.shared_lists.proofs.SplicedLists.{drop-append_beyond, items_of-drop}
use mathlib.Core.Path.{ap, sym, refl, ◌∙◌}

-- what is in one side of a tree from a place on, and what is behind it
module _ {X : Type 0} (xs ys front : List X) (place n : ℕ) where
  pub chunk_of_left : place + n ≤ length xs → front ++ drop (place + n) xs ≡ drop place xs → front ++ drop (place + n) (xs ++ ys) ≡ drop place (xs ++ ys)
  chunk_of_left p e = rw (drop-append-le (place + n) xs ys p, drop-append-le place xs ys (omega arith), sym e) (simp append_assoc)

  pub chunk_of_right : length xs ≤ place → front ++ drop (place - length xs + n) ys ≡ drop (place - length xs) ys → front ++ drop (place + n) (xs ++ ys) ≡ drop place (xs ++ ys)
  chunk_of_right p e =
      let same : place + n - length xs ≡ place - length xs + n = omega arith in
      rw (drop-append_beyond xs ys (place + n) (omega arith), drop-append_beyond xs ys place p) (ap (λ k. front ++ drop k ys) same ∙ e)

module _ {T : Type 0} (owners : List (Rc T Global)) where
  pub length-items_of : length (items_of owners) ≡ length owners
  length-items_of = length-map owners (λ r. r.value)

  pub chunk_to_end : (rest : List (Rc T Global)) (place : ℕ) → rest ≡ drop place owners → place + length rest ≡ length owners
      → items_of rest ++ drop (place + length rest) (items_of owners) ≡ drop place (items_of owners)
  chunk_to_end rest place e n =
      let past : length (items_of owners) ≤ place + length rest = omega (arith, n, length-items_of) in
      rw (drop_of_length-le (items_of owners) {i = place + length rest} past, e, items_of-drop owners place) (append-nil (drop place (items_of owners)))

pub ruleset chunk_rules = (chunk_of_left, chunk_of_right, chunk_to_end, length-items_of, length-append)

module _ {T : Type 0} where
  pub items_of-push : (owners : List (Rc T Global)) (o : Rc T Global) → items_of (owners ++ (o ∷ [])) ≡ items_of owners ++ (o.value ∷ [])
  items_of-push owners o = map-append (λ r. r.value) owners (o ∷ [])

pub ruleset owned_rules = (items_of-push)

module _ {T : Type 0} where
  pub all_items-append : (front back : List (Rc (List T) Global)) → all_items (front ++ back) ≡ all_items front ++ all_items back
  all_items-append [] back = refl
  all_items-append (t ∷ front) back = simp append_assoc (ap (λ l. t.value ++ l) (all_items-append front back))

  pub all_items-parts : (trees : List (Rc (List T) Global)) (n : ℕ) → all_items (take n trees) ++ all_items (drop n trees) ≡ all_items trees
  all_items-parts trees n = sym (all_items-append (take n trees) (drop n trees)) ∙ ap all_items (take-append-drop n trees)

  pub all_items-one : (trees : List (Rc (List T) Global)) (d : Rc (List T) Global) → length trees ≡ 1 → all_items trees ≡ (get_or trees 0 d).value
  all_items-one [] d e = absurd (omega arith)
  all_items-one (t ∷ []) d e = append-nil t.value
  all_items-one (t ∷ u ∷ trees) d e = absurd (omega arith)

pub ruleset halves_rules = (all_items-parts)

pub ruleset build_rules = (all_items-one, length-append)

module _ {T : Type 0} (trees : List (Rc (List T) Global)) where
  pub all_items-push : (t : Rc (List T) Global) → all_items (trees ++ (t ∷ [])) ≡ all_items trees ++ t.value
  all_items-push t = all_items-append trees (t ∷ []) ∙ ap (λ l. all_items trees ++ l) (append-nil t.value)

  pub none_behind : (owners : List (Rc T Global)) → length owners ≡ 0 → all_items trees ++ items_of owners ≡ all_items trees
  none_behind [] e = append-nil (all_items trees)
  none_behind (o ∷ owners) e = absurd (omega arith)

  pub one_behind : (owners : List (Rc T Global)) (o : Rc T Global) → all_items trees ++ items_of (owners ++ (o ∷ [])) ≡ all_items trees ++ items_of owners ++ (o.value ∷ [])
  one_behind owners o = rw (map-append (λ r. r.value) owners (o ∷ [])) (sym (append_assoc (all_items trees) (items_of owners) (o.value ∷ [])))

pub ruleset push_rules = (all_items-push, none_behind, one_behind, append-nil)

pub ruleset set_rules = (set-append_left, set-append_right, length-set, length-append)

pub ruleset chunk_set_rules = (map-set, length-map, length-set)
