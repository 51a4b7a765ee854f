-- The words of views, joined from the last to the first.
use Rattle.std.proofs.Common.{◌≡◌, ℕ, zero, suc, ap₂, List, [], ◌∷◌, ◌++◌, append_assoc, append-nil, length, length-append, map, reverse, refl, sym, ap, ◌∙◌, arith}
use Rattle.std.proofs.lemmas.List.{map-append, reverse-append}
use Rattle.edit_module.specs.Views.{primitive_tree, word_tree, word_trees}
use Rattle.edit_module.specs.Words.{WordTree, joined, no_primitives, word_of}
use Rattle.edit_module.specs.declared.word.Primitive.{Primitive}
use Rattle.edit_module.specs.declared.word.Word.{Word}
use Rattle.edit_module.proofs.Words.{joined-maps}
use Rattle.hub_undo.specs.HubUndone.{joined_views, no_view_words}

-- ---- one word

pub words_joined : (first second more : List Primitive) (u v : WordTree) → word_of (map primitive_tree first) ≡ u → word_of (map primitive_tree second) ≡ v → more ≡ first ++ second
    → word_of (map primitive_tree more) ≡ joined u v
words_joined first second more u v is other made =
    ap (λ (ps : List Primitive). word_of (map primitive_tree ps)) made ∙ sym (joined-maps first second) ∙ ap₂ joined is other

-- ---- words that do nothing

none_last : (n : ℕ) → no_view_words n ++ no_primitives ∷ [] ≡ no_view_words (suc n)
none_last zero = refl
none_last (suc n) = ap (λ ws. no_primitives ∷ ws) (none_last n)

pub one_none_more : (n : ℕ) (built more : List Word) (none : Word) → word_tree none ≡ no_primitives → more ≡ built ++ none ∷ [] → word_trees built ≡ no_view_words n → word_trees more ≡ no_view_words (suc n)
one_none_more n built more none is made before =
    ap word_trees made ∙ map-append word_tree built (none ∷ []) ∙ ap₂ (λ (ws : List WordTree) (w : WordTree). ws ++ w ∷ []) before is ∙ none_last n

-- ---- the views

views_last : (us vs : List WordTree) (u v : WordTree) → length us ≡ length vs → joined_views (us ++ u ∷ []) (vs ++ v ∷ []) ≡ joined_views us vs ++ joined u v ∷ []
views_last [] [] u v same = refl
views_last [] (w ∷ vs) u v same = absurd (omega (arith, same))
views_last (w ∷ us) [] u v same = absurd (omega (arith, same))
views_last (w ∷ us) (x ∷ vs) u v same = ap (λ ws. joined w x ∷ ws) (views_last us vs u v (omega (arith, same)))

turned_last : (ws : List WordTree) (w : WordTree) → reverse (ws ++ w ∷ []) ≡ w ∷ reverse ws
turned_last ws w = reverse-append ws (w ∷ [])

-- the words that are left, joined, and behind them those that were joined, from the last
abbrev pub JoinsTo : List Word → List Word → List Word → List WordTree → Type 0
JoinsTo first second built all =
    (length first ≡ length second) × (joined_views (word_trees first) (word_trees second) ++ reverse (word_trees built) ≡ all)

pub joins_none : (first second built : List Word) → length first ≡ length second → built ≡ [] → JoinsTo first second built (joined_views (word_trees first) (word_trees second))
joins_none first second built same none =
    (same, ap (λ (ws : List Word). joined_views (word_trees first) (word_trees second) ++ reverse (word_trees ws)) none ∙ append-nil (joined_views (word_trees first) (word_trees second)))

trees_last : (ws more : List Word) (w : Word) → more ≡ ws ++ w ∷ [] → word_trees more ≡ word_trees ws ++ word_tree w ∷ []
trees_last ws more w made = ap word_trees made ∙ map-append word_tree ws (w ∷ [])

same_front : (ws xs more others : List Word) (w x : Word) → more ≡ ws ++ w ∷ [] → others ≡ xs ++ x ∷ [] → length more ≡ length others → length ws ≡ length xs
same_front ws xs more others w x made other same =
    omega (arith, same, ap length made, ap length other, length-append ws (w ∷ []), length-append xs (x ∷ []))

trees_count : (ws xs : List Word) → length ws ≡ length xs → length (word_trees ws) ≡ length (word_trees xs)
trees_count [] [] same = refl
trees_count [] (x ∷ xs) same = absurd (omega (arith, same))
trees_count (w ∷ ws) [] same = absurd (omega (arith, same))
trees_count (w ∷ ws) (x ∷ xs) same = ap suc (trees_count ws xs (omega (arith, same)))

pub joins_last : (first second firsts seconds built more : List Word) (u v b : Word) (all : List WordTree) → firsts ≡ first ++ u ∷ [] → seconds ≡ second ++ v ∷ [] → more ≡ built ++ b ∷ []
    → word_tree b ≡ joined (word_tree u) (word_tree v) → JoinsTo firsts seconds built all → JoinsTo first second more all
joins_last first second firsts seconds built more u v b all made other pushed both j =
    let same = same_front first second firsts seconds u v made other j.0 in
    let front = joined_views (word_trees first) (word_trees second) in
    let left : joined_views (word_trees firsts) (word_trees seconds) ≡ front ++ joined (word_tree u) (word_tree v) ∷ [] =
    ap₂ joined_views (trees_last first firsts u made) (trees_last second seconds v other) ∙ views_last (word_trees first) (word_trees second) (word_tree u) (word_tree v) (trees_count first second same) in
    let turned : reverse (word_trees more) ≡ joined (word_tree u) (word_tree v) ∷ reverse (word_trees built) =
    ap reverse (trees_last built more b pushed) ∙ turned_last (word_trees built) (word_tree b) ∙ ap (λ w. w ∷ reverse (word_trees built)) both in (
      same,
      ap (λ ws. front ++ ws) turned ∙ sym (append_assoc front (joined (word_tree u) (word_tree v) ∷ []) (reverse (word_trees built)))
          ∙ ap (λ ws. ws ++ reverse (word_trees built)) (sym left) ∙ j.1,
    )

pub never_fewer : (firsts first second : List Word) (u : Word) → firsts ≡ first ++ u ∷ [] → length firsts ≡ length second → length second ≡ 0 → ⊥
never_fewer firsts first second u made same none = omega (arith, same, none, ap length made, length-append first (u ∷ []))

reverse_trees : (ws : List Word) → word_trees (reverse ws) ≡ reverse (word_trees ws)
reverse_trees [] = refl
reverse_trees (w ∷ ws) =
    ap word_trees (reverse-append (w ∷ []) ws) ∙ map-append word_tree (reverse ws) (w ∷ []) ∙ ap (λ xs. xs ++ word_tree w ∷ []) (reverse_trees ws)
    ∙ sym (reverse-append (word_tree w ∷ []) (word_trees ws))

pub joins_end : (first second built turned : List Word) (all : List WordTree) → length first ≡ 0 → turned ≡ reverse built → JoinsTo first second built all → word_trees turned ≡ all
joins_end [] second built turned all none is j = ap word_trees is ∙ reverse_trees built ∙ j.1
joins_end (w ∷ first) second built turned all none is j = absurd (omega (arith, none))
