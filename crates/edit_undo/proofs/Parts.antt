-- Words of both sides, joined.
use Rattle.std.proofs.Common.{◌≡◌, ℕ, List, [], ◌∷◌, ◌++◌, length, Option, Some, None, Result, Ok, refl, sym, ap, ◌∙◌, arith}
use Rattle.std.specs.Prelude.{option_map}
use Rattle.std.proofs.lemmas.List.{map-append}
use Rattle.doc_values.specs.Documents.{DocTree}
use Rattle.doc_values.specs.Types.{TyTree}
use Rattle.edit_module.specs.Action.{Why, act}
use Rattle.edit_module.specs.Laws.{in_turn}
use Rattle.edit_module.specs.Words.{WordTree, no_primitives, joined, word_length}
use Rattle.edit_module.proofs.Words.{joined_assoc}
use Rattle.edit_module.proofs.WordSteps.{act-joined}
use Rattle.edit_session.specs.Step.{TripleTree}
use Rattle.edit_undo.specs.Undone.{BothTrees, no_words, joined_both, undone_behind, BringsBack}
use Rattle.edit_undo.specs.Stepping.{joined_all}
use Rattle.edit_undo.specs.UndoneViews.{both_tree, both_trees}
use Rattle.edit_undo.specs.declared.both.BothWords.{BothWords}
use Rattle.edit_module.proofs.JoinedWords.{joined_nothing}

-- ---- joining

-- two words are equal where both sides are
abbrev both_of : WordTree → WordTree → BothTrees
both_of l r = record { left = l; right = r }

pub same_both : (l l' r r' : WordTree) → l ≡ l' → r ≡ r' → both_of l r ≡ both_of l' r'
same_both l l' r r' e f = ap (λ (x : WordTree). both_of x r) e ∙ ap (λ (x : WordTree). both_of l' x) f

pub both_none : (b : BothTrees) → joined_both b no_words ≡ b
both_none b = same_both (joined b.left no_primitives) b.left (joined b.right no_primitives) b.right (joined_nothing b.left) (joined_nothing b.right)

pub both_assoc : (a b c : BothTrees) → joined_both (joined_both a b) c ≡ joined_both a (joined_both b c)
both_assoc a b c =
    same_both (joined (joined a.left b.left) c.left) (joined a.left (joined b.left c.left)) (joined (joined a.right b.right) c.right) (joined a.right (joined b.right c.right))
    (joined_assoc a.left b.left c.left) (joined_assoc a.right b.right c.right)

pub all_append : (bs cs : List BothTrees) → joined_all (bs ++ cs) ≡ joined_both (joined_all cs) (joined_all bs)
all_append [] cs = sym (both_none (joined_all cs))
all_append (b ∷ bs) cs = ap (λ (x : BothTrees). joined_both x b) (all_append bs cs) ∙ both_assoc (joined_all cs) (joined_all bs) b

-- the last part comes first
pub all_pushed : (parts more : List BothWords) (b : BothWords) → more ≡ parts ++ b ∷ [] → joined_all (both_trees more) ≡ joined_both (both_tree b) (joined_all (both_trees parts))
all_pushed parts more b e =
    ap (λ (l : List BothWords). joined_all (both_trees l)) e
    ∙ (ap joined_all (map-append both_tree parts (b ∷ [])) ∙ all_append (both_trees parts) (both_tree b ∷ []))

pub all_none : (parts : List BothWords) → length parts ≡ 0 → joined_all (both_trees parts) ≡ no_words
all_none [] e = refl
all_none (b ∷ parts) e = absurd (omega arith)

-- ---- behind one another

pub behind_behind : (a b : BothTrees) (o : Option (TripleTree × BothTrees)) → option_map (undone_behind a) (option_map (undone_behind b) o) ≡ option_map (undone_behind (joined_both b a)) o
behind_behind a b None = refl
behind_behind a b (Some r) = ap (λ (x : BothTrees). Some (r.0, x)) (both_assoc r.1 b a)

-- ---- taking back

turned : (n : ℕ) (first : Result DocTree Why) (second : DocTree → Result DocTree Why) (u v : DocTree) → first ≡ Ok u → second u ≡ Ok v → in_turn n first second ≡ Ok v
turned n first second u v e f = rw (e, f) refl

back_joined : (ty : TyTree) (w w' : WordTree) (now mid was : DocTree) → act ty w' now ≡ Ok mid → act ty w mid ≡ Ok was → act ty (joined w' w) now ≡ Ok was
back_joined ty w w' now mid was e f = act-joined ty w' w now ∙ turned (word_length w') (act ty w' now) (λ x. act ty w x) mid was e f

module _ (left right : TyTree) where
  pub back_none : (t : TripleTree) → BringsBack left right no_words t t
  back_none t = record { left_back = refl; right_back = refl }

  pub back_then : (w w' : BothTrees) (now mid was : TripleTree) → BringsBack left right w' now mid → BringsBack left right w mid was → BringsBack left right (joined_both w' w) now was
  back_then w w' now mid was a b = record {
    left_back = back_joined left w.left w'.left now.left mid.left was.left a.left_back b.left_back;
    right_back = back_joined right w.right w'.right now.right mid.right was.right a.right_back b.right_back;
  }
