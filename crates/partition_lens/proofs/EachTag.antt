-- An At for each tag, taken one tag at a time.
use Rattle.std.proofs.Common.{◌≡◌, ℕ, suc, ◌+◌, ◌<◌, ◌≤◌, List, length, map, drop, drop-cons, get_or, add-one, ap, sym, ◌∙◌}
use Rattle.std.proofs.lemmas.List.{drop_all}
use Rattle.doc_values.specs.Types.{FieldTrees, type_fields_of, field_tree}
use Rattle.doc_values.specs.declared.ty.Ty.{Ty}
use Rattle.edit_module.specs.Words.{WordTree, no_primitives, joined}
use Rattle.edit_module.proofs.Words.{joined_assoc}
use Rattle.lens_core.specs.Emitted.{at_word}
use Rattle.lens_core.specs.Partition.{at_each_tag}
use Rattle.lens_core.proofs.Tags.{tag_count-length}
use Rattle.edit_module.proofs.JoinedWords.{joined_nothing}

-- what is left of the tags, from the number i on, behind the word u
abbrev pub left_tags : WordTree → List (List ℕ × Ty) → ℕ → (ℕ → WordTree) → WordTree
left_tags u fs i word = joined u (at_each_tag (type_fields_of (map field_tree (drop i fs))) i word)

-- before the first tag
pub each_start : (u : WordTree) (fs : List (List ℕ × Ty)) (word : ℕ → WordTree) (tree : FieldTrees) → u ≡ no_primitives → type_fields_of (map field_tree fs) ≡ tree
    → left_tags u fs 0 word ≡ at_each_tag tree 0 word
each_start u fs word tree e f = ap (λ z. joined z (at_each_tag (type_fields_of (map field_tree fs)) 0 word)) e ∙ ap (λ z. at_each_tag z 0 word) f

each_next : (fs : List (List ℕ × Ty)) (i : ℕ) (f : List ℕ × Ty) (u : WordTree) (word : ℕ → WordTree) → i < length fs → f ≡ get_or fs i f
    → left_tags u fs i word ≡ left_tags (joined u (at_word f.0 (word i))) fs (i + 1) word
each_next fs i f u word h is =
    rw (drop-cons fs i f h, sym is, add-one) (sym (joined_assoc u (at_word f.0 (word i)) (at_each_tag (type_fields_of (map field_tree (drop (suc i) fs))) (suc i) word)))

-- after a tag
pub each_kept : (fs : List (List ℕ × Ty)) (i : ℕ) (f : List ℕ × Ty) (u part u' : WordTree) (word : ℕ → WordTree) (whole : WordTree) → i < length fs → f ≡ get_or fs i f
    → part ≡ at_word (get_or fs i f).0 (word i) → u' ≡ joined u part → left_tags u fs i word ≡ whole → left_tags u' fs (i + 1) word ≡ whole
each_kept fs i f u part u' word whole h is e g k =
    rw (g, e, sym is) (sym (each_next fs i f u word h is) ∙ k)

-- after the last tag
pub each_end : (fs : List (List ℕ × Ty)) (i : ℕ) (u : WordTree) (word : ℕ → WordTree) (whole : WordTree) → length fs ≤ i → left_tags u fs i word ≡ whole → u ≡ whole
each_end fs i u word whole h k =
    let done : left_tags u fs i word ≡ u = rw (drop_all i fs h) (joined_nothing u) in
    sym done ∙ k

pub ruleset each_rules = (each_start, each_kept, each_end, tag_count-length)
