-- A generated journal: its entries, made from a seed, and the summary of its run.
-- Read it from the end: `summary_of`, then `generated_journal`, `entries` and `next_seed`.
use Rattle.std.specs.Prelude.{ℕ, ℤ, pos, ◌+ℤ◌, length, zero, suc, ◌+◌, ◌*◌, ◌/◌, ◌%◌, ◌^◌, nat_eq, nat_lt}
use Rattle.std.specs.Prelude.{if◌then◌else◌, codes, List, [], ◌∷◌, map, Option, Some, None, option_map, Ok}
use Rattle.texts.specs.declared.side.Side.{Side}
use Rattle.texts.specs.declared.side.Side.TheVariants.{Left, Right}
use Rattle.hold_shapes.specs.declared.edit.Place.TheVariants.{Index}
use Rattle.hold_shapes.specs.declared.edit.ShapeEdit.TheVariants.{Ins, MoveItem as MoveEdit}
use Rattle.edit_module.specs.Changes.{one}
use Rattle.edit_module.specs.Words.{PrimitiveTree, add, at, modify, shape, WordTree, no_primitives, more_primitives}
use Rattle.doc_values.specs.Documents.{DocTree, int, rec, hold, no_docs, more_docs, doc_list}
use Rattle.lens_forms.specs.Forms.{left_type, right_type}
use Rattle.lens_core.specs.Complements.{missing}
use Rattle.lens_core.specs.Translation.{translate}
use Rattle.edit_session.specs.Step.{TripleTree, first}
use Rattle.edit_session.specs.Run.{Item, AnswerTree, is_refused, last, run}
use Rattle.run_gen.specs.Program.{generated_form}
use Rattle.run_gen.specs.declared.summary.Summary.{Summary}
use Rattle.run_gen.specs.declared.choice.Choice.{Choice}
use Rattle.run_gen.specs.declared.choice.Choice.TheVariants.{InsertItem, InsertNumber, MoveItem, AddToNumber}

-- ---- the numbers of an entry

-- the seed of the next entry
abbrev pub next_seed : ℕ → ℕ
next_seed s = (6364136223846793005 * s + 1442695040888963407) % 2 ^ 64

-- the number that an entry is chosen by
abbrev pub drawn_from : ℕ → ℕ
drawn_from s = s / 2 ^ 33

-- ---- the choice of an entry

-- Entry k, of the drawn number d, where there are p texts and o numbers in the documents; the first line that fits. Of
-- an empty list an item is inserted. The rest of d divided by 4 decides: 0 inserts a number, 1 an item; 2 moves an
-- item, from a place by the quotient to a place by k; 3 adds k to a number, whose place is by the quotient, and where
-- there is no number it inserts an item.
abbrev pub choice : ℕ → ℕ → ℕ → ℕ → Choice
choice k p o d =
    if nat_eq (p + o) 0 then InsertItem
    else if nat_eq (d % 4) 0 then InsertNumber
    else if nat_eq (d % 4) 1 then InsertItem
    else if nat_eq (d % 4) 2 then MoveItem (d / 4 % (p + o)) (k % (p + o))
    else if nat_lt 0 o then AddToNumber (d / 4 % o) k
    else InsertItem

-- how many texts, and how many numbers, there are after it
abbrev pub texts_after : Choice → ℕ → ℕ
texts_after InsertItem p = p + 1
texts_after InsertNumber p = p
texts_after (MoveItem i j) p = p
texts_after (AddToNumber i k) p = p

abbrev pub numbers_after : Choice → ℕ → ℕ
numbers_after InsertItem o = o
numbers_after InsertNumber o = o + 1
numbers_after (MoveItem i j) o = o
numbers_after (AddToNumber i k) o = o

-- ---- the entries

-- the word of one insertion at the end of a list
abbrev pub insertion : WordTree
insertion = more_primitives (shape (Ins 1)) no_primitives

-- a word of the list of numbers, which is on the right
abbrev pub in_numbers : WordTree → Side × WordTree
in_numbers w = (Right, more_primitives (at (codes "nums") w) no_primitives)

abbrev pub entry_of : Choice → Side × WordTree
entry_of InsertItem = (Left, insertion)
entry_of InsertNumber = in_numbers insertion
entry_of (MoveItem i j) = (Left, more_primitives (shape (MoveEdit i j)) no_primitives)
entry_of (AddToNumber i k) =
    in_numbers (more_primitives (modify (Index i) (more_primitives (add (pos k)) no_primitives)) no_primitives)

-- the entry of a choice, and the rest after it, which goes on with the new counts of texts and numbers
abbrev pub with_choice : Choice → ℕ → ℕ → (ℕ → ℕ → List (Side × WordTree)) → List (Side × WordTree)
with_choice c p o rest = entry_of c ∷ rest (texts_after c p) (numbers_after c o)

-- n entries from entry k on, where s is the seed of the entry before and there are p texts and o numbers
abbrev pub entries : ℕ → ℕ → ℕ → ℕ → ℕ → List (Side × WordTree)
entries zero k s p o = []
entries (suc n) k s p o =
    with_choice (choice k p o (drawn_from (next_seed s))) p o (λ p' o'. entries n (k + 1) (next_seed s) p' o')

-- the entries of a journal, from entry 1 on
abbrev pub generated_journal : ℕ → ℕ → List (Side × WordTree)
generated_journal count seed = entries count 1 seed 0 0

-- ---- the summary

-- the items of a list
abbrev pub generated_items : DocTree → List DocTree
generated_items (hold s ds) = doc_list ds
generated_items _ = []

-- the two lists of a right document: its fields are "names" and "nums", in this order
abbrev pub generated_names : DocTree → List DocTree
generated_names (rec (more_docs names (more_docs nums no_docs))) = generated_items names
generated_names _ = []

abbrev pub nums_in : DocTree → List DocTree
nums_in (rec (more_docs names (more_docs nums no_docs))) = generated_items nums
nums_in _ = []

-- the number that a document is; each document in the list of numbers is one
abbrev pub generated_number : DocTree → ℤ
generated_number (int z) = z
generated_number _ = pos 0

-- the sum of the numbers
abbrev pub sum_of : List DocTree → ℤ
sum_of [] = pos 0
sum_of (d ∷ ds) = generated_number d +ℤ sum_of ds

-- how many answers accept, and how many refuse
abbrev pub accepted_among : List (TripleTree × AnswerTree ⊥) → ℕ
accepted_among [] = 0
accepted_among (s ∷ steps) = (if is_refused s.1 then 0 else 1) + accepted_among steps

abbrev pub refused_among : List (TripleTree × AnswerTree ⊥) → ℕ
refused_among [] = 0
refused_among (s ∷ steps) = (if is_refused s.1 then 1 else 0) + refused_among steps

-- the summary of the steps of a run from a triple on
abbrev pub summarized : TripleTree → List (TripleTree × AnswerTree ⊥) → Summary
summarized t steps = record {
  accepted = accepted_among steps;
  refused = refused_among steps;
  names = length (generated_names (last t steps).right);
  nums = length (nums_in (last t steps).right);
  sum = sum_of (nums_in (last t steps).right);
}

-- an entry as an item of a journal, which has no groups and no line that is not a change
abbrev pub entry_item : Side × WordTree → Item ⊥
entry_item e = Ok (one e)

-- the run of the lens of the fixed program over a journal
abbrev pub first_triple : TripleTree
first_triple = first (left_type generated_form) (right_type generated_form) (missing generated_form)

abbrev pub generated_run_from : TripleTree → List (Side × WordTree) → Option (List (TripleTree × AnswerTree ⊥))
generated_run_from t es =
    run (left_type generated_form) (right_type generated_form) (translate generated_form) t (map entry_item es)

-- the summary of the journal of this count and seed
abbrev pub summary_of : ℕ → ℕ → Option Summary
summary_of count seed =
    option_map (summarized first_triple) (generated_run_from first_triple (generated_journal count seed))
