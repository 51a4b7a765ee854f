-- What holds of the documents after each entry of a generated journal: helper forms for the proofs.
use Rattle.std.specs.Prelude.{◌≡◌, ℕ, ◌+◌, ◌*◌, ◌^◌, ◌<◌, ◌≤◌, ℤ, pos, negsuc, codes, List, [], ◌∷◌, length, Option}
use Rattle.std.specs.Prelude.{option_map}
use Rattle.doc_values.specs.Documents.{DocTree, int, rec, no_docs, more_docs}
use Rattle.lens_core.specs.Consistency.{contents_with, list_doc}
use Rattle.edit_session.specs.Step.{TripleTree}
use Rattle.edit_session.specs.Run.{AnswerTree}
use Rattle.run_gen.specs.Journal.{generated_number, sum_of, summarized}
use Rattle.run_gen.specs.declared.summary.Summary.{Summary}
use Rattle.run_gen.specs.declared.choice.Choice.{Choice}
use Rattle.run_gen.specs.declared.choice.Choice.TheVariants.{InsertItem, InsertNumber, MoveItem, AddToNumber}

-- the absolute value
abbrev pub absolute : ℤ → ℕ
absolute (pos n) = n
absolute (negsuc n) = n + 1

-- the sum of the absolute values of the numbers in a list
abbrev pub weight : List DocTree → ℕ
weight [] = 0
weight (d ∷ ds) = absolute (generated_number d) + weight ds

-- the texts and the numbers among the items of the left document
abbrev pub texts_of : List DocTree → List DocTree
texts_of items = contents_with (codes "p") items

abbrev pub numbers_of : List DocTree → List DocTree
numbers_of items = contents_with (codes "o") items

-- each document is a number
abbrev pub AreInts : List DocTree → Type 0
AreInts [] = Unit {0}
AreInts (int z ∷ ds) = AreInts ds
AreInts (_ ∷ ds) = ⊥

-- the items are texts and numbers
pub record AreItems (items : List DocTree) : Type 0 where
  pub all : length items ≡ length (texts_of items) + length (numbers_of items)
  pub ints : AreInts (numbers_of items)

-- a right document: a record of the list of texts and the list of numbers
abbrev pub two_lists : List DocTree → List DocTree → DocTree
two_lists texts numbers = rec (more_docs (list_doc texts) (more_docs (list_doc numbers) no_docs))

-- the left document is a list of texts and numbers, and the right one has its texts and its numbers
pub record HasItems (left : DocTree) (right : DocTree) : Type 0 where
  pub items : List DocTree
  pub left_is : left ≡ list_doc items
  pub right_is : right ≡ two_lists (texts_of items) (numbers_of items)
  pub are : AreItems items

-- after k entries there are p texts and o numbers, and the numbers together are at most 1 + 2 + .. + k
pub record IsGenerated (k : ℕ) (p : ℕ) (o : ℕ) (t : TripleTree) : Type 0 where
  pub documents : HasItems t.left t.right
  pub texts : length (texts_of documents.items) ≡ p
  pub numbers : length (numbers_of documents.items) ≡ o
  pub few : p + o ≤ k
  pub light : 2 * weight (numbers_of documents.items) ≤ k * (k + 1)

-- entry k can be made where there are p texts and o numbers
abbrev pub IsPossible : Choice → ℕ → ℕ → ℕ → Type 0
IsPossible InsertItem k p o = Unit {0}
IsPossible InsertNumber k p o = Unit {0}
IsPossible (MoveItem i j) k p o = (i < p + o) × (j < p + o)
IsPossible (AddToNumber i n) k p o = (i < o) × (n ≡ k)

-- the summary where n entries were accepted before, and this is the run of the others from a triple on
abbrev pub after_accepted : ℕ → Summary → Summary
after_accepted n s = record s { accepted = n + s.accepted }

abbrev pub counted : ℕ → TripleTree → Option (List (TripleTree × AnswerTree ⊥)) → Option Summary
counted n t steps = option_map (λ ss. after_accepted n (summarized t ss)) steps

-- a right document that is a record of two lists
abbrev pub HasLists : DocTree → Type 0
HasLists right = (texts : List DocTree) × (numbers : List DocTree) × (right ≡ two_lists texts numbers)

-- the number that an entry adds is an i64
abbrev pub AddsAtMost : Choice → Type 0
AddsAtMost InsertItem = Unit {0}
AddsAtMost InsertNumber = Unit {0}
AddsAtMost (MoveItem i j) = Unit {0}
AddsAtMost (AddToNumber i n) = n < 2 ^ 63
