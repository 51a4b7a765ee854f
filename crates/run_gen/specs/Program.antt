-- The lens of a generated journal: a list of texts and numbers on the left, and on the right a list of the texts and a
-- list of the numbers. From the end: `program_tree`, `generated_form`, `program_text`.
use Rattle.std.specs.Prelude.{ℕ, pos, List, [], codes}
use Rattle.program_terms.specs.Terms as Term
use Rattle.doc_values.specs.Types.{FieldTrees, ty_int, ty_text, no_fields, more_fields}
use Rattle.lens_forms.specs.Forms.{FormTree, form_id, form_then, form_rec, form_each, form_part, RowTrees, no_rows}
use Rattle.lens_forms.specs.Forms.{both}

-- `main then(part <p: text, o: int>, {o ~ nums: each id int, p ~ names: each id text})`
abbrev pub program_text : List ℕ
program_text = codes "main then(part <p: text, o: int>, {o ~ nums: each id int, p ~ names: each id text})"

-- `<p: text, o: int>`
abbrev pub item_tags : FieldTrees
item_tags = more_fields (codes "p") (ty_text []) (more_fields (codes "o") (ty_int (pos 0)) no_fields)

-- `{o ~ nums: each id int, p ~ names: each id text}`
abbrev pub list_rows : RowTrees
list_rows =
    both (codes "o") (codes "nums") (form_each (form_id (ty_int (pos 0))))
    (both (codes "p") (codes "names") (form_each (form_id (ty_text []))) no_rows)

-- the form of the program
abbrev pub generated_form : FormTree
generated_form = form_then (form_part item_tags) (form_rec list_rows)

-- the program that is spelled so
abbrev pub program_tree : Term.ProgramTree
program_tree = record {
  definitions = [];
  main = Term.then_of
      (Term.part_of (Term.more_fields (codes "p") (Term.text [])
      (Term.more_fields (codes "o") (Term.int (pos 0)) Term.no_fields)))
      (Term.rec_lens (Term.both (codes "o") (codes "nums") (Term.each_of (Term.id_of (Term.int (pos 0))))
      (Term.both (codes "p") (codes "names") (Term.each_of (Term.id_of (Term.text []))) Term.no_rows)));
}
