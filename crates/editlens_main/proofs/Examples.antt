-- The definitions, tried on small examples.
use Rattle.std.proofs.Common.{◌≡◌, ℕ, pos, negsuc, [], ◌∷◌, ◌++◌, Some, Ok, Err, codes, refl}
use Rattle.doc_values.specs.Documents.{rec, int, hold, more_docs, no_docs}
use Rattle.hold_shapes.specs.declared.shape.Shape.TheVariants.{List as ListOf}
use Rattle.hold_shapes.specs.declared.edit.ShapeEdit.TheVariants.{Ins}
use Rattle.edit_module.specs.Words.{set, at, shape, no_primitives, more_primitives}
use Rattle.edit_module.specs.declared.atom.Atom.TheVariants.{Number}
use Rattle.texts.specs.declared.side.Side.TheVariants.{Left, Right}
use Rattle.edit_module.specs.declared.fault.Cause.TheVariants.{Place}
use Rattle.doc_values.specs.Types.{ty_int}
use Rattle.lens_forms.specs.Forms.{FormTree, form_id, form_rec, form_each, both, no_rows}
use Rattle.lens_core.specs.Complements.{nil, rec_comp, hold_comp, more_comps, no_comps}
use Rattle.std.specs.Fmt.{digits}
use Rattle.serde_json.proofs.OnLiterals.{serde_json_on_literals}
use Rattle.edit_module.specs.Changes.{one}
use Rattle.edit_journal.specs.EntryJson.{not_an_edit}
use Rattle.editlens_main.specs.Generated.{summary_lines}
use Rattle.edit_session.specs.Step.{TripleTree}
use Rattle.edit_session.specs.Run.{carried, no_apply, no_entry}
use Rattle.run_answers.specs.Answers.{answer_line, state_lines}
use Rattle.run_answers.specs.ItemRuns.{triple_at_first, run_of}

-- `{a ~ b: id int}`
abbrev ab : FormTree
ab = form_rec (both (codes "a") (codes "b") (form_id (ty_int (pos 0))) no_rows)

abbrev both_at : ℕ → TripleTree
both_at n = record { left = rec (more_docs (int (pos n)) no_docs); comp = rec_comp (more_comps nil no_comps); right = rec (more_docs (int (pos n)) no_docs) }

-- an edit that applies is translated to the other side; one of a field that does not exist leaves the triple
run_of_three : run_of ab (Err not_an_edit
    ∷ Ok (one (Right, more_primitives (at (codes "b") (more_primitives (set (Number (pos 1))) no_primitives)) no_primitives))
    ∷ Ok (one (Left, more_primitives (at (codes "b") no_primitives) no_primitives)) ∷ [])
    ≡ Some ((triple_at_first ab, no_entry not_an_edit)
    ∷ (both_at 1, carried Left (more_primitives (at (codes "a") (more_primitives (set (Number (pos 1))) no_primitives)) no_primitives))
    ∷ (both_at 1, no_apply 0 Place) ∷ [])
run_of_three = refl

-- an insertion into a list
run_of_a_list : run_of (form_each (form_id (ty_int (pos 0)))) (Ok (one (Left, more_primitives (shape (Ins 1)) no_primitives)) ∷ [])
    ≡ Some ((
      record { left = hold (ListOf (record { count = 1 })) (more_docs (int (pos 0)) no_docs); comp = hold_comp (ListOf (record { count = 1 })) (more_comps nil no_comps); right = hold (ListOf (record { count = 1 })) (more_docs (int (pos 0)) no_docs) },
      carried Right (more_primitives (shape (Ins 1)) no_primitives),
    ) ∷ [])
run_of_a_list = refl

line_of_an_edit : answer_line 12 (carried Right (more_primitives (at (codes "b") (more_primitives (set (Number (negsuc 0))) no_primitives)) no_primitives)) ≡ codes "ok 12 right [{\"at\":[\"b\",[{\"set\":-1}]]}]" ++ 10 ∷ []
unfolding digits serde_json_on_literals
line_of_an_edit = refl

line_of_a_refusal : answer_line 3 (no_apply 0 Place) ≡ codes "refused 3 no-apply 0 place" ++ 10 ∷ []
unfolding digits serde_json_on_literals
line_of_a_refusal = refl

line_of_a_fault : answer_line 4 (no_entry not_an_edit) ≡ codes "refused 4 not-an-edit" ++ 10 ∷ []
unfolding digits serde_json_on_literals
line_of_a_fault = refl

start_lines : state_lines ab (triple_at_first ab) ≡ codes "left {\"a\":0}" ++ 10 ∷ codes "right {\"b\":0}" ++ 10 ∷ codes "complement {\"rec\":[null]}" ++ 10 ∷ []
unfolding digits serde_json_on_literals
start_lines = refl

lines_of_a_summary : summary_lines (record { accepted = 12; refused = 0; names = 7; nums = 5; sum = negsuc 2 }) ≡ codes "accepted 12\nrefused 0\nnames 7\nnums 5\nsum -3\n"
unfolding digits
lines_of_a_summary = refl
