-- What is written for a run of a link: an answer line for each item, and the state lines at its end.
-- Read it from the end: `link_state_lines`, `link_answer_line`, then the lines of each answer.
use Rattle.std.specs.Prelude.{ℕ, List, ◌++◌, Option, option_map, option_and_then, codes, decimal}
use Rattle.serde_json.specs.Written.{compact_text}
use Rattle.doc_values.specs.Documents.{DocTree}
use Rattle.lens_forms.specs.Forms.{FormTree, left_type, right_type}
use Rattle.lens_core.specs.Complements.{CompTree, missing}
use Rattle.lens_core.specs.Translation.{translate}
use Rattle.value_json.specs.DocumentJson.{tree_of_document}
use Rattle.complement_file.specs.ComplementJson.{tree_of_complement}
use Rattle.edit_json.specs.WordJson.{tree_of_word}
use Rattle.edit_session.specs.Step.{TripleTree}
use Rattle.answer_text.specs.Lines.{no_apply_line, tree_line}
use Rattle.turn_link.specs.Turns.{TurnRefusal, not_turn, no_apply, last_number, unfit, ahead, bad_batch, no_batch}
use Rattle.turn_link.specs.Turns.{no_packet}
use Rattle.turn_link.specs.Links.{ToldTree, told_draft, sealed, packet, taken, stale, restarted, LinkTree, triple_at}
use Rattle.run_link.specs.EventJson.{EventCause, line_too_long, not_json, not_an_event, not_an_edit}
use Rattle.run_link.specs.Items.{LinkAnswerTree, told, refused, no_event}

-- ---- lines

-- `ok N TEXT`
abbrev pub accepted_line : ℕ → List ℕ → List ℕ
accepted_line n text = codes "ok " ++ decimal n ++ codes " " ++ text ++ codes "\n"

-- `refused N TEXT`
abbrev pub refused_line : ℕ → List ℕ → List ℕ
refused_line n text = codes "refused " ++ decimal n ++ codes " " ++ text ++ codes "\n"

-- `ok N draft`, `ok N batch K WORD`, `ok N packet P`, `ok N taken K`, `ok N stale K` and `ok N restart`
abbrev pub told_line : ℕ → ToldTree → List ℕ
told_line n told_draft = accepted_line n (codes "draft")
told_line n (sealed b) =
    accepted_line n (codes "batch " ++ decimal b.number ++ codes " " ++ compact_text (tree_of_word b.word))
told_line n (packet p) = accepted_line n (codes "packet " ++ decimal p)
told_line n (taken k) = accepted_line n (codes "taken " ++ decimal k)
told_line n (stale k) = accepted_line n (codes "stale " ++ decimal k)
told_line n restarted = accepted_line n (codes "restart")

-- `refused N not-turn K`, `refused N no-apply AT CAUSE`, `refused N last-number`, `refused N no-batch` and
-- `refused N no-packet COUNT`. The others, `unfit`, `ahead` and `bad-batch`, are refusals of a site alone, and no
-- event of a link is refused so.
abbrev pub turn_refusal_line : ℕ → TurnRefusal → List ℕ
turn_refusal_line n (not_turn k) = refused_line n (codes "not-turn " ++ decimal k)
turn_refusal_line n (no_apply at cause) = no_apply_line n at cause
turn_refusal_line n last_number = refused_line n (codes "last-number")
turn_refusal_line n no_batch = refused_line n (codes "no-batch")
turn_refusal_line n (no_packet count) = refused_line n (codes "no-packet " ++ decimal count)
turn_refusal_line n unfit = refused_line n (codes "unfit")
turn_refusal_line n (ahead have got) = refused_line n (codes "ahead " ++ decimal have ++ codes " " ++ decimal got)
turn_refusal_line n bad_batch = refused_line n (codes "bad-batch")

-- why a line is not an event
abbrev pub event_fault_text : EventCause → List ℕ
event_fault_text line_too_long = codes "line-too-long"
event_fault_text not_json = codes "not-json"
event_fault_text not_an_event = codes "not-an-event"
event_fault_text not_an_edit = codes "not-an-edit"

-- the answer to the item with this number
abbrev pub link_answer_line : ℕ → LinkAnswerTree → List ℕ
link_answer_line n (told of) = told_line n of
link_answer_line n (refused why) = turn_refusal_line n why
link_answer_line n (no_event cause) = refused_line n (event_fault_text cause)

-- ---- the state

-- `numbers A B`: the numbers of the left and of the right site
abbrev pub numbers_line : ℕ → ℕ → List ℕ
numbers_line a b = codes "numbers " ++ decimal a ++ codes " " ++ decimal b ++ codes "\n"

-- `left JSON`, `right JSON`, `complement JSON` and `numbers A B`
abbrev pub shown_lines : FormTree → DocTree → DocTree → CompTree → ℕ → ℕ → List ℕ
shown_lines form x y c a b =
    tree_line (codes "left") (tree_of_document (left_type form) x)
    ++ tree_line (codes "right") (tree_of_document (right_type form) y)
    ++ tree_line (codes "complement") (tree_of_complement form c)
    ++ numbers_line a b

-- the triple after the first k entries of a link
abbrev pub link_triple_of : FormTree → LinkTree → ℕ → Option TripleTree
link_triple_of form s k = triple_at (left_type form) (right_type form) (missing form) (translate form) s.made k

-- the state lines of a link: the left document and the complement that its left site shows, and the right document that
-- its right site shows
abbrev pub link_state_lines : FormTree → LinkTree → Option (List ℕ)
link_state_lines form s =
    option_and_then (λ t. option_map (λ u. shown_lines form t.left u.right t.comp s.left_number s.right_number)
    (link_triple_of form s s.right_number)) (link_triple_of form s s.left_number)
