-- An answer's line is one line, which begins with `ok ` where there is a payload; the state lines are other lines.
use Rattle.std.proofs.Common.{◌≡◌, ℕ, ◌+◌, List, [], ◌∷◌, ◌++◌, true, false, codes, Option, Some, None, option_map, Result, Ok, Err, refl, sym, ap, subst, append_assoc}
use Rattle.std.specs.Prelude.{decimal}
use Rattle.serde_json.specs.Data.{Data, array}
use Rattle.serde_json.specs.Written.{compact_text}
use Rattle.value_json.specs.DocumentJson.{tree_of_document}
use Rattle.complement_file.specs.ComplementJson.{tree_of_complement}
use Rattle.edit_json.specs.WordJson.{tree_of_word}
use Rattle.edit_journal.specs.Pieces.{has_no_end}
use Rattle.edit_journal.proofs.LinesHeld.{plain_both}
use Rattle.edit_module.specs.Words.{WordTree}
use Rattle.edit_session.specs.Run.{no_apply, group_no_apply, no_entry}
use Rattle.answer_text.specs.Lines.{tree_line, fault_line}
use Rattle.lens_forms.specs.Forms.{FormTree, left_type, right_type}
use Rattle.view_hub.specs.Groups.{GroupStepped, step_group}
use Rattle.view_hub.specs.Hubs as hubs
use Rattle.view_hub.specs.Hubs.{ViewTree, HubTree, CarriedTree, Place, ViewRefusal, hub_step}
use Rattle.hub_run.specs.Answers.{tree_of_words, hub_ok_line}
use Rattle.hub_run.specs.FormLenses.{form_lens}
use Rattle.hub_run.specs.Runs.{HubState, view_lines, hub_line, hub_state_lines, hub_state_text}
use Rattle.store_run.specs.OkLines.{IsLine, IsAnswer, IsOtherLine, AreOtherLines, begins_ok}
use Rattle.store_run.specs.declared.session.StoredAnswer.{StoredAnswer}
use Rattle.store_session.proofs.Decimals.{decimal_plain}
use Rattle.store_session.proofs.AnswerLines.{answer_is_line}
use Rattle.store_session.proofs.NoLineEnd.{text_plain}
use Rattle.hub_records.specs.HubChanges.{one, group}
use Rattle.hub_session.specs.HubAnswers.{HubJournalItem, items_of_carried, group_ok_line, refused_hub_part_line, refused_edit_line, refused_with, edit_answered, hub_group_answered, hub_answer_item}

-- ---- lines of parts

last_part : (part : List ℕ) → has_no_end part ≡ true → IsLine (part ++ codes "\n")
last_part part h = record { text = part; whole = refl; plain = h }

-- a number behind some letters
numbered : (front : List ℕ) (n : ℕ) → has_no_end front ≡ true → has_no_end (front ++ decimal n) ≡ true
numbered front n h = plain_both front (decimal n) h (decimal_plain n)

ok_is_line : (n : ℕ) (c : CarriedTree) → IsLine (hub_ok_line n c)
ok_is_line n c =
    let w = compact_text (tree_of_word c.hub) in
    let vs = compact_text (tree_of_words c.views) in
    let p0 = numbered (codes "ok ") n refl in
    let p1 = plain_both (codes "ok " ++ decimal n) (codes " ") p0 refl in
    let p2 = plain_both (codes "ok " ++ decimal n ++ codes " ") w p1 (text_plain (tree_of_word c.hub)) in
    let p3 = plain_both (codes "ok " ++ decimal n ++ codes " " ++ w) (codes " ") p2 refl in
    let p4 = plain_both (codes "ok " ++ decimal n ++ codes " " ++ w ++ codes " ") vs p3 (text_plain (tree_of_words c.views)) in
    last_part (codes "ok " ++ decimal n ++ codes " " ++ w ++ codes " " ++ vs) p4

group_is_line : (n : ℕ) (cs : List CarriedTree) → IsLine (group_ok_line n cs)
group_is_line n cs =
    let list = compact_text (array (items_of_carried cs)) in
    let p0 = numbered (codes "ok ") n refl in
    let p1 = plain_both (codes "ok " ++ decimal n) (codes " group ") p0 refl in
    let p2 = plain_both (codes "ok " ++ decimal n ++ codes " group ") list p1 (text_plain (array (items_of_carried cs))) in
    last_part (codes "ok " ++ decimal n ++ codes " group " ++ list) p2

-- a line whose last letters stand in front of the LF
with_end : (part line : List ℕ) → line ≡ part ++ codes "\n" → has_no_end part ≡ true → IsLine line
with_end part line is h = record { text = part; whole = is; plain = h }

edit_refused_line : (n : ℕ) (why : ViewRefusal) → IsLine (refused_edit_line n why)
edit_refused_line n (hubs.no_view views) =
    let p0 = numbered (codes "refused ") n refl in
    with_end (codes "refused " ++ decimal n ++ codes " no-view") (codes "refused " ++ decimal n ++ codes " no-view\n") (sym (append_assoc (codes "refused " ++ decimal n) (codes " no-view") (codes "\n")))
    (plain_both (codes "refused " ++ decimal n) (codes " no-view") p0 refl)
edit_refused_line n (hubs.no_apply at cause) = answer_is_line n (no_apply at cause)

part_refused_line : (n part : ℕ) (why : ViewRefusal) → IsLine (refused_hub_part_line n part why)
part_refused_line n part (hubs.no_view views) =
    let p0 = numbered (codes "refused ") n refl in
    let p1 = plain_both (codes "refused " ++ decimal n) (codes " group ") p0 refl in
    let p2 = numbered (codes "refused " ++ decimal n ++ codes " group ") part p1 in
    with_end (codes "refused " ++ decimal n ++ codes " group " ++ decimal part ++ codes " no-view") (codes "refused " ++ decimal n ++ codes " group " ++ decimal part ++ codes " no-view\n")
    (sym (append_assoc (codes "refused " ++ decimal n ++ codes " group " ++ decimal part) (codes " no-view") (codes "\n")))
    (plain_both (codes "refused " ++ decimal n ++ codes " group " ++ decimal part) (codes " no-view") p2 refl)
part_refused_line n part (hubs.no_apply at cause) = answer_is_line n (group_no_apply part at cause)

edit_begins : (n : ℕ) (why : ViewRefusal) → begins_ok (refused_edit_line n why) ≡ false
edit_begins n (hubs.no_view views) = refl
edit_begins n (hubs.no_apply at cause) = refl

part_begins : (n part : ℕ) (why : ViewRefusal) → begins_ok (refused_hub_part_line n part why) ≡ false
part_begins n part (hubs.no_view views) = refl
part_begins n part (hubs.no_apply at cause) = refl

-- ---- answers

module _ (s : HubState) (n : ℕ) where
  abbrev Made : HubState × StoredAnswer → Type 0
  Made p = IsAnswer p.1

  of_edit : (e : Place × WordTree) (o : Option (Result (HubTree × CarriedTree) ViewRefusal)) (t : HubState) (a : StoredAnswer) → option_map (edit_answered s n e) o ≡ Some (t, a) → IsAnswer a
  of_edit e (Some (Ok r)) t a h =
      let pair : edit_answered s n e (Ok r) ≡ (t, a) = cc in
      subst Made pair (record { is_line = ok_is_line n r.1; ok = refl })
  of_edit e (Some (Err why)) t a h =
      let pair : edit_answered s n e (Err why) ≡ (t, a) = cc in
      subst Made pair (record { is_line = edit_refused_line n why; ok = edit_begins n why })
  of_edit e None t a h = cc

  of_group : (es : List (Place × WordTree)) (o : Option GroupStepped) (t : HubState) (a : StoredAnswer) → option_map (hub_group_answered s n es) o ≡ Some (t, a) → IsAnswer a
  of_group es (Some (Ok r)) t a h =
      let pair : hub_group_answered s n es (Ok r) ≡ (t, a) = cc in
      subst Made pair (record { is_line = group_is_line n r.1; ok = refl })
  of_group es (Some (Err why)) t a h =
      let pair : hub_group_answered s n es (Err why) ≡ (t, a) = cc in
      subst Made pair (record { is_line = part_refused_line n why.0 why.1; ok = part_begins n why.0 why.1 })
  of_group es None t a h = cc

  pub item_is_answer : (item : HubJournalItem) (t : HubState) (a : StoredAnswer) → hub_answer_item s n item ≡ Some (t, a) → IsAnswer a
  item_is_answer (Ok (one e)) t a h = of_edit e (hub_step form_lens s.forms s.hub e) t a h
  item_is_answer (Ok (group es)) t a h = of_group es (step_group form_lens s.forms s.hub es) t a h
  item_is_answer (Err fault) t a h =
      let pair : refused_with s (fault_line n fault) ≡ (t, a) = cc in
      subst Made pair (record { is_line = answer_is_line n (no_entry fault); ok = refl })

-- ---- the state lines

tree_is_other : (label : List ℕ) (d : Data) → has_no_end label ≡ true → begins_ok (tree_line label d) ≡ false → IsOtherLine (tree_line label d)
tree_is_other label d h other =
    let front = plain_both label (codes " ") h refl in
    record { is_line = last_part (label ++ codes " " ++ compact_text d) (plain_both (label ++ codes " ") (compact_text d) front (text_plain d)); other = other }

-- lines in front of others
in_front : (line rest : List ℕ) → IsOtherLine line → AreOtherLines rest → AreOtherLines (line ++ rest)
in_front line rest here others = (line ∷ others.0, ap (λ x. line ++ x) others.1, (here, others.2))

views_are_other : (v : ℕ) (ls : List FormTree) (vs : List ViewTree) → AreOtherLines (view_lines v ls vs)
views_are_other v [] vs = ([], refl, tt)
views_are_other v (l ∷ ls) [] = ([], refl, tt)
views_are_other v (l ∷ ls) (w ∷ vs) =
    let view = tree_line (codes "view " ++ decimal v) (tree_of_document (right_type l) w.doc) in
    let comp = tree_line (codes "complement " ++ decimal v) (tree_of_complement l w.comp) in
    let rest = view_lines (v + 1) ls vs in
    subst AreOtherLines (sym (append_assoc view comp rest))
    (in_front view (comp ++ rest) (tree_is_other (codes "view " ++ decimal v) (tree_of_document (right_type l) w.doc) (numbered (codes "view ") v refl) refl)
    (in_front comp rest (tree_is_other (codes "complement " ++ decimal v) (tree_of_complement l w.comp) (numbered (codes "complement ") v refl) refl) (views_are_other (v + 1) ls vs)))

forms_are_other : (ls : List FormTree) (h : HubTree) → AreOtherLines (hub_state_lines ls h)
forms_are_other [] h = ([], refl, tt)
forms_are_other (l ∷ ls) h =
    in_front (hub_line l h.hub) (view_lines 0 (l ∷ ls) h.views) (tree_is_other (codes "hub") (tree_of_document (left_type l) h.hub) refl refl) (views_are_other 0 (l ∷ ls) h.views)

pub states_are_other : (t : HubState) → AreOtherLines (hub_state_text t)
states_are_other t = forms_are_other t.forms t.hub
