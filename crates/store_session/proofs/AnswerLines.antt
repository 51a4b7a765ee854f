-- An answer's line is one line, which begins with `ok ` where there is a payload; the state lines are other lines.
use Rattle.std.proofs.Common.{◌≡◌, ℕ, List, [], ◌∷◌, ◌++◌, Bool, true, false, not, codes, cond, Option, Some, None, option_map, Ok, Err, refl, sym, ap, subst, ◌∙◌, append_assoc, append-nil}
use Rattle.std.specs.Prelude.{decimal, is_some}
use Rattle.texts.specs.declared.side.Side.{Side}
use Rattle.texts.specs.declared.side.Side.TheVariants.{Left, Right}
use Rattle.serde_json.specs.Data.{Data}
use Rattle.serde_json.specs.Written.{compact_text}
use Rattle.value_json.specs.DocumentJson.{tree_of_document}
use Rattle.complement_file.specs.ComplementJson.{tree_of_complement}
use Rattle.edit_module.specs.declared.fault.Cause.{Cause}
use Rattle.edit_module.specs.declared.fault.Cause.TheVariants.{Kind, Place, Tag, Range, Overflow, Value, Present, Length, Deep}
use Rattle.edit_module.specs.Changes.{ChangeTree}
use Rattle.edit_json.specs.WordJson.{tree_of_word}
use Rattle.edit_journal.specs.Pieces.{has_no_end}
use Rattle.edit_journal.specs.EntryJson.{LineFault, line_too_long, not_json, not_an_entry, not_an_edit, side_text, tree_of_entries, change_of_line}
use Rattle.edit_journal.specs.declared.line.Line.{Line}
use Rattle.edit_session.specs.Step.{TripleTree}
use Rattle.edit_session.specs.Run.{carried, no_apply, group_carried, group_no_apply, no_entry, is_refused}
use Rattle.answer_text.specs.Reasons.{cause_text, fault_text}
use Rattle.answer_text.specs.Lines.{tree_line}
use Rattle.run_answers.specs.Answers.{answer_line}
use Rattle.run_answers.specs.ItemRuns.{JournalItem, JournalAnswer}
use Rattle.lens_forms.specs.Forms.{left_type, right_type}
use Rattle.store_run.specs.OkLines.{IsLine, IsAnswer, AreOtherLines, begins_ok}
use Rattle.store_run.specs.declared.session.StoredAnswer.{StoredAnswer}
use Rattle.store_session.specs.StoredStates.{StoredState, state_with, change_text, payload_of, stored_answer, taken, answer_item, answer, state_text}
use Rattle.store_session.proofs.Decimals.{decimal_plain}
use Rattle.store_session.proofs.NoLineEnd.{text_plain}
use Rattle.edit_journal.proofs.LinesHeld.{plain_both}

-- ---- lines of parts

last_part : (part : List ℕ) → has_no_end part ≡ true → IsLine (part ++ codes "\n")
last_part part h = record { text = part; whole = refl; plain = h }

side_plain : (side : Side) → has_no_end (side_text side) ≡ true
side_plain Left = refl
side_plain Right = refl

cause_plain : (cause : Cause) → has_no_end (cause_text cause) ≡ true
cause_plain Kind = refl
cause_plain Place = refl
cause_plain Tag = refl
cause_plain Range = refl
cause_plain Overflow = refl
cause_plain Value = refl
cause_plain Present = refl
cause_plain Length = refl
cause_plain Deep = refl

fault_plain : (fault : LineFault) → has_no_end (fault_text fault) ≡ true
fault_plain line_too_long = refl
fault_plain not_json = refl
fault_plain not_an_entry = refl
fault_plain not_an_edit = refl

-- ---- answers

pub answer_is_line : (n : ℕ) (a : JournalAnswer) → IsLine (answer_line n a)
answer_is_line n (carried side w) =
    let p0 = plain_both (codes "ok ") (decimal n) refl (decimal_plain n) in
    let p1 = plain_both (codes "ok " ++ decimal n) (codes " ") p0 refl in
    let p2 = plain_both (codes "ok " ++ decimal n ++ codes " ") (side_text side) p1 (side_plain side) in
    let p3 = plain_both (codes "ok " ++ decimal n ++ codes " " ++ side_text side) (codes " ") p2 refl in
    let p4 = plain_both (codes "ok " ++ decimal n ++ codes " " ++ side_text side ++ codes " ") (compact_text (tree_of_word w)) p3 (text_plain (tree_of_word w)) in
    last_part (codes "ok " ++ decimal n ++ codes " " ++ side_text side ++ codes " " ++ compact_text (tree_of_word w)) p4
answer_is_line n (no_apply at cause) =
    let p0 = plain_both (codes "refused ") (decimal n) refl (decimal_plain n) in
    let p1 = plain_both (codes "refused " ++ decimal n) (codes " no-apply ") p0 refl in
    let p2 = plain_both (codes "refused " ++ decimal n ++ codes " no-apply ") (decimal at) p1 (decimal_plain at) in
    let p3 = plain_both (codes "refused " ++ decimal n ++ codes " no-apply " ++ decimal at) (codes " ") p2 refl in
    let p4 = plain_both (codes "refused " ++ decimal n ++ codes " no-apply " ++ decimal at ++ codes " ") (cause_text cause) p3 (cause_plain cause) in
    last_part (codes "refused " ++ decimal n ++ codes " no-apply " ++ decimal at ++ codes " " ++ cause_text cause) p4
answer_is_line n (group_carried words) =
    let p0 = plain_both (codes "ok ") (decimal n) refl (decimal_plain n) in
    let p1 = plain_both (codes "ok " ++ decimal n) (codes " group ") p0 refl in
    let p2 = plain_both (codes "ok " ++ decimal n ++ codes " group ") (compact_text (tree_of_entries words)) p1 (text_plain (tree_of_entries words)) in
    last_part (codes "ok " ++ decimal n ++ codes " group " ++ compact_text (tree_of_entries words)) p2
answer_is_line n (group_no_apply part at cause) =
    let p0 = plain_both (codes "refused ") (decimal n) refl (decimal_plain n) in
    let p1 = plain_both (codes "refused " ++ decimal n) (codes " group ") p0 refl in
    let p2 = plain_both (codes "refused " ++ decimal n ++ codes " group ") (decimal part) p1 (decimal_plain part) in
    let p3 = plain_both (codes "refused " ++ decimal n ++ codes " group " ++ decimal part) (codes " no-apply ") p2 refl in
    let p4 = plain_both (codes "refused " ++ decimal n ++ codes " group " ++ decimal part ++ codes " no-apply ") (decimal at) p3 (decimal_plain at) in
    let p5 = plain_both (codes "refused " ++ decimal n ++ codes " group " ++ decimal part ++ codes " no-apply " ++ decimal at) (codes " ") p4 refl in
    let p6 = plain_both (codes "refused " ++ decimal n ++ codes " group " ++ decimal part ++ codes " no-apply " ++ decimal at ++ codes " ") (cause_text cause) p5 (cause_plain cause) in
    last_part (codes "refused " ++ decimal n ++ codes " group " ++ decimal part ++ codes " no-apply " ++ decimal at ++ codes " " ++ cause_text cause) p6
answer_is_line n (no_entry fault) =
    let p0 = plain_both (codes "refused ") (decimal n) refl (decimal_plain n) in
    let p1 = plain_both (codes "refused " ++ decimal n) (codes " ") p0 refl in
    let p2 = plain_both (codes "refused " ++ decimal n ++ codes " ") (fault_text fault) p1 (fault_plain fault) in
    last_part (codes "refused " ++ decimal n ++ codes " " ++ fault_text fault) p2

pub begins : (n : ℕ) (a : JournalAnswer) (b : Bool) → is_refused a ≡ b → begins_ok (answer_line n a) ≡ not b
begins n (carried side w) true h = cc
begins n (carried side w) false h = refl
begins n (no_apply at cause) true h = refl
begins n (no_apply at cause) false h = cc
begins n (group_carried words) true h = cc
begins n (group_carried words) false h = refl
begins n (group_no_apply part at cause) true h = refl
begins n (group_no_apply part at cause) false h = cc
begins n (no_entry fault) true h = refl
begins n (no_entry fault) false h = cc

-- there is a payload where the item is not refused
payload_some : (change : ChangeTree) (x : JournalAnswer) (b : Bool) → is_refused x ≡ b → is_some (payload_of (Ok change) x) ≡ not b
payload_some change x true h = ap (λ b. is_some (cond b None (Some (change_text change)))) h
payload_some change x false h = ap (λ b. is_some (cond b None (Some (change_text change)))) h

pub has_payload : (s : StoredState) (item : JournalItem) (u : TripleTree) (x : JournalAnswer) → taken s item ≡ Some (u, x) → is_some (payload_of item x) ≡ not (is_refused x)
has_payload s (Ok change) u x h = payload_some change x (is_refused x) refl
has_payload s (Err fault) u x h =
    let pair : (s.triple, no_entry fault) ≡ (u, x) = cc in
    ap (λ (p : TripleTree × JournalAnswer). not (is_refused p.1)) pair

module _ (s : StoredState) (n : ℕ) where
  item_answered : (item : JournalItem) (u : TripleTree) (x : JournalAnswer) → taken s item ≡ Some (u, x) → IsAnswer (stored_answer n item x)
  item_answered item u x h =
      record {
        is_line = answer_is_line n x;
        ok = begins n x (is_refused x) refl ∙ sym (has_payload s item u x h);
      }

  of_taken : (item : JournalItem) (t : StoredState) (a : StoredAnswer) (o : Option (TripleTree × JournalAnswer)) → taken s item ≡ o
      → option_map {U = StoredState × StoredAnswer} (λ (step : TripleTree × JournalAnswer). (state_with s.form step.0, stored_answer n item step.1)) o ≡ Some (t, a) → IsAnswer a
  of_taken item t a (Some step) took h =
      let pair : (state_with s.form step.0, stored_answer n item step.1) ≡ (t, a) = cc in
      subst (λ (p : StoredState × StoredAnswer). IsAnswer p.1) pair (item_answered item step.0 step.1 took)
  of_taken item t a None took h = cc

pub item_is_answer : (s t : StoredState) (n : ℕ) (item : JournalItem) (a : StoredAnswer) → answer_item s n item ≡ Some (t, a) → IsAnswer a
item_is_answer s t n item a h = of_taken s n item t a (taken s item) refl h

pub is_answer : (s t : StoredState) (n : ℕ) (line : Line) (a : StoredAnswer) → answer s n line ≡ Some (t, a) → IsAnswer a
is_answer s t n line a h = of_taken s n (change_of_line line) t a (taken s (change_of_line line)) refl h

-- ---- the state lines

tree_is_line : (label : List ℕ) (d : Data) → has_no_end label ≡ true → IsLine (tree_line label d)
tree_is_line label d h =
    let front = plain_both label (codes " ") h refl in
    last_part (label ++ codes " " ++ compact_text d) (plain_both (label ++ codes " ") (compact_text d) front (text_plain d))

pub states_are_other : (t : StoredState) → AreOtherLines (state_text t)
states_are_other t =
    let x = tree_of_document (left_type t.form) t.triple.left in
    let y = tree_of_document (right_type t.form) t.triple.right in
    let c = tree_of_complement t.form t.triple.comp in
    let left = tree_line (codes "left") x in
    let right = tree_line (codes "right") y in
    let comp = tree_line (codes "complement") c in
    let whole : (left ++ right) ++ comp ≡ left ++ (right ++ (comp ++ [])) =
    append_assoc left right comp ∙ ap (λ z. left ++ (right ++ z)) (sym (append-nil comp)) in (
      left ∷ right ∷ comp ∷ [],
      whole,
      (
        record { is_line = tree_is_line (codes "left") x refl; other = refl },
        (
          record { is_line = tree_is_line (codes "right") y refl; other = refl },
          (record { is_line = tree_is_line (codes "complement") c refl; other = refl }, tt),
        ),
      ),
    )
