-- The text of a log is cut into its records: none of them has a line feed in it.
use Rattle.std.proofs.Common.{◌≡◌, ℕ, List, [], ◌∷◌, ◌++◌, Bool, true, false, cond, ◌&&◌, Option, Some, None, refl, sym, ap, subst, ◌∙◌}
use Rattle.std.specs.List.{list_all, onto_first}
use Rattle.std.specs.Prelude.{nat_eq}
use Rattle.std.proofs.lemmas.List.Folds.{list_all-append}
use Rattle.serde_json.specs.Data.{Data}
use Rattle.serde_json.specs.Written.{compact_text}
use Rattle.edit_journal.specs.Pieces.{has_no_end, texts_of}
use Rattle.edit_journal.proofs.Feeding.{both_plain}
use Rattle.edit_module.specs.Views.{change_tree}
use Rattle.edit_session.specs.Step.{TripleTree}
use Rattle.lens_forms.specs.Forms.{FormTree}
use Rattle.program_writing.specs.Canonical.{canonical}
use Rattle.store_records.specs.RecordJson.{tree_of_program, tree_of_version, tree_of_change_record, tree_of_snapshot}
use Rattle.store_session.proofs.NoLineEnd.{text_plain}
use Rattle.embed_session.specs.Changes.{HasChangeText}
use Rattle.embed_session.specs.Cutting.{onto}
use Rattle.embed_session.specs.Embedded.{IsOpened, IsReopened, IfOpen, shows_part, IsShown, text_of}
use Rattle.embed_session.specs.Logs.{log_text, IsRecorded, records_line, IsLogged, IsSameSession}
use Rattle.embed_session.specs.Records.{IsFirstRecord, version_text}
use Rattle.embed_session.specs.States.{IsShow, IsSnapshotText}
use Rattle.embed_session.specs.declared.embedded.EmbeddedSession.{EmbeddedSession}
use Rattle.embed_session.specs.declared.embedded.EmbeddedSession.TheVariants as embedded
use Rattle.embed_session.specs.declared.outcome.Outcome.{Outcome}
use Rattle.embed_session.specs.declared.outcome.Outcome.TheVariants as outcome
use Rattle.embed_session.specs.declared.outcome.Part.TheVariants as part
use Rattle.embed_session.specs.declared.accepted.Accepted.{Accepted}
use Rattle.embed_session.specs.declared.running.Running.{Running}
use Rattle.embed_session.proofs.CutTexts.{onto_empty}
use Rattle.embed_session.proofs.LoggedLines.{is_reopened}

-- ---- cutting

-- bytes without an LF are in front of the first text
onto_plain : (begun rest : List ℕ) → has_no_end begun ≡ true → texts_of (begun ++ rest) ≡ onto begun (texts_of rest)
onto_plain [] rest h = refl
onto_plain (byte ∷ begun) rest h =
    let parts = both_plain byte begun h in
    rw parts.0 (ap (onto_first byte) (onto_plain begun rest parts.1))

first_and_rest : (a b : Bool) → (a && b) ≡ true → (a ≡ true) × (b ≡ true)
first_and_rest true b h = (refl, h)
first_and_rest false b h = cc

pub log_cut : (records : List (List ℕ)) → list_all has_no_end records ≡ true → texts_of (log_text records) ≡ records
log_cut [] h = refl
log_cut (text ∷ records) h =
    let plain = first_and_rest (has_no_end text) (list_all has_no_end records) h in
    onto_plain text (10 ∷ log_text records) plain.0 ∙ onto_empty text (texts_of (log_text records)) ∙ ap (λ (rs : List (List ℕ)). text ∷ rs) (log_cut records plain.1)

-- ---- the records

compact_plain : (tree : Data) (text : List ℕ) → text ≡ compact_text tree → has_no_end text ≡ true
compact_plain tree text h = ap has_no_end h ∙ text_plain tree

pub first_plain : (program text : List ℕ) → IsFirstRecord program text → has_no_end text ≡ true
first_plain program text h = compact_plain (tree_of_program (canonical h.tree)) text h.is_text.compact

pub change_plain : (form : FormTree) (last : Option Accepted) (text : List ℕ) → HasChangeText form last text → has_no_end text ≡ true
change_plain form (Some a) text h = compact_plain (tree_of_change_record (change_tree a.change)) text h.is_text
change_plain form None text h = absurd h

pub snapshot_plain : (form : FormTree) (t : TripleTree) (text : List ℕ) → IsSnapshotText form t text → has_no_end text ≡ true
snapshot_plain form t text h = compact_plain (tree_of_snapshot form t.left t.comp t.right) text h.is_text.compact

pub version_plain : (version : ℕ) → has_no_end (version_text version) ≡ true
version_plain version = by_test (nat_eq version 1) where
  by_test : (b : Bool) → has_no_end (cond b (compact_text tree_of_version) []) ≡ true
  by_test true = text_plain tree_of_version
  by_test false = refl

-- ---- the records of lines that were given

both_lists : (xs ys all : List (List ℕ)) → all ≡ xs ++ ys → list_all has_no_end xs ≡ true → list_all has_no_end ys ≡ true → list_all has_no_end all ≡ true
both_lists xs ys all e h k = ap (list_all has_no_end) e ∙ list_all-append has_no_end xs ys ∙ rw (h, k) refl

one_plain : (text : List ℕ) (own : List (List ℕ)) → own ≡ text ∷ [] → has_no_end text ≡ true → list_all has_no_end own ≡ true
one_plain text own e h = ap (list_all has_no_end) e ∙ rw h refl

shown_plain : (r : Running) (next : EmbeddedSession) → shows_part r part.Change outcome.Done next → has_no_end (text_of next) ≡ true
shown_plain r (embedded.Open m) h = change_plain _ r.accepted m.text.items h.text
shown_plain r (embedded.Refused why line) h = absurd h
shown_plain r (embedded.StateRefused why) h = absurd h
shown_plain r (embedded.RecordsRefused why) h = absurd h
shown_plain r embedded.NoMemory h = absurd h

not_shown : (next k : EmbeddedSession) → (outcome.Done ≡ outcome.NoSession) × (next ≡ k) → has_no_end (text_of next) ≡ true
not_shown next k h = let no = h.0 in cc

change_shown : (stepped next : EmbeddedSession) → IsShown stepped part.Change outcome.Done next → has_no_end (text_of next) ≡ true
change_shown (embedded.Open r) next h = shown_plain r next h
change_shown (embedded.Refused why line) next h = not_shown next (embedded.Refused why line) h
change_shown (embedded.StateRefused why) next h = not_shown next (embedded.StateRefused why) h
change_shown (embedded.RecordsRefused why) next h = not_shown next (embedded.RecordsRefused why) h
change_shown embedded.NoMemory next h = not_shown next embedded.NoMemory h

none_plain : (own : List (List ℕ)) → own ≡ [] → list_all has_no_end own ≡ true
none_plain own e = ap (list_all has_no_end) e

own_plain : (end : Outcome) (stepped next : EmbeddedSession) (own : List (List ℕ)) → records_line end stepped own next → list_all has_no_end own ≡ true
own_plain outcome.Done stepped next own h = one_plain (text_of next) own h.are (change_shown stepped next h.shown)
own_plain outcome.Blank stepped next own h = none_plain own h.0
own_plain (outcome.NoApply part at cause) stepped next own h = none_plain own h.0
own_plain (outcome.NotAChange fault) stepped next own h = none_plain own h.0
own_plain outcome.LineFeed stepped next own h = none_plain own h.0
own_plain outcome.Full stepped next own h = none_plain own h.0
own_plain outcome.NoChange stepped next own h = none_plain own h.0
own_plain outcome.NoMemory stepped next own h = none_plain own h.0
own_plain outcome.NoSession stepped next own h = none_plain own h.0

pub logged_plain : (before after : EmbeddedSession) (lines records : List (List ℕ)) → IsLogged before lines records after → list_all has_no_end records ≡ true
logged_plain before after [] records h = none_plain records h.0
logged_plain before after (line ∷ lines) records h =
    both_lists h.own h.rest records h.are (own_plain h.end h.stepped h.next h.own h.recorded) (logged_plain h.next after lines h.rest h.others_logged)

-- ---- the text of a log

both_true : (a b : Bool) → a ≡ true → b ≡ true → (a && b) ≡ true
both_true true b h k = k
both_true false b h k = cc

pub log_reopened_text : (program : List ℕ) (lines records : List (List ℕ)) (first : Running) (last reopened : EmbeddedSession) → IsOpened program (embedded.Open first)
    → IsLogged (embedded.Open first) lines records last → IsReopened (texts_of (log_text (first.text.items ∷ records))) reopened → IsSameSession last reopened
log_reopened_text program lines records first last reopened h given again =
    let plain = both_true (has_no_end first.text.items) (list_all has_no_end records) (first_plain program first.text.items h.fresh.text)
    (logged_plain (embedded.Open first) last lines records given) in
    is_reopened program lines records first last reopened h given (subst (λ rs. IsReopened rs reopened) (log_cut (first.text.items ∷ records) plain) again)
