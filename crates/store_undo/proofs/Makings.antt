-- What is made, from what was opened and from what its parts say.
use Rattle.std.proofs.Common.{◌≡◌, ℕ, ◌-◌, Bool, cond, List, length, take, Result, Some, Ok, Err, sym, ap, subst, ◌∙◌}
use Rattle.std.specs.Prelude.{nat_lt}
use Rattle.edit_module.specs.Changes.{ChangeTree}
use Rattle.edit_session.specs.Step.{TripleTree}
use Rattle.edit_session.specs.Views.{triple_tree}
use Rattle.lens_forms.specs.Forms.{FormTree, form_tree, left_type, right_type}
use Rattle.store_records.specs.declared.record_fault.RecordFault.{RecordFault}
use Rattle.store_session.specs.Stands.{Standing, stands}
use Rattle.store_session.specs.Standings.{standing}
use Rattle.store_undo.specs.Making.{AreTexts, IsMade, StoodTwice, UndoneBy, kept_before}
use Rattle.store_undo.specs.UndoRecords.{version_due}
use Rattle.store_undo.specs.Undoing.{changes_of, last_payloads, payloads_before, last_changes}
use Rattle.store_run.specs.declared.undo_session.Making.{Making}
use Rattle.store_undo.specs.declared.opening.OpenedTwice.{OpenedTwice}
use Rattle.store_undo.proofs.Earlier.{stood_then, some_last}
use Rattle.store_undo.proofs.VersionRecords.{undone_stands}
use Rattle.edit_undo.specs.Undone.{BothTrees, BringsBack}

same_standing : (s t : Standing) (r : Result Standing RecordFault) → r ≡ Ok s → r ≡ Ok t → s ≡ t
same_standing s t (Ok now) e f =
    let one : now ≡ s = cc in
    let other : now ≡ t = cc in
    sym one ∙ other
same_standing s t (Err fault) e f = cc

-- where there are so many changes, the payloads before them are kept
kept_is : (count : ℕ) (held : List (List ℕ)) (cs : List ChangeTree) → last_changes count held ≡ Some cs → take (kept_before count (length held)) held ≡ payloads_before count held
kept_is count held cs last =
    let some = some_last (nat_lt count (length held)) (changes_of (last_payloads count held)) cs last in
    ap (λ (b : Bool). take (cond b (length held - count) (length held)) held) some.0

module _ (count : ℕ) (held : List (List ℕ)) (twice : OpenedTwice) (cs : List ChangeTree) (stood : StoodTwice count held twice) (last : last_changes count held ≡ Some cs) where
  abbrev form : FormTree
  form = form_tree twice.opened.session.lens.typed

  abbrev now : Standing
  now = standing form (triple_tree twice.opened.session.triple) twice.opened.count twice.opened.version

  -- what stood before the changes is what was opened first
  abbrev UndoneTwice : BothTrees → Type 0
  UndoneTwice words = UndoneBy form (triple_tree twice.earlier) cs (now.triple, words)

  same_before : stood.was ≡ (stood_then count held now cs stood.now last).was
  same_before =
      let parts = stood_then count held now cs stood.now last in
      same_standing stood.was parts.was (stands (payloads_before count held)) (sym (ap stands (kept_is count held cs last)) ∙ stood.before) parts.stood

  undone_twice : UndoneTwice (stood_then count held now cs stood.now last).over.words
  undone_twice =
      let parts = stood_then count held now cs stood.now last in
      let at_was = subst (λ (s : Standing). UndoneBy s.form s.triple cs (now.triple, parts.over.words)) (sym same_before) parts.over.undone_is in
      let at_form = subst (λ (l : FormTree). UndoneBy l stood.was.triple cs (now.triple, parts.over.words)) stood.form at_was in
      subst (λ (t : TripleTree). UndoneBy form t cs (now.triple, parts.over.words)) stood.triple at_form

  pub accepted_of : (r : TripleTree × BothTrees) × UndoneBy form (triple_tree twice.earlier) cs r
  accepted_of = ((now.triple, (stood_then count held now cs stood.now last).over.words), undone_twice)

  pub made_of : (made : Making) → made.version ≡ version_due twice.opened.version
      → ((r : TripleTree × BothTrees) → UndoneBy form (triple_tree twice.earlier) cs r
      → AreTexts form (triple_tree twice.earlier) r.1 made.texts × BringsBack (left_type form) (right_type form) r.1 r.0 (triple_tree twice.earlier))
      → IsMade count held made
  made_of made version texts =
      let parts = stood_then count held now cs stood.now last in
      let words = parts.over.words in
      let same : triple_tree twice.earlier ≡ parts.was.triple = sym stood.triple ∙ ap (λ (s : Standing). s.triple) same_before in
      let here = texts (now.triple, words) undone_twice in
      let are = subst (λ (t : TripleTree). AreTexts form t words made.texts) same here.0 in
      let back = subst (λ (t : TripleTree). BringsBack (left_type form) (right_type form) words now.triple t) same here.1 in
      let was = parts.was in
      record {
        u = record { now = now; before = was.triple; words = words };
        is = parts.undoes;
        version = version;
        snapshot = are.snapshot;
        lines = are.lines;
        takes_back = record {
          words = back;
          consistent = are.has.consistent;
          stand = undone_stands held now was.triple stood.now are.has;
        };
      }
