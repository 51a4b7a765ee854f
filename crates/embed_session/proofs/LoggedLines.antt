-- The records of lines that a session was given stand for the session behind them.
use Rattle.std.proofs.Common.{◌≡◌, ℕ, List, [], ◌∷◌, ◌++◌, Bool, true, false, Ok, sym, ap, subst, ◌∙◌, append_assoc}
use Rattle.std.proofs.lemmas.List.{append-nil}
use Rattle.edit_journal.specs.EntryJson.{change_of_line}
use Rattle.edit_journal.specs.Lines.{line_of, is_blank}
use Rattle.edit_journal.specs.declared.line.Line.{Line}
use Rattle.edit_session.specs.Run.{is_refused}
use Rattle.edit_session.specs.Sessions.{SessionOf}
use Rattle.edit_session.specs.Views.{triple_tree}
use Rattle.run_answers.specs.ItemRuns.{JournalAnswer}
use Rattle.lens_flat.specs.declared.flat.ReadyForm.{ReadyForm}
use Rattle.lens_forms.specs.Forms.{FormTree, form_tree}
use Rattle.lens_forms.specs.Typing.{is_typed}
use Rattle.store_session.specs.Standings.{standing}
use Rattle.embed_session.specs.Embedded.{IsOpened, IsReopened, IfOpen, takes_line, takes_bytes, IsStepped, shows_part, text_of}
use Rattle.embed_session.specs.Logs.{IsLog, IsSameSession, IsRecorded, records_line, IsLogged}
use Rattle.embed_session.specs.Steps.{form_of, has_line_feed, outcome_of, IsItemStep, line_step, IsLineStep, IsAsBefore}
use Rattle.embed_session.specs.declared.embedded.EmbeddedSession.{EmbeddedSession}
use Rattle.embed_session.specs.declared.embedded.EmbeddedSession.TheVariants as embedded
use Rattle.embed_session.specs.declared.outcome.Outcome.{Outcome}
use Rattle.embed_session.specs.declared.outcome.Outcome.TheVariants as outcome
use Rattle.embed_session.specs.declared.outcome.Part.TheVariants as part
use Rattle.embed_session.specs.declared.running.Running.{Running}
use Rattle.embed_session.proofs.ItemSteps.{refused_stays, no_apply_refused, not_a_change_refused, never_blank}
use Rattle.embed_session.proofs.LogRecords.{opened_stands, item_change, done_item, log_reopened}

-- the records stand for what is remembered
abbrev StandsFor : List (List ℕ) → EmbeddedSession → Type 0
StandsFor records (embedded.Open r) = IsLog records r
StandsFor records k = ⊥

-- a session of the same form at the same triple has the same log
same_log : (records : List (List ℕ)) (r m : Running) → IsLog records r → form_of m ≡ form_of r → triple_tree m.session.triple ≡ triple_tree r.session.triple → IsLog records m
same_log records r m g form triple = record {
  count = g.count;
  stand = g.stand ∙ ap (λ (l : FormTree). Ok (standing l (triple_tree r.session.triple) g.count 2)) (sym form) ∙ ap (λ t. Ok (standing (form_of m) t g.count 2)) (sym triple);
  typed = ap is_typed form ∙ g.typed;
}

-- no record was added
no_record : (records own : List (List ℕ)) (k next : EmbeddedSession) → StandsFor records k → own ≡ [] → next ≡ k → StandsFor (records ++ own) next
no_record records own k next g none same =
    subst (λ (x : EmbeddedSession). StandsFor (records ++ own) x) (sym same) (subst (λ rs. StandsFor rs k) (sym (ap (λ rs. records ++ rs) none ∙ append-nil records)) g)

-- ---- a line that is not accepted

left_alone : (records : List (List ℕ)) (b : Bool) (r m : Running) (line : Line) (end : Outcome) → IsLog records r
    → ((x : JournalAnswer) → end ≡ outcome_of x → is_refused x ≡ true) → line_step b r line end m → IsLog records m
left_alone records true r m line end g refused s =
    same_log records r m g (ap (λ (x : SessionOf ReadyForm). form_tree x.lens.typed) s.session) (ap (λ (x : SessionOf ReadyForm). triple_tree x.triple) s.session)
left_alone records false r m line end g refused s =
    let a = s.answers in
    same_log records r m g (ap (λ (x : ReadyForm). form_tree x.typed) s.lens)
    (refused_stays (form_of r) (triple_tree r.session.triple) (triple_tree m.session.triple) a.answer (change_of_line line) a.step (refused a.answer a.ended))

refused_line : (records : List (List ℕ)) (line : List ℕ) (r : Running) (end : Outcome) (stepped : EmbeddedSession) → IsLog records r
    → ((x : JournalAnswer) → end ≡ outcome_of x → is_refused x ≡ true) → IfOpen stepped (IsLineStep r line end) → StandsFor records stepped
refused_line records line r end (embedded.Open m) g refused s = left_alone records (is_blank (line_of line)) r m (line_of line) end g refused s
refused_line records line r end (embedded.Refused why text) g refused s = absurd s
refused_line records line r end (embedded.StateRefused why) g refused s = absurd s
refused_line records line r end (embedded.RecordsRefused why) g refused s = absurd s
refused_line records line r end embedded.NoMemory g refused s = absurd s

as_before : (records : List (List ℕ)) (r : Running) (stepped : EmbeddedSession) → IsLog records r → IfOpen stepped (IsAsBefore r) → StandsFor records stepped
as_before records r (embedded.Open m) g s = same_log records r m g (ap (λ (x : ReadyForm). form_tree x.typed) s.lens) s.triple
as_before records r (embedded.Refused why text) g s = absurd s
as_before records r (embedded.StateRefused why) g s = absurd s
as_before records r (embedded.RecordsRefused why) g s = absurd s
as_before records r embedded.NoMemory g s = absurd s

-- ---- a line that is accepted

shown_change : (records own : List (List ℕ)) (r m : Running) (line : Line) (next : EmbeddedSession) → IsLog records r → IsItemStep r line outcome.Done m
    → shows_part m part.Change outcome.Done next → own ≡ text_of next ∷ [] → StandsFor (records ++ own) next
shown_change records own r m line (embedded.Open x) g s h are =
    let logged = item_change records x.text.items r m line g s h.text in
    subst (λ rs. IsLog (records ++ rs) x) (sym are)
    (same_log (records ++ x.text.items ∷ []) m x logged (ap (λ (y : SessionOf ReadyForm). form_tree y.lens.typed) h.session) (ap (λ (y : SessionOf ReadyForm). triple_tree y.triple) h.session))
shown_change records own r m line (embedded.Refused why text) g s h are = absurd h
shown_change records own r m line (embedded.StateRefused why) g s h are = absurd h
shown_change records own r m line (embedded.RecordsRefused why) g s h are = absurd h
shown_change records own r m line embedded.NoMemory g s h are = absurd h

accepted_line : (records own : List (List ℕ)) (line : List ℕ) (r : Running) (stepped next : EmbeddedSession) → IsLog records r → IfOpen stepped (IsLineStep r line outcome.Done)
    → IsRecorded stepped own next → StandsFor (records ++ own) next
accepted_line records own line r (embedded.Open m) next g s h =
    shown_change records own r m (line_of line) next g (done_item (is_blank (line_of line)) r (line_of line) m s) h.shown h.are
accepted_line records own line r (embedded.Refused why text) next g s h = absurd s
accepted_line records own line r (embedded.StateRefused why) next g s h = absurd s
accepted_line records own line r (embedded.RecordsRefused why) next g s h = absurd s
accepted_line records own line r embedded.NoMemory next g s h = absurd s

-- ---- one line

taken_line : (records own : List (List ℕ)) (line : List ℕ) (r : Running) (end : Outcome) (stepped next : EmbeddedSession) → IsLog records r → takes_line r line end stepped
    → records_line end stepped own next → StandsFor (records ++ own) next
taken_line records own line r outcome.Done stepped next g s h = accepted_line records own line r stepped next g s h
taken_line records own line r outcome.Blank stepped next g s h = no_record records own stepped next (refused_line records line r outcome.Blank stepped g never_blank s) h.0 h.1
taken_line records own line r (outcome.NoApply part at cause) stepped next g s h =
    no_record records own stepped next (refused_line records line r (outcome.NoApply part at cause) stepped g (λ x. no_apply_refused x part at cause) s) h.0 h.1
taken_line records own line r (outcome.NotAChange fault) stepped next g s h =
    no_record records own stepped next (refused_line records line r (outcome.NotAChange fault) stepped g (λ x. not_a_change_refused x fault) s) h.0 h.1
taken_line records own line r outcome.LineFeed stepped next g s h = absurd s
taken_line records own line r outcome.Full stepped next g s h =
    no_record records own stepped next (subst (λ (x : EmbeddedSession). StandsFor records x) (sym s.1) g) h.0 h.1
taken_line records own line r outcome.NoChange stepped next g s h = absurd s
taken_line records own line r outcome.NoMemory stepped next g s h = no_record records own stepped next (as_before records r stepped g s) h.0 h.1
taken_line records own line r outcome.NoSession stepped next g s h = absurd s

fed_line : (records own : List (List ℕ)) (line : List ℕ) (r : Running) (end : Outcome) (stepped next : EmbeddedSession) → IsLog records r → end ≡ outcome.LineFeed → stepped ≡ embedded.Open r
    → records_line end stepped own next → StandsFor (records ++ own) next
fed_line records own line r end stepped next g is same h =
    let none = subst (λ (e : Outcome). records_line e stepped own next) is h in
    no_record records own stepped next (subst (λ (x : EmbeddedSession). StandsFor records x) (sym same) g) none.0 none.1

given_bytes : (b : Bool) (records own : List (List ℕ)) (line : List ℕ) (r : Running) (end : Outcome) (stepped next : EmbeddedSession) → IsLog records r → takes_bytes b r line end stepped
    → records_line end stepped own next → StandsFor (records ++ own) next
given_bytes true records own line r end stepped next g s h = fed_line records own line r end stepped next g s.0 s.1 h
given_bytes false records own line r end stepped next g s h = taken_line records own line r end stepped next g s h

given_line : (records own : List (List ℕ)) (line : List ℕ) (before : EmbeddedSession) (end : Outcome) (stepped next : EmbeddedSession) → StandsFor records before → IsStepped before line end stepped
    → records_line end stepped own next → StandsFor (records ++ own) next
given_line records own line (embedded.Open r) end stepped next g s h = given_bytes (has_line_feed line) records own line r end stepped next g s h
given_line records own line (embedded.Refused why text) end stepped next g s h = absurd g
given_line records own line (embedded.StateRefused why) end stepped next g s h = absurd g
given_line records own line (embedded.RecordsRefused why) end stepped next g s h = absurd g
given_line records own line embedded.NoMemory end stepped next g s h = absurd g

-- ---- all lines

given_lines : (earlier records : List (List ℕ)) (lines : List (List ℕ)) (before after : EmbeddedSession) → StandsFor earlier before → IsLogged before lines records after
    → StandsFor (earlier ++ records) after
given_lines earlier records [] before after g h = no_record earlier records before after g h.0 h.1
given_lines earlier records (line ∷ lines) before after g h =
    subst (λ rs. StandsFor rs after) (append_assoc earlier h.own h.rest ∙ sym (ap (λ rs. earlier ++ rs) h.are))
    (given_lines (earlier ++ h.own) h.rest lines h.next after (given_line earlier h.own line before h.end h.stepped h.next g h.steps h.recorded) h.others_logged)

same_session : (records : List (List ℕ)) (last reopened : EmbeddedSession) → StandsFor records last → IsReopened records reopened → IsSameSession last reopened
same_session records (embedded.Open r) reopened g h = log_reopened records r reopened g h
same_session records (embedded.Refused why text) reopened g h = absurd g
same_session records (embedded.StateRefused why) reopened g h = absurd g
same_session records (embedded.RecordsRefused why) reopened g h = absurd g
same_session records embedded.NoMemory reopened g h = absurd g

pub is_reopened : (program : List ℕ) (lines records : List (List ℕ)) (first : Running) (last reopened : EmbeddedSession) → IsOpened program (embedded.Open first)
    → IsLogged (embedded.Open first) lines records last → IsReopened (first.text.items ∷ records) reopened → IsSameSession last reopened
is_reopened program lines records first last reopened h given again =
    same_session (first.text.items ∷ records) last reopened (given_lines (first.text.items ∷ []) records lines (embedded.Open first) last (opened_stands program first h) given) again
