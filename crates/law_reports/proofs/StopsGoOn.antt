-- What was written when a call stopped is the beginning of the report of its whole input.
use Rattle.command_ends.specs.Statuses.{IsFinished}
use Rattle.std.proofs.Common.{◌≡◌, inl, inr, ℕ, List, [], ◌++◌, take, drop, Option, Some, refl, sym, ap, subst, ◌∙◌, append_assoc, append-nil, take-append-drop}
use Rattle.std.specs.Io.KnownBytes.{Appends}
use Rattle.lens_io.specs.Calls.{IsRead}
use Rattle.lens_io.specs.declared.sink.Sink as OfSink
use Rattle.lens_io.specs.declared.source.Source as OfSource
use Rattle.script_input.specs.Coming.{IsWhole}
use Rattle.script_input.specs.Lines.{program_part, journal}
use Rattle.run_scripts.specs.ScriptEnds.{AnswersSome, RefusesPart, WouldWrite, IsCleanStop}
use Rattle.run_scripts.specs.Report.{report}
use Rattle.run_scripts.specs.declared.script_state.ScriptState as OfScript
use Rattle.command_ends.specs.declared.status.Status.{Status}
use Rattle.command_ends.specs.declared.status.Status.TheVariants.{Done, SomeRefused, Usage, ProgramRefused, StoreRefused, SourceFault, SinkFault, DiskFault, InputTooLong, NoMemory}
use Rattle.law_reports.specs.Beginnings.{BeginsWith, WritesBeginning}
use Rattle.law_reports.proofs.ReportsGoOn.{answers_first, refused, refusal_stays}

-- a list begins with itself, and with a front of what it begins with
itself : (whole text : List ℕ) → whole ≡ text → BeginsWith whole text
itself whole text h = record { rest = []; is = h ∙ sym (append-nil text) }

front_of : (count : ℕ) (whole text : List ℕ) → BeginsWith whole text → BeginsWith whole (take count text)
front_of count whole text b = record {
  rest = drop count text ++ b.rest;
  is = b.is ∙ ap (λ l. l ++ b.rest) (sym (take-append-drop count text)) ∙ append_assoc (take count text) (drop count text) b.rest;
}

same_text : (one other : Option (List ℕ × Status)) (x y : List ℕ × Status) → one ≡ Some x → other ≡ Some y → one ≡ other → x.0 ≡ y.0
same_text one other x y h k e =
    let same : Some x ≡ Some y = sym h ∙ e ∙ k in
    let pair : x ≡ y = cc in
    ap (λ (r : List ℕ × Status). r.0) pair

module _ {H S K : Type 0} (script : OfScript.Ghosts H) (source : OfSource.Ghosts S) (sink : OfSink.Ghosts K) (old new : S × K) where
  module _ (held held' : List ℕ) (known : sink.held old.1 ≡ Some held) (known' : sink.held new.1 ≡ Some held') where
    -- what a sink that tells what it holds was given
    gave_known : (text : List ℕ) → Appends (sink.held old.1) (sink.held new.1) text → held' ≡ held ++ text
    gave_known text h = subst (λ o. Appends (Some held) o text) known' (subst (λ o. Appends o (sink.held new.1) text) known h)

    module _ (bytes more whole : List ℕ) (status : Status) (end : IsRead source old.0 new.0 → more ≡ []) (reported : report script (bytes ++ more) ≡ Some (whole, status)) where
      -- at its end nothing follows
      at_end : IsRead source old.0 new.0 → report script (bytes ++ more) ≡ report script bytes
      at_end e = ap (λ l. report script (bytes ++ l)) (end e) ∙ ap (report script) (append-nil bytes)

      answers : (text : List ℕ) → AnswersSome script bytes text → BeginsWith whole text
      answers text a = answers_first script bytes text a more whole status reported

      refusal_is : (refusal : script.Refusal) → RefusesPart script source old.0 new.0 bytes refusal → report script (bytes ++ more) ≡ Some (script.refusal_line refusal, ProgramRefused)
      refusal_is refusal r = by_part r.whole where
        by_part : IsWhole source old.0 new.0 bytes → report script (bytes ++ more) ≡ Some (script.refusal_line refusal, ProgramRefused)
        by_part (inl part) = refusal_stays script bytes refusal part.has r.refused more
        by_part (inr e) = at_end e.1 ∙ refused script (script.accepted (program_part bytes)) (journal bytes) refusal r.refused

      refusal_begins : (refusal : script.Refusal) → RefusesPart script source old.0 new.0 bytes refusal → BeginsWith whole (script.refusal_line refusal)
      refusal_begins refusal r =
          itself whole (script.refusal_line refusal)
          (same_text (report script (bytes ++ more)) (report script (bytes ++ more)) (whole, status) (script.refusal_line refusal, ProgramRefused) reported (refusal_is refusal r) refl)

      would_begin : (text : List ℕ) → WouldWrite script source sink old new bytes text → BeginsWith whole text
      would_begin text (inl a) = answers text a.1
      would_begin text (inr (inl r)) =
          let b = refusal_begins r.0 r.1 in
          record { rest = b.rest; is = b.is ∙ ap (λ l. l ++ b.rest) (sym r.2) }
      would_begin text (inr (inr e)) =
          itself whole text (same_text (report script (bytes ++ more)) (report script bytes) (whole, status) (text, e.1.0) reported e.1.1 (at_end e.0))

      pub stop_begins : (stop : Status) → (IsFinished stop → ⊥) → IsCleanStop script source sink old new bytes stop → WritesBeginning held held' whole
      stop_begins Done not clean = absurd (not (inl refl))
      stop_begins SomeRefused not clean = absurd (not (inr refl))
      stop_begins ProgramRefused not clean = record {
        text = script.refusal_line clean.0;
        appends = gave_known (script.refusal_line clean.0) clean.2;
        begins = refusal_begins clean.0 clean.1;
      }
      stop_begins SourceFault not clean = record { text = clean.1.0; appends = gave_known clean.1.0 clean.1.2; begins = answers clean.1.0 ([], clean.1.1) }
      stop_begins SinkFault not clean = record {
        text = take clean.2.0.0 clean.0;
        appends = gave_known (take clean.2.0.0 clean.0) clean.2.0.2;
        begins = front_of clean.2.0.0 whole clean.0 (would_begin clean.0 clean.1);
      }
      stop_begins InputTooLong not clean = record { text = clean.1.0; appends = gave_known clean.1.0 clean.1.2; begins = answers clean.1.0 ([], clean.1.1) }
      stop_begins NoMemory not clean = record { text = clean.0; appends = gave_known clean.0 clean.2; begins = answers clean.0 clean.1 }
      stop_begins Usage not clean = absurd clean
      stop_begins StoreRefused not clean = absurd clean
      stop_begins DiskFault not clean = absurd clean
