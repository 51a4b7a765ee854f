-- What the reading of the script of a hub has found, and the end of a command whose program part is refused.
use Rattle.std.proofs.Common.{◌≡◌, ◌⊎◌, inl, inr, ℕ, List, ◌++◌, Result, Ok, Err, refl, sym, subst, arith}
use Rattle.lens_forms.specs.Forms.{FormTree}
use Rattle.lens_io.specs.declared.failed.TakeFault.{TakeFault}
use Rattle.lens_io.specs.declared.sink.Sink as OfSink
use Rattle.lens_io.specs.declared.source.Source as OfSource
use Rattle.program_terms.specs.Terms.{ProgramTree}
use Rattle.script_input.specs.Lines.{program_part}
use Rattle.script_input.specs.Parts.{ReadsPart, ReadsAll}
use Rattle.script_input.specs.Skipped.{SkipsRest}
use Rattle.script_input.specs.Taking.{TakenInput}
use Rattle.command_ends.specs.declared.status.Status.{Status}
use Rattle.command_ends.specs.declared.status.Status.TheVariants.{SourceFault, DiskFault}
use Rattle.hub_run.specs.FoundLenses.{HasRefusalLine, IsRefusalOf, IsRefusedHub}
use Rattle.hub_run.specs.HubHeads.{HasPieces}
use Rattle.hub_run.specs.Lenses.{HubRefusal, lenses_of, hub_refusal_line}
use Rattle.hub_run.specs.declared.pieces.Pieces.{Pieces}
use Rattle.hub_run.specs.declared.views.HubRefused.{HubRefused}
use Rattle.hub_run.specs.declared.views.HubRefused.TheVariants.{TooManyViews, InView, ViewsDiffer, NoMemory}
use Rattle.store_new.specs.Command.{PartMeaning}
use Rattle.store_new.specs.ScriptReading.{ReadsFront, RefusesWith}
use Rattle.store_new.proofs.Reading.{part_of, has_part, took_behind, within_behind, skipping_stops}
use Rattle.hub_new.specs.HubParts.{IsAcceptedHub, view_programs}
use Rattle.hub_new.specs.HubReading.{ReadsHub, ReadsRefusedHub, RefusesViews}

-- ---- a script that is a program part alone

module _ {S : Type 0} (source : OfSource.Ghosts S) (s s' : S) (kept : Pieces) (r : ReadsAll source s s' HasPieces kept) where
  pub alone_hub : (ps : List ProgramTree) (ls : List FormTree) → ((part : List ℕ) → HasPieces kept part → IsAcceptedHub part ps ls) → ReadsHub source s s' ps ls
  alone_hub ps ls accepted = record { bytes = r.bytes; took = r.whole.consumes; read = r.whole.at_end; within = r.whole.within; accepted = accepted (program_part r.bytes) r.holds }

  pub alone_unread : (refused : HubRefused) → ((part : List ℕ) → HasPieces kept part → IsRefusedHub (lenses_of part) refused) → HasRefusalLine refused → ReadsRefusedHub source s s' refused
  alone_unread refused is known = record {
    bytes = r.bytes;
    took = r.whole.consumes;
    at_most = omega (arith, r.whole.within);
    whole = inr (r.whole.no_separator, r.whole.at_end);
    is = is (program_part r.bytes) r.holds;
    known = known;
  }

-- ---- a script with a separator

module _ {S : Type 0} (source : OfSource.Ghosts S) (s mid : S) (kept : Pieces) (input : TakenInput) (r : ReadsPart source s mid HasPieces kept input) where
  pub part_unread : (refused : HubRefused) → ((part : List ℕ) → HasPieces kept part → IsRefusedHub (lenses_of part) refused) → HasRefusalLine refused → ReadsRefusedHub source s mid refused
  part_unread refused is known = record {
    bytes = r.front ++ r.rest;
    took = r.taken.consumes;
    at_most = r.taken.few;
    whole = inl (has_part source s mid kept input r);
    is = subst (λ part. IsRefusedHub (lenses_of part) refused) (sym (r.head.is_part r.rest)) (is r.part r.holds);
    known = known;
  }

  module _ (s' : S) (ps : List ProgramTree) (ls : List FormTree) (accepted : (part : List ℕ) → HasPieces kept part → IsAcceptedHub part ps ls) where
    pub rest_hub : SkipsRest input.taken (source.left mid) (source.left s') (Ok tt) → ReadsHub source s s' ps ls
    rest_hub skips = record {
      bytes = (r.front ++ r.rest) ++ skips.more;
      took = took_behind source s mid kept input r s' skips.more skips.consumes;
      read = skips.ends.0;
      within = within_behind source s mid kept input r s' skips;
      accepted = subst (λ part. IsAcceptedHub part ps ls) (sym (part_of source s mid kept input r skips.more)) (accepted r.part r.holds);
    }

    pub rest_unread : (fault : TakeFault) → SkipsRest input.taken (source.left mid) (source.left s') (Err fault) → ReadsFront view_programs source s s' fault
    rest_unread fault skips = skipping_stops source s mid kept input r s' view_programs ls (accepted r.part r.holds).has_lenses fault skips

-- ---- a program part that is refused

-- a program part of views, or of one view more
abbrev pub views_part : (X : Type 0) → (List ℕ → Result X HubRefusal) → PartMeaning
views_part X accepted = record { Accepted = X; Refusal = HubRefusal; accepted = accepted; refusal_line = hub_refusal_line }

module _ {X : Type 0} (accepted : List ℕ → Result X HubRefusal) {K : Type 0} (sink : OfSink.Ghosts K) (k k' : K) (outcome : Result X HubRefusal) (status : Status) where
  abbrev Refuses : Type 0
  Refuses = RefusesWith (views_part X accepted) sink k k' outcome status

  by_refusal : (refused : HubRefused) (refusal : HubRefusal) → outcome ≡ Err refusal → IsRefusalOf refused refusal → RefusesViews sink k k' refused status → Refuses
  by_refusal refused refusal is same h = elim (h.ends refusal same) [
    | inl given ↦ inl (hub_refusal_line refusal, record { refusal = refusal; is = is; is_line = refl }, given)
    | inr none ↦ inr none
  ]

  -- the refusal of the outcome is written
  pub refuses_views : (refused : HubRefused) → IsRefusedHub outcome refused → RefusesViews sink k k' refused status → Refuses
  refuses_views TooManyViews is h = by_refusal TooManyViews is.0 is.1 is.2 h
  refuses_views (InView v refused) is h = by_refusal (InView v refused) is.0 is.1 is.2 h
  refuses_views (ViewsDiffer v) is h = by_refusal (ViewsDiffer v) is.0 is.1 is.2 h
  refuses_views NoMemory is h = inr (h.memory refl)

  -- the refusal of a program part never ends with a fault of the source or of the disk
  pub never_device : Refuses → (status ≡ SourceFault) ⊎ (status ≡ DiskFault) → ⊥
  never_device (inl (line, is, inl (same, given))) (inl e) = cc
  never_device (inl (line, is, inl (same, given))) (inr e) = cc
  never_device (inl (line, is, inr (same, given))) (inl e) = cc
  never_device (inl (line, is, inr (same, given))) (inr e) = cc
  never_device (inr (same, given)) (inl e) = cc
  never_device (inr (same, given)) (inr e) = cc
