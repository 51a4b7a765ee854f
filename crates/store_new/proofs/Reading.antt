-- What the reading of a script has found.
use Rattle.std.proofs.Common.{◌≡◌, inl, inr, ℕ, ◌+◌, ◌≤◌, List, [], ◌++◌, length, true, false, Ok, Err, sym, ap, subst, ◌∙◌, append_assoc, length-append, arith}
use Rattle.std.proofs.KnownBytes.{Consumes-trans}
use Rattle.program_accepted.specs.Program.{lens_of}
use Rattle.program_accepted.specs.Refused.{IsKnown, IsProgramRefusal}
use Rattle.program_accepted.specs.declared.program.Refused.{Refused}
use Rattle.lens_forms.specs.Forms.{FormTree}
use Rattle.lens_io.specs.Calls.{Took}
use Rattle.lens_io.specs.declared.failed.TakeFault.{TakeFault}
use Rattle.lens_io.specs.declared.failed.TakeFault.TheVariants as taking
use Rattle.lens_io.specs.declared.source.Source as OfSource
use Rattle.script_input.specs.Skipped.{SkipsRest}
use Rattle.script_input.specs.Taking.{TakenInput, StopsAt, StopsSkipping}
use Rattle.script_input.specs.declared.limits.TheConstants.{MOST_BYTES}
use Rattle.program_terms.specs.Terms.{ProgramTree}
use Rattle.script_input.specs.Coming.{has_separator, HadNoPart, HasLastPiece, HasPart}
use Rattle.script_input.specs.Lines.{program_part}
use Rattle.script_input.specs.Parts.{HoldsPart, ReadsPart, ReadsAll, StopsHead}
use Rattle.script_input.specs.declared.script.ProgramText.{ProgramText}
use Rattle.store_new.specs.Command.{PartMeaning}
use Rattle.store_new.specs.NewEnds.{StopsAfter}
use Rattle.store_new.specs.ScriptReading.{ReadsScript, ReadsRefused, ReadsFront}
use Rattle.store_new.specs.Reading.{status_at}
use Rattle.program_accepted.specs.Program.{IsAccepted}
use Rattle.store_new.specs.Scripts.{IsAcceptedPart, PartGoesOn, one_program}

-- ---- a stop

-- before the separator nothing is refused
none_yet : (part : PartMeaning) (bytes : List ℕ) → has_separator bytes ≡ false → PartGoesOn part bytes
none_yet part bytes none has = let never : true ≡ false = sym has ∙ none in cc

-- the reading stopped behind a program part that is accepted
pub stops_behind : (part : PartMeaning) (bytes : List ℕ) (fault : TakeFault) → IsAcceptedPart part bytes → StopsAt (length bytes) fault → StopsAfter part bytes (status_at fault)
stops_behind part bytes taking.SourceFault accepted stops = (stops, λ has. accepted)
stops_behind part bytes taking.TooLong accepted stops = (stops, λ has. accepted)
stops_behind part bytes taking.NoMemory accepted stops = tt

nothing_has : has_separator [] ≡ true → ⊥
nothing_has h = cc

-- ---- a script that is a program part alone

module _ {S : Type 0} (source : OfSource.Ghosts S) (s s' : S) where
  -- the reading stopped before the separator
  pub head_stops : (part : PartMeaning) (fault : TakeFault) → StopsHead source s s' fault → ReadsFront part source s s' fault
  head_stops part fault h = record { bytes = h.bytes; took = h.consumes; at_most = h.at_most; stops = by_fault fault h } where
    by_fault : (fault : TakeFault) → (h : StopsHead source s s' fault) → StopsAfter part h.bytes (status_at fault)
    by_fault taking.SourceFault h = (h.stops, none_yet part h.bytes h.not_yet)
    by_fault taking.TooLong h = (h.stops, none_yet part h.bytes h.not_yet)
    by_fault taking.NoMemory h = tt

  module _ (program : ProgramText) (r : ReadsAll source s s' HoldsPart program) where
    pub alone_read : (p : ProgramTree) (l : FormTree) → ((part : List ℕ) → HoldsPart program part → IsAccepted part p l) → ReadsScript source s s' p l
    alone_read p l accepted = record { bytes = r.bytes; took = r.whole.consumes; read = r.whole.at_end; within = r.whole.within; accepted = accepted (program_part r.bytes) r.holds }

    pub alone_refused : (refused : Refused) → ((part : List ℕ) → HoldsPart program part → IsProgramRefusal (lens_of part) refused) → IsKnown refused → ReadsRefused source s s' refused
    alone_refused refused is known = record { bytes = r.bytes; took = r.whole.consumes; at_most = omega (arith, r.whole.within); whole = inr (r.whole.no_separator, r.whole.at_end); is = is (program_part r.bytes) r.holds; known = known }

-- ---- a script with a separator, whose program part is kept in any value

module _ {S : Type 0} {P : Type 0} {Holds : P → List ℕ → Type 0} (source : OfSource.Ghosts S) (s mid : S) (program : P) (input : TakenInput) (r : ReadsPart source s mid Holds program input) where
  pub part_of : (more : List ℕ) → program_part ((r.front ++ r.rest) ++ more) ≡ r.part
  part_of more = ap program_part (append_assoc r.front r.rest more) ∙ r.head.is_part (r.rest ++ more)

  -- the separator has come with the last call of the source
  pub has_part : HasPart source s mid (r.front ++ r.rest)
  has_part = record { last = called r.taken.last; has = r.head.has r.rest; stays = λ more. part_of more ∙ sym (r.head.is_part r.rest) } where
    called : HadNoPart source s mid (r.front ++ r.rest) → HasLastPiece source s mid (r.front ++ r.rest)
    called (inl (unasked, none)) = absurd (nothing_has (subst (λ b. has_separator b ≡ true) none (r.head.has r.rest)))
    called (inr last) = last

  count : (more : List ℕ) → length ((r.front ++ r.rest) ++ more) ≡ input.taken + length more
  count more = length-append (r.front ++ r.rest) more ∙ ap (λ n. n + length more) (sym r.taken.count)

  pub part_accepted : (meaning : PartMeaning) (x : meaning.Accepted) (more : List ℕ) → meaning.accepted r.part ≡ Ok x → IsAcceptedPart meaning ((r.front ++ r.rest) ++ more)
  part_accepted meaning x more is = (x, ap meaning.accepted (part_of more) ∙ is)

  -- what comes behind the separator was taken, too
  module _ (s' : S) where
    pub took_behind : (more : List ℕ) → Took source mid s' more → Took source s s' ((r.front ++ r.rest) ++ more)
    took_behind more took = Consumes-trans (source.left s) (source.left mid) (source.left s') (r.front ++ r.rest) more r.taken.consumes took

    pub within_behind : (skips : SkipsRest input.taken (source.left mid) (source.left s') (Ok tt)) → length ((r.front ++ r.rest) ++ skips.more) ≤ MOST_BYTES
    within_behind skips = omega (arith, count skips.more, skips.ends.1)

    pub behind_stops : (meaning : PartMeaning) (x : meaning.Accepted) → meaning.accepted r.part ≡ Ok x → (fault : TakeFault) (more : List ℕ) → Took source mid s' more
        → input.taken + length more ≤ MOST_BYTES + 1 → StopsAt (input.taken + length more) fault → ReadsFront meaning source s s' fault
    behind_stops meaning x is fault more took few stops = record {
      bytes = (r.front ++ r.rest) ++ more;
      took = took_behind more took;
      at_most = omega (arith, count more, few);
      stops = stops_behind meaning ((r.front ++ r.rest) ++ more) fault (part_accepted meaning x more is) (subst (λ n. StopsAt n fault) (sym (count more)) stops);
    }

    pub skipping_stops : (meaning : PartMeaning) (x : meaning.Accepted) → meaning.accepted r.part ≡ Ok x → (fault : TakeFault)
        → SkipsRest input.taken (source.left mid) (source.left s') (Err fault) → ReadsFront meaning source s s' fault
    skipping_stops meaning x is fault skips = behind_stops meaning x is fault skips.more skips.consumes skips.at_most (as_stop fault skips.stops) where
      as_stop : (fault : TakeFault) → StopsSkipping (input.taken + length skips.more) fault → StopsAt (input.taken + length skips.more) fault
      as_stop taking.SourceFault h = h
      as_stop taking.TooLong h = h
      as_stop taking.NoMemory h = absurd h

-- ---- a script with a separator, whose program part is one program

module _ {S : Type 0} (source : OfSource.Ghosts S) (s mid : S) (program : ProgramText) (input : TakenInput) (r : ReadsPart source s mid HoldsPart program input) where
  pub part_refused : (refused : Refused) → ((part : List ℕ) → HoldsPart program part → IsProgramRefusal (lens_of part) refused) → IsKnown refused → ReadsRefused source s mid refused
  part_refused refused is known = record {
    bytes = r.front ++ r.rest;
    took = r.taken.consumes;
    at_most = r.taken.few;
    whole = inl (has_part source s mid program input r);
    is = subst (λ part. IsProgramRefusal (lens_of part) refused) (sym (r.head.is_part r.rest)) (is r.part r.holds);
    known = known;
  }

  pub rest_accepted : (p : ProgramTree) (l : FormTree) (more : List ℕ) → ((part : List ℕ) → HoldsPart program part → IsAccepted part p l) → IsAccepted (program_part ((r.front ++ r.rest) ++ more)) p l
  rest_accepted p l more accepted = subst (λ part. IsAccepted part p l) (sym (part_of source s mid program input r more)) (accepted r.part r.holds)

  module _ (s' : S) (p : ProgramTree) (l : FormTree) (accepted : (part : List ℕ) → HoldsPart program part → IsAccepted part p l) where
    pub rest_read : SkipsRest input.taken (source.left mid) (source.left s') (Ok tt) → ReadsScript source s s' p l
    rest_read skips = record {
      bytes = (r.front ++ r.rest) ++ skips.more;
      took = took_behind source s mid program input r s' skips.more skips.consumes;
      read = skips.ends.0;
      within = within_behind source s mid program input r s' skips;
      accepted = rest_accepted p l skips.more accepted;
    }

    pub rest_stops : (fault : TakeFault) (more : List ℕ) → Took source mid s' more → input.taken + length more ≤ MOST_BYTES + 1 → StopsAt (input.taken + length more) fault → ReadsFront one_program source s s' fault
    rest_stops fault more took few stops = behind_stops source s mid program input r s' one_program l (accepted r.part r.holds).has_lens fault more took few stops

    pub skip_stops : (fault : TakeFault) → SkipsRest input.taken (source.left mid) (source.left s') (Err fault) → ReadsFront one_program source s s' fault
    skip_stops fault skips = skipping_stops source s mid program input r s' one_program l (accepted r.part r.holds).has_lens fault skips
