-- The reading of a program part: its start, one more piece, and its ends.
use Rattle.std.proofs.Common.{◌≡◌, inl, inr, ℕ, ◌+◌, ◌≤◌, List, [], ◌++◌, length, true, false, Ok, Err, refl, sym, ap, subst, ◌∙◌, append-nil, append_assoc, length-append, arith}
use Rattle.std.specs.List.{list_any}
use Rattle.std.proofs.KnownBytes.{Consumes-nil, Consumes-trans}
use Rattle.lens_io.specs.Calls.{Took}
use Rattle.lens_io.specs.declared.failed.TakeFault.{TakeFault}
use Rattle.lens_io.specs.declared.failed.TakeFault.TheVariants.{SourceFault, TooLong, NoMemory}
use Rattle.lens_io.specs.declared.source.Source as OfSource
use Rattle.edit_journal.specs.Lines.{line_of}
use Rattle.edit_journal.specs.Pieces.{FedLines, nothing_fed, fed, last_line, has_no_end}
use Rattle.edit_journal.proofs.Feeding.{joins, plain, none_ended as no_end_left}
use Rattle.script_input.specs.Coming.{ended_lines, has_separator, HasLastPiece, HadNoPart}
use Rattle.script_input.specs.Lines.{program_part, is_separator_line}
use Rattle.script_input.specs.Parts.{IsHead, IsTaken, ReadsPart, ReadsAll, NotYet, StopsHead}
use Rattle.script_input.specs.PartSteps.{IsProgramFront, MovesOn}
use Rattle.script_input.specs.Taking.{TakenInput, IsTakenWithin, StopsAt, TakesMore}
use Rattle.script_input.specs.declared.limits.TheConstants.{PIECE_BYTES}
use Rattle.script_input.proofs.EndedLines.{count, few_ended}
use Rattle.script_input.proofs.LastCalls.{but_last}
use Rattle.script_input.proofs.Fronts.{no_front, none_behind}

-- the separator is not in these bytes, and a piece more was taken by the last call
pub last_piece : {S : Type 0} (source : OfSource.Ghosts S) (old new : S) (before piece : List ℕ) → source.last new ≡ length piece → length piece ≤ PIECE_BYTES → has_separator before ≡ false
    → HasLastPiece source old new (before ++ piece)
last_piece source old new before piece once few none = record {
  within = omega (arith, once, length-append before piece);
  few = omega (arith, once, few);
  not_before = ap has_separator (but_last before piece (source.last new) once) ∙ none;
}

-- the bytes taken, cut in another way
pub recut : {S : Type 0} (source : OfSource.Ghosts S) (s s' : S) (old new : TakenInput) (front rest : List ℕ) (P : List ℕ → List ℕ → Type 0) → IsTaken source s s' old front rest → new.taken ≡ old.taken → (m : MovesOn (front ++ rest) new P)
    → IsTaken source s s' new m.front m.rest
recut source s s' old new front rest P t count m = record {
  consumes = subst (Took source s s') m.same t.consumes;
  lines = m.lines;
  count = count ∙ t.count ∙ ap length m.same;
  few = omega (arith, t.few, ap length m.same);
  last = subst (HadNoPart source s s') m.same t.last;
}

-- What is found in a program part is kept in a value: of a front of the part, and of the part.
module _ {S P : Type 0} (source : OfSource.Ghosts S) (HoldsFront Holds : P → List ℕ → Type 0) where
  -- the reading has come to this input and this value, and has met no separator
  pub record ReadsOn (s s' : S) (input : TakenInput) (program : P) : Type 0 where
    pub front : List ℕ
    pub rest : List ℕ
    pub taken : IsTaken source s s' input front rest
    pub is_front : IsProgramFront front
    pub holds : HoldsFront program front

  -- nothing was taken
  pub reads_nothing : (s : S) (input : TakenInput) (program : P) → input.lines ≡ nothing_fed → input.taken ≡ 0 → HoldsFront program [] → ReadsOn s s input program
  reads_nothing s input program lines taken holds = record {
    front = [];
    rest = [];
    taken = record { consumes = Consumes-nil (source.left s); lines = lines; count = taken; few = omega arith; last = inl (refl, refl) };
    is_front = no_front;
    holds = holds;
  }

  -- the separator was among the lines
  pub part_read : (s s' : S) (old new : TakenInput) (before program : P) (r : ReadsOn s s' old before)
      → MovesOn (r.front ++ r.rest) new (λ front rest. (part : List ℕ) × Holds program part × IsHead front part) → new.taken ≡ old.taken
      → ReadsPart source s s' Holds program new
  part_read s s' old new before program r m count = record {
    front = m.front;
    rest = m.rest;
    part = m.holds.0;
    taken = recut source s s' old new r.front r.rest (λ front rest. (part : List ℕ) × Holds program part × IsHead front part) r.taken count m;
    head = m.holds.2;
    holds = m.holds.1;
  }

  -- no ended line is left, and none was the separator
  pub record Waits (s s' : S) (input : TakenInput) (program : P) : Type 0 where
    pub front : List ℕ
    pub rest : List ℕ
    pub taken : IsTaken source s s' input front rest
    pub is_front : IsProgramFront front
    pub holds : HoldsFront program front
    pub none : ended_lines rest ≡ []

  pub waits : (s s' : S) (old new : TakenInput) (before program : P) (r : ReadsOn s s' old before)
      → MovesOn (r.front ++ r.rest) new (λ front rest. IsProgramFront front × HoldsFront program front × (ended_lines rest ≡ [])) → new.taken ≡ old.taken
      → Waits s s' new program
  waits s s' old new before program r m count = record {
    front = m.front;
    rest = m.rest;
    taken = recut source s s' old new r.front r.rest (λ front rest. IsProgramFront front × HoldsFront program front × (ended_lines rest ≡ [])) r.taken count m;
    is_front = m.holds.0;
    holds = m.holds.1;
    none = m.holds.2;
  }

  -- memory ran out before a piece was asked for
  pub head_runs_out : (s s' : S) (input : TakenInput) (program : P) → ReadsOn s s' input program → StopsHead source s s' NoMemory
  head_runs_out s s' input program r = record { bytes = r.front ++ r.rest; consumes = r.taken.consumes; at_most = r.taken.few; stops = tt; not_yet = r.taken.last }

  module _ (s mid s' : S) (input next : TakenInput) (program : P) (w : Waits s mid input program) where
    abbrev pub bytes : List ℕ
    bytes = w.front ++ w.rest

    no_separator : has_separator bytes ≡ false
    no_separator = w.is_front.has w.rest ∙ ap (list_any is_separator_line) w.none

    all_consumed : (more : List ℕ) → Took source mid s' more → Took source s s' (bytes ++ more)
    all_consumed more h = Consumes-trans (source.left s) (source.left mid) (source.left s') bytes more w.taken.consumes h

    count_all : (more : List ℕ) → next.taken ≡ input.taken + length more → next.taken ≡ length (bytes ++ more)
    count_all more taken = taken ∙ ap (λ n. n + length more) w.taken.count ∙ sym (length-append bytes more)

    -- one more piece
    pub reads_more : (t : TakesMore source mid s' input next (Ok true)) → length t.bytes ≤ PIECE_BYTES → ReadsOn s s' next program
    reads_more t few =
        let whole : bytes ++ t.bytes ≡ w.front ++ (w.rest ++ t.bytes) = append_assoc w.front w.rest t.bytes in
        let count : next.taken ≡ length (w.front ++ (w.rest ++ t.bytes)) = count_all t.bytes t.taken ∙ ap length whole in
        record {
          front = w.front;
          rest = w.rest ++ t.bytes;
          taken = record {
            consumes = subst (Took source s s') whole (all_consumed t.bytes t.consumes);
            lines = t.grows.lines ∙ ap (λ l. fed l t.bytes) w.taken.lines ∙ joins nothing_fed w.rest t.bytes;
            count = count;
            few = omega (arith, count, t.at_most);
            last = subst (HadNoPart source s s') whole (inr (last_piece source s s' bytes t.bytes t.once few no_separator));
          };
          is_front = w.is_front;
          holds = w.holds;
        }

    -- a fault
    pub head_stops : (fault : TakeFault) (t : TakesMore source mid s' input next (Err fault)) → length t.bytes ≤ PIECE_BYTES → StopsHead source s s' fault
    head_stops fault t few = record {
      bytes = bytes ++ t.bytes;
      consumes = all_consumed t.bytes t.consumes;
      at_most = omega (arith, count_all t.bytes t.taken, t.at_most);
      stops = subst (λ n. StopsAt n fault) (count_all t.bytes t.taken) t.stays.stops;
      not_yet = by_fault fault t few;
    } where
      none_more : (more : List ℕ) → more ≡ [] → has_separator (bytes ++ more) ≡ false
      none_more more none = ap (λ b. has_separator (bytes ++ b)) none ∙ ap has_separator (append-nil bytes) ∙ no_separator

      by_fault : (fault : TakeFault) (t : TakesMore source mid s' input next (Err fault)) → length t.bytes ≤ PIECE_BYTES → NotYet source s s' (bytes ++ t.bytes) fault
      by_fault SourceFault t few = none_more t.bytes t.stays.none
      by_fault TooLong t few = none_more t.bytes t.stays.none
      by_fault NoMemory t few = inr (last_piece source s s' bytes t.bytes t.once few no_separator)

    -- ---- the end of the input

    rest_plain : has_no_end w.rest ≡ true
    rest_plain = (no_end_left nothing_fed w.rest w.none).1

    same_lines : TakesMore source mid s' input next (Ok false) → next.lines ≡ fed nothing_fed w.rest
    same_lines t = t.grows.lines ∙ ap (fed input.lines) (t.grows.at_end refl).0 ∙ w.taken.lines

    pub none_left : TakesMore source mid s' input next (Ok false) → next.lines.ended ≡ []
    none_left t = ap (λ (l : FedLines). l.ended) (same_lines t) ∙ w.none

    pub last_is : TakesMore source mid s' input next (Ok false) → last_line next.lines.begun ≡ last_line (line_of w.rest)
    last_is t = ap (λ (l : FedLines). last_line l.begun) (same_lines t ∙ plain [] [] w.rest rest_plain)

    pub all_read : (whole : P) (t : TakesMore source mid s' input next (Ok false)) → (has_no_end w.rest ≡ true → Holds whole (program_part bytes)) → ReadsAll source s s' Holds whole
    all_read whole t holds =
        let end = t.grows.at_end refl in
        let same : bytes ++ t.bytes ≡ bytes = ap (λ b. bytes ++ b) end.0 ∙ append-nil bytes in
        record {
          bytes = bytes;
          whole = record {
            consumes = subst (Took source s s') same (all_consumed t.bytes t.consumes);
            at_end = end.1;
            gave_nothing = t.once ∙ ap length end.0;
            within = omega (arith, w.taken.count, end.2);
            no_separator = no_separator;
            no_journal = none_behind w.front w.rest w.is_front rest_plain;
          };
          holds = holds rest_plain;
        }

    -- memory ran out at the last line
    pub waits_stops : (t : TakesMore source mid s' input next (Ok false)) → length t.bytes ≤ PIECE_BYTES → StopsHead source s s' NoMemory
    waits_stops t few = record {
      bytes = bytes ++ t.bytes;
      consumes = all_consumed t.bytes t.consumes;
      at_most = omega (arith, count_all t.bytes t.taken, t.at_most);
      stops = tt;
      not_yet = inr (last_piece source s s' bytes t.bytes t.once few no_separator);
    }

-- what the input holds behind a program part
pub part_within : {S P : Type 0} (source : OfSource.Ghosts S) (s s' : S) (Holds : P → List ℕ → Type 0) (program : P) (input : TakenInput) → ReadsPart source s s' Holds program input → IsTakenWithin input
part_within source s s' Holds program input r = (
  omega (arith, r.taken.count, r.taken.few),
  omega (arith, r.taken.count, ap count r.taken.lines, few_ended nothing_fed r.rest, length-append r.front r.rest),
)
