-- The reading of a journal part: its start, the lines that have ended, one more piece, and its ends.
use Rattle.std.proofs.Common.{◌≡◌, ℕ, ◌+◌, ◌≤◌, true, false, cond, List, [], ◌∷◌, ◌++◌, length, Ok, Err, refl, sym, ap, ap₂, subst, ◌∙◌, append_assoc, append-nil, length-append, arith}
use Rattle.std.specs.Prelude.{◌==◌, option_to_list}
use Rattle.std.proofs.KnownBytes.{Consumes-nil, Consumes-trans}
use Rattle.lens_io.specs.Calls.{Took}
use Rattle.lens_io.specs.declared.failed.TakeFault.{TakeFault}
use Rattle.lens_io.specs.declared.failed.TakeFault.TheVariants.{NoMemory}
use Rattle.lens_io.specs.declared.source.Source as OfSource
use Rattle.edit_journal.specs.Pieces.{FedLines, continued, fed, last_line}
use Rattle.edit_journal.specs.declared.line.Line.{Line}
use Rattle.edit_journal.specs.declared.line.Line.TheVariants.{Text}
use Rattle.edit_journal.proofs.Feeding.{lines_at, joins}
use Rattle.script_input.specs.Taking.{TakenInput, StopsAt, TakesMore}
use Rattle.script_input.specs.declared.limits.TheConstants.{MOST_BYTES}
use Rattle.store_new.specs.Found.{added_all, added_last, all_fed, FindsRest, StopsRest}
use Rattle.store_new.specs.declared.document.Found.{Found}
use Rattle.store_new.specs.declared.document.Found.TheVariants.{Nothing}
use Rattle.store_new.proofs.FoundLines.{added_joined, added_at_last}

-- ---- ended lines are added before what follows

-- lines in front of those that have ended stay there
in_front : (front ended : List Line) (begun : Line) (bytes : List ℕ)
    → fed (lines_at (front ++ ended) begun) bytes ≡ lines_at (front ++ (fed (lines_at ended begun) bytes).ended) (fed (lines_at ended begun) bytes).begun
in_front front ended begun [] = refl
in_front front ended begun (byte ∷ bytes) =
    elim (byte == 10) as (λ b. fed (cond b (lines_at ((front ++ ended) ++ begun ∷ []) (Text [])) (lines_at (front ++ ended) (continued begun byte))) bytes
    ≡ lines_at (front ++ (fed (cond b (lines_at (ended ++ begun ∷ []) (Text [])) (lines_at ended (continued begun byte))) bytes).ended)
    (fed (cond b (lines_at (ended ++ begun ∷ []) (Text [])) (lines_at ended (continued begun byte))) bytes).begun) [
      | true ↦ ap (λ x. fed (lines_at x (Text [])) bytes) (append_assoc front ended (begun ∷ [])) ∙ in_front front (ended ++ begun ∷ []) (Text []) bytes
      | false ↦ in_front front ended (continued begun byte) bytes
    ]

ended_first : (found : Found) (ended : List Line) (begun : Line) (bytes : List ℕ)
    → added_all found (all_fed (fed (lines_at ended begun) bytes)) ≡ added_all (added_all found ended) (all_fed (fed (lines_at [] begun) bytes))
ended_first found ended begun bytes =
    let rest = fed (lines_at [] begun) bytes in
    ap (λ l. added_all found (all_fed (fed (lines_at l begun) bytes))) (sym (append-nil ended))
    ∙ ap (λ l. added_all found (all_fed l)) (in_front ended [] begun bytes)
    ∙ ap (added_all found) (append_assoc ended rest.ended (option_to_list (last_line rest.begun)))
    ∙ added_joined found ended (all_fed rest)

-- ---- the reading

module _ {S : Type 0} (source : OfSource.Ghosts S) where
  -- These bytes were taken behind those before. Whatever follows, all lines are those that were found, those that the input has, and
  -- those that follow.
  pub record FindsOn (s s' : S) (before now : TakenInput) (found : Found) : Type 0 where
    pub more : List ℕ
    pub took : Took source s s' more
    pub count : now.taken ≡ before.taken + length more
    pub is : (next : List ℕ) → added_all Nothing (all_fed (fed before.lines (more ++ next))) ≡ added_all found (all_fed (fed now.lines next))

  pub finds_nothing : (s : S) (input : TakenInput) → FindsOn s s input input Nothing
  finds_nothing s input = record { more = []; took = Consumes-nil (source.left s); count = omega arith; is = λ next. refl }

  -- the lines that have ended were added
  pub finds_ended : (s s' : S) (before now new : TakenInput) (found found' : Found) → FindsOn s s' before now found
      → found' ≡ added_all found now.lines.ended → new.lines ≡ lines_at [] now.lines.begun → new.taken ≡ now.taken → FindsOn s s' before new found'
  finds_ended s s' before now new found found' f adds rest count = record {
    more = f.more;
    took = f.took;
    count = count ∙ f.count;
    is = λ next. f.is next ∙ ended_first found now.lines.ended now.lines.begun next ∙ ap₂ (λ a l. added_all a (all_fed (fed l next))) (sym adds) (sym rest);
  }

  -- at the end of the input the lines are as before
  pub lines_stay : (mid s' : S) (now new : TakenInput) → TakesMore source mid s' now new (Ok false) → new.lines ≡ now.lines
  lines_stay mid s' now new t = t.grows.lines ∙ ap (fed now.lines) (t.grows.at_end refl).0

  -- memory ran out before a piece was asked for
  pub finds_no_memory : (s s' : S) (before now : TakenInput) (found : Found) → FindsOn s s' before now found → now.taken ≤ MOST_BYTES + 1 → StopsRest source s s' before NoMemory
  finds_no_memory s s' before now found f few = record { more = f.more; took = f.took; at_most = omega (arith, f.count, few); stops = tt }

  module _ (s mid s' : S) (before now new : TakenInput) (found : Found) (f : FindsOn s mid before now found) where
    count : (bytes : List ℕ) → new.taken ≡ now.taken + length bytes → new.taken ≡ before.taken + length (f.more ++ bytes)
    count bytes e = omega (arith, e, f.count, length-append f.more bytes)

    took : (bytes : List ℕ) → Took source mid s' bytes → Took source s s' (f.more ++ bytes)
    took bytes t = Consumes-trans (source.left s) (source.left mid) (source.left s') f.more bytes f.took t

    -- one more piece
    pub finds_more : TakesMore source mid s' now new (Ok true) → FindsOn s s' before new found
    finds_more t = record {
      more = f.more ++ t.bytes;
      took = took t.bytes t.consumes;
      count = count t.bytes t.taken;
      is = λ next.
          ap (λ l. added_all Nothing (all_fed (fed before.lines l))) (append_assoc f.more t.bytes next)
          ∙ f.is (t.bytes ++ next)
          ∙ ap (λ l. added_all found (all_fed l)) (sym (joins now.lines t.bytes next) ∙ ap (λ l. fed l next) (sym t.grows.lines));
    }

    -- the end of the input
    pub finds_all : now.lines.ended ≡ [] → TakesMore source mid s' now new (Ok false) → FindsRest source s s' before (added_last found (last_line new.lines.begun))
    finds_all none t =
        let end = t.grows.at_end refl in
        let same : f.more ++ t.bytes ≡ f.more = ap (λ l. f.more ++ l) end.0 ∙ append-nil f.more in
        let last = option_to_list (last_line now.lines.begun) in
        record {
          more = f.more;
          took = subst (Took source s s') same (took t.bytes t.consumes);
          read = end.1;
          within = omega (arith, f.count, end.2);
          is =
              added_at_last found (last_line new.lines.begun)
              ∙ ap (λ (l : FedLines). added_all found (option_to_list (last_line l.begun))) (lines_stay mid s' now new t)
              ∙ ap (λ l. added_all found (l ++ last)) (sym none)
              ∙ sym (f.is [])
              ∙ ap (λ l. added_all Nothing (all_fed (fed before.lines l))) (append-nil f.more);
        }

    -- a fault
    pub finds_fault : (fault : TakeFault) → TakesMore source mid s' now new (Err fault) → StopsRest source s s' before fault
    finds_fault fault t = record {
      more = f.more ++ t.bytes;
      took = took t.bytes t.consumes;
      at_most = omega (arith, count t.bytes t.taken, t.at_most);
      stops = subst (λ n. StopsAt n fault) (count t.bytes t.taken) t.stays.stops;
    }
