-- What is told of an event has a line: the word of a batch that was sealed acts, so its counts fit.
use Rattle.std.proofs.Common.{◌≡◌, ℕ, ◌+◌, ◌-◌, ◌^◌, List, length, slice_get, Option, None, Some, Result, Ok, Err, Bool, true, false, if◌then◌else◌, refl, sym, ap, subst, ◌∙◌}
use Rattle.std.specs.Prelude.{nat_eq, nat_le, option_map, option_and_then}
use Rattle.std.proofs.lemmas.Option.{slice_get_within}
use Rattle.texts.specs.declared.side.Side.{Side}
use Rattle.doc_values.specs.Documents.{DocTree}
use Rattle.doc_values.specs.Types.{TyTree}
use Rattle.edit_module.specs.Words.{WordTree}
use Rattle.edit_json.specs.WordJson.{counts_fit}
use Rattle.lens_core.specs.Complements.{CompTree}
use Rattle.lens_core.specs.Sides.{near}
use Rattle.lens_core.specs.Translation.{Translated}
use Rattle.edit_session.specs.Step.{TripleTree, Stepped, document_on, step}
use Rattle.value_json.proofs.Facts.{bind_some, map_some}
use Rattle.run_answers.proofs.ActingCounts.{acting_fits}
use Rattle.run_answers.proofs.StepCounts.{carried_fits}
use Rattle.turn_link.specs.declared.event.Told.{Told}
use Rattle.turn_link.specs.declared.event.Told.TheVariants.{Draft, Sealed, Packet, Taken, Stale, Restarted}
use Rattle.turn_link.specs.Turns.{BatchTree, TurnRefusal, not_turn, last_number, no_batch, is_even, is_turn, last_made}
use Rattle.turn_link.specs.Sites.{edited}
use Rattle.turn_link.specs.Links.{EventTree, edit, seal, send, deliver, restart, LinkTree, ToldTree, sealed, packet, taken, stale, PacketTree, number_on, draft_on, with_number, with_entry, with_packet, drafting, delivered, shown, triple_at, word_of_step, carried_word, batch_word, batch_at, last_batch, naming, happens}
use Rattle.turn_link.specs.Laws.{IsLinked}
use Rattle.turn_link.specs.Views.{batch_tree, told_tree}
use Rattle.run_link.specs.Views.{HasToldLine}

-- the link and the batch of an answer to a seal
abbrev link_in : LinkTree → Option (Result (LinkTree × ToldTree) TurnRefusal) → LinkTree
link_in s (Some (Ok r)) = r.0
link_in s (Some (Err why)) = s
link_in s None = s

abbrev told_batch : ToldTree → Option BatchTree
told_batch (sealed b) = Some b
told_batch _ = None

abbrev batch_in : Option (Result (LinkTree × ToldTree) TurnRefusal) → Option BatchTree
batch_in (Some (Ok r)) = told_batch r.1
batch_in (Some (Err why)) = None
batch_in None = None

module _ (holds : DocTree → CompTree → DocTree → Type 0) (left : TyTree) (right : TyTree) (start : CompTree) (carried : Side → CompTree → WordTree → Option Translated) where
  abbrev Linked : LinkTree → Type 0
  Linked = IsLinked holds left right start carried

  -- ---- the word of a batch that was made

  step_fits : (t : TripleTree) (e : Side × WordTree) (o : Option Stepped) (w : WordTree) → step left right carried t e ≡ o → word_of_step o ≡ Some w → counts_fit w ≡ true
  step_fits t e None w is h = cc
  step_fits t e (Some (Err why)) w is h = cc
  step_fits t e (Some (Ok r)) w is h = let same : r.1 ≡ w = cc in subst (λ x. counts_fit x ≡ true) same (carried_fits left right carried t e r is)

  carried_word_fits : (made : List (Side × WordTree)) (n : ℕ) (w : WordTree) → carried_word left right start carried made n ≡ Some w → counts_fit w ≡ true
  carried_word_fits made n w h =
      let t = bind_some (λ (t : TripleTree). option_and_then (λ e. word_of_step (step left right carried t e)) (slice_get made (n - 1))) (triple_at left right start carried made (n - 1)) w h in
      let e = bind_some (λ (e : Side × WordTree). word_of_step (step left right carried t.0 e)) (slice_get made (n - 1)) w t.2 in
      step_fits t.0 e.0 (step left right carried t.0 e.0) w refl e.2

  entry_fits : (s : LinkTree) (k : Linked s) (n : ℕ) (e : Side × WordTree) → slice_get s.made n ≡ Some e → counts_fit e.1 ≡ true
  entry_fits s k n e is =
      let m = k.moments n (slice_get_within s.made n e is) in
      let entry = m.entry_is in
      let same : m.entry ≡ e = cc in
      subst (λ (x : Side × WordTree). counts_fit x.1 ≡ true) same (acting_fits m.entry.1 (near m.entry.0 left right) (document_on m.entry.0 m.before) m.own m.acts)

  own_word_fits : (s : LinkTree) (k : Linked s) (n : ℕ) (w : WordTree) → option_map (λ (e : Side × WordTree). e.1) (slice_get s.made (n - 1)) ≡ Some w → counts_fit w ≡ true
  own_word_fits s k n w h =
      let e = map_some (λ (e : Side × WordTree). e.1) (slice_get s.made (n - 1)) w h in
      subst (λ x. counts_fit x ≡ true) e.2 (entry_fits s k (n - 1) e.0 e.1)

  word_fits : (s : LinkTree) (k : Linked s) (n : ℕ) (w : WordTree) → batch_word left right start carried s.made n ≡ Some w → counts_fit w ≡ true
  word_fits s k n w h = by_test (is_even n) h where
    by_test : (b : Bool) → (if b then option_map (λ (e : Side × WordTree). e.1) (slice_get s.made (n - 1)) else carried_word left right start carried s.made n) ≡ Some w → counts_fit w ≡ true
    by_test true h = own_word_fits s k n w h
    by_test false h = carried_word_fits s.made n w h

  batch_fits : (s : LinkTree) (k : Linked s) (n : ℕ) (b : BatchTree) → batch_at left right start carried s.made n ≡ Some b → counts_fit b.word ≡ true
  batch_fits s k n b h =
      let w = map_some (λ (w : WordTree). let x : BatchTree = record { number = n; word = w } in x) (batch_word left right start carried s.made n) b h in
      let same : w.0 ≡ b.word = ap (λ (x : BatchTree). x.word) w.2 in
      subst (λ x. counts_fit x ≡ true) same (word_fits s k n w.0 w.1)

  -- ---- what is sealed

  named_fits : (side : Side) (s s' : LinkTree) (b : BatchTree) (o : Option BatchTree) → Linked s' → batch_at left right start carried (with_entry side s).made (number_on side s + 1) ≡ o
      → option_map (λ b. let r : Result (LinkTree × ToldTree) TurnRefusal = Ok (with_entry side s, sealed b) in r) o ≡ Some (Ok (s', sealed b)) → counts_fit b.word ≡ true
  named_fits side s s' b None k is h = cc
  named_fits side s s' b (Some b') k is h =
      let link_is : with_entry side s ≡ s' = ap (link_in s) h in
      let batch_is : Some b' ≡ Some b = ap batch_in h in
      batch_fits s' k (number_on side s + 1) b (ap (λ (x : LinkTree). batch_at left right start carried x.made (number_on side s + 1)) (sym link_is) ∙ is ∙ batch_is)

  seal_fits : (side : Side) (s s' : LinkTree) (b : BatchTree) → Linked s' → happens left right start carried s (seal side) ≡ Some (Ok (s', sealed b)) → counts_fit b.word ≡ true
  seal_fits side s s' b k h = by_tests (is_turn side (number_on side s)) (nat_eq (number_on side s) (2 ^ 64 - 1)) h where
    by_tests : (turn is_last : Bool) → (if turn then (if is_last then Some (Err last_number) else naming left right start carried side s) else Some (Err (not_turn (number_on side s)))) ≡ Some (Ok (s', sealed b)) → counts_fit b.word ≡ true
    by_tests true true h = cc
    by_tests true false h = named_fits side s s' b (batch_at left right start carried (with_entry side s).made (number_on side s + 1)) k refl h
    by_tests false is_last h = cc

  -- ---- what is told of an event has a line

  drafting_not_sealed : (side : Side) (s s' : LinkTree) (b : BatchTree) (r : Result WordTree TurnRefusal) → drafting side s r ≡ Ok (s', sealed b) → ⊥
  drafting_not_sealed side s s' b (Ok w) h = let none : None ≡ Some b = ap (λ r. batch_in (Some r)) h in cc
  drafting_not_sealed side s s' b (Err why) h = cc

  edit_not_sealed : (side : Side) (w : WordTree) (s s' : LinkTree) (b : BatchTree) (o : Option DocTree)
      → option_map (λ x. drafting side s (edited side (near side left right) (number_on side s) x (draft_on side s) w)) o ≡ Some (Ok (s', sealed b)) → ⊥
  edit_not_sealed side w s s' b None h = cc
  edit_not_sealed side w s s' b (Some x) h = drafting_not_sealed side s s' b (edited side (near side left right) (number_on side s) x (draft_on side s) w) cc

  sent_not_sealed : (side : Side) (s s' : LinkTree) (b : BatchTree) (o : Option BatchTree)
      → option_map (λ b. let r : Result (LinkTree × ToldTree) TurnRefusal = Ok (with_packet side b s, packet (length s.packets)) in r) o ≡ Some (Ok (s', sealed b)) → ⊥
  sent_not_sealed side s s' b None h = cc
  sent_not_sealed side s s' b (Some x) h = let none : None ≡ Some b = ap batch_in h in cc

  send_not_sealed : (side : Side) (s s' : LinkTree) (b : BatchTree) → happens left right start carried s (send side) ≡ Some (Ok (s', sealed b)) → ⊥
  send_not_sealed side s s' b h = by_test (nat_eq (last_made side (number_on side s)) 0) h where
    by_test : (none : Bool) → (if none then Some (Err no_batch) else option_map (λ b. let r : Result (LinkTree × ToldTree) TurnRefusal = Ok (with_packet side b s, packet (length s.packets)) in r) (last_batch left right start carried side s.made (number_on side s))) ≡ Some (Ok (s', sealed b)) → ⊥
    by_test true h = cc
    by_test false h = sent_not_sealed side s s' b (last_batch left right start carried side s.made (number_on side s)) h

  delivered_not_sealed : (s s' : LinkTree) (b : BatchTree) (o : Option PacketTree) → Some (delivered s o) ≡ Some (Ok (s', sealed b)) → ⊥
  delivered_not_sealed s s' b None h = cc
  delivered_not_sealed s s' b (Some q) h = by_test (nat_le q.batch.number (number_on q.to s)) h where
    by_test : (old : Bool) → (let r : Option (Result (LinkTree × ToldTree) TurnRefusal) = Some (if old then Ok (s, stale q.batch.number) else Ok (with_number q.to q.batch.number s, taken q.batch.number)) in r) ≡ Some (Ok (s', sealed b)) → ⊥
    by_test true h = let none : None ≡ Some b = ap batch_in h in cc
    by_test false h = let none : None ≡ Some b = ap batch_in h in cc

  restart_not_sealed : (side : Side) (s s' : LinkTree) (b : BatchTree) → happens left right start carried s (restart side) ≡ Some (Ok (s', sealed b)) → ⊥
  restart_not_sealed side s s' b h = let none : None ≡ Some b = ap batch_in h in cc

  sealed_fits : (s s' : LinkTree) (e : EventTree) (b : BatchTree) → Linked s' → happens left right start carried s e ≡ Some (Ok (s', sealed b)) → counts_fit b.word ≡ true
  sealed_fits s s' (edit side w) b k h = absurd (edit_not_sealed side w s s' b (shown left right start carried side s) h)
  sealed_fits s s' (seal side) b k h = seal_fits side s s' b k h
  sealed_fits s s' (send side) b k h = absurd (send_not_sealed side s s' b h)
  sealed_fits s s' (deliver p) b k h = absurd (delivered_not_sealed s s' b (slice_get s.packets p) h)
  sealed_fits s s' (restart side) b k h = absurd (restart_not_sealed side s s' b h)

  pub told_has_line : (s s' : LinkTree) (e : EventTree) (told : Told) → Linked s' → happens left right start carried s e ≡ Some (Ok (s', told_tree told)) → HasToldLine told
  told_has_line s s' e Draft k h = tt
  told_has_line s s' e (Sealed b) k h = sealed_fits s s' e (batch_tree b) k h
  told_has_line s s' e (Packet p) k h = tt
  told_has_line s s' e (Taken n) k h = tt
  told_has_line s s' e (Stale n) k h = tt
  told_has_line s s' e Restarted k h = tt
