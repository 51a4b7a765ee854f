-- Every list of events goes on to its end, and the link is then in turns.
use Rattle.std.proofs.Common.{◌≡◌, ℕ, ◌+◌, ◌≤◌, List, [], ◌∷◌, ◌⊎◌, inl, inr, length, slice_get, Option, None, Some, Result, Ok, Err, true, false, if◌then◌else◌, refl, ap, arith}
use Rattle.std.specs.Prelude.{nat_eq, nat_le, option_map, ◌^◌, ◌-◌}
use Rattle.texts.specs.declared.side.Side.{Side}
use Rattle.texts.specs.declared.side.Side.TheVariants.{Left, Right}
use Rattle.doc_values.specs.Documents.{DocTree}
use Rattle.doc_values.specs.Types.{TyTree}
use Rattle.edit_module.specs.Words.{WordTree}
use Rattle.lens_core.specs.Complements.{CompTree}
use Rattle.lens_core.specs.Translation.{Translated}
use Rattle.lens_core.specs.Laws.{WordsCarry, StartTogether}
use Rattle.edit_session.specs.Step.{first}
use Rattle.turn_link.specs.declared.fault.Received.TheVariants.{Taken, Stale}
use Rattle.turn_link.specs.Turns.{BatchTree, is_turn, TurnRefusal, not_turn, last_number, unfit, no_packet}
use Rattle.turn_link.specs.Sites.{LeftTree, RightTree, left_start, right_start, left_edit, right_edit, left_seal, right_seal}
use Rattle.turn_link.specs.Links.{EventTree, edit, seal, send, deliver, restart, LinkTree, ToldTree, sealed, PacketTree, link_start, number_on, with_entry, batch_at, last_batch, left_site_of, right_site_of, naming, happens, link_after, after_events}
use Rattle.turn_link.specs.Laws.{IsLinked, AreSites}
use Rattle.turn_link.specs.Runs.{Answers, Fits, LinksStayInTurns}
use Rattle.turn_link.proofs.Numbers.{at_most}
use Rattle.turn_link.proofs.LinkEvents.{empty_draft, fresh_left, fresh_right}
use Rattle.turn_link.proofs.LinkSites.{edits_left, edits_right, refuses_edit_left, refuses_edit_right, restarts_left, restarts_right, sends, no_sending, seals_left_site, seals_right_site, refuses_seal_left, refuses_seal_right, receives_left-of, receives_right-of, taken_left, taken_right, received}
use Rattle.std.proofs.lemmas.Bool.{leb-true}

-- a named batch is no refusal
not_named : (o : Option BatchTree) (f : BatchTree → LinkTree × ToldTree) → option_map (λ b. let r : Result (LinkTree × ToldTree) TurnRefusal = Ok (f b) in r) o ≡ Some (Err unfit) → ⊥
not_named None f is = cc
not_named (Some b) f is = cc

module _ (holds : DocTree → CompTree → DocTree → Type 0) (left : TyTree) (right : TyTree) (start : CompTree) (carried : Side → CompTree → WordTree → Option Translated) where
  abbrev Linked : LinkTree → Type 0
  Linked = IsLinked holds left right start carried

  abbrev Sites : LinkTree → LeftTree → RightTree → Type 0
  Sites = AreSites holds left right start carried

  -- a link has its two sites
  own_sites : (s : LinkTree) (k : Linked s) → Sites s (left_site_of left right start carried s k.left_draft.triple) (right_site_of left right start carried s k.right_draft.triple)
  own_sites s k = record {
    linked = k;
    left_is = ap (option_map (left_site_of left right start carried s)) k.left_draft.at_number;
    right_is = ap (option_map (right_site_of left right start carried s)) k.right_draft.at_number;
  }

  -- ---- the start

  pub start_linked : StartTogether holds left right start → Linked link_start
  start_linked together = record {
    turns = record {
      left_near = omega arith;
      right_near = omega arith;
      all_made = refl;
      even = λ _. refl;
      packets = λ p q none. absurd cc;
      together = λ _. (first left right start, refl, together);
    };
    moments = λ k none. absurd (omega arith);
    present = record { triple = first left right start; at_length = refl; in_step = together };
    left_draft = empty_draft holds left right start carried [] Left 0 (first left right start) refl;
    right_draft = empty_draft holds left right start carried [] Right 0 (first left right start) refl;
  }

  pub start_sites : StartTogether holds left right start → Sites link_start (left_start left start) (right_start right)
  start_sites together = record { linked = start_linked together; left_is = refl; right_is = refl }

  -- ---- an event

  record Goes (s : LinkTree) (e : EventTree) : Type 0 where
    answer : Result (LinkTree × ToldTree) TurnRefusal
    happened : happens left right start carried s e ≡ Some answer
    linked : Linked (link_after s answer)

  goes-edit_left : (s : LinkTree) (k : Linked s) (w : WordTree) (l : LeftTree) (r : RightTree) → Sites s l r → (o : Result LeftTree TurnRefusal) → left_edit left l w ≡ o → Goes s (edit Left w)
  goes-edit_left s k w l r a (Ok l') is = let e = edits_left holds left right start carried s l r a w l' is in record { answer = _; happened = e.happened; linked = e.sites.linked }
  goes-edit_left s k w l r a (Err why) is = record { answer = Err why; happened = refuses_edit_left holds left right start carried s l r a w why is; linked = k }

  goes-edit_right : (s : LinkTree) (k : Linked s) (w : WordTree) (l : LeftTree) (r : RightTree) → Sites s l r → (o : Result RightTree TurnRefusal) → right_edit right r w ≡ o → Goes s (edit Right w)
  goes-edit_right s k w l r a (Ok r') is = let e = edits_right holds left right start carried s l r a w r' is in record { answer = _; happened = e.happened; linked = e.sites.linked }
  goes-edit_right s k w l r a (Err why) is = record { answer = Err why; happened = refuses_edit_right holds left right start carried s l r a w why is; linked = k }

  goes-send : (s : LinkTree) (k : Linked s) (side : Side) (l : LeftTree) (r : RightTree) → Sites s l r → (o : Option BatchTree)
      → last_batch left right start carried side s.made (number_on side s) ≡ o → Goes s (send side)
  goes-send s k side l r a (Some b) is = let e = sends holds left right start carried s side l r a b is in record { answer = _; happened = e.happened; linked = e.sites.linked }
  goes-send s k side l r a None is = record { answer = _; happened = no_sending holds left right start carried s side l r a is; linked = k }

  goes-packet : (s : LinkTree) (k : Linked s) (p : ℕ) (to : Side) (b : BatchTree) → slice_get s.packets p ≡ Some (record { to = to; batch = b }) → Goes s (deliver p)
  goes-packet s k p Left b is =
      let a = own_sites s k in
      let t = receives_left-of holds left right start carried s k (right_site_of left right start carried s k.right_draft.triple) a.right_is p b is in
      record { answer = Ok (received holds left right start carried Left b.number s t.1); happened = t.3.happened; linked = t.3.sites.linked }
  goes-packet s k p Right b is =
      let a = own_sites s k in
      let t = receives_right-of holds left right start carried s k (left_site_of left right start carried s k.left_draft.triple) a.left_is p b is in
      record { answer = Ok (received holds left right start carried Right b.number s t.1); happened = t.3.happened; linked = t.3.sites.linked }

  goes-deliver : (s : LinkTree) (k : Linked s) (p : ℕ) (o : Option PacketTree) → slice_get s.packets p ≡ o → Goes s (deliver p)
  goes-deliver s k p None is = record { answer = Err (no_packet (length s.packets)); happened = rw is refl; linked = k }
  goes-deliver s k p (Some q) is = goes-packet s k p q.to q.batch is

  -- ---- what packets and the left draft meet

  delivers-of : (s : LinkTree) (k : Linked s) (p : ℕ) (to : Side) (b : BatchTree) → slice_get s.packets p ≡ Some (record { to = to; batch = b })
      → ((b.number ≤ number_on to s) × Answers holds left right start carried to s b Stale) ⊎ ((b.number ≡ number_on to s + 1) × Answers holds left right start carried to s b Taken)
  delivers-of s k p Left b is =
      let of = k.turns.packets p (record { to = Left; batch = b }) is in
      let l = left_site_of left right start carried s k.left_draft.triple in
      let shows = ap (option_map (left_site_of left right start carried s)) k.left_draft.at_number in
      elim (nat_le b.number s.left_number) as (λ v. nat_le b.number s.left_number ≡ v
      → ((b.number ≤ s.left_number) × Answers holds left right start carried Left s b Stale) ⊎ ((b.number ≡ s.left_number + 1) × Answers holds left right start carried Left s b Taken)) [
        | true ↦ λ old. inl (leb-true b.number s.left_number old, (l, l, shows, rw old refl))
        | false ↦ λ new.
            let newer = at_most b.number s.left_number new in
            let t = taken_left holds left right start carried s k b of.made_already newer of.word in
            inr ((fresh_left holds left right start carried s k.turns b.number of.made_already newer).0, (l, t.0, shows, t.1))
      ] refl
  delivers-of s k p Right b is =
      let of = k.turns.packets p (record { to = Right; batch = b }) is in
      let r = right_site_of left right start carried s k.right_draft.triple in
      let shows = ap (option_map (right_site_of left right start carried s)) k.right_draft.at_number in
      elim (nat_le b.number s.right_number) as (λ v. nat_le b.number s.right_number ≡ v
      → ((b.number ≤ s.right_number) × Answers holds left right start carried Right s b Stale) ⊎ ((b.number ≡ s.right_number + 1) × Answers holds left right start carried Right s b Taken)) [
        | true ↦ λ old. inl (leb-true b.number s.right_number old, (r, r, shows, rw old refl))
        | false ↦ λ new.
            let newer = at_most b.number s.right_number new in
            let t = taken_right holds left right start carried s k b of.made_already newer of.word in
            inr ((fresh_right holds left right start carried s k.turns b.number of.made_already newer).0, (r, t.0, shows, t.1))
      ] refl

  module _ (from_left : WordsCarry holds left right Left (carried Left)) (from_right : WordsCarry holds right left Right (carried Right)) where
    goes-seal_left : (s : LinkTree) (k : Linked s) (l : LeftTree) (r : RightTree) → Sites s l r → (o : Result (LeftTree × BatchTree) TurnRefusal) → left_seal left carried l ≡ o → Goes s (seal Left)
    goes-seal_left s k l r a (Ok v) is = let e = seals_left_site holds left right start carried from_left from_right s l r a v.0 v.1 is in record { answer = _; happened = e.happened; linked = e.sites.linked }
    goes-seal_left s k l r a (Err why) is = record { answer = Err why; happened = refuses_seal_left holds left right start carried from_left from_right s l r a why is; linked = k }

    goes-seal_right : (s : LinkTree) (k : Linked s) (l : LeftTree) (r : RightTree) → Sites s l r → (o : Result (RightTree × BatchTree) TurnRefusal) → right_seal right r ≡ o → Goes s (seal Right)
    goes-seal_right s k l r a (Ok v) is = let e = seals_right_site holds left right start carried from_left from_right s l r a v.0 v.1 is in record { answer = _; happened = e.happened; linked = e.sites.linked }
    goes-seal_right s k l r a (Err why) is = record { answer = Err why; happened = refuses_seal_right holds left right start carried s l r a why is; linked = k }

    goes : (s : LinkTree) (k : Linked s) (e : EventTree) → Goes s e
    goes s k (edit Left w) = goes-edit_left s k w _ _ (own_sites s k) _ refl
    goes s k (edit Right w) = goes-edit_right s k w _ _ (own_sites s k) _ refl
    goes s k (seal Left) = goes-seal_left s k _ _ (own_sites s k) _ refl
    goes s k (seal Right) = goes-seal_right s k _ _ (own_sites s k) _ refl
    goes s k (send side) = goes-send s k side _ _ (own_sites s k) _ refl
    goes s k (deliver p) = goes-deliver s k p _ refl
    goes s k (restart Left) = record { answer = _; happened = refl; linked = (restarts_left holds left right start carried s _ _ (own_sites s k)).linked }
    goes s k (restart Right) = record { answer = _; happened = refl; linked = (restarts_right holds left right start carried s _ _ (own_sites s k)).linked }

    -- every event happens to a link that has its parts together, or is refused, and keeps them together
    pub goes_on : (s : LinkTree) → Linked s → (e : EventTree)
        → (answer : Result (LinkTree × ToldTree) TurnRefusal) × (happens left right start carried s e ≡ Some answer) × Linked (link_after s answer)
    goes_on s k e = let g = goes s k e in (g.answer, g.happened, g.linked)

    -- a list of events
    runs : (s : LinkTree) (k : Linked s) (events : List EventTree) → (s' : LinkTree) × (after_events left right start carried s events ≡ Some s') × Linked s'
    runs s k [] = (s, refl, k)
    runs s k (e ∷ events) =
        let g = goes s k e in
        let rest = runs (link_after s g.answer) g.linked events in
        let happened = g.happened in
        (rest.0, rw happened rest.1, rest.2)

    -- a refusal to seal is told of the link, which has none of a draft without a translation
    pub no_unfit : (s : LinkTree) → happens left right start carried s (seal Left) ≡ Some (Err unfit) → ⊥
    no_unfit s is =
        elim (is_turn Left s.left_number) as (λ v. (if v then (if nat_eq s.left_number (2 ^ 64 - 1) then Some (Err last_number) else naming left right start carried Left s) else Some (Err (not_turn s.left_number))) ≡ Some (Err unfit) → ⊥) [
          | true ↦ λ is. elim (nat_eq s.left_number (2 ^ 64 - 1)) as (λ v. (if v then Some (Err last_number) else naming left right start carried Left s) ≡ Some (Err unfit) → ⊥) [
            | true ↦ λ no. cc
            | false ↦ λ named. not_named (batch_at left right start carried (with_entry Left s).made (s.left_number + 1)) (λ b. (with_entry Left s, sealed b)) named
          ] is
          | false ↦ λ no. cc
        ] is

    pub fits : (s : LinkTree) (k : Linked s) → Fits holds left right start carried s
    fits s k l is made =
        let a = own_sites s k in
        no_unfit s (refuses_seal_left holds left right start carried from_left from_right s l _ (record { linked = k; left_is = is; right_is = a.right_is }) unfit made)

    pub links_stay_in_turns : StartTogether holds left right start → LinksStayInTurns holds left right start carried
    links_stay_in_turns together events =
        let r = runs link_start (start_linked together) events in
        (r.0, r.1, r.2.turns, λ p q is. delivers-of r.0 r.2 p q.to q.batch is, fits r.0 r.2)
