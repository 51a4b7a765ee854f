-- What the sites of a link answer is what the link's events make of it, and they stay its sites.
use Rattle.std.proofs.Common.{◌≡◌, ℕ, ◌+◌, ◌-◌, ◌^◌, ◌<◌, ◌≤◌, List, [], ◌∷◌, ◌++◌, ◌⊎◌, length, slice_get, Option, None, Some, Result, Ok, Err, true, false, not, if◌then◌else◌, refl, sym, ap, ◌∙◌, subst, arith}
use Rattle.std.specs.Prelude.{nat_eq, nat_le, option_map}
use Rattle.std.specs.Result.{result_unwrap_or}
use Rattle.texts.specs.declared.side.Side.{Side}
use Rattle.texts.specs.declared.side.Side.TheVariants.{Left, Right}
use Rattle.doc_values.specs.Documents.{DocTree}
use Rattle.doc_values.specs.Types.{TyTree}
use Rattle.edit_module.specs.Words.{WordTree, no_primitives, joined}
use Rattle.edit_module.specs.Action.{act, Why}
use Rattle.lens_core.specs.Complements.{CompTree}
use Rattle.lens_core.specs.Translation.{Translated}
use Rattle.lens_core.specs.Laws.{WordsCarry}
use Rattle.edit_session.specs.Step.{TripleTree}
use Rattle.turn_link.specs.declared.fault.Received.{Received}
use Rattle.turn_link.specs.declared.fault.Received.TheVariants.{Taken, Stale}
use Rattle.turn_link.specs.Turns.{BatchTree, is_turn, last_made, TurnRefusal, not_turn, last_number, no_batch}
use Rattle.turn_link.specs.Sites.{LeftTree, RightTree, drafted, joining, edited, left_drafted, right_drafted, left_edit, right_edit, next_batch, sealing, left_sealed, right_sealed, left_seal, right_seal, left_receive, right_receive, left_restart, right_restart}
use Rattle.turn_link.specs.Links.{LinkTree, ToldTree, edit, seal, send, deliver, told_draft, sealed, packet, taken, stale, number_on, with_entry, with_number, with_draft, with_packet, triple_at, batch_word, batch_at, last_batch, left_site_of, right_site_of, left_site, right_site, happens}
use Rattle.turn_link.specs.Laws.{IsDraft, IsLinked, AreSites}
use Rattle.turn_link.proofs.Numbers.{positive, at_most, not_at_most, last_made-le, last_made-sealed}
use Rattle.turn_link.proofs.Histories.{triple_at-front, last_batch-front, last_batch-taken}
use Rattle.turn_link.proofs.LinkEvents.{fresh_left, fresh_right, SealsLeft, SealsRight, seals_left, seals_right, takes_left, takes_right, draft_joined, empty_draft, linked-drafted_left, linked-drafted_right, linked-sent, last_of_batch, batch_word-some}
use Rattle.texts.proofs.Tests.{not_zero}
use Rattle.std.proofs.lemmas.Bool.{eq-eqb}

same_pair : {A B C : Type 0} {o : Result (A × B) C} {a c : A} {b d : B} → o ≡ Ok (a, b) → o ≡ Ok (c, d) → (a ≡ c) × (b ≡ d)
same_pair {A} {B} {C} {o} {a} {c} {b} {d} p q = let e : (a, b) ≡ (c, d) = cc in (ap (λ (p : A × B). p.0) e, ap (λ (p : A × B). p.1) e)

same_pair_ok : {A B : Type 0} {p : A × B} {a c : A} {b d : B} → p ≡ (a, b) → (let r : Result (A × B) TurnRefusal = Ok p in r ≡ Ok (c, d)) → (a ≡ c) × (b ≡ d)
same_pair_ok {A} {B} {p} {a} {c} {b} {d} is made = let e : (a, b) ≡ (c, d) = cc in (ap (λ (p : A × B). p.0) e, ap (λ (p : A × B). p.1) e)

apart : {A E : Type 0} {o : Result A E} {v : A} {e : E} → o ≡ Ok v → o ≡ Err e → ⊥
apart p q = cc

-- a site that may seal
record MaySeal {A : Type 0} (side : Side) (n : ℕ) (answer : Result A TurnRefusal) (v : A) : Type 0 where
  on : is_turn side n ≡ true
  more : nat_eq n (2 ^ 64 - 1) ≡ false
  answers : answer ≡ Ok v

may_seal : {A : Type 0} (side : Side) (n : ℕ) (answer : Result A TurnRefusal) (v : A) → sealing side n answer ≡ Ok v → MaySeal side n answer v
may_seal side n answer v is =
    elim (is_turn side n) as (λ b. is_turn side n ≡ b → (if b then (if nat_eq n (2 ^ 64 - 1) then Err last_number else answer) else Err (not_turn n)) ≡ Ok v → MaySeal side n answer v) [
      | true ↦ λ on. elim (nat_eq n (2 ^ 64 - 1)) as (λ b. nat_eq n (2 ^ 64 - 1) ≡ b → (if b then Err last_number else answer) ≡ Ok v → MaySeal side n answer v) [
        | true ↦ λ _ no. absurd cc
        | false ↦ λ more is. record { on = on; more = more; answers = is }
      ] refl
      | false ↦ λ _ no. absurd cc
    ] refl is

-- an edit that joined a draft that acts
record Joins (side : Side) (ty : TyTree) (n : ℕ) (draft w d : WordTree) (x : DocTree) : Type 0 where
  on : is_turn side n ≡ true
  value : DocTree
  acts : act ty w x ≡ Ok value
  joined_is : joined draft w ≡ d

joins_word : (ty : TyTree) (draft w d : WordTree) (answer : Result DocTree Why) → joining draft w answer ≡ Ok d
    → (y : DocTree) × (answer ≡ Ok y) × (joined draft w ≡ d)
joins_word ty draft w d (Ok y) is = (y, refl, cc)
joins_word ty draft w d (Err why) is = absurd cc

joins : (side : Side) (ty : TyTree) (n : ℕ) (doc : DocTree) (draft w d : WordTree) (x : DocTree) → act ty draft doc ≡ Ok x
    → edited side ty n doc draft w ≡ Ok d → Joins side ty n draft w d x
joins side ty n doc draft w d x acts is =
    let after : drafted ty doc draft ≡ x = ap (λ r. result_unwrap_or r doc) acts in
    elim (is_turn side n) as (λ b. is_turn side n ≡ b → (if b then joining draft w (act ty w (drafted ty doc draft)) else Err (not_turn n)) ≡ Ok d → Joins side ty n draft w d x) [
      | true ↦ λ on is.
          let j = joins_word ty draft w d (act ty w (drafted ty doc draft)) is in
          record { on = on; value = j.0; acts = subst (λ v. act ty w v ≡ Ok j.0) after j.1; joined_is = j.2 }
      | false ↦ λ _ no. absurd cc
    ] refl is

module _ (holds : DocTree → CompTree → DocTree → Type 0) (left : TyTree) (right : TyTree) (start : CompTree) (carried : Side → CompTree → WordTree → Option Translated) where
  abbrev Sites : LinkTree → LeftTree → RightTree → Type 0
  Sites = AreSites holds left right start carried

  abbrev Linked : LinkTree → Type 0
  Linked = IsLinked holds left right start carried

  abbrev Gives : LinkTree → Result (LinkTree × ToldTree) TurnRefusal → Option (Result (LinkTree × ToldTree) TurnRefusal) → Type 0
  Gives s r o = o ≡ Some r

  left_is_of : (s : LinkTree) (l : LeftTree) (k : Linked s) → left_site left right start carried s ≡ Some l
      → left_site_of left right start carried s k.left_draft.triple ≡ l
  left_is_of s l k is =
      let of : left_site left right start carried s ≡ Some (left_site_of left right start carried s k.left_draft.triple) = ap (option_map (left_site_of left right start carried s)) k.left_draft.at_number in
      cc

  right_is_of : (s : LinkTree) (r : RightTree) (k : Linked s) → right_site left right start carried s ≡ Some r
      → right_site_of left right start carried s k.right_draft.triple ≡ r
  right_is_of s r k is =
      let of : right_site left right start carried s ≡ Some (right_site_of left right start carried s k.right_draft.triple) = ap (option_map (right_site_of left right start carried s)) k.right_draft.at_number in
      cc

  -- ---- edit

  pub record EditsLeft (s : LinkTree) (w : WordTree) (l' : LeftTree) (r : RightTree) : Type 0 where
    pub happened : happens left right start carried s (edit Left w) ≡ Some (Ok (with_draft Left l'.draft s, told_draft))
    pub sites : Sites (with_draft Left l'.draft s) l' r

  edits_left-of : (s : LinkTree) (k : Linked s) (r : RightTree) → right_site left right start carried s ≡ Some r → (w d : WordTree)
      → edited Left left s.left_number k.left_draft.triple.left s.left_draft w ≡ Ok d
      → EditsLeft s w (record (left_site_of left right start carried s k.left_draft.triple) { draft = d }) r
  edits_left-of s k r right_is w d is =
      let at = k.left_draft.at_number in
      let j = joins Left left s.left_number k.left_draft.triple.left s.left_draft w d k.left_draft.document k.left_draft.acts is in
      let new = subst (λ v. IsDraft holds left right start carried s.made Left s.left_number v) j.joined_is
      (draft_joined holds left right start carried s.made Left s.left_number s.left_draft w k.left_draft j.value j.on j.acts) in
      record {
        happened = rw (at, is) refl;
        sites = record {
          linked = linked-drafted_left holds left right start carried s d k new;
          left_is = rw at refl;
          right_is = right_is;
        };
      }

  left_drafted_ok : (s : LinkTree) (k : Linked s) (r : RightTree) → right_site left right start carried s ≡ Some r → (w : WordTree) (l' : LeftTree) (answer : Result WordTree TurnRefusal)
      → edited Left left s.left_number k.left_draft.triple.left s.left_draft w ≡ answer
      → left_drafted (left_site_of left right start carried s k.left_draft.triple) answer ≡ Ok l' → EditsLeft s w l' r
  left_drafted_ok s k r right_is w l' (Ok d) is made =
      let same : record (left_site_of left right start carried s k.left_draft.triple) { draft = d } ≡ l' = cc in
      subst (λ l. EditsLeft s w l r) same (edits_left-of s k r right_is w d is)
  left_drafted_ok s k r right_is w l' (Err why) is made = absurd cc

  pub edits_left : (s : LinkTree) (l : LeftTree) (r : RightTree) → Sites s l r → (w : WordTree) (l' : LeftTree) → left_edit left l w ≡ Ok l' → EditsLeft s w l' r
  edits_left s l r a w l' made =
      left_drafted_ok s a.linked r a.right_is w l' (edited Left left s.left_number a.linked.left_draft.triple.left s.left_draft w) refl
      (subst (λ l. left_edit left l w ≡ Ok l') (sym (left_is_of s l a.linked a.left_is)) made)

  left_drafted_err : (s : LinkTree) (k : Linked s) (w : WordTree) (why : TurnRefusal) (answer : Result WordTree TurnRefusal)
      → edited Left left s.left_number k.left_draft.triple.left s.left_draft w ≡ answer
      → left_drafted (left_site_of left right start carried s k.left_draft.triple) answer ≡ Err why → happens left right start carried s (edit Left w) ≡ Some (Err why)
  left_drafted_err s k w why (Ok d) is made = absurd cc
  left_drafted_err s k w why (Err cause) is made =
      let at = k.left_draft.at_number in
      let same : cause ≡ why = cc in
      rw (at, is, same) refl

  pub refuses_edit_left : (s : LinkTree) (l : LeftTree) (r : RightTree) → Sites s l r → (w : WordTree) (why : TurnRefusal) → left_edit left l w ≡ Err why
      → happens left right start carried s (edit Left w) ≡ Some (Err why)
  refuses_edit_left s l r a w why made =
      left_drafted_err s a.linked w why (edited Left left s.left_number a.linked.left_draft.triple.left s.left_draft w) refl
      (subst (λ l. left_edit left l w ≡ Err why) (sym (left_is_of s l a.linked a.left_is)) made)

  pub record EditsRight (s : LinkTree) (w : WordTree) (l : LeftTree) (r' : RightTree) : Type 0 where
    pub happened : happens left right start carried s (edit Right w) ≡ Some (Ok (with_draft Right r'.draft s, told_draft))
    pub sites : Sites (with_draft Right r'.draft s) l r'

  edits_right-of : (s : LinkTree) (k : Linked s) (l : LeftTree) → left_site left right start carried s ≡ Some l → (w d : WordTree)
      → edited Right right s.right_number k.right_draft.triple.right s.right_draft w ≡ Ok d
      → EditsRight s w l (record (right_site_of left right start carried s k.right_draft.triple) { draft = d })
  edits_right-of s k l left_is w d is =
      let at = k.right_draft.at_number in
      let j = joins Right right s.right_number k.right_draft.triple.right s.right_draft w d k.right_draft.document k.right_draft.acts is in
      let new = subst (λ v. IsDraft holds left right start carried s.made Right s.right_number v) j.joined_is
      (draft_joined holds left right start carried s.made Right s.right_number s.right_draft w k.right_draft j.value j.on j.acts) in
      record {
        happened = rw (at, is) refl;
        sites = record {
          linked = linked-drafted_right holds left right start carried s d k new;
          left_is = left_is;
          right_is = rw at refl;
        };
      }

  right_drafted_ok : (s : LinkTree) (k : Linked s) (l : LeftTree) → left_site left right start carried s ≡ Some l → (w : WordTree) (r' : RightTree) (answer : Result WordTree TurnRefusal)
      → edited Right right s.right_number k.right_draft.triple.right s.right_draft w ≡ answer
      → right_drafted (right_site_of left right start carried s k.right_draft.triple) answer ≡ Ok r' → EditsRight s w l r'
  right_drafted_ok s k l left_is w r' (Ok d) is made =
      let same : record (right_site_of left right start carried s k.right_draft.triple) { draft = d } ≡ r' = cc in
      subst (λ r. EditsRight s w l r) same (edits_right-of s k l left_is w d is)
  right_drafted_ok s k l left_is w r' (Err why) is made = absurd cc

  pub edits_right : (s : LinkTree) (l : LeftTree) (r : RightTree) → Sites s l r → (w : WordTree) (r' : RightTree) → right_edit right r w ≡ Ok r' → EditsRight s w l r'
  edits_right s l r a w r' made =
      right_drafted_ok s a.linked l a.left_is w r' (edited Right right s.right_number a.linked.right_draft.triple.right s.right_draft w) refl
      (subst (λ r. right_edit right r w ≡ Ok r') (sym (right_is_of s r a.linked a.right_is)) made)

  right_drafted_err : (s : LinkTree) (k : Linked s) (w : WordTree) (why : TurnRefusal) (answer : Result WordTree TurnRefusal)
      → edited Right right s.right_number k.right_draft.triple.right s.right_draft w ≡ answer
      → right_drafted (right_site_of left right start carried s k.right_draft.triple) answer ≡ Err why → happens left right start carried s (edit Right w) ≡ Some (Err why)
  right_drafted_err s k w why (Ok d) is made = absurd cc
  right_drafted_err s k w why (Err cause) is made =
      let at = k.right_draft.at_number in
      let same : cause ≡ why = cc in
      rw (at, is, same) refl

  pub refuses_edit_right : (s : LinkTree) (l : LeftTree) (r : RightTree) → Sites s l r → (w : WordTree) (why : TurnRefusal) → right_edit right r w ≡ Err why
      → happens left right start carried s (edit Right w) ≡ Some (Err why)
  refuses_edit_right s l r a w why made =
      right_drafted_err s a.linked w why (edited Right right s.right_number a.linked.right_draft.triple.right s.right_draft w) refl
      (subst (λ r. right_edit right r w ≡ Err why) (sym (right_is_of s r a.linked a.right_is)) made)

  -- ---- restart

  pub restarts_left : (s : LinkTree) (l : LeftTree) (r : RightTree) → Sites s l r → Sites (with_draft Left no_primitives s) (left_restart l) r
  restarts_left s l r a =
      let k = a.linked in
      let at = k.left_draft.at_number in
      subst (λ l. Sites (with_draft Left no_primitives s) (left_restart l) r) (left_is_of s l k a.left_is) (record {
        linked = linked-drafted_left holds left right start carried s no_primitives k (empty_draft holds left right start carried s.made Left s.left_number k.left_draft.triple at);
        left_is = rw at refl;
        right_is = a.right_is;
      })

  pub restarts_right : (s : LinkTree) (l : LeftTree) (r : RightTree) → Sites s l r → Sites (with_draft Right no_primitives s) l (right_restart r)
  restarts_right s l r a =
      let k = a.linked in
      let at = k.right_draft.at_number in
      subst (λ r. Sites (with_draft Right no_primitives s) l (right_restart r)) (right_is_of s r k a.right_is) (record {
        linked = linked-drafted_right holds left right start carried s no_primitives k (empty_draft holds left right start carried s.made Right s.right_number k.right_draft.triple at);
        left_is = a.left_is;
        right_is = rw at refl;
      })

  -- ---- send

  pub record Sends (s : LinkTree) (side : Side) (b : BatchTree) (l : LeftTree) (r : RightTree) : Type 0 where
    pub happened : happens left right start carried s (send side) ≡ Some (Ok (with_packet side b s, packet (length s.packets)))
    pub sites : Sites (with_packet side b s) l r

  within : (s : LinkTree) (k : Linked s) (side : Side) → number_on side s ≤ length s.made
  within s k Left = omega (arith, k.turns.all_made)
  within s k Right = omega (arith, k.turns.all_made)

  pub sends : (s : LinkTree) (side : Side) (l : LeftTree) (r : RightTree) → Sites s l r → (b : BatchTree)
      → last_batch left right start carried side s.made (number_on side s) ≡ Some b → Sends s side b l r
  sends s side l r a b is =
      elim (nat_eq (last_made side (number_on side s)) 0) as (λ v. nat_eq (last_made side (number_on side s)) 0 ≡ v
      → (if v then None else batch_at left right start carried s.made (last_made side (number_on side s))) ≡ Some b → Sends s side b l r) [
        | true ↦ λ _ none. absurd cc
        | false ↦ λ some at. record {
          happened = rw (some, at) refl;
          sites = record {
            linked = linked-sent holds left right start carried s side b a.linked
                (last_of_batch holds left right start carried s side b a.linked (within s a.linked side) (not_zero (last_made side (number_on side s)) some) at);
            left_is = a.left_is;
            right_is = a.right_is;
          };
        }
      ] refl is

  no_missing : (s : LinkTree) (side : Side) (k : Linked s) → 0 < last_made side (number_on side s)
      → batch_at left right start carried s.made (last_made side (number_on side s)) ≡ None → ⊥
  no_missing s side k some none =
      let n = last_made side (number_on side s) in
      let w = batch_word-some holds left right start carried s.made n k.moments some (omega (arith, last_made-le side (number_on side s), within s k side)) in
      let at : batch_at left right start carried s.made n ≡ Some (record { number = n; word = w.0 }) = ap (option_map (λ w. record { number = n; word = w })) w.1 in
      cc

  pub no_sending : (s : LinkTree) (side : Side) (l : LeftTree) (r : RightTree) → Sites s l r
      → last_batch left right start carried side s.made (number_on side s) ≡ None → happens left right start carried s (send side) ≡ Some (Err no_batch)
  no_sending s side l r a is =
      elim (nat_eq (last_made side (number_on side s)) 0) as (λ v. nat_eq (last_made side (number_on side s)) 0 ≡ v
      → (if v then None else batch_at left right start carried s.made (last_made side (number_on side s))) ≡ None
      → happens left right start carried s (send side) ≡ Some (Err no_batch)) [
        | true ↦ λ none _. rw none refl
        | false ↦ λ some at. absurd (no_missing s side a.linked (not_zero (last_made side (number_on side s)) some) at)
      ] refl is

  -- ---- seal

  -- the last batch of a side that sealed
  last_sealed : (side : Side) (made : List (Side × WordTree)) (n : ℕ) (w : WordTree) → is_turn side n ≡ true
      → batch_word left right start carried made (n + 1) ≡ Some w → last_batch left right start carried side made (n + 1) ≡ Some (next_batch n w)
  last_sealed side made n w on sent =
      let last = last_made-sealed side n on in
      let some = positive (n + 1) (omega arith) in
      rw (last, some, sent) refl

  -- a site shows the same where only entries after its number are new
  left_site-front : (made : List (Side × WordTree)) (e : Side × WordTree) (n : ℕ) (w : WordTree) → n ≤ length made
      → option_map (λ t. let site : LeftTree = record { number = n; doc = t.left; comp = t.comp; draft = w; last = last_batch left right start carried Left (made ++ e ∷ []) n } in site) (triple_at left right start carried (made ++ e ∷ []) n)
      ≡ option_map (λ t. let site : LeftTree = record { number = n; doc = t.left; comp = t.comp; draft = w; last = last_batch left right start carried Left made n } in site) (triple_at left right start carried made n)
  left_site-front made e n w h =
      let F : Option BatchTree → Option TripleTree → Option LeftTree = λ b o. option_map (λ (t : TripleTree). record { number = n; doc = t.left; comp = t.comp; draft = w; last = b }) o in
      ap (λ b. F b (triple_at left right start carried (made ++ e ∷ []) n)) (last_batch-front left right start carried Left made e n h)
      ∙ ap (F (last_batch left right start carried Left made n)) (triple_at-front left right start carried made e n h)

  right_site-front : (made : List (Side × WordTree)) (e : Side × WordTree) (n : ℕ) (w : WordTree) → n ≤ length made
      → option_map (λ t. let site : RightTree = record { number = n; doc = t.right; draft = w; last = last_batch left right start carried Right (made ++ e ∷ []) n } in site) (triple_at left right start carried (made ++ e ∷ []) n)
      ≡ option_map (λ t. let site : RightTree = record { number = n; doc = t.right; draft = w; last = last_batch left right start carried Right made n } in site) (triple_at left right start carried made n)
  right_site-front made e n w h =
      let F : Option BatchTree → Option TripleTree → Option RightTree = λ b o. option_map (λ (t : TripleTree). record { number = n; doc = t.right; draft = w; last = b }) o in
      ap (λ b. F b (triple_at left right start carried (made ++ e ∷ []) n)) (last_batch-front left right start carried Right made e n h)
      ∙ ap (F (last_batch left right start carried Right made n)) (triple_at-front left right start carried made e n h)

  pub record SealsLeftSite (s : LinkTree) (l' : LeftTree) (b : BatchTree) (r : RightTree) : Type 0 where
    pub happened : happens left right start carried s (seal Left) ≡ Some (Ok (with_entry Left s, sealed b))
    pub sites : Sites (with_entry Left s) l' r

  pub record SealsRightSite (s : LinkTree) (l : LeftTree) (r' : RightTree) (b : BatchTree) : Type 0 where
    pub happened : happens left right start carried s (seal Right) ≡ Some (Ok (with_entry Right s, sealed b))
    pub sites : Sites (with_entry Right s) l r'

  module _ (from_left : WordsCarry holds left right Left (carried Left)) (from_right : WordsCarry holds right left Right (carried Right)) where
    -- what the left site's draft is sealed to
    sealed_left : (s : LinkTree) (k : Linked s) → (q : SealsLeft holds left right start carried s k.left_draft.triple)
        → left_sealed (left_site_of left right start carried s k.left_draft.triple) (drafted left k.left_draft.triple.left s.left_draft) (carried Left k.left_draft.triple.comp s.left_draft)
        ≡ Ok (record { number = s.left_number + 1; doc = q.own; comp = q.carried_to.1; draft = no_primitives; last = Some (next_batch s.left_number q.carried_to.0) }, next_batch s.left_number q.carried_to.0)
    sealed_left s k q =
        let after : drafted left k.left_draft.triple.left s.left_draft ≡ q.own = ap (λ r. result_unwrap_or r k.left_draft.triple.left) q.acts in
        rw (after, q.carries) refl

    seals_left-of : (s : LinkTree) (k : Linked s) (r : RightTree) → right_site left right start carried s ≡ Some r → is_turn Left s.left_number ≡ true
        → nat_eq s.left_number (2 ^ 64 - 1) ≡ false → (q : SealsLeft holds left right start carried s k.left_draft.triple)
        → SealsLeftSite s (record { number = s.left_number + 1; doc = q.own; comp = q.carried_to.1; draft = no_primitives; last = Some (next_batch s.left_number q.carried_to.0) }) (next_batch s.left_number q.carried_to.0) r
    seals_left-of s k r right_is on more q =
        let sent = q.sent in
        let last = last_sealed Left (with_entry Left s).made s.left_number q.carried_to.0 on sent in
        record {
          happened = rw (on, more, sent) refl;
          sites = record {
            linked = q.linked;
            left_is = rw (q.at_after, last) refl;
            right_is = right_site-front s.made (Left, s.left_draft) s.right_number s.right_draft (within s k Right) ∙ right_is;
          };
        }

    pub seals_left_site : (s : LinkTree) (l : LeftTree) (r : RightTree) → Sites s l r → (l' : LeftTree) (b : BatchTree) → left_seal left carried l ≡ Ok (l', b)
        → SealsLeftSite s l' b r
    seals_left_site s l r a l' b made =
        let k = a.linked in
        let of = left_is_of s l k a.left_is in
        let m = may_seal Left s.left_number (left_sealed (left_site_of left right start carried s k.left_draft.triple) (drafted left k.left_draft.triple.left s.left_draft) (carried Left k.left_draft.triple.comp s.left_draft)) (l', b)
        (subst (λ l. left_seal left carried l ≡ Ok (l', b)) (sym of) made) in
        let q = seals_left holds left right start carried from_left from_right s k m.on in
        let is = sealed_left s k q in
        let both = same_pair is m.answers in
        subst (λ b. SealsLeftSite s l' b r) both.1 (subst (λ l. SealsLeftSite s l (next_batch s.left_number q.carried_to.0) r) both.0 (seals_left-of s k r a.right_is m.on m.more q))

    pub refuses_seal_left : (s : LinkTree) (l : LeftTree) (r : RightTree) → Sites s l r → (why : TurnRefusal) → left_seal left carried l ≡ Err why
        → happens left right start carried s (seal Left) ≡ Some (Err why)
    refuses_seal_left s l r a why made =
        let k = a.linked in
        let of = left_is_of s l k a.left_is in
        let answer = left_sealed (left_site_of left right start carried s k.left_draft.triple) (drafted left k.left_draft.triple.left s.left_draft) (carried Left k.left_draft.triple.comp s.left_draft) in
        let made' : left_seal left carried (left_site_of left right start carried s k.left_draft.triple) ≡ Err why = subst (λ l. left_seal left carried l ≡ Err why) (sym of) made in
        let n = s.left_number in
        elim (is_turn Left n) as (λ v. is_turn Left n ≡ v → (if v then (if nat_eq n (2 ^ 64 - 1) then Err last_number else answer) else Err (not_turn n)) ≡ Err why
        → happens left right start carried s (seal Left) ≡ Some (Err why)) [
          | true ↦ λ on. elim (nat_eq n (2 ^ 64 - 1)) as (λ v. nat_eq n (2 ^ 64 - 1) ≡ v → (if v then Err last_number else answer) ≡ Err why
              → happens left right start carried s (seal Left) ≡ Some (Err why)) [
                | true ↦ λ end is. let same : last_number ≡ why = cc in rw (on, end, same) refl
                | false ↦ λ more is. absurd (let q = seals_left holds left right start carried from_left from_right s k on in let sealed_is = sealed_left s k q in cc)
              ] refl
          | false ↦ λ off is. let same : not_turn n ≡ why = cc in rw (off, same) refl
        ] refl made'

    -- the right site's draft is its batch
    seals_right-of : (s : LinkTree) (k : Linked s) (l : LeftTree) → left_site left right start carried s ≡ Some l → is_turn Right s.right_number ≡ true
        → nat_eq s.right_number (2 ^ 64 - 1) ≡ false → (q : SealsRight holds left right start carried s k.right_draft.triple)
        → SealsRightSite s l (record { number = s.right_number + 1; doc = q.own; draft = no_primitives; last = Some (next_batch s.right_number s.right_draft) }) (next_batch s.right_number s.right_draft)
    seals_right-of s k l left_is on more q =
        let sent = q.sent in
        let last = last_sealed Right (with_entry Right s).made s.right_number s.right_draft on sent in
        record {
          happened = rw (on, more, sent) refl;
          sites = record {
            linked = q.linked;
            left_is = left_site-front s.made (Right, s.right_draft) s.left_number s.left_draft (within s k Left) ∙ left_is;
            right_is = rw (q.at_after, last) refl;
          };
        }

    sealed_right : (s : LinkTree) (k : Linked s) → (q : SealsRight holds left right start carried s k.right_draft.triple)
        → right_sealed (right_site_of left right start carried s k.right_draft.triple) (drafted right k.right_draft.triple.right s.right_draft)
        ≡ (record { number = s.right_number + 1; doc = q.own; draft = no_primitives; last = Some (next_batch s.right_number s.right_draft) }, next_batch s.right_number s.right_draft)
    sealed_right s k q =
        let after : drafted right k.right_draft.triple.right s.right_draft ≡ q.own = ap (λ r. result_unwrap_or r k.right_draft.triple.right) q.acts in
        rw after refl

    pub seals_right_site : (s : LinkTree) (l : LeftTree) (r : RightTree) → Sites s l r → (r' : RightTree) (b : BatchTree) → right_seal right r ≡ Ok (r', b)
        → SealsRightSite s l r' b
    seals_right_site s l r a r' b made =
        let k = a.linked in
        let of = right_is_of s r k a.right_is in
        let m = may_seal Right s.right_number (Ok (right_sealed (right_site_of left right start carried s k.right_draft.triple) (drafted right k.right_draft.triple.right s.right_draft))) (r', b)
        (subst (λ r. right_seal right r ≡ Ok (r', b)) (sym of) made) in
        let q = seals_right holds left right start carried from_left from_right s k m.on in
        let both = same_pair_ok (sealed_right s k q) m.answers in
        subst (λ b. SealsRightSite s l r' b) both.1 (subst (λ r. SealsRightSite s l r (next_batch s.right_number s.right_draft)) both.0 (seals_right-of s k l a.left_is m.on m.more q))

  pub refuses_seal_right : (s : LinkTree) (l : LeftTree) (r : RightTree) → Sites s l r → (why : TurnRefusal) → right_seal right r ≡ Err why
      → happens left right start carried s (seal Right) ≡ Some (Err why)
  refuses_seal_right s l r a why made =
      let k = a.linked in
      let of = right_is_of s r k a.right_is in
      let answer = right_sealed (right_site_of left right start carried s k.right_draft.triple) (drafted right k.right_draft.triple.right s.right_draft) in
      let made' : right_seal right (right_site_of left right start carried s k.right_draft.triple) ≡ Err why = subst (λ r. right_seal right r ≡ Err why) (sym of) made in
      let n = s.right_number in
      elim (is_turn Right n) as (λ v. is_turn Right n ≡ v → (if v then (if nat_eq n (2 ^ 64 - 1) then Err last_number else Ok answer) else Err (not_turn n)) ≡ Err why
      → happens left right start carried s (seal Right) ≡ Some (Err why)) [
        | true ↦ λ on. elim (nat_eq n (2 ^ 64 - 1)) as (λ v. nat_eq n (2 ^ 64 - 1) ≡ v → (if v then Err last_number else Ok answer) ≡ Err why
            → happens left right start carried s (seal Right) ≡ Some (Err why)) [
              | true ↦ λ end is. let same : last_number ≡ why = cc in rw (on, end, same) refl
              | false ↦ λ more is. absurd cc
            ] refl
        | false ↦ λ off is. let same : not_turn n ≡ why = cc in rw (off, same) refl
      ] refl made'

  -- ---- receive

  -- what the link says of a batch that a side received
  abbrev pub received : Side → ℕ → LinkTree → Received → LinkTree × ToldTree
  received side k s Taken = (with_number side k s, taken k)
  received side k s Stale = (s, stale k)

  pub record Receives (s : LinkTree) (p : ℕ) (side : Side) (k : ℕ) (a : Received) (l : LeftTree) (r : RightTree) : Type 0 where
    pub happened : happens left right start carried s (deliver p) ≡ Some (Ok (received side k s a))
    pub sites : Sites (received side k s a).0 l r

  -- a fresh batch is taken
  pub taken_left : (s : LinkTree) (k : Linked s) (b : BatchTree) → b.number ≤ length s.made → s.left_number < b.number
      → batch_word left right start carried s.made b.number ≡ Some b.word
      → (l' : LeftTree) × (left_receive left carried (left_site_of left right start carried s k.left_draft.triple) b ≡ Ok (l', Taken)) × (left_site left right start carried (with_number Left b.number s) ≡ Some l')
  taken_left s k b made newer word =
      let new = fresh_left holds left right start carried s k.turns b.number made newer in
      let q = takes_left holds left right start carried s k b.word b.number made newer word in
      let l' : LeftTree = record { number = s.left_number + 1; doc = q.far; comp = q.carried_to.1; draft = s.left_draft; last = last_batch left right start carried Left s.made s.left_number } in
      let not_stale : nat_le b.number s.left_number ≡ false = not_at_most b.number s.left_number newer in
      let next : nat_eq b.number (s.left_number + 1) ≡ true = eq-eqb b.number (s.left_number + 1) new.0 in
      let off = new.3 in
      let carries = q.carries in
      let acts = q.far_acts in
      let last : last_batch left right start carried Left s.made b.number ≡ last_batch left right start carried Left s.made s.left_number =
      ap (last_batch left right start carried Left s.made) new.0 ∙ last_batch-taken left right start carried Left s.made s.left_number off in
      let number = new.0 in
      (l', rw (not_stale, next, off, carries, acts) refl, rw (q.at_after, last) (ap (λ n. let site : LeftTree = record l' { number = n } in Some site) number))

  pub taken_right : (s : LinkTree) (k : Linked s) (b : BatchTree) → b.number ≤ length s.made → s.right_number < b.number
      → batch_word left right start carried s.made b.number ≡ Some b.word
      → (r' : RightTree) × (right_receive right (right_site_of left right start carried s k.right_draft.triple) b ≡ Ok (r', Taken)) × (right_site left right start carried (with_number Right b.number s) ≡ Some r')
  taken_right s k b made newer word =
      let new = fresh_right holds left right start carried s k.turns b.number made newer in
      let q = takes_right holds left right start carried s k b.word b.number made newer word in
      let r' : RightTree = record { number = s.right_number + 1; doc = q.far; draft = s.right_draft; last = last_batch left right start carried Right s.made s.right_number } in
      let not_stale : nat_le b.number s.right_number ≡ false = not_at_most b.number s.right_number newer in
      let next : nat_eq b.number (s.right_number + 1) ≡ true = eq-eqb b.number (s.right_number + 1) new.0 in
      let on = new.3 in
      let acts = q.far_acts in
      let last : last_batch left right start carried Right s.made b.number ≡ last_batch left right start carried Right s.made s.right_number =
      ap (last_batch left right start carried Right s.made) new.0 ∙ last_batch-taken left right start carried Right s.made s.right_number (ap not on) in
      let number = new.0 in
      (r', rw (not_stale, next, on, acts) refl, rw (q.at_after, last) (ap (λ n. let site : RightTree = record r' { number = n } in Some site) number))

  -- a batch of a packet, at its addressee
  pub receives_left-of : (s : LinkTree) (k : Linked s) (r : RightTree) → right_site left right start carried s ≡ Some r → (p : ℕ) (b : BatchTree)
      → slice_get s.packets p ≡ Some (record { to = Left; batch = b })
      → (l' : LeftTree) × (a : Received) × (left_receive left carried (left_site_of left right start carried s k.left_draft.triple) b ≡ Ok (l', a)) × Receives s p Left b.number a l' r
  receives_left-of s k r right_is p b is =
      let of = k.turns.packets p (record { to = Left; batch = b }) is in
      elim (nat_le b.number s.left_number) as (λ v. nat_le b.number s.left_number ≡ v
      → (l' : LeftTree) × (a : Received) × (left_receive left carried (left_site_of left right start carried s k.left_draft.triple) b ≡ Ok (l', a)) × Receives s p Left b.number a l' r) [
        | true ↦ λ old. (
          left_site_of left right start carried s k.left_draft.triple,
          Stale,
          rw old refl,
          record {
            happened = rw (is, old) refl;
            sites = record { linked = k; left_is = ap (option_map (left_site_of left right start carried s)) k.left_draft.at_number; right_is = right_is };
          },
        )
        | false ↦ λ new.
            let newer = at_most b.number s.left_number new in
            let t = taken_left s k b of.made_already newer of.word in
            let q = takes_left holds left right start carried s k b.word b.number of.made_already newer of.word in (
              t.0,
              Taken,
              t.1,
              record {
                happened = rw (is, new) refl;
                sites = record { linked = q.linked; left_is = t.2; right_is = right_is };
              },
            )
      ] refl

  pub receives_right-of : (s : LinkTree) (k : Linked s) (l : LeftTree) → left_site left right start carried s ≡ Some l → (p : ℕ) (b : BatchTree)
      → slice_get s.packets p ≡ Some (record { to = Right; batch = b })
      → (r' : RightTree) × (a : Received) × (right_receive right (right_site_of left right start carried s k.right_draft.triple) b ≡ Ok (r', a)) × Receives s p Right b.number a l r'
  receives_right-of s k l left_is p b is =
      let of = k.turns.packets p (record { to = Right; batch = b }) is in
      elim (nat_le b.number s.right_number) as (λ v. nat_le b.number s.right_number ≡ v
      → (r' : RightTree) × (a : Received) × (right_receive right (right_site_of left right start carried s k.right_draft.triple) b ≡ Ok (r', a)) × Receives s p Right b.number a l r') [
        | true ↦ λ old. (
          right_site_of left right start carried s k.right_draft.triple,
          Stale,
          rw old refl,
          record {
            happened = rw (is, old) refl;
            sites = record { linked = k; left_is = left_is; right_is = ap (option_map (right_site_of left right start carried s)) k.right_draft.at_number };
          },
        )
        | false ↦ λ new.
            let newer = at_most b.number s.right_number new in
            let t = taken_right s k b of.made_already newer of.word in
            let q = takes_right holds left right start carried s k b.word b.number of.made_already newer of.word in (
              t.0,
              Taken,
              t.1,
              record {
                happened = rw (is, new) refl;
                sites = record { linked = q.linked; left_is = left_is; right_is = t.2 };
              },
            )
      ] refl

  pub receives_left : (s : LinkTree) (l : LeftTree) (r : RightTree) → Sites s l r → (p : ℕ) (b : BatchTree) → slice_get s.packets p ≡ Some (record { to = Left; batch = b })
      → (l' : LeftTree) (a : Received) → left_receive left carried l b ≡ Ok (l', a) → Receives s p Left b.number a l' r
  receives_left s l r a p b is l' answer made =
      let k = a.linked in
      let t = receives_left-of s k r a.right_is p b is in
      let made' : left_receive left carried (left_site_of left right start carried s k.left_draft.triple) b ≡ Ok (l', answer) = subst (λ l. left_receive left carried l b ≡ Ok (l', answer)) (sym (left_is_of s l k a.left_is)) made in
      let both = same_pair t.2 made' in
      subst (λ a. Receives s p Left b.number a l' r) both.1 (subst (λ l. Receives s p Left b.number t.1 l r) both.0 t.3)

  pub receives_right : (s : LinkTree) (l : LeftTree) (r : RightTree) → Sites s l r → (p : ℕ) (b : BatchTree) → slice_get s.packets p ≡ Some (record { to = Right; batch = b })
      → (r' : RightTree) (a : Received) → right_receive right r b ≡ Ok (r', a) → Receives s p Right b.number a l r'
  receives_right s l r a p b is r' answer made =
      let k = a.linked in
      let t = receives_right-of s k l a.left_is p b is in
      let made' : right_receive right (right_site_of left right start carried s k.right_draft.triple) b ≡ Ok (r', answer) = subst (λ r. right_receive right r b ≡ Ok (r', answer)) (sym (right_is_of s r k a.right_is)) made in
      let both = same_pair t.2 made' in
      subst (λ a. Receives s p Right b.number a l r') both.1 (subst (λ r. Receives s p Right b.number t.1 l r) both.0 t.3)

  -- and it is never refused
  pub never_refused_left : (s : LinkTree) (l : LeftTree) (r : RightTree) → Sites s l r → (p : ℕ) (b : BatchTree) → slice_get s.packets p ≡ Some (record { to = Left; batch = b })
      → (why : TurnRefusal) → left_receive left carried l b ≡ Err why → ⊥
  never_refused_left s l r a p b is why made =
      let k = a.linked in
      let t = receives_left-of s k r a.right_is p b is in
      let accepted = t.2 in
      let made' : left_receive left carried (left_site_of left right start carried s k.left_draft.triple) b ≡ Err why = subst (λ l. left_receive left carried l b ≡ Err why) (sym (left_is_of s l k a.left_is)) made in
      apart accepted made'

  pub never_refused_right : (s : LinkTree) (l : LeftTree) (r : RightTree) → Sites s l r → (p : ℕ) (b : BatchTree) → slice_get s.packets p ≡ Some (record { to = Right; batch = b })
      → (why : TurnRefusal) → right_receive right r b ≡ Err why → ⊥
  never_refused_right s l r a p b is why made =
      let k = a.linked in
      let t = receives_right-of s k l a.left_is p b is in
      let accepted = t.2 in
      let made' : right_receive right (right_site_of left right start carried s k.right_draft.triple) b ≡ Err why = subst (λ r. right_receive right r b ≡ Err why) (sym (right_is_of s r k a.right_is)) made in
      apart accepted made'
