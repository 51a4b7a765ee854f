-- Each event keeps a link in turns.
use Rattle.std.proofs.Common.{◌≡◌, ℕ, ◌+◌, ◌-◌, ◌<◌, ◌≤◌, List, [], ◌∷◌, ◌++◌, inl, inr, length, Option, Some, Ok, true, false, not, if◌then◌else◌, refl, sym, ap, ◌∙◌, subst, arith}
use borrow.Author.Count.{below_more}
use Rattle.texts.specs.declared.side.Side.{Side}
use Rattle.texts.specs.declared.side.Side.TheVariants.{Left, Right}
use Rattle.texts.specs.Sides.{other}
use Rattle.doc_values.specs.Documents.{DocTree}
use Rattle.doc_values.specs.Types.{TyTree}
use Rattle.edit_module.specs.Words.{WordTree, no_primitives, joined}
use Rattle.edit_module.specs.Action.{act}
use Rattle.lens_core.specs.Complements.{CompTree}
use Rattle.lens_core.specs.Sides.{near}
use Rattle.lens_core.specs.Translation.{Translated}
use Rattle.lens_core.specs.Laws.{WordsCarry}
use Rattle.edit_session.specs.Step.{TripleTree, IsInStep, document_on, triple_from}
use Rattle.edit_session.proofs.StepsCarry.{carries, from_seen}
use Rattle.turn_link.specs.Turns.{BatchTree, is_even, is_turn, last_made}
use Rattle.turn_link.specs.Links.{LinkTree, PacketTree, number_on, with_entry, with_number, with_draft, with_packet, triple_at, batch_word, batch_at}
use Rattle.turn_link.specs.Laws.{IsOfBatch, InTurns, Moment, Present, IsDraft, IsLinked}
use Rattle.turn_link.proofs.Numbers.{length-snoc, slice_get-end, slice_get-snoc, turn-next, turn-other, both_odd, even-next, last_made-le}
use Rattle.turn_link.proofs.Histories.{triple_at-front, triple_at-end, batch_word-front, named_batch, steps, entered}
use Rattle.std.proofs.lemmas.Bool.{not-true}
use Rattle.edit_module.proofs.JoinedWords.{acts_joined}
use Rattle.hold_shapes.proofs.RunOrigins.{slice_get-front}

module _ (holds : DocTree → CompTree → DocTree → Type 0) (left : TyTree) (right : TyTree) (start : CompTree) (carried : Side → CompTree → WordTree → Option Translated) where
  abbrev Linked : LinkTree → Type 0
  Linked = IsLinked holds left right start carried

  abbrev Moments : List (Side × WordTree) → Type 0
  Moments made = (k : ℕ) → k < length made → Moment holds left right start carried made k

  -- ---- numbers

  -- on a side's turn both numbers are the number of entries
  pub on_turn : (s : LinkTree) → InTurns holds left right start carried s → (side : Side) → is_turn side (number_on side s) ≡ true
      → (number_on (other side) s ≡ number_on side s) × (length s.made ≡ number_on side s)
  on_turn s t Left on =
      let same : s.right_number ≡ s.left_number = t.even on in
      (same, omega (arith, t.all_made, same))
  on_turn s t Right on =
      let odd : is_even s.right_number ≡ false = not-true (is_even s.right_number) on in
      let same : s.left_number ≡ s.right_number = elim (is_even s.left_number) as (λ b. is_even s.left_number ≡ b → s.left_number ≡ s.right_number) [
        | true ↦ λ even. sym (t.even even)
        | false ↦ λ odd'. both_odd s.left_number s.right_number t.left_near t.right_near odd' odd
      ] refl in
      (same, omega (arith, t.all_made, same))

  -- ---- a new entry

  moment-front : (made : List (Side × WordTree)) (e : Side × WordTree) (k : ℕ) → k < length made
      → Moment holds left right start carried made k → Moment holds left right start carried (made ++ e ∷ []) k
  moment-front made e k h m = record {
    before = m.before;
    entry = m.entry;
    own = m.own;
    carried_to = m.carried_to;
    far = m.far;
    at_before = triple_at-front left right start carried made e k (omega arith) ∙ m.at_before;
    entry_is = slice_get-front made (e ∷ []) k h ∙ m.entry_is;
    turn = m.turn;
    in_step = m.in_step;
    acts = m.acts;
    carries = m.carries;
    far_acts = m.far_acts;
    at_after = triple_at-front left right start carried made e (k + 1) (omega arith) ∙ m.at_after;
    after_in_step = m.after_in_step;
  }

  -- the moment of a new entry, of a side whose turn it is, with a word that acts on the last triple
  module _ (from_left : WordsCarry holds left right Left (carried Left)) (from_right : WordsCarry holds right left Right (carried Right)) where
    abbrev pub new_moment : (made : List (Side × WordTree)) (side : Side) (w : WordTree) (x : DocTree) (p : Present holds left right start carried made)
        → is_turn side (length made) ≡ true → act (near side left right) w (document_on side p.triple) ≡ Ok x
        → Moment holds left right start carried (made ++ (side, w) ∷ []) (length made)
    new_moment made side w x p turn acts =
        let e : Side × WordTree = (side, w) in
        let c = carries holds left right carried from_left from_right side p.triple w x p.in_step acts in
        let stepped = steps left right start carried p.triple e x (c.word, c.comp) c.document acts c.carried c.acts in
        let enters : entered left right start carried p.triple e ≡ Some (triple_from side x c.comp c.document) = rw stepped refl in
        record {
          before = p.triple;
          entry = e;
          own = x;
          carried_to = (c.word, c.comp);
          far = c.document;
          at_before = triple_at-front left right start carried made e (length made) (omega arith) ∙ p.at_length;
          entry_is = slice_get-end made e;
          turn = turn;
          in_step = p.in_step;
          acts = acts;
          carries = c.carried;
          far_acts = c.acts;
          at_after = triple_at-end left right start carried made e p.triple (triple_from side x c.comp c.document) p.at_length enters;
          after_in_step = from_seen holds side x c.comp c.document c.consistent;
        }

    -- the moments and the last triple of the longer list
    pub longer_moments : (made : List (Side × WordTree)) (e : Side × WordTree) → Moments made
        → Moment holds left right start carried (made ++ e ∷ []) (length made) → Moments (made ++ e ∷ [])
    longer_moments made e ms m k h =
        below_more (λ i. i < length made + 1 → Moment holds left right start carried (made ++ e ∷ []) i) (length made)
        (λ i below _. moment-front made e i below (ms i below)) (λ _. m) k (omega (arith, length-snoc made e)) (omega (arith, length-snoc made e))

    pub new_present : (made : List (Side × WordTree)) (e : Side × WordTree) → Moment holds left right start carried (made ++ e ∷ []) (length made)
        → Present holds left right start carried (made ++ e ∷ [])
    new_present made e m = record {
      triple = triple_from m.entry.0 m.own m.carried_to.1 m.far;
      at_length = ap (triple_at left right start carried (made ++ e ∷ [])) (length-snoc made e) ∙ m.at_after;
      in_step = m.after_in_step;
    }

  -- a moment of a known side: what was sent of it is the carried word of a left entry, and the word of a right one
  record MomentOf (made : List (Side × WordTree)) (k : ℕ) (side : Side) : Type 0 where
    before : TripleTree
    word : WordTree
    own : DocTree
    carried_to : Translated
    far : DocTree
    at_before : triple_at left right start carried made k ≡ Some before
    acts : act (near side left right) word (document_on side before) ≡ Ok own
    carries : carried side before.comp word ≡ Some carried_to
    far_acts : act (near (other side) left right) carried_to.0 (document_on (other side) before) ≡ Ok far
    at_after : triple_at left right start carried made (k + 1) ≡ Some (triple_from side own carried_to.1 far)
    sent : batch_word left right start carried made (k + 1) ≡ Some (near side carried_to.0 word)

  sent_word : (made : List (Side × WordTree)) (k : ℕ) (side : Side) (m : Moment holds left right start carried made k) → m.entry.0 ≡ side
      → batch_word left right start carried made (k + 1) ≡ Some (near side m.carried_to.0 m.entry.1)
  sent_word made k Left m is =
      let even : is_even k ≡ true = subst (λ side. is_turn side k ≡ true) is m.turn in
      let odd : is_even (k + 1) ≡ false = even-next k ∙ ap not even in
      let place : k + 1 - 1 ≡ k = omega arith in
      let stepped = steps left right start carried m.before m.entry m.own m.carried_to m.far m.acts m.carries m.far_acts in
      rw (odd, place, m.at_before, m.entry_is, stepped) refl
  sent_word made k Right m is =
      let odd : is_even k ≡ false = not-true (is_even k) (subst (λ side. is_turn side k ≡ true) is m.turn) in
      let even : is_even (k + 1) ≡ true = even-next k ∙ ap not odd in
      let place : k + 1 - 1 ≡ k = omega arith in
      rw (even, place, m.entry_is) refl

  own_moment : (made : List (Side × WordTree)) (k : ℕ) (m : Moment holds left right start carried made k) → MomentOf made k m.entry.0
  own_moment made k m = record {
    before = m.before;
    word = m.entry.1;
    own = m.own;
    carried_to = m.carried_to;
    far = m.far;
    at_before = m.at_before;
    acts = m.acts;
    carries = m.carries;
    far_acts = m.far_acts;
    at_after = m.at_after;
    sent = sent_word made k m.entry.0 m refl;
  }

  -- the entry of a side's turn is that side's
  turn_side : (n : ℕ) (a b : Side) → is_turn a n ≡ true → is_turn b n ≡ true → a ≡ b
  turn_side n Left Left p q = refl
  turn_side n Left Right p q = absurd (let odd = not-true (is_even n) q in cc)
  turn_side n Right Left p q = absurd (let odd = not-true (is_even n) p in cc)
  turn_side n Right Right p q = refl

  moment_of : (made : List (Side × WordTree)) (k : ℕ) (side : Side) → is_turn side k ≡ true → Moment holds left right start carried made k → MomentOf made k side
  moment_of made k side turn m = subst (λ side. MomentOf made k side) (turn_side k m.entry.0 side m.turn turn) (own_moment made k m)

  -- every batch that was made has a word
  pub batch_word-some : (made : List (Side × WordTree)) (k : ℕ) → Moments made → 0 < k → k ≤ length made → (w : WordTree) × (batch_word left right start carried made k ≡ Some w)
  batch_word-some made k ms from_one within =
      let m = ms (k - 1) (omega arith) in
      let place : k - 1 + 1 ≡ k = omega arith in
      (near m.entry.0 m.carried_to.0 m.entry.1, subst (λ i. batch_word left right start carried made i ≡ Some (near m.entry.0 m.carried_to.0 m.entry.1)) place (sent_word made (k - 1) m.entry.0 m refl))

  -- ---- drafts and packets of a longer list

  draft-front : (made : List (Side × WordTree)) (e : Side × WordTree) (side : Side) (n : ℕ) (w : WordTree) → n ≤ length made
      → IsDraft holds left right start carried made side n w → IsDraft holds left right start carried (made ++ e ∷ []) side n w
  draft-front made e side n w within d = record {
    triple = d.triple;
    document = d.document;
    at_number = triple_at-front left right start carried made e n within ∙ d.at_number;
    acts = d.acts;
    idle = d.idle;
  }

  pub empty_draft : (made : List (Side × WordTree)) (side : Side) (n : ℕ) (t : TripleTree) → triple_at left right start carried made n ≡ Some t
      → IsDraft holds left right start carried made side n no_primitives
  empty_draft made side n t at = record { triple = t; document = document_on side t; at_number = at; acts = refl; idle = λ _. refl }

  packet-front : (made : List (Side × WordTree)) (e : Side × WordTree) (q : PacketTree)
      → IsOfBatch holds left right start carried made q → IsOfBatch holds left right start carried (made ++ e ∷ []) q
  packet-front made e q b = record {
    from_one = b.from_one;
    made_already = omega (arith, b.made_already, length-snoc made e);
    word = batch_word-front left right start carried made e q.batch.number b.from_one b.made_already ∙ b.word;
    address = b.address;
  }

  -- ---- a draft is sealed

  in_turns-left : (s : LinkTree) → Linked s → s.right_number ≡ s.left_number
      → length s.made ≡ s.left_number → is_even s.left_number ≡ true → InTurns holds left right start carried (with_entry Left s)
  in_turns-left s l same all on = record {
    left_near = omega (arith, same);
    right_near = omega (arith, same);
    all_made = omega (arith, same, all, length-snoc s.made (Left, s.left_draft));
    even = λ even. absurd (let odd = even-next s.left_number in cc);
    packets = λ p q is. packet-front s.made (Left, s.left_draft) q (l.turns.packets p q is);
    together = λ e. absurd (omega (arith, same, e));
  }

  in_turns-right : (s : LinkTree) → Linked s → s.left_number ≡ s.right_number
      → length s.made ≡ s.right_number → is_even s.right_number ≡ false → InTurns holds left right start carried (with_entry Right s)
  in_turns-right s l same all on = record {
    left_near = omega (arith, same);
    right_near = omega (arith, same);
    all_made = omega (arith, same, all, length-snoc s.made (Right, s.right_draft));
    even = λ even. absurd (let odd : is_even s.left_number ≡ false = ap is_even same ∙ on in cc);
    packets = λ p q is. packet-front s.made (Right, s.right_draft) q (l.turns.packets p q is);
    together = λ e. absurd (omega (arith, same, e));
  }

  -- the last triple is the one that a side with the number of entries shows
  present_at : (made : List (Side × WordTree)) (n : ℕ) (t : TripleTree) → length made ≡ n → triple_at left right start carried made n ≡ Some t
      → Present holds left right start carried made → IsInStep holds t
  present_at made n t all at p =
      let at' : triple_at left right start carried made n ≡ Some p.triple = ap (triple_at left right start carried made) (sym all) ∙ p.at_length in
      let same : p.triple ≡ t = cc in
      subst (IsInStep holds) same p.in_step

  -- what sealing the left draft makes, where the left shows this triple
  pub record SealsLeft (s : LinkTree) (t : TripleTree) : Type 0 where
    pub own : DocTree
    pub carried_to : Translated
    pub far : DocTree
    pub acts : act left s.left_draft t.left ≡ Ok own
    pub carries : carried Left t.comp s.left_draft ≡ Some carried_to
    pub at_after : triple_at left right start carried (with_entry Left s).made (s.left_number + 1) ≡ Some (record { left = own; comp = carried_to.1; right = far })
    pub sent : batch_word left right start carried (with_entry Left s).made (s.left_number + 1) ≡ Some carried_to.0
    pub linked : Linked (with_entry Left s)

  pub record SealsRight (s : LinkTree) (t : TripleTree) : Type 0 where
    pub own : DocTree
    pub comp : CompTree
    pub far : DocTree
    pub acts : act right s.right_draft t.right ≡ Ok own
    pub at_after : triple_at left right start carried (with_entry Right s).made (s.right_number + 1) ≡ Some (record { left = far; comp = comp; right = own })
    pub sent : batch_word left right start carried (with_entry Right s).made (s.right_number + 1) ≡ Some s.right_draft
    pub linked : Linked (with_entry Right s)

  module _ (from_left : WordsCarry holds left right Left (carried Left)) (from_right : WordsCarry holds right left Right (carried Right)) where
    pub seals_left : (s : LinkTree) (l : Linked s) → is_turn Left s.left_number ≡ true → SealsLeft s l.left_draft.triple
    seals_left s l on =
        let numbers = on_turn s l.turns Left on in
        let same : s.right_number ≡ s.left_number = numbers.0 in
        let all : length s.made ≡ s.left_number = numbers.1 in
        let d = l.left_draft in
        let p : Present holds left right start carried s.made = record {
          triple = d.triple;
          at_length = ap (triple_at left right start carried s.made) all ∙ d.at_number;
          in_step = present_at s.made s.left_number d.triple all d.at_number l.present;
        } in
        let m = new_moment from_left from_right s.made Left s.left_draft d.document p (ap (is_turn Left) all ∙ on) d.acts in
        let e : Side × WordTree = (Left, s.left_draft) in
        let next : length s.made + 1 ≡ s.left_number + 1 = ap (λ n. n + 1) all in
        let at_after = ap (triple_at left right start carried (s.made ++ e ∷ [])) (sym next) ∙ m.at_after in
        record {
          own = d.document;
          carried_to = m.carried_to;
          far = m.far;
          acts = d.acts;
          carries = m.carries;
          at_after = at_after;
          sent = ap (batch_word left right start carried (s.made ++ e ∷ [])) (sym next) ∙ sent_word (s.made ++ e ∷ []) (length s.made) Left m refl;
          linked = record {
            turns = in_turns-left s l same all on;
            moments = longer_moments from_left from_right s.made e l.moments m;
            present = new_present from_left from_right s.made e m;
            left_draft = empty_draft (s.made ++ e ∷ []) Left (s.left_number + 1) (record { left = d.document; comp = m.carried_to.1; right = m.far }) at_after;
            right_draft = draft-front s.made e Right s.right_number s.right_draft (omega (arith, same, all)) l.right_draft;
          };
        }

    pub seals_right : (s : LinkTree) (l : Linked s) → is_turn Right s.right_number ≡ true → SealsRight s l.right_draft.triple
    seals_right s l on =
        let numbers = on_turn s l.turns Right on in
        let same : s.left_number ≡ s.right_number = numbers.0 in
        let all : length s.made ≡ s.right_number = numbers.1 in
        let d = l.right_draft in
        let p : Present holds left right start carried s.made = record {
          triple = d.triple;
          at_length = ap (triple_at left right start carried s.made) all ∙ d.at_number;
          in_step = present_at s.made s.right_number d.triple all d.at_number l.present;
        } in
        let m = new_moment from_left from_right s.made Right s.right_draft d.document p (ap (is_turn Right) all ∙ on) d.acts in
        let e : Side × WordTree = (Right, s.right_draft) in
        let next : length s.made + 1 ≡ s.right_number + 1 = ap (λ n. n + 1) all in
        let at_after = ap (triple_at left right start carried (s.made ++ e ∷ [])) (sym next) ∙ m.at_after in
        record {
          own = d.document;
          comp = m.carried_to.1;
          far = m.far;
          acts = d.acts;
          at_after = at_after;
          sent = ap (batch_word left right start carried (s.made ++ e ∷ [])) (sym next) ∙ sent_word (s.made ++ e ∷ []) (length s.made) Right m refl;
          linked = record {
            turns = in_turns-right s l same all (not-true (is_even s.right_number) on);
            moments = longer_moments from_left from_right s.made e l.moments m;
            present = new_present from_left from_right s.made e m;
            left_draft = draft-front s.made e Left s.left_number s.left_draft (omega (arith, same, all)) l.left_draft;
            right_draft = empty_draft (s.made ++ e ∷ []) Right (s.right_number + 1) (record { left = m.far; comp = m.carried_to.1; right = d.document }) at_after;
          };
        }

  -- ---- a packet is delivered

  -- a batch that is not stale is the next one of its addressee, and the last that was made; the addressee has not the turn
  pub fresh_left : (s : LinkTree) → InTurns holds left right start carried s → (k : ℕ) → k ≤ length s.made → s.left_number < k
      → (k ≡ s.left_number + 1) × (s.right_number ≡ k) × (length s.made ≡ k) × (is_even s.left_number ≡ false)
  fresh_left s t k within newer = (
    omega (arith, t.all_made, t.right_near, t.left_near),
    omega (arith, t.all_made, t.right_near, t.left_near),
    omega (arith, t.all_made, t.right_near, t.left_near),
    elim (is_even s.left_number) as (λ b. is_even s.left_number ≡ b → b ≡ false) [
      | true ↦ λ even. absurd (omega (arith, t.even even, t.all_made))
      | false ↦ λ _. refl
    ] refl,
  )

  pub fresh_right : (s : LinkTree) → InTurns holds left right start carried s → (k : ℕ) → k ≤ length s.made → s.right_number < k
      → (k ≡ s.right_number + 1) × (s.left_number ≡ k) × (length s.made ≡ k) × (is_even s.right_number ≡ true)
  fresh_right s t k within newer =
      let next : s.left_number ≡ s.right_number + 1 = omega (arith, t.all_made, t.right_near, t.left_near) in (
        omega (arith, t.all_made, t.right_near, t.left_near),
        omega (arith, t.all_made, t.right_near, t.left_near),
        omega (arith, t.all_made, t.right_near, t.left_near),
        elim (is_even s.right_number) as (λ b. is_even s.right_number ≡ b → b ≡ true) [
          | true ↦ λ _. refl
          | false ↦ λ odd.
              let even : is_even s.left_number ≡ true = ap is_even next ∙ (even-next s.right_number ∙ ap not odd) in
              absurd (omega (arith, t.even even, next))
        ] refl,
      )

  pub record TakesLeft (s : LinkTree) (t : TripleTree) (w : WordTree) (k : ℕ) : Type 0 where
    pub carried_to : Translated
    pub far : DocTree
    pub own : DocTree
    pub carries : carried Right t.comp w ≡ Some carried_to
    pub far_acts : act left carried_to.0 t.left ≡ Ok far
    pub at_after : triple_at left right start carried s.made k ≡ Some (record { left = far; comp = carried_to.1; right = own })
    pub linked : Linked (with_number Left k s)

  pub record TakesRight (s : LinkTree) (t : TripleTree) (w : WordTree) (k : ℕ) : Type 0 where
    pub own : DocTree
    pub comp : CompTree
    pub far : DocTree
    pub far_acts : act right w t.right ≡ Ok far
    pub at_after : triple_at left right start carried s.made k ≡ Some (record { left = own; comp = comp; right = far })
    pub linked : Linked (with_number Right k s)

  -- the numbers are the same after it was taken
  in_turns-taken_left : (s : LinkTree) → Linked s → (k : ℕ) → s.right_number ≡ k → length s.made ≡ k → InTurns holds left right start carried (with_number Left k s)
  in_turns-taken_left s l k same all = record {
    left_near = omega (arith, same);
    right_near = omega (arith, same);
    all_made = omega (arith, same, all);
    even = λ _. same;
    packets = l.turns.packets;
    together = λ _. (l.present.triple, ap (triple_at left right start carried s.made) (sym all) ∙ l.present.at_length, l.present.in_step);
  }

  in_turns-taken_right : (s : LinkTree) → Linked s → (k : ℕ) → s.left_number ≡ k → length s.made ≡ k → InTurns holds left right start carried (with_number Right k s)
  in_turns-taken_right s l k same all = record {
    left_near = omega (arith, same);
    right_near = omega (arith, same);
    all_made = omega (arith, same, all);
    even = λ _. sym same;
    packets = l.turns.packets;
    together = λ _. (l.present.triple, ap (triple_at left right start carried s.made) (same ∙ sym all) ∙ l.present.at_length, l.present.in_step);
  }

  same_triple : (made : List (Side × WordTree)) (n : ℕ) (t u : TripleTree) → triple_at left right start carried made n ≡ Some t
      → triple_at left right start carried made n ≡ Some u → t ≡ u
  same_triple made n t u p q = cc

  same_word : (made : List (Side × WordTree)) (n : ℕ) (v w : WordTree) → batch_word left right start carried made n ≡ Some v
      → batch_word left right start carried made n ≡ Some w → v ≡ w
  same_word made n v w p q = cc

  pub takes_left : (s : LinkTree) (l : Linked s) (w : WordTree) (k : ℕ) → k ≤ length s.made → s.left_number < k
      → batch_word left right start carried s.made k ≡ Some w → TakesLeft s l.left_draft.triple w k
  takes_left s l w k within newer is =
      let new = fresh_left s l.turns k within newer in
      let d = l.left_draft in
      let next : s.left_number + 1 ≡ k = sym new.0 in
      let m = moment_of s.made s.left_number Right (ap not new.3) (l.moments s.left_number (omega (arith, new.0, new.2))) in
      let same_t : m.before ≡ d.triple = same_triple s.made s.left_number m.before d.triple m.at_before d.at_number in
      let same_w : m.word ≡ w = same_word s.made k m.word w (ap (batch_word left right start carried s.made) (sym next) ∙ m.sent) is in
      let at_after = ap (triple_at left right start carried s.made) (sym next) ∙ m.at_after in
      let no_draft : s.left_draft ≡ no_primitives = d.idle new.3 in
      record {
        carried_to = m.carried_to;
        far = m.far;
        own = m.own;
        carries = subst (λ v. carried Right d.triple.comp v ≡ Some m.carried_to) same_w (subst (λ (t : TripleTree). carried Right t.comp m.word ≡ Some m.carried_to) same_t m.carries);
        far_acts = subst (λ (t : TripleTree). act left m.carried_to.0 t.left ≡ Ok m.far) same_t m.far_acts;
        at_after = at_after;
        linked = record {
          turns = in_turns-taken_left s l k new.1 new.2;
          moments = l.moments;
          present = l.present;
          left_draft = subst (λ v. IsDraft holds left right start carried s.made Left k v) (sym no_draft) (empty_draft s.made Left k (record { left = m.far; comp = m.carried_to.1; right = m.own }) at_after);
          right_draft = l.right_draft;
        };
      }

  pub takes_right : (s : LinkTree) (l : Linked s) (w : WordTree) (k : ℕ) → k ≤ length s.made → s.right_number < k
      → batch_word left right start carried s.made k ≡ Some w → TakesRight s l.right_draft.triple w k
  takes_right s l w k within newer is =
      let new = fresh_right s l.turns k within newer in
      let d = l.right_draft in
      let next : s.right_number + 1 ≡ k = sym new.0 in
      let m = moment_of s.made s.right_number Left new.3 (l.moments s.right_number (omega (arith, new.0, new.2))) in
      let same_t : m.before ≡ d.triple = same_triple s.made s.right_number m.before d.triple m.at_before d.at_number in
      let same_w : m.carried_to.0 ≡ w = same_word s.made k m.carried_to.0 w (ap (batch_word left right start carried s.made) (sym next) ∙ m.sent) is in
      let at_after = ap (triple_at left right start carried s.made) (sym next) ∙ m.at_after in
      let no_draft : s.right_draft ≡ no_primitives = d.idle (ap not new.3) in
      record {
        own = m.own;
        comp = m.carried_to.1;
        far = m.far;
        far_acts = subst (λ v. act right v d.triple.right ≡ Ok m.far) same_w (subst (λ (t : TripleTree). act right m.carried_to.0 t.right ≡ Ok m.far) same_t m.far_acts);
        at_after = at_after;
        linked = record {
          turns = in_turns-taken_right s l k new.1 new.2;
          moments = l.moments;
          present = l.present;
          left_draft = l.left_draft;
          right_draft = subst (λ v. IsDraft holds left right start carried s.made Right k v) (sym no_draft) (empty_draft s.made Right k (record { left = m.own; comp = m.carried_to.1; right = m.far }) at_after);
        };
      }

  -- ---- an edit joins a draft

  -- a draft with other primitives that acts, on the side's turn
  pub draft_joined : (made : List (Side × WordTree)) (side : Side) (n : ℕ) (draft w : WordTree) (d : IsDraft holds left right start carried made side n draft) (y : DocTree)
      → is_turn side n ≡ true → act (near side left right) w d.document ≡ Ok y → IsDraft holds left right start carried made side n (joined draft w)
  draft_joined made side n draft w d y on acts = record {
    triple = d.triple;
    document = y;
    at_number = d.at_number;
    acts = acts_joined (near side left right) draft w (document_on side d.triple) d.document y d.acts acts;
    idle = λ off. absurd (let on' : is_turn side n ≡ true = on in cc);
  }

  in_turns-drafted_left : (s : LinkTree) (w : WordTree) → InTurns holds left right start carried s → InTurns holds left right start carried (with_draft Left w s)
  in_turns-drafted_left s w t = record { left_near = t.left_near; right_near = t.right_near; all_made = t.all_made; even = t.even; packets = t.packets; together = t.together }

  in_turns-drafted_right : (s : LinkTree) (w : WordTree) → InTurns holds left right start carried s → InTurns holds left right start carried (with_draft Right w s)
  in_turns-drafted_right s w t = record { left_near = t.left_near; right_near = t.right_near; all_made = t.all_made; even = t.even; packets = t.packets; together = t.together }

  pub linked-drafted_left : (s : LinkTree) (w : WordTree) (l : Linked s) → IsDraft holds left right start carried s.made Left s.left_number w → Linked (with_draft Left w s)
  linked-drafted_left s w l d = record { turns = in_turns-drafted_left s w l.turns; moments = l.moments; present = l.present; left_draft = d; right_draft = l.right_draft }

  pub linked-drafted_right : (s : LinkTree) (w : WordTree) (l : Linked s) → IsDraft holds left right start carried s.made Right s.right_number w → Linked (with_draft Right w s)
  linked-drafted_right s w l d = record { turns = in_turns-drafted_right s w l.turns; moments = l.moments; present = l.present; left_draft = l.left_draft; right_draft = d }

  -- ---- a batch is sent

  -- the last batch of a side was made, and the other side has the turn after it
  last_address : (side : Side) (n : ℕ) → 0 < last_made side n → is_turn (other side) (last_made side n) ≡ true
  last_address side n some =
      elim (is_turn side n) as (λ b. is_turn side n ≡ b → 0 < (if b then n - 1 else n) → is_turn (other side) (if b then n - 1 else n) ≡ true) [
        | true ↦ λ on one.
            let whole : n - 1 + 1 ≡ n = omega arith in
            let before : is_turn side n ≡ not (is_turn side (n - 1)) = ap (is_turn side) (sym whole) ∙ turn-next side (n - 1) in
            turn-other side (n - 1) ∙ (sym before ∙ on)
        | false ↦ λ off _. turn-other side n ∙ ap not off
      ] refl some

  -- the last batch of a side is one that was made
  pub last_of_batch : (s : LinkTree) (side : Side) (b : BatchTree) → Linked s → number_on side s ≤ length s.made → 0 < last_made side (number_on side s)
      → batch_at left right start carried s.made (last_made side (number_on side s)) ≡ Some b
      → IsOfBatch holds left right start carried s.made (record { to = other side; batch = b })
  last_of_batch s side b l within some at =
      let k = last_made side (number_on side s) in
      let w = batch_word-some s.made k l.moments some (omega (arith, last_made-le side (number_on side s))) in
      let made_it : record { number = k; word = w.0 } ≡ b = named_batch left right start carried s.made k w.0 b w.1 at in
      subst (λ b. IsOfBatch holds left right start carried s.made (record { to = other side; batch = b })) made_it (record {
        from_one = some;
        made_already = omega (arith, last_made-le side (number_on side s));
        word = w.1;
        address = last_address side (number_on side s) some;
      })

  pub linked-sent : (s : LinkTree) (side : Side) (b : BatchTree) → Linked s → IsOfBatch holds left right start carried s.made (record { to = other side; batch = b })
      → Linked (with_packet side b s)
  linked-sent s side b l of = record {
    turns = record {
      left_near = l.turns.left_near;
      right_near = l.turns.right_near;
      all_made = l.turns.all_made;
      even = l.turns.even;
      packets = λ p q is. elim (slice_get-snoc s.packets (record { to = other side; batch = b }) p q is) [
        | inl before ↦ l.turns.packets p q before
        | inr new ↦ subst (λ q. IsOfBatch holds left right start carried s.made q) (sym new) of
      ];
      together = l.turns.together;
    };
    moments = l.moments;
    present = l.present;
    left_draft = l.left_draft;
    right_draft = l.right_draft;
  }
