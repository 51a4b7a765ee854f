-- The triples after the entries of a list that grows at its end.
use Rattle.std.proofs.Common.{◌≡◌, ℕ, ◌+◌, ◌-◌, ◌<◌, ◌≤◌, List, [], ◌∷◌, ◌++◌, length, take, map, slice_get, Option, None, Some, Ok, false, zero, suc, if◌then◌else◌, refl, sym, ap, ◌∙◌, arith}
use Rattle.std.specs.Prelude.{nat_eq, option_map, option_and_then}
use Rattle.std.proofs.lemmas.List.{take_all, take-append-le}
use Rattle.texts.specs.declared.side.Side.{Side}
use Rattle.texts.specs.Sides.{other}
use Rattle.doc_values.specs.Documents.{DocTree}
use Rattle.doc_values.specs.Types.{TyTree}
use Rattle.edit_module.specs.Words.{WordTree}
use Rattle.edit_module.specs.Action.{act}
use Rattle.lens_core.specs.Complements.{CompTree}
use Rattle.lens_core.specs.Sides.{near}
use Rattle.lens_core.specs.Translation.{Translated}
use Rattle.edit_session.specs.Step.{TripleTree, first, document_on, triple_from, step}
use Rattle.edit_session.specs.Run.{AnswerTree, last, take_item, run}
use Rattle.turn_link.specs.Turns.{BatchTree, is_turn, last_made}
use Rattle.turn_link.specs.Links.{single, triple_at, batch_word, batch_at, last_batch}
use Rattle.turn_link.proofs.Numbers.{length-snoc, positive, last_made-le, last_made-taken}
use Rattle.hold_shapes.proofs.RunOrigins.{slice_get-front}

-- the triple after a list of items begins at the triple after the first
last-cons : (t : TripleTree) (s : TripleTree × AnswerTree ⊥) (o : Option (List (TripleTree × AnswerTree ⊥)))
    → option_map (last t) (option_map (λ steps. s ∷ steps) o) ≡ option_map (last s.0) o
last-cons t s None = refl
last-cons t s (Some steps) = refl

module _ (left : TyTree) (right : TyTree) (start : CompTree) (carried : Side → CompTree → WordTree → Option Translated) where
  -- the triple after these entries, from this one
  abbrev pub follow : TripleTree → List (Side × WordTree) → Option TripleTree
  follow t es = option_map (last t) (run {F = ⊥} left right carried t (map single es))

  -- the triple after an entry
  abbrev pub entered : TripleTree → Side × WordTree → Option TripleTree
  entered t e = option_map (λ s. s.0) (take_item {F = ⊥} left right carried t (single e))

  follow-one : (t : TripleTree) (o : Option (TripleTree × AnswerTree ⊥))
      → option_map (last t) (option_and_then (λ s. option_map (λ steps. s ∷ steps) (Some [])) o) ≡ option_map (λ s. s.0) o
  follow-one t None = refl
  follow-one t (Some s) = refl

  follow-cons : (t : TripleTree) (es : List (Side × WordTree)) (o : Option (TripleTree × AnswerTree ⊥))
      → option_map (last t) (option_and_then (λ s. option_map (λ steps. s ∷ steps) (run {F = ⊥} left right carried s.0 (map single es))) o)
      ≡ option_and_then (λ s. follow s.0 es) o
  follow-cons t es None = refl
  follow-cons t es (Some s) = last-cons t s (run {F = ⊥} left right carried s.0 (map single es))

  both : (e : Side × WordTree) (es : List (Side × WordTree)) (o : Option (TripleTree × AnswerTree ⊥))
      → ((t : TripleTree) → follow t (es ++ e ∷ []) ≡ option_and_then (λ u. entered u e) (follow t es))
      → option_and_then (λ s. follow s.0 (es ++ e ∷ [])) o ≡ option_and_then (λ u. entered u e) (option_and_then (λ s. follow s.0 es) o)
  both e es None ih = refl
  both e es (Some s) ih = ih s.0

  pub follow-snoc : (t : TripleTree) (es : List (Side × WordTree)) (e : Side × WordTree)
      → follow t (es ++ e ∷ []) ≡ option_and_then (λ u. entered u e) (follow t es)
  follow-snoc t [] e = follow-one t (take_item left right carried t (single e))
  follow-snoc t (x ∷ es) e =
      let o : Option (TripleTree × AnswerTree ⊥) = take_item left right carried t (single x) in
      follow-cons t (es ++ e ∷ []) o ∙ both e es o (λ u. follow-snoc u es e) ∙ ap (option_and_then (λ u. entered u e)) (sym (follow-cons t es o))

  -- an entry whose word acts, is carried, and acts on the other side
  pub steps : (t : TripleTree) (e : Side × WordTree) (x : DocTree) (r : Translated) (y : DocTree)
      → act (near e.0 left right) e.1 (document_on e.0 t) ≡ Ok x → carried e.0 t.comp e.1 ≡ Some r
      → act (near (other e.0) left right) r.0 (document_on (other e.0) t) ≡ Ok y
      → step left right carried t e ≡ Some (Ok (triple_from e.0 x r.1 y, r.0))
  steps t e x r y acts carries far_acts = rw (acts, carries, far_acts) refl

  -- ---- the triples of a longer list

  pub triple_at-front : (made : List (Side × WordTree)) (e : Side × WordTree) (k : ℕ) → k ≤ length made
      → triple_at left right start carried (made ++ e ∷ []) k ≡ triple_at left right start carried made k
  triple_at-front made e k h = ap (follow (first left right start)) (take-append-le k made (e ∷ []) h)

  pub triple_at-end : (made : List (Side × WordTree)) (e : Side × WordTree) (t u : TripleTree)
      → triple_at left right start carried made (length made) ≡ Some t → entered t e ≡ Some u
      → triple_at left right start carried (made ++ e ∷ []) (length made + 1) ≡ Some u
  triple_at-end made e t u at_length enters =
      let whole : take (length made) made ≡ made = take_all (length made) made (omega arith) in
      let longer : take (length made + 1) (made ++ e ∷ []) ≡ made ++ e ∷ [] = take_all (length made + 1) (made ++ e ∷ []) (omega (arith, length-snoc made e)) in
      let before : follow (first left right start) made ≡ Some t = ap (follow (first left right start)) (sym whole) ∙ at_length in
      ap (follow (first left right start)) longer ∙ follow-snoc (first left right start) made e ∙ ap (option_and_then (λ u. entered u e)) before ∙ enters

  pub triple_at-none : triple_at left right start carried [] 0 ≡ Some (first left right start)
  triple_at-none = refl

  -- ---- the words of its batches

  pub batch_word-front : (made : List (Side × WordTree)) (e : Side × WordTree) (k : ℕ) → 0 < k → k ≤ length made
      → batch_word left right start carried (made ++ e ∷ []) k ≡ batch_word left right start carried made k
  batch_word-front made e k from_one within =
      let place : k - 1 < length made = omega arith in
      let same_entry : slice_get (made ++ e ∷ []) (k - 1) ≡ slice_get made (k - 1) = slice_get-front made (e ∷ []) (k - 1) place in
      let same_triple = triple_at-front made e (k - 1) (omega arith) in
      rw (same_entry, same_triple) refl

  pub batch_at-front : (made : List (Side × WordTree)) (e : Side × WordTree) (k : ℕ) → 0 < k → k ≤ length made
      → batch_at left right start carried (made ++ e ∷ []) k ≡ batch_at left right start carried made k
  batch_at-front made e k from_one within = ap (option_map (λ w. record { number = k; word = w })) (batch_word-front made e k from_one within)

  -- a batch with a word is the one with its number and this word
  pub named_batch : (made : List (Side × WordTree)) (k : ℕ) (w : WordTree) (b : BatchTree) → batch_word left right start carried made k ≡ Some w
      → batch_at left right start carried made k ≡ Some b → record { number = k; word = w } ≡ b
  named_batch made k w b word at =
      let at' : batch_at left right start carried made k ≡ Some (record { number = k; word = w }) = ap (option_map (λ w. record { number = k; word = w })) word in
      cc

  -- the last batch of a side that has at most these entries
  pub last_batch-front : (side : Side) (made : List (Side × WordTree)) (e : Side × WordTree) (n : ℕ) → n ≤ length made
      → last_batch left right start carried side (made ++ e ∷ []) n ≡ last_batch left right start carried side made n
  last_batch-front side made e n within = by_number (last_made side n) (omega (arith, last_made-le side n))
    where
      by_number : (k : ℕ) → k ≤ length made
          → (if nat_eq k 0 then None else batch_at left right start carried (made ++ e ∷ []) k) ≡ (if nat_eq k 0 then None else batch_at left right start carried made k)
      by_number zero h = refl
      by_number (suc k) h = let some = positive (suc k) (omega arith) in rw some (batch_at-front made e (suc k) (omega arith) h)

  -- taking a batch leaves a side's own last batch
  pub last_batch-taken : (side : Side) (made : List (Side × WordTree)) (n : ℕ) → is_turn side n ≡ false
      → last_batch left right start carried side made (n + 1) ≡ last_batch left right start carried side made n
  last_batch-taken side made n off =
      ap (λ k. if nat_eq k 0 then None else batch_at left right start carried made k) (last_made-taken side n off)
