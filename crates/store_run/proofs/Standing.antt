-- The payloads that a run keeps stand for its triples.
use Rattle.std.proofs.Common.{◌≡◌, ◌⊎◌, inl, inr, ℕ, List, [], ◌∷◌, ◌++◌, Option, Some, None, refl, sym, ap, ap₂, subst, ◌∙◌, append_assoc, append-nil, Ok}
use Rattle.std.specs.Prelude.{option_to_list}
use Rattle.edit_journal.specs.declared.line.Line.{Line}
use Rattle.store_run.specs.StoreRuns.{AreSteps, last_stored, kept_of}
use Rattle.store_run.specs.declared.session.StoredSession as OfSession
use Rattle.store_run.specs.declared.session.StoredAnswer.{StoredAnswer}

abbrev Payloads : Type 0
Payloads = List (List ℕ)

module _ {A : Type 0} (session : OfSession.Ghosts A)
    (version_stands : (ps : Payloads) (t : session.State) (v : List ℕ) → session.stands_for ps ≡ Ok (t, Some v) → session.stands_for (ps ++ v ∷ []) ≡ Ok (t, None))
    (change_stands : (ps : Payloads) (t t' : session.State) (n : ℕ) (line : Line) (a : StoredAnswer) (p : List ℕ) → session.stands_for ps ≡ Ok (t, None) → session.answer t n line ≡ Some (t', a) → session.is_step t n line (t', a) → a.payload ≡ Some p
    → session.stands_for (ps ++ p ∷ []) ≡ Ok (t', None))
    (refused_stays : (t t' : session.State) (n : ℕ) (line : Line) (a : StoredAnswer) → session.answer t n line ≡ Some (t', a) → a.payload ≡ None → t' ≡ t) where
  -- these payloads, of which the last ones are `front`, stand for the triple behind the steps that kept `front`
  pub record StandsIn (before front : Payloads) (t : session.State) (steps : List (session.State × StoredAnswer)) : Type 0 where
    pub xs : List (session.State × StoredAnswer)
    pub ys : List (session.State × StoredAnswer)
    pub parts : steps ≡ xs ++ ys
    pub stands : session.stands_for (before ++ front) ≡ Ok (last_stored t xs, None)
    pub kept : front ≡ kept_of xs

  -- one more step in front, which kept this payload or none
  onto : (before front : Payloads) (o : Option (List ℕ)) (before' front' : Payloads) (t : session.State) (s : session.State × StoredAnswer) (steps : List (session.State × StoredAnswer)) → s.1.payload ≡ o
      → before' ++ front' ≡ before ++ front → front ≡ option_to_list o ++ front' → StandsIn before' front' s.0 steps → StandsIn before front t (s ∷ steps)
  onto before front o before' front' t s steps is same parts h = record {
    xs = s ∷ h.xs;
    ys = h.ys;
    parts = ap (λ (l : List (session.State × StoredAnswer)). s ∷ l) h.parts;
    stands = ap session.stands_for (sym same) ∙ h.stands;
    kept = parts ∙ ap (λ l. option_to_list o ++ l) h.kept ∙ ap (λ p. option_to_list p ++ kept_of h.xs) (sym is);
  }

  at_once : (before : Payloads) (t : session.State) (steps : List (session.State × StoredAnswer)) → session.stands_for before ≡ Ok (t, None) → StandsIn before [] t steps
  at_once before t steps h = record { xs = []; ys = steps; parts = refl; stands = ap session.stands_for (append-nil before) ∙ h; kept = refl }

  -- a step that kept something, or nothing
  front_step : (before : Payloads) (t : session.State) (s : session.State × StoredAnswer) (steps : List (session.State × StoredAnswer)) (p : List ℕ) (front rest : Payloads) → session.stands_for before ≡ Ok (t, None)
      → (n : ℕ) × (line : Line) × (session.answer t n line ≡ Some s) × session.is_step t n line s → (o : Option (List ℕ)) → s.1.payload ≡ o → option_to_list o ++ kept_of steps ≡ (p ∷ front) ++ rest
      → ((before' front' rest' : Payloads) → session.stands_for before' ≡ Ok (s.0, None) → kept_of steps ≡ front' ++ rest' → StandsIn before' front' s.0 steps)
      → StandsIn before (p ∷ front) t (s ∷ steps)
  front_step before t s steps p front rest h step None is e more =
      let stays : s.0 ≡ t = refused_stays t s.0 step.0 step.1 s.1 step.2 is in
      onto before (p ∷ front) None before (p ∷ front) t s steps is refl refl (more before (p ∷ front) rest (subst (λ (u : session.State). session.stands_for before ≡ Ok (u, None)) (sym stays) h) e)
  front_step before t s steps p front rest h step (Some q) is e more =
      let same : q ≡ p = cc in
      let tail : kept_of steps ≡ front ++ rest = cc in
      let next = change_stands before t s.0 step.0 step.1 s.1 q h step.2 step.3 is in
      let where_ : (before ++ q ∷ []) ++ front ≡ before ++ p ∷ front = append_assoc before (q ∷ []) front ∙ ap (λ (x : List ℕ). before ++ x ∷ front) same in
      let parts : p ∷ front ≡ q ∷ front = ap (λ (x : List ℕ). x ∷ front) (sym same) in
      onto before (p ∷ front) (Some q) (before ++ q ∷ []) front t s steps is where_ parts (more (before ++ q ∷ []) front rest next tail)

  -- the first of the payloads that are kept stand for the triple behind the steps that kept them
  pub front_stands : (before : Payloads) (t : session.State) (steps : List (session.State × StoredAnswer)) (front rest : Payloads) → session.stands_for before ≡ Ok (t, None) → AreSteps session t steps → kept_of steps ≡ front ++ rest
      → StandsIn before front t steps
  front_stands before t [] [] rest h chain e = at_once before t [] h
  front_stands before t [] (p ∷ front) rest h chain e = cc
  front_stands before t (s ∷ steps) [] rest h chain e = at_once before t (s ∷ steps) h
  front_stands before t (s ∷ steps) (p ∷ front) rest h chain e =
      front_step before t s steps p front rest h chain.0 s.1.payload refl e (λ before' front' rest' h' e'. front_stands before' s.0 steps front' rest' h' chain.1 e')

  all_step : (before : Payloads) (t : session.State) (s : session.State × StoredAnswer) (steps : List (session.State × StoredAnswer)) → session.stands_for before ≡ Ok (t, None) → (n : ℕ) × (line : Line) × (session.answer t n line ≡ Some s) × session.is_step t n line s
      → (o : Option (List ℕ)) → s.1.payload ≡ o → ((before' : Payloads) → session.stands_for before' ≡ Ok (s.0, None) → session.stands_for (before' ++ kept_of steps) ≡ Ok (last_stored s.0 steps, None))
      → session.stands_for (before ++ (option_to_list o ++ kept_of steps)) ≡ Ok (last_stored s.0 steps, None)
  all_step before t s steps h step None is more =
      let stays : s.0 ≡ t = refused_stays t s.0 step.0 step.1 s.1 step.2 is in
      more before (subst (λ (u : session.State). session.stands_for before ≡ Ok (u, None)) (sym stays) h)
  all_step before t s steps h step (Some q) is more =
      ap session.stands_for (sym (append_assoc before (q ∷ []) (kept_of steps))) ∙ more (before ++ q ∷ []) (change_stands before t s.0 step.0 step.1 s.1 q h step.2 step.3 is)

  -- all payloads that are kept stand for the last triple
  pub all_stand : (before : Payloads) (t : session.State) (steps : List (session.State × StoredAnswer)) → session.stands_for before ≡ Ok (t, None) → AreSteps session t steps → session.stands_for (before ++ kept_of steps) ≡ Ok (last_stored t steps, None)
  all_stand before t [] h chain = ap session.stands_for (append-nil before) ∙ h
  all_stand before t (s ∷ steps) h chain = all_step before t s steps h chain.0 s.1.payload refl (λ before' h'. all_stand before' s.0 steps h' chain.1)

  -- ---- with the version record

  pub whole_stands : (before : Payloads) (t : session.State) (version : Option (List ℕ)) (steps : List (session.State × StoredAnswer)) → session.stands_for before ≡ Ok (t, version) → AreSteps session t steps
      → session.stands_for ((before ++ option_to_list version) ++ kept_of steps) ≡ Ok (last_stored t steps, None)
  whole_stands before t None steps h chain = ap (λ (b : Payloads). session.stands_for (b ++ kept_of steps)) (append-nil before) ∙ all_stand before t steps h chain
  whole_stands before t (Some v) steps h chain = all_stand (before ++ v ∷ []) t steps (version_stands before t v h) chain

  -- the payloads stand for the triple behind the steps that kept `front`, with the version record in front of it or still to be stored
  abbrev pub StandsFor : Payloads → session.State → Option (List ℕ) → List (session.State × StoredAnswer) → Payloads → Type 0
  StandsFor before t version steps front = (xs : List (session.State × StoredAnswer)) × (ys : List (session.State × StoredAnswer)) × (v : Option (List ℕ))
      × (steps ≡ xs ++ ys) × (session.stands_for (before ++ front) ≡ Ok (last_stored t xs, v))
      × (front ++ option_to_list v ≡ option_to_list version ++ kept_of xs) × ((front ≡ []) ⊎ (v ≡ None))

  pub each_stands : (before : Payloads) (t : session.State) (version : Option (List ℕ)) (steps : List (session.State × StoredAnswer)) (front rest : Payloads) → session.stands_for before ≡ Ok (t, version) → AreSteps session t steps
      → option_to_list version ++ kept_of steps ≡ front ++ rest → StandsFor before t version steps front
  each_stands before t None steps front rest h chain e =
      let k = front_stands before t steps front rest h chain e in
      (k.xs, k.ys, None, k.parts, k.stands, append-nil front ∙ k.kept, inr refl)
  each_stands before t (Some v) steps [] rest h chain e = ([], steps, Some v, refl, ap session.stands_for (append-nil before) ∙ h, refl, inl refl)
  each_stands before t (Some v) steps (p ∷ front) rest h chain e =
      let same : v ≡ p = cc in
      let tail : kept_of steps ≡ front ++ rest = cc in
      let where_ : (before ++ v ∷ []) ++ front ≡ before ++ p ∷ front = append_assoc before (v ∷ []) front ∙ ap (λ (x : List ℕ). before ++ x ∷ front) same in
      let k = front_stands (before ++ v ∷ []) t steps front rest (version_stands before t v h) chain tail in
      let kept : (p ∷ front) ++ [] ≡ v ∷ kept_of k.xs = append-nil (p ∷ front) ∙ ap₂ (λ (x : List ℕ) l. x ∷ l) (sym same) k.kept in
      (k.xs, k.ys, None, k.parts, ap session.stands_for (sym where_) ∙ k.stands, kept, inr refl)
