-- Each pattern of a well-formed type has a document of the type: the one with initial values in its holes. And a pattern that has a
-- document of a type is of the type.
use Rattle.std.proofs.Common.{◌≡◌, ◌∙◌, ℕ, Bool, true, false, ◌&&◌, List, length, Option, None, Some, refl, ap, sym, subst}
use Rattle.std.specs.Prelude.{ℤ}
use Rattle.texts.specs.Keys.{is_rising}
use Rattle.texts.proofs.Conjunction.{first, second, both}
use Rattle.hold_shapes.specs.declared.shape.Shape.{Shape}
use Rattle.doc_values.specs.Documents.{DocTree, unit, truth, int, text, pick, rec, alt, hold, DocTrees, no_docs, more_docs, doc_list}
use Rattle.doc_values.specs.Types.{TyTree, ty_unit, ty_bool, ty_int, ty_text, ty_enum, ty_rec, ty_alt, ty_list, ty_keyed, ty_ordered, FieldTrees, no_fields, more_fields, names_of, are_choices, is_well_formed, are_well_formed}
use Rattle.doc_values.specs.Typing.{has, has_fields, has_each, lookup_type, is_list_of, is_keyed_of, is_tree_of}
use Rattle.doc_values.specs.Initial.{initial}
use Rattle.doc_values.proofs.InitialTypes.{has_initial}
use Rattle.doc_values.proofs.FieldPlaces.{lookup_type-well_formed}
use Rattle.law_images.specs.Patterns.{PatternTree, hole, unit_pattern, truth_pattern, int_pattern, text_pattern, pick_pattern, rec_pattern, alt_pattern, hold_pattern, PatternTrees, no_patterns, more_patterns, pattern_count, Matches, MatchEach, HasSome, is_of_type, are_of_fields, are_of_type, pattern_of, patterns_of}
use Rattle.law_images.proofs.PatternsOfItems.{match_count}

-- ---- typed patterns have documents

record SomeFields (ps : PatternTrees) (fs : FieldTrees) : Type 0 where
  docs : DocTrees
  have : has_fields fs docs ≡ true
  match : MatchEach ps docs

record SomeEach (ps : PatternTrees) (t : TyTree) : Type 0 where
  docs : DocTrees
  have : has_each t docs ≡ true
  match : MatchEach ps docs

some_held : (p_count : Shape → ℕ → Bool) (s : Shape) (ps : PatternTrees) (t : TyTree) (r : SomeEach ps t) → p_count s (pattern_count ps) ≡ true → (p_count s (length (doc_list r.docs)) && has_each t r.docs) ≡ true
some_held is_of s ps t r h = both (is_of s (length (doc_list r.docs))) (has_each t r.docs) (subst (λ n. is_of s n ≡ true) (match_count ps r.docs r.match) h) r.have

alt_inside : (fs : FieldTrees) (n : List ℕ) (p : PatternTree) → is_of_type (alt_pattern n p) (ty_alt fs) ≡ true → (t : TyTree) × (lookup_type fs n ≡ Some t) × (is_of_type p t ≡ true)
alt_inside fs n p h = go (lookup_type fs n) refl h
  where
    go : (o : Option TyTree) → lookup_type fs n ≡ o → elim o [ None ↦ false | Some t ↦ is_of_type p t ] ≡ true → (t : TyTree) × (lookup_type fs n ≡ Some t) × (is_of_type p t ≡ true)
    go None e h = cc
    go (Some t) e h = (t, e, h)

has_tag : (fs : FieldTrees) (n : List ℕ) (v : DocTree) (t : TyTree) → lookup_type fs n ≡ Some t → has t v ≡ true → has (ty_alt fs) (alt n v) ≡ true
has_tag fs n v t e h = subst (λ (o : Option TyTree). elim o [ None ↦ false | Some u ↦ has u v ] ≡ true) (sym e) h

mutual
  pub some_document : (p : PatternTree) (t : TyTree) → is_well_formed t ≡ true → is_of_type p t ≡ true → HasSome t p
  some_document hole t wf h = (initial t, has_initial t wf, tt)
  some_document unit_pattern ty_unit wf h = (unit, refl, refl)
  some_document (truth_pattern b) ty_bool wf h = (truth b, refl, refl)
  some_document (int_pattern n) (ty_int z) wf h = (int n, refl, refl)
  some_document (text_pattern s) (ty_text z) wf h = (text s, refl, refl)
  some_document (pick_pattern n) (ty_enum ms z) wf h = (pick n, h, refl)
  some_document (rec_pattern ps) (ty_rec fs) wf h = let r = some_fields ps fs (second (is_rising (names_of fs)) (are_well_formed fs) wf) h in (rec r.docs, r.have, (r.docs, refl, r.match))
  some_document (alt_pattern n p) (ty_alt fs) wf h =
      let i = alt_inside fs n p h in
      let r = some_document p i.0 (lookup_type-well_formed fs n i.0 (second (are_choices (names_of fs)) (are_well_formed fs) wf) i.1) i.2 in
      (alt n r.0, has_tag fs n r.0 i.0 i.1 r.1, (r.0, refl, r.2))
  some_document (hold_pattern s ps) (ty_list t) wf h =
      let r = some_each ps t wf (second (is_list_of s (pattern_count ps)) (are_of_type ps t) h) in
      (hold s r.docs, some_held is_list_of s ps t r (first (is_list_of s (pattern_count ps)) (are_of_type ps t) h), (r.docs, refl, r.match))
  some_document (hold_pattern s ps) (ty_keyed t) wf h =
      let r = some_each ps t wf (second (is_keyed_of s (pattern_count ps)) (are_of_type ps t) h) in
      (hold s r.docs, some_held is_keyed_of s ps t r (first (is_keyed_of s (pattern_count ps)) (are_of_type ps t) h), (r.docs, refl, r.match))
  some_document (hold_pattern s ps) (ty_ordered t) wf h =
      let r = some_each ps t wf (second (is_tree_of s (pattern_count ps)) (are_of_type ps t) h) in
      (hold s r.docs, some_held is_tree_of s ps t r (first (is_tree_of s (pattern_count ps)) (are_of_type ps t) h), (r.docs, refl, r.match))
  some_document _ _ wf h = cc

  some_fields : (ps : PatternTrees) (fs : FieldTrees) → are_well_formed fs ≡ true → are_of_fields ps fs ≡ true → SomeFields ps fs
  some_fields no_patterns no_fields wf h = record { docs = no_docs; have = refl; match = tt }
  some_fields no_patterns (more_fields n t fs) wf h = cc
  some_fields (more_patterns p ps) no_fields wf h = cc
  some_fields (more_patterns p ps) (more_fields n t fs) wf h =
      let a = some_document p t (first (is_well_formed t) (are_well_formed fs) wf) (first (is_of_type p t) (are_of_fields ps fs) h) in
      let b = some_fields ps fs (second (is_well_formed t) (are_well_formed fs) wf) (second (is_of_type p t) (are_of_fields ps fs) h) in
      record { docs = more_docs a.0 b.docs; have = both (has t a.0) (has_fields fs b.docs) a.1 b.have; match = (a.2, b.match) }

  some_each : (ps : PatternTrees) (t : TyTree) → is_well_formed t ≡ true → are_of_type ps t ≡ true → SomeEach ps t
  some_each no_patterns t wf h = record { docs = no_docs; have = refl; match = tt }
  some_each (more_patterns p ps) t wf h =
      let a = some_document p t wf (first (is_of_type p t) (are_of_type ps t) h) in
      let b = some_each ps t wf (second (is_of_type p t) (are_of_type ps t) h) in
      record { docs = more_docs a.0 b.docs; have = both (has t a.0) (has_each t b.docs) a.1 b.have; match = (a.2, b.match) }

-- ---- patterns with documents are typed

tag_inside : (fs : FieldTrees) (n : List ℕ) (d : DocTree) → has (ty_alt fs) (alt n d) ≡ true → (t : TyTree) × (lookup_type fs n ≡ Some t) × (has t d ≡ true)
tag_inside fs n d h = go (lookup_type fs n) refl h
  where
    go : (o : Option TyTree) → lookup_type fs n ≡ o → elim o [ None ↦ false | Some t ↦ has t d ] ≡ true → (t : TyTree) × (lookup_type fs n ≡ Some t) × (has t d ≡ true)
    go None e h = cc
    go (Some t) e h = (t, e, h)

of_tag : (fs : FieldTrees) (n : List ℕ) (p : PatternTree) (t : TyTree) → lookup_type fs n ≡ Some t → is_of_type p t ≡ true → is_of_type (alt_pattern n p) (ty_alt fs) ≡ true
of_tag fs n p t e h = subst (λ (o : Option TyTree). elim o [ None ↦ false | Some u ↦ is_of_type p u ] ≡ true) (sym e) h

held_typed : (is_of : Shape → ℕ → Bool) (s : Shape) (ps : PatternTrees) (t : TyTree) (ds : DocTrees) → MatchEach ps ds → is_of s (length (doc_list ds)) ≡ true → are_of_type ps t ≡ true → (is_of s (pattern_count ps) && are_of_type ps t) ≡ true
held_typed is_of s ps t ds m a b = both (is_of s (pattern_count ps)) (are_of_type ps t) (subst (λ n. is_of s n ≡ true) (sym (match_count ps ds m)) a) b

unit_typed : (t : TyTree) → has t unit ≡ true → is_of_type unit_pattern t ≡ true
unit_typed ty_unit h = refl
unit_typed _ h = cc

truth_typed : (b : Bool) (t : TyTree) → has t (truth b) ≡ true → is_of_type (truth_pattern b) t ≡ true
truth_typed b ty_bool h = refl
truth_typed b _ h = cc

int_typed : (n : ℤ) (t : TyTree) → has t (int n) ≡ true → is_of_type (int_pattern n) t ≡ true
int_typed n (ty_int z) h = refl
int_typed n _ h = cc

text_typed : (s : List ℕ) (t : TyTree) → has t (text s) ≡ true → is_of_type (text_pattern s) t ≡ true
text_typed s (ty_text z) h = refl
text_typed s _ h = cc

pick_typed : (n : List ℕ) (t : TyTree) → has t (pick n) ≡ true → is_of_type (pick_pattern n) t ≡ true
pick_typed n (ty_enum ms z) h = h
pick_typed n _ h = cc

rec_typed : (ps : PatternTrees) (ds : DocTrees) (t : TyTree) → has t (rec ds) ≡ true → ((fs : FieldTrees) → has_fields fs ds ≡ true → are_of_fields ps fs ≡ true) → is_of_type (rec_pattern ps) t ≡ true
rec_typed ps ds (ty_rec fs) h inside = inside fs h
rec_typed ps ds _ h inside = cc

alt_typed : (n : List ℕ) (p : PatternTree) (d : DocTree) (t : TyTree) → has t (alt n d) ≡ true → ((u : TyTree) → has u d ≡ true → is_of_type p u ≡ true) → is_of_type (alt_pattern n p) t ≡ true
alt_typed n p d (ty_alt fs) h inside = let i = tag_inside fs n d h in of_tag fs n p i.0 i.1 (inside i.0 i.2)
alt_typed n p d _ h inside = cc

hold_typed : (s : Shape) (ps : PatternTrees) (ds : DocTrees) (t : TyTree) → has t (hold s ds) ≡ true → MatchEach ps ds → ((u : TyTree) → has_each u ds ≡ true → are_of_type ps u ≡ true) → is_of_type (hold_pattern s ps) t ≡ true
hold_typed s ps ds (ty_list t) h m inside = held_typed is_list_of s ps t ds m (first (is_list_of s (length (doc_list ds))) (has_each t ds) h) (inside t (second (is_list_of s (length (doc_list ds))) (has_each t ds) h))
hold_typed s ps ds (ty_keyed t) h m inside = held_typed is_keyed_of s ps t ds m (first (is_keyed_of s (length (doc_list ds))) (has_each t ds) h) (inside t (second (is_keyed_of s (length (doc_list ds))) (has_each t ds) h))
hold_typed s ps ds (ty_ordered t) h m inside = held_typed is_tree_of s ps t ds m (first (is_tree_of s (length (doc_list ds))) (has_each t ds) h) (inside t (second (is_tree_of s (length (doc_list ds))) (has_each t ds) h))
hold_typed s ps ds _ h m inside = cc

mutual
  pub pattern_typed : (p : PatternTree) (t : TyTree) (v : DocTree) → has t v ≡ true → Matches p v → is_of_type p t ≡ true
  pattern_typed hole t v h m = refl
  pattern_typed unit_pattern t v h m = unit_typed t (subst (λ z. has t z ≡ true) m h)
  pattern_typed (truth_pattern b) t v h m = truth_typed b t (subst (λ z. has t z ≡ true) m h)
  pattern_typed (int_pattern n) t v h m = int_typed n t (subst (λ z. has t z ≡ true) m h)
  pattern_typed (text_pattern s) t v h m = text_typed s t (subst (λ z. has t z ≡ true) m h)
  pattern_typed (pick_pattern n) t v h m = pick_typed n t (subst (λ z. has t z ≡ true) m h)
  pattern_typed (rec_pattern ps) t v h m = rec_typed ps m.0 t (subst (λ z. has t z ≡ true) m.1 h) (λ fs k. fields_typed ps fs m.0 k m.2)
  pattern_typed (alt_pattern n p) t v h m = alt_typed n p m.0 t (subst (λ z. has t z ≡ true) m.1 h) (λ u k. pattern_typed p u m.0 k m.2)
  pattern_typed (hold_pattern s ps) t v h m = hold_typed s ps m.0 t (subst (λ z. has t z ≡ true) m.1 h) m.2 (λ u k. each_typed ps u m.0 k m.2)

  fields_typed : (ps : PatternTrees) (fs : FieldTrees) (ds : DocTrees) → has_fields fs ds ≡ true → MatchEach ps ds → are_of_fields ps fs ≡ true
  fields_typed no_patterns no_fields ds h m = refl
  fields_typed no_patterns (more_fields n t fs) no_docs h m = cc
  fields_typed no_patterns (more_fields n t fs) (more_docs d ds) h m = absurd m
  fields_typed (more_patterns p ps) fs no_docs h m = absurd m
  fields_typed (more_patterns p ps) no_fields (more_docs d ds) h m = cc
  fields_typed (more_patterns p ps) (more_fields n t fs) (more_docs d ds) h m =
      both (is_of_type p t) (are_of_fields ps fs) (pattern_typed p t d (first (has t d) (has_fields fs ds) h) m.0) (fields_typed ps fs ds (second (has t d) (has_fields fs ds) h) m.1)

  each_typed : (ps : PatternTrees) (t : TyTree) (ds : DocTrees) → has_each t ds ≡ true → MatchEach ps ds → are_of_type ps t ≡ true
  each_typed no_patterns t ds h m = refl
  each_typed (more_patterns p ps) t no_docs h m = absurd m
  each_typed (more_patterns p ps) t (more_docs d ds) h m =
      both (is_of_type p t) (are_of_type ps t) (pattern_typed p t d (first (has t d) (has_each t ds) h) m.0) (each_typed ps t ds (second (has t d) (has_each t ds) h) m.1)

-- ---- a document as a pattern

mutual
  pub match_self : (v : DocTree) → Matches (pattern_of v) v
  match_self unit = refl
  match_self (truth b) = refl
  match_self (int n) = refl
  match_self (text s) = refl
  match_self (pick n) = refl
  match_self (rec ds) = (ds, refl, matches_self ds)
  match_self (alt n d) = (d, refl, match_self d)
  match_self (hold s ds) = (ds, refl, matches_self ds)

  matches_self : (ds : DocTrees) → MatchEach (patterns_of ds) ds
  matches_self no_docs = tt
  matches_self (more_docs d ds) = (match_self d, matches_self ds)

mutual
  pub match_only : (v w : DocTree) → Matches (pattern_of v) w → w ≡ v
  match_only unit w m = m
  match_only (truth b) w m = m
  match_only (int n) w m = m
  match_only (text s) w m = m
  match_only (pick n) w m = m
  match_only (rec ds) w m = m.1 ∙ ap rec (matches_only ds m.0 m.2)
  match_only (alt n d) w m = m.1 ∙ ap (alt n) (match_only d m.0 m.2)
  match_only (hold s ds) w m = m.1 ∙ ap (hold s) (matches_only ds m.0 m.2)

  matches_only : (ds es : DocTrees) → MatchEach (patterns_of ds) es → es ≡ ds
  matches_only no_docs no_docs m = refl
  matches_only no_docs (more_docs e es) m = absurd m
  matches_only (more_docs d ds) no_docs m = absurd m
  matches_only (more_docs d ds) (more_docs e es) m = let a = match_only d e m.0 in let b = matches_only ds es m.1 in cc
