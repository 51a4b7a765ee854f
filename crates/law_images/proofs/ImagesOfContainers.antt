-- Images through the map over a container.
use Rattle.std.proofs.Common.{◌≡◌, ◌∙◌, ℕ, Bool, true, false, ◌&&◌, [], ◌∷◌, length, Option, None, Some, refl, ap, sym, subst, arith}
use Rattle.std.specs.Prelude.{nat_eq, cond, option_map, option_and_then}
use Rattle.std.proofs.lemmas.Bool.{eq-eqb, eqb-true}
use Rattle.texts.specs.declared.side.Side.{Side}
use Rattle.texts.specs.declared.side.Side.TheVariants.{Left, Right}
use Rattle.texts.specs.Sides.{other}
use Rattle.texts.specs.Keys.{is_rising}
use Rattle.hold_shapes.specs.Trees.{is_valid}
use Rattle.texts.proofs.Conjunction.{first, second, both}
use Rattle.hold_shapes.specs.declared.shape.Shape.{Shape}
use Rattle.hold_shapes.specs.declared.shape.Shape.TheVariants.{List as ListOf, Keyed as KeyedOf, Tree as TreeOf}
use Rattle.doc_values.specs.Documents.{DocTree, hold, DocTrees, no_docs, more_docs, doc_list}
use Rattle.doc_values.specs.Types.{TyTree, is_well_formed}
use Rattle.doc_values.specs.Typing.{has, has_each, is_list_of, is_keyed_of, is_tree_of}
use Rattle.doc_values.specs.Initial.{initial}
use Rattle.doc_values.proofs.InitialTypes.{has_initial}
use Rattle.doc_values.proofs.SameTypes.{are_same_names-equal, are_same_names-refl}
use Rattle.lens_forms.specs.Forms.{FormTree, form_each, form_keyed, form_ordered}
use Rattle.lens_core.specs.Sides.{type_on}
use Rattle.lens_core.specs.Complements.{CompTree, nil, then_comp, rec_comp, alt_comp, hold_comp, tags_comp, CompTrees, no_comps, more_comps, comp_count, Fits, AllFit}
use Rattle.lens_core.specs.Consistency.{IsConsistent, AtEachPlace, AreHeld}
use Rattle.lens_core.specs.Laws.{IsRelated}
use Rattle.law_images.specs.Patterns.{PatternTree, hole, unit_pattern, truth_pattern, int_pattern, text_pattern, pick_pattern, rec_pattern, alt_pattern, hold_pattern, PatternTrees, no_patterns, more_patterns, Matches, MatchEach, HasSome}
use Rattle.law_images.specs.PartImage.{holes}
use Rattle.law_images.specs.Image.{image, image_each, image_held, is_same_shape}
use Rattle.law_images.specs.ImageLaws.{IsImage, IsImageOf, ImageLaw}
use Rattle.law_images.proofs.SidesOfTriples.{near_has}
use Rattle.texts.proofs.Tests.{bytes_eq-is}
use Rattle.texts.proofs.KeyOrder.{bytes_eq-refl}

-- ---- the places one after another

record AreImagesOf (l : FormTree) (s : Side) (cs : CompTrees) (ps qs : PatternTrees) : Type 0 where
  docs : DocTrees
  have : has_each (type_on (other s) l) docs ≡ true
  match : MatchEach qs docs
  long : length (doc_list docs) ≡ comp_count cs
  into : (ds es : DocTrees) → MatchEach ps ds → AtEachPlace (IsRelated l s) ds cs es → MatchEach qs es
  onto : (es : DocTrees) → has_each (type_on (other s) l) es ≡ true → MatchEach qs es → (ds : DocTrees) × MatchEach ps ds × AtEachPlace (IsRelated l s) ds cs es

abbrev AreImages : FormTree → Side → CompTrees → PatternTrees → Option PatternTrees → Type 0
AreImages l s cs ps None = (ds es : DocTrees) → MatchEach ps ds → AtEachPlace (IsRelated l s) ds cs es → ⊥
AreImages l s cs ps (Some qs) = AreImagesOf l s cs ps qs

none_left : (l : FormTree) (s : Side) → AreImages l s no_comps no_patterns (Some no_patterns)
none_left l s = record { docs = no_docs; have = refl; match = tt; long = refl; into = into; onto = onto }
  where
    into : (ds es : DocTrees) → MatchEach no_patterns ds → AtEachPlace (IsRelated l s) ds no_comps es → MatchEach no_patterns es
    into no_docs no_docs m h = tt
    into no_docs (more_docs e es) m h = absurd h
    into (more_docs d ds) es m h = absurd m

    onto : (es : DocTrees) → has_each (type_on (other s) l) es ≡ true → MatchEach no_patterns es → (ds : DocTrees) × MatchEach no_patterns ds × AtEachPlace (IsRelated l s) ds no_comps es
    onto no_docs h m = (no_docs, tt, tt)
    onto (more_docs e es) h m = absurd m

first_none : (l : FormTree) (s : Side) (c : CompTree) (cs : CompTrees) (p : PatternTree) (ps : PatternTrees) → IsImage l s c p None → AreImages l s (more_comps c cs) (more_patterns p ps) None
first_none l s c cs p ps a = go
  where
    go : (ds es : DocTrees) → MatchEach (more_patterns p ps) ds → AtEachPlace (IsRelated l s) ds (more_comps c cs) es → ⊥
    go no_docs es m h = m
    go (more_docs d ds) no_docs m h = h
    go (more_docs d ds) (more_docs e es) m h = a d e m.0 h.0

later_none : (l : FormTree) (s : Side) (c : CompTree) (cs : CompTrees) (p : PatternTree) (ps : PatternTrees) → AreImages l s cs ps None → AreImages l s (more_comps c cs) (more_patterns p ps) None
later_none l s c cs p ps a = go
  where
    go : (ds es : DocTrees) → MatchEach (more_patterns p ps) ds → AtEachPlace (IsRelated l s) ds (more_comps c cs) es → ⊥
    go no_docs es m h = m
    go (more_docs d ds) no_docs m h = h
    go (more_docs d ds) (more_docs e es) m h = a ds es m.1 h.1

one_more : (l : FormTree) (s : Side) (c : CompTree) (cs : CompTrees) (p q : PatternTree) (ps qs : PatternTrees) → IsImageOf l s c p q → AreImagesOf l s cs ps qs
    → AreImagesOf l s (more_comps c cs) (more_patterns p ps) (more_patterns q qs)
one_more l s c cs p q ps qs a b = record {
  docs = more_docs a.some_doc.0 b.docs;
  have = both (has (type_on (other s) l) a.some_doc.0) (has_each (type_on (other s) l) b.docs) a.some_doc.1 b.have;
  match = (a.some_doc.2, b.match);
  long = let n = b.long in omega (arith, n);
  into = into;
  onto = onto;
}
  where
    into : (ds es : DocTrees) → MatchEach (more_patterns p ps) ds → AtEachPlace (IsRelated l s) ds (more_comps c cs) es → MatchEach (more_patterns q qs) es
    into no_docs es m h = absurd m
    into (more_docs d ds) no_docs m h = absurd h
    into (more_docs d ds) (more_docs e es) m h = (a.into d e m.0 h.0, b.into ds es m.1 h.1)

    onto : (es : DocTrees) → has_each (type_on (other s) l) es ≡ true → MatchEach (more_patterns q qs) es
        → (ds : DocTrees) × MatchEach (more_patterns p ps) ds × AtEachPlace (IsRelated l s) ds (more_comps c cs) es
    onto no_docs h m = absurd m
    onto (more_docs e es) h m =
        let x = a.onto e (first (has (type_on (other s) l) e) (has_each (type_on (other s) l) es) h) m.0 in
        let xs = b.onto es (second (has (type_on (other s) l) e) (has_each (type_on (other s) l) es) h) m.1 in
        (more_docs x.0 xs.0, (x.1, xs.1), (x.2, xs.2))

each_imaged : (l : FormTree) → ImageLaw l → (s : Side) (cs : CompTrees) (ps : PatternTrees) (ds : DocTrees) → AllFit (Fits l) cs → has_each (type_on s l) ds ≡ true → MatchEach ps ds
    → length (doc_list ds) ≡ comp_count cs → AreImages l s cs ps (image_each (image l s) cs ps)
each_imaged l law s no_comps no_patterns ds fits have m long = none_left l s
each_imaged l law s no_comps (more_patterns p ps) no_docs fits have m long = absurd m
each_imaged l law s no_comps (more_patterns p ps) (more_docs d ds) fits have m long = absurd (omega (arith, long))
each_imaged l law s (more_comps c cs) no_patterns no_docs fits have m long = absurd (omega (arith, long))
each_imaged l law s (more_comps c cs) no_patterns (more_docs d ds) fits have m long = absurd m
each_imaged l law s (more_comps c cs) (more_patterns p ps) no_docs fits have m long = absurd m
each_imaged l law s (more_comps c cs) (more_patterns p ps) (more_docs d ds) fits have m long =
    go (image l s c p) (law s c p fits.0 (d, first (has (type_on s l) d) (has_each (type_on s l) ds) have, m.0))
    (image_each (image l s) cs ps) (each_imaged l law s cs ps ds fits.1 (second (has (type_on s l) d) (has_each (type_on s l) ds) have) m.1 (omega (arith, long)))
  where
    go : (o : Option PatternTree) → IsImage l s c p o → (r : Option PatternTrees) → AreImages l s cs ps r
        → AreImages l s (more_comps c cs) (more_patterns p ps) (option_and_then (λ q. option_map (more_patterns q) r) o)
    go None a r b = first_none l s c cs p ps a
    go (Some q) a None b = later_none l s c cs p ps b
    go (Some q) a (Some qs) b = one_more l s c cs p q ps qs a b

-- ---- shapes

pub shape_same : (r : Shape) → is_same_shape r r ≡ true
shape_same (ListOf r) = eq-eqb r.count r.count refl
shape_same (KeyedOf ms) = are_same_names-refl ms
shape_same (TreeOf ds) = bytes_eq-refl ds

pub shapes_are : (r q : Shape) → is_same_shape r q ≡ true → r ≡ q
shapes_are (ListOf r) (ListOf q) e = ap (λ n. ListOf (record { count = n })) (eqb-true r.count q.count e)
shapes_are (KeyedOf ms) (KeyedOf ns) e = ap (λ z. KeyedOf z) (are_same_names-equal ms ns e)
shapes_are (TreeOf ds) (TreeOf es) e = ap (λ z. TreeOf z) (bytes_eq-is ds es e)
shapes_are (ListOf r) (KeyedOf ns) e = cc
shapes_are (ListOf r) (TreeOf es) e = cc
shapes_are (KeyedOf ms) (ListOf q) e = cc
shapes_are (KeyedOf ms) (TreeOf es) e = cc
shapes_are (TreeOf ds) (ListOf q) e = cc
shapes_are (TreeOf ds) (KeyedOf ns) e = cc

-- ---- a form that maps the lens l over a container

-- what the three kinds of containers share
record IsContainer (f l : FormTree) (is_of : Shape → ℕ → Bool) : Type 0 where
  size : (r : Shape) (m n : ℕ) → is_of r m ≡ true → is_of r n ≡ true → m ≡ n
  has_is : (s : Side) (r : Shape) (ds : DocTrees) → has (type_on s f) (hold r ds) ≡ (is_of r (length (doc_list ds)) && has_each (type_on s l) ds)
  opened : (s : Side) (v : DocTree) (c : CompTree) (w : DocTree) → IsRelated f s v c w → AreHeld (IsRelated l s) v c w
  closed : (s : Side) (v : DocTree) (c : CompTree) (w : DocTree) → has (type_on s f) v ≡ true → Fits f c → has (type_on (other s) f) w ≡ true → AreHeld (IsRelated l s) v c w → IsRelated f s v c w

-- a triple taken apart
record IsHeldTriple (l : FormTree) (s : Side) (r : Shape) (v : DocTree) (cs : CompTrees) (w : DocTree) : Type 0 where
  ds : DocTrees
  es : DocTrees
  near_is : v ≡ hold r ds
  far_is : w ≡ hold r es
  each : AtEachPlace (IsRelated l s) ds cs es

held_triple : (l : FormTree) (s : Side) (r : Shape) (v : DocTree) (cs : CompTrees) (w : DocTree) → AreHeld (IsRelated l s) v (hold_comp r cs) w → IsHeldTriple l s r v cs w
held_triple l s r (hold q ds) cs (hold t es) h = record { ds = ds; es = es; near_is = ap (λ z. hold z ds) (sym h.0); far_is = ap (λ z. hold z es) (h.1 ∙ sym h.0); each = h.2 }
held_triple l s r v cs w h = absurd h

each_long : (l : FormTree) (s : Side) (ds : DocTrees) (cs : CompTrees) (es : DocTrees) → AtEachPlace (IsRelated l s) ds cs es → length (doc_list ds) ≡ comp_count cs
each_long l s no_docs no_comps no_docs h = refl
each_long l s (more_docs d ds) (more_comps c cs) (more_docs e es) h = let n = each_long l s ds cs es h.1 in omega (arith, n)
each_long l s ds cs es h = absurd h

each_near : (l : FormTree) (s : Side) (ds : DocTrees) (cs : CompTrees) (es : DocTrees) → AtEachPlace (IsRelated l s) ds cs es → has_each (type_on s l) ds ≡ true
each_near l s no_docs no_comps no_docs h = refl
each_near l s (more_docs d ds) (more_comps c cs) (more_docs e es) h = both (has (type_on s l) d) (has_each (type_on s l) ds) (near_has l s d c e h.0) (each_near l s ds cs es h.1)
each_near l s ds cs es h = absurd h

-- the pattern of the container and those of its places
record IsInside (r : Shape) (n : ℕ) (t : TyTree) (p : PatternTree) (ps : PatternTrees) : Type 0 where
  down : (ds : DocTrees) → length (doc_list ds) ≡ n → Matches p (hold r ds) → MatchEach ps ds
  up : (ds : DocTrees) → MatchEach ps ds → Matches p (hold r ds)
  docs : DocTrees
  have : has_each t docs ≡ true
  match : MatchEach ps docs
  long : length (doc_list docs) ≡ n

holes_match : (cs : CompTrees) (ds : DocTrees) → length (doc_list ds) ≡ comp_count cs → MatchEach (holes (comp_count cs)) ds
holes_match cs ds e = subst (λ n. MatchEach (holes n) ds) e (all_holes ds)
  where
    all_holes : (ds : DocTrees) → MatchEach (holes (length (doc_list ds))) ds
    all_holes no_docs = tt
    all_holes (more_docs d ds) = (tt, all_holes ds)

-- the same document at each place
fresh : DocTree → CompTrees → DocTrees
fresh d no_comps = no_docs
fresh d (more_comps c cs) = more_docs d (fresh d cs)

fresh_long : (d : DocTree) (cs : CompTrees) → length (doc_list (fresh d cs)) ≡ comp_count cs
unfolding fresh
fresh_long d no_comps = refl
fresh_long d (more_comps c cs) = let n = fresh_long d cs in omega (arith, n)

fresh_has : (t : TyTree) (d : DocTree) (cs : CompTrees) → has t d ≡ true → has_each t (fresh d cs) ≡ true
unfolding fresh
fresh_has t d no_comps h = refl
fresh_has t d (more_comps c cs) h = both (has t d) (has_each t (fresh d cs)) h (fresh_has t d cs h)

hole_inside : (t : TyTree) (r : Shape) (cs : CompTrees) → is_well_formed t ≡ true → IsInside r (comp_count cs) t hole (holes (comp_count cs))
hole_inside t r cs wf = record {
  down = λ ds e m. holes_match cs ds e;
  up = λ ds m. tt;
  docs = fresh (initial t) cs;
  have = fresh_has t (initial t) cs (has_initial t wf);
  match = holes_match cs (fresh (initial t) cs) (fresh_long (initial t) cs);
  long = fresh_long (initial t) cs;
}

same_docs : (r q : Shape) (ds es : DocTrees) → hold r ds ≡ hold q es → (r ≡ q) × (ds ≡ es)
same_docs r q ds es e = (cc, cc)

module _ (f l : FormTree) (is_of : Shape → ℕ → Bool) (k : IsContainer f l is_of) where
  held_has : (s : Side) (r : Shape) (cs : CompTrees) (ds : DocTrees) → is_of r (comp_count cs) ≡ true → length (doc_list ds) ≡ comp_count cs → has_each (type_on s l) ds ≡ true → has (type_on s f) (hold r ds) ≡ true
  held_has s r cs ds is long have = k.has_is s r ds ∙ both (is_of r (length (doc_list ds))) (has_each (type_on s l) ds) (subst (λ n. is_of r n ≡ true) (sym long) is) have

  held_given : (s : Side) (r : Shape) (cs : CompTrees) (p : PatternTree) (ps : PatternTrees) → Fits f (hold_comp r cs) → is_of r (comp_count cs) ≡ true → IsInside r (comp_count cs) (type_on s l) p ps
      → (o : Option PatternTrees) → AreImages l s cs ps o → IsImage f s (hold_comp r cs) p (option_map (hold_pattern r) o)
  held_given s r cs p ps fit is inside None a = λ v w m h.
      let g = held_triple l s r v cs w (k.opened s v (hold_comp r cs) w h) in
      a g.ds g.es (inside.down g.ds (each_long l s g.ds cs g.es g.each) (subst (Matches p) g.near_is m)) g.each
  held_given s r cs p ps fit is inside (Some qs) a = record {
    some_doc = (hold r a.docs, held_has (other s) r cs a.docs is a.long a.have, (a.docs, refl, a.match));
    into = λ v w m h.
        let g = held_triple l s r v cs w (k.opened s v (hold_comp r cs) w h) in
        (g.es, g.far_is, a.into g.ds g.es (inside.down g.ds (each_long l s g.ds cs g.es g.each) (subst (Matches p) g.near_is m)) g.each);
    onto = λ w h m.
        let h' = subst (λ z. has (type_on (other s) f) z ≡ true) m.1 h in
        let each = second (is_of r (length (doc_list m.0))) (has_each (type_on (other s) l) m.0) (sym (k.has_is (other s) r m.0) ∙ h') in
        let x = a.onto m.0 each m.2 in (
          hold r x.0,
          inside.up x.0 x.1,
          subst (λ z. IsRelated f s (hold r x.0) (hold_comp r cs) z) (sym m.1)
              (k.closed s (hold r x.0) (hold_comp r cs) (hold r m.0) (held_has s r cs x.0 is (each_long l s x.0 cs m.0 x.2) (each_near l s x.0 cs m.0 x.2)) fit h' (refl, refl, x.2)),
        );
  }

  shape_inside : (s : Side) (r : Shape) (cs : CompTrees) (ps : PatternTrees) → is_of r (comp_count cs) ≡ true → HasSome (type_on s f) (hold_pattern r ps) → IsInside r (comp_count cs) (type_on s l) (hold_pattern r ps) ps
  shape_inside s r cs ps is some =
      let ds = some.2.0 in
      let whole = sym (k.has_is s r ds) ∙ subst (λ z. has (type_on s f) z ≡ true) some.2.1 some.1 in
      record {
        down = λ es e m. subst (MatchEach ps) (sym (same_docs r r es m.0 m.1).1) m.2;
        up = λ es m. (es, refl, m);
        docs = ds;
        have = second (is_of r (length (doc_list ds))) (has_each (type_on s l) ds) whole;
        match = some.2.2;
        long = k.size r (length (doc_list ds)) (comp_count cs) (first (is_of r (length (doc_list ds))) (has_each (type_on s l) ds) whole) is;
      }

  -- a pattern that no container is in
  not_held : (s : Side) (r : Shape) (cs : CompTrees) (p : PatternTree) → ((ds : DocTrees) → Matches p (hold r ds) → ⊥) → IsImage f s (hold_comp r cs) p None
  not_held s r cs p none = λ v w m h. let g = held_triple l s r v cs w (k.opened s v (hold_comp r cs) w h) in none g.ds (subst (Matches p) g.near_is m)

  held_shape : (s : Side) (r : Shape) (cs : CompTrees) (q : Shape) (ps : PatternTrees) → ImageLaw l → Fits f (hold_comp r cs) → is_of r (comp_count cs) ≡ true → AllFit (Fits l) cs → HasSome (type_on s f) (hold_pattern q ps)
      → (b : Bool) → is_same_shape q r ≡ b → IsImage f s (hold_comp r cs) (hold_pattern q ps) (option_map (hold_pattern r) (option_and_then (image_each (image l s) cs) (cond b (Some ps) None)))
  held_shape s r cs q ps law fit is fits some false e = not_held s r cs (hold_pattern q ps) (λ ds m.
      let same = (same_docs r q ds m.0 m.1).0 in
      let here = subst (λ z. is_same_shape z r ≡ false) (sym same) e in
      let there = shape_same r in
      cc)
  held_shape s r cs q ps law fit is fits some true e =
      let some' = subst (λ z. HasSome (type_on s f) (hold_pattern z ps)) (shapes_are q r e) some in
      let i = shape_inside s r cs ps is some' in
      subst (λ z. IsImage f s (hold_comp r cs) (hold_pattern z ps) (option_map (hold_pattern r) (image_each (image l s) cs ps))) (sym (shapes_are q r e))
      (held_given s r cs (hold_pattern r ps) ps fit is i (image_each (image l s) cs ps) (each_imaged l law s cs ps i.docs fits i.have i.match i.long))

  held_images : (s : Side) (r : Shape) (cs : CompTrees) (p : PatternTree) → is_well_formed (type_on s l) ≡ true → ImageLaw l → Fits f (hold_comp r cs) → is_of r (comp_count cs) ≡ true → AllFit (Fits l) cs → HasSome (type_on s f) p
      → IsImage f s (hold_comp r cs) p (image_held (image l s) (hold_comp r cs) p)
  held_images s r cs hole wf law fit is fits some =
      let i = hole_inside (type_on s l) r cs wf in
      held_given s r cs hole (holes (comp_count cs)) fit is i (image_each (image l s) cs (holes (comp_count cs))) (each_imaged l law s cs (holes (comp_count cs)) i.docs fits i.have i.match i.long)
  held_images s r cs (hold_pattern q ps) wf law fit is fits some = held_shape s r cs q ps law fit is fits some (is_same_shape q r) refl
  held_images s r cs unit_pattern wf law fit is fits some = not_held s r cs unit_pattern (λ ds m. cc)
  held_images s r cs (truth_pattern b) wf law fit is fits some = not_held s r cs (truth_pattern b) (λ ds m. cc)
  held_images s r cs (int_pattern b) wf law fit is fits some = not_held s r cs (int_pattern b) (λ ds m. cc)
  held_images s r cs (text_pattern b) wf law fit is fits some = not_held s r cs (text_pattern b) (λ ds m. cc)
  held_images s r cs (pick_pattern b) wf law fit is fits some = not_held s r cs (pick_pattern b) (λ ds m. cc)
  held_images s r cs (rec_pattern b) wf law fit is fits some = not_held s r cs (rec_pattern b) (λ ds m. let e = m.1 in cc)
  held_images s r cs (alt_pattern a b) wf law fit is fits some = not_held s r cs (alt_pattern a b) (λ ds m. let e = m.1 in cc)

-- ---- the three kinds

each_turned : (l : FormTree) (xs : DocTrees) (cs : CompTrees) (ys : DocTrees) → AtEachPlace (IsConsistent l) xs cs ys → AtEachPlace (IsRelated l Right) ys cs xs
each_turned l no_docs no_comps no_docs h = tt
each_turned l (more_docs x xs) (more_comps c cs) (more_docs y ys) h = (h.0, each_turned l xs cs ys h.1)
each_turned l xs cs ys h = absurd h

each_back : (l : FormTree) (ys : DocTrees) (cs : CompTrees) (xs : DocTrees) → AtEachPlace (IsRelated l Right) ys cs xs → AtEachPlace (IsConsistent l) xs cs ys
each_back l no_docs no_comps no_docs h = tt
each_back l (more_docs y ys) (more_comps c cs) (more_docs x xs) h = (h.0, each_back l ys cs xs h.1)
each_back l ys cs xs h = absurd h

held_turned : (l : FormTree) (x : DocTree) (c : CompTree) (y : DocTree) → AreHeld (IsConsistent l) x c y → AreHeld (IsRelated l Right) y c x
held_turned l (hold s xs) (hold_comp r cs) (hold q ys) h = (h.0 ∙ sym h.1, sym h.1, each_turned l xs cs ys h.2)
held_turned l x c y h = absurd h

held_back : (l : FormTree) (y : DocTree) (c : CompTree) (x : DocTree) → AreHeld (IsRelated l Right) y c x → AreHeld (IsConsistent l) x c y
held_back l (hold q ys) (hold_comp r cs) (hold s xs) h = (h.0 ∙ sym h.1, sym h.1, each_back l ys cs xs h.2)
held_back l y c x h = absurd h

list_size : (r : Shape) (m n : ℕ) → is_list_of r m ≡ true → is_list_of r n ≡ true → m ≡ n
list_size (ListOf r) m n h k = sym (eqb-true r.count m h) ∙ eqb-true r.count n k
list_size (KeyedOf ks) m n h k = cc
list_size (TreeOf ds) m n h k = cc

keyed_size : (r : Shape) (m n : ℕ) → is_keyed_of r m ≡ true → is_keyed_of r n ≡ true → m ≡ n
keyed_size (ListOf r) m n h k = cc
keyed_size (KeyedOf ks) m n h k = sym (eqb-true (length ks) m (second (is_rising ks) (nat_eq (length ks) m) h)) ∙ eqb-true (length ks) n (second (is_rising ks) (nat_eq (length ks) n) k)
keyed_size (TreeOf ds) m n h k = cc

tree_size : (r : Shape) (m n : ℕ) → is_tree_of r m ≡ true → is_tree_of r n ≡ true → m ≡ n
tree_size (ListOf r) m n h k = cc
tree_size (KeyedOf ks) m n h k = cc
tree_size (TreeOf ds) m n h k = sym (eqb-true (length ds) m (second (is_valid ds) (nat_eq (length ds) m) h)) ∙ eqb-true (length ds) n (second (is_valid ds) (nat_eq (length ds) n) k)

each_has : (l : FormTree) (s : Side) (r : Shape) (ds : DocTrees) → has (type_on s (form_each l)) (hold r ds) ≡ (is_list_of r (length (doc_list ds)) && has_each (type_on s l) ds)
each_has l Left r ds = refl
each_has l Right r ds = refl

each_open : (l : FormTree) (s : Side) (v : DocTree) (c : CompTree) (w : DocTree) → IsRelated (form_each l) s v c w → AreHeld (IsRelated l s) v c w
each_open l Left v c w h = h.1
each_open l Right v c w h = held_turned l w c v h.1

each_close : (l : FormTree) (s : Side) (v : DocTree) (c : CompTree) (w : DocTree) → has (type_on s (form_each l)) v ≡ true → Fits (form_each l) c → has (type_on (other s) (form_each l)) w ≡ true → AreHeld (IsRelated l s) v c w → IsRelated (form_each l) s v c w
each_close l Left v c w a f b h = (record { left_has = a; comp_fits = f; right_has = b }, h)
each_close l Right v c w a f b h = (record { left_has = b; comp_fits = f; right_has = a }, held_back l v c w h)

pub each_images : (l : FormTree) → ((s : Side) → is_well_formed (type_on s l) ≡ true) → ImageLaw l → ImageLaw (form_each l)
each_images l wf law s (hold_comp r cs) p fit some =
    held_images (form_each l) l is_list_of (record { size = list_size; has_is = each_has l; opened = each_open l; closed = each_close l }) s r cs p (wf s) law fit fit.0 fit.1 some
each_images l wf law s nil p fit some = absurd fit
each_images l wf law s (then_comp c d) p fit some = absurd fit
each_images l wf law s (rec_comp cs) p fit some = absurd fit
each_images l wf law s (alt_comp t c) p fit some = absurd fit
each_images l wf law s (tags_comp ts) p fit some = absurd fit

keyed_has : (l : FormTree) (s : Side) (r : Shape) (ds : DocTrees) → has (type_on s (form_keyed l)) (hold r ds) ≡ (is_keyed_of r (length (doc_list ds)) && has_each (type_on s l) ds)
keyed_has l Left r ds = refl
keyed_has l Right r ds = refl

keyed_open : (l : FormTree) (s : Side) (v : DocTree) (c : CompTree) (w : DocTree) → IsRelated (form_keyed l) s v c w → AreHeld (IsRelated l s) v c w
keyed_open l Left v c w h = h.1
keyed_open l Right v c w h = held_turned l w c v h.1

keyed_close : (l : FormTree) (s : Side) (v : DocTree) (c : CompTree) (w : DocTree) → has (type_on s (form_keyed l)) v ≡ true → Fits (form_keyed l) c → has (type_on (other s) (form_keyed l)) w ≡ true → AreHeld (IsRelated l s) v c w → IsRelated (form_keyed l) s v c w
keyed_close l Left v c w a f b h = (record { left_has = a; comp_fits = f; right_has = b }, h)
keyed_close l Right v c w a f b h = (record { left_has = b; comp_fits = f; right_has = a }, held_back l v c w h)

pub keyed_images : (l : FormTree) → ((s : Side) → is_well_formed (type_on s l) ≡ true) → ImageLaw l → ImageLaw (form_keyed l)
keyed_images l wf law s (hold_comp r cs) p fit some =
    held_images (form_keyed l) l is_keyed_of (record { size = keyed_size; has_is = keyed_has l; opened = keyed_open l; closed = keyed_close l }) s r cs p (wf s) law fit fit.0 fit.1 some
keyed_images l wf law s nil p fit some = absurd fit
keyed_images l wf law s (then_comp c d) p fit some = absurd fit
keyed_images l wf law s (rec_comp cs) p fit some = absurd fit
keyed_images l wf law s (alt_comp t c) p fit some = absurd fit
keyed_images l wf law s (tags_comp ts) p fit some = absurd fit

ordered_has : (l : FormTree) (s : Side) (r : Shape) (ds : DocTrees) → has (type_on s (form_ordered l)) (hold r ds) ≡ (is_tree_of r (length (doc_list ds)) && has_each (type_on s l) ds)
ordered_has l Left r ds = refl
ordered_has l Right r ds = refl

ordered_open : (l : FormTree) (s : Side) (v : DocTree) (c : CompTree) (w : DocTree) → IsRelated (form_ordered l) s v c w → AreHeld (IsRelated l s) v c w
ordered_open l Left v c w h = h.1
ordered_open l Right v c w h = held_turned l w c v h.1

ordered_close : (l : FormTree) (s : Side) (v : DocTree) (c : CompTree) (w : DocTree) → has (type_on s (form_ordered l)) v ≡ true → Fits (form_ordered l) c → has (type_on (other s) (form_ordered l)) w ≡ true → AreHeld (IsRelated l s) v c w → IsRelated (form_ordered l) s v c w
ordered_close l Left v c w a f b h = (record { left_has = a; comp_fits = f; right_has = b }, h)
ordered_close l Right v c w a f b h = (record { left_has = b; comp_fits = f; right_has = a }, held_back l v c w h)

pub ordered_images : (l : FormTree) → ((s : Side) → is_well_formed (type_on s l) ≡ true) → ImageLaw l → ImageLaw (form_ordered l)
ordered_images l wf law s (hold_comp r cs) p fit some =
    held_images (form_ordered l) l is_tree_of (record { size = tree_size; has_is = ordered_has l; opened = ordered_open l; closed = ordered_close l }) s r cs p (wf s) law fit fit.0 fit.1 some
ordered_images l wf law s nil p fit some = absurd fit
ordered_images l wf law s (then_comp c d) p fit some = absurd fit
ordered_images l wf law s (rec_comp cs) p fit some = absurd fit
ordered_images l wf law s (alt_comp t c) p fit some = absurd fit
ordered_images l wf law s (tags_comp ts) p fit some = absurd fit
