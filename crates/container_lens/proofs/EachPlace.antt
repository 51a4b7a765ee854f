-- Documents, complements and documents that are related place by place.
use Rattle.std.proofs.Common.{◌≡◌, ℕ, zero, suc, ◌<◌, List, [], ◌∷◌, length, get_or, map, refl, ap, sym, subst, arith}
use Rattle.hold_shapes.specs.declared.origins.Origin.{Origin}
use Rattle.hold_shapes.specs.declared.origins.Origin.TheVariants.{Old, Fresh}
use Rattle.hold_shapes.specs.Gather.{content_at}
use Rattle.doc_values.specs.Documents.{DocTree, DocTrees, no_docs, more_docs, docs_of, doc_list}
use Rattle.lens_core.specs.Complements.{CompTree, CompTrees, no_comps, more_comps, comps_of, comp_list, AllFit}
use Rattle.edit_module.specs.Action.{put_at, gathered}
use Rattle.lens_core.specs.Translation.{put_comp}
use Rattle.lens_core.specs.Consistency.{AtEachPlace}
use Rattle.doc_values.proofs.Lists.{docs_of-doc_list}
use Rattle.lens_core.proofs.ComplementTrees.{comps_of-comp_list}

-- any relation of two documents and a complement
module _ (inner : DocTree → CompTree → DocTree → Type 0) where
  pub each-length : (xs : DocTrees) (cs : CompTrees) (ys : DocTrees) → AtEachPlace inner xs cs ys → (length (comp_list cs) ≡ length (doc_list xs)) × (length (doc_list ys) ≡ length (doc_list xs))
  each-length no_docs no_comps no_docs h = (refl, refl)
  each-length (more_docs x xs) (more_comps c cs) (more_docs y ys) h = let r = each-length xs cs ys h.1 in (ap suc r.0, ap suc r.1)
  each-length no_docs no_comps (more_docs y ys) h = absurd h
  each-length no_docs (more_comps c cs) ys h = absurd h
  each-length (more_docs x xs) no_comps ys h = absurd h
  each-length (more_docs x xs) (more_comps c cs) no_docs h = absurd h

  pub each-at : (xs : DocTrees) (cs : CompTrees) (ys : DocTrees) (i : ℕ) (x : DocTree) (c : CompTree) (y : DocTree) → AtEachPlace inner xs cs ys → i < length (doc_list xs)
      → inner (get_or (doc_list xs) i x) (get_or (comp_list cs) i c) (get_or (doc_list ys) i y)
  each-at no_docs cs ys i x c y h lt = absurd (omega arith)
  each-at (more_docs v xs) (more_comps d cs) (more_docs w ys) zero x c y h lt = h.0
  each-at (more_docs v xs) (more_comps d cs) (more_docs w ys) (suc i) x c y h lt = each-at xs cs ys i x c y h.1 (omega arith)
  each-at (more_docs v xs) no_comps ys i x c y h lt = absurd h
  each-at (more_docs v xs) (more_comps d cs) no_docs i x c y h lt = absurd h

  pub each-set : (xs : DocTrees) (cs : CompTrees) (ys : DocTrees) (i : ℕ) (x : DocTree) (c : CompTree) (y : DocTree) → AtEachPlace inner xs cs ys → inner x c y
      → AtEachPlace inner (put_at xs i x) (put_comp cs i c) (put_at ys i y)
  each-set no_docs no_comps no_docs i x c y h r = tt
  each-set (more_docs v xs) (more_comps d cs) (more_docs w ys) zero x c y h r = (
    r,
    subst (λ z. AtEachPlace inner z (comps_of (comp_list cs)) (docs_of (doc_list ys))) (sym (docs_of-doc_list xs))
        (subst (λ z. AtEachPlace inner xs z (docs_of (doc_list ys))) (sym (comps_of-comp_list cs))
        (subst (λ z. AtEachPlace inner xs cs z) (sym (docs_of-doc_list ys)) h.1)),
  )
  each-set (more_docs v xs) (more_comps d cs) (more_docs w ys) (suc i) x c y h r = (h.0, each-set xs cs ys i x c y h.1 r)
  each-set no_docs no_comps (more_docs y ys) i x c z h r = absurd h
  each-set no_docs (more_comps c cs) ys i x d y h r = absurd h
  each-set (more_docs x xs) no_comps ys i v c y h r = absurd h
  each-set (more_docs x xs) (more_comps c cs) no_docs i v d y h r = absurd h

  each-get : (xs : DocTrees) (cs : CompTrees) (ys : DocTrees) (i : ℕ) (x : DocTree) (c : CompTree) (y : DocTree) → AtEachPlace inner xs cs ys → inner x c y
      → inner (get_or (doc_list xs) i x) (get_or (comp_list cs) i c) (get_or (doc_list ys) i y)
  each-get no_docs no_comps no_docs i x c y h r = r
  each-get (more_docs v xs) (more_comps d cs) (more_docs w ys) zero x c y h r = h.0
  each-get (more_docs v xs) (more_comps d cs) (more_docs w ys) (suc i) x c y h r = each-get xs cs ys i x c y h.1 r
  each-get no_docs no_comps (more_docs y ys) i x c z h r = absurd h
  each-get no_docs (more_comps c cs) ys i x d y h r = absurd h
  each-get (more_docs x xs) no_comps ys i v c y h r = absurd h
  each-get (more_docs x xs) (more_comps c cs) no_docs i v d y h r = absurd h

  each-content : (xs : DocTrees) (cs : CompTrees) (ys : DocTrees) (o : Origin) (x : DocTree) (c : CompTree) (y : DocTree) → AtEachPlace inner xs cs ys → inner x c y
      → inner (content_at (doc_list xs) x o) (content_at (comp_list cs) c o) (content_at (doc_list ys) y o)
  each-content xs cs ys (Old k) x c y h r = each-get xs cs ys k x c y h r
  each-content xs cs ys Fresh x c y h r = r

  pub each-gathered : (from : List Origin) (xs : DocTrees) (cs : CompTrees) (ys : DocTrees) (x : DocTree) (c : CompTree) (y : DocTree) → AtEachPlace inner xs cs ys → inner x c y
      → AtEachPlace inner (gathered from xs x) (comps_of (map (content_at (comp_list cs) c) from)) (gathered from ys y)
  each-gathered [] xs cs ys x c y h r = tt
  each-gathered (o ∷ from) xs cs ys x c y h r = (each-content xs cs ys o x c y h r, each-gathered from xs cs ys x c y h r)

-- another relation that follows, with the sides turned or not
pub each-turned : (inner outer : DocTree → CompTree → DocTree → Type 0) → ((x : DocTree) (c : CompTree) (y : DocTree) → inner x c y → outer y c x)
    → (xs : DocTrees) (cs : CompTrees) (ys : DocTrees) → AtEachPlace inner xs cs ys → AtEachPlace outer ys cs xs
each-turned inner outer f no_docs no_comps no_docs h = tt
each-turned inner outer f (more_docs x xs) (more_comps c cs) (more_docs y ys) h = (f x c y h.0, each-turned inner outer f xs cs ys h.1)
each-turned inner outer f no_docs no_comps (more_docs y ys) h = absurd h
each-turned inner outer f no_docs (more_comps c cs) ys h = absurd h
each-turned inner outer f (more_docs x xs) no_comps ys h = absurd h
each-turned inner outer f (more_docs x xs) (more_comps c cs) no_docs h = absurd h

-- each complement fits, where each related one does
pub each-fit : (inner : DocTree → CompTree → DocTree → Type 0) (fits : CompTree → Type 0) → ((x : DocTree) (c : CompTree) (y : DocTree) → inner x c y → fits c)
    → (xs : DocTrees) (cs : CompTrees) (ys : DocTrees) → AtEachPlace inner xs cs ys → AllFit fits cs
each-fit inner fits f no_docs no_comps no_docs h = tt
each-fit inner fits f (more_docs x xs) (more_comps c cs) (more_docs y ys) h = (f x c y h.0, each-fit inner fits f xs cs ys h.1)
each-fit inner fits f no_docs no_comps (more_docs y ys) h = absurd h
each-fit inner fits f no_docs (more_comps c cs) ys h = absurd h
each-fit inner fits f (more_docs x xs) no_comps ys h = absurd h
each-fit inner fits f (more_docs x xs) (more_comps c cs) no_docs h = absurd h
