-- The normal form of a joined word is glued from those of its parts; so it depends on these alone.
use Rattle.std.proofs.Common.{◌≡◌, refl, sym, ap, ap₂, subst, Bool, true, false, cond, ℕ, zero, suc, ◌+◌, ◌≤◌, arith, List, bytes_eq, Option, None, Some, ◌∙◌}
use Rattle.std.proofs.lemmas.Slice.Eq.{bytes_eq-Decides}
use Rattle.hold_shapes.specs.declared.edit.Place.{Place}
use Rattle.edit_module.specs.Words.{PrimitiveTree, set, add, splice, at, stay, switch, modify, shape, WordTree, no_primitives, more_primitives, joined}
use Rattle.edit_module.specs.Depths.{primitive_depth, word_depth}
use Rattle.edit_module.specs.Normal.{is_same_place, merge, placed, merged_onto, merged, inside, inside_each, normal_to, normal}
use Rattle.edit_module.proofs.NormalDepths.{depth-merged, inside_each-same, depth-some}
use Rattle.edit_module.proofs.Merging.{merged_is}
use Rattle.law_equations.proofs.Glue.{at_on, stay_on, switch_on, mod_on, glue, put_on, normalized, normalized_one, at_at, stay_stay, mod_mod, switch_stay, glue_assoc, put_glue, normalized_joined, same_place-is}

-- ---- two primitives that merge, case by case

pub merge-cases : (P : PrimitiveTree → PrimitiveTree → PrimitiveTree → Type 0)
    → ((f : List ℕ) (u v : WordTree) → P (at f u) (at f v) (at f (joined u v)))
    → ((t : List ℕ) (u v : WordTree) → P (stay t u) (stay t v) (stay t (joined u v)))
    → ((x : Place) (u v : WordTree) → P (modify x u) (modify x v) (modify x (joined u v)))
    → ((a b : List ℕ) (u v : WordTree) → P (switch a b u) (stay b v) (switch a b (joined u v)))
    → (p q r : PrimitiveTree) → merge p q ≡ Some r → P p q r
merge-cases P fields contents places switches (at f u) (at g v) r e =
    let m = merged_is (bytes_eq f g) (at f (joined u v)) r e in
    subst (λ z. P (at f u) (at g v) z) m.1 (subst (λ n. P (at f u) (at n v) (at f (joined u v))) ((bytes_eq-Decides f g).0 m.0) (fields f u v))
merge-cases P fields contents places switches (stay f u) (stay g v) r e =
    let m = merged_is (bytes_eq f g) (stay f (joined u v)) r e in
    subst (λ z. P (stay f u) (stay g v) z) m.1 (subst (λ n. P (stay f u) (stay n v) (stay f (joined u v))) ((bytes_eq-Decides f g).0 m.0) (contents f u v))
merge-cases P fields contents places switches (modify f u) (modify g v) r e =
    let m = merged_is (is_same_place f g) (modify f (joined u v)) r e in
    subst (λ z. P (modify f u) (modify g v) z) m.1 (subst (λ n. P (modify f u) (modify n v) (modify f (joined u v))) (same_place-is f g m.0) (places f u v))
merge-cases P fields contents places switches (switch a f u) (stay g v) r e =
    let m = merged_is (bytes_eq f g) (switch a f (joined u v)) r e in
    subst (λ z. P (switch a f u) (stay g v) z) m.1 (subst (λ n. P (switch a f u) (stay n v) (switch a f (joined u v))) ((bytes_eq-Decides f g).0 m.0) (switches a f u v))
merge-cases P fields contents places switches _ _ r e = cc

-- ---- a merged primitive before a word

pub normalized-merge : (p q r : PrimitiveTree) → merge p q ≡ Some r → (w : WordTree) → put_on (normalized_one r) w ≡ put_on (normalized_one p) (put_on (normalized_one q) w)
normalized-merge p q r e w =
    merge-cases (λ p q r. put_on (normalized_one r) w ≡ put_on (normalized_one p) (put_on (normalized_one q) w))
    (λ f u v. ap (λ z. put_on (at f z) w) (normalized_joined u v) ∙ at_at f (normalized u) (normalized v) w (λ c. glue_assoc (normalized u) (normalized v) c))
    (λ f u v. ap (λ z. put_on (stay f z) w) (normalized_joined u v) ∙ stay_stay f (normalized u) (normalized v) w (λ c. glue_assoc (normalized u) (normalized v) c))
    (λ f u v. ap (λ z. put_on (modify f z) w) (normalized_joined u v) ∙ mod_mod f (normalized u) (normalized v) w (λ c. glue_assoc (normalized u) (normalized v) c))
    (λ a f u v. ap (λ z. put_on (switch a f z) w) (normalized_joined u v) ∙ switch_stay a f (normalized u) (normalized v) w (λ c. glue_assoc (normalized u) (normalized v) c))
    p q r e

-- ---- a normal form is its own

normalized_at_on : (f : List ℕ) (a w : WordTree) → ((b : WordTree) → normalized (glue a b) ≡ glue (normalized a) (normalized b)) → normalized (at_on f a (λ v. glue a v) w) ≡ at_on f (normalized a) (λ v. glue (normalized a) v) (normalized w)
normalized_at_on f a (more_primitives (at g b) w) h = go (bytes_eq f g) refl
  where
    go : (t : Bool) → bytes_eq f g ≡ t → normalized (cond t (more_primitives (at f (glue a b)) w) (more_primitives (at f a) (more_primitives (at g b) w)))
        ≡ at_on f (normalized a) (λ v. glue (normalized a) v) (at_on g (normalized b) (λ v. glue (normalized b) v) (normalized w))
    go true e = subst (λ n. put_on (at f (normalized (glue a b))) (normalized w) ≡ at_on f (normalized a) (λ v. glue (normalized a) v) (at_on n (normalized b) (λ v. glue (normalized b) v) (normalized w))) ((bytes_eq-Decides f g).0 e)
        (ap (λ z. put_on (at f z) (normalized w)) (h b) ∙ at_at f (normalized a) (normalized b) (normalized w) (λ c. glue_assoc (normalized a) (normalized b) c))
    go false e = refl
normalized_at_on f a w h = refl

normalized_stay_on : (f : List ℕ) (a w : WordTree) → ((b : WordTree) → normalized (glue a b) ≡ glue (normalized a) (normalized b)) → normalized (stay_on f a (λ v. glue a v) w) ≡ stay_on f (normalized a) (λ v. glue (normalized a) v) (normalized w)
normalized_stay_on f a (more_primitives (stay g b) w) h = go (bytes_eq f g) refl
  where
    go : (t : Bool) → bytes_eq f g ≡ t → normalized (cond t (more_primitives (stay f (glue a b)) w) (more_primitives (stay f a) (more_primitives (stay g b) w)))
        ≡ stay_on f (normalized a) (λ v. glue (normalized a) v) (stay_on g (normalized b) (λ v. glue (normalized b) v) (normalized w))
    go true e = subst (λ n. put_on (stay f (normalized (glue a b))) (normalized w) ≡ stay_on f (normalized a) (λ v. glue (normalized a) v) (stay_on n (normalized b) (λ v. glue (normalized b) v) (normalized w))) ((bytes_eq-Decides f g).0 e)
        (ap (λ z. put_on (stay f z) (normalized w)) (h b) ∙ stay_stay f (normalized a) (normalized b) (normalized w) (λ c. glue_assoc (normalized a) (normalized b) c))
    go false e = refl
normalized_stay_on f a w h = refl

normalized_mod_on : (f : Place) (a w : WordTree) → ((b : WordTree) → normalized (glue a b) ≡ glue (normalized a) (normalized b)) → normalized (mod_on f a (λ v. glue a v) w) ≡ mod_on f (normalized a) (λ v. glue (normalized a) v) (normalized w)
normalized_mod_on f a (more_primitives (modify g b) w) h = go (is_same_place f g) refl
  where
    go : (t : Bool) → is_same_place f g ≡ t → normalized (cond t (more_primitives (modify f (glue a b)) w) (more_primitives (modify f a) (more_primitives (modify g b) w)))
        ≡ mod_on f (normalized a) (λ v. glue (normalized a) v) (mod_on g (normalized b) (λ v. glue (normalized b) v) (normalized w))
    go true e = subst (λ n. put_on (modify f (normalized (glue a b))) (normalized w) ≡ mod_on f (normalized a) (λ v. glue (normalized a) v) (mod_on n (normalized b) (λ v. glue (normalized b) v) (normalized w))) (same_place-is f g e)
        (ap (λ z. put_on (modify f z) (normalized w)) (h b) ∙ mod_mod f (normalized a) (normalized b) (normalized w) (λ c. glue_assoc (normalized a) (normalized b) c))
    go false e = refl
normalized_mod_on f a w h = refl

normalized_switch_on : (s f : List ℕ) (a w : WordTree) → ((b : WordTree) → normalized (glue a b) ≡ glue (normalized a) (normalized b)) → normalized (switch_on s f a (λ v. glue a v) w) ≡ switch_on s f (normalized a) (λ v. glue (normalized a) v) (normalized w)
normalized_switch_on s f a (more_primitives (stay g b) w) h = go (bytes_eq f g) refl
  where
    go : (t : Bool) → bytes_eq f g ≡ t → normalized (cond t (more_primitives (switch s f (glue a b)) w) (more_primitives (switch s f a) (more_primitives (stay g b) w)))
        ≡ switch_on s f (normalized a) (λ v. glue (normalized a) v) (stay_on g (normalized b) (λ v. glue (normalized b) v) (normalized w))
    go true e = subst (λ n. put_on (switch s f (normalized (glue a b))) (normalized w) ≡ switch_on s f (normalized a) (λ v. glue (normalized a) v) (stay_on n (normalized b) (λ v. glue (normalized b) v) (normalized w))) ((bytes_eq-Decides f g).0 e)
        (ap (λ z. put_on (switch s f z) (normalized w)) (h b) ∙ switch_stay s f (normalized a) (normalized b) (normalized w) (λ c. glue_assoc (normalized a) (normalized b) c))
    go false e = refl
normalized_switch_on s f a w h = refl

mutual
  normalized_glue : (u v : WordTree) → normalized (glue u v) ≡ glue (normalized u) (normalized v)
  normalized_glue no_primitives v = refl
  normalized_glue (more_primitives p u) v = normalized_put p (glue u v) ∙ ap (λ z. put_on (normalized_one p) z) (normalized_glue u v) ∙ sym (put_glue (normalized_one p) (normalized u) (normalized v))

  normalized_put : (p : PrimitiveTree) (w : WordTree) → normalized (put_on p w) ≡ put_on (normalized_one p) (normalized w)
  normalized_put (set a) w = refl
  normalized_put (add n) w = refl
  normalized_put (splice i k s) w = refl
  normalized_put (shape e) w = refl
  normalized_put (at f a) w = normalized_at_on f a w (λ b. normalized_glue a b)
  normalized_put (stay f a) w = normalized_stay_on f a w (λ b. normalized_glue a b)
  normalized_put (modify f a) w = normalized_mod_on f a w (λ b. normalized_glue a b)
  normalized_put (switch s f a) w = normalized_switch_on s f a w (λ b. normalized_glue a b)

mutual
  pub normalized-again : (w : WordTree) → normalized (normalized w) ≡ normalized w
  normalized-again no_primitives = refl
  normalized-again (more_primitives p w) = normalized_put (normalized_one p) (normalized w) ∙ ap₂ put_on (normalized_one-again p) (normalized-again w)

  pub normalized_one-again : (p : PrimitiveTree) → normalized_one (normalized_one p) ≡ normalized_one p
  normalized_one-again (set a) = refl
  normalized_one-again (add n) = refl
  normalized_one-again (splice i k s) = refl
  normalized_one-again (shape e) = refl
  normalized_one-again (at f a) = ap (at f) (normalized-again a)
  normalized_one-again (stay f a) = ap (stay f) (normalized-again a)
  normalized_one-again (modify f a) = ap (modify f) (normalized-again a)
  normalized_one-again (switch s f a) = ap (switch s f) (normalized-again a)

-- ---- both definitions of the normal form are the same

pub normalized_one-inside : (p : PrimitiveTree) → inside normalized p ≡ normalized_one p
normalized_one-inside (set a) = refl
normalized_one-inside (add n) = refl
normalized_one-inside (splice i k s) = refl
normalized_one-inside (shape e) = refl
normalized_one-inside (at f a) = refl
normalized_one-inside (stay f a) = refl
normalized_one-inside (modify f a) = refl
normalized_one-inside (switch s f a) = refl

-- a primitive before a word comes first, maybe with a longer inner word
pub comes_first : (q : PrimitiveTree) (w : WordTree) → (v : WordTree) × (rest : WordTree) × (put_on q w ≡ more_primitives (inside (λ u. v) q) rest)
comes_first (set a) w = (no_primitives, w, refl)
comes_first (add n) w = (no_primitives, w, refl)
comes_first (splice i k s) w = (no_primitives, w, refl)
comes_first (shape e) w = (no_primitives, w, refl)
comes_first (at f u) w = at_first f u (λ v. glue u v) w
  where
    at_first : (f : List ℕ) (u : WordTree) (g : WordTree → WordTree) (w : WordTree) → (v : WordTree) × (rest : WordTree) × (at_on f u g w ≡ more_primitives (at f v) rest)
    at_first f u g (more_primitives (at n v) w) = go (bytes_eq f n)
      where
        go : (b : Bool) → (x : WordTree) × (rest : WordTree) × (cond b (more_primitives (at f (g v)) w) (more_primitives (at f u) (more_primitives (at n v) w)) ≡ more_primitives (at f x) rest)
        go true = (g v, w, refl)
        go false = (u, more_primitives (at n v) w, refl)
    at_first f u g w = (u, w, refl)
comes_first (stay f u) w = stay_first f u (λ v. glue u v) w
  where
    stay_first : (f : List ℕ) (u : WordTree) (g : WordTree → WordTree) (w : WordTree) → (v : WordTree) × (rest : WordTree) × (stay_on f u g w ≡ more_primitives (stay f v) rest)
    stay_first f u g (more_primitives (stay n v) w) = go (bytes_eq f n)
      where
        go : (b : Bool) → (x : WordTree) × (rest : WordTree) × (cond b (more_primitives (stay f (g v)) w) (more_primitives (stay f u) (more_primitives (stay n v) w)) ≡ more_primitives (stay f x) rest)
        go true = (g v, w, refl)
        go false = (u, more_primitives (stay n v) w, refl)
    stay_first f u g w = (u, w, refl)
comes_first (modify f u) w = mod_first f u (λ v. glue u v) w
  where
    mod_first : (f : Place) (u : WordTree) (g : WordTree → WordTree) (w : WordTree) → (v : WordTree) × (rest : WordTree) × (mod_on f u g w ≡ more_primitives (modify f v) rest)
    mod_first f u g (more_primitives (modify n v) w) = go (is_same_place f n)
      where
        go : (b : Bool) → (x : WordTree) × (rest : WordTree) × (cond b (more_primitives (modify f (g v)) w) (more_primitives (modify f u) (more_primitives (modify n v) w)) ≡ more_primitives (modify f x) rest)
        go true = (g v, w, refl)
        go false = (u, more_primitives (modify n v) w, refl)
    mod_first f u g w = (u, w, refl)
comes_first (switch s f u) w = switch_first s f u (λ v. glue u v) w
  where
    switch_first : (s f : List ℕ) (u : WordTree) (g : WordTree → WordTree) (w : WordTree) → (v : WordTree) × (rest : WordTree) × (switch_on s f u g w ≡ more_primitives (switch s f v) rest)
    switch_first s f u g (more_primitives (stay n v) w) = go (bytes_eq f n)
      where
        go : (b : Bool) → (x : WordTree) × (rest : WordTree) × (cond b (more_primitives (switch s f (g v)) w) (more_primitives (switch s f u) (more_primitives (stay n v) w)) ≡ more_primitives (switch s f x) rest)
        go true = (g v, w, refl)
        go false = (u, more_primitives (stay n v) w, refl)
    switch_first s f u g w = (u, w, refl)

cond-none : (b : Bool) (p : PrimitiveTree) → cond b (Some p) None ≡ None → b ≡ false
cond-none true p e = cc
cond-none false p e = refl

apart : (p q : PrimitiveTree) (v w : WordTree) → merge p q ≡ None
    → put_on (normalized_one p) (more_primitives (inside (λ u. v) (normalized_one q)) w) ≡ more_primitives (normalized_one p) (more_primitives (inside (λ u. v) (normalized_one q)) w)
apart (set a) q v w e = refl
apart (add n) q v w e = refl
apart (splice i k s) q v w e = refl
apart (shape a) q v w e = refl
apart (at f u) (at g x) v w e = rw (cond-none (bytes_eq f g) (at f (joined u x)) e) refl
apart (at f u) _ v w e = refl
apart (stay f u) (stay g x) v w e = rw (cond-none (bytes_eq f g) (stay f (joined u x)) e) refl
apart (stay f u) _ v w e = refl
apart (modify f u) (modify g x) v w e = rw (cond-none (is_same_place f g) (modify f (joined u x)) e) refl
apart (modify f u) _ v w e = refl
apart (switch s f u) (stay g x) v w e = rw (cond-none (bytes_eq f g) (switch s f (joined u x)) e) refl
apart (switch s f u) _ v w e = refl

-- a primitive that does not merge with the first one of a word stays before it
kept_apart : (p q : PrimitiveTree) (w : WordTree) → merge p q ≡ None → put_on (normalized_one p) (put_on (normalized_one q) w) ≡ more_primitives (normalized_one p) (put_on (normalized_one q) w)
kept_apart p q w e =
    let first = comes_first (normalized_one q) w in
    subst (λ z. put_on (normalized_one p) z ≡ more_primitives (normalized_one p) z) (sym first.2) (apart p q first.0 first.1 e)

pub normalized-merged : (w : WordTree) → inside_each normalized (merged w) ≡ normalized w
normalized-merged no_primitives = refl
normalized-merged (more_primitives p w) = onto w p
  where
    placed-normalized : (p q : PrimitiveTree) (w : WordTree) (o : Option PrimitiveTree) → merge p q ≡ o → ((r : PrimitiveTree) → inside_each normalized (merged_onto r w) ≡ put_on (normalized_one r) (normalized w))
        → inside_each normalized (placed o p q (λ r. merged_onto r w)) ≡ put_on (normalized_one p) (put_on (normalized_one q) (normalized w))
    placed-normalized p q w None e h = ap₂ more_primitives (normalized_one-inside p) (h q) ∙ sym (kept_apart p q (normalized w) e)
    placed-normalized p q w (Some r) e h = h r ∙ normalized-merge p q r e (normalized w)

    onto : (w : WordTree) (p : PrimitiveTree) → inside_each normalized (merged_onto p w) ≡ put_on (normalized_one p) (normalized w)
    onto no_primitives (set a) = refl
    onto no_primitives (add a) = refl
    onto no_primitives (splice i k s) = refl
    onto no_primitives (shape a) = refl
    onto no_primitives (at f a) = refl
    onto no_primitives (stay f a) = refl
    onto no_primitives (modify f a) = refl
    onto no_primitives (switch s f a) = refl
    onto (more_primitives q w) p = placed-normalized p q w (merge p q) refl (λ r. onto w r)

normal_to-normalized : (n : ℕ) (w : WordTree) → word_depth w ≤ n → normal_to n w ≡ normalized w
normal_to-normalized zero w h = absurd (omega (arith, h, depth-some w))
normal_to-normalized (suc n) w h =
    inside_each-same (normal_to n) normalized n (λ u d. normal_to-normalized n u d) (merged w) (depth-merged n w (omega (arith, h))) ∙ normalized-merged w

pub normal-normalized : (w : WordTree) → normal w ≡ normalized w
normal-normalized w = normal_to-normalized (word_depth w) w (omega arith)
