-- A second form of normal words, by recursion on the word alone: each primitive is glued before the glued rest.
use Rattle.std.proofs.Common.{◌≡◌, refl, sym, ap, subst, Bool, true, false, cond, ℕ, List, bytes_eq, ◌∙◌}
use Rattle.std.proofs.lemmas.Slice.Eq.{bytes_eq-Decides}
use Rattle.hold_shapes.specs.declared.edit.Place.{Place}
use Rattle.hold_shapes.specs.declared.edit.Place.TheVariants.{Index, Key, Node}
use Rattle.edit_module.specs.Words.{PrimitiveTree, set, add, splice, at, stay, switch, modify, shape, WordTree, no_primitives, more_primitives, joined}
use Rattle.edit_module.specs.Normal.{is_same_place}
use Rattle.std.proofs.lemmas.Bool.{eqb-true}
use Rattle.texts.proofs.KeyOrder.{bytes_eq-refl}
use Rattle.texts.proofs.Tests.{nat_eq-refl}

-- in front of a word, merged into its first primitive where that fits; `glued` puts the inner word before another
abbrev pub at_on : List ℕ → WordTree → (WordTree → WordTree) → WordTree → WordTree
at_on f u glued (more_primitives (at g v) w) = cond (bytes_eq f g) (more_primitives (at f (glued v)) w) (more_primitives (at f u) (more_primitives (at g v) w))
at_on f u glued w = more_primitives (at f u) w

abbrev pub stay_on : List ℕ → WordTree → (WordTree → WordTree) → WordTree → WordTree
stay_on t u glued (more_primitives (stay s v) w) = cond (bytes_eq t s) (more_primitives (stay t (glued v)) w) (more_primitives (stay t u) (more_primitives (stay s v) w))
stay_on t u glued w = more_primitives (stay t u) w

abbrev pub switch_on : List ℕ → List ℕ → WordTree → (WordTree → WordTree) → WordTree → WordTree
switch_on a b u glued (more_primitives (stay s v) w) = cond (bytes_eq b s) (more_primitives (switch a b (glued v)) w) (more_primitives (switch a b u) (more_primitives (stay s v) w))
switch_on a b u glued w = more_primitives (switch a b u) w

abbrev pub mod_on : Place → WordTree → (WordTree → WordTree) → WordTree → WordTree
mod_on p u glued (more_primitives (modify q v) w) = cond (is_same_place p q) (more_primitives (modify p (glued v)) w) (more_primitives (modify p u) (more_primitives (modify q v) w))
mod_on p u glued w = more_primitives (modify p u) w

abbrev mutual
  -- one word before another, both without neighbours that merge
  pub glue : WordTree → WordTree → WordTree
  glue no_primitives v = v
  glue (more_primitives p u) v = put_on p (glue u v)

  pub put_on : PrimitiveTree → WordTree → WordTree
  put_on (set a) w = more_primitives (set a) w
  put_on (add n) w = more_primitives (add n) w
  put_on (splice i k s) w = more_primitives (splice i k s) w
  put_on (at f u) w = at_on f u (λ v. glue u v) w
  put_on (stay t u) w = stay_on t u (λ v. glue u v) w
  put_on (switch a b u) w = switch_on a b u (λ v. glue u v) w
  put_on (modify p u) w = mod_on p u (λ v. glue u v) w
  put_on (shape e) w = more_primitives (shape e) w

abbrev mutual
  pub normalized : WordTree → WordTree
  normalized no_primitives = no_primitives
  normalized (more_primitives p w) = put_on (normalized_one p) (normalized w)

  pub normalized_one : PrimitiveTree → PrimitiveTree
  normalized_one (set a) = set a
  normalized_one (add n) = add n
  normalized_one (splice i k s) = splice i k s
  normalized_one (at f u) = at f (normalized u)
  normalized_one (stay t u) = stay t (normalized u)
  normalized_one (switch a b u) = switch a b (normalized u)
  normalized_one (modify p u) = modify p (normalized u)
  normalized_one (shape e) = shape e

pub same_place-is : (p q : Place) → is_same_place p q ≡ true → p ≡ q
same_place-is (Index p) (Index q) e = ap Index (eqb-true p q e)
same_place-is (Key k) (Key l) e = ap Key ((bytes_eq-Decides k l).0 e)
same_place-is (Node p) (Node q) e = ap Node ((bytes_eq-Decides p q).0 e)
same_place-is _ _ e = cc

pub same_place_same : (p : Place) → is_same_place p p ≡ true
same_place_same (Index i) = nat_eq-refl i
same_place_same (Key k) = bytes_eq-refl k
same_place_same (Node k) = bytes_eq-refl k

-- in front of a word that begins with another primitive of the same name, step by step
pub at_at : (f : List ℕ) (a b : WordTree) (z : WordTree) → ((c : WordTree) → glue (glue a b) c ≡ glue a (glue b c)) → at_on f (glue a b) (λ v. glue (glue a b) v) z ≡ at_on f a (λ v. glue a v) (at_on f b (λ v. glue b v) z)
at_at f a b (more_primitives (at g c) z) h = go (bytes_eq f g) refl
  where
    go : (t : Bool) → bytes_eq f g ≡ t → cond t (more_primitives (at f (glue (glue a b) c)) z) (more_primitives (at f (glue a b)) (more_primitives (at g c) z))
        ≡ at_on f a (λ v. glue a v) (cond t (more_primitives (at f (glue b c)) z) (more_primitives (at f b) (more_primitives (at g c) z)))
    go true e = rw (bytes_eq-refl f, h c) refl
    go false e = rw (bytes_eq-refl f) refl
at_at f a b z h = rw (bytes_eq-refl f) refl

at_glue : (f : List ℕ) (a u v : WordTree) → ((b c : WordTree) → glue (glue a b) c ≡ glue a (glue b c)) → glue (at_on f a (λ w. glue a w) u) v ≡ at_on f a (λ w. glue a w) (glue u v)
at_glue f a (more_primitives (at g b) w) v h = go (bytes_eq f g) refl
  where
    go : (t : Bool) → bytes_eq f g ≡ t → glue (cond t (more_primitives (at f (glue a b)) w) (more_primitives (at f a) (more_primitives (at g b) w))) v ≡ at_on f a (λ w. glue a w) (at_on g b (λ w. glue b w) (glue w v))
    go true e = subst (λ n. at_on f (glue a b) (λ x. glue (glue a b) x) (glue w v) ≡ at_on f a (λ x. glue a x) (at_on n b (λ x. glue b x) (glue w v))) ((bytes_eq-Decides f g).0 e) (at_at f a b (glue w v) (λ c. h b c))
    go false e = refl
at_glue f a u v h = refl

pub stay_stay : (f : List ℕ) (a b : WordTree) (z : WordTree) → ((c : WordTree) → glue (glue a b) c ≡ glue a (glue b c)) → stay_on f (glue a b) (λ v. glue (glue a b) v) z ≡ stay_on f a (λ v. glue a v) (stay_on f b (λ v. glue b v) z)
stay_stay f a b (more_primitives (stay g c) z) h = go (bytes_eq f g) refl
  where
    go : (t : Bool) → bytes_eq f g ≡ t → cond t (more_primitives (stay f (glue (glue a b) c)) z) (more_primitives (stay f (glue a b)) (more_primitives (stay g c) z))
        ≡ stay_on f a (λ v. glue a v) (cond t (more_primitives (stay f (glue b c)) z) (more_primitives (stay f b) (more_primitives (stay g c) z)))
    go true e = rw (bytes_eq-refl f, h c) refl
    go false e = rw (bytes_eq-refl f) refl
stay_stay f a b z h = rw (bytes_eq-refl f) refl

stay_glue : (f : List ℕ) (a u v : WordTree) → ((b c : WordTree) → glue (glue a b) c ≡ glue a (glue b c)) → glue (stay_on f a (λ w. glue a w) u) v ≡ stay_on f a (λ w. glue a w) (glue u v)
stay_glue f a (more_primitives (stay g b) w) v h = go (bytes_eq f g) refl
  where
    go : (t : Bool) → bytes_eq f g ≡ t → glue (cond t (more_primitives (stay f (glue a b)) w) (more_primitives (stay f a) (more_primitives (stay g b) w))) v ≡ stay_on f a (λ w. glue a w) (stay_on g b (λ w. glue b w) (glue w v))
    go true e = subst (λ n. stay_on f (glue a b) (λ x. glue (glue a b) x) (glue w v) ≡ stay_on f a (λ x. glue a x) (stay_on n b (λ x. glue b x) (glue w v))) ((bytes_eq-Decides f g).0 e) (stay_stay f a b (glue w v) (λ c. h b c))
    go false e = refl
stay_glue f a u v h = refl

pub mod_mod : (f : Place) (a b : WordTree) (z : WordTree) → ((c : WordTree) → glue (glue a b) c ≡ glue a (glue b c)) → mod_on f (glue a b) (λ v. glue (glue a b) v) z ≡ mod_on f a (λ v. glue a v) (mod_on f b (λ v. glue b v) z)
mod_mod f a b (more_primitives (modify g c) z) h = go (is_same_place f g) refl
  where
    go : (t : Bool) → is_same_place f g ≡ t → cond t (more_primitives (modify f (glue (glue a b) c)) z) (more_primitives (modify f (glue a b)) (more_primitives (modify g c) z))
        ≡ mod_on f a (λ v. glue a v) (cond t (more_primitives (modify f (glue b c)) z) (more_primitives (modify f b) (more_primitives (modify g c) z)))
    go true e = rw (same_place_same f, h c) refl
    go false e = rw (same_place_same f) refl
mod_mod f a b z h = rw (same_place_same f) refl

mod_glue : (f : Place) (a u v : WordTree) → ((b c : WordTree) → glue (glue a b) c ≡ glue a (glue b c)) → glue (mod_on f a (λ w. glue a w) u) v ≡ mod_on f a (λ w. glue a w) (glue u v)
mod_glue f a (more_primitives (modify g b) w) v h = go (is_same_place f g) refl
  where
    go : (t : Bool) → is_same_place f g ≡ t → glue (cond t (more_primitives (modify f (glue a b)) w) (more_primitives (modify f a) (more_primitives (modify g b) w))) v ≡ mod_on f a (λ w. glue a w) (mod_on g b (λ w. glue b w) (glue w v))
    go true e = subst (λ n. mod_on f (glue a b) (λ x. glue (glue a b) x) (glue w v) ≡ mod_on f a (λ x. glue a x) (mod_on n b (λ x. glue b x) (glue w v))) (same_place-is f g e) (mod_mod f a b (glue w v) (λ c. h b c))
    go false e = refl
mod_glue f a u v h = refl

pub switch_stay : (e f : List ℕ) (a b : WordTree) (z : WordTree) → ((c : WordTree) → glue (glue a b) c ≡ glue a (glue b c)) → switch_on e f (glue a b) (λ v. glue (glue a b) v) z ≡ switch_on e f a (λ v. glue a v) (stay_on f b (λ v. glue b v) z)
switch_stay e f a b (more_primitives (stay g c) z) h = go (bytes_eq f g) refl
  where
    go : (t : Bool) → bytes_eq f g ≡ t → cond t (more_primitives (switch e f (glue (glue a b) c)) z) (more_primitives (switch e f (glue a b)) (more_primitives (stay g c) z))
        ≡ switch_on e f a (λ v. glue a v) (cond t (more_primitives (stay f (glue b c)) z) (more_primitives (stay f b) (more_primitives (stay g c) z)))
    go true q = rw (bytes_eq-refl f, h c) refl
    go false q = rw (bytes_eq-refl f) refl
switch_stay e f a b z h = rw (bytes_eq-refl f) refl

switch_glue : (e f : List ℕ) (a u v : WordTree) → ((b c : WordTree) → glue (glue a b) c ≡ glue a (glue b c)) → glue (switch_on e f a (λ w. glue a w) u) v ≡ switch_on e f a (λ w. glue a w) (glue u v)
switch_glue e f a (more_primitives (stay g b) w) v h = go (bytes_eq f g) refl
  where
    go : (t : Bool) → bytes_eq f g ≡ t → glue (cond t (more_primitives (switch e f (glue a b)) w) (more_primitives (switch e f a) (more_primitives (stay g b) w))) v ≡ switch_on e f a (λ w. glue a w) (stay_on g b (λ w. glue b w) (glue w v))
    go true q = subst (λ n. switch_on e f (glue a b) (λ x. glue (glue a b) x) (glue w v) ≡ switch_on e f a (λ x. glue a x) (stay_on n b (λ x. glue b x) (glue w v))) ((bytes_eq-Decides f g).0 q) (switch_stay e f a b (glue w v) (λ c. h b c))
    go false q = refl
switch_glue e f a u v h = refl

mutual
  pub glue_assoc : (a b c : WordTree) → glue (glue a b) c ≡ glue a (glue b c)
  glue_assoc no_primitives b c = refl
  glue_assoc (more_primitives p a) b c = put_glue p (glue a b) c ∙ ap (λ z. put_on p z) (glue_assoc a b c)

  pub put_glue : (p : PrimitiveTree) (u v : WordTree) → glue (put_on p u) v ≡ put_on p (glue u v)
  put_glue (set a) u v = refl
  put_glue (add n) u v = refl
  put_glue (splice i k s) u v = refl
  put_glue (shape e) u v = refl
  put_glue (at f a) u v = at_glue f a u v (λ b c. glue_assoc a b c)
  put_glue (stay t a) u v = stay_glue t a u v (λ b c. glue_assoc a b c)
  put_glue (switch e f a) u v = switch_glue e f a u v (λ b c. glue_assoc a b c)
  put_glue (modify p a) u v = mod_glue p a u v (λ b c. glue_assoc a b c)

pub normalized_joined : (u v : WordTree) → normalized (joined u v) ≡ glue (normalized u) (normalized v)
normalized_joined no_primitives v = refl
normalized_joined (more_primitives p u) v = ap (λ z. put_on (normalized_one p) z) (normalized_joined u v) ∙ sym (put_glue (normalized_one p) (normalized u) (normalized v))
