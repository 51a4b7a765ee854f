-- The depth of a word is enough for its normal form.
use Rattle.std.proofs.Common.{◌≡◌, ℕ, zero, suc, ◌+◌, ◌≤◌, Option, None, Some, bytes_eq, refl, ap, ap₂, ◌∙◌, arith}
use Rattle.edit_module.specs.Words.{PrimitiveTree, at, stay, switch, modify, WordTree, no_primitives, more_primitives, joined}
use Rattle.edit_module.specs.Depths.{primitive_depth, word_depth}
use Rattle.edit_module.specs.Normal.{is_same_place, merge, placed, merged_onto, merged, inside, inside_each, normal_to, normal}
use Rattle.edit_module.proofs.Merging.{merged_is}

-- ---- merging makes no word deeper

depth-joined : (n : ℕ) (u v : WordTree) → word_depth u ≤ n → word_depth v ≤ n → word_depth (joined u v) ≤ n
depth-joined n no_primitives v h k = k
depth-joined n (more_primitives p u) v h k =
    let rest : word_depth (joined u v) ≤ n = depth-joined n u v (omega (arith, h)) k in
    omega (arith, h, rest)

depth-merge : (n : ℕ) (p q r : PrimitiveTree) → merge p q ≡ Some r → primitive_depth p ≤ n → primitive_depth q ≤ n → primitive_depth r ≤ n
depth-merge n (at f u) (at g v) r e h k =
    rw (← (merged_is (bytes_eq f g) (at f (joined u v)) r e).1) (depth-joined n u v h k)
depth-merge n (stay s u) (stay t v) r e h k =
    rw (← (merged_is (bytes_eq s t) (stay s (joined u v)) r e).1) (depth-joined n u v h k)
depth-merge n (modify p u) (modify q v) r e h k =
    rw (← (merged_is (is_same_place p q) (modify p (joined u v)) r e).1) (depth-joined n u v h k)
depth-merge n (switch a b u) (stay t v) r e h k =
    rw (← (merged_is (bytes_eq b t) (switch a b (joined u v)) r e).1) (depth-joined n u v h k)
depth-merge n _ _ r e h k = cc

depth-placed : (n : ℕ) (o : Option PrimitiveTree) (p q : PrimitiveTree) (go_on : PrimitiveTree → WordTree) → ((r : PrimitiveTree) → o ≡ Some r → primitive_depth r ≤ n)
    → primitive_depth p ≤ n → primitive_depth q ≤ n → ((r : PrimitiveTree) → primitive_depth r ≤ n → word_depth (go_on r) ≤ n + 1)
    → word_depth (placed o p q go_on) ≤ n + 1
depth-placed n (Some r) p q go_on m h k rest = rest r (m r refl)
depth-placed n None p q go_on m h k rest = omega (arith, h, rest q k)

depth-merged_onto : (n : ℕ) (p : PrimitiveTree) (w : WordTree) → primitive_depth p ≤ n → word_depth w ≤ n + 1 → word_depth (merged_onto p w) ≤ n + 1
depth-merged_onto n p no_primitives h k = omega (arith, h, k)
depth-merged_onto n p (more_primitives q w) h k =
    let next : primitive_depth q ≤ n = omega (arith, k) in
    depth-placed n (merge p q) p q (λ r. merged_onto r w) (λ r e. depth-merge n p q r e h next) h next
    (λ r d. depth-merged_onto n r w d (omega (arith, k)))

pub depth-merged : (n : ℕ) (w : WordTree) → word_depth w ≤ n + 1 → word_depth (merged w) ≤ n + 1
depth-merged n no_primitives h = h
depth-merged n (more_primitives p w) h = depth-merged_onto n p w (omega (arith, h)) (omega (arith, h))

-- ---- more depth than that of the word changes nothing

inside-same : (f g : WordTree → WordTree) (n : ℕ) → ((u : WordTree) → word_depth u ≤ n → f u ≡ g u) → (p : PrimitiveTree) → primitive_depth p ≤ n → inside f p ≡ inside g p
inside-same f g n h (at a w) d = ap (at a) (h w d)
inside-same f g n h (stay t w) d = ap (stay t) (h w d)
inside-same f g n h (switch a b w) d = ap (switch a b) (h w d)
inside-same f g n h (modify p w) d = ap (modify p) (h w d)
inside-same f g n h _ d = refl

pub inside_each-same : (f g : WordTree → WordTree) (n : ℕ) → ((u : WordTree) → word_depth u ≤ n → f u ≡ g u) → (w : WordTree) → word_depth w ≤ n + 1 → inside_each f w ≡ inside_each g w
inside_each-same f g n h no_primitives d = refl
inside_each-same f g n h (more_primitives p w) d =
    ap₂ more_primitives (inside-same f g n h p (omega (arith, d))) (inside_each-same f g n h w (omega (arith, d)))

pub depth-some : (w : WordTree) → 1 ≤ word_depth w
depth-some no_primitives = omega arith
depth-some (more_primitives p w) = omega arith

normal_to-same : (d n m : ℕ) (w : WordTree) → word_depth w ≤ d → d ≤ n → d ≤ m → normal_to n w ≡ normal_to m w
normal_to-same zero n m w h j k = absurd (omega (arith, h, depth-some w))
normal_to-same (suc d) zero m w h j k = absurd (omega (arith, j))
normal_to-same (suc d) (suc n) zero w h j k = absurd (omega (arith, k))
normal_to-same (suc d) (suc n) (suc m) w h j k =
    inside_each-same (normal_to n) (normal_to m) d (λ u i. normal_to-same d n m u i (omega (arith, j)) (omega (arith, k)))
    (merged w) (depth-merged d w (omega (arith, h)))

pub normal-merged : (w : WordTree) → normal w ≡ inside_each normal (merged w)
normal-merged w =
    normal_to-same (word_depth w) (word_depth w) (suc (word_depth w)) w (omega arith) (omega arith) (omega arith)
    ∙ inside_each-same (normal_to (word_depth w)) normal (word_depth w)
    (λ u h. normal_to-same (word_depth u) (word_depth w) (word_depth u) u (omega arith) h (omega arith))
    (merged w) (depth-merged (word_depth w) w (omega arith))
