-- Lists with a chunk between two parts, cut and read at a place. n is the length of the left part, m that of the chunk.
use Rattle.std.proofs.Common.{◌≡◌, ℕ, ◌+◌, ◌-◌, ◌≤◌, List, [], ◌++◌, length, take, drop, refl, ap, sym, ◌∙◌, arith, subst, append_assoc, append-nil, length-append, length-take, length-drop}
use Rattle.std.proofs.lemmas.List.{take-append-le, drop-append-le, take-append-drop}
use Rattle.std.proofs.Math.Seq.{take-append-add, drop-append-add, drop-length}
use Rattle.std.proofs.Math.ListN.{drop_of_length-le}

module _ {X : Type 0} (xs ys : List X) where
  take_past : (i : ℕ) → length xs ≤ i → take i (xs ++ ys) ≡ xs ++ take (i - length xs) ys
  take_past i p =
      let e : length xs + (i - length xs) ≡ i = omega arith in
      subst (λ k. take k (xs ++ ys) ≡ xs ++ take (i - length xs) ys) e (take-append-add xs ys (i - length xs))

  drop_past : (i : ℕ) → length xs ≤ i → drop i (xs ++ ys) ≡ drop (i - length xs) ys
  drop_past i p =
      let e : length xs + (i - length xs) ≡ i = omega arith in
      subst (λ k. drop k (xs ++ ys) ≡ drop (i - length xs) ys) e (drop-append-add xs ys (i - length xs))

module _ {X : Type 0} (xs c ys : List X) (n i : ℕ) (e : n ≡ length xs) where
  pub take_left : i ≤ n → take i (xs ++ (c ++ ys)) ≡ take i xs
  take_left p = take-append-le i xs (c ++ ys) (omega arith)

  pub take_here : (j : ℕ) → j ≡ i - n → n ≤ i → j ≤ length c → take i (xs ++ (c ++ ys)) ≡ xs ++ (take j c ++ [])
  take_here j f p q = rw (take_past xs (c ++ ys) i (omega arith), sym e, sym f, take-append-le j c ys q, append-nil (take j c)) refl

  pub take_right : (j : ℕ) → j ≡ i - n - length c → n + length c ≤ i → take i (xs ++ (c ++ ys)) ≡ xs ++ (c ++ take j ys)
  take_right j f p =
      let same : i - length xs - length c ≡ j = omega arith in
      rw (take_past xs (c ++ ys) i (omega arith), take_past c ys (i - length xs) (omega arith), same) refl

  pub drop_left : i ≤ n → drop i (xs ++ (c ++ ys)) ≡ drop i xs ++ (c ++ ys)
  drop_left p = drop-append-le i xs (c ++ ys) (omega arith)

  pub drop_here : (j : ℕ) → j ≡ i - n → n ≤ i → j ≤ length c → drop i (xs ++ (c ++ ys)) ≡ drop j c ++ ys
  drop_here j f p q = rw (drop_past xs (c ++ ys) i (omega arith), sym e, sym f, drop-append-le j c ys q) refl

  pub drop_right : (j : ℕ) → j ≡ i - n - length c → n + length c ≤ i → drop i (xs ++ (c ++ ys)) ≡ drop j ys
  drop_right j f p =
      let same : i - length xs - length c ≡ j = omega arith in
      rw (drop_past xs (c ++ ys) i (omega arith), drop_past c ys (i - length xs) (omega arith), same) refl

-- the places from `from` to before `to` replaced by others, in the chunk, in the left part, or in the right one
module _ {X : Type 0} (xs c ys more : List X) (n from to : ℕ) (e : n ≡ length xs) (order : from ≤ to) where
  pub spliced_here : (f t : ℕ) → n ≤ from → to ≤ n + length c → f ≡ from - n → t ≡ to - n
      → xs ++ ((take f c ++ (more ++ drop t c)) ++ ys) ≡ take from (xs ++ (c ++ ys)) ++ (more ++ drop to (xs ++ (c ++ ys)))
  spliced_here f t p q g h =
      rw (take_here xs c ys n from e f g p (omega arith), drop_here xs c ys n to e t h (omega arith) (omega arith)) (simp (append_assoc, append-nil))

  pub spliced_left : to ≤ n → (take from xs ++ (more ++ drop to xs)) ++ (c ++ ys) ≡ take from (xs ++ (c ++ ys)) ++ (more ++ drop to (xs ++ (c ++ ys)))
  spliced_left p = rw (take_left xs c ys n from e (omega arith), drop_left xs c ys n to e p) (simp append_assoc)

  pub spliced_right : (f t m : ℕ) → m ≡ n + length c → m ≤ from → f ≡ from - m → t ≡ to - m
      → xs ++ (c ++ (take f ys ++ (more ++ drop t ys))) ≡ take from (xs ++ (c ++ ys)) ++ (more ++ drop to (xs ++ (c ++ ys)))
  spliced_right f t m l p g h =
      rw (take_right xs c ys n from e f (omega arith) (omega arith), drop_right xs c ys n to e t (omega arith) (omega arith)) (simp append_assoc)

-- the first chunk of a list, seen in a list that has more behind it
pub first_of_left : {X : Type 0} (xs c ys : List X) → xs ≡ c ++ drop (length c) xs → xs ++ ys ≡ c ++ drop (length c) (xs ++ ys)
first_of_left xs c ys e =
    let within : length c ≤ length xs = omega (arith, ap length e, length-append c (drop (length c) xs)) in
    rw (drop-append-le (length c) xs ys within) (ap (λ zs. zs ++ ys) e ∙ append_assoc c (drop (length c) xs) ys)

pub first_of_chunk : {X : Type 0} (c ys : List X) → c ++ ys ≡ c ++ drop (length c) (c ++ ys)
first_of_chunk c ys = rw (drop-append-le (length c) c ys (omega arith), drop-length c) refl

pub first_within : {X : Type 0} (xs c : List X) → xs ≡ c ++ drop (length c) xs → length c ≤ length xs
first_within xs c e = omega (arith, ap length e, length-append c (drop (length c) xs))

-- the depths side by side with the one at a place, and what is behind them
module _ {X : Type 0} (xs c ys front : List X) (at k n : ℕ) (e : n ≡ length xs) where
  pub chunk_left : at + k ≤ n → front ++ drop (at + k) xs ≡ drop at xs → front ++ drop (at + k) (xs ++ (c ++ ys)) ≡ drop at (xs ++ (c ++ ys))
  chunk_left p f =
      rw (drop-append-le (at + k) xs (c ++ ys) (omega arith), drop-append-le at xs (c ++ ys) (omega arith), sym f) (sym (append_assoc front (drop (at + k) xs) (c ++ ys)))

  pub chunk_here : (j : ℕ) → j ≡ at - n → n ≤ at → j ≤ length c → front ≡ drop j c → k ≡ length front → front ++ drop (at + k) (xs ++ (c ++ ys)) ≡ drop at (xs ++ (c ++ ys))
  chunk_here j f p q s l =
      let whole : at + k ≡ n + length c = omega (arith, ap length s, length-drop j c) in
      let past : at + k - n - length c ≡ 0 = omega arith in
      rw (drop_right xs c ys n (at + k) e 0 (sym past) (omega arith), drop_here xs c ys n at e j f p q, s) refl

  pub chunk_right : (m j : ℕ) → m ≡ n + length c → j ≡ at - m → m ≤ at → front ++ drop (j + k) ys ≡ drop j ys → front ++ drop (at + k) (xs ++ (c ++ ys)) ≡ drop at (xs ++ (c ++ ys))
  chunk_right m j g f p s =
      rw (drop_right xs c ys n (at + k) e (j + k) (omega arith) (omega arith), drop_right xs c ys n at e j (omega arith) (omega arith)) s

pub ruleset part_rules = (append_assoc, length-append)

pub ruleset cut_rules = (take_left, take_here, take_right, drop_left, drop_here, drop_right, first_of_left, first_of_chunk, first_within, append-nil, length-append, length-take, length-drop)

pub ruleset making_rules = (append-nil, take-append-drop, length-append, length-take, length-drop)

pub ruleset splice_rules = (length-append, length-take, length-drop)

pub ruleset splice_chunk_rules = (spliced_here, spliced_left, spliced_right, length-append, length-take, length-drop)

pub ruleset new_chunk_rules = (append_assoc, length-append, length-take, length-drop)

pub ruleset chunk_rules = (chunk_left, chunk_here, chunk_right, length-append, length-drop)

pub ruleset iter_rules = (drop_of_length-le)
