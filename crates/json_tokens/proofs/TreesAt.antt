-- How trees stand among tokens: texts and numbers, arrays, and objects.
use Rattle.std.proofs.Common.{◌≡◌, ℕ, zero, suc, ◌-◌, ◌<◌, ◌≤◌, List, [], ◌∷◌, length, Option, Some, None, option_map, option_and_then, refl, sym, ap, ◌∙◌, arith}
use Rattle.json.specs.Token.{Token}
use Rattle.json.specs.Json as json
use Rattle.json.specs.Json.{after_end_array, read_key, parse_map, items_step, members_step}
use Rattle.json.proofs.Grammar.{left, value_is, items_end, items_fail, items_more, members_end, members_no_key, members_fail, members_more, value-begin_array, value-begin_object, skip_value-shorter, read_key-shorter}
use Rattle.serde_json.specs.Data.{Data, Num, number, string, array, object, no_items, item, Members, no_members, put}
use Rattle.serde_json.specs.Read.{number_of, of_json, of_items, of_members, converted}
use Rattle.json_tokens.specs.TreesAt.{tree_at, items_at, members_at}
use Rattle.json_tokens.proofs.Conversions.{found, converted_array, converted_object, converted_item, converted_member}

-- ---- values that open nothing

pub text_at : (depth : ℕ) (s : List ℕ) (ts : List Token) → tree_at depth (Token.string s ∷ ts) ≡ Some (string s, ts)
text_at depth s ts = ap (converted of_json) (value_is depth (Token.string s ∷ ts))

pub number_at : (depth : ℕ) (s : List ℕ) (n : Num) (ts : List Token) → number_of s ≡ Some n → tree_at depth (Token.number s ∷ ts) ≡ Some (number n, ts)
number_at depth s n ts e = ap (converted of_json) (value_is depth (Token.number s ∷ ts)) ∙ ap (λ o. option_map (λ d. (d, ts)) (option_map number o)) e

-- ---- the tokens are always enough turns

module _ (depth : ℕ) where
  no_end : (ts : List Token) (q : json.Json × List Token) → json.value depth ts ≡ Some q → after_end_array ts ≡ None
  no_end [] q e = refl
  no_end (Token.begin_object ∷ ts) q e = refl
  no_end (Token.end_object ∷ ts) q e = refl
  no_end (Token.begin_array ∷ ts) q e = refl
  no_end (Token.end_array ∷ ts) q e = let never = sym (value_is depth (Token.end_array ∷ ts)) ∙ e in cc
  no_end (Token.key s ∷ ts) q e = refl
  no_end (Token.string s ∷ ts) q e = refl
  no_end (Token.number s ∷ ts) q e = refl
  no_end (Token.boolean b ∷ ts) q e = refl
  no_end (Token.null ∷ ts) q e = refl
  no_end (Token.bad ∷ ts) q e = refl

  pub shorter : (ts : List Token) (j : json.Json) (r : List Token) → json.value depth ts ≡ Some (j, r) → length r < length ts
  shorter ts j r e = skip_value-shorter depth ts r (ap left e)

  no_items_left : (n : ℕ) → json.items (json.value depth) n [] ≡ None
  no_items_left n = items_fail (json.value depth) n [] refl (value_is depth [])

  next_items : (n : ℕ) (ts r : List Token) (j : json.Json) → after_end_array ts ≡ None → json.value depth ts ≡ Some (j, r)
      → json.items (json.value depth) (suc n) ts ≡ parse_map (json.item j) (json.items (json.value depth) n r)
  unfolding json.items
  next_items n ts r j e f =
      ap (items_step (json.value depth) (json.items (json.value depth) n) ts) e
      ∙ ap (option_and_then (λ q. parse_map (json.item q.0) (json.items (json.value depth) n q.1))) f

  items_enough : (n m : ℕ) (ts : List Token) → length ts ≤ n → length ts ≤ m → json.items (json.value depth) n ts ≡ json.items (json.value depth) m ts
  items_enough n m [] a b = no_items_left n ∙ sym (no_items_left m)
  items_enough zero m (t ∷ ts) a b = let never : ⊥ = omega arith in absurd never
  items_enough (suc n) zero (t ∷ ts) a b = let never : ⊥ = omega arith in absurd never
  items_enough (suc n) (suc m) (t ∷ ts) a b = turn (λ r c d. items_enough n m r c d) (after_end_array (t ∷ ts)) refl (json.value depth (t ∷ ts)) refl
    where
      turn : ((r : List Token) → length r ≤ n → length r ≤ m → json.items (json.value depth) n r ≡ json.items (json.value depth) m r)
          → (o : Option (List Token)) → after_end_array (t ∷ ts) ≡ o → (v : Option (json.Json × List Token)) → json.value depth (t ∷ ts) ≡ v
          → json.items (json.value depth) (suc n) (t ∷ ts) ≡ json.items (json.value depth) (suc m) (t ∷ ts)
      turn again (Some r) e v f = items_end (json.value depth) (suc n) (t ∷ ts) r a e ∙ sym (items_end (json.value depth) (suc m) (t ∷ ts) r b e)
      turn again None e None f = items_fail (json.value depth) (suc n) (t ∷ ts) e f ∙ sym (items_fail (json.value depth) (suc m) (t ∷ ts) e f)
      turn again None e (Some (j, r)) f =
          let less = shorter (t ∷ ts) j r f in
          next_items n (t ∷ ts) r j e f ∙ ap (parse_map (json.item j)) (again r (omega (arith, less, a)) (omega (arith, less, b))) ∙ sym (next_items m (t ∷ ts) r j e f)

  next_members : (n : ℕ) (k : List ℕ) (ts s r : List Token) (j : json.Json) → read_key ts ≡ Some (Some k, s) → json.value depth s ≡ Some (j, r)
      → json.members (json.value depth) (suc n) ts ≡ parse_map (json.member k j) (json.members (json.value depth) n r)
  unfolding json.members
  next_members n k ts s r j e f =
      ap (option_and_then (λ q. members_step (json.value depth) (json.members (json.value depth) n) q.0 q.1)) e
      ∙ ap (option_and_then (λ q. parse_map (json.member k q.0) (json.members (json.value depth) n q.1))) f

  members_enough : (n m : ℕ) (ts : List Token) → length ts ≤ n → length ts ≤ m → json.members (json.value depth) n ts ≡ json.members (json.value depth) m ts
  members_enough n m [] a b = members_no_key (json.value depth) n [] refl ∙ sym (members_no_key (json.value depth) m [] refl)
  members_enough zero m (t ∷ ts) a b = let never : ⊥ = omega arith in absurd never
  members_enough (suc n) zero (t ∷ ts) a b = let never : ⊥ = omega arith in absurd never
  members_enough (suc n) (suc m) (t ∷ ts) a b = turn (λ r c d. members_enough n m r c d) (read_key (t ∷ ts)) refl
    where
      with_key : ((r : List Token) → length r ≤ n → length r ≤ m → json.members (json.value depth) n r ≡ json.members (json.value depth) m r)
          → (k : List ℕ) (s : List Token) → read_key (t ∷ ts) ≡ Some (Some k, s) → (v : Option (json.Json × List Token)) → json.value depth s ≡ v
          → json.members (json.value depth) (suc n) (t ∷ ts) ≡ json.members (json.value depth) (suc m) (t ∷ ts)
      with_key again k s e None f = members_fail (json.value depth) (suc n) k (t ∷ ts) s e f ∙ sym (members_fail (json.value depth) (suc m) k (t ∷ ts) s e f)
      with_key again k s e (Some (j, r)) f =
          let less = shorter s j r f in
          let key = read_key-shorter (t ∷ ts) (Some k) s e in
          next_members n k (t ∷ ts) s r j e f ∙ ap (parse_map (json.member k j)) (again r (omega (arith, less, key, a)) (omega (arith, less, key, b)))
          ∙ sym (next_members m k (t ∷ ts) s r j e f)

      turn : ((r : List Token) → length r ≤ n → length r ≤ m → json.members (json.value depth) n r ≡ json.members (json.value depth) m r)
          → (o : Option (Option (List ℕ) × List Token)) → read_key (t ∷ ts) ≡ o
          → json.members (json.value depth) (suc n) (t ∷ ts) ≡ json.members (json.value depth) (suc m) (t ∷ ts)
      turn again None e = members_no_key (json.value depth) (suc n) (t ∷ ts) e ∙ sym (members_no_key (json.value depth) (suc m) (t ∷ ts) e)
      turn again (Some (None, s)) e = members_end (json.value depth) (suc n) (t ∷ ts) s a e ∙ sym (members_end (json.value depth) (suc m) (t ∷ ts) s b e)
      turn again (Some (Some k, s)) e = with_key again k s e (json.value depth s) refl

-- ---- arrays

pub array_at : (depth : ℕ) (ts : List Token) → 0 < depth → tree_at depth (Token.begin_array ∷ ts) ≡ parse_map array (items_at (depth - 1) ts)
array_at depth ts some =
    ap (converted of_json) (value-begin_array depth ts some) ∙ converted_array (json.items (json.value (depth - 1)) (length ts) ts)

pub end_of_items : (depth : ℕ) (ts rest : List Token) → after_end_array ts ≡ Some rest → items_at depth ts ≡ Some (no_items, rest)
end_of_items depth ts rest e = ap (converted of_items) (items_end (json.value depth) (length ts) ts rest (omega arith) e)

pub more_items : (depth : ℕ) (ts : List Token) (d : Data) (rest : List Token) → tree_at depth ts ≡ Some (d, rest)
    → items_at depth ts ≡ parse_map (item d) (items_at depth rest)
more_items depth ts d rest e =
    let p = found of_json (json.value depth ts) d rest e in
    let less = shorter depth ts p.0 rest p.1 in
    ap (converted of_items) (items_more (json.value depth) (length ts) ts rest p.0 (omega (arith, less)) (no_end depth ts (p.0, rest) p.1) p.1)
    ∙ ap (λ r. converted of_items (parse_map (json.item p.0) r)) (items_enough depth (length ts - 1) (length rest) rest (omega (arith, less)) (omega arith))
    ∙ converted_item p.0 d (json.items (json.value depth) (length rest) rest) p.2

-- ---- objects

pub object_at : (depth : ℕ) (ts : List Token) → 0 < depth → tree_at depth (Token.begin_object ∷ ts) ≡ parse_map object (members_at (depth - 1) no_members ts)
object_at depth ts some =
    ap (converted of_json) (value-begin_object depth ts some) ∙ converted_object (json.members (json.value (depth - 1)) (length ts) ts)

pub end_of_members : (depth : ℕ) (before : Members) (ts rest : List Token) → read_key ts ≡ Some (None, rest) → members_at depth before ts ≡ Some (before, rest)
end_of_members depth before ts rest e = ap (converted (λ ms. of_members ms before)) (members_end (json.value depth) (length ts) ts rest (omega arith) e)

pub more_members : (depth : ℕ) (before : Members) (k : List ℕ) (ts s : List Token) (d : Data) (rest : List Token) → read_key ts ≡ Some (Some k, s) → tree_at depth s ≡ Some (d, rest)
    → members_at depth before ts ≡ members_at depth (put k d before) rest
more_members depth before k ts s d rest key e =
    let p = found of_json (json.value depth s) d rest e in
    let less = shorter depth s p.0 rest p.1 in
    let first = read_key-shorter ts (Some k) s key in
    ap (converted (λ ms. of_members ms before)) (members_more (json.value depth) (length ts) k ts s rest p.0 (omega (arith, first)) key p.1)
    ∙ ap (λ r. converted (λ ms. of_members ms before) (parse_map (json.member k p.0) r)) (members_enough depth (length ts - 1) (length rest) rest (omega (arith, less, first)) (omega arith))
    ∙ converted_member k p.0 d before (json.members (json.value depth) (length rest) rest) p.2
