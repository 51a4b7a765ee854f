-- Arrays of counts, item by item.
use Rattle.std.proofs.Math.Seq.{drop-cons}
use Rattle.std.proofs.lemmas.List.{drop_all}
use Rattle.std.proofs.Common.{◌≡◌, ℕ, suc, ◌+◌, add-one, ◌<◌, ◌≤◌, List, [], ◌∷◌, ◌++◌, append-nil, append_assoc, drop, length, get_or, Option, Some, None, option_map, refl, sym, ap, ◌∙◌}
use Rattle.serde_json.specs.Data.{Data, Items, item}
use Rattle.serde_json.specs.View.{view, items_view}
use Rattle.serde_json.specs.declared.value.Value.{Value}
use Rattle.value_json.specs.Numbers.{count_of, counts_of}

-- what is left begins with the item at the index
pub left_items : (vs : List Value) (i : ℕ) (v : Value) → i < length vs → v ≡ get_or vs i v → drop i vs ≡ v ∷ drop (i + 1) vs
left_items vs i v within is = rw (add-one, drop-cons vs i v within) (ap (λ x. x ∷ drop (suc i) vs) (sym is))

map_push : (ns : List ℕ) (n : ℕ) (o : Option (List ℕ)) → option_map (λ ms. ns ++ ms) (option_map (λ ms. n ∷ ms) o) ≡ option_map (λ ms. (ns ++ n ∷ []) ++ ms) o
map_push ns n None = refl
map_push ns n (Some ms) = ap Some (sym (append_assoc ns (n ∷ []) ms))

-- one more item is one more count
pub one_more_count : (ns : List ℕ) (n : ℕ) (d : Data) (ds : Items) → Some n ≡ count_of d → option_map (λ ms. ns ++ ms) (counts_of (item d ds)) ≡ option_map (λ ms. (ns ++ n ∷ []) ++ ms) (counts_of ds)
one_more_count ns n d ds h = rw (← h) (map_push ns n (counts_of ds))

pub left_one_more : (vs : List Value) (i : ℕ) (v : Value) (ns : List ℕ) (n : ℕ) → i < length vs → v ≡ get_or vs i v → Some n ≡ count_of (view v)
    → option_map (λ ms. ns ++ ms) (counts_of (items_view (drop i vs))) ≡ option_map (λ ms. (ns ++ n ∷ []) ++ ms) (counts_of (items_view (drop (i + 1) vs)))
left_one_more vs i v ns n within is h = ap (λ xs. option_map (λ ms. ns ++ ms) (counts_of (items_view xs))) (left_items vs i v within is) ∙ one_more_count ns n (view v) (items_view (drop (i + 1) vs)) h

one_refused : (ns : List ℕ) (d : Data) (ds : Items) → None ≡ count_of d → option_map (λ ms. ns ++ ms) (counts_of (item d ds)) ≡ None
one_refused ns d ds h = rw (← h) refl

pub left_refused : (vs : List Value) (i : ℕ) (v : Value) (ns : List ℕ) → i < length vs → v ≡ get_or vs i v → None ≡ count_of (view v)
    → option_map (λ ms. ns ++ ms) (counts_of (items_view (drop i vs))) ≡ None
left_refused vs i v ns within is h = ap (λ xs. option_map (λ ms. ns ++ ms) (counts_of (items_view xs))) (left_items vs i v within is) ∙ one_refused ns (view v) (items_view (drop (i + 1) vs)) h

pub none_left : (vs : List Value) (i : ℕ) (ns : List ℕ) → length vs ≤ i → option_map (λ ms. ns ++ ms) (counts_of (items_view (drop i vs))) ≡ Some ns
none_left vs i ns past = ap (λ xs. option_map (λ ms. ns ++ ms) (counts_of (items_view xs))) (drop_all i vs past) ∙ ap Some (append-nil ns)
