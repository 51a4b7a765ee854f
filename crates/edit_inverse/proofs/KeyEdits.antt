-- Edits of keyed maps that take one another back.
use Rattle.std.proofs.Common.{◌≡◌, ℕ, ◌+◌, ◌<◌, suc, zero, Bool, true, false, List, [], ◌∷◌, length, map, get_or, Option, Some, None, Ok, refl, sym, ap, ◌∙◌, subst, arith}
use Rattle.std.specs.Prelude.{if◌then◌else◌, bytes_eq}
use Rattle.std.specs.List.{insert, remove}
use Rattle.std.proofs.lemmas.List.Edits.{get_or-insert_at, length-insert, length-remove}
use Rattle.hold_shapes.specs.declared.shape.Shape.{Shape}
use Rattle.hold_shapes.specs.declared.shape.Shape.TheVariants.{Keyed as KeyedOf}
use Rattle.hold_shapes.specs.declared.origins.Origin.{Origin}
use Rattle.hold_shapes.specs.declared.origins.Origin.TheVariants.{Old}
use Rattle.hold_shapes.specs.declared.edit.ShapeEdit.TheVariants.{PutKey, DropKey, RenameKey}
use Rattle.hold_shapes.specs.Gather.{content_at}
use Rattle.hold_shapes.specs.Plans.{plan, old_places, put_key, drop_key, rename_to, rename_key}
use Rattle.texts.specs.Keys.{is_rising, all_after, is_before, key_rank, key_from, key_place}
use Rattle.texts.proofs.KeyOrder.{bytes_eq-refl, rising-first, rising-rest, rising-insert, rising-remove, after-all, after-tail, before-differs, after-differs, rank-length, key_place-found, key_place-remove, rank-none}
use Rattle.law_shapes.proofs.Lawful.{key-within}
use Rattle.law_shapes.proofs.Content.{content-old_places, key-found}
use Rattle.law_shapes.proofs.Content.{map-insert, content-remove}
use Rattle.edit_inverse.proofs.Moves.{Makes}
use Rattle.edit_inverse.proofs.Fills.{put-makes}
use Rattle.edit_inverse.proofs.Items.{made-same, back-through, remove-inserted-item, insert-removed-item}
use Rattle.texts.proofs.Tests.{bytes_eq-is}

-- ---- a key and its place

-- a key is there, and has this name
pub key-named : (k : List ℕ) (ks : List (List ℕ)) (p : ℕ) → key_place k ks ≡ Some p → (p < length ks) × (get_or ks p [] ≡ k)
key-named k ks p h =
    let within = key-within 0 p k ks h in
    let n : p ≡ 0 + p = omega arith in
    let P : ℕ → Type 0 = λ j. key_from 0 k ks ≡ Some j in
    (omega arith, key-found 0 p k ks (subst P n h))

-- ---- a key taken out

none-after : (at : ℕ) (k : List ℕ) (ks : List (List ℕ)) → all_after k ks ≡ true → is_rising ks ≡ true → key_from at k ks ≡ None
none-after at k [] h r = refl
none-after at k (m ∷ ms) h r = rw (before-differs k m h) (none-after (at + 1) k ms (after-tail k m ms h (rising-first m ms r)) (rising-rest m ms r))

gone-from : (at : ℕ) (k : List ℕ) (ks : List (List ℕ)) (p : ℕ) → is_rising ks ≡ true → p < length ks → get_or ks p [] ≡ k → key_from at k (remove ks p) ≡ None
gone-from at k [] p r h e = absurd (omega arith)
gone-from at k (m ∷ ms) zero r h e =
    let P : List ℕ → Type 0 = λ n. all_after n ms ≡ true in
    none-after at k ms (subst P e (rising-first m ms r)) (rising-rest m ms r)
gone-from at k (m ∷ ms) (suc p) r h e =
    let within : p < length ms = omega arith in
    let P : List ℕ → Type 0 = λ n. is_before m n ≡ true in
    let less : is_before m k ≡ true = subst P e (after-all m ms p [] (rising-first m ms r) (rising-rest m ms r) within) in
    rw (after-differs k m less) (gone-from (at + 1) k ms p (rising-rest m ms r) within e)

-- its rank among the others is the place that it had
rank-home : (k : List ℕ) (ks : List (List ℕ)) (p : ℕ) → is_rising ks ≡ true → p < length ks → get_or ks p [] ≡ k → key_rank k (remove ks p) ≡ p
rank-home k [] p r h e = absurd (omega arith)
rank-home k (m ∷ ms) zero r h e =
    let P : List ℕ → Type 0 = λ n. all_after n ms ≡ true in
    rank-none k ms (subst P e (rising-first m ms r)) (rising-rest m ms r)
rank-home k (m ∷ ms) (suc p) r h e =
    let within : p < length ms = omega arith in
    let P : List ℕ → Type 0 = λ n. is_before m n ≡ true in
    let less : is_before m k ≡ true = subst P e (after-all m ms p [] (rising-first m ms r) (rising-rest m ms r) within) in
    rw less (ap suc (rank-home k ms p (rising-rest m ms r) within e))

pub key-gone : (k : List ℕ) (ks : List (List ℕ)) (p : ℕ) → is_rising ks ≡ true → key_place k ks ≡ Some p → key_place k (remove ks p) ≡ None
key-gone k ks p r h = let w = key-named k ks p h in gone-from 0 k ks p r w.0 w.1

pub key-home : (k : List ℕ) (ks : List (List ℕ)) (p : ℕ) → is_rising ks ≡ true → key_place k ks ≡ Some p → (key_rank k (remove ks p) ≡ p) × (insert (remove ks p) p k ≡ ks)
key-home k ks p r h =
    let w = key-named k ks p h in
    (rank-home k ks p r w.0 w.1, ap (λ (n : List ℕ). insert (remove ks p) p n) (sym w.1) ∙ insert-removed-item ks p [] w.0)

-- ---- a key put in

key-put : (k : List ℕ) (ks : List (List ℕ)) → is_rising ks ≡ true → key_place k ks ≡ None → key_place k (insert ks (key_rank k ks) k) ≡ Some (key_rank k ks)
key-put k ks r h =
    let room = rank-length k ks in
    let long = length-insert ks (key_rank k ks) k room in
    let P : List ℕ → Type 0 = λ n. bytes_eq k n ≡ true in
    key_place-found k [] (insert ks (key_rank k ks) k) (key_rank k ks) (rising-insert k ks r h) (omega arith) (subst P (sym (get_or-insert_at ks (key_rank k ks) k [] room)) (bytes_eq-refl k))

none-step : (b : Bool) (at : ℕ) (o : Option ℕ) → (if b then Some at else o) ≡ None → (b ≡ false) × (o ≡ None)
none-step true at o h = cc
none-step false at o h = (refl, h)

-- another key is not found where it was not
still-none : (at : ℕ) (k m : List ℕ) (ks : List (List ℕ)) (i : ℕ) → key_from at k ks ≡ None → bytes_eq k m ≡ false → key_from at k (insert ks i m) ≡ None
still-none at k m [] zero h e = rw e refl
still-none at k m [] (suc i) h e = rw e refl
still-none at k m (x ∷ xs) zero h e =
    let w = none-step (bytes_eq k x) at (key_from (at + 1) k xs) h in
    rw (e, w.0) (later (at + 1) (at + 1 + 1) k xs w.1)
  where
    step : (b : Bool) (at at' : ℕ) (o o' : Option ℕ) → (if b then Some at else o) ≡ None → (o ≡ None → o' ≡ None) → (if b then Some at' else o') ≡ None
    step true at at' o o' h f = cc
    step false at at' o o' h f = f h

    later : (at at' : ℕ) (k : List ℕ) (ks : List (List ℕ)) → key_from at k ks ≡ None → key_from at' k ks ≡ None
    later at at' k [] h = refl
    later at at' k (y ∷ ys) h = step (bytes_eq k y) at at' (key_from (at + 1) k ys) (key_from (at' + 1) k ys) h (λ e. later (at + 1) (at' + 1) k ys e)
still-none at k m (x ∷ xs) (suc i) h e =
    let w = none-step (bytes_eq k x) at (key_from (at + 1) k xs) h in
    rw w.0 (still-none (at + 1) k m xs i w.1 e)

-- ---- the edits

-- what a plan says of its look-ups
put-ok : (ks : List (List ℕ)) (k : List ℕ) (o : Option ℕ) (r : Shape × List Origin) → put_key ks k o ≡ Ok r → o ≡ None
put-ok ks k (Some p) r e = cc
put-ok ks k None r e = refl

drop-ok : (ks : List (List ℕ)) (o : Option ℕ) (r : Shape × List Origin) → drop_key ks o ≡ Ok r → (p : ℕ) × (o ≡ Some p)
drop-ok ks None r e = cc
drop-ok ks (Some p) r e = (p, refl)

pub drop-makes : {X : Type 0} (ks : List (List ℕ)) (k : List ℕ) (p : ℕ) (fresh : X) (xs : List X) → key_place k ks ≡ Some p → length ks ≡ length xs
    → Makes (KeyedOf ks) (DropKey k) fresh xs (KeyedOf (remove ks p)) (remove xs p)
drop-makes ks k p fresh xs h e = (remove (old_places (length ks)) p, ap (λ (o : Option ℕ). drop_key ks o) h, sym (content-remove _ fresh xs (length ks) p e))

-- a key that was put in is dropped
pub put-back-key : {X : Type 0} (ks : List (List ℕ)) (k : List ℕ) (s : Shape) (from : List Origin) (fresh : X) (xs : List X) → is_rising ks ≡ true → length ks ≡ length xs
    → plan (KeyedOf ks) (PutKey k) ≡ Ok (s, from) → Makes s (DropKey k) fresh (map (content_at xs fresh) from) (KeyedOf ks) xs
put-back-key ks k s from fresh xs r e h =
    let none = put-ok ks k (key_place k ks) (s, from) h in
    let i = key_rank k ks in
    let room = rank-length k ks in
    let there = put-makes ks k fresh xs none e in
    let new = insert ks i k in
    let ys = insert xs i fresh in
    let l1 = length-insert ks i k room in
    let l2 = length-insert xs i fresh (omega arith) in
    let back = drop-makes new k i fresh ys (key-put k ks r none) (omega arith) in
    let P : List (List ℕ) → List _ → Type 0 = λ l ws. Makes (KeyedOf new) (DropKey k) fresh ys (KeyedOf l) ws in
    let got : P ks xs = subst (λ (ws : List _). P ks ws) (remove-inserted-item xs i fresh (omega arith)) (subst (λ (l : List (List ℕ)). P l (remove ys i)) (remove-inserted-item ks i k room) back) in
    back-through (KeyedOf ks) (PutKey k) (DropKey k) (KeyedOf new) s from fresh xs ys there h got

-- what a dropped key leaves, and that putting it in again makes a fresh content at its place
pub drop-back-key : {X : Type 0} (ks : List (List ℕ)) (k : List ℕ) (s : Shape) (from : List Origin) (fresh : X) (xs : List X) → is_rising ks ≡ true → length ks ≡ length xs
    → plan (KeyedOf ks) (DropKey k) ≡ Ok (s, from)
    → (p : ℕ) × (key_place k ks ≡ Some p) × (p < length xs) × Makes s (PutKey k) fresh (map (content_at xs fresh) from) (KeyedOf ks) (insert (remove xs p) p fresh)
drop-back-key ks k s from fresh xs r e h =
    let w = drop-ok ks (key_place k ks) (s, from) h in
    let p = w.0 in
    let named = key-named k ks p w.1 in
    let there = drop-makes ks k p fresh xs w.1 e in
    let m = made-same (KeyedOf ks) (DropKey k) (KeyedOf (remove ks p)) s from fresh xs (remove xs p) there h in
    let l1 = length-remove ks p named.0 in
    let l2 = length-remove xs p (let x : p < length ks = named.0 in omega arith) in
    let back = put-makes (remove ks p) k fresh (remove xs p) (key-gone k ks p r w.1) (omega arith) in
    let home = key-home k ks p r w.1 in
    let P : Shape → List _ → List (List ℕ) → List _ → Type 0 = λ a zs l ws. Makes a (PutKey k) fresh zs (KeyedOf l) ws in
    let rest = remove ks p in
    let got : P (KeyedOf rest) (remove xs p) (insert rest p k) (insert (remove xs p) p fresh) =
    subst (λ (i : ℕ). P (KeyedOf rest) (remove xs p) (insert rest i k) (insert (remove xs p) i fresh)) home.0 back in
    let full : P (KeyedOf rest) (remove xs p) ks (insert (remove xs p) p fresh) = subst (λ (l : List (List ℕ)). P (KeyedOf rest) (remove xs p) l (insert (remove xs p) p fresh)) home.1 got in (
      p,
      w.1,
      (let x : p < length ks = named.0 in omega arith),
      subst (λ (a : Shape). P a (map (content_at xs fresh) from) ks (insert (remove xs p) p fresh)) m.0 (subst (λ (zs : List _). P (KeyedOf rest) zs ks (insert (remove xs p) p fresh)) m.1 full),
    )

-- ---- rename

rename-makes : {X : Type 0} (ks : List (List ℕ)) (k m : List ℕ) (p : ℕ) (fresh : X) (xs : List X) → key_place k ks ≡ Some p → bytes_eq k m ≡ false → key_place m ks ≡ None → length ks ≡ length xs
    → Makes (KeyedOf ks) (RenameKey k m) fresh xs (KeyedOf (insert (remove ks p) (key_rank m (remove ks p)) m)) (insert (remove xs p) (key_rank m (remove ks p)) (get_or xs p fresh))
rename-makes ks k m p fresh xs h n o e =
    let i = key_rank m (remove ks p) in
    let from = insert (remove (old_places (length ks)) p) i (Old p) in (
      from,
      ap (λ (r : Option ℕ). rename_key ks k m r) h
          ∙ (ap (λ (b : Bool). if b then Ok (KeyedOf ks, old_places (length ks)) else rename_to ks m p (key_place m ks)) n
          ∙ ap (λ (r : Option ℕ). rename_to ks m p r) o),
      map-insert Origin _ (content_at xs fresh) (remove (old_places (length ks)) p) i (Old p) ∙ ap (λ (l : List _). insert l i (get_or xs p fresh)) (sym (content-remove _ fresh xs (length ks) p e)),
    )

same-makes : {X : Type 0} (ks : List (List ℕ)) (k m : List ℕ) (p : ℕ) (fresh : X) (xs : List X) → key_place k ks ≡ Some p → bytes_eq k m ≡ true → length ks ≡ length xs
    → Makes (KeyedOf ks) (RenameKey k m) fresh xs (KeyedOf ks) xs
same-makes ks k m p fresh xs h n e = (
  old_places (length ks),
  ap (λ (r : Option ℕ). rename_key ks k m r) h ∙ ap (λ (b : Bool). if b then Ok (KeyedOf ks, old_places (length ks)) else rename_to ks m p (key_place m ks)) n,
  content-old_places _ fresh xs (length ks) e,
)

rename-ok : (ks : List (List ℕ)) (k m : List ℕ) (o : Option ℕ) (r : Shape × List Origin) → rename_key ks k m o ≡ Ok r
    → (p : ℕ) × (o ≡ Some p) × ((if bytes_eq k m then Ok (KeyedOf ks, old_places (length ks)) else rename_to ks m p (key_place m ks)) ≡ Ok r)
rename-ok ks k m None r e = cc
rename-ok ks k m (Some p) r e = (p, refl, e)

absent-ok : (ks : List (List ℕ)) (m : List ℕ) (p : ℕ) (o : Option ℕ) (r : Shape × List Origin) → rename_to ks m p o ≡ Ok r → o ≡ None
absent-ok ks m p (Some q) r e = cc
absent-ok ks m p None r e = refl

differs-too : (k m : List ℕ) (b : Bool) → bytes_eq k m ≡ false → bytes_eq m k ≡ b → b ≡ false
differs-too k m true h e =
    let P : List ℕ → Type 0 = λ n. bytes_eq n m ≡ false in
    let x : bytes_eq m m ≡ false = subst P (sym (bytes_eq-is m k e)) h in
    let y = bytes_eq-refl m in
    let z : true ≡ false = sym y ∙ x in z
differs-too k m false h e = refl

-- a key with another name gets its name back
renamed-back : {X : Type 0} (ks : List (List ℕ)) (k m : List ℕ) (p : ℕ) (fresh : X) (xs : List X) → is_rising ks ≡ true → length ks ≡ length xs → key_place k ks ≡ Some p → bytes_eq k m ≡ false → key_place m ks ≡ None
    → Makes (KeyedOf (insert (remove ks p) (key_rank m (remove ks p)) m)) (RenameKey m k) fresh (insert (remove xs p) (key_rank m (remove ks p)) (get_or xs p fresh)) (KeyedOf ks) xs
renamed-back ks k m p fresh xs r e h n o =
    let named = key-named k ks p h in
    let within : p < length ks = named.0 in
    let rest = remove ks p in
    let xrest = remove xs p in
    let rests = rising-remove ks p r in
    let gone = key_place-remove m ks p o in
    let i = key_rank m rest in
    let room = rank-length m rest in
    let x = get_or xs p fresh in
    let new = insert rest i m in
    let ys = insert xrest i x in
    let l1 = length-remove ks p within in
    let l2 = length-remove xs p (omega arith) in
    let l3 = length-insert rest i m room in
    let l4 = length-insert xrest i x (omega arith) in
    let back = rename-makes new m k i fresh ys (key-put m rest rests gone) (differs-too k m (bytes_eq m k) n refl) (still-none 0 k m rest i (key-gone k ks p r h) n) (omega arith) in
    let home = key-home k ks p r h in
    let left : remove new i ≡ rest = remove-inserted-item rest i m room in
    let xleft : remove ys i ≡ xrest = remove-inserted-item xrest i x (omega arith) in
    let names : insert (remove new i) (key_rank k (remove new i)) k ≡ ks =
    ap (λ (l : List (List ℕ)). insert l (key_rank k l) k) left ∙ (ap (λ (j : ℕ). insert rest j k) home.0 ∙ home.1) in
    let items : insert (remove ys i) (key_rank k (remove new i)) (get_or ys i fresh) ≡ xs =
    ap (λ (l : List _). insert l (key_rank k (remove new i)) (get_or ys i fresh)) xleft
    ∙ (ap (λ (l : List (List ℕ)). insert xrest (key_rank k l) (get_or ys i fresh)) left
    ∙ (ap (λ (j : ℕ). insert xrest j (get_or ys i fresh)) home.0
    ∙ (ap (λ (y : _). insert xrest p y) (get_or-insert_at xrest i x fresh (omega arith))
    ∙ insert-removed-item xs p fresh (omega arith)))) in
    let P : List (List ℕ) → List _ → Type 0 = λ l ws. Makes (KeyedOf new) (RenameKey m k) fresh ys (KeyedOf l) ws in
    subst (λ (ws : List _). P ks ws) items (subst (λ (l : List (List ℕ)). P l (insert (remove ys i) (key_rank k (remove new i)) (get_or ys i fresh))) names back)

pub rename-back-key : {X : Type 0} (ks : List (List ℕ)) (k m : List ℕ) (s : Shape) (from : List Origin) (fresh : X) (xs : List X) → is_rising ks ≡ true → length ks ≡ length xs
    → plan (KeyedOf ks) (RenameKey k m) ≡ Ok (s, from) → Makes s (RenameKey m k) fresh (map (content_at xs fresh) from) (KeyedOf ks) xs
rename-back-key ks k m s from fresh xs r e h =
    let w = rename-ok ks k m (key_place k ks) (s, from) h in
    go (bytes_eq k m) refl w.0 w.1 w.2
  where
    go : (b : Bool) → bytes_eq k m ≡ b → (p : ℕ) → key_place k ks ≡ Some p → (if b then Ok (KeyedOf ks, old_places (length ks)) else rename_to ks m p (key_place m ks)) ≡ Ok (s, from)
        → Makes s (RenameKey m k) fresh (map (content_at xs fresh) from) (KeyedOf ks) xs
    go true n p at q =
        let one : k ≡ m = bytes_eq-is k m n in
        let P : List ℕ → Type 0 = λ l. key_place l ks ≡ Some p in
        let turn : bytes_eq m k ≡ true = let R : List ℕ → Type 0 = λ l. bytes_eq l k ≡ true in subst R one (bytes_eq-refl k) in
        back-through (KeyedOf ks) (RenameKey k m) (RenameKey m k) (KeyedOf ks) s from fresh xs xs (same-makes ks k m p fresh xs at n e) h (same-makes ks m k p fresh xs (subst P one at) turn e)
    go false n p at q =
        let none = absent-ok ks m p (key_place m ks) (s, from) q in
        back-through (KeyedOf ks) (RenameKey k m) (RenameKey m k) (KeyedOf (insert (remove ks p) (key_rank m (remove ks p)) m)) s from fresh xs (insert (remove xs p) (key_rank m (remove ks p)) (get_or xs p fresh))
        (rename-makes ks k m p fresh xs at n none e) h (renamed-back ks k m p fresh xs r e at n none)
