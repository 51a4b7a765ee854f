-- Lists of items: the tags and the lists of a partition are functions of one list of tags' numbers with contents.
use Rattle.std.proofs.Common.{◌≡◌, ℕ, zero, suc, ◌+◌, ◌-◌, ◌<◌, ◌≤◌, Bool, true, false, List, [], ◌∷◌, ◌++◌, length, map, take, drop, get_or, set, Some, refl, ap, sym, ◌∙◌, arith}
use Rattle.std.specs.Prelude.{nat_eq, if◌then◌else◌, cond}
use Rattle.std.proofs.lemmas.Bool.{eqb-true}
use Rattle.std.proofs.lemmas.List.{map-append, length-map, take_at}
use Rattle.doc_values.specs.Documents.{DocTree}
use Rattle.tag_seq.specs.Tags.{count, rank, place}
use Rattle.tag_seq.proofs.Sides.{get_here, set_here as set_at}
use Rattle.texts.proofs.Tests.{not_zero, nat_eq-refl}

-- ---- parts of lists

-- a list with an item at a place
pub record IsSplit {A : Type 0} (xs : List A) (p : ℕ) : Type 0 where
  pub before : List A
  pub here : A
  pub after : List A
  pub is : xs ≡ before ++ here ∷ after
  pub long : length before ≡ p

pub split_at : {A : Type 0} (xs : List A) (p : ℕ) → p < length xs → IsSplit xs p
split_at [] p h = absurd (omega arith)
split_at (x ∷ xs) zero h = record { before = []; here = x; after = xs; is = refl; long = refl }
split_at (x ∷ xs) (suc p) h =
    let s = split_at xs p (omega arith) in
    record { before = x ∷ s.before; here = s.here; after = s.after; is = ap (λ z. x ∷ z) s.is; long = ap suc s.long }

-- a list cut at a place
pub record IsCut {A : Type 0} (xs : List A) (p : ℕ) : Type 0 where
  pub before : List A
  pub after : List A
  pub is : xs ≡ before ++ after
  pub long : length before ≡ p

pub cut_at : {A : Type 0} (xs : List A) (p : ℕ) → p ≤ length xs → IsCut xs p
cut_at xs zero h = record { before = []; after = xs; is = refl; long = refl }
cut_at [] (suc p) h = absurd (omega arith)
cut_at (x ∷ xs) (suc p) h =
    let s = cut_at xs p (omega arith) in
    record { before = x ∷ s.before; after = s.after; is = ap (λ z. x ∷ z) s.is; long = ap suc s.long }

-- two parts are the same where the wholes and the lengths of the first parts are
pub parts_same : {A : Type 0} (us bs cs ds : List A) → us ++ bs ≡ cs ++ ds → length us ≡ length cs → (us ≡ cs) × (bs ≡ ds)
parts_same [] bs [] ds e n = (refl, e)
parts_same [] bs (c ∷ cs) ds e n = absurd (omega arith)
parts_same (a ∷ us) bs [] ds e n = absurd (omega arith)
parts_same (a ∷ us) bs (c ∷ cs) ds e n =
    let first : a ≡ c = cc in
    let rest : us ++ bs ≡ cs ++ ds = cc in
    let more = parts_same us bs cs ds rest (omega arith) in
    (let p = more.0 in cc, more.1)

-- what stands at the place, what is left without it, and what is set there
pub here_is : {A : Type 0} (us : List A) (x : A) (bs : List A) (d : A) → get_or (us ++ x ∷ bs) (length us) d ≡ x
here_is us x bs d = get_here us bs x (length us) d refl

pub without_here : {A : Type 0} (us : List A) (x : A) (bs : List A) → take (length us) (us ++ x ∷ bs) ++ drop (suc (length us)) (us ++ x ∷ bs) ≡ us ++ bs
without_here [] x bs = refl
without_here (a ∷ us) x bs = ap (λ z. a ∷ z) (without_here us x bs)

pub set_here : {A : Type 0} (us : List A) (x : A) (bs : List A) (y : A) → set (us ++ x ∷ bs) (length us) y ≡ us ++ y ∷ bs
set_here us x bs y = set_at us bs x (length us) y refl

pub put_here : {A : Type 0} (us bs : List A) (x : A) → take (length us) (us ++ bs) ++ x ∷ drop (length us) (us ++ bs) ≡ us ++ x ∷ bs
put_here [] bs x = refl
put_here (a ∷ us) bs x = ap (λ z. a ∷ z) (put_here us bs x)

-- ---- items

-- a tag's number and a content
abbrev pub Item : Type 0
Item = ℕ × DocTree

abbrev pub tag_of : Item → ℕ
tag_of p = p.0

abbrev pub tags_of : List Item → List ℕ
tags_of ps = map tag_of ps

-- the contents of the items with this tag, in order
abbrev pub contents_at : ℕ → List Item → List DocTree
contents_at k [] = []
contents_at k (p ∷ ps) = if nat_eq p.0 k then p.1 ∷ contents_at k ps else contents_at k ps

pub contents-append : (k : ℕ) (ps qs : List Item) → contents_at k (ps ++ qs) ≡ contents_at k ps ++ contents_at k qs
contents-append k [] qs = refl
contents-append k (p ∷ ps) qs = go (nat_eq p.0 k) (contents-append k ps qs)
  where
    go : (b : Bool) → contents_at k (ps ++ qs) ≡ contents_at k ps ++ contents_at k qs → cond b (p.1 ∷ contents_at k (ps ++ qs)) (contents_at k (ps ++ qs)) ≡ cond b (p.1 ∷ contents_at k ps) (contents_at k ps) ++ contents_at k qs
    go true e = ap (λ z. p.1 ∷ z) e
    go false e = e

pub length-contents : (k : ℕ) (ps : List Item) → length (contents_at k ps) ≡ count k (tags_of ps)
length-contents k [] = refl
length-contents k (p ∷ ps) = go (nat_eq p.0 k) (length-contents k ps)
  where
    go : (b : Bool) → length (contents_at k ps) ≡ count k (tags_of ps) → length (cond b (p.1 ∷ contents_at k ps) (contents_at k ps)) ≡ cond b 1 0 + count k (tags_of ps)
    go true e = omega arith
    go false e = omega arith

-- an item with the tag, and one with another tag
pub contents-here : (t : ℕ) (v : DocTree) (us bs : List Item) → contents_at t (us ++ (t, v) ∷ bs) ≡ contents_at t us ++ v ∷ contents_at t bs
contents-here t v us bs = contents-append t us ((t, v) ∷ bs) ∙ ap (λ z. contents_at t us ++ cond z (v ∷ contents_at t bs) (contents_at t bs)) (nat_eq-refl t)

pub contents-off : (k t : ℕ) (v : DocTree) (us bs : List Item) → nat_eq t k ≡ false → contents_at k (us ++ (t, v) ∷ bs) ≡ contents_at k (us ++ bs)
contents-off k t v us bs e =
    contents-append k us ((t, v) ∷ bs) ∙ (ap (λ z. contents_at k us ++ cond z (v ∷ contents_at k bs) (contents_at k bs)) e ∙ sym (contents-append k us bs))

-- the rank of a tag at the end of a first part
pub rank-part : (k : ℕ) (us bs : List Item) → rank k (length us) (tags_of (us ++ bs)) ≡ length (contents_at k us)
rank-part k us bs =
    ap (λ z. count k (take (length us) z)) (map-append tag_of us bs)
    ∙ (ap (count k) (take_at (tags_of us) (tags_of bs) (length us) (length-map us tag_of)) ∙ sym (length-contents k us))

pub tag-part : (t : ℕ) (v : DocTree) (us bs : List Item) → get_or (tags_of (us ++ (t, v) ∷ bs)) (length us) 0 ≡ t
tag-part t v [] bs = refl
tag-part t v (a ∷ us) bs = tag-part t v us bs

-- ---- the item of an occurrence

pub record IsOccurrence (t q : ℕ) (ps : List Item) : Type 0 where
  pub before : List Item
  pub content : DocTree
  pub after : List Item
  pub is : ps ≡ before ++ (t, content) ∷ after
  pub long : length (contents_at t before) ≡ q
  pub placed : place t q (tags_of ps) ≡ Some (length before)

occurrence_first : (t q : ℕ) (p : Item) (ps : List Item) → nat_eq p.0 t ≡ true → nat_eq q 0 ≡ true → IsOccurrence t q (p ∷ ps)
occurrence_first t q p ps e f =
    let same : p.0 ≡ t = eqb-true p.0 t e in
    let none : q ≡ 0 = eqb-true q 0 f in
    record { before = []; content = p.1; after = ps; is = ap (λ z. (z, p.1) ∷ ps) same; long = sym none; placed = rw (e, f) refl }

occurrence_later : (t q : ℕ) (p : Item) (ps : List Item) → nat_eq p.0 t ≡ true → nat_eq q 0 ≡ false → 0 < q → IsOccurrence t (q - 1) ps → IsOccurrence t q (p ∷ ps)
occurrence_later t q p ps e f some r = record {
  before = p ∷ r.before;
  content = r.content;
  after = r.after;
  is = ap (λ z. p ∷ z) r.is;
  long = ap length (ap (λ z. cond z (p.1 ∷ contents_at t r.before) (contents_at t r.before)) e) ∙ (ap suc r.long ∙ omega arith);
  placed = rw (e, f, r.placed) (ap Some (omega arith));
}

occurrence_other : (t q : ℕ) (p : Item) (ps : List Item) → nat_eq p.0 t ≡ false → IsOccurrence t q ps → IsOccurrence t q (p ∷ ps)
occurrence_other t q p ps e r = record {
  before = p ∷ r.before;
  content = r.content;
  after = r.after;
  is = ap (λ z. p ∷ z) r.is;
  long = ap length (ap (λ z. cond z (p.1 ∷ contents_at t r.before) (contents_at t r.before)) e) ∙ r.long;
  placed = rw (e, r.placed) (ap Some (omega arith));
}

pub occurrence : (t q : ℕ) (ps : List Item) → q < length (contents_at t ps) → IsOccurrence t q ps
occurrence t q [] h = absurd (omega arith)
occurrence t q (p ∷ ps) h = go (nat_eq p.0 t) (nat_eq q 0) refl refl h (λ l. occurrence t q ps l) (λ l. occurrence t (q - 1) ps l)
  where
    go : (b c : Bool) → nat_eq p.0 t ≡ b → nat_eq q 0 ≡ c → q < length (cond b (p.1 ∷ contents_at t ps) (contents_at t ps))
        → (q < length (contents_at t ps) → IsOccurrence t q ps) → (q - 1 < length (contents_at t ps) → IsOccurrence t (q - 1) ps) → IsOccurrence t q (p ∷ ps)
    go true true e f l other more = occurrence_first t q p ps e f
    go true false e f l other more = let some = not_zero q f in occurrence_later t q p ps e f some (more (omega arith))
    go false c e f l other more = occurrence_other t q p ps e (other l)
