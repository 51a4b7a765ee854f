-- Runs are cut where one of the texts is.
use Rattle.std.proofs.Common.{◌≡◌, ℕ, ◌+◌, ◌-◌, ◌≤◌, Bool, true, false, List, [], ◌∷◌, ◌++◌, length, take, drop, refl, sym, ap, ◌∙◌, arith}
use Rattle.std.specs.Prelude.{nat_eq, nat_le}
use Rattle.std.proofs.lemmas.Bool.Decides.{nat_tests}
use Rattle.std.proofs.lemmas.List.{length-append, length-take-le, length-drop, append_assoc, append-nil, take-append-drop}
use Rattle.bridge_texts.specs.declared.run.Run.{Run}
use Rattle.bridge_texts.specs.declared.run.Run.TheVariants.{Kept, Added, Gone}
use Rattle.bridge_texts.specs.declared.run.End.{End}
use Rattle.bridge_texts.specs.declared.run.End.TheVariants.{Near, Far}
use Rattle.bridge_texts.specs.Runs.{size_at, of_size, less_by, cut_at, cut}
use Rattle.bridge_texts.specs.Spans.{Covers, Spans, text_at}

-- both texts are cut, the one at e behind n characters; the first runs cover what is in front, the others span the rest
pub record IsCut (e : End) (n : ℕ) (fs bs : List Run) (s t : List ℕ) : Type 0 where
  pub near_front : List ℕ
  pub near_back : List ℕ
  pub far_front : List ℕ
  pub far_back : List ℕ
  pub near_is : s ≡ near_front ++ near_back
  pub far_is : t ≡ far_front ++ far_back
  pub size_is : length (text_at e near_front far_front) ≡ n
  pub front : Covers fs near_front far_front
  pub back : Spans bs near_back far_back

-- ---- runs of one piece

pub covers-kept : (x : List ℕ) (n : ℕ) → length x ≡ n → Covers (Kept n ∷ []) x x
covers-kept x n h = record { part = x; near = []; far = []; size = h; near_is = sym (append-nil x); far_is = sym (append-nil x); goes_on = (refl, refl) }

pub covers-added : (x : List ℕ) (n : ℕ) → length x ≡ n → Covers (Added n ∷ []) [] x
covers-added x n h = record { part = x; far = []; size = h; far_is = sym (append-nil x); goes_on = (refl, refl) }

pub covers-gone : (x : List ℕ) (n : ℕ) → length x ≡ n → Covers (Gone n ∷ []) x []
covers-gone x n h = record { part = x; near = []; size = h; near_is = sym (append-nil x); goes_on = (refl, refl) }

-- ---- lengths

same-end : (e : End) (x : List ℕ) → text_at e x x ≡ x
same-end Near x = refl
same-end Far x = refl

size-behind : (e : End) (part a b s t : List ℕ) → s ≡ part ++ a → t ≡ part ++ b → length (text_at e s t) ≡ length part + length (text_at e a b)
size-behind Near part a b s t p q = ap length p ∙ length-append part a
size-behind Far part a b s t p q = ap length q ∙ length-append part b

parted : (x u v w s : List ℕ) → s ≡ x ++ u → u ≡ v ++ w → s ≡ (x ++ v) ++ w
parted x u v w s p q = p ∙ (ap (λ (l : List ℕ). x ++ l) q ∙ sym (append_assoc x v w))

split : (n : ℕ) (x u s : List ℕ) → s ≡ x ++ u → s ≡ take n x ++ (drop n x ++ u)
split n x u s p = p ∙ (ap (λ (l : List ℕ). l ++ u) (sym (take-append-drop n x)) ∙ append_assoc (take n x) (drop n x) u)

-- ---- a run that is passed

keeps-passed : (e : End) (m n : ℕ) (fs bs : List Run) (s t part near far : List ℕ) → length part ≡ m → s ≡ part ++ near → t ≡ part ++ far → m ≤ n
    → IsCut e (n - m) fs bs near far → IsCut e n (Kept m ∷ fs) bs s t
keeps-passed e m n fs bs s t part near far size p q le d =
    record {
      near_front = part ++ d.near_front;
      near_back = d.near_back;
      far_front = part ++ d.far_front;
      far_back = d.far_back;
      near_is = parted part near d.near_front d.near_back s p d.near_is;
      far_is = parted part far d.far_front d.far_back t q d.far_is;
      size_is = let l = size-behind e part d.near_front d.far_front (part ++ d.near_front) (part ++ d.far_front) refl refl in let k = d.size_is in omega arith;
      front = record { part = part; near = d.near_front; far = d.far_front; size = size; near_is = refl; far_is = refl; goes_on = d.front };
      back = d.back;
    }

adds-passed-near : (m n : ℕ) (fs bs : List Run) (s t part far : List ℕ) → length part ≡ m → t ≡ part ++ far → IsCut Near (n - 0) fs bs s far → IsCut Near n (Added m ∷ fs) bs s t
adds-passed-near m n fs bs s t part far size q d =
    record {
      near_front = d.near_front;
      near_back = d.near_back;
      far_front = part ++ d.far_front;
      far_back = d.far_back;
      near_is = d.near_is;
      far_is = parted part far d.far_front d.far_back t q d.far_is;
      size_is = let k = d.size_is in omega arith;
      front = record { part = part; far = d.far_front; size = size; far_is = refl; goes_on = d.front };
      back = d.back;
    }

adds-passed-far : (m n : ℕ) (fs bs : List Run) (s t part far : List ℕ) → length part ≡ m → t ≡ part ++ far → m ≤ n → IsCut Far (n - m) fs bs s far → IsCut Far n (Added m ∷ fs) bs s t
adds-passed-far m n fs bs s t part far size q le d =
    record {
      near_front = d.near_front;
      near_back = d.near_back;
      far_front = part ++ d.far_front;
      far_back = d.far_back;
      near_is = d.near_is;
      far_is = parted part far d.far_front d.far_back t q d.far_is;
      size_is = let l = length-append part d.far_front in let k = d.size_is in omega arith;
      front = record { part = part; far = d.far_front; size = size; far_is = refl; goes_on = d.front };
      back = d.back;
    }

gone-passed-near : (m n : ℕ) (fs bs : List Run) (s t part near : List ℕ) → length part ≡ m → s ≡ part ++ near → m ≤ n → IsCut Near (n - m) fs bs near t → IsCut Near n (Gone m ∷ fs) bs s t
gone-passed-near m n fs bs s t part near size p le d =
    record {
      near_front = part ++ d.near_front;
      near_back = d.near_back;
      far_front = d.far_front;
      far_back = d.far_back;
      near_is = parted part near d.near_front d.near_back s p d.near_is;
      far_is = d.far_is;
      size_is = let l = length-append part d.near_front in let k = d.size_is in omega arith;
      front = record { part = part; near = d.near_front; size = size; near_is = refl; goes_on = d.front };
      back = d.back;
    }

gone-passed-far : (m n : ℕ) (fs bs : List Run) (s t part near : List ℕ) → length part ≡ m → s ≡ part ++ near → IsCut Far (n - 0) fs bs near t → IsCut Far n (Gone m ∷ fs) bs s t
gone-passed-far m n fs bs s t part near size p d =
    record {
      near_front = part ++ d.near_front;
      near_back = d.near_back;
      far_front = d.far_front;
      far_back = d.far_back;
      near_is = parted part near d.near_front d.near_back s p d.near_is;
      far_is = d.far_is;
      size_is = let k = d.size_is in omega arith;
      front = record { part = part; near = d.near_front; size = size; near_is = refl; goes_on = d.front };
      back = d.back;
    }

passed : (e : End) (r : Run) (rs : List Run) (n : ℕ) (fs bs : List Run) (s t : List ℕ) → nat_le (size_at e r) n ≡ true → Spans (r ∷ rs) s t → n ≤ length (text_at e s t)
    → ((u v : List ℕ) → Spans rs u v → n - size_at e r ≤ length (text_at e u v) → IsCut e (n - size_at e r) fs bs u v) → IsCut e n (r ∷ fs) bs s t
passed Near (Kept m) rs n fs bs s t le h room deeper =
    let small : m ≤ n = grind (arith, nat_tests) in
    let l = size-behind Near h.part h.near h.far s t h.near_is h.far_is in
    let k = h.size in
    keeps-passed Near m n fs bs s t h.part h.near h.far h.size h.near_is h.far_is small (deeper h.near h.far h.goes_on (omega arith))
passed Far (Kept m) rs n fs bs s t le h room deeper =
    let small : m ≤ n = grind (arith, nat_tests) in
    let l = size-behind Far h.part h.near h.far s t h.near_is h.far_is in
    let k = h.size in
    keeps-passed Far m n fs bs s t h.part h.near h.far h.size h.near_is h.far_is small (deeper h.near h.far h.goes_on (omega arith))
passed Near (Added m) rs n fs bs s t le h room deeper =
    adds-passed-near m n fs bs s t h.part h.far h.size h.far_is (deeper s h.far h.goes_on (omega arith))
passed Far (Added m) rs n fs bs s t le h room deeper =
    let small : m ≤ n = grind (arith, nat_tests) in
    let l = ap length h.far_is ∙ length-append h.part h.far in
    let k = h.size in
    adds-passed-far m n fs bs s t h.part h.far h.size h.far_is small (deeper s h.far h.goes_on (omega arith))
passed Near (Gone m) rs n fs bs s t le h room deeper =
    let small : m ≤ n = grind (arith, nat_tests) in
    let l = ap length h.near_is ∙ length-append h.part h.near in
    let k = h.size in
    gone-passed-near m n fs bs s t h.part h.near h.size h.near_is small (deeper h.near t h.goes_on (omega arith))
passed Far (Gone m) rs n fs bs s t le h room deeper =
    gone-passed-far m n fs bs s t h.part h.near h.size h.near_is (deeper h.near t h.goes_on (omega arith))

-- ---- a run that is cut

keeps-cut : (e : End) (m n : ℕ) (rs : List Run) (s t part near far : List ℕ) → length part ≡ m → s ≡ part ++ near → t ≡ part ++ far → n ≤ m
    → Spans rs near far → IsCut e n (Kept n ∷ []) (Kept (m - n) ∷ rs) s t
keeps-cut e m n rs s t part near far size p q le go =
    record {
      near_front = take n part;
      near_back = drop n part ++ near;
      far_front = take n part;
      far_back = drop n part ++ far;
      near_is = split n part near s p;
      far_is = split n part far t q;
      size_is = ap length (same-end e (take n part)) ∙ length-take-le n part (omega arith);
      front = covers-kept (take n part) n (length-take-le n part (omega arith));
      back = record { part = drop n part; near = near; far = far; size = length-drop n part ∙ ap (λ (l : ℕ). l - n) size; near_is = refl; far_is = refl; goes_on = go };
    }

adds-cut : (m n : ℕ) (rs : List Run) (s t part far : List ℕ) → length part ≡ m → t ≡ part ++ far → n ≤ m → Spans rs s far → IsCut Far n (Added n ∷ []) (Added (m - n) ∷ rs) s t
adds-cut m n rs s t part far size q le go =
    record {
      near_front = [];
      near_back = s;
      far_front = take n part;
      far_back = drop n part ++ far;
      near_is = refl;
      far_is = split n part far t q;
      size_is = length-take-le n part (omega arith);
      front = covers-added (take n part) n (length-take-le n part (omega arith));
      back = record { part = drop n part; far = far; size = length-drop n part ∙ ap (λ (l : ℕ). l - n) size; far_is = refl; goes_on = go };
    }

gone-cut : (m n : ℕ) (rs : List Run) (s t part near : List ℕ) → length part ≡ m → s ≡ part ++ near → n ≤ m → Spans rs near t → IsCut Near n (Gone n ∷ []) (Gone (m - n) ∷ rs) s t
gone-cut m n rs s t part near size p le go =
    record {
      near_front = take n part;
      near_back = drop n part ++ near;
      far_front = [];
      far_back = t;
      near_is = split n part near s p;
      far_is = refl;
      size_is = length-take-le n part (omega arith);
      front = covers-gone (take n part) n (length-take-le n part (omega arith));
      back = record { part = drop n part; near = near; size = length-drop n part ∙ ap (λ (l : ℕ). l - n) size; near_is = refl; goes_on = go };
    }

inside : (e : End) (r : Run) (rs : List Run) (n : ℕ) (s t : List ℕ) → nat_le (size_at e r) n ≡ false → Spans (r ∷ rs) s t → IsCut e n (of_size n r ∷ []) (less_by n r ∷ rs) s t
inside Near (Kept m) rs n s t le h = keeps-cut Near m n rs s t h.part h.near h.far h.size h.near_is h.far_is (grind (arith, nat_tests)) h.goes_on
inside Far (Kept m) rs n s t le h = keeps-cut Far m n rs s t h.part h.near h.far h.size h.near_is h.far_is (grind (arith, nat_tests)) h.goes_on
inside Near (Added m) rs n s t le h = absurd (grind (arith, nat_tests))
inside Far (Added m) rs n s t le h = adds-cut m n rs s t h.part h.far h.size h.far_is (grind (arith, nat_tests)) h.goes_on
inside Near (Gone m) rs n s t le h = gone-cut m n rs s t h.part h.near h.size h.near_is (grind (arith, nat_tests)) h.goes_on
inside Far (Gone m) rs n s t le h = absurd (grind (arith, nat_tests))

-- ---- the cut

nothing-in-front : (e : End) (n : ℕ) (rs : List Run) (s t : List ℕ) → nat_eq n 0 ≡ true → Spans rs s t → IsCut e n [] rs s t
nothing-in-front e n rs s t z h =
    let zero-is : 0 ≡ n = grind (arith, nat_tests) in
    record {
      near_front = [];
      near_back = s;
      far_front = [];
      far_back = t;
      near_is = refl;
      far_is = refl;
      size_is = ap length (same-end e []) ∙ zero-is;
      front = (refl, refl);
      back = h;
    }

cut-run : (e : End) (r : Run) (rs : List Run) (n : ℕ) (s t : List ℕ) (parts : List Run × List Run) (b1 b2 : Bool) → nat_eq n 0 ≡ b1 → nat_le (size_at e r) n ≡ b2 → Spans (r ∷ rs) s t
    → n ≤ length (text_at e s t)
    → ((u v : List ℕ) → Spans rs u v → n - size_at e r ≤ length (text_at e u v) → IsCut e (n - size_at e r) parts.0 parts.1 u v)
    → IsCut e n (cut_at b1 b2 n r rs parts).0 (cut_at b1 b2 n r rs parts).1 s t
cut-run e r rs n s t parts true b2 z le h room deeper = nothing-in-front e n (r ∷ rs) s t z h
cut-run e r rs n s t parts false true z le h room deeper = passed e r rs n parts.0 parts.1 s t le h room deeper
cut-run e r rs n s t parts false false z le h room deeper = inside e r rs n s t le h

behind-all : (e : End) (n : ℕ) (s t : List ℕ) → s ≡ t → n ≤ length s → IsCut e n (Kept n ∷ []) [] s t
behind-all e n s t same room =
    record {
      near_front = take n s;
      near_back = drop n s;
      far_front = take n s;
      far_back = drop n s;
      near_is = sym (take-append-drop n s);
      far_is = sym same ∙ sym (take-append-drop n s);
      size_is = ap length (same-end e (take n s)) ∙ length-take-le n s room;
      front = covers-kept (take n s) n (length-take-le n s room);
      back = refl;
    }

room-near : (e : End) (n : ℕ) (s t : List ℕ) → s ≡ t → n ≤ length (text_at e s t) → n ≤ length s
room-near Near n s t same room = room
room-near Far n s t same room = let l = ap length same in omega arith

-- the parts of a cut cover what is in front of the place, and span what is behind it
pub cut-is : (e : End) (rs : List Run) (n : ℕ) (s t : List ℕ) → Spans rs s t → n ≤ length (text_at e s t) → IsCut e n (cut e rs n).0 (cut e rs n).1 s t
cut-is e [] n s t h room = behind-all e n s t h (room-near e n s t h room)
cut-is e (r ∷ rs) n s t h room =
    cut-run e r rs n s t (cut e rs (n - size_at e r)) (nat_eq n 0) (nat_le (size_at e r) n) refl refl h room (λ u v k l. cut-is e rs (n - size_at e r) u v k l)
