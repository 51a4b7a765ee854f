-- The views after a word of the hub, one after another, and around the view that was edited.
use Rattle.std.proofs.Common.{◌≡◌, ℕ, zero, suc, ◌+◌, ◌<◌, List, [], ◌∷◌, ◌++◌, append_assoc, ◌≤◌, get_or, length, map, take, drop, slice_get, Option, None, Some, true, refl, sym, ap, ◌∙◌, subst, arith, ◌-◌}
use Rattle.std.specs.Prelude.{option_map, option_and_then}
use Rattle.std.proofs.Math.Seq.{take-suc, take-length}
use Rattle.std.proofs.lemmas.List.{map-append, take-map, drop-map, length-map}
use Rattle.std.proofs.lemmas.Option.{slice_get_within, slice_get_read, slice_get-map, get_or_from_slice_get}
use Rattle.doc_values.specs.Typing.{has}
use Rattle.edit_module.specs.Words.{WordTree}
use Rattle.lens_core.specs.declared.lens.EditLens as OfLens
use Rattle.view_hub.specs.Hubs.{ViewTree, lower, lower_all, lower_others}
use Rattle.view_hub.specs.Lowering.{IsLowered, CanLower, Adds}
use Rattle.hold_shapes.proofs.SharedItems.{take-end}

-- one more item of a list
pub one_more : {A : Type 0} (xs : List A) (i : ℕ) (x : A) → slice_get xs i ≡ Some x → take (i + 1) xs ≡ take i xs ++ x ∷ []
one_more xs i x at =
    let next : i + 1 ≡ suc i = omega arith in
    ap (λ k. take k xs) next ∙ take-suc xs i x (slice_get_within xs i x at) ∙ ap (λ y. take i xs ++ y ∷ []) (get_or_from_slice_get xs i x x at)

module _ {L : Type 0} (lens : OfLens.Ghosts L) where
  abbrev Results : Type 0
  Results = List (ViewTree × WordTree)

  abbrev Lower_all : WordTree → List L → List ViewTree → Option Results
  Lower_all = lower_all lens

  abbrev Can : WordTree → List L → List ViewTree → Type 0
  Can = CanLower lens

  -- ---- which views a word is carried to

  pub can_length : (w : WordTree) (ls : List L) (vs : List ViewTree) → Can w ls vs → length ls ≡ length vs
  can_length w [] [] can = refl
  can_length w [] (v ∷ vs) can = absurd can
  can_length w (l ∷ ls) [] can = absurd can
  can_length w (l ∷ ls) (v ∷ vs) can = ap suc (can_length w ls vs can.2)

  pub can_at : (w : WordTree) (ls : List L) (vs : List ViewTree) (k : ℕ) (l : L) (v : ViewTree) → Can w ls vs → slice_get ls k ≡ Some l → slice_get vs k ≡ Some v
      → (has (lens.right_type l) v.doc ≡ true) × IsLowered (lower lens l w v)
  can_at w [] [] k l v can lens_at view = absurd cc
  can_at w [] (u ∷ vs) k l v can lens_at view = absurd can
  can_at w (m ∷ ls) [] k l v can lens_at view = absurd can
  can_at w (m ∷ ls) (u ∷ vs) zero l v can lens_at view =
      let same_lens : m ≡ l = cc in
      let same_view : u ≡ v = cc in
      subst (λ l. (has (lens.right_type l) v.doc ≡ true) × IsLowered (lower lens l w v)) same_lens
      (subst (λ (v : ViewTree). (has (lens.right_type m) v.doc ≡ true) × IsLowered (lower lens m w v)) same_view (can.0, can.1))
  can_at w (m ∷ ls) (u ∷ vs) (suc k) l v can lens_at view = can_at w ls vs k l v can.2 lens_at view

  pub can_take : (w : WordTree) (ls : List L) (vs : List ViewTree) (k : ℕ) → Can w ls vs → Can w (take k ls) (take k vs)
  can_take w ls vs zero can = tt
  can_take w [] [] (suc k) can = tt
  can_take w [] (v ∷ vs) (suc k) can = absurd can
  can_take w (l ∷ ls) [] (suc k) can = absurd can
  can_take w (l ∷ ls) (v ∷ vs) (suc k) can = (can.0, can.1, can_take w ls vs k can.2)

  pub can_drop : (w : WordTree) (ls : List L) (vs : List ViewTree) (k : ℕ) → Can w ls vs → Can w (drop k ls) (drop k vs)
  can_drop w ls vs zero can = can
  can_drop w [] [] (suc k) can = tt
  can_drop w [] (v ∷ vs) (suc k) can = absurd can
  can_drop w (l ∷ ls) [] (suc k) can = absurd can
  can_drop w (l ∷ ls) (v ∷ vs) (suc k) can = can_drop w ls vs k can.2

  -- ---- one view more

  lower_snoc-at : (w : WordTree) (l : L) (v : ViewTree) (r : ViewTree × WordTree) (o : Option (ViewTree × WordTree)) (a b : Option Results) (rs : Results)
      → ((qs : Results) → a ≡ Some qs → b ≡ Some (qs ++ r ∷ []))
      → option_and_then (λ q. option_map (λ qs. q ∷ qs) a) o ≡ Some rs → option_and_then (λ q. option_map (λ qs. q ∷ qs) b) o ≡ Some (rs ++ r ∷ [])
  lower_snoc-at w l v r None a b rs more is = cc
  lower_snoc-at w l v r (Some q) None b rs more is = cc
  lower_snoc-at w l v r (Some q) (Some qs) b rs more is =
      let same : q ∷ qs ≡ rs = cc in
      let longer = more qs refl in
      rw longer (ap (λ rs. Some (rs ++ r ∷ [])) same)

  lower_snoc : (w : WordTree) (ls : List L) (vs : List ViewTree) (l : L) (v : ViewTree) (rs : Results) (r : ViewTree × WordTree)
      → Lower_all w ls vs ≡ Some rs → lower lens l w v ≡ Some r → Lower_all w (ls ++ l ∷ []) (vs ++ v ∷ []) ≡ Some (rs ++ r ∷ [])
  lower_snoc w [] [] l v rs r is one =
      let none : [] ≡ rs = cc in
      rw one (ap (λ rs. Some (rs ++ r ∷ [])) none)
  lower_snoc w [] (u ∷ vs) l v rs r is one = cc
  lower_snoc w (m ∷ ls) [] l v rs r is one = cc
  lower_snoc w (m ∷ ls) (u ∷ vs) l v rs r is one =
      lower_snoc-at w l v r (lower lens m w u) (Lower_all w ls vs) (Lower_all w (ls ++ l ∷ []) (vs ++ v ∷ [])) rs
      (λ qs some. lower_snoc w ls vs l v qs r some one) is

  -- the next view was lowered
  pub adds-more : (w : WordTree) (ls : List L) (us : List ViewTree) (k : ℕ) (l : L) (u : ViewTree) (vs : List ViewTree) (ws : List WordTree) (vs' : List ViewTree) (ws' : List WordTree)
      (v : ViewTree) (x : WordTree) → slice_get ls k ≡ Some l → slice_get us k ≡ Some u → lower lens l w u ≡ Some (v, x)
      → Adds (Lower_all w (take k ls) (take k us)) vs ws vs' ws' → Adds (Lower_all w (take (k + 1) ls) (take (k + 1) us)) vs ws (vs' ++ v ∷ []) (ws' ++ x ∷ [])
  adds-more w ls us k l u vs ws vs' ws' v x lens_at view one adds =
      record {
        results = adds.results ++ (v, x) ∷ [];
        is = rw (one_more ls k l lens_at, one_more us k u view) (lower_snoc w (take k ls) (take k us) l u adds.results (v, x) adds.is one);
        views_are = ap (λ vs. vs ++ v ∷ []) adds.views_are ∙ append_assoc vs (map (λ r. r.0) adds.results) (v ∷ []) ∙ ap (λ rs. vs ++ rs) (sym (map-append (λ r. r.0) adds.results ((v, x) ∷ [])));
        words_are = ap (λ ws. ws ++ x ∷ []) adds.words_are ∙ append_assoc ws (map (λ r. r.1) adds.results) (x ∷ []) ∙ ap (λ rs. ws ++ rs) (sym (map-append (λ r. r.1) adds.results ((v, x) ∷ [])));
      }

  -- all views were lowered
  pub adds-all : (w : WordTree) (ls : List L) (us : List ViewTree) (k : ℕ) (vs : List ViewTree) (ws : List WordTree) (vs' : List ViewTree) (ws' : List WordTree)
      → length ls ≡ k → length us ≡ k → Adds (Lower_all w (take k ls) (take k us)) vs ws vs' ws' → Adds (Lower_all w ls us) vs ws vs' ws'
  adds-all w ls us k vs ws vs' ws' lenses views adds =
      let all_lenses : take k ls ≡ ls = ap (λ k. take k ls) (sym lenses) ∙ take-length ls in
      let all_views : take k us ≡ us = ap (λ k. take k us) (sym views) ∙ take-length us in
      subst (λ ls. Adds (Lower_all w ls us) vs ws vs' ws') all_lenses (subst (λ us. Adds (Lower_all w (take k ls) us) vs ws vs' ws') all_views adds)

  -- ---- around the edited view

  around-at : (own : ViewTree × WordTree) (o : Option (ViewTree × WordTree)) (a b : Option Results) (firsts lasts : Results)
      → ((qs : Results) → a ≡ Some qs → b ≡ Some (qs ++ own ∷ lasts))
      → option_and_then (λ q. option_map (λ qs. q ∷ qs) a) o ≡ Some firsts → option_and_then (λ q. option_map (λ qs. q ∷ qs) b) o ≡ Some (firsts ++ own ∷ lasts)
  around-at own None a b firsts lasts more is = cc
  around-at own (Some q) None b firsts lasts more is = cc
  around-at own (Some q) (Some qs) b firsts lasts more is =
      let same : q ∷ qs ≡ firsts = cc in
      let longer = more qs refl in
      rw longer (ap (λ firsts. Some (firsts ++ own ∷ lasts)) same)

  around : (w : WordTree) (own : ViewTree × WordTree) (k : ℕ) (ls : List L) (vs : List ViewTree) (firsts lasts : Results) → k < length ls → k < length vs
      → Lower_all w (take k ls) (take k vs) ≡ Some firsts → Lower_all w (drop (suc k) ls) (drop (suc k) vs) ≡ Some lasts
      → lower_others lens w own k ls vs ≡ Some (firsts ++ own ∷ lasts)
  around w own k [] vs firsts lasts lens_at view before behind = absurd (omega arith)
  around w own k (l ∷ ls) [] firsts lasts lens_at view before behind = absurd (omega arith)
  around w own zero (l ∷ ls) (v ∷ vs) firsts lasts lens_at view before behind =
      let none : [] ≡ firsts = cc in
      rw behind (ap (λ firsts. Some (firsts ++ own ∷ lasts)) none)
  around w own (suc k) (l ∷ ls) (v ∷ vs) firsts lasts lens_at view before behind =
      around-at own (lower lens l w v) (Lower_all w (take k ls) (take k vs)) (lower_others lens w own k ls vs) firsts lasts
      (λ qs some. around w own k ls vs qs lasts (omega arith) (omega arith) some behind) before

  pub adds-around : (w : WordTree) (v : ViewTree) (x : WordTree) (k : ℕ) (ls : List L) (us : List ViewTree) (vs : List ViewTree) (ws : List WordTree) (vs' : List ViewTree) (ws' : List WordTree)
      → k < length ls → k < length us → Adds (Lower_all w (take k ls) (take k us)) [] [] vs ws
      → Adds (Lower_all w (drop (k + 1) ls) (drop (k + 1) us)) (vs ++ v ∷ []) (ws ++ x ∷ []) vs' ws'
      → Adds (lower_others lens w (v, x) k ls us) [] [] vs' ws'
  adds-around w v x k ls us vs ws vs' ws' lens_at view before behind =
      let next : k + 1 ≡ suc k = omega arith in
      record {
        results = before.results ++ (v, x) ∷ behind.results;
        is = around w (v, x) k ls us before.results behind.results lens_at view before.is (ap (λ n. Lower_all w (drop n ls) (drop n us)) (sym next) ∙ behind.is);
        views_are = behind.views_are ∙ append_assoc vs (v ∷ []) (map (λ r. r.0) behind.results) ∙ ap (λ vs. vs ++ v ∷ map (λ r. r.0) behind.results) before.views_are
            ∙ sym (map-append (λ r. r.0) before.results ((v, x) ∷ behind.results));
        words_are = behind.words_are ∙ append_assoc ws (x ∷ []) (map (λ r. r.1) behind.results) ∙ ap (λ ws. ws ++ x ∷ map (λ r. r.1) behind.results) before.words_are
            ∙ sym (map-append (λ r. r.1) before.results ((v, x) ∷ behind.results));
      }

  -- ---- the same of views, of which these are the trees

  module _ {V W : Type 0} (f : V → ViewTree) (g : W → WordTree) where
    pub can_before : (w : WordTree) (ls : List L) (xs : List V) (k : ℕ) → Can w ls (map f xs) → Can w (take k ls) (map f (take k xs))
    can_before w ls xs k can = subst (λ us. Can w (take k ls) us) (take-map f k xs) (can_take w ls (map f xs) k can)

    pub can_behind : (w : WordTree) (ls : List L) (xs : List V) (k : ℕ) → Can w ls (map f xs) → Can w (take (length ls - k) (drop k ls)) (map f (take (length xs - k) (drop k xs)))
    can_behind w ls xs k can =
        subst (λ ls. Can w ls (map f (take (length xs - k) (drop k xs)))) (sym (take-end ls k))
        (subst (λ us. Can w (drop k ls) us) (drop-map f k xs ∙ ap (map f) (sym (take-end xs k))) (can_drop w ls (map f xs) k can))

    mapped-snoc : {A B : Type 0} (h : A → B) (xs ys : List A) (x : A) → ys ≡ xs ++ x ∷ [] → map h ys ≡ map h xs ++ h x ∷ []
    mapped-snoc h xs ys x is = ap (map h) is ∙ map-append h xs (x ∷ [])

    pub adds-others : (w : WordTree) (ls : List L) (xs : List V) (k : ℕ) (own : V) (word : W) (none before pushed : List V) (no_words words longer : List W) (vs : List ViewTree) (ws : List WordTree)
        → k < length ls → k < length xs → none ≡ [] → no_words ≡ [] → pushed ≡ before ++ own ∷ [] → longer ≡ words ++ word ∷ []
        → Adds (Lower_all w (take k ls) (map f (take k xs))) (map f none) (map g no_words) (map f before) (map g words)
        → Adds (Lower_all w (take (length ls - (k + 1)) (drop (k + 1) ls)) (map f (take (length xs - (k + 1)) (drop (k + 1) xs)))) (map f pushed) (map g longer) vs ws
        → Adds (lower_others lens w (f own, g word) k ls (map f xs)) [] [] vs ws
    adds-others w ls xs k own word none before pushed no_words words longer vs ws lens_at view no_views no_word push push_word first last =
        let first_views = subst (λ us. Adds (Lower_all w (take k ls) us) (map f none) (map g no_words) (map f before) (map g words)) (sym (take-map f k xs)) first in
        let first_none = subst (λ vs. Adds (Lower_all w (take k ls) (take k (map f xs))) vs (map g no_words) (map f before) (map g words)) (ap (map f) no_views) first_views in
        let first_all = subst (λ ws. Adds (Lower_all w (take k ls) (take k (map f xs))) [] ws (map f before) (map g words)) (ap (map g) no_word) first_none in
        let last_lenses = subst (λ ls. Adds (Lower_all w ls (map f (take (length xs - (k + 1)) (drop (k + 1) xs)))) (map f pushed) (map g longer) vs ws) (take-end ls (k + 1)) last in
        let last_views = subst (λ us. Adds (Lower_all w (drop (k + 1) ls) us) (map f pushed) (map g longer) vs ws) (ap (map f) (take-end xs (k + 1)) ∙ sym (drop-map f (k + 1) xs)) last_lenses in
        let last_pushed = subst (λ us. Adds (Lower_all w (drop (k + 1) ls) (drop (k + 1) (map f xs))) us (map g longer) vs ws) (mapped-snoc f before pushed own push) last_views in
        let last_all = subst (λ us. Adds (Lower_all w (drop (k + 1) ls) (drop (k + 1) (map f xs))) (map f before ++ f own ∷ []) us vs ws) (mapped-snoc g words longer word push_word) last_pushed in
        adds-around w (f own) (g word) k ls (map f xs) (map f before) (map g words) vs ws lens_at (subst (λ n. k < n) (sym (length-map xs f)) view) first_all last_all

    -- the view and the lens at a place that was read
    pub lens_read : (w : WordTree) (ls : List L) (xs : List V) (k : ℕ) (l : L) → Can w ls (map f xs) → k < length xs → l ≡ get_or ls k l → slice_get ls k ≡ Some l
    lens_read w ls xs k l can within is = slice_get_read ls (length xs) k l (sym (can_length w ls (map f xs) can ∙ length-map xs f)) within is

    pub view_read : (xs : List V) (k : ℕ) (x : V) → k < length xs → x ≡ get_or xs k x → slice_get (map f xs) k ≡ Some (f x)
    view_read xs k x within is = slice_get-map f xs k ∙ ap (option_map f) (slice_get_read xs (length xs) k x refl within is)

    pub can_read : (w : WordTree) (ls : List L) (xs : List V) (k : ℕ) (l : L) (x : V) → Can w ls (map f xs) → k < length xs → l ≡ get_or ls k l → x ≡ get_or xs k x
        → (has (lens.right_type l) (f x).doc ≡ true) × IsLowered (lower lens l w (f x))
    can_read w ls xs k l x can within lens_at view = can_at w ls (map f xs) k l (f x) can (lens_read w ls xs k l can within lens_at) (view_read xs k x within view)

    pub adds-read : (w : WordTree) (ls : List L) (xs : List V) (k : ℕ) (l : L) (x : V) (vs : List ViewTree) (ws : List WordTree) (before pushed : List V) (words longer : List W) (own : V) (word : W)
        → Can w ls (map f xs) → k < length xs → l ≡ get_or ls k l → x ≡ get_or xs k x → lower lens l w (f x) ≡ Some (f own, g word)
        → pushed ≡ before ++ own ∷ [] → longer ≡ words ++ word ∷ []
        → Adds (Lower_all w (take k ls) (take k (map f xs))) vs ws (map f before) (map g words)
        → Adds (Lower_all w (take (k + 1) ls) (take (k + 1) (map f xs))) vs ws (map f pushed) (map g longer)
    adds-read w ls xs k l x vs ws before pushed words longer own word can within lens_at view lowers push push_word adds =
        let more = adds-more w ls (map f xs) k l (f x) vs ws (map f before) (map g words) (f own) (g word) (lens_read w ls xs k l can within lens_at) (view_read xs k x within view) lowers adds in
        let views = subst (λ us. Adds (Lower_all w (take (k + 1) ls) (take (k + 1) (map f xs))) vs ws us (map g words ++ g word ∷ [])) (sym (mapped-snoc f before pushed own push)) more in
        subst (λ us. Adds (Lower_all w (take (k + 1) ls) (take (k + 1) (map f xs))) vs ws (map f pushed) us) (sym (mapped-snoc g words longer word push_word)) views

    pub adds-end : (w : WordTree) (ls : List L) (xs : List V) (k : ℕ) (vs : List ViewTree) (ws : List WordTree) (vs' : List ViewTree) (ws' : List WordTree)
        → Can w ls (map f xs) → length xs ≤ k → k ≤ length xs → Adds (Lower_all w (take k ls) (take k (map f xs))) vs ws vs' ws' → Adds (Lower_all w ls (map f xs)) vs ws vs' ws'
    adds-end w ls xs k vs ws vs' ws' can past within adds =
        let all : length (map f xs) ≡ k = omega (arith, length-map xs f) in
        adds-all w ls (map f xs) k vs ws vs' ws' (can_length w ls (map f xs) can ∙ all) all adds

    pub lens_within : (w : WordTree) (ls : List L) (xs : List V) (k : ℕ) → Can w ls (map f xs) → k < length xs → k < length ls
    lens_within w ls xs k can within = subst (λ n. k < n) (sym (can_length w ls (map f xs) can ∙ length-map xs f)) within
