-- What the pieces of a carried splice do to the far text.
use Rattle.std.proofs.Common.{◌≡◌, ℕ, ◌+◌, Bool, true, false, ◌&&◌, List, [], ◌∷◌, ◌++◌, length, Option, Some, None, refl, sym, ap, ◌∙◌, subst, arith}
use Rattle.std.specs.Prelude.{nat_le, encode_utf8_all, if◌then◌else◌, option_and_then}
use Rattle.std.specs.Str.{chars, IsUtf8}
use Rattle.std.proofs.lemmas.Bool.Decides.{nat_tests}
use Rattle.std.proofs.lemmas.List.{length-append, append_assoc}
use Rattle.std.proofs.lemmas.Str.{chars-encodes, scalars-chars}
use Rattle.std.proofs.Math.Utf8.{scalar, scalars}
use Rattle.texts.specs.Characters.{character_count, splice}
use Rattle.texts.proofs.Conjunction.{both, first, second}
use Rattle.bridge_texts.specs.declared.run.Run.{Run}
use Rattle.bridge_texts.specs.declared.run.Run.TheVariants.{Kept, Added, Gone}
use Rattle.bridge_texts.specs.Runs.{Piece, is_nothing, piece, pieces, all_spliced, all_added}
use Rattle.bridge_texts.specs.Spans.{Covers, replaced}
use Rattle.bridge_texts.proofs.FarSplices.{replaced-is}

-- ---- one splice

and-assoc : (a b c : Bool) → (a && (b && c)) ≡ ((a && b) && c)
and-assoc true b c = refl
and-assoc false b c = refl

scalars-joined : (xs ys : List ℕ) → scalars (xs ++ ys) ≡ (scalars xs && scalars ys)
scalars-joined [] ys = refl
scalars-joined (x ∷ xs) ys = ap (λ (b : Bool). scalar x && b) (scalars-joined xs ys) ∙ and-assoc (scalar x) (scalars xs) (scalars ys)

-- the characters in the front part and those behind the middle one are characters still
scalars-around : (f d b x : List ℕ) → scalars (f ++ (d ++ b)) ≡ true → scalars x ≡ true → scalars (f ++ (x ++ b)) ≡ true
scalars-around f d b x h k =
    let whole : (scalars f && (scalars d && scalars b)) ≡ true = ap (λ (c : Bool). scalars f && c) (sym (scalars-joined d b)) ∙ (sym (scalars-joined f (d ++ b)) ∙ h) in
    let fronts = first (scalars f) (scalars d && scalars b) whole in
    let backs = second (scalars d) (scalars b) (second (scalars f) (scalars d && scalars b) whole) in
    scalars-joined f (x ++ b) ∙ both (scalars f) (scalars (x ++ b)) fronts (scalars-joined x b ∙ both (scalars x) (scalars b) k backs)

-- a text of this Option, with these characters
pub record IsText (found : Option (List ℕ)) (cs : List ℕ) : Type 0 where
  pub text : List ℕ
  pub found_is : found ≡ Some text
  pub utf8 : IsUtf8 text
  pub chars_are : chars text ≡ cs

pub splice-makes : (v x f d b : List ℕ) (i k : ℕ) → IsUtf8 v → IsUtf8 x → chars v ≡ f ++ (d ++ b) → length f ≡ i → length d ≡ k → IsText (splice v i k x) (f ++ (chars x ++ b))
splice-makes v x f d b i k p q parts size long =
    let cs = f ++ (chars x ++ b) in
    let l1 = ap length parts ∙ length-append f (d ++ b) in
    let l2 = length-append d b in
    let room : nat_le (i + k) (character_count v) ≡ true = grind (arith, nat_tests) in
    let made : replaced (chars v) i k (chars x) ≡ cs = replaced-is (chars v) f d b (chars x) i k parts size long in
    let good : scalars cs ≡ true = scalars-around f d b (chars x) (ap scalars (sym parts) ∙ scalars-chars v p) (scalars-chars x q) in
    record {
      text = encode_utf8_all cs;
      found_is = ap (λ (c : Bool). if c then Some (encode_utf8_all (replaced (chars v) i k (chars x))) else None) room ∙ ap (λ (l : List ℕ). Some (encode_utf8_all l)) made;
      utf8 = (cs, (good, refl));
      chars_are = chars-encodes cs good;
    }

-- ---- splices, one after another

behind-first : (ps qs : List Piece) (u cs : List ℕ) (o : Option (List ℕ)) → ((w : List ℕ) → all_spliced ps w ≡ Some u → IsText (all_spliced (ps ++ qs) w) cs)
    → option_and_then (all_spliced ps) o ≡ Some u → IsText (option_and_then (all_spliced (ps ++ qs)) o) cs
behind-first ps qs u cs None go g = absurd cc
behind-first ps qs u cs (Some w) go g = go w g

pub spliced-append : (ps qs : List Piece) (v u : List ℕ) (cs : List ℕ) → all_spliced ps v ≡ Some u → IsText (all_spliced qs u) cs → IsText (all_spliced (ps ++ qs) v) cs
spliced-append [] qs v u cs h k =
    let same : v ≡ u = cc in
    subst (λ (l : List ℕ). IsText (all_spliced qs l) cs) (sym same) k
spliced-append (p ∷ ps) qs v u cs h k = behind-first ps qs u cs (splice v p.0 p.1 p.2) (λ w g. spliced-append ps qs w u cs g k) h

-- one piece, or none
is-empty : (d : List ℕ) → length d ≡ 0 → d ≡ []
is-empty [] h = refl
is-empty (c ∷ cs) h = absurd (omega arith)

piece-or-none : (b : Bool) (at k : ℕ) (x v f d r : List ℕ) → is_nothing k x ≡ b → IsUtf8 v → IsUtf8 x → chars v ≡ f ++ (d ++ r) → length f ≡ at → length d ≡ k
    → IsText (all_spliced (if b then [] else (at, k, x) ∷ []) v) (f ++ (chars x ++ r))
piece-or-none false at k x v f d r h p q parts size long =
    let w = splice-makes v x f d r at k p q parts size long in
    record { text = w.text; found_is = ap (λ (o : Option (List ℕ)). option_and_then (λ (u : List ℕ). Some u) o) w.found_is; utf8 = w.utf8; chars_are = w.chars_are }
piece-or-none true at k [] v f d r h p q parts size long =
    let zero-is : k ≡ 0 = grind (arith, nat_tests) in
    let gone : d ≡ [] = is-empty d (long ∙ zero-is) in
    record { text = v; found_is = refl; utf8 = p; chars_are = parts ∙ ap (λ (l : List ℕ). f ++ (l ++ r)) (gone ∙ sym (chars-encodes [] refl)) }
piece-or-none true at k (c ∷ x) v f d r h p q parts size long = absurd cc

pub piece-makes : (at k : ℕ) (x v f d r : List ℕ) → IsUtf8 v → IsUtf8 x → chars v ≡ f ++ (d ++ r) → length f ≡ at → length d ≡ k → IsText (all_spliced (piece at k x) v) (f ++ (chars x ++ r))
piece-makes at k x v f d r p q parts size long = piece-or-none (is_nothing k x) at k x v f d r refl p q parts size long

-- ---- all pieces

-- the far text afterwards: what it has added in the part stays behind the new characters
pub record IsCarried (rs : List Run) (found : Option (List ℕ)) (f x b : List ℕ) : Type 0 where
  pub stays : List ℕ
  pub added : Covers (all_added rs) [] stays
  pub made : IsText found (f ++ (x ++ (stays ++ b)))

regroup : (f d part far b : List ℕ) → f ++ (d ++ ((part ++ far) ++ b)) ≡ f ++ ((d ++ part) ++ (far ++ b))
regroup f d part far b =
    ap (λ (l : List ℕ). f ++ (d ++ l)) (append_assoc part far b) ∙ ap (λ (l : List ℕ). f ++ l) (sym (append_assoc d part (far ++ b)))

-- behind what was put there and what stays, the pieces go on
behind-stays : (f x part rest : List ℕ) → (f ++ (x ++ part)) ++ rest ≡ f ++ (x ++ (part ++ rest))
behind-stays f x part rest = append_assoc f (x ++ part) rest ∙ ap (λ (l : List ℕ). f ++ l) (append_assoc x part rest)

text-is : (o : Option (List ℕ)) (a b : List ℕ) → a ≡ b → IsText o a → IsText o b
text-is o a b e t = subst (λ (l : List ℕ). IsText o l) e t

no-chars : chars [] ≡ []
no-chars = chars-encodes [] refl

empty-utf8 : IsUtf8 []
empty-utf8 = ([], (refl, refl))

pub pieces-make : (rs : List Run) (at k : ℕ) (x s t v f d b : List ℕ) → Covers rs s t → IsUtf8 v → IsUtf8 x → chars v ≡ f ++ (d ++ (t ++ b)) → length f ≡ at → length d ≡ k
    → IsCarried rs (all_spliced (pieces at k x rs) v) f (chars x) b
pieces-make [] at k x s t v f d b h p q parts size long =
    let now : chars v ≡ f ++ (d ++ b) = parts ∙ ap (λ (l : List ℕ). f ++ (d ++ (l ++ b))) h.1 in
    record { stays = []; added = (refl, refl); made = piece-makes at k x v f d b p q now size long }
pieces-make (Kept n ∷ rs) at k x s t v f d b h p q parts size long =
    let now : chars v ≡ f ++ ((d ++ h.part) ++ (h.far ++ b)) = parts ∙ (ap (λ (l : List ℕ). f ++ (d ++ (l ++ b))) h.far_is ∙ regroup f d h.part h.far b) in
    let l = length-append d h.part in
    let m = h.size in
    let w = pieces-make rs at (k + n) x h.near h.far v f (d ++ h.part) b h.goes_on p q now size (omega arith) in
    record { stays = w.stays; added = w.added; made = w.made }
pieces-make (Added n ∷ rs) at k x s t v f d b h p q parts size long =
    let now : chars v ≡ f ++ (d ++ ((h.part ++ h.far) ++ b)) = parts ∙ ap (λ (l : List ℕ). f ++ (d ++ (l ++ b))) h.far_is in
    let one = piece-makes at k x v f d ((h.part ++ h.far) ++ b) p q now size long in
    let front = f ++ (chars x ++ h.part) in
    let next : chars one.text ≡ front ++ ([] ++ (h.far ++ b)) =
    one.chars_are ∙ (ap (λ (l : List ℕ). f ++ (chars x ++ l)) (append_assoc h.part h.far b) ∙ sym (behind-stays f (chars x) h.part (h.far ++ b))) in
    let l1 = length-append f (chars x ++ h.part) in
    let l2 = length-append (chars x) h.part in
    let m = h.size in
    let w = pieces-make rs (at + (character_count x + n)) 0 [] s h.far one.text front [] b h.goes_on one.utf8 empty-utf8 next (omega arith) refl in
    let goal : front ++ (chars [] ++ (w.stays ++ b)) ≡ f ++ (chars x ++ ((h.part ++ w.stays) ++ b)) =
    ap (λ (l : List ℕ). front ++ (l ++ (w.stays ++ b))) no-chars
    ∙ (behind-stays f (chars x) h.part (w.stays ++ b) ∙ ap (λ (l : List ℕ). f ++ (chars x ++ l)) (sym (append_assoc h.part w.stays b))) in
    record {
      stays = h.part ++ w.stays;
      added = record { part = h.part; far = w.stays; size = h.size; far_is = refl; goes_on = w.added };
      made = spliced-append (piece at k x) (pieces (at + (character_count x + n)) 0 [] rs) v one.text (f ++ (chars x ++ ((h.part ++ w.stays) ++ b))) one.found_is
          (text-is (all_spliced (pieces (at + (character_count x + n)) 0 [] rs) one.text) (front ++ (chars [] ++ (w.stays ++ b))) (f ++ (chars x ++ ((h.part ++ w.stays) ++ b))) goal w.made);
    }
pieces-make (Gone n ∷ rs) at k x s t v f d b h p q parts size long =
    let w = pieces-make rs at k x h.near t v f d b h.goes_on p q parts size long in
    record { stays = w.stays; added = w.added; made = w.made }
