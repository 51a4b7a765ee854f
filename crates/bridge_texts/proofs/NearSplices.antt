-- A splice of the near text is carried to the far one, and the runs span again.
use Rattle.std.proofs.Common.{◌≡◌, ℕ, ◌+◌, ◌≤◌, Bool, true, false, List, [], ◌∷◌, ◌++◌, length, take, drop, Some, None, refl, sym, ap, ◌∙◌, subst, arith}
use Rattle.std.specs.Prelude.{nat_le, encode_utf8_all, if◌then◌else◌}
use Rattle.std.specs.Str.{chars, IsUtf8}
use Rattle.std.proofs.lemmas.Bool.Decides.{nat_tests}
use Rattle.std.proofs.lemmas.List.{length-append, length-take-le, length-drop, append_assoc, append-nil, take-append-drop, drop-drop}
use Rattle.texts.specs.Characters.{character_count, splice}
use Rattle.bridge_texts.specs.declared.run.Run.{Run}
use Rattle.bridge_texts.specs.declared.run.Run.TheVariants.{Kept, Added, Gone}
use Rattle.bridge_texts.specs.declared.run.End.TheVariants.{Near, Far}
use Rattle.bridge_texts.specs.Runs.{cut, added_front, behind_added, all_added, total, near_spliced, far_spliced, carried, all_spliced}
use Rattle.bridge_texts.specs.Spans.{AreEmpty, AreSame, Covers, Spans, replaced}
use Rattle.bridge_texts.specs.Laws.{SpansTexts, IsCarriedTo}
use Rattle.bridge_texts.proofs.Reading.{reads-append}
use Rattle.bridge_texts.proofs.Cutting.{IsCut, cut-is}
use Rattle.bridge_texts.proofs.FarSplices.{three, far-spans}
use Rattle.bridge_texts.proofs.PieceSteps.{splice-makes, pieces-make}

-- ---- what the far text has added at the gap

record IsGap (bs : List Run) (u v : List ℕ) : Type 0 where
  part : List ℕ
  rest : List ℕ
  far_is : v ≡ part ++ rest
  front : Covers (added_front bs) [] part
  back : Spans (behind_added bs) u rest

gap-is : (bs : List Run) (u v : List ℕ) → Spans bs u v → IsGap bs u v
gap-is [] u v h = record { part = []; rest = v; far_is = refl; front = (refl, refl); back = h }
gap-is (Kept n ∷ bs) u v h = record { part = []; rest = v; far_is = refl; front = (refl, refl); back = h }
gap-is (Gone n ∷ bs) u v h = record { part = []; rest = v; far_is = refl; front = (refl, refl); back = h }
gap-is (Added n ∷ bs) u v h =
    let g = gap-is bs u h.far h.goes_on in
    record {
      part = h.part ++ g.part;
      rest = g.rest;
      far_is = h.far_is ∙ (ap (λ (l : List ℕ). h.part ++ l) g.far_is ∙ sym (append_assoc h.part g.part g.rest));
      front = record { part = h.part; far = g.part; size = h.size; far_is = refl; goes_on = g.front };
      back = g.back;
    }

gap-cut : (n : ℕ) (fs bs : List Run) (s t : List ℕ) → IsCut Near n fs bs s t → IsCut Near n (fs ++ added_front bs) (behind_added bs) s t
gap-cut n fs bs s t c =
    let g = gap-is bs c.near_back c.far_back c.back in
    let both : Covers (fs ++ added_front bs) (c.near_front ++ []) (c.far_front ++ g.part) =
    reads-append AreEmpty fs (added_front bs) c.near_front c.far_front [] g.part c.front g.front in
    record {
      near_front = c.near_front;
      near_back = c.near_back;
      far_front = c.far_front ++ g.part;
      far_back = g.rest;
      near_is = c.near_is;
      far_is = c.far_is ∙ (ap (λ (l : List ℕ). c.far_front ++ l) g.far_is ∙ sym (append_assoc c.far_front g.part g.rest));
      size_is = c.size_is;
      front = subst (λ (l : List ℕ). Covers (fs ++ added_front bs) l (c.far_front ++ g.part)) (append-nil c.near_front) both;
      back = g.back;
    }

-- ---- where a part begins in the far text

pub total-is : (rs : List Run) (s t : List ℕ) → Covers rs s t → length t ≡ total Far rs
total-is [] s t h = ap length h.1
total-is (Kept n ∷ rs) s t h =
    let l = ap length h.far_is ∙ length-append h.part h.far in
    let m = h.size in
    let k = total-is rs h.near h.far h.goes_on in
    omega arith
total-is (Added n ∷ rs) s t h =
    let l = ap length h.far_is ∙ length-append h.part h.far in
    let m = h.size in
    let k = total-is rs s h.far h.goes_on in
    omega arith
total-is (Gone n ∷ rs) s t h =
    let k = total-is rs h.near t h.goes_on in
    omega arith

-- ---- the splice

-- it has its characters
has-room : (v x u : List ℕ) (i k : ℕ) → splice v i k x ≡ Some u → i + k ≤ length (chars v)
has-room v x u i k h = by-test (nat_le (i + k) (character_count v)) (encode_utf8_all (replaced (chars v) i k (chars x))) refl h
  where
    by-test : (b : Bool) (w : List ℕ) → nat_le (i + k) (character_count v) ≡ b → (if b then Some w else None) ≡ Some u → i + k ≤ length (chars v)
    by-test true w e g = grind (arith, nat_tests)
    by-test false w e g = absurd cc

carried-parts : (rs : List Run) (i k : ℕ) (x s t u : List ℕ) → IsUtf8 s → IsUtf8 t → IsUtf8 x → splice s i k x ≡ Some u
    → (c : IsCut Near i ((cut Near rs i).0 ++ added_front (cut Near rs i).1) (behind_added (cut Near rs i).1) (chars s) (chars t))
    → IsCut Near k (cut Near (behind_added (cut Near rs i).1) k).0 (cut Near (behind_added (cut Near rs i).1) k).1 c.near_back c.far_back
    → IsCarriedTo (near_spliced rs i k (character_count x)) (all_spliced (carried rs i k x) t) u
carried-parts rs i k x s t u p q z h c d =
    let fronts = (cut Near rs i).0 ++ added_front (cut Near rs i).1 in
    let rest = cut Near (behind_added (cut Near rs i).1) k in
    let far : chars t ≡ c.far_front ++ ([] ++ (d.far_front ++ d.far_back)) = three (chars t) c.far_front c.far_back d.far_front d.far_back c.far_is d.far_is in
    let near : chars s ≡ c.near_front ++ (d.near_front ++ d.near_back) = three (chars s) c.near_front c.near_back d.near_front d.near_back c.near_is d.near_is in
    let w = pieces-make rest.0 (total Far fronts) 0 x d.near_front d.far_front t c.far_front [] d.far_back d.front q z far (total-is fronts c.near_front c.far_front c.front) refl in
    let made = splice-makes s x c.near_front d.near_front d.near_back i k p z near c.size_is d.size_is in
    let same : made.text ≡ u = let a = made.found_is in cc in
    let inner : Spans (all_added rest.0 ++ rest.1) d.near_back (w.stays ++ d.far_back) = reads-append AreSame (all_added rest.0) rest.1 [] w.stays d.near_back d.far_back w.added d.back in
    let middle : Spans (Kept (character_count x) ∷ (all_added rest.0 ++ rest.1)) (chars x ++ d.near_back) (chars x ++ (w.stays ++ d.far_back)) =
    record { part = chars x; near = d.near_back; far = w.stays ++ d.far_back; size = refl; near_is = refl; far_is = refl; goes_on = inner } in
    let whole : Spans (near_spliced rs i k (character_count x)) (c.near_front ++ (chars x ++ d.near_back)) (c.far_front ++ (chars x ++ (w.stays ++ d.far_back))) =
    reads-append AreSame fronts (Kept (character_count x) ∷ (all_added rest.0 ++ rest.1)) c.near_front c.far_front (chars x ++ d.near_back) (chars x ++ (w.stays ++ d.far_back)) c.front middle in
    let over : Spans (near_spliced rs i k (character_count x)) (chars made.text) (chars w.made.text) =
    subst (λ (l : List ℕ). Spans (near_spliced rs i k (character_count x)) l (chars w.made.text)) (sym made.chars_are)
    (subst (λ (l : List ℕ). Spans (near_spliced rs i k (character_count x)) (c.near_front ++ (chars x ++ d.near_back)) l) (sym w.made.chars_are) whole) in
    record {
      far = w.made.text;
      found_is = w.made.found_is;
      spans = subst (λ (l : List ℕ). SpansTexts (near_spliced rs i k (character_count x)) l w.made.text) same (record { near_utf8 = made.utf8; far_utf8 = w.made.utf8; reads = over });
    }

pub near-spans : (rs : List Run) (i k : ℕ) (x s t u : List ℕ) → IsUtf8 x → SpansTexts rs s t → splice s i k x ≡ Some u
    → IsCarriedTo (near_spliced rs i k (character_count x)) (all_spliced (carried rs i k x) t) u
near-spans rs i k x s t u z h e =
    let room = has-room s x u i k e in
    let c = gap-cut i (cut Near rs i).0 (cut Near rs i).1 (chars s) (chars t) (cut-is Near rs i (chars s) (chars t) h.reads (omega arith)) in
    let l = ap length c.near_is ∙ length-append c.near_front c.near_back in
    let m = c.size_is in
    carried-parts rs i k x s t u h.near_utf8 h.far_utf8 z e c (cut-is Near (behind_added (cut Near rs i).1) k c.near_back c.far_back c.back (omega arith))

pub far-spans-texts : (rs : List Run) (i k : ℕ) (x s t u : List ℕ) → IsUtf8 x → SpansTexts rs s t → splice t i k x ≡ Some u → SpansTexts (far_spliced rs i k (character_count x)) s u
far-spans-texts rs i k x s t u z h e =
    let room = has-room t x u i k e in
    let cs = chars t in
    let rest : take k (drop i cs) ++ drop (i + k) cs ≡ drop i cs = ap (λ (l : List ℕ). take k (drop i cs) ++ l) (sym (drop-drop k i cs)) ∙ take-append-drop k (drop i cs) in
    let parts : cs ≡ take i cs ++ (take k (drop i cs) ++ drop (i + k) cs) = sym (take-append-drop i cs) ∙ ap (λ (l : List ℕ). take i cs ++ l) (sym rest) in
    let d = length-drop i cs in
    let made = splice-makes t x (take i cs) (take k (drop i cs)) (drop (i + k) cs) i k h.far_utf8 z parts (length-take-le i cs (omega arith)) (length-take-le k (drop i cs) (omega arith)) in
    let same : made.text ≡ u = let a = made.found_is in cc in
    let over : Spans (far_spliced rs i k (character_count x)) (chars s) (chars made.text) =
    subst (λ (l : List ℕ). Spans (far_spliced rs i k (character_count x)) (chars s) l) (sym made.chars_are) (far-spans rs i k (chars x) (chars s) cs h.reads room) in
    subst (λ (l : List ℕ). SpansTexts (far_spliced rs i k (character_count x)) s l) same (record { near_utf8 = h.near_utf8; far_utf8 = made.utf8; reads = over })
