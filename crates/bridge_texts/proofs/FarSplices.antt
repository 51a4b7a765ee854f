-- After a splice of the far text the runs span again.
use Rattle.std.proofs.Common.{◌≡◌, ℕ, ◌+◌, ◌≤◌, List, [], ◌∷◌, ◌++◌, length, take, drop, refl, sym, ap, ◌∙◌, subst, arith}
use Rattle.std.proofs.lemmas.List.{length-append, append_assoc}
use Rattle.std.proofs.Math.Seq.{take-append_seam, drop-append_seam}
use Rattle.bridge_texts.specs.declared.run.Run.{Run}
use Rattle.bridge_texts.specs.declared.run.Run.TheVariants.{Kept, Added, Gone}
use Rattle.bridge_texts.specs.declared.run.End.TheVariants.{Far}
use Rattle.bridge_texts.specs.Runs.{cut, all_gone, far_spliced}
use Rattle.bridge_texts.specs.Spans.{AreSame, Covers, Spans, replaced}
use Rattle.bridge_texts.proofs.Reading.{reads-append}
use Rattle.bridge_texts.proofs.Cutting.{IsCut, cut-is}

-- what is replaced, by the parts of the text
pub replaced-is : (t f d b x : List ℕ) (i k : ℕ) → t ≡ f ++ (d ++ b) → length f ≡ i → length d ≡ k → replaced t i k x ≡ f ++ (x ++ b)
replaced-is t f d b x i k p q r =
    let T : ℕ → Type 0 = λ n. take n t ≡ f in
    let fronts : take i t ≡ f = subst T q (ap (λ (l : List ℕ). take (length f) l) p ∙ take-append_seam f (d ++ b)) in
    let l = length-append f d in
    let size : length (f ++ d) ≡ i + k = omega arith in
    let D : ℕ → Type 0 = λ n. drop n t ≡ b in
    let backs : drop (i + k) t ≡ b = subst D size (ap (λ (l : List ℕ). drop (length (f ++ d)) l) (p ∙ sym (append_assoc f d b)) ∙ drop-append_seam (f ++ d) b) in
    ap (λ (l : List ℕ). l ++ (x ++ drop (i + k) t)) fronts ∙ ap (λ (l : List ℕ). f ++ (x ++ l)) backs

-- what the far text has no more
pub covers-all_gone : (rs : List Run) (s t : List ℕ) → Covers rs s t → Covers (all_gone rs) s []
covers-all_gone [] s t h = (h.0, refl)
covers-all_gone (Kept n ∷ rs) s t h = record { part = h.part; near = h.near; size = h.size; near_is = h.near_is; goes_on = covers-all_gone rs h.near h.far h.goes_on }
covers-all_gone (Added n ∷ rs) s t h = covers-all_gone rs s h.far h.goes_on
covers-all_gone (Gone n ∷ rs) s t h = record { part = h.part; near = h.near; size = h.size; near_is = h.near_is; goes_on = covers-all_gone rs h.near t h.goes_on }

-- a text in three parts
pub three : (s a u b c : List ℕ) → s ≡ a ++ u → u ≡ b ++ c → s ≡ a ++ (b ++ c)
three s a u b c p q = p ∙ ap (λ (l : List ℕ). a ++ l) q

far-parts : (rs : List Run) (i k : ℕ) (x s t : List ℕ) (c : IsCut Far i (cut Far rs i).0 (cut Far rs i).1 s t)
    → IsCut Far k (cut Far (cut Far rs i).1 k).0 (cut Far (cut Far rs i).1 k).1 c.near_back c.far_back → Spans (far_spliced rs i k (length x)) s (replaced t i k x)
far-parts rs i k x s t c d =
    let rest = cut Far (cut Far rs i).1 k in
    let tail : Spans (all_gone rest.0 ++ rest.1) (d.near_front ++ d.near_back) d.far_back =
    reads-append AreSame (all_gone rest.0) rest.1 d.near_front [] d.near_back d.far_back (covers-all_gone rest.0 d.near_front d.far_front d.front) d.back in
    let made : Spans (Added (length x) ∷ (all_gone rest.0 ++ rest.1)) (d.near_front ++ d.near_back) (x ++ d.far_back) =
    record { part = x; far = d.far_back; size = refl; far_is = refl; goes_on = tail } in
    let joined : Spans (far_spliced rs i k (length x)) (c.near_front ++ (d.near_front ++ d.near_back)) (c.far_front ++ (x ++ d.far_back)) =
    reads-append AreSame (cut Far rs i).0 (Added (length x) ∷ (all_gone rest.0 ++ rest.1)) c.near_front c.far_front (d.near_front ++ d.near_back) (x ++ d.far_back) c.front made in
    let near : s ≡ c.near_front ++ (d.near_front ++ d.near_back) = three s c.near_front c.near_back d.near_front d.near_back c.near_is d.near_is in
    let far : replaced t i k x ≡ c.far_front ++ (x ++ d.far_back) =
    replaced-is t c.far_front d.far_front d.far_back x i k (three t c.far_front c.far_back d.far_front d.far_back c.far_is d.far_is) c.size_is d.size_is in
    subst (λ (l : List ℕ). Spans (far_spliced rs i k (length x)) l (replaced t i k x)) (sym near)
    (subst (λ (l : List ℕ). Spans (far_spliced rs i k (length x)) (c.near_front ++ (d.near_front ++ d.near_back)) l) (sym far) joined)

pub far-spans : (rs : List Run) (i k : ℕ) (x s t : List ℕ) → Spans rs s t → i + k ≤ length t → Spans (far_spliced rs i k (length x)) s (replaced t i k x)
far-spans rs i k x s t h room =
    let c = cut-is Far rs i s t h (omega arith) in
    let l = ap length c.far_is ∙ length-append c.far_front c.far_back in
    let m = c.size_is in
    far-parts rs i k x s t c (cut-is Far (cut Far rs i).1 k c.near_back c.far_back c.back (omega arith))
