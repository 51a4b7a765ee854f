-- Runs are cut and joined.
use Rattle.std.proofs.Common.{ℕ, List, [], ◌∷◌, ◌++◌, sym, ap, ◌∙◌, subst}
use Rattle.std.proofs.lemmas.List.{append_assoc}
use Rattle.bridge_texts.specs.declared.run.Run.{Run}
use Rattle.bridge_texts.specs.declared.run.Run.TheVariants.{Kept, Added, Gone}
use Rattle.bridge_texts.specs.Spans.{Reads, Covers}

-- runs that cover two texts, and runs behind them
pub reads-append : (ends : List ℕ → List ℕ → Type 0) (fs rs : List Run) (s1 t1 s2 t2 : List ℕ) → Covers fs s1 t1 → Reads ends rs s2 t2 → Reads ends (fs ++ rs) (s1 ++ s2) (t1 ++ t2)
reads-append ends [] rs s1 t1 s2 t2 c r =
    subst (λ (x : List ℕ). Reads ends rs (x ++ s2) (t1 ++ t2)) (sym c.0) (subst (λ (x : List ℕ). Reads ends rs s2 (x ++ t2)) (sym c.1) r)
reads-append ends (Kept n ∷ fs) rs s1 t1 s2 t2 c r =
    record {
      part = c.part;
      near = c.near ++ s2;
      far = c.far ++ t2;
      size = c.size;
      near_is = ap (λ (x : List ℕ). x ++ s2) c.near_is ∙ append_assoc c.part c.near s2;
      far_is = ap (λ (x : List ℕ). x ++ t2) c.far_is ∙ append_assoc c.part c.far t2;
      goes_on = reads-append ends fs rs c.near c.far s2 t2 c.goes_on r;
    }
reads-append ends (Added n ∷ fs) rs s1 t1 s2 t2 c r =
    record {
      part = c.part;
      far = c.far ++ t2;
      size = c.size;
      far_is = ap (λ (x : List ℕ). x ++ t2) c.far_is ∙ append_assoc c.part c.far t2;
      goes_on = reads-append ends fs rs s1 c.far s2 t2 c.goes_on r;
    }
reads-append ends (Gone n ∷ fs) rs s1 t1 s2 t2 c r =
    record {
      part = c.part;
      near = c.near ++ s2;
      size = c.size;
      near_is = ap (λ (x : List ℕ). x ++ s2) c.near_is ∙ append_assoc c.part c.near s2;
      goes_on = reads-append ends fs rs c.near t1 s2 t2 c.goes_on r;
    }
