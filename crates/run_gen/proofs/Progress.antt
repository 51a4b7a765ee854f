-- How far a generated journal has come: from the first entry to the last.
use Rattle.std.proofs.Common.{◌≡◌, ℕ, zero, suc, ◌+◌, ◌≤◌, List, [], ◌∷◌, Option, Some, None, refl, ap, sym, ◌∙◌, subst, arith}
use Rattle.std.specs.Prelude.{option_map}
use Rattle.lens_forms.specs.Forms.{FormTree}
use Rattle.edit_session.specs.Step.{TripleTree}
use Rattle.edit_session.specs.Run.{AnswerTree}
use Rattle.run_gen.specs.declared.summary.Summary.{Summary}
use Rattle.run_gen.specs.Program.{generated_form}
use Rattle.run_gen.specs.Journal.{accepted_among, sum_of, nums_in, summarized, entries, first_triple, generated_run_from, summary_of}
use Rattle.run_gen.specs.Invariant.{IsGenerated, counted}
use Rattle.run_gen.proofs.Ends.{starts, ended}

-- after k entries, of which s is the last seed, there are p texts and o numbers, and the rest of the run leads to the summary
pub record IsAt (count : ℕ) (seed : ℕ) (k : ℕ) (s : ℕ) (p : ℕ) (o : ℕ) (form : FormTree) (t : TripleTree) : Type 0 where
  pub lens : form ≡ generated_form
  pub generated : IsGenerated k p o t
  pub counts : (rest : ℕ) → k + rest ≡ count → summary_of count seed ≡ counted k t (generated_run_from t (entries rest (k + 1) s p o))

counted_none : (t : TripleTree) (o : Option (List (TripleTree × AnswerTree ⊥))) → option_map (summarized t) o ≡ counted 0 t o
counted_none t None = refl
counted_none t (Some steps) = let e : 0 + accepted_among steps ≡ accepted_among steps = omega arith in rw e refl

pub begins : (count seed : ℕ) (form : FormTree) (t : TripleTree) → form ≡ generated_form → t ≡ first_triple → IsAt count seed 0 seed 0 0 form t
begins count seed form t lens is =
    subst (λ u. IsAt count seed 0 seed 0 0 form u) (sym is) (record {
      lens = lens;
      generated = starts;
      counts = λ rest e.
          let same : rest ≡ count = omega arith in
          subst (λ n. summary_of count seed ≡ counted 0 first_triple (generated_run_from first_triple (entries n 1 seed 0 0))) (sym same)
          (counted_none first_triple (generated_run_from first_triple (entries count 1 seed 0 0)));
    })

pub goes_on : (count seed k s p o s' p' o' : ℕ) (form form' : FormTree) (t t' : TripleTree) → IsAt count seed k s p o form t → form' ≡ form → IsGenerated (k + 1) p' o' t'
    → ((rest : ℕ) → counted k t (generated_run_from t (entries (suc rest) (k + 1) s p o)) ≡ counted (k + 1) t' (generated_run_from t' (entries rest (k + 1 + 1) s' p' o')))
    → IsAt count seed (k + 1) s' p' o' form' t'
goes_on count seed k s p o s' p' o' form form' t t' h same generated step = record {
  lens = same ∙ h.lens;
  generated = generated;
  counts = λ rest e. h.counts (suc rest) (omega arith) ∙ step rest;
}

pub ends : (count seed s p o : ℕ) (form : FormTree) (t : TripleTree) → IsAt count seed count s p o form t
    → summary_of count seed ≡ Some (record { accepted = count; refused = 0; names = p; nums = o; sum = sum_of (nums_in t.right) })
ends count seed s p o form t h = h.counts 0 (omega arith) ∙ ended count p o t h.generated
