use Rattle.std.proofs.Common.{inl, inr}
use Rattle.editlens_main.proofs.stores.run_undo.Goals as goal

pub returns-clause-undoes : goal.returns-clause-undoes
returns-clause-undoes g c =
    let e = c.undo.ensures.undoes in
    record {
      of_store = λ s.
          let back = e.of_store s in
          record {
            continues = back.continues;
            stops = back.stops;
            survives = elim back.survives [ inl (inl h) ↦ inl (inl h) | inl (inr never) ↦ absurd never | inr h ↦ inr h ];
            unstored = λ h image now. elim (back.unstored h image now) [ inl never ↦ absurd never | inr held ↦ inr held ];
            caused = back.caused;
            completes = back.completes;
          };
      refuses = e.refuses;
    }
