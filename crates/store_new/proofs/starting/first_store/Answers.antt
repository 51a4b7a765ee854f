use Rattle.std.proofs.Common.{◌∙◌, ◌∷◌, [], ap}
use Rattle.store_new.proofs.starting.first_store.Goals as goal

pub returns : goal.returns
returns c = record {
  are = c.from_vec.ensures ∙ c.in_ok-payloads.ensures.items ∙ ap (λ p. p ∷ []) c.in_ok-payload.ensures.text;
  reads = rw c.in_ok-payload.ensures.text at c.in_ok-payload.ensures.reads_back;
  written = c.in_ok-lines.ensures;
}
