use Rattle.std.proofs.Common.{◌∙◌, ◌∷◌, [], ap}
use Rattle.store_new.proofs.importing.import_store.Goals as goal

pub returns : goal.returns
returns c = record {
  payload = c.in_ok-entry.entry.payload;
  are = c.from_vec.ensures ∙ c.in_ok-payloads.ensures.items ∙ ap (λ p. p ∷ c.in_ok-entry.entry.payload ∷ []) c.in_ok-program.ensures.text;
  reads = rw c.in_ok-program.ensures.text at c.in_ok-program.ensures.reads_back;
  entry = c.in_ok-entry.ensures;
}
