use Rattle.std.proofs.Common.{◌∙◌, ◌∷◌, [], ap}
use Rattle.hub_new.proofs.HubInitEnds.{same_texts, same_payload}
use Rattle.hub_new.proofs.starting.first_store.Goals as goal

pub returns : goal.returns
returns c =
    let programs = c.args.accepted.now.programs.items in
    let text = rw c.deref.ensures.value at c.in_ok-payload.ensures.text in
    let read_back = rw c.deref.ensures.value at c.in_ok-payload.ensures.reads_back in
    record {
      are = c.from_vec.ensures ∙ c.in_ok-payloads.ensures.items ∙ ap (λ p. p ∷ []) (same_payload programs c.in_ok-payload.payload text);
      reads = same_texts programs c.in_ok-payload.payload text read_back;
      written = rw c.deref-2.ensures.value at c.in_ok-lines.ensures;
    }
