use Rattle.std.proofs.Common.{◌≡◌, string_bytes, sym, subst, rules}
use Rattle.serde_json.specs.View.{view}
use Rattle.store_records.proofs.PayloadTrees.{string_read}
use Rattle.embed_session.specs.States.{IsTextOf}
use Rattle.embed_session.proofs.parts.tree_text.Goals as goal

pub returns : goal.returns
returns c =
    let s = c.in_ok-text.text in
    let is : c.into_bytes.result.items ≡ string_bytes s = search rules in
    subst (IsTextOf (view c.args.tree.now)) (sym is)
    (record { compact = c.in_ok-text.ensures.text; reads_back = string_read s (view c.args.tree.now) (c.in_ok-text.ensures.reads_back c.requires.low) })
