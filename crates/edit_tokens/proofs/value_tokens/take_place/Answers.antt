use Rattle.std.proofs.Common.{◌∷◌, ◌-◌, ap, ◌∙◌, sym, Some}
use Rattle.hold_shapes.specs.declared.edit.Place.TheVariants.{Key, Node}
use Rattle.json.specs.Reads.{token_of}
use Rattle.json_tokens.specs.TreesAt.{read_at}
use Rattle.edit_json.specs.Values.{data_place}
use Rattle.edit_tokens.proofs.ReadingTokens.{index_read, key_read, node_read}
use Rattle.edit_tokens.proofs.value_tokens.take_place.Goals as goal

pub returns-in_ok-number_in-in-Some-Number : goal.returns-in_ok-number_in-in-Some-Number
returns-in_ok-number_in-in-Some-Number c depth some =
    ap (read_at data_place depth) c.in-Some-Number.ensures.value ∙ ap (λ t. read_at data_place depth (token_of t ∷ c.next.new.self)) c.in-Some-Number.field-0-is
    ∙ index_read depth _ _ _ c.in_ok-number_in-in-Some-Number.ensures

pub returns-in_ok-name_of-in-Some-String : goal.returns-in_ok-name_of-in-Some-String
returns-in_ok-name_of-in-Some-String c depth some =
    ap (read_at data_place depth) c.in-Some-String.ensures.value ∙ ap (λ t. read_at data_place depth (token_of t ∷ c.next.new.self)) c.in-Some-String.field-0-is
    ∙ key_read depth _ _ ∙ ap (λ k. Some (Key k, c.next.new.self)) (sym c.in_ok-name_of-in-Some-String.ensures)

pub returns-in_ok-take_counts-in-Some-BeginArray : goal.returns-in_ok-take_counts-in-Some-BeginArray
returns-in_ok-take_counts-in-Some-BeginArray c depth some =
    ap (read_at data_place depth) c.in-Some-BeginArray.ensures.value ∙ ap (λ t. read_at data_place depth (token_of t ∷ c.next.new.self)) c.in-Some-BeginArray.field-0-is
    ∙ node_read depth c.next.new.self c.take_counts.new.reader _ some (c.in_ok-take_counts-in-Some-BeginArray.ensures (depth - 1)) ∙ ap (λ q. Some (Node q, c.take_counts.new.reader)) (sym c.from_vec.ensures)
