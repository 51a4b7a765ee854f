use Rattle.std.proofs.Common.{◌∷◌, ap, ◌∙◌, sym, Some}
use Rattle.edit_module.specs.declared.atom.Atom.TheVariants.{Letters}
use Rattle.json.specs.Reads.{token_of}
use Rattle.json_tokens.specs.TreesAt.{read_at}
use Rattle.edit_json.specs.Values.{atom_of}
use Rattle.edit_tokens.proofs.ReadingTokens.{truth_read, letters_read, number_read, if_some}
use Rattle.edit_tokens.proofs.value_tokens.take_atom.Goals as goal

pub returns-in-Some-Bool : goal.returns-in-Some-Bool
returns-in-Some-Bool c depth =
    ap (read_at atom_of depth) c.in-Some-Bool.ensures.value ∙ ap (λ t. read_at atom_of depth (token_of t ∷ c.next.new.self)) c.in-Some-Bool.field-0-is ∙ truth_read depth _ _

pub returns-in-Some-Number : goal.returns-in-Some-Number
returns-in-Some-Number c =
    if_some c.number_atom.result
    (λ atom e depth. ap (read_at atom_of depth) c.in-Some-Number.ensures.value ∙ ap (λ t. read_at atom_of depth (token_of t ∷ c.next.new.self)) c.in-Some-Number.field-0-is ∙ number_read depth _ atom _ e)
    c.number_atom.ensures

pub returns-in_ok-str_of-in-Some-String : goal.returns-in_ok-str_of-in-Some-String
returns-in_ok-str_of-in-Some-String c depth =
    ap (read_at atom_of depth) c.in-Some-String.ensures.value ∙ ap (λ t. read_at atom_of depth (token_of t ∷ c.next.new.self)) c.in-Some-String.field-0-is
    ∙ letters_read depth _ _ ∙ ap (λ s. Some (Letters s, c.next.new.self)) (sym c.in_ok-str_of-in-Some-String.ensures)
