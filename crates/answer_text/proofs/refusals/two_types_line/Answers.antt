-- The pieces of the line, grouped as the definition groups them.
use Rattle.std.proofs.Common.{◌≡◌, ◌++◌, ◌∙◌, sym, ap, codes, ℕ, List, [], ◌∷◌, append_assoc}
use Rattle.answer_text.proofs.refusals.two_types_line.Goals as goal

four : (a b c d : List ℕ) → a ++ (b ++ (c ++ d)) ≡ a ++ b ++ c ++ d
four a b c d = sym (append_assoc (a ++ b) c d ∙ append_assoc a b (c ++ d))

pub returns : goal.returns
returns c =
    c.bytes_of.ensures
    ∙ c.in_ok-line.ensures.ok
    ∙ ap (λ rest. codes "program refused: middle-differs " ++ rest) (four c.args.left.now (32 ∷ []) c.args.right.now (10 ∷ []))
