use Rattle.std.proofs.Common.{◌++◌, codes, decimal, sym, ap, ap₂, ◌∙◌, append_assoc}
use Rattle.hub_run.proofs.views.view_line.Goals as goal

pub returns : goal.returns
returns c = λ why is.
    c.from_vec.ensures ∙ c.in_ok-extend_from_slice.ensures.items
    ∙ ap₂ (λ x y. x ++ y) (ap (λ v. v.items) c.into_bytes-longer.ensures.value ∙ c.in_ok-front.ensures.ok) (c.behind.ensures (why ++ codes "\n") (c.as_slice.ensures ∙ is))
    ∙ sym (ap (λ x. codes "program refused: view " ++ x) (append_assoc (decimal c.args.number ++ codes " ") why (codes "\n")))
