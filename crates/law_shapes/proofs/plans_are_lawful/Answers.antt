use Rattle.law_shapes.proofs.Content.{content}
use Rattle.law_shapes.proofs.Family.{family}
use Rattle.law_shapes.proofs.Lawful.{lawful}
use Rattle.law_shapes.proofs.Once.{once, kept}
use Rattle.law_shapes.proofs.Sizes.{as_many, same_kind}
use Rattle.law_shapes.proofs.plans_are_lawful.Goals as goal

pub returns : goal.returns
returns g c =
    let s = g.H.Held.shape_of c.args._held.now in
    let e = c.args._edit.now in
    record {
      as_many = λ t from h. as_many s e t from h;
      once = λ t from h. once s e t from h;
      kept = λ t from h. kept s e t from h;
      arranged = λ t from h. lawful s e t from h;
      same_kind = λ t from h. same_kind s e t from h;
      content = λ t from h. content s e t from h;
      family = λ t from h. family s e t from h;
    }
