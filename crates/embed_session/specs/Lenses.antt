-- For the sessions that share a lens.
use Rattle.std.specs.Coded.{Coded-set}
use Rattle.std.specs.Option.{ForSome}
use Rattle.std.specs.Prelude.{◌≡◌, Option}
use Rattle.lens_flat.specs.contracts.flat.ReadyForm as ready_form
use Rattle.lens_flat.specs.declared.flat.ReadyForm.{ReadyForm}
use Rattle.embed_session.specs.declared.accepted.Accepted.{Accepted}

-- that a lens is the one of what is held has one proof at most
pub one_proof : (last : Option Accepted) (lens : ReadyForm) → IsProp (ForSome last (λ a. a.before.lens ≡ lens))
one_proof last lens = Prim.hlevel (Coded-set ready_form.the_row.coded)
