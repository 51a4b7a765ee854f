use Rattle.std.proofs.Common.{inl, inr, refl, subst}
use Rattle.std.proofs.KnownBytes.{Appends-nil}
use Rattle.command_ends.specs.declared.status.Status.TheVariants.{ProgramRefused}
use Rattle.store_new.specs.NewEnds.{GivesLine}
use Rattle.hub_new.proofs.starting.refuse_views.Goals as goal

pub returns-in-Ok-clause-refuses : goal.returns-in-Ok-clause-refuses
returns-in-Ok-clause-refuses g c =
    let given = rw c.as_slice.ensures at c.give_line.ensures.gives in
    record {
      ends = λ refusal is. inl (subst (λ line. GivesLine g.K.Sink c.args.sink.now c.give_line.new.sink line ProgramRefused c.give_line.result) (c.in-Ok.ensures.line refusal is) given);
      memory = λ none. absurd (c.in-Ok.ensures.refusal none);
    }

pub returns-in-Err-clause-refuses : goal.returns-in-Err-clause-refuses
returns-in-Err-clause-refuses g c =
    let none = Appends-nil (g.K.Sink.held c.args.sink.now) in
    record { ends = λ refusal is. inr (refl, none); memory = λ same. (refl, none) }
