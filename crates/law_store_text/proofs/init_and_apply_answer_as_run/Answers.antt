use Rattle.std.proofs.Common.{[], ◌∷◌, subst}
use Rattle.std.specs.Prelude.{IfSome}
use Rattle.gate_log.specs.LogOnDisk.{HoldsPayloads}
use Rattle.store_new.specs.Init.{program_payload}
use Rattle.law_store_text.proofs.PairTexts.{answers_as_run}
use Rattle.law_store_text.proofs.init_and_apply_answer_as_run.Goals as goal

pub returns-clause-finished : goal.returns-clause-finished
returns-clause-finished g c old1 new1 old2 new2 status image made is told call h =
    answers_as_run g.S.Source g.K.Sink g.D.Disk old1 new1 old2 new2 status image made told
    (subst (λ o. IfSome o (HoldsPayloads (program_payload made.program ∷ []))) is made.stored.read) call h

pub returns-clause-crash : goal.returns-clause-crash
returns-clause-crash g c old1 new1 old2 new2 status image made is told call h =
    answers_as_run g.S.Source g.K.Sink g.D.Disk old1 new1 old2 new2 status image made told (made.stored.crash image is) call h
