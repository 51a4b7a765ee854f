use Rattle.std.proofs.Common.{◌⊎◌, inr, [], ◌∷◌, ◌++◌}
use Rattle.std.specs.Prelude.{option_to_list}
use Rattle.store_run.specs.Effects.{Adds, StopsStoring}
use Rattle.store_run.proofs.Effects.{packs, packs_short}
use Rattle.store_run.proofs.Outcomes.{if_err}
use Rattle.store_run.proofs.StoredPayloads.{images_held}
use Rattle.store_run.proofs.pack_call.pack_store.Goals as goal
use Rattle.texts.proofs.Outcomes.{on_ok}

pub returns-clause-packed : goal.returns-clause-packed
returns-clause-packed g c =
    let disk = g.D.Disk in
    let sink = g.K.Sink in
    let only = g.met.D.Disk.only_now in
    let hold = images_held disk g.met.D.Disk.content_is_image in
    let k = c.args.sink.now in
    let d = c.args.disk.now in
    let l = c.args.log.now in
    let d1 = c.store_version.new.disk in
    let l1 = c.store_version.new.log in
    let k' = c.store_and_answer.new.sink in
    let d' = c.store_and_answer.new.disk in
    let l' = c.store_and_answer.new.log in
    let version = option_to_list c.args.version.now in
    let line = c.args.line.now in
    let kept = c.args.snapshot.now ∷ [] in
    on_ok c.store_and_answer.result (Adds sink disk (k, d1, l1) (k', d', l') line kept) (Adds sink disk (k, d, l) (k', d', l') line (version ++ kept))
    (λ adds. packs sink disk only hold k k' d d1 d' l l1 l' version line kept c.in_ok-store_version.ensures.stored adds)
    c.store_and_answer.ensures.stored

pub returns-clause-stopped : goal.returns-clause-stopped
returns-clause-stopped g c =
    let disk = g.D.Disk in
    let sink = g.K.Sink in
    let only = g.met.D.Disk.only_now in
    let hold = images_held disk g.met.D.Disk.content_is_image in
    let k = c.args.sink.now in
    let d = c.args.disk.now in
    let l = c.args.log.now in
    let d1 = c.store_version.new.disk in
    let l1 = c.store_version.new.log in
    let k' = c.store_and_answer.new.sink in
    let d' = c.store_and_answer.new.disk in
    let l' = c.store_and_answer.new.log in
    let version = option_to_list c.args.version.now in
    let line = c.args.line.now in
    let kept = c.args.snapshot.now ∷ [] in
    if_err c.store_and_answer.result (λ stop. StopsStoring sink disk (k, d1, l1) (k', d', l') stop [] line [] kept)
    (λ stop. StopsStoring sink disk (k, d, l) (k', d', l') stop [] [] [] version ⊎ StopsStoring sink disk (k, d, l) (k', d', l') stop [] line version kept)
    (λ stop stops. inr (packs_short sink disk only hold k k' d d1 d' l l1 l' version stop line kept c.in_ok-store_version.ensures.stored stops))
    c.store_and_answer.ensures.stopped
