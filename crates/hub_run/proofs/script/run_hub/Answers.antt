use Rattle.hub_run.specs.HubScript.{hub_script}
use Rattle.run_scripts.proofs.Complete.{complete, ends_among}
use Rattle.hub_run.proofs.script.run_hub.Goals as goal

pub returns-clause-completes : goal.returns-clause-completes
returns-clause-completes g c =
    let e = c.run_script.ensures in
    complete hub_script g.S.Source g.K.Sink (c.args.source.now, c.args.sink.now) (c.run_script.new.source, c.run_script.new.sink) _ _ c.run_script.result e.ended e.source_fault e.sink_fault

pub returns-clause-statuses : goal.returns-clause-statuses
returns-clause-statuses g c =
    ends_among hub_script g.S.Source g.K.Sink (c.args.source.now, c.args.sink.now) (c.run_script.new.source, c.run_script.new.sink) c.run_script.result c.run_script.ensures.ended
