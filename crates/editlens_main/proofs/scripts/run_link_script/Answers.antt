use Rattle.editlens_main.proofs.scripts.run_link_script.Goals as goal

pub returns-clause-runs : goal.returns-clause-runs
returns-clause-runs g c = let e = c.run_script.ensures in record { reports = e.ended.reports; stops = e.ended.stops; completes = e.completes }
