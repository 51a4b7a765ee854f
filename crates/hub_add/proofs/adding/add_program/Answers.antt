use Rattle.std.proofs.Common.{inl, inr, refl}
use Rattle.std.proofs.KnownBytes.{Appends-nil}
use Rattle.store_run.proofs.Openings.{opening_none}
use Rattle.hub_add.proofs.adding.add_program.Goals as goal

pub returns-in_default-clause-ends : goal.returns-in_default-clause-ends
returns-in_default-clause-ends g c = λ before st. inr (refl, refl, Appends-nil (g.K.Sink.held c.args.sink.now))

pub returns-clause-ends : goal.returns-clause-ends
returns-clause-ends g c =
    let disk = g.D.Disk in
    let more = c.in-Ok.more in
    λ before st.
    inl (record {
      payload = more.payload;
      lines = more.lines;
      text = c.in-Ok.ensures;
      ends = inl (record {
        d1 = c.args.disk.now;
        log = c.args.log.now;
        log' = c.store_last.new.log;
        opens = opening_none disk g.met.D.Disk.only_now c.args.disk.now;
        stands = st;
        ends = c.store_last.ensures.ends;
      });
    })
