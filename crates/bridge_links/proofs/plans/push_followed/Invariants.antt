use Rattle.std.proofs.Common.{◌≡◌, ◌≤◌, ◌++◌, map, take}
use Rattle.bridge_links.specs.Links.{followed}
use Rattle.bridge_links.proofs.plans.push_followed.Given as goal

abbrev pub invariant-loop : goal.invariant-loop
invariant-loop l = record {
  links : l.links ≡ l.fn.links ++ map (followed l.plan) (take l.done l.run);
  counter : l.counter ≤ l.done;
}
