use Rattle.std.proofs.Common.{◌≡◌, ◌+◌, ◌-◌, ◌≤◌, ◌<◌, length, Some, None, arith, subst, sym}
use Rattle.bridge_links.specs.Links.{place_of, placed, AreInside, IsWithin}
use Rattle.bridge_links.proofs.RunLinks.{length-run}
use Rattle.bridge_links.proofs.Found.{none-inside, all-before, all-after, all-inside, within-placed}
use Rattle.bridge_links.proofs.run.LinkRun.find.Goals as goal

pub returns-in_default-clause-found : goal.returns-in_default-clause-found
returns-in_default-clause-found c =
    let e : place_of c.self.inside.first ≡ None = let a = c.place.ensures in let b = c.in_default.is in cc in
    none-inside c.self.inside.first c.self.inside.count c.args.place c.args.most c.args.self.now c.self.view_is e

pub returns-then-place-first-clause-found : goal.returns-then-place-first-clause-found
returns-then-place-first-clause-found c =
    let e : place_of c.self.inside.first ≡ Some c.in-Some.first = let a = c.place.ensures in let b = c.in-Some.is in cc in
    all-before c.self.inside.first c.in-Some.first c.self.inside.count c.args.place c.least.result c.args.self.now c.self.view_is e
    (omega (arith, c.if-place-first.true, c.least.ensures.right))

pub returns-then-at-self-clause-found : goal.returns-then-at-self-clause-found
returns-then-at-self-clause-found c =
    let e : place_of c.self.inside.first ≡ Some c.in-Some.first = let a = c.place.ensures in let b = c.in-Some.is in cc in
    all-after c.self.inside.first c.in-Some.first c.self.inside.count c.args.place c.args.most c.args.self.now c.self.view_is e
    (omega (arith, c.if-place-first.false, c.if-at-self.true))

pub returns-clause-found : goal.returns-clause-found
returns-clause-found c =
    let e : place_of c.self.inside.first ≡ Some c.in-Some.first = let a = c.place.ensures in let b = c.in-Some.is in cc in
    let i = c.args.place - c.in-Some.first in
    let p : c.in-Some.first + i ≡ c.args.place = omega (arith, c.if-place-first.false) in
    let q : i + c.least-2.result ≤ c.self.inside.count = omega (arith, c.if-place-first.false, c.if-at-self.false, c.least-2.ensures.right) in
    subst (λ l. AreInside c.args.place c.least-2.result c.args.self.now l) (sym c.placed.ensures)
    (all-inside c.self.inside.first c.in-Some.first c.self.inside.count c.args.place i c.least-2.result c.args.self.now c.self.view_is e p q)

pub returns-clause-within : goal.returns-clause-within
returns-clause-within c =
    let n : length c.args.self.now ≡ c.self.inside.count = subst (λ r. length r ≡ c.self.inside.count) c.self.view_is (length-run c.self.inside.first c.self.inside.count) in
    let i = c.args.place - c.in-Some.first in
    let p : i < length c.args.self.now = omega (arith, n, c.if-place-first.false, c.if-at-self.false) in
    subst (λ l. IsWithin (length c.args.self.now) l) (sym c.placed.ensures) (within-placed c.self.inside.first (length c.args.self.now) i p)
