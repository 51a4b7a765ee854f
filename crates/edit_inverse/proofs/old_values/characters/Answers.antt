use Rattle.std.proofs.Common.{◌<◌, ◌≤◌, string_bytes, arith}
use Rattle.std.proofs.lemmas.Iterator.{YieldsList-from_chars}
use Rattle.std.proofs.lemmas.Iterator.Consumers.{YieldsList-end}
use Rattle.std.proofs.lemmas.List.{length_push}
use Rattle.edit_inverse.proofs.Cuts.{taken-character, taken-all}
use Rattle.edit_inverse.proofs.old_values.characters.Goals as goal

pub loop-character-preserved-in-Continue-1 : goal.loop-character-preserved-in-Continue-1
loop-character-preserved-in-Continue-1 c =
    let l = c.loop-character in
    let ch = c.in-Some.character in
    let n = length_push l.yielded ch in
    let b = l.invariant.before in
    let m = l.invariant.left in
    let none : l.before ≤ 0 = omega (arith, c.if-before-gt0.false) in
    let some : 0 < l.left = omega (arith, c.if-left-gt0.true) in
    record {
      bytes = taken-character l.yielded (string_bytes l.cut) (string_bytes c.push.new.self) ch c.args.from c.args.count (omega (arith, b, none)) (omega (arith, m, some)) l.invariant.bytes c.in_ok-push.ensures.bytes;
      before = omega (arith, n, b, none);
      left = omega (arith, n, m, some, b, none);
    }

pub returns-clause-text : goal.returns-clause-text
returns-clause-text c =
    let l = c.loop-character in
    let t = YieldsList-end (YieldsList-from_chars c.args.text.now c.utf8.text cc) l.yielded _ l.yielded_by _ _ c.in-None.is c.next.ensures.steps in
    taken-all c.args.text.now l.yielded (string_bytes l.cut) c.args.from c.args.count t.0 l.invariant.bytes
