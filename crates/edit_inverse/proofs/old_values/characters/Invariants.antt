use Rattle.std.proofs.Common.{◌≡◌, ◌-◌, take, drop, length}
use Rattle.std.specs.Prelude.{string_bytes, encode_utf8_all}
use Rattle.edit_inverse.proofs.old_values.characters.Given as goal

abbrev pub invariant-loop-character : goal.invariant-loop-character
invariant-loop-character l = record {
  bytes : string_bytes l.cut ≡ encode_utf8_all (take l.count (drop l.from l.yielded));
  before : l.before ≡ l.from - length l.yielded;
  left : l.left ≡ l.count - (length l.yielded - l.from);
}
