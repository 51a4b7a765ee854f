-- The version record is read from its payload. A lemma, which stands here since the laws of an `impl` cite it.
use Rattle.std.proofs.Common.{◌≡◌, Some, refl}
use Rattle.std.specs.Fmt.{digits}
use Rattle.std.specs.Str.{is_utf8, chars}
use lib.Utf8.{encode}
use Rattle.json.specs.Print.{escape_byte}
use Rattle.serde_json.proofs.OnLiterals.{serde_json_on_literals}
use Rattle.store_records.specs.RecordJson.{version_record, record_in}
use Rattle.store_session.specs.StoredStates.{version_text}

pub version_in : record_in version_text ≡ Some version_record
unfolding is_utf8 chars encode escape_byte digits serde_json_on_literals
version_in = refl
