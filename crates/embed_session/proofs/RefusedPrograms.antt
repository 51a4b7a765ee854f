-- A program that is refused is refused by every call that opens a session.
use Rattle.std.proofs.Common.{ℕ, List}
use Rattle.texts.specs.declared.side.Side.{Side}
use Rattle.embed_session.specs.Embedded.{IsRefusedProgram, IsOpened, IsImported, IsResumed}
use Rattle.embed_session.specs.declared.embedded.EmbeddedSession.{EmbeddedSession}
use Rattle.embed_session.specs.declared.embedded.EmbeddedSession.TheVariants as embedded

pub refused_opened : (program : List ℕ) (k : EmbeddedSession) → IsRefusedProgram program k → IsOpened program k
refused_opened program (embedded.Open r) h = absurd h
refused_opened program (embedded.Refused refused line) h = h
refused_opened program (embedded.StateRefused why) h = absurd h
refused_opened program (embedded.RecordsRefused why) h = absurd h
refused_opened program embedded.NoMemory h = tt

pub refused_imported : (program : List ℕ) (s : Side) (text : List ℕ) (k : EmbeddedSession) → IsRefusedProgram program k → IsImported program s text k
refused_imported program s text (embedded.Open r) h = absurd h
refused_imported program s text (embedded.Refused refused line) h = h
refused_imported program s text (embedded.StateRefused why) h = absurd h
refused_imported program s text (embedded.RecordsRefused why) h = absurd h
refused_imported program s text embedded.NoMemory h = tt

pub refused_resumed : (program left comp right : List ℕ) (k : EmbeddedSession) → IsRefusedProgram program k → IsResumed program left comp right k
refused_resumed program left comp right (embedded.Open r) h = absurd h
refused_resumed program left comp right (embedded.Refused refused line) h = h
refused_resumed program left comp right (embedded.StateRefused why) h = absurd h
refused_resumed program left comp right (embedded.RecordsRefused why) h = absurd h
refused_resumed program left comp right embedded.NoMemory h = tt
