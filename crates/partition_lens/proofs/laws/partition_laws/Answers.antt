use Rattle.partition_lens.proofs.LawsOfPartitions.{typed_partition_laws}
use Rattle.partition_lens.proofs.laws.partition_laws.Goals as goal

pub returns : goal.returns
returns c = λ fields typed. typed_partition_laws fields typed
