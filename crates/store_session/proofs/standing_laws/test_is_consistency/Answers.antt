use Rattle.store_session.specs.ConsistencyDecided.{consistent_if, consistent_then}
use Rattle.store_session.proofs.standing_laws.test_is_consistency.Goals as goal

pub returns-clause-consistent : goal.returns-clause-consistent
returns-clause-consistent c = λ l x k y typed h. consistent_if l x k y typed h

pub returns-clause-tested : goal.returns-clause-tested
returns-clause-tested c = λ l x k y typed h. consistent_then l x k y typed h
