use Rattle.file_forms.proofs.Sorting.{sorted-is_rising}
use Rattle.file_forms.proofs.SortedMembers.{named-sorted}
use Rattle.file_forms.proofs.laws.order_keeps_members.Goals as goal

pub returns-clause-rising : goal.returns-clause-rising
returns-clause-rising c = sorted-is_rising

pub returns-clause-contents : goal.returns-clause-contents
returns-clause-contents c = named-sorted
