-- Sets of lemmas for the tactics, here and in the crates above.
use Rattle.program_terms.proofs.Levels.{field_within, row_within, arm_within}
use Rattle.program_terms.proofs.TreeLists.{fields_tree-out, rows_tree-out, arms_tree-out, field_list-term_fields_of, term_fields_of-field_list, row_list-term_rows_of, term_rows_of-row_list, arm_list-term_arms_of, term_arms_of-arm_list, length-field_list, length-row_list, length-arm_list}

-- the folds at the types that wrap a list: fields, rows and arms
pub ruleset wrapper_rules = (fields_tree-out, rows_tree-out, arms_tree-out)

-- a list as trees and back, and trees as a list and back
pub ruleset list_rules = (field_list-term_fields_of, term_fields_of-field_list, row_list-term_rows_of, term_rows_of-row_list, arm_list-term_arms_of, term_arms_of-arm_list)

-- how long the lists are
pub ruleset length_rules = (length-field_list, length-row_list, length-arm_list)

-- a part has no more levels than the parts together
pub ruleset level_rules = (field_within, row_within, arm_within)
