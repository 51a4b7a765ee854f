-- Sets of lemmas for the tactics.
use Rattle.std.proofs.lemmas.List.{map-set}
use Rattle.hold_shapes.proofs.SharedItems.{item-at}
use Rattle.doc_values.proofs.Lists.{doc_list-docs_of, docs_of-doc_list, docs_tree-out, fields_tree-out, length-doc_list, length-field_list, same_length, same_at, same_field_length, same_name_at, same_ty_at, has_fields-lengths, place_of_item}

pub ruleset typing_rules = (docs_tree-out, fields_tree-out, length-doc_list, has_fields-lengths)

pub ruleset field_rules = (fields_tree-out, length-field_list)

pub ruleset same_rules = (docs_tree-out, same_length, same_at)

pub ruleset same_field_rules = (fields_tree-out, same_field_length, same_name_at, same_ty_at)

pub ruleset item_rules = (item-at)

pub ruleset place_rules = (docs_tree-out, length-doc_list, doc_list-docs_of, place_of_item)

pub ruleset initial_rules = (docs_tree-out, fields_tree-out, docs_of-doc_list)

pub ruleset layout_rules = (docs_tree-out, length-doc_list)

pub ruleset set_rules = (docs_tree-out, length-doc_list, doc_list-docs_of, map-set)

pub ruleset block_rules = (map-set)
