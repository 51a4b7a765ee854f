-- A tree and the one with its members in byte order are read alike.
use Rattle.std.proofs.Common.{◌≡◌, ℕ, cond, bytes_eq, List, Option, Some, None, option_map, option_and_then, refl, sym, ap, ap₂, ◌∙◌}
use Rattle.json.specs.Json.{Json, Members, no_members, member}
use Rattle.json.specs.Strict.{keys}
use Rattle.doc_values.specs.Documents.{DocTree, unit, truth, pick, rec, alt, more_docs}
use Rattle.file_forms.specs.Forms.{FileFormTree, as_literal, as_bool, as_truths, as_int, as_text, as_enum, as_words, as_number, as_object, as_tagged, as_bare, as_items, as_map, FormFields, no_forms, more_forms}
use Rattle.file_forms.specs.Orders.{by_name, sorted, sorted_members}
use Rattle.file_forms.specs.Slots.{takes}
use Rattle.file_forms.specs.FileValues.{head_slot, after_head, listed_doc, keyed_doc, members_read, only_read, read, read_fields, read_tag, read_bare}
use Rattle.file_forms.proofs.Sorting.{each_sorted, each_keys, by_name-sorted}
use Rattle.file_forms.proofs.Telling.{tree_alike, literal_alike, takes_alike}
use Rattle.file_forms.proofs.MemberLiterals.{truth_alike, word_alike}
use Rattle.file_forms.proofs.Contents.{items_alike, members_alike, only_alike, head_each, after_each}

-- the document of a keyed map from its members in order
abbrev map_read : (Json → Option DocTree) → Members → Option DocTree
map_read read ms = option_and_then (keyed_doc (keys ms)) (members_read read ms)

map_alike : (read : Json → Option DocTree) → ((j : Json) → read j ≡ read (sorted j)) → (ms : Members) → map_read read (by_name ms) ≡ map_read read (by_name (sorted_members ms))
map_alike read alike ms =
    ap₂ (λ ks r. option_and_then (keyed_doc ks) r) (sym (each_keys (by_name ms))) (members_alike read alike (by_name ms))
    ∙ ap (map_read read) (sym (by_name-sorted ms))

mutual
  pub alike : (f : FileFormTree) (s : Option Json) → read f s ≡ read f (option_map sorted s)
  alike (as_literal l) s = ap (λ b. cond b (Some unit) None) (literal_alike l s)
  alike as_bool s = tree_alike (read as_bool) (λ js. refl) (λ ms. refl) s
  alike (as_truths f t) s = ap (option_map truth) (truth_alike f t s)
  alike (as_int i) s = tree_alike (read (as_int i)) (λ js. refl) (λ ms. refl) s
  alike (as_text i) s = tree_alike (read (as_text i)) (λ js. refl) (λ ms. refl) s
  alike (as_enum ns i) s = tree_alike (read (as_enum ns i)) (λ js. refl) (λ ms. refl) s
  alike (as_words ws i) s = ap (option_map pick) (word_alike ws s)
  alike (as_number i) s = tree_alike (read (as_number i)) (λ js. refl) (λ ms. refl) s
  alike (as_object fs) s =
      tree_alike (read (as_object fs)) (λ js. refl)
      (λ ms. ap (option_map rec) (fields_alike fs (by_name ms) ∙ ap (read_fields fs) (sym (by_name-sorted ms)))) s
  alike (as_tagged fs) s =
      tree_alike (read (as_tagged fs)) (λ js. refl)
      (λ ms. only_alike (read_tag fs) (λ k j. tag_alike fs k j) (by_name ms) ∙ ap (only_read (read_tag fs)) (sym (by_name-sorted ms))) s
  alike (as_bare fs) s = bare_alike fs s
  alike (as_items f) s =
      tree_alike (read (as_items f)) (λ js. ap (option_map listed_doc) (items_alike (λ j. read f (Some j)) (λ j. alike f (Some j)) js)) (λ ms. refl) s
  alike (as_map f) s =
      tree_alike (read (as_map f)) (λ js. refl) (λ ms. map_alike (λ j. read f (Some j)) (λ j. alike f (Some j)) ms) s

  fields_alike : (fs : FormFields) (ms : Members) → read_fields fs ms ≡ read_fields fs (each_sorted ms)
  fields_alike no_forms no_members = refl
  fields_alike no_forms (member k j ms) = refl
  fields_alike (more_forms n f fs) ms =
      ap₂ (λ x y. option_and_then (λ d. option_map (more_docs d) y) x)
      (alike f (head_slot n ms) ∙ ap (read f) (sym (head_each n ms)))
      (fields_alike fs (after_head n ms) ∙ ap (read_fields fs) (sym (after_each n ms)))

  tag_alike : (fs : FormFields) (k : List ℕ) (j : Json) → read_tag fs k j ≡ read_tag fs k (sorted j)
  tag_alike no_forms k j = refl
  tag_alike (more_forms n f fs) k j = ap₂ (λ x y. cond (bytes_eq n k) x y) (alike f (Some j)) (tag_alike fs k j)

  bare_alike : (fs : FormFields) (s : Option Json) → read_bare fs s ≡ read_bare fs (option_map sorted s)
  bare_alike no_forms s = refl
  bare_alike (more_forms n f fs) s =
      ap (λ b. cond b (option_map (alt n) (read f s)) (read_bare fs s)) (takes_alike f s)
      ∙ ap₂ (λ x y. cond (takes f (option_map sorted s)) (option_map (alt n) x) y) (alike f s) (bare_alike fs s)
