use Rattle.std.proofs.Common.{◌≡◌, ◌∷◌, ◌++◌, [], List, ℕ, true, None, sym, ◌∙◌, ap, subst}
use Rattle.indexmap.proofs.CallerLemmas.{insert_entry-new}
use Rattle.lens_types.specs.Earlier.{known}
use Rattle.lens_types.specs.Entries.{earlier_tree, are_measured, is_measured, stands_for}
use Rattle.lens_types.specs.declared.known.Known.{Known}
use Rattle.lens_types.proofs.Entries.{measured_last, with_last, no_key}
use Rattle.lens_types.proofs.earlier.Earlier.add.Goals as goal

pub invariant_of-self-2 : goal.invariant_of-self-2
invariant_of-self-2 c =
    let old = c.self.inside.entries in
    let name = c.args.name in
    let P : List (List ℕ × Known) → Type 0 = λ es. known (earlier_tree es) name ≡ None in
    let Q : List (List ℕ × Known) → Type 0 = λ es. is_measured (earlier_tree es) c.args.meaning ≡ true in
    let R : List (List ℕ × Known) → Type 0 = λ es. are_measured [] es ≡ true in
    let none = no_key old.entries name (subst P (sym c.self.view_is) c.requires.is_new) in
    let added = c.in_ok-insert.ensures.entries ∙ insert_entry-new _ old name c.args.meaning none in
    subst R (sym added) (measured_last [] old.entries name c.args.meaning c.self.invariant (subst Q (sym c.self.view_is) c.requires.measured))

pub returns : goal.returns
returns c =
    let old = c.self.inside.entries in
    let name = c.args.name in
    let P : List (List ℕ × Known) → Type 0 = λ es. known (earlier_tree es) name ≡ None in
    let none = no_key old.entries name (subst P (sym c.self.view_is) c.requires.is_new) in
    let added = c.in_ok-insert.ensures.entries ∙ insert_entry-new _ old name c.args.meaning none in
    ap earlier_tree added ∙ with_last [] old.entries name c.args.meaning
    ∙ ap (λ es. earlier_tree es ++ (name, stands_for (earlier_tree es) c.args.meaning) ∷ []) c.self.view_is
