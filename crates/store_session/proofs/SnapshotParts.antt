-- The complement of a snapshot, as `read_comp` finds it.
use Rattle.std.proofs.Common.{◌≡◌, true, Option, Some, None, sym, ap, ◌∙◌, refl}
use Rattle.serde_json.specs.Data.{Data}
use Rattle.lens_forms.specs.Forms.{FormTree}
use Rattle.lens_forms.specs.Typing.{is_typed}
use Rattle.lens_core.specs.Complements.{CompTree, Fits}
use Rattle.complement_file.specs.ComplementJson.{tree_of_complement}
use Rattle.store_records.specs.StoredComplements.{complement_of}
use Rattle.store_records.proofs.ComplementsAreRead.{sound, read_back}

pub found : (l : FormTree) (t : Data) (c : CompTree) → is_typed l ≡ true → Fits l c → tree_of_complement l c ≡ t → Some c ≡ complement_of l t
found l t c typed fits is = sym (ap (complement_of l) (sym is) ∙ read_back l typed c fits)

none_step : (l : FormTree) (t : Data) (o : Option CompTree) → complement_of l t ≡ o → ((c : CompTree) → Fits l c → tree_of_complement l c ≡ t → ⊥) → None ≡ o
none_step l t None e none = refl
none_step l t (Some c) e none = let p = sound l t c e in absurd (none c p.0 p.1)

pub none_found : (l : FormTree) (t : Data) → ((c : CompTree) → Fits l c → tree_of_complement l c ≡ t → ⊥) → None ≡ complement_of l t
none_found l t none = none_step l t (complement_of l t) refl none
