-- What each side of a consistent triple has, and the types of the sides of a typed form.
use Rattle.std.proofs.Common.{◌≡◌, true}
use Rattle.texts.specs.declared.side.Side.{Side}
use Rattle.texts.specs.declared.side.Side.TheVariants.{Left, Right}
use Rattle.texts.specs.Sides.{other}
use Rattle.doc_values.specs.Documents.{DocTree}
use Rattle.doc_values.specs.Types.{is_well_formed}
use Rattle.doc_values.specs.Typing.{has}
use Rattle.lens_forms.specs.Forms.{FormTree}
use Rattle.lens_forms.specs.Typing.{is_typed}
use Rattle.lens_forms.proofs.TypingLaws.{left_formed, right_formed}
use Rattle.lens_core.specs.Sides.{type_on}
use Rattle.lens_core.specs.Complements.{CompTree}
use Rattle.lens_core.specs.Laws.{IsRelated}
use Rattle.lens_core.proofs.LawsOfWords.{consistent_is_typed}

pub near_has : (l : FormTree) (s : Side) (x : DocTree) (c : CompTree) (y : DocTree) → IsRelated l s x c y → has (type_on s l) x ≡ true
near_has l Left x c y h = (consistent_is_typed l x c y h).left_has
near_has l Right x c y h = (consistent_is_typed l y c x h).right_has

pub far_has : (l : FormTree) (s : Side) (x : DocTree) (c : CompTree) (y : DocTree) → IsRelated l s x c y → has (type_on (other s) l) y ≡ true
far_has l Left x c y h = (consistent_is_typed l x c y h).right_has
far_has l Right x c y h = (consistent_is_typed l y c x h).left_has

pub formed_on : (l : FormTree) → is_typed l ≡ true → (s : Side) → is_well_formed (type_on s l) ≡ true
formed_on l h Left = left_formed l h
formed_on l h Right = right_formed l h
