use Rattle.std.proofs.Common.{◌≡◌, ◌∷◌, ◌++◌, cond, string_bytes, w64, to_z, pos, sym, ap, ◌∙◌}
use Rattle.std.proofs.lemmas.Int.{to_z-of_z}
use Rattle.std.proofs.lemmas.Result.{on_ok_weaker}
use Rattle.std.specs.Fmt.{signed_decimal}
use Rattle.program_writing.specs.Canonical.{put_initial_number}
use Rattle.program_writing.proofs.InitialTokens.{not_zero}
use Rattle.program_writing.proofs.initial_text.put_initial_number.Goals as goal

pub returns-then-value-eq0 : goal.returns-then-value-eq0
unfolding put_initial_number
returns-then-value-eq0 c = λ rest.
    let zero : c.args.value ≡ pos 0 = sym (to_z-of_z w64 c.args.value c.ranges.value) ∙ ap (to_z w64) c.if-value-eq0.true in
    ap (λ z. string_bytes c.args.out.now ++ put_initial_number z rest) (sym zero)

pub returns : goal.returns
unfolding put_initial_number
returns c =
    let z = c.args.value in
    on_ok_weaker c.put_number.result (λ puts rest.
    puts rest
    ∙ ap (λ y. string_bytes c.put_text.new.out ++ (signed_decimal y ++ rest)) (to_z-of_z w64 z c.ranges.value)
    ∙ c.in_ok-put_text.ensures {u = tt} (signed_decimal z ++ rest)
    ∙ ap (λ b. string_bytes c.args.out.now ++ cond b rest (32 ∷ 61 ∷ 32 ∷ (signed_decimal z ++ rest))) (sym (not_zero z c.if-value-eq0.false))) c.put_number.ensures
