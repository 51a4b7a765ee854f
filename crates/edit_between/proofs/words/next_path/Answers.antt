use Rattle.std.proofs.Common.{◌≡◌, ℕ, ◌+◌, ◌-◌, ◌<◌, ◌≤◌, List, [], ◌∷◌, ◌++◌, length, take, drop, get_or, sym, ap, subst, ◌∙◌, arith}
use Rattle.edit_inverse.specs.Paths.{next_number, next_path}
use Rattle.edit_inverse.proofs.Building.{number-there, number-none, low-next, any-default, number-low}
use Rattle.edit_between.proofs.words.next_path.Goals as goal
use Rattle.edit_between.proofs.words.next_path.Goals.{then-parent-len, else-parent-len}

pub returns : goal.returns
returns c =
    let path = c.args.path.items in
    let parent = c.args.depth - 1 in
    let number = c.if-parent-len.number in
    let is : number ≡ next_number (drop parent path) =
    elim c.if-parent-len.branch [
      | then-parent-len w ↦
          let in-path : parent < length path = omega (arith, w.if-parent-len.true, c.len.ensures) in
          let same = any-default path parent w.index.result.now 0 in-path in
          let e : number ≡ get_or path parent 0 + 1 = omega (arith, w.number-is, w.index.ensures, same) in
          e ∙ sym (number-there path parent in-path)
      | else-parent-len w ↦
          let past : length path ≤ parent = omega (arith, w.if-parent-len.false, c.len.ensures) in
          w.number-is ∙ sym (number-none path parent past)
    ] in
    let made : c.push.new.self.items ≡ next_path path c.args.depth =
    c.in_ok-push.ensures.items
    ∙ (ap (λ (l : List ℕ). l ++ number ∷ []) c.truncate.ensures.items
    ∙ ap (λ (n : ℕ). take parent path ++ n ∷ []) is) in
    let low = number-low path parent c.args.nodes c.requires.low in
    let F : List ℕ → Type 0 = λ q. (k : ℕ) → get_or q k 0 < c.args.nodes + 1 in
    (made, subst F (sym made) (low-next path parent (next_number (drop parent path)) c.args.nodes low c.requires.low))
