use Rattle.std.proofs.Common.{◌≡◌, ◌≤◌, ap, ◌∙◌, sym, subst, rules, arith}
use mir.Syntax.{w64}
use mir.Val.{SFits, to_z, of_z}
use Rattle.std.proofs.lemmas.Int.{to_z-of_z}
use Rattle.doc_values.specs.Documents.{doc_tree, docs_tree, doc_list}
use Rattle.lens_forms.specs.Forms.{form_tree}
use Rattle.edit_session.specs.Views.{triple_tree}
use Rattle.run_gen.specs.Journal.{nums_in, sum_of}
use Rattle.run_gen.specs.Invariant.{weight}
use Rattle.run_gen.proofs.Progress.{IsAt, begins, goes_on, ends}
use Rattle.run_gen.proofs.Ends.{at_most, sum_within}
use Rattle.run_gen.proofs.journal.generate.Goals as goal

pub loop-number-init : goal.loop-number-init
loop-number-init c =
    begins c.args.count c.args.seed (form_tree c.in_ok-session.session.lens.typed) (triple_tree c.in_ok-session.session.triple)
    c.in_ok-session.ensures.lens c.in_ok-session.ensures.first

pub loop-number-preserved : goal.loop-number-preserved
loop-number-preserved c =
    let now = c.loop-number in
    let next = c.in_ok-progress.progress in
    let session = c.take_entry.new.session in
    goes_on c.args.count c.args.seed now.number now.progress.seed now.progress.names now.progress.nums next.seed next.names next.nums
    (form_tree now.session.lens.typed) (form_tree session.lens.typed) (triple_tree now.session.triple) (triple_tree session.triple)
    now.invariant (ap (λ l. form_tree l.typed) c.in_ok-progress.ensures.lens) c.in_ok-progress.ensures.generated c.in_ok-progress.ensures.counted

pub sum_of-requires : goal.sum_of-requires
sum_of-requires c =
    let l = c.loop-number in
    let t = triple_tree l.session.triple in
    let small : l.number ≤ 10000 = omega arith in
    let most = at_most l.number l.progress.names l.progress.nums t small l.invariant.generated in
    let same : doc_list (docs_tree c.nums_in.result.now) ≡ nums_in t.right = c.nums_in.ensures ∙ ap (λ d. nums_in (doc_tree d)) c.right.ensures.right in
    let weigh = ap weight same in
    omega arith

pub returns-clause-summary : goal.returns-clause-summary
returns-clause-summary c =
    let l = c.loop-number in
    let form = form_tree l.session.lens.typed in
    let t = triple_tree l.session.triple in
    let last : l.number ≡ c.args.count = omega arith in
    let h = subst (λ k. IsAt c.args.count c.args.seed k l.progress.seed l.progress.names l.progress.nums form t) last l.invariant in
    let same : doc_list (docs_tree c.nums_in.result.now) ≡ nums_in t.right = c.nums_in.ensures ∙ ap (λ d. nums_in (doc_tree d)) c.right.ensures.right in
    let fits : SFits w64 c.sum_of.result = search rules in
    let total : to_z w64 (of_z w64 c.sum_of.result) ≡ sum_of (nums_in t.right) = to_z-of_z w64 c.sum_of.result fits ∙ (c.sum_of.ensures ∙ ap sum_of same) in
    rw total (ends c.args.count c.args.seed l.progress.seed l.progress.names l.progress.nums form t h)

pub returns-clause-sum : goal.returns-clause-sum
returns-clause-sum c =
    let l = c.loop-number in
    let t = triple_tree l.session.triple in
    let small : l.number ≤ 10000 = omega arith in
    let most = at_most l.number l.progress.names l.progress.nums t small l.invariant.generated in
    let within = sum_within (nums_in t.right) in
    let same : doc_list (docs_tree c.nums_in.result.now) ≡ nums_in t.right = c.nums_in.ensures ∙ ap (λ d. nums_in (doc_tree d)) c.right.ensures.right in
    let fits : SFits w64 c.sum_of.result = search rules in
    let total : to_z w64 (of_z w64 c.sum_of.result) ≡ sum_of (nums_in t.right) = to_z-of_z w64 c.sum_of.result fits ∙ (c.sum_of.ensures ∙ ap sum_of same) in
    rw total (omega arith)
