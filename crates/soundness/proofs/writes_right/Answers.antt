use Rattle.std.proofs.Common.{◌≡◌, ◌≤◌, ◌-◌, ◌∙◌, sym, ap, arith, rules, length, drop, length-drop}
use Rattle.std.proofs.lemmas.List.{take_all}
use borrow.Author.Tests.{lt-leb}
use Rattle.model.specs.KeySets.{key_set}
use Rattle.model.specs.Lists.{all}
use Rattle.model.specs.Listed.{kind_of}
use Rattle.model.proofs.ListedLaws.{kind_fits}
use Rattle.soundness.specs.Parts.{is_zero}
use Rattle.soundness.proofs.PartLaws.{writes-is, writes-long}
use Rattle.soundness.proofs.writes_right.Goals.{After-from-n, Then-n-write_limit}
use Rattle.soundness.proofs.writes_right.Goals as goal

within : (c : Then-n-write_limit) → c.from-n.result ≤ 16
within c = omega (arith, c.if-n-write_limit.true, c.write_limit.ensures, (kind_fits c.args.kind).writes-fit)

pub slice_bounds-no_values-count : goal.slice_bounds-no_values-count
slice_bounds-no_values-count c = within (goal.at.slice_bounds-no_values-count c).Then-n-write_limit

pub slice_bounds-no_values-start : goal.slice_bounds-no_values-start
slice_bounds-no_values-start c = let h = within (goal.at.slice_bounds-no_values-start c).Then-n-write_limit in search rules

-- how many keys
counted : (c : After-from-n) → c.from-n.result ≡ length (key_set c.args.l.now.keys)
counted c = c.from-n.ensures ∙ c.key_count.ensures

pub returns-then-n-write_limit : goal.returns-then-n-write_limit
returns-then-n-write_limit c =
    let n = c.from-n.result in
    let vs = c.args.l.now.values in
    let long : length vs ≡ 16 = search rules in
    c.no_values.ensures ∙ ap (all is_zero) (take_all (16 - n) (drop n vs) (omega (arith, long, length-drop n vs)))
    ∙ sym (writes-is (kind_of c.args.kind) c.args.l.now n (counted (goal.at.returns-then-n-write_limit c).After-from-n) (omega (arith, c.if-n-write_limit.true, c.write_limit.ensures)))

pub returns-else-n-write_limit : goal.returns-else-n-write_limit
returns-else-n-write_limit c =
    lt-leb c.from-n.result c.write_limit.result c.if-n-write_limit.false
    ∙ sym (writes-long (kind_of c.args.kind) c.args.l.now c.from-n.result (counted (goal.at.returns-else-n-write_limit c).After-from-n) (omega (arith, c.if-n-write_limit.false, c.write_limit.ensures)))
