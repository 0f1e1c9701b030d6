use Rattle.std.proofs.Common.{◌≡◌, ◌∙◌, ◌<◌, ◌-◌, ℕ, Bool, sym, ap, arith, rules, length, true, false, drop, take, length-drop, length-take}
use Rattle.std.proofs.lemmas.List.{take_all}
use Rattle.model.specs.declared.Read.{Read}
use Rattle.model.specs.Lists.{◌and◌, all}
use Rattle.model.specs.Listed.{listed_live, listed_entries}
use Rattle.model.specs.Lives.{no_read, read_key}
use Rattle.model.specs.Sound.{is_no_read}
use Rattle.soundness.specs.Parts.{named_by, set_right, reads_right}
use Rattle.soundness.proofs.Loops.{fits_low, set-split}
use Rattle.soundness.proofs.SetLoop.{key-wrong, not_good, key-next, keys-done}
use Rattle.soundness.proofs.reads_right.Goals.{After-from-n, then-not-key_fits-via-then-not-key_fits, then-not-key_fits-via-else-not-key_fits+then-not-is_named}
use Rattle.soundness.proofs.reads_right.Goals as goal

abbrev named : After-from-n → Read → Bool
named c = named_by (listed_entries c.args.entries.now) c.args.txns.now

-- a set whose first n are tested: right where these are, and the others zero
tested : (c : After-from-n) (b : Bool) → set_right read_key (named c) is_no_read 0 c.from-n.result (take c.from-n.result c.args.l.now.reads) ≡ b
    → reads_right (named c) (listed_live c.args.l.now) ≡ (b and all is_no_read (drop c.from-n.result c.args.l.now.reads))
tested c b e =
    let n = c.from-n.result in
    let rs = c.args.l.now.reads in
    ap (λ (m : ℕ). set_right read_key (named c) is_no_read 0 m rs) (sym c.from-n.ensures)
    ∙ set-split read_key (named c) is_no_read 0 n rs ∙ ap (λ (x : Bool). x and all is_no_read (drop n rs)) e

pub loop-read-init : goal.loop-read-init
loop-read-init c =
    let n = c.from-n.result in
    let e : n ≡ n - 0 = omega arith in
    ap (λ (m : ℕ). set_right read_key (named (goal.at.loop-read-init c).After-from-n) is_no_read 0 m (take n c.args.l.now.reads)) e

pub returns-then-not-key_fits : goal.returns-then-not-key_fits
unfolding ◌and◌
returns-then-not-key_fits c =
    let a = (goal.at.returns-then-not-key_fits c).After-from-n in
    let n = c.from-n.result in
    let xs = take n c.args.l.now.reads in
    let l = c.loop-read in
    let o : l.read-index < n = omega (arith, c.loop-read-test.true, length-take n c.args.l.now.reads) in
    sym (
    tested a false (
    elim c.then-not-key_fits.branch [
      | then-not-key_fits-via-then-not-key_fits w ↦ key-wrong read_key (named a) is_no_read n xs l.low l.read-index l.invariant no_read o c.loop-read-test.true (sym c.key_fits.ensures ∙ w.if-not-key_fits.true)
      | then-not-key_fits-via-else-not-key_fits+then-not-is_named w ↦ not_good read_key (named a) is_no_read n xs l.low l.read-index l.invariant no_read o c.loop-read-test.true (sym c.key_fits.ensures ∙ w.if-not-key_fits.false)
          (sym w.is_named.ensures ∙ w.if-not-is_named.true)
    ]
    )
    )

pub overflow_add-low : goal.overflow_add-low
overflow_add-low c = record { fits = omega (arith, fits_low _ _ (sym c.key_fits.ensures ∙ c.if-not-key_fits.false)) }

pub loop-read-preserved : goal.loop-read-preserved
loop-read-preserved c =
    let a = (goal.at.loop-read-preserved c).After-from-n in
    let n = c.from-n.result in
    let l = c.loop-read in
    key-next read_key (named a) is_no_read n (take n c.args.l.now.reads) l.low l.read-index l.invariant no_read (omega (arith, c.loop-read-test.true, length-take n c.args.l.now.reads)) c.loop-read-test.true
    (sym c.key_fits.ensures ∙ c.if-not-key_fits.false) (sym c.is_named.ensures ∙ c.if-not-is_named.false)

pub returns : goal.returns
unfolding ◌and◌
returns c =
    let a = (goal.at.returns c).After-from-n in
    let n = c.from-n.result in
    let rs = c.args.l.now.reads in
    let l = c.loop-read in
    let long : length rs ≡ 16 = search rules in
    c.no_reads.ensures ∙ ap (all is_no_read) (take_all (16 - n) (drop n rs) (omega (arith, long, length-drop n rs)))
    ∙ sym (tested a true (keys-done read_key (named a) is_no_read n (take n rs) l.low l.read-index l.invariant (omega (arith, c.loop-read-test.false))))
