-- `storing::store_record` meets its contract.
use Prim.Native.Nat.{ℕ, ◌<◌}
use mathlib.Core.Path.{ap, sym, ◌∙◌}
use lib.ListN.{length, get_or}
use native.Mathlib.Omega.{arith}
use Rattle.model.specs.KeySets.{key_set}
use Rattle.model.specs.Listed.{kind_of, listed_live, listed_entry}
use Rattle.model.proofs.ListedLaws.{kind_fits, written_count}
use Rattle.model.proofs.ValuedLaws.{valued-key, valued-value}
use Rattle.storing.proofs.StepRows.{commit-stored, version-stored}
use Rattle.storing.proofs.store_record.Goals.{Else-n-write_count}
use Rattle.storing.proofs.store_record.Goals as goal

pub returns-then-n-write_count : goal.returns-then-n-write_count
returns-then-n-write_count c =
    let k = c in
    let a = k.args in
    let w = c.store_commit in
    commit-stored (kind_of a.kind) (listed_live a.l) (listed_entry a.e) a.slot a.n a.store.now w.new.store (c.if-n-write_count.true ∙ k.write_count.ensures) (rw c.from-d.ensures at w.ensures)

-- a key is left to store
left : (c : Else-n-write_count) → c.args.n < length (key_set c.args.l.keys)
left c =
    let k = c in
    let s = k in
    omega (arith, c.if-n-write_count.false, k.write_count.ensures, written_count s.args.l, s.requires.n_bound.0)

pub nth_key-key-requires : goal.nth_key-key-requires
nth_key-key-requires c = rw c.from-j.ensures (left (goal.at.nth_key-key-requires c).Else-n-write_count)

pub bounds-l-j : goal.bounds-l-j
bounds-l-j c =
    let e = (goal.at.bounds-l-j c).Else-n-write_count in
    let s = e in
    let φ = kind_fits s.args.kind in
    omega (arith, c.from-j.ensures, left e, written_count s.args.l, s.requires.n_bound.1, φ.writes-fit)

pub returns : goal.returns
returns c =
    let w = c.store_version in
    let k = c in
    let e = k in
    let a = e.args in
    let ks = key_set a.l.keys in
    version-stored (kind_of a.kind) (listed_live a.l) (listed_entry a.e) a.slot a.n a.store.now w.new.store (omega (arith, left (goal.at.returns c).Else-n-write_count, written_count a.l))
    _ _ (k.nth_key-key.ensures ∙ (ap (λ (j : ℕ). get_or ks j 0) c.from-j.ensures ∙ sym (valued-key ks a.l.values a.n))) (sym (valued-value ks a.l.values a.n)) (rw (c.from-d.ensures, c.from-j.ensures) at w.ensures)
