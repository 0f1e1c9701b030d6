-- `importing::transaction_in` meets its contract.
use Prim.Native.Nat.{ℕ, ◌+◌, ◌*◌, ◌≤◌}
use mathlib.Core.Path.{◌≡◌, sym, ap}
use mathlib.Core.List.{◌++◌}
use lib.ListN.{length, take, drop, length-drop}
use lib.Seq.{length-take-le}
use lib.Count.{ones}
use borrow.Author.Rules.{rules}
use native.Mathlib.Omega.{arith}
use Rattle.model.specs.Limits.{record_size}
use Rattle.model.specs.KeySets.{key_set}
use Rattle.model.specs.Listed.{kind_of}
use Rattle.model.proofs.KeySetLaws.{set-ones}
use Rattle.importing.specs.Passes.{VersionsFound}
use Rattle.importing.proofs.SlotFilled.{keys-some, keys-few, filled-long, filled-past, commit-none, taken-found}
use Rattle.importing.proofs.transaction_in.Goals.{In_ok-e}
use Rattle.importing.proofs.transaction_in.Goals as goal

-- the keys are counted
counted : (c : In_ok-e) → length (key_set c.in_ok-e.e.keys) ≡ ones c.in_ok-e.e.keys
counted c = set-ones c.in_ok-e.e.keys (search rules)

few : (c : In_ok-e) → ones c.in_ok-e.e.keys ≤ 8
few c = omega (arith, counted c, keys-few c.in_ok-e.ensures)

front-long : (c : In_ok-e) → length (take record_size c.versions_in.new.slot) ≡ record_size
front-long c = let f : VersionsFound _ _ _ _ c.versions_in.new.slot = c.in_ok-e.ensures in length-take-le record_size c.versions_in.new.slot (omega (arith, f.long))

pub returns-in_err-e : goal.returns-in_err-e
returns-in_err-e c = rw c.from_residual.ensures c.in_err-e.ensures

pub after_commit-requires : goal.after_commit-requires
after_commit-requires c = (keys-some c.in_ok-e.ensures, keys-few c.in_ok-e.ensures)

pub returns-in_err-rest : goal.returns-in_err-rest
returns-in_err-rest c = rw c.from_residual-in_err-rest.ensures (commit-none c.in_ok-e.ensures c.in_err-rest.ensures)

pub slice_bounds-write_commit-end-2 : goal.slice_bounds-write_commit-end-2
slice_bounds-write_commit-end-2 c = sym (front-long (goal.at.slice_bounds-write_commit-end-2 c).In_ok-e)

pub write_commit-requires : goal.write_commit-requires
unfolding kind_of
write_commit-requires c = record { part_len = front-long (goal.at.write_commit-requires c).In_ok-e; keys_len_bound = keys-few c.in_ok-e.ensures }

pub slice_bounds-fill-count : goal.slice_bounds-fill-count
unfolding kind_of
slice_bounds-fill-count c = omega (arith, few (goal.at.slice_bounds-fill-count c).In_ok-e, filled-long c.in_ok-e.ensures c.write_commit.new.part c.write_commit.ensures)

pub slice_bounds-fill-start : goal.slice_bounds-fill-start
unfolding kind_of
slice_bounds-fill-start c = omega (arith, few (goal.at.slice_bounds-fill-start c).In_ok-e, filled-long c.in_ok-e.ensures c.write_commit.new.part c.write_commit.ensures)

pub returns : goal.returns
unfolding kind_of
returns c =
    let p = (goal.at.returns c).In_ok-e in
    let f = c.in_ok-e.ensures in
    let y = c.write_commit.new.part in
    let xs = y ++ drop record_size c.versions_in.new.slot in
    let at : ℕ = record_size * (ones c.in_ok-e.e.keys + 1) in
    let o : at ≤ length xs = omega (arith, few p, filled-long f y c.write_commit.ensures) in
    taken-found f c.in_ok-rest.ensures y _ at c.write_commit.ensures (ap (λ (n : ℕ). record_size * (n + 1)) (sym (counted p)))
    (filled-past at xs c.fill.new.self _ o (length-take-le _ (drop at xs) (omega (arith, length-drop at xs))) (c.fill.ensures.after (λ z e. e)))
