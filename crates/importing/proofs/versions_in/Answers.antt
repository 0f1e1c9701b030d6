-- `importing::versions_in` meets its contract.
use native.Mathlib.Omega.{arith}
use Rattle.importing.proofs.VersionsRead.{none_first, key-low, goes-not, goes, reading-starts, reading-full, reading-ends, reading-stops, reading-next}
use Rattle.importing.proofs.versions_in.Goals.{else-loop-n-test, then-loop-n-test+in_default}
use Rattle.importing.proofs.versions_in.Goals as goal

pub returns-in_err-first : goal.returns-in_err-first
returns-in_err-first c = rw c.from_residual.ensures (none_first _ c.in_err-first.ensures.read)

pub with_key-keys-requires : goal.with_key-keys-requires
with_key-keys-requires c = key-low _ _ c.in_ok-first.ensures.read

pub loop-n-init : goal.loop-n-init
loop-n-init c = reading-starts _ c.args.s.now c.args.slot.now _ _ _ _ _ c.requires c.in_ok-first.ensures.read c.write_version.ensures c.with_key-keys.ensures

pub returns-then-ne : goal.returns-then-ne
returns-then-ne c = reading-stops c.loop-n.invariant c.loop-n-test.true c.in-Some.ensures.read (goes-not _ _ _ c.ne.ensures c.then-ne.either)

pub with_key-keys-requires-in-loop-n : goal.with_key-keys-requires-in-loop-n
with_key-keys-requires-in-loop-n c = key-low _ _ c.in-Some.ensures.read

pub loop-n-preserved : goal.loop-n-preserved
loop-n-preserved c =
    reading-next c.loop-n.invariant c.loop-n-test.true c.in-Some.ensures.read (goes _ _ _ c.ne.ensures c.if-ne.false c.if-next-last.false)
    _ c.write_version-in-loop-n.ensures _ c.with_key-keys-in-loop-n.ensures

pub returns : goal.returns
returns c = elim c.loop-n-test.branch [
  | else-loop-n-test w ↦ reading-full c.loop-n.invariant (omega arith)
  | then-loop-n-test+in_default w ↦ reading-ends c.loop-n.invariant w.loop-n-test.true w.in_default.ensures.read
]
