-- `records::id_in` meets its contract.
use Prim.Native.Nat.{ℕ, ◌^◌, ◌<◌}
use mathlib.Core.Path.{◌≡◌, subst}
use lib.ListN.{length, take, drop}
use native.Mathlib.Omega.{arith}
use borrow.Rule.Slice.PartMut.{mid_len}
use Rattle.model.specs.Limits.{byte_range}
use Rattle.model.specs.Bytes.{id_in}
use Rattle.records.proofs.id_in.Goals as goal

pub overflow_cast-txn : goal.overflow_cast-txn
overflow_cast-txn c =
    let s = c.args.r.now in
    let l : length (take 4 (drop 4 s)) ≡ 4 = mid_len 4 8 s (omega arith) in
    let p : c.number_in-txn.result < byte_range ^ 4 = subst (λ (n : ℕ). c.number_in-txn.result < byte_range ^ n) l c.number_in-txn.ensures.1 in
    omega arith

pub returns : goal.returns
unfolding id_in
returns c = λ z. record { clock = c.number_in-clock.ensures.0 z; txn = c.number_in-txn.ensures.0 z }
