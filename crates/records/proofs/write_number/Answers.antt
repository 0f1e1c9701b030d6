use Prim.Native.Nat.{ℕ, suc, ◌-◌, ◌/◌, ◌%◌, ◌<◌, ◌≤◌}
use mathlib.Core.Path.{◌≡◌, sym, ap, ◌∙◌}
use mathlib.Core.List.{[], ◌∷◌, ◌++◌, append_assoc, append-nil}
use lib.ListN.{length, take}
use lib.Seq.{take-suc-set, take_all}
use native.Mathlib.Omega.{arith}
use native.Mathlib.Numerals.{add-one}
use Rattle.model.specs.Limits.{byte_range}
use Rattle.model.specs.Bytes.{bytes}
use Rattle.records.proofs.write_number.Goals as goal

-- the first byte, and those to come
bytes_next : (i n x : ℕ) → i < n → bytes (n - i) x ≡ x % byte_range ∷ bytes (n - suc i) (x / byte_range)
unfolding bytes
bytes_next i n x o = let e : n - i ≡ suc (n - suc i) = omega arith in rw e

bytes-end : (i n x : ℕ) → n ≤ i → bytes (n - i) x ≡ []
unfolding bytes
bytes-end i n x o = let e : n - i ≡ 0 = omega arith in rw e

pub loop-byte-preserved : goal.loop-byte-preserved
loop-byte-preserved c =
    let l = c.loop-byte in
    let o = bytes_next l.byte-index (length c.args.part.now) l.rest (omega arith) in
    rw (add-one l.byte-index, take-suc-set l.part l.byte-index _ (omega arith), append_assoc) (ap (λ bs. take l.byte-index l.part ++ bs) (sym o) ∙ l.invariant)

pub returns : goal.returns
returns c =
    let l = c.loop-byte in
    let e = bytes-end l.byte-index (length c.args.part.now) l.rest (omega arith) in
    sym (take_all l.byte-index l.part (omega arith)) ∙ sym (append-nil _) ∙ ap (λ bs. take l.byte-index l.part ++ bs) (sym e) ∙ l.invariant
