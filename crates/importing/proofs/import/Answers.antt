-- `importing::import` meets its contract.
use Prim.Native.Nat.{◌≤◌}
use mathlib.Core.Path.{◌≡◌, ap, ◌∙◌}
use lib.ListN.{length, drop, length-drop}
use lib.Seq.{take_all}
use native.Mathlib.Omega.{arith}
use Rattle.std.specs.Prelude.{Ok}
use Rattle.std.proofs.lemmas.Result.{err_from_is_err_and}
use Rattle.model.specs.declared.refusal.Refusal.TheVariants.{NotAStream}
use Rattle.model.specs.Kinds.{narrow_kind, slot_size, store_size}
use Rattle.resp.specs.Imports.{unimported}
use Rattle.resp.proofs.ImportLaws.{imports}
use Rattle.importing.specs.Passes.{PassFound, BadSays}
use Rattle.importing.proofs.RoomLaws.{room-filled}
use Rattle.importing.proofs.PassLaws.{pass-none, pass-some, pass-few, import-parts, import-wrong, import-bad, import-many}
use Rattle.importing.proofs.import.Goals.{then-is_bad, else-is_bad}
use Rattle.importing.proofs.import.Goals as goal

pub returns-then-store-ne-STORE : goal.returns-then-store-ne-STORE
returns-then-store-ne-STORE c =
    let t = c.args.store.now in
    rw c.into.ensures (import-parts c.args.stream.now t (unimported 1 t) (import-wrong c.args.stream.now t c.if-store-ne-STORE.true))

pub returns-in_err-pass : goal.returns-in_err-pass
returns-in_err-pass c =
    let t = c.args.store.now in
    let p = err_from_is_err_and c.from_residual.result c.from_residual.ensures.1 in
    let h = rw c.in_err-pass.ensures.ok_part at c.in_err-pass.ensures.value in
    let e : c.in_err-pass.field-0.0 ≡ NotAStream = cc in
    let none = rw c.in_err-pass.ensures.ok_part at c.read_stream.ensures in
    rw (p.1, p.2, e) (import-parts c.args.stream.now t (unimported 27 t) (import-bad c.args.stream.now t c.if-store-ne-STORE.false none))

pub returns-then-pass-gt-SLOTS : goal.returns-then-pass-gt-SLOTS
unfolding BadSays
returns-then-pass-gt-SLOTS c =
    let bs = c.args.stream.now in
    let t = c.args.store.now in
    let l = c.if-store-ne-STORE.false in
    let p : PassFound c.in_ok-pass.pass.count c.in_ok-pass.pass.rest.now bs _ _ = rw c.in_ok-pass.ensures.ok_part at c.read_stream.ensures in
    elim c.if-is_bad.branch [
      | then-is_bad w ↦ rw (c.into-then-pass-gt-SLOTS.ensures, w.why-is) (import-parts bs t (unimported 27 t) (import-bad bs t l (pass-none p (c.is_bad.ensures.0 w.if-is_bad.true))))
      | else-is_bad w ↦
          let (ys, q) = c.is_bad.ensures.1 w.if-is_bad.false in
          rw (c.into-then-pass-gt-SLOTS.ensures, w.why-is)
          (import-parts bs t (unimported 13 t) (import-many bs t l p.transactions (pass-some p ys q) (omega (arith, p.count, c.if-pass-gt-SLOTS.true))))
    ]

pub returns : goal.returns
returns c =
    let bs = c.args.stream.now in
    let t = c.args.store.now in
    let w = c.read_stream.new.room in
    let h = c.if-pass-gt-SLOTS.false in
    let p : PassFound c.in_ok-pass.pass.count c.in_ok-pass.pass.rest.now bs _ w = rw c.in_ok-pass.ensures.ok_part at c.read_stream.ensures in
    let few : length p.transactions ≤ narrow_kind.slots = omega (arith, p.count, h) in
    let (a, b) = import-parts bs t _ (imports bs t p.transactions c.if-store-ne-STORE.false (pass-few p h) few) in
    let all : length (drop (slot_size narrow_kind) w) ≤ store_size narrow_kind = omega (arith, length-drop (slot_size narrow_kind) w, p.long) in
    (ap Ok p.count ∙ a, c.copy_from_slice.ensures.after ∙ take_all (store_size narrow_kind) (drop (slot_size narrow_kind) w) all ∙ room-filled w p.transactions _ h p.long (p.made h) ∙ b)
