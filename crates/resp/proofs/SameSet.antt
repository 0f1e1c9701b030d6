-- "Export followed by import gives the same committed set." (specs/Claims)
use Prim.Native.Nat.{◌≤◌}
use mathlib.Core.Path.{◌≡◌, ap, ◌∙◌}
use mathlib.Core.List.{List}
use lib.ListN.{length, take}
use lib.Seq.{take_at}
use Rattle.std.specs.Prelude.{Ok}
use Rattle.model.specs.Kinds.{narrow_kind}
use Rattle.resp.specs.Streams.{Transaction, stream_of, CommittedSet}
use Rattle.resp.specs.Exports.{committed_set, export}
use Rattle.resp.specs.Imports.{Import, filled, import}
use Rattle.resp.specs.Claims.{SameSet}
use Rattle.resp.proofs.SlotSet.{set-short}
use Rattle.resp.proofs.StoreSet.{stored-set}
use Rattle.resp.proofs.ExportRows.{Exported, export-done}
use Rattle.resp.proofs.ReadExactly.{stream-back}
use Rattle.resp.proofs.ImportLaws.{imports}
use Rattle.resp.proofs.FilledLaws.{filled-set}

pub same_set : SameSet
same_set s t n bytes h s₂ l₂ = (ap (λ (m : Import). m.answer) done, ap (λ (m : Import). committed_set m.store) done ∙ filled-set xs fits short)
  where
    xs : List Transaction
    xs = committed_set s

    x : Exported s t n
    x = export-done s t n h

    fits : CommittedSet xs
    fits = stored-set s x.store_long bytes x.keeps

    short : length xs ≤ narrow_kind.slots
    short = set-short s

    stream : take n (export s t).target ≡ stream_of xs
    stream = ap (take n) x.target ∙ take_at (stream_of xs) _ n x.long

    done : import (take n (export s t).target) s₂ ≡ record { answer = Ok (length xs); store = filled xs }
    done = rw stream (imports (stream_of xs) s₂ xs l₂ (stream-back xs fits) short)
