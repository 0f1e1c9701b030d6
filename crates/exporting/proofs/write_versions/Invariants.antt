-- `exporting::write_versions` meets its contract.
use Prim.Native.Nat.{◌+◌}
use mathlib.Core.Path.{◌≡◌}
use Rattle.model.specs.declared.Id.{Id}
use Rattle.model.specs.KeySets.{key_set}
use Rattle.keysets.specs.Parts.{keys_left}
use Rattle.resp.specs.Streams.{id_text}
use Rattle.exporting.proofs.VersionsLaws.{Versioning}
use Rattle.exporting.proofs.write_versions.Given as goal

-- of whichever id has this text
abbrev pub invariant-loop-n : goal.invariant-loop-n
invariant-loop-n l = (i : Id) → l.id ≡ id_text i → Versioning i l.initial.out l.start l.slot (key_set l.fn.e.keys) l.out l.at (keys_left l.n-iterator.iter) (l.n-iterator.count + 1)
