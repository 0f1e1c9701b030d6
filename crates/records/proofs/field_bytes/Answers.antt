-- `records::field_bytes` meets its contract.
use Prim.Native.Nat.{◌≤◌}
use mathlib.Core.Path.{sym, ap, subst, ◌∙◌}
use lib.ListN.{length}
use borrow.Author.Rules.{rules}
use Rattle.model.specs.declared as machine
use Rattle.model.specs.Limits.{keys_size}
use Rattle.model.specs.Bytes.{bytes}
use Rattle.model.specs.KeySets.{key_set}
use Rattle.model.specs.Listed.{kind_of}
use Rattle.model.proofs.KeySetLaws.{set-number}
use Rattle.records.proofs.field_bytes.Goals as goal

pub key_bytes-requires : goal.key_bytes-requires
unfolding kind_of
key_bytes-requires c = subst (λ (k : machine.Kind.Kind). length (key_set c.args.set) ≤ (kind_of k).write_limit) c.in-Narrow.is c.requires

pub returns-in-Narrow : goal.returns-in-Narrow
unfolding kind_of
returns-in-Narrow c = rw c.in-Narrow.is c.key_bytes.ensures

pub returns-in-Wide : goal.returns-in-Wide
unfolding kind_of
returns-in-Wide c =
    let n = c.args.set in
    rw c.in-Wide.is (c.write_number.ensures ∙ sym (ap (bytes keys_size) (set-number n (search rules))))
