-- `records::written_entry` meets its contract.
use mathlib.Core.Path.{◌≡◌, subst}
use lib.ListN.{length}
use Rattle.model.specs.declared as machine
use Rattle.model.specs.Kinds.{slot_size}
use Rattle.model.specs.Listed.{kind_of}
use Rattle.records.proofs.written_entry.Goals as goal

pub narrow_entry-requires : goal.narrow_entry-requires
unfolding kind_of
narrow_entry-requires c = record { w_len = subst (λ (k : machine.Kind.Kind). length c.args.w.now ≡ slot_size (kind_of k)) c.in-Narrow.is c.requires.w_len; f_value = c.requires.f_value }

pub wide_entry-requires : goal.wide_entry-requires
unfolding kind_of
wide_entry-requires c = record { w_len = subst (λ (k : machine.Kind.Kind). length c.args.w.now ≡ slot_size (kind_of k)) c.in-Wide.is c.requires.w_len; f_value = c.requires.f_value }

pub returns-in-Narrow : goal.returns-in-Narrow
unfolding kind_of
returns-in-Narrow c = rw c.in-Narrow.is c.narrow_entry.ensures

pub returns-in-Wide : goal.returns-in-Wide
unfolding kind_of
returns-in-Wide c = rw c.in-Wide.is c.wide_entry.ensures
