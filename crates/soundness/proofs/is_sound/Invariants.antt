use Rattle.std.proofs.Common.{◌≡◌, length, take, drop}
use Rattle.model.specs.Lists.{all}
use Rattle.model.specs.Listed.{kind_of, listed_lives, listed_entries}
use Rattle.model.specs.Sound.{entry_right}
use Rattle.soundness.specs.Parts.{live_column, held_column, mark_column}
use Rattle.soundness.proofs.is_sound.Given as goal

-- entries: right so far, and their transactions in the column
abbrev pub invariant-loop-d : goal.invariant-loop-d
invariant-loop-d l = record {
  right : all (entry_right (kind_of l.kind)) (listed_entries l.fn.station.entries) ≡ all (entry_right (kind_of l.kind)) (drop l.d (listed_entries l.fn.station.entries));
  size : length l.txns ≡ 72;
  held : take l.d (drop 8 l.txns) ≡ take l.d (held_column (listed_entries l.fn.station.entries));
}

-- the columns of the live places
abbrev pub invariant-loop-k : goal.invariant-loop-k
invariant-loop-k l = record {
  size : length l.txns ≡ 72;
  mark_size : length l.marks ≡ 8;
  lives : take l.k l.txns ≡ take l.k (live_column (listed_lives l.fn.station.live));
  held : drop 8 l.txns ≡ held_column (listed_entries l.fn.station.entries);
  marks : take l.k l.marks ≡ take l.k (mark_column (listed_lives l.fn.station.live));
}
