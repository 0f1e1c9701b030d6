use Rattle.std.proofs.Common.{length, ◌≡◌, ◌+◌, ◌*◌, ◌≤◌}
use Rattle.checklog.proofs.check_input.Given as goal

-- 2^46 reads of 2^16 bytes have at most 2^62 lines
abbrev pub invariant-loop-turn : goal.invariant-loop-turn
invariant-loop-turn l = record {
  table_length : length l.table ≡ 1280;
  part_length : length l.part ≡ 65;
  input_length : length l.input ≡ 65536;
  kept : l.len ≤ 65;
  lines : l.above + l.len ≤ 65536 * l._turn;
}
