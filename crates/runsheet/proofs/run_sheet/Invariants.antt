use Rattle.std.proofs.Common.{length, ◌≡◌, ◌+◌, ◌*◌, ◌≤◌}
use Rattle.runsheet.proofs.run_sheet.Given as goal

-- 2^46 reads of 2^16 bytes have at most 2^62 lines
abbrev pub invariant-loop : goal.invariant-loop
invariant-loop l = record {
  part_length : length l.part ≡ 65;
  input_length : length l.input ≡ 65536;
  out_length : length l.out ≡ 475136;
  store_length : length l.store ≡ length l.initial.store;
  kept : l.progress.len ≤ 65;
  lines : l.progress.number ≤ 1 + 65536 * l.counter;
}
