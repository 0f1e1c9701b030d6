use Rattle.std.proofs.Common.{length, ◌≡◌, ◌+◌, ◌≤◌}
use Rattle.std.specs.Slice.Iter.{chunks_rest, chunks_size}
use Rattle.runsheet.proofs.run_read.Given as goal

abbrev pub invariant-loop-block : goal.invariant-loop-block
invariant-loop-block l = record {
  size : chunks_size l.block-iterator ≡ 4096;
  kept : l.len ≤ 65;
  room : l.used ≤ 475136;
  lines : l.number + length (chunks_rest l.block-iterator) ≤ l.fn.from.number + length l.input;
  part_length : length l.part ≡ 65;
  out_length : length l.out ≡ 475136;
  store_length : length l.store ≡ length l.initial.store;
}
