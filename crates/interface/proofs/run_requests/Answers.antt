use Prim.Native.Nat.{◌+◌, ◌*◌, ◌-◌, ◌<◌, ◌≤◌}
use mathlib.Core.Path.{◌≡◌, refl, sym, ap, ◌∙◌}
use mathlib.Core.Bool.{true, false}
use lib.ListN.{length, take, drop}
use borrow.Author.Rules.{rules}
use borrow.Rule.Slice.PartMut.{mid_len, same_len_mid}
use native.Mathlib.Omega.{arith}
use Rattle.model.specs.Listed.{kind_of}
use Rattle.model.specs.Limits.{live_places, entry_places}
use Rattle.model.specs.Sound.{sound}
use Rattle.model.proofs.SoundKept.{sound-scan}
use Rattle.stations.specs.Changes.{changed_by}
use Rattle.stations.proofs.Changes.{is-inside}
use Rattle.desk.specs.declared.Request.{Request}
use Rattle.desk.specs.Acts.{call_of, asks_scan}
use Rattle.desk.proofs.ActLaws.{not-sweep}
use Rattle.interface.specs.declared.Current.{Current}
use Rattle.interface.specs.Exchange.{request_size, answer_size, requests_in}
use Rattle.interface.specs.Parts.{held_of}
use Rattle.interface.proofs.RunLaws.{scan-run, scan-answered, sweep-run, sweep-answered, sweep-tested, change-run, change-answered, change-tested, passed_none, passed-more, passed-all}
use Rattle.interface.proofs.run_requests.Goals.{After-decide-change, In-loop-i}
use Rattle.interface.proofs.run_requests.Invariants.{held}
use Rattle.interface.proofs.run_requests.Goals as goal

pub loop-i-init : goal.loop-i-init
loop-i-init c =
    (omega arith, refl, refl, c.requires.tested_value, passed_none _ c.args.requests.now _ c.args.answers.now)

-- room for the answer
room : (c : In-loop-i) → answer_size * c.loop-i.i + answer_size ≤ length c.loop-i.answers
room c = omega (arith, c.loop-i-test.true, c.loop-i.invariant.1, c.requires.request_size_len.1)

pub loop-i-preserved-then-asks_scan : goal.loop-i-preserved-then-asks_scan
loop-i-preserved-then-asks_scan c =
    let r = c.run_scan-found in
    let n = c.asks_scan in
    let m = c.command_in-command in
    let l = c.loop-i in
    let o = c.loop-i-test.true in
    let w = room (goal.at.loop-i-preserved-then-asks_scan c).In-loop-i in
    let q = take (request_size * l.i + request_size - request_size * l.i) (drop (request_size * l.i) c.args.requests.now) in
    let h : Current = record { whole = l.whole; tested = l.tested; station = l.station } in
    let d : Request = record { command = m.result; tested = l.tested } in
    let k : asks_scan (call_of m.result) ≡ true = sym n.ensures ∙ c.if-asks_scan.true in (
      omega (arith, o),
      same_len_mid (answer_size * l.i) (answer_size * l.i + answer_size - answer_size * l.i) l.answers r.new.out r.auto.out ∙ l.invariant.1,
      l.invariant.2,
      r.ensures.1 ∙ sym (sound-scan (kind_of l.station.kind) l.store) ∙ ap sound (sym r.ensures.2),
      passed-more _ c.args.requests.now _ _ l.i (held_of h l.store) l.answers l.invariant.4 o w (held_of r.result l.store) r.new.out
          (r.auto.out ∙ mid_len (answer_size * l.i) (answer_size * l.i + answer_size) l.answers w ∙ omega arith)
          (scan-run q h l.store d m.ensures k r.result r.ensures.0 r.ensures.2)
          (r.ensures.3 ∙ scan-answered q h l.store d m.ensures k),
    )

pub loop-i-preserved-in-Sweep : goal.loop-i-preserved-in-Sweep
loop-i-preserved-in-Sweep c =
    let r = c.run_sweep-station in
    let z = c.in-Sweep.is in
    let m = c.command_in-command in
    let l = c.loop-i in
    let o = c.loop-i-test.true in
    let w = room (goal.at.loop-i-preserved-in-Sweep c).In-loop-i in
    let q = take (request_size * l.i + request_size - request_size * l.i) (drop (request_size * l.i) c.args.requests.now) in
    let h : Current = record { whole = l.whole; tested = l.tested; station = l.station } in
    let d : Request = record { command = m.result; tested = l.tested } in (
      omega (arith, o),
      same_len_mid (answer_size * l.i) (answer_size * l.i + answer_size - answer_size * l.i) l.answers r.new.out r.auto.out ∙ l.invariant.1,
      r.auto.store ∙ l.invariant.2,
      sweep-tested q h l.store d m.ensures _ z l.invariant.3 r.result r.ensures.0,
      passed-more _ c.args.requests.now _ _ l.i (held_of h l.store) l.answers l.invariant.4 o w _ r.new.out
          (r.auto.out ∙ mid_len (answer_size * l.i) (answer_size * l.i + answer_size) l.answers w ∙ omega arith)
          (sweep-run q h l.store d m.ensures _ z l.tested r.result r.ensures.0 r.new.store r.ensures.1)
          (r.ensures.2 ∙ sweep-answered q h l.store d m.ensures _ z),
    )

pub decide-change-requires : goal.decide-change-requires
decide-change-requires c = (c.loop-i.invariant.3, sym c.asks_scan.ensures ∙ c.if-asks_scan.false, not-sweep c.command_in-command.result c.in_default.not-Sweep)

-- the change's place and slot are there
inside : (c : After-decide-change) → (c.decide-change.result.place < live_places) × (c.decide-change.result.slot < entry_places)
inside c = is-inside _ _ _ c.decide-change.ensures.0

pub offset_bounds-station-change : goal.offset_bounds-station-change
offset_bounds-station-change c = omega (arith, inside (goal.at.offset_bounds-station-change c).After-decide-change)

pub bounds-station-change : goal.bounds-station-change
bounds-station-change c = omega (arith, inside (goal.at.bounds-station-change c).After-decide-change)

pub offset_bounds-station-change-in-loop-i : goal.offset_bounds-station-change-in-loop-i
offset_bounds-station-change-in-loop-i c = omega (arith, inside (goal.at.offset_bounds-station-change-in-loop-i c).After-decide-change)

pub bounds-station-change-in-loop-i : goal.bounds-station-change-in-loop-i
bounds-station-change-in-loop-i c = omega (arith, inside (goal.at.bounds-station-change-in-loop-i c).After-decide-change)

-- the answer's end is a number
ends : (c : In-loop-i) → answer_size * c.loop-i.i + answer_size < 18446744073709551616
ends c = search rules

pub overflow_add-to-in-loop-i : goal.overflow_add-to-in-loop-i
overflow_add-to-in-loop-i c = omega (arith, ends (goal.at.overflow_add-to-in-loop-i c).In-loop-i)

pub slice_bounds-write_answer-end : goal.slice_bounds-write_answer-end
slice_bounds-write_answer-end c = omega (arith, room (goal.at.slice_bounds-write_answer-end c).In-loop-i)

pub loop-i-preserved : goal.loop-i-preserved
unfolding changed_by
loop-i-preserved c =
    let y = c.write_answer in
    let r = c.decide-change in
    let n = c.asks_scan in
    let m = c.command_in-command in
    let l = c.loop-i in
    let o = c.loop-i-test.true in
    let w = room (goal.at.loop-i-preserved c).In-loop-i in
    let q = take (request_size * l.i + request_size - request_size * l.i) (drop (request_size * l.i) c.args.requests.now) in
    let h : Current = record { whole = l.whole; tested = l.tested; station = l.station } in
    let d : Request = record { command = m.result; tested = l.tested } in
    let k : asks_scan (call_of m.result) ≡ false = sym n.ensures ∙ c.if-asks_scan.false in (
      omega (arith, o),
      same_len_mid (answer_size * l.i) (answer_size * l.i + answer_size - answer_size * l.i) l.answers y.new.out y.auto.out ∙ l.invariant.1,
      r.auto.store ∙ l.invariant.2,
      change-tested q h l.store d m.ensures k r.result r.ensures.0 l.invariant.3,
      passed-more _ c.args.requests.now _ _ l.i (held_of h l.store) l.answers l.invariant.4 o w _ y.new.out
          (y.auto.out ∙ mid_len (answer_size * l.i) (answer_size * l.i + answer_size) l.answers w ∙ omega arith)
          (change-run q h l.store d m.ensures k r.result r.ensures.0 l.tested r.new.store r.ensures.1)
          (y.ensures ∙ change-answered q h l.store d m.ensures k r.result r.ensures.0),
    )

pub returns : goal.returns
unfolding requests_in
returns c =
    let l = c.loop-i in
    passed-all _ c.args.requests.now _ _ l.i (held l.whole l.tested l.station l.store) l.answers l.invariant.4 (omega arith) (omega (arith, l.invariant.1, c.requires.request_size_len.1, c.loop-i-test.false))
