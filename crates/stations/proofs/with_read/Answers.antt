-- `stations::with_read` meets its contract. Assumes nothing.
use mathlib.Core.Path.{◌≡◌}
use lib.ListN.{length}
use native.Mathlib.Omega.{arith}
use Rattle.model.specs.Listed.{listed_live}
use Rattle.model.specs.Lives.{reads_of}
use Rattle.stations.proofs.Sets.{read-replaced, read-room, read-added, read-place-within}
use Rattle.stations.proofs.with_read.Goals.{else-at-n-via-then-at-n+else-key-l, else-at-n-via-else-at-n}
use Rattle.stations.proofs.with_read.Goals as goal

pub returns-then-key-l : goal.returns-then-key-l
unfolding reads_of
returns-then-key-l c =
    let long : length c.args.l.reads ≡ 16 = c.well_formed.0.1.1.1.1.1.1.1.0.1.0.1 in
    read-replaced (listed_live c.args.l) c.requires.reads_fit c.requires.l_value _ (record { key = c.args.key; id = c.args.id }) long (rw c.from-n.ensures at c.place_for-at.ensures) (omega (arith, c.if-at-n.true, c.from-n.ensures)) c.if-key-l.true

pub join-requires : goal.join-requires
unfolding reads_of
join-requires c =
    let long : length c.args.l.reads ≡ 16 = c.well_formed.0.1.1.1.1.1.1.1.0.1.0.1 in
    let place = rw c.from-n.ensures at c.place_for-at.ensures in
    let room = read-room (listed_live c.args.l) c.requires.reads_fit c.requires.l_value _ (record { key = c.args.key; id = c.args.id }) long place
    (elim c.else-at-n.branch [ else-at-n-via-then-at-n+else-key-l w ↦ λ o. w.if-key-l.false | else-at-n-via-else-at-n w ↦ λ o e. omega (arith, w.if-at-n.false, c.from-n.ensures) ]) c.requires.read_count_value in
    omega (arith, long, room, read-place-within (listed_live c.args.l) _ _ place)

pub returns-else-at-n : goal.returns-else-at-n
unfolding reads_of
returns-else-at-n c =
    let long : length c.args.l.reads ≡ 16 = c.well_formed.0.1.1.1.1.1.1.1.0.1.0.1 in
    rw (c.join.ensures, long)
    (read-added (listed_live c.args.l) c.requires.reads_fit c.requires.l_value _ (record { key = c.args.key; id = c.args.id }) long (rw c.from-n.ensures at c.place_for-at.ensures)
    (elim c.else-at-n.branch [ else-at-n-via-then-at-n+else-key-l w ↦ λ o. w.if-key-l.false | else-at-n-via-else-at-n w ↦ λ o e. omega (arith, w.if-at-n.false, c.from-n.ensures) ]) c.requires.read_count_value)
