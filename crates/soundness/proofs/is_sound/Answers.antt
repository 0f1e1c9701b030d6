use Rattle.std.proofs.Common.{List, ◌<◌, ◌≡◌, ◌∙◌, sym, refl, arith, length, length-set}
use Rattle.std.proofs.lemmas.List.{length-map}
use Rattle.std.proofs.lemmas.Grind.{common_steps}
use lib.Seq.{drop-set-lt}
use Rattle.model.specs.Types.{Live, Entry}
use Rattle.model.specs.Lists.{◌and◌, all, distinct}
use Rattle.model.specs.Entries.{no_entry}
use Rattle.model.specs.Kinds.{Kind}
use Rattle.model.specs.Listed.{kind_of, listed_live, listed_lives, listed_entries, listed}
use Rattle.model.specs.Sound.{entry_right, sound}
use Rattle.model.proofs.RestLaws.{all_more, all-stop, all_end}
use Rattle.model.proofs.ListedLaws.{kind_fits, listed-length}
use Rattle.soundness.specs.Parts.{place_fits, slot_free, none_past}
use Rattle.soundness.proofs.PartLaws.{right-listed, held_more, held-end, live_more, txns-end, marks-more, marks-end}
use Rattle.soundness.proofs.Whole.{sound-wrong, sound-by}
use Rattle.soundness.proofs.is_sound.Goals.{Start, After-slots-most}
use Rattle.soundness.proofs.is_sound.Goals as goal

abbrev lives : Start → List Live
lives s = listed_lives s.args.station.live

abbrev entries : Start → List Entry
entries s = listed_entries s.args.station.entries

abbrev kind : Start → Kind
kind s = kind_of s.args.station.kind

lives-long : (s : Start) → length (lives s) ≡ 8
lives-long s = length-map s.args.station.live listed_live ∙ s.well_formed.0.1.1.0.1.0.1

entries-long : (s : Start) → length (entries s) ≡ 64
entries-long s = listed-length s.args.station.entries ∙ s.well_formed.0.1.1.1.0.1.0.1

pub loop-d-init : goal.loop-d-init
loop-d-init c = record { right = refl; size = refl; held = refl }

pub returns-then-not-entry_right : goal.returns-then-not-entry_right
returns-then-not-entry_right c =
    let s = (goal.at.returns-then-not-entry_right c).Start in
    let d = c.loop-d.d in
    sym (
    sound-wrong (listed c.args.station) (lives-long s) (entries-long s) (
    c.loop-d.invariant.right
    ∙ all-stop (entry_right (kind s)) (entries s) d no_entry (omega (arith, c.loop-d-test.true, entries-long s)) (right-listed (kind s) c.args.station.entries d ∙ sym c.entry_right.ensures ∙ c.if-not-entry_right.true)
    )
    )

pub loop-d-preserved : goal.loop-d-preserved
loop-d-preserved c =
    let s = (goal.at.loop-d-preserved c).Start in
    let es = c.args.station.entries in
    let l = c.loop-d in
    let within : l.d < 64 = omega arith in
    record {
      right = l.invariant.right ∙ all_more (entry_right (kind s)) (entries s) l.d no_entry (omega (arith, within, entries-long s)) (right-listed (kind s) es l.d ∙ sym c.entry_right.ensures ∙ c.if-not-entry_right.false);
      size = simp length-set l.invariant.size;
      held = held_more l.txns es l.d l.invariant.size (entries-long s) within l.invariant.held;
    }

pub loop-k-init : goal.loop-k-init
loop-k-init c =
    let s = (goal.at.loop-k-init c).Start in
    let l = c.loop-d in
    record {
      size = l.invariant.size;
      mark_size = refl;
      lives = refl;
      held = held-end l.txns (entries s) l.d l.invariant.size (entries-long s) (omega arith) l.invariant.held;
      marks = refl;
    }

pub loop-k-preserved : goal.loop-k-preserved
loop-k-preserved c =
    let s = (goal.at.loop-k-preserved c).Start in
    let ls = c.args.station.live in
    let l = c.loop-k in
    let within : l.k < 8 = omega arith in
    record {
      size = simp length-set l.invariant.size;
      mark_size = simp length-set l.invariant.mark_size;
      lives = live_more l.txns ls l.k l.invariant.size (lives-long s) within l.invariant.lives;
      held = drop-set-lt 8 l.txns l.k _ within ∙ l.invariant.held;
      marks = marks-more l.marks ls l.k _ l.invariant.mark_size (lives-long s) within c.slot_mark.ensures l.invariant.marks;
    }

pub slots_free-requires : goal.slots_free-requires
slots_free-requires c = rw c.slots-most.ensures (kind_fits _).slots-fit

pub none_past-requires : goal.none_past-requires
none_past-requires c = rw c.slots-most.ensures (kind_fits _).slots-fit

whole : (c : After-slots-most) → (kind_of c.args.station.kind).slots ≡ c.slots-most.result → sound (listed c.args.station)
    ≡ (distinct c.loop-k.txns and all (place_fits (kind_of c.args.station.kind) (listed_entries c.args.station.entries) c.loop-k.txns) (listed_lives c.args.station.live) and distinct c.loop-k.marks
    and all (slot_free c.slots-most.result c.loop-k.txns) c.loop-k.marks and none_past c.slots-most.result c.loop-k.txns)
whole c e =
    let s = (goal.at.After-slots-most c).Start in
    let l = c.loop-k in
    sound-by (listed c.args.station) (lives-long s) (entries-long s) l.txns l.marks c.slots-most.result
    (sym (txns-end l.txns (lives s) (entries s) l.k (lives-long s) (omega arith) l.invariant.lives l.invariant.held))
    (sym (marks-end l.marks (lives s) l.k l.invariant.mark_size (lives-long s) (omega arith) l.invariant.marks))
    e
    (c.loop-d.invariant.right ∙ all_end (entry_right (kind s)) (entries s) c.loop-d.d (omega (arith, c.loop-d-test.false, entries-long s)))

pub returns-then-slots_free : goal.returns-then-slots_free
unfolding ◌and◌
returns-then-slots_free c = rw (whole (goal.at.returns-then-slots_free c).After-slots-most (sym c.slots-most.ensures)) (grind (arith, common_steps))

pub returns-else-slots_free : goal.returns-else-slots_free
unfolding ◌and◌
returns-else-slots_free c = rw (whole (goal.at.returns-else-slots_free c).After-slots-most (sym c.slots-most.ensures)) (grind (arith, common_steps))
