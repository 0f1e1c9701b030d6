-- The transactions of a store's slots, written one after the other.
use Prim.Native.Nat.{ℕ, suc, ◌+◌, ◌*◌, ◌-◌, ◌<◌, ◌≤◌}
use mathlib.Core.Path.{◌≡◌, refl, sym, ap, ap₂, subst, ◌∙◌}
use mathlib.Core.List.{List, [], ◌∷◌, ◌++◌}
use lib.ListN.{length, take, drop, get_or, length-append}
use lib.Seq.{length-take-le, take-take, take-append_seam, get_or-append_seam, get_or-take}
use native.Mathlib.Omega.{arith}
use Rattle.model.specs.declared as machine
use Rattle.model.specs.Types.{Entry, Write}
use Rattle.model.specs.Limits.{entry_places}
use Rattle.model.specs.Kinds.{narrow_kind, slot_size, slot_start, width}
use Rattle.model.specs.Entries.{keys_of}
use Rattle.model.specs.Listed.{listed_entry, listed_entries}
use Rattle.model.specs.Records.{value_in}
use Rattle.model.specs.Slots.{slot_bytes}
use Rattle.model.proofs.ListedLaws.{zero_entry, listed-any}
use Rattle.model.proofs.SlotLaws.{slot-record}
use Rattle.reading.specs.Columns.{nth_entry}
use Rattle.resp.specs.Streams.{Transaction, transaction_text, stream_of}
use Rattle.resp.specs.Exports.{writes_at, transaction_at}
use Rattle.resp.proofs.WrittenLaws.{Bytes, wrote-bytes, Writing, writing-starts, writing-next, writing-ends}
use Rattle.decimal.proofs.WrittenLaws.{Wrote}
use Rattle.exporting.specs.Order.{backwards, AreWritten}

-- ── a slot's transaction, by its bytes alone ──
writes-part : (s : List ℕ) (d n : ℕ) (ks : List ℕ) → n + length ks ≤ width narrow_kind → writes_at (slot_bytes narrow_kind s d) 0 n ks ≡ writes_at s d n ks
unfolding writes_at
writes-part s d n [] o = refl
writes-part s d n (k ∷ ks) o =
    ap₂ (λ (r : List ℕ) (ws : List Write). record { key = k; value = value_in r } ∷ ws) (slot-record narrow_kind s d n (omega arith)) (writes-part s d (suc n) ks (omega arith))

-- as it is lent
abbrev pub lent_slot : List ℕ → ℕ → List ℕ
lent_slot s d = take (slot_size narrow_kind * d + slot_size narrow_kind - slot_size narrow_kind * d) (drop (slot_size narrow_kind * d) s)

transaction-part : (s : List ℕ) (d : ℕ) (e : Entry) → length (keys_of e) ≤ narrow_kind.write_limit → transaction_at (lent_slot s d) 0 e ≡ transaction_at s d e
unfolding transaction_at slot_bytes slot_start
transaction-part s d e o =
    let z : slot_size narrow_kind * d + slot_size narrow_kind - slot_size narrow_kind * d ≡ slot_size narrow_kind = omega arith in
    rw z (ap (λ (ws : List Write). record { id = e.id; writes = ws }) (writes-part s d 1 (keys_of e) (omega arith)))

-- ── the loop: the transactions that are left make the whole; their slots are the first so many ──
pub record Streaming (s store : List ℕ) (es : List Entry) (xs : List ℕ) (n : ℕ) (t : List ℕ) (at : ℕ) (left : List ℕ) : Type 0 where
  pub firsts : left ≡ take (length left) xs
  pub below : length left ≤ n
  pub writing : Writing s 0 (stream_of (backwards store es xs n)) t at (stream_of (backwards store es xs (length left)))
  pub room : at + 747 * length left ≤ 747 * n

pub streaming-starts : (s store : List ℕ) (es : List Entry) (xs : List ℕ) (n : ℕ) (left : List ℕ) → n ≤ length xs → left ≡ take n xs → Streaming s store es xs n s 0 left
streaming-starts s store es xs n left o e =
    let l : length left ≡ n = ap length e ∙ length-take-le n xs o in
    record {
      firsts = e ∙ ap (λ (m : ℕ). take m xs) (sym l);
      below = omega arith;
      writing = subst (λ (m : ℕ). Writing s 0 (stream_of (backwards store es xs n)) s 0 (stream_of (backwards store es xs m))) (sym l) (writing-starts s 0 (stream_of (backwards store es xs n)));
      room = omega arith;
    }

-- a slot that can be written next
pub record LastSlot (es : List machine.Entry.Entry) (t : List ℕ) (at d : ℕ) : Type 0 where
  pub low : d < entry_places
  pub some_key : 1 ≤ length (keys_of (listed_entry (get_or es d zero_entry)))
  pub keys-fit : length (keys_of (listed_entry (get_or es d zero_entry))) ≤ narrow_kind.write_limit
  pub room : at + 1024 ≤ length t

-- a turn: d is the last slot that is left
module _ (s store : List ℕ) (es : List machine.Entry.Entry) (xs : List ℕ) (n : ℕ) (t : List ℕ) (at d : ℕ) (left rest : List ℕ) (are : AreWritten (listed_entries es) n xs)
    (h : Streaming s store (listed_entries es) xs n t at left) (e : left ≡ rest ++ (d ∷ [])) (l : length s ≡ 65536) where
  abbrev m : ℕ
  m = length rest

  abbrev entry : Entry
  entry = listed_entry (get_or es d zero_entry)

  long : length left ≡ suc m
  long = ap length e ∙ length-append rest (d ∷ []) ∙ omega arith

  whole-left : rest ++ (d ∷ []) ≡ take (suc m) xs
  whole-left = sym e ∙ h.firsts ∙ ap (λ (k : ℕ). take k xs) long

  row : d ≡ get_or xs m 0
  row = sym (get_or-append_seam rest d [] 0) ∙ ap (λ (ys : List ℕ). get_or ys m 0) whole-left ∙ get_or-take (suc m) xs m 0 (omega arith)

  rest-is : rest ≡ take m xs
  rest-is = sym (take-append_seam rest (d ∷ [])) ∙ ap (take m) whole-left ∙ take-take m (suc m) xs (omega arith)

  inside : m < n
  inside = omega (arith, h.below, long)

  entry-is : nth_entry (listed_entries es) (get_or xs m 0) ≡ entry
  entry-is = ap (nth_entry (listed_entries es)) (sym row) ∙ listed-any es d

  pub last-slot : LastSlot es t at d
  last-slot = record {
    low = omega (arith, row, are.rows m inside);
    some_key = subst (λ (x : Entry). 1 ≤ length (keys_of x)) entry-is (are.some_key m inside);
    keys-fit = subst (λ (x : Entry). length (keys_of x) ≤ narrow_kind.write_limit) entry-is (are.keys-fit m inside);
    room = omega (arith, h.room, h.below, h.writing.long, long, are.fits, l);
  }

  -- what is written of the slots from the first to it, and to the one before it
  abbrev whole : List ℕ
  whole = stream_of (backwards store (listed_entries es) xs n)

  abbrev before : List Transaction
  before = backwards store (listed_entries es) xs m

  last-first : backwards store (listed_entries es) xs (length left) ≡ transaction_at store d entry ∷ before
  unfolding backwards
  last-first = ap (backwards store (listed_entries es) xs) long ∙ ap₂ (λ (k : ℕ) (x : Entry). transaction_at store k x ∷ before) (sym row) entry-is

  pub streaming-next : (u : List ℕ) (till : ℕ) → till ≤ at + 747 → Bytes t u at till (transaction_text (transaction_at (lent_slot store d) 0 entry))
      → Streaming s store (listed_entries es) xs n u till rest
  unfolding stream_of
  streaming-next u till k b =
      let w : Writing s 0 whole t at (transaction_text (transaction_at store d entry) ++ stream_of before) =
      subst (λ (ys : List Transaction). Writing s 0 whole t at (stream_of ys)) last-first h.writing in
      let p : Bytes t u at till (transaction_text (transaction_at store d entry)) =
      subst (λ (x : Transaction). Bytes t u at till (transaction_text x)) (transaction-part store d entry last-slot.keys-fit) b in
      record {
        firsts = rest-is;
        below = omega (arith, inside);
        writing = writing-next s 0 whole t at _ (stream_of before) u till w (wrote-bytes t u at till _ p) (omega (arith, last-slot.room, k, h.writing.long));
        room = omega (arith, h.room, k, long);
      }

pub streaming-ends : {s store : List ℕ} {es : List Entry} {xs : List ℕ} {n : ℕ} {t : List ℕ} {at : ℕ} {left : List ℕ} → Streaming s store es xs n t at left → length left ≡ 0
    → Wrote s t 0 at (stream_of (backwards store es xs n))
unfolding stream_of backwards
streaming-ends {s = s} {store = store} {es = es} {xs = xs} {n = n} {t = t} {at = at} h e =
    writing-ends s 0 _ t at (subst (λ (j : ℕ). Writing s 0 (stream_of (backwards store es xs n)) t at (stream_of (backwards store es xs j))) e h.writing)
