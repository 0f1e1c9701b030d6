-- A transaction's versions and commit read, and its slot made: the commit record, the version records, zeros.
use Prim.Native.Nat.{ℕ, ◌+◌, ◌*◌, ◌-◌, ◌<◌, ◌≤◌}
use mathlib.Core.Path.{◌≡◌, refl, sym, ap, ap₂, ◌∙◌}
use mathlib.Core.List.{List, ◌++◌, map, append-nil}
use mathlib.Core.Option.{some, none}
use lib.ListN.{length, take, drop, replicate, length-append, length-take, length-drop, length-map, drop_of_length-le}
use lib.Seq.{take-append-add}
use native.Mathlib.Omega.{arith}
use borrow.Rule.Slice.PartMut.{put_mid}
use Rattle.model.specs.declared.Id.{Id}
use Rattle.model.specs.Types.{Entry}
use Rattle.model.specs.Lists.{padded}
use Rattle.model.specs.Limits.{record_size}
use Rattle.model.specs.Kinds.{narrow_kind, slot_size}
use Rattle.model.specs.KeySets.{key_set}
use Rattle.model.specs.Lives.{write_key}
use Rattle.model.specs.Entries.{commit_record}
use Rattle.model.proofs.KeySetLaws.{set-ascends}
use Rattle.model.proofs.KindLaws.{narrow-fits}
use Rattle.model.proofs.RecordLaws.{length-commit}
use Rattle.resp.specs.Streams.{bulk, set_begins, set_command, commit_name, keys_text, commit_command}
use Rattle.resp.specs.Inverse.{after, closed, transaction_in}
use Rattle.resp.specs.Imports.{entry_of, version_records, slot_of}
use Rattle.resp.proofs.LengthLaws.{set-begins}
use Rattle.resp.proofs.RestLaws.{after_is}
use Rattle.resp.proofs.ThenLaws.{then_some, then-none}
use Rattle.importing.specs.Passes.{VersionsFound, TakenFound}

-- all that stands past a place filled
pub filled-past : (a : ℕ) (xs ys : List ℕ) (m : ℕ) → a ≤ length xs → m ≡ length xs - a → ys ≡ replicate m 0 → put_mid a (length xs - a) xs ys ≡ take a xs ++ replicate (length xs - a) 0
filled-past a xs ys m o q e =
    let z : length (drop a xs) ≤ length xs - a = omega (arith, length-drop a xs) in
    ap (λ (l : List ℕ). take a xs ++ (ys ++ l)) (drop_of_length-le (drop a xs) z) ∙ ap (λ (l : List ℕ). take a xs ++ l) (append-nil ys ∙ e ∙ ap (λ (k : ℕ). replicate k 0) q)

module _ {i : Id} {set : ℕ} {rest bs slot : List ℕ} (f : VersionsFound i set rest bs slot) where
  keys-count : length (key_set set) ≡ length f.writes
  keys-count = ap length (sym f.keys-are) ∙ length-map f.writes write_key

  pub keys-some : 1 ≤ length (key_set set)
  keys-some = omega (arith, keys-count, f.some-write)

  pub keys-few : length (key_set set) ≤ 8
  keys-few = omega (arith, keys-count, f.writes-fit)

  abbrev entry : Entry
  entry = record { id = i; keys = key_set set }

  commit-size : length (commit_record narrow_kind entry) ≡ record_size
  commit-size = length-commit narrow_kind entry narrow-fits (set-ascends set, keys-few)

  -- the slot with the commit record over its first
  module _ (y : List ℕ) (e : y ≡ commit_record narrow_kind entry) where
    pub filled-long : length (y ++ drop record_size slot) ≡ slot_size narrow_kind
    filled-long = omega (arith, length-append y (drop record_size slot), length-drop record_size slot, ap length e, commit-size, f.long)

    abbrev records : List ℕ
    records = version_records i f.writes

    -- and zeros past its version records
    slot-filled : (n : ℕ) → n ≡ record_size * (length (key_set set) + 1)
        → take n (y ++ drop record_size slot) ++ replicate (length (y ++ drop record_size slot) - n) 0 ≡ slot_of (record { id = i; writes = f.writes })
    unfolding slot_of padded entry_of
    slot-filled n q =
        let m = record_size * length f.writes in
        let p : n ≡ length y + m = omega (arith, q, keys-count, ap length e, commit-size) in
        let t : take n (y ++ drop record_size slot) ≡ y ++ records
        = ap (λ (k : ℕ). take k (y ++ drop record_size slot)) p ∙ take-append-add y (drop record_size slot) m ∙ ap (λ (l : List ℕ). y ++ l) f.records in
        let k : n ≡ length (y ++ records) = omega (arith, ap length t, length-take n (y ++ drop record_size slot), filled-long, q, keys-few) in
        let z : length (y ++ drop record_size slot) - n ≡ slot_size narrow_kind - length (y ++ records) = ap₂ ◌-◌ filled-long k in
        ap₂ (λ (l : List ℕ) (c : ℕ). l ++ replicate c 0) t z
        ∙ ap (λ (l : List ℕ). (l ++ records) ++ replicate (slot_size narrow_kind - length (l ++ records)) 0)
        (e ∙ ap (λ (ks : List ℕ). commit_record narrow_kind (record { id = i; keys = ks })) (sym f.keys-are))

  -- ── the commit ──
  -- what is left, by the keys
  command-left : after (commit_command i (map write_key f.writes)) rest ≡ after (commit_command i (key_set set)) rest
  command-left = ap (λ (ks : List ℕ). after (commit_command i ks) rest) f.keys-are

  pub commit-none : after (commit_command i (key_set set)) rest ≡ none → transaction_in bs ≡ none
  unfolding closed
  commit-none h = f.left ∙ then-none _ _ (command-left ∙ h)

  module _ {r : List ℕ} (h : after (commit_command i (key_set set)) rest ≡ some r) where
    shorter : length r < length bs
    unfolding commit_command set_command
    shorter =
        let c : List ℕ = bulk (commit_name i) ++ bulk (keys_text (key_set set)) in
        omega (arith, f.inside, ap length (after_is _ rest r h), length-append (set_begins ++ c) r, length-append set_begins c, ap length set-begins)

    pub taken-found : (y t : List ℕ) (n : ℕ) → y ≡ commit_record narrow_kind entry → n ≡ record_size * (length (key_set set) + 1)
        → t ≡ take n (y ++ drop record_size slot) ++ replicate (length (y ++ drop record_size slot) - n) 0 → TakenFound i r bs t
    unfolding closed
    taken-found y t n e q w = record {
      transaction = record { id = i; writes = f.writes };
      id-is = refl;
      shorter = shorter;
      read = f.left ∙ then_some _ _ r (command-left ∙ h);
      slot_is = w ∙ slot-filled y e n q;
    }
