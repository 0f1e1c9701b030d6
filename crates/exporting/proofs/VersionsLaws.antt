-- A slot's versions written key by key, and its commit after them.
use Prim.Native.Nat.{ℕ, suc, ◌+◌, ◌*◌, ◌-◌, ◌<◌, ◌≤◌}
use mathlib.Core.Path.{◌≡◌, sym, ap, ap₂, subst}
use mathlib.Core.List.{List, [], ◌∷◌, ◌++◌}
use lib.ListN.{length, take, drop}
use native.Mathlib.Omega.{arith}
use native.Mathlib.Numerals.{add-one}
use Rattle.model.specs.declared as machine
use Rattle.model.specs.declared.Id.{Id}
use Rattle.model.specs.Types.{Write}
use Rattle.model.specs.Limits.{keys, record_size, number_range}
use Rattle.model.specs.Kinds.{narrow_kind, slot_size, slot_start}
use Rattle.model.specs.KeySets.{key_set}
use Rattle.model.specs.Listed.{listed_entry}
use Rattle.model.specs.Records.{value_in, record_at}
use Rattle.model.proofs.KeySetLaws.{set-ascends}
use Rattle.decimal.specs.Digits.{digits}
use Rattle.decimal.proofs.WrittenLaws.{Wrote, wrote-more}
use Rattle.resp.specs.Streams.{slash, set_command, id_text, version_name, version_command, commit_name, commit_command, keys_text, versions_text, transaction_text}
use Rattle.resp.specs.Exports.{writes_at, transaction_at}
use Rattle.resp.proofs.LengthLaws.{version-long, commit-long}
use Rattle.resp.proofs.StoreSet.{writes-keys}
use Rattle.resp.proofs.WrittenLaws.{Bytes, wrote-bytes, bytes-wrote, Writing, writing-next, writing-ends}

-- the nth record of a slot, as it is lent
pub version-part : (s : List ℕ) (n : ℕ) → take (record_size * n + record_size - record_size * n) (drop (record_size * n) s) ≡ record_at narrow_kind s 0 n
unfolding record_at slot_start
version-part s n =
    let a : record_size * n + record_size - record_size * n ≡ record_size = omega arith in
    let b : record_size * n ≡ slot_size narrow_kind * 0 + record_size * n = omega arith in
    ap₂ (λ (x y : ℕ). take x (drop y s)) a b

-- ── the loop: the versions that are left make the whole; each takes at most 83 bytes ──
-- the versions of a slot from its nth record on, with these keys
abbrev pub versions_at : Id → List ℕ → ℕ → List ℕ → List ℕ
versions_at i slot n ks = versions_text i (writes_at slot 0 n ks)

pub record Versioning (i : Id) (s : List ℕ) (base : ℕ) (slot whole t : List ℕ) (at : ℕ) (left : List ℕ) (n : ℕ) : Type 0 where
  pub writing : Writing s base (versions_at i slot 1 whole) t at (versions_at i slot n left)
  pub room : at + 83 * length left ≤ base + 83 * length whole
  pub counted : n + length left ≡ 1 + length whole

module _ {i : Id} {s : List ℕ} {base : ℕ} {slot whole t : List ℕ} {at : ℕ} {left : List ℕ} {n : ℕ} (h : Versioning i s base slot whole t at left n) where
  module _ (o : length whole ≤ 8) {k : ℕ} {ks : List ℕ} (e : left ≡ k ∷ ks) where
    pub versioning-nth : n ≤ 8
    versioning-nth = omega (arith, h.counted, ap length e)

    module _ (r : base + 1024 ≤ length s) where
      pub versioning-room : at + 256 ≤ length t
      versioning-room = omega (arith, h.room, h.writing.long, ap length e)

      -- one version more, its id as text
      pub versioning-next : (id : List ℕ) (v : ℕ) (u : List ℕ) (till : ℕ) → k < keys → id ≡ id_text i → length id ≤ 31 → v < number_range → v ≡ value_in (record_at narrow_kind slot 0 n)
          → Bytes t u at till (set_command (118 ∷ slash ∷ digits k ++ (slash ∷ id)) (digits v)) → Versioning i s base slot whole u till ks (n + 1)
      unfolding writes_at versions_text version_command version_name
      versioning-next id v u till low is short fits at_n b =
          let w : Write = record { key = k; value = value_in (record_at narrow_kind slot 0 n) } in
          let c : set_command (118 ∷ slash ∷ digits k ++ (slash ∷ id)) (digits v) ≡ version_command i w =
          ap₂ (λ (x : List ℕ) (y : ℕ). set_command (118 ∷ slash ∷ digits k ++ (slash ∷ x)) (digits y)) is at_n in
          let m : till ≤ at + 83 = omega (arith, b.0, version-long k id v low short fits) in
          let q : Writing s base (versions_at i slot 1 whole) t at (version_command i w ++ versions_at i slot (suc n) ks) =
          subst (λ (l : List ℕ). Writing s base (versions_at i slot 1 whole) t at (versions_at i slot n l)) e h.writing in
          let p : Wrote t u at till (version_command i w) = wrote-bytes t u at till _ (subst (λ (x : List ℕ). Bytes t u at till x) c b) in
          let inside : till ≤ length s = omega (arith, versioning-room, m, h.writing.long) in
          record {
            writing = rw (add-one n) (writing-next s base _ t at (version_command i w) (versions_at i slot (suc n) ks) u till q p inside);
            room = omega (arith, h.room, m, ap length e);
            counted = omega (arith, h.counted, ap length e);
          }

  pub versioning-ends : left ≡ [] → Wrote s t base at (versions_at i slot 1 whole)
  unfolding writes_at versions_text
  versioning-ends e = writing-ends s base _ t at (subst (λ (l : List ℕ). Writing s base (versions_at i slot 1 whole) t at (versions_at i slot n l)) e h.writing)

-- ── the whole transaction ──
module _ (slot : List ℕ) (e : machine.Entry.Entry) where
  abbrev set_of : List ℕ
  set_of = key_set e.keys

  text-parts : (id : List ℕ) → id ≡ id_text e.id → versions_at e.id slot 1 set_of ++ set_command (99 ∷ slash ∷ id) (keys_text set_of) ≡ transaction_text (transaction_at slot 0 (listed_entry e))
  unfolding transaction_text transaction_at commit_command commit_name
  text-parts id is = ap₂ (λ (x ks : List ℕ). versions_at e.id slot 1 set_of ++ set_command (99 ∷ slash ∷ x) (keys_text ks)) is (sym (writes-keys slot 0 1 set_of))

  pub transaction-written : (s t u : List ℕ) (base at till : ℕ) (id : List ℕ) → base + 1024 ≤ length s → length set_of ≤ 8 → id ≡ id_text e.id → length id ≤ 31
      → at ≤ base + 83 * length set_of → Bytes s t base at (versions_at e.id slot 1 set_of) → Bytes t u at till (set_command (99 ∷ slash ∷ id) (keys_text set_of))
      → (till ≤ base + 747) × Bytes s u base till (transaction_text (transaction_at slot 0 (listed_entry e)))
  transaction-written s t u base at till id r o is short h b c =
      let m : till ≤ at + 83 = omega (arith, c.0, commit-long id set_of short (set-ascends e.keys) o) in
      let q = wrote-more s t u base at till _ _ (wrote-bytes s t base at _ b) (wrote-bytes t u at till _ c) (omega (arith, h, o, r)) in
      (omega (arith, m, h, o), bytes-wrote s u base till _ _ q (text-parts id is))
