-- The transactions of a store's slots (specs/Exports): each committed slot's, and no others.
use Prim.Native.Nat.{ℕ, zero, suc, ◌+◌, ◌<◌, ◌≤◌}
use mathlib.Core.Path.{◌≡◌, refl, sym, ap, ◌∙◌}
use mathlib.Core.Logic.{◌≢◌, ⊎_elim}
use mathlib.Core.List.Memᴰ
use mathlib.Core.List.{List, [], ◌∷◌, Memᴰ}
use lib.ListN.{length}
use native.Mathlib.Nat.{lt_irrefl, le_refl}
use native.Mathlib.Decide.{ℕ_discrete}
use native.Mathlib.Omega.{arith}
use Rattle.model.specs.declared.Id.{Id}
use Rattle.model.specs.Types.{Entry}
use Rattle.model.specs.Lists.{from}
use Rattle.model.specs.Kinds.{narrow_kind}
use Rattle.model.specs.Slots.{Seen, free, committed, damaged, seen}
use Rattle.model.specs.Scan.{slots_seen}
use Rattle.model.proofs.SlotLaws.{committed-injective, committed≢free, committed≢damaged}
use Rattle.model.proofs.ScanLaws.{seen-length, KeepsRules}
use Rattle.resp.specs.Streams.{Transaction}
use Rattle.resp.specs.Exports.{transaction_at, transactions_from, committed_set}
use Rattle.resp.proofs.AgeLaws.{Apart, Ascends, aged-mem, mem-aged, aged-length, aged-apart, aged-ascends}

abbrev pub txn_of : Transaction → ℕ
txn_of x = x.id.txn

-- transactions of different numbers have different ids
pub apart-ids : (xs : List Transaction) → Apart txn_of xs → Apart (λ (x : Transaction). x.id) xs
apart-ids [] a = tt
apart-ids (x ∷ xs) a = (λ y m e. a.0 y m (ap (λ (i : Id). i.txn) e), apart-ids xs a.1)

-- z is the transaction of a committed slot, from slot d to before slot n
pub record IsHeld (f : ℕ → Seen) (s : List ℕ) (d n : ℕ) (z : Transaction) : Type 0 where
  pub slot : ℕ
  pub low : d ≤ slot
  pub high : slot < n
  pub entry : Entry
  pub seen_as : f slot ≡ committed entry
  pub is : z ≡ transaction_at s slot entry

module _ (s : List ℕ) (f : ℕ → Seen) where
  -- by what the first slot is seen as
  first_slot : (k d : ℕ) (P : List Transaction → Type 0) → ((e : Entry) → f d ≡ committed e → P (transaction_at s d e ∷ transactions_from s (suc d) (from k (suc d) f)))
      → (((e : Entry) → f d ≢ committed e) → P (transactions_from s (suc d) (from k (suc d) f))) → P (transactions_from s d (from (suc k) d f))
  unfolding transactions_from from
  first_slot k d P c o = go (f d) refl
    where
      go : (x : Seen) → f d ≡ x → P (transactions_from s d (f d ∷ from k (suc d) f))
      go free h = rw h (o (λ e q. committed≢free e (sym q ∙ h)))
      go damaged h = rw h (o (λ e q. committed≢damaged e (sym q ∙ h)))
      go (committed e) h = rw h (c e h)

  held-later : (d n : ℕ) (z : Transaction) → IsHeld f s (suc d) n z → IsHeld f s d n z
  held-later d n z h = record { slot = h.slot; low = omega (arith, h.low); high = h.high; entry = h.entry; seen_as = h.seen_as; is = h.is }

  -- so many slots from d on
  pub from-mem : (k d n : ℕ) → d + k ≡ n → (z : Transaction) → Memᴰ z (transactions_from s d (from k d f)) → IsHeld f s d n z
  unfolding transactions_from from
  from-mem zero d n o z m = absurd (Memᴰ.not-nil m)
  from-mem (suc k) d n o z m = first_slot k d (λ l. Memᴰ z l → IsHeld f s d n z)
      (λ e q m'. ⊎_elim (λ r. record { slot = d; low = le_refl d; high = omega arith; entry = e; seen_as = q; is = r })
      (λ m''. held-later d n z (from-mem k (suc d) n (omega arith) z m'')) (Memᴰ.cases_cons m'))
      (λ q m'. held-later d n z (from-mem k (suc d) n (omega arith) z m')) m

  pub mem-from : (k d j : ℕ) → d ≤ j → j < d + k → (e : Entry) → f j ≡ committed e → Memᴰ (transaction_at s j e) (transactions_from s d (from k d f))
  mem-from zero d j a b e h = absurd (lt_irrefl j (omega arith))
  mem-from (suc k) d j a b e h = first_slot k d (Memᴰ (transaction_at s j e))
      (λ e' q. there e' q (ℕ_discrete j d) (λ n. mem-from k (suc d) j (omega arith) (omega arith) e h))
      (λ q. mem-from k (suc d) j (omega (arith, not-here q)) (omega arith) e h)
    where
      not-here : ((e' : Entry) → f d ≢ committed e') → j ≢ d
      not-here q z = q e (ap f (sym z) ∙ h)

      there : (e' : Entry) → f d ≡ committed e' → Dec (j ≡ d) → (j ≢ d → Memᴰ (transaction_at s j e) (transactions_from s (suc d) (from k (suc d) f)))
          → Memᴰ (transaction_at s j e) (transaction_at s d e' ∷ transactions_from s (suc d) (from k (suc d) f))
      there e' q (yes z) r = Memᴰ.head (λ i. transaction_at s (z i) (committed-injective e e' (sym h ∙ (ap f z ∙ q)) i))
      there e' q (no z) r = Memᴰ.tail (r z)

  -- what tells slots apart tells their transactions apart
  pub from-apart : {B : Type 0} (g : Transaction → B) (k d n : ℕ) → d + k ≡ n
      → ((j j' : ℕ) (e e' : Entry) → j < j' → j' < n → f j ≡ committed e → f j' ≡ committed e' → g (transaction_at s j e) ≢ g (transaction_at s j' e'))
      → Apart g (transactions_from s d (from k d f))
  unfolding transactions_from from
  from-apart g zero d n o h = tt
  from-apart g (suc k) d n o h = let rest : Apart g (transactions_from s (suc d) (from k (suc d) f)) = from-apart g k (suc d) n (omega arith) h in
      first_slot k d (Apart g) (λ e q. (λ y m. apart e q y (from-mem k (suc d) n (omega arith) y m), rest)) (λ q. rest)
    where
      apart : (e : Entry) → f d ≡ committed e → (y : Transaction) → IsHeld f s (suc d) n y → g (transaction_at s d e) ≢ g y
      apart e q y r z = h d r.slot e r.entry r.low r.high q r.seen_as (z ∙ ap g r.is)

pub from-short : (s : List ℕ) (d : ℕ) (xs : List Seen) → length (transactions_from s d xs) ≤ length xs
unfolding transactions_from
from-short s d [] = le_refl 0
from-short s d (free ∷ xs) = omega (arith, from-short s (suc d) xs)
from-short s d (damaged ∷ xs) = omega (arith, from-short s (suc d) xs)
from-short s d (committed e ∷ xs) = omega (arith, from-short s (suc d) xs)

-- ── the committed set ──
-- z is the transaction of one of the store's slots
abbrev pub IsOfSlot : List ℕ → Transaction → Type 0
IsOfSlot s = IsHeld (seen narrow_kind s) s 0 narrow_kind.slots

module _ (s : List ℕ) where
  pub set-mem : (z : Transaction) → Memᴰ z (committed_set s) → IsOfSlot s z
  unfolding committed_set slots_seen
  set-mem z m = from-mem s (seen narrow_kind s) 64 0 64 refl z (aged-mem _ z m)

  pub mem-set : (j : ℕ) → j < narrow_kind.slots → (e : Entry) → seen narrow_kind s j ≡ committed e → Memᴰ (transaction_at s j e) (committed_set s)
  unfolding committed_set slots_seen
  mem-set j o e h = mem-aged _ (transaction_at s j e) (mem-from s (seen narrow_kind s) 64 0 j (omega arith) (omega arith) e h)

  pub set-short : length (committed_set s) ≤ narrow_kind.slots
  unfolding committed_set
  set-short = omega (arith, aged-length (transactions_from s 0 (slots_seen narrow_kind s)), from-short s 0 (slots_seen narrow_kind s), seen-length narrow_kind s)

  module _ (k : KeepsRules narrow_kind s) where
    slots_apart : Apart txn_of (transactions_from s 0 (slots_seen narrow_kind s))
    unfolding slots_seen transaction_at
    slots_apart = from-apart s (seen narrow_kind s) txn_of 64 0 64 refl (λ j j' e e' o o' h h'. k.single j j' e e' (omega arith) o' (omega arith) h h')

    pub set_apart : Apart txn_of (committed_set s)
    unfolding committed_set
    set_apart = aged-apart txn_of _ slots_apart

    pub set-ascends : Ascends (committed_set s)
    unfolding committed_set
    set-ascends = aged-ascends _ (apart-ids (transactions_from s 0 (slots_seen narrow_kind s)) slots_apart)
