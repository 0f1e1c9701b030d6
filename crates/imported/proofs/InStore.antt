-- What the histories find in a narrow store and what an export writes of it are the same transactions.
use Prim.Native.Nat.{ℕ, zero, suc, ◌+◌}
use mathlib.Core.Path.{◌≡◌, refl, ap, ◌∙◌, fun_ext}
use mathlib.Core.Bool.{Bool, true, false, cond}
use mathlib.Core.List.Permᴰ
use mathlib.Core.List.{List, [], ◌∷◌, ◌++◌, map, Permᴰ}
use mathlib.Core.Option.{some, none}
use lib.Dec.{eqb}
use native.Mathlib.Omega.{arith}
use Rattle.model.specs.Types.{Entry}
use Rattle.model.specs.Lists.{any, first, from, member}
use Rattle.model.specs.Kinds.{narrow_kind}
use Rattle.model.specs.Entries.{keys_of, wrote, record_of}
use Rattle.model.specs.Records.{value_in, record_at}
use Rattle.model.specs.Slots.{Seen, free, committed, damaged, seen}
use Rattle.model.specs.Scan.{slots_seen}
use Rattle.model.proofs.ListLaws.{first-yes, first-no, member-yes, member-no}
use Rattle.history.specs.Ledger.{Committed}
use Rattle.history.specs.Matches.{lookup}
use Rattle.history.specs.CutRule.{committed_in}
use Rattle.history.proofs.Invariant.{in_store}
use Rattle.history.proofs.CommittedLaws.{holds-free, holds-damaged, holds-committed, slot_holds, slots_hold, hold-none, hold-more, in-store}
use Rattle.resp.specs.Streams.{Transaction}
use Rattle.resp.specs.Exports.{writes_at, transaction_at, transactions_from, committed_set}
use Rattle.resp.proofs.OldestLast.{by-age-same}
use Rattle.imported.specs.Imports.{committed_as}

-- the value under a key, by its version record
values-read : (s : List ℕ) (d n : ℕ) (ks : List ℕ) (k : ℕ)
    → cond (member k ks) (some (value_in (record_at narrow_kind s d (suc (n + first (eqb k) ks))))) none ≡ lookup k (writes_at s d (suc n) ks)
unfolding writes_at lookup
values-read s d n [] k = unfold member any in refl
values-read s d n (j ∷ ks) k = go (eqb k j) refl (values-read s d (suc n) ks k)
  where
    go : (b : Bool) → eqb k j ≡ b → cond (member k ks) (some (value_in (record_at narrow_kind s d (suc (suc n + first (eqb k) ks))))) none ≡ lookup k (writes_at s d (suc (suc n)) ks)
        → cond (member k (j ∷ ks)) (some (value_in (record_at narrow_kind s d (suc (n + first (eqb k) (j ∷ ks)))))) none ≡ lookup k (writes_at s d (suc n) (j ∷ ks))
    go true e ih =
        let q : n + 0 ≡ n = omega arith in
        rw (e, member-yes k j ks e, first-yes (eqb k) j ks e, q)
    go false e ih =
        let q : n + suc (first (eqb k) ks) ≡ suc n + first (eqb k) ks = omega arith in
        rw (e, member-no k j ks e, first-no (eqb k) j ks e, q) ih

committed-read : (s : List ℕ) (d : ℕ) (e : Entry) → committed_in narrow_kind s d e ≡ committed_as (transaction_at s d e)
unfolding committed_in committed_as transaction_at wrote record_of
committed-read s d e = λ z. record { id = e.id; values = fun_ext values z }
  where
    values : (k : ℕ) → cond (member k (keys_of e)) (some (value_in (record_at narrow_kind s d (suc (first (eqb k) (keys_of e)))))) none ≡ lookup k (writes_at s d 1 (keys_of e))
    values k =
        let q : first (eqb k) (keys_of e) ≡ 0 + first (eqb k) (keys_of e) = omega arith in
        ap (λ (j : ℕ). cond (member k (keys_of e)) (some (value_in (record_at narrow_kind s d (suc j)))) none) q ∙ values-read s d 0 (keys_of e) k

-- slot by slot
slots_read : (s : List ℕ) (n i : ℕ) → slots_hold narrow_kind s n i ≡ map committed_as (transactions_from s i (from n i (seen narrow_kind s)))
unfolding from transactions_from
slots_read s zero i = hold-none narrow_kind s i
slots_read s (suc n) i = hold-more narrow_kind s n i ∙ go (seen narrow_kind s i) refl (slots_read s n (suc i))
  where
    rest : List Transaction
    rest = transactions_from s (suc i) (from n (suc i) (seen narrow_kind s))

    go : (x : Seen) → seen narrow_kind s i ≡ x → slots_hold narrow_kind s n (suc i) ≡ map committed_as rest
        → slot_holds narrow_kind s i ++ slots_hold narrow_kind s n (suc i) ≡ map committed_as (transactions_from s i (x ∷ from n (suc i) (seen narrow_kind s)))
    go free h ih = rw (holds-free narrow_kind s i h) ih
    go (committed e) h ih = rw (holds-committed narrow_kind s i e h, committed-read s i e) (ap (λ (js : List Committed). committed_as (transaction_at s i e) ∷ js) ih)
    go damaged h ih = rw (holds-damaged narrow_kind s i h) ih

pub in-store-set : (s : List ℕ) → Permᴰ (in_store narrow_kind s) (map committed_as (committed_set s))
unfolding slots_seen committed_set
in-store-set s = rw (in-store narrow_kind s, slots_read s narrow_kind.slots 0) (Permᴰ.map committed_as (Permᴰ.symm (by-age-same (transactions_from s 0 (slots_seen narrow_kind s)))))
