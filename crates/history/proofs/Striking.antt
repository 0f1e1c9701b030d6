-- A dominated transaction struck and its slot cleared, whoever does it.
use Prim.Native.Nat.{ℕ, ◌<◌}
use mathlib.Core.Path.{◌≡◌, sym, ap, subst, ◌∙◌}
use mathlib.Core.Logic.{◌≢◌, inl, inr}
use mathlib.Core.Bool.{true, true≢false}
use mathlib.Core.List.Permᴰ
use mathlib.Core.List.{List, ◌∷◌, Permᴰ, Memᴰ}
use native.Mathlib.Decide.{ℕ_discrete}
use native.Mathlib.Omega.{arith}
use Rattle.model.specs.declared.Id.{Id}
use Rattle.model.specs.Types.{Entry}
use Rattle.model.specs.Lists.{◌and◌}
use Rattle.model.specs.Kinds.{Kind, width}
use Rattle.model.specs.Ids.{older}
use Rattle.model.specs.Entries.{wrote}
use Rattle.model.specs.Records.{zero_record, record_at, with_record}
use Rattle.model.specs.Slots.{Seen, free, committed, damaged, seen}
use Rattle.model.proofs.IdLaws.{older-irrefl, older-trans}
use Rattle.model.proofs.RecordLaws.{length-zero, with-length, record-elsewhere}
use Rattle.model.proofs.SlotLaws.{committed≢free, free≢damaged, seen-frame, seen-cleared}
use Rattle.history.specs.Ledger.{Committed, strike}
use Rattle.history.specs.CutRule.{committed_in, Wrote, Newer}
use Rattle.history.proofs.Invariant.{in_store, Dominated, Core}
use Rattle.history.proofs.CommittedLaws.{strike-perm, strike-none, strike-head, strike-keeps, strike-sub, holds-free, holds-committed, holds_frame, in-store, hold-one-more, stands-in, committed-wrote, committed-id, stands-once}
use Rattle.history.proofs.SlotOwners.{not_free}

module _ (κ : Kind) (s : List ℕ) (standing past : List Committed) (core : Core κ s standing past) (d : ℕ) (o : d < κ.slots) (e : Entry) (held : seen κ s d ≡ committed e)
    (newer : (k : ℕ) → wrote e k ≡ true → (i : Committed) × Memᴰ i standing × Wrote i k × Newer i.id e.id) where
  abbrev t : ℕ
  t = e.id.txn

  abbrev s' : List ℕ
  s' = with_record κ s d 0 zero_record

  pub cleared-frame : (d' k : ℕ) → d' ≢ d → k < width κ → record_at κ s' d' k ≡ record_at κ s d' k
  cleared-frame d' k nd ok = record-elsewhere κ s d 0 zero_record core.size o (omega arith) length-zero d' k nd ok

  pub cleared-other : (d' : ℕ) → d' ≢ d → seen κ s' d' ≡ seen κ s d'
  cleared-other d' nd = seen-frame κ s' s d' d' (λ k ok. cleared-frame d' k nd ok)

  pub cleared-free : seen κ s' d ≡ free
  cleared-free = seen-cleared κ s d core.size o

  -- what is seen κ now and is not free was seen κ before
  before : (k : ℕ) (x : Seen) → seen κ s' k ≡ x → (x ≡ free → ⊥) → seen κ s k ≡ x
  before k x y n = go (ℕ_discrete k d)
    where
      go : Dec (k ≡ d) → seen κ s k ≡ x
      go (yes z) = absurd (n (sym y ∙ (ap (seen κ s') z ∙ cleared-free)))
      go (no z) = sym (cleared-other k z) ∙ y

  -- ── the standing transactions: one is struck ──
  J : Committed
  J = committed_in κ s d e

  J-txn : J.id.txn ≡ t
  unfolding J
  J-txn = ap (λ (i : Id). i.txn) (committed-id κ s d e)

  perm : Permᴰ (in_store κ s) (J ∷ in_store κ s')
  unfolding J
  perm = rw (in-store κ s, in-store κ s') (hold-one-more κ s' s (committed_in κ s d e) d (holds-free κ s' d cleared-free) (holds-committed κ s d e held)
      (λ d' nd. sym (holds_frame κ s s' d' (λ k ok. cleared-frame d' k nd ok))) κ.slots 0 (omega arith) (omega (arith, o)))

  -- it is the one standing transaction of its number
  only : (j : Committed) → Memᴰ j standing → j.id.txn ≡ t → j ≡ J
  unfolding J
  only j m q = stands-once κ s standing core.found core.single j d e o held m q

  others : (j : Committed) → Memᴰ j (in_store κ s') → j.id.txn ≢ t
  others j m q =
      let r = stands-in κ s' (in_store κ s') (Permᴰ.refl _) j m in
      let nd : r.0 ≢ d = (λ z. not_free (seen κ s' r.0) r.2 r.3 (ap (seen κ s') z ∙ cleared-free)) in
      nd (core.single r.0 d r.2 e r.1 o (sym (cleared-other r.0 nd) ∙ r.3) held (sym (ap (λ (x : Committed). x.id.txn) r.4 ∙ ap (λ (i : Id). i.txn) (committed-id κ s' r.0 r.2)) ∙ q))

  -- on each key that it wrote a standing transaction of another number is newer
  newer-J : (k : ℕ) → Wrote J k → (i : Committed) × Memᴰ i (strike t standing) × Wrote i k × Newer i.id J.id
  unfolding J
  newer-J k w =
      let r = newer k (committed-wrote κ s d e k w) in
      let nj : Newer r.0.id J.id = subst (λ (i : Id). Newer r.0.id i) (sym (committed-id κ s d e)) r.3 in
      let n : r.0.id.txn ≢ t = (λ z. true≢false (sym nj ∙ (ap (λ (x : Committed). older J.id x.id) (only r.0 r.1 z) ∙ older-irrefl J.id))) in
      (r.0, strike-keeps t standing r.0 r.1 n, r.2, nj)

  pub core-strike : Core κ s' (strike t standing) past
  core-strike = record {
    fits = core.fits;
    size = with-length κ s d 0 zero_record core.size o (omega arith) length-zero ∙ core.size;
    undamaged = λ k ok x. core.undamaged k ok (before k damaged x (λ z. free≢damaged (sym z)));
    single = λ d₁ d₂ e₁ e₂ o₁ o₂ h₁ h₂ et. core.single d₁ d₂ e₁ e₂ o₁ o₂ (before d₁ (committed e₁) h₁ (committed≢free e₁)) (before d₂ (committed e₂) h₂ (committed≢free e₂)) et;
    found = Permᴰ.symm (subst (λ (x : List Committed). Permᴰ (strike t standing) x) (strike-head t J (in_store κ s') J-txn ∙ strike-none t (in_store κ s') others)
        (strike-perm t (Permᴰ.trans (Permᴰ.symm core.found) perm)));
    kept = λ j m. core.kept j (strike-sub t standing j m);
    dominated = λ j m. go j (core.dominated j m) (ℕ_discrete j.id.txn t);
    recorded = core.recorded;
  }
    where
      -- a dominator that is struck hands over to its own
      over : (j i : Committed) (k : ℕ) → Memᴰ i standing → Wrote i k → Newer i.id j.id → Dec (i.id.txn ≡ t)
          → (x : Committed) × Memᴰ x (strike t standing) × Wrote x k × Newer x.id j.id
      over j i k m w n (no y) = (i, strike-keeps t standing i m y, w, n)
      over j i k m w n (yes y) =
          let q = only i m y in
          let r = newer-J k (subst (λ (x : Committed). Wrote x k) q w) in
          (r.0, r.1, r.2, older-trans j.id J.id r.0.id (subst (λ (x : Committed). older j.id x.id ≡ true) q n) r.3)

      go : (j : Committed) → Dominated standing j → Dec (j.id.txn ≡ t) → Dominated (strike t standing) j
      go j (inl x) (no n) = inl (strike-keeps t standing j x n)
      go j (inl x) (yes y) = inr (λ k. subst (λ (u : Committed). Wrote u k → (i : Committed) × Memᴰ i (strike t standing) × Wrote i k × Newer i.id u.id) (sym (only j x y)) (newer-J k))
      go j (inr f) y = inr (λ k w. let r = f k w in over j r.0 k r.1 r.2 r.3 (ℕ_discrete r.0.id.txn t))
