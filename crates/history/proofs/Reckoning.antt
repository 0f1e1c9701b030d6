-- 02 §3: in a history the clocks of the station, of its entries and closing transactions, are those of the ledger, of its standing transactions and
-- its drafts with a clock: so both reckon the same.
use Prim.Native.Nat.{ℕ, ◌<◌, ◌≤◌}
use mathlib.Core.Path.{◌≡◌, sym, ap, subst, ◌∙◌}
use mathlib.Core.Logic.{◌≢◌, ⊎_elim}
use mathlib.Core.Bool.{true}
use mathlib.Core.List.Memᴰ
use mathlib.Core.List.{List, map, Memᴰ}
use native.Mathlib.Nat.{le_antisymm}
use native.Mathlib.Decide.{ℕ_discrete}
use native.Mathlib.Omega.{arith}
use Rattle.model.specs.declared.Id.{Id}
use Rattle.model.specs.Types.{Entry, Station}
use Rattle.model.specs.Lists.{maximum}
use Rattle.model.specs.Limits.{number_range}
use Rattle.model.specs.Lives.{closing_clock}
use Rattle.model.specs.Entries.{entry_for}
use Rattle.model.specs.Stations.{live_at, entry_at}
use Rattle.model.specs.Clocks.{clocks, clock_above}
use Rattle.model.specs.Sound.{sound}
use Rattle.model.proofs.ListLaws.{map-mem, mem-map}
use Rattle.model.proofs.ClockLaws.{maximum-mem, maximum-most, entry-clock, live-clock, clock-by}
use Rattle.model.proofs.StationLaws.{live_in, entry_in, open-clock, closing-in}
use Rattle.model.proofs.SoundFacts.{held_below, one_place, unheld-clockless, unused-open}
use Rattle.history.specs.Ledger.{Draft, Committed, Ledger, clocks_in}
use Rattle.history.specs.CutRule.{committed_in}
use Rattle.history.proofs.Invariant.{Inv}
use Rattle.history.proofs.DraftLaws.{draft-mem}
use Rattle.history.proofs.CommittedLaws.{stands-in, stands, committed-id}
use Rattle.history.proofs.SlotOwners.{Owner, by-entry, by-live, owner}

abbrev committed_clock : Committed → ℕ
committed_clock j = j.id.clock

abbrev draft_clock : Draft → ℕ
draft_clock p = p.clock

module _ (b : Ledger) where
  pub standing-clock : (j : Committed) → Memᴰ j b.standing → Memᴰ j.id.clock (clocks_in b)
  unfolding clocks_in
  standing-clock j m = Memᴰ.append_left {s = map committed_clock b.standing} (map draft_clock b.drafts) (map-mem committed_clock b.standing j m)

  pub draft-clock : (p : Draft) → Memᴰ p b.drafts → Memᴰ p.clock (clocks_in b)
  unfolding clocks_in
  draft-clock p m = Memᴰ.append_right (map committed_clock b.standing) (map-mem draft_clock b.drafts p m)

module _ (st : Station) (s : List ℕ) (b : Ledger) (inv : Inv st s b) (h : sound st ≡ true) where
  -- an entry stands
  pub entry-stands : (d : ℕ) → (entry_at st d).id.txn ≢ 0 → Memᴰ (committed_in st.kind s d (entry_at st d)) b.standing
  entry-stands d n = stands st.kind s b.standing inv.core.found d (entry_at st d) (held_below st h d n) (inv.slots.entered d n)

  -- the draft of a live transaction has its clock
  live-draft : (i : ℕ) → (live_at st i).txn ≢ 0 → (p : Draft) × Memᴰ p b.drafts × (p.clock ≡ closing_clock (live_at st i).phase)
  live-draft i n =
      let r = inv.drafts.drafted i n in
      let q = inv.drafts.live (live_at st i).txn r.0 r.1 in
      let e : q.1 ≡ i = one_place st h q.1 i q.2 (λ y. n (sym q.2 ∙ y)) in
      (r.0, draft-mem (live_at st i).txn b.drafts r.0 r.1, subst (λ (k : ℕ). r.0.clock ≡ closing_clock (live_at st k).phase) e q.3.clock)

  at_most : (n : ℕ) → Memᴰ n (clocks st) → n ≤ maximum (clocks_in b)
  at_most = clock-by st (λ (x : ℕ). x ≤ maximum (clocks_in b)) (λ d o. entry d (ℕ_discrete (entry_at st d).id.txn 0)) (λ i o. live i (ℕ_discrete (live_at st i).txn 0))
    where
      entry : (d : ℕ) → Dec ((entry_at st d).id.txn ≡ 0) → (entry_at st d).id.clock ≤ maximum (clocks_in b)
      entry d (yes z) = omega (arith, unheld-clockless st h d z)
      entry d (no n) = subst (λ (i : Id). i.clock ≤ maximum (clocks_in b)) (committed-id st.kind s d (entry_at st d)) (maximum-mem (clocks_in b) _ (standing-clock b _ (entry-stands d n)))

      live : (i : ℕ) → Dec ((live_at st i).txn ≡ 0) → closing_clock (live_at st i).phase ≤ maximum (clocks_in b)
      live i (yes z) = omega (arith, open-clock _ (unused-open st h i z))
      live i (no n) = let r = live-draft i n in subst (λ (x : ℕ). x ≤ maximum (clocks_in b)) r.2 (maximum-mem (clocks_in b) _ (draft-clock b r.0 r.1))

  at_least : (n : ℕ) → Memᴰ n (clocks_in b) → n ≤ maximum (clocks st)
  unfolding clocks_in
  at_least n m = ⊎_elim
      (λ x. let f = mem-map committed_clock b.standing n x in subst (λ (y : ℕ). y ≤ maximum (clocks st)) f.2 (standing f.0 f.1))
      (λ x. let f = mem-map draft_clock b.drafts n x in subst (λ (y : ℕ). y ≤ maximum (clocks st)) f.2 (draft f.0 f.1))
      (Memᴰ.append_cases (map committed_clock b.standing) m)
    where
      owned : (d : ℕ) (e : Entry) → Owner st d e → e.id.clock ≤ maximum (clocks st)
      owned d e (by-entry n q) = subst (λ (x : Entry). x.id.clock ≤ maximum (clocks st)) (sym q) (maximum-mem (clocks st) _ (entry-clock st d (entry_in st d n)))
      owned d e (by-live i c n q o w) = subst (λ (x : Entry). x.id.clock ≤ maximum (clocks st)) (sym w) (unfold entry_for in maximum-mem (clocks st) _ (live-clock st i (closing-in st i d c n q)))

      standing : (j : Committed) → Memᴰ j b.standing → j.id.clock ≤ maximum (clocks st)
      standing j mj =
          let r = stands-in st.kind s b.standing inv.core.found j mj in
          subst (λ (i : Id). i.clock ≤ maximum (clocks st)) (sym (ap (λ (x : Committed). x.id) r.4 ∙ committed-id st.kind s r.0 r.2)) (owned r.0 r.2 (owner st s inv.slots r.0 r.2 r.1 r.3))

      draft : (p : Draft) → Memᴰ p b.drafts → p.clock ≤ maximum (clocks st)
      draft p mp =
          let q = inv.drafts.live p.txn p (inv.once p mp) in
          subst (λ (x : ℕ). x ≤ maximum (clocks st)) (sym q.3.clock) (maximum-mem (clocks st) _ (live-clock st q.1 (live_in st q.1 (λ y. q.0 (sym q.2 ∙ y)))))

  -- "The book reckons the same"
  pub reckons : (c : ℕ) → clock_above c (clocks st) ≡ clock_above c (clocks_in b)
  unfolding clock_above
  reckons c = let e : maximum (clocks st) ≡ maximum (clocks_in b) = le_antisymm (maximum-most (clocks st) _ at_most) (maximum-most (clocks_in b) _ at_least) in rw e

  -- all of them are clocks
  pub clocks-low : (n : ℕ) → Memᴰ n (clocks st) → n < number_range
  clocks-low = clock-by st (λ (x : ℕ). x < number_range) (λ d o. entry d (ℕ_discrete (entry_at st d).id.txn 0)) (λ i o. (inv.ranges i).clock)
    where
      entry : (d : ℕ) → Dec ((entry_at st d).id.txn ≡ 0) → (entry_at st d).id.clock < number_range
      entry d (yes z) = omega (arith, unheld-clockless st h d z)
      entry d (no n) = subst (λ (i : Id). i.clock < number_range) (committed-id st.kind s d (entry_at st d)) (inv.core.recorded _ (inv.core.kept _ (entry-stands d n))).0
