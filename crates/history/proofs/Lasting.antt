-- A running station's invariant gives what lasts: the reads of its drafts are of standing transactions, and atomic with them.
use Prim.Native.Nat.{ℕ, ◌<◌}
use mathlib.Core.Path.{◌≡◌, sym, ap, subst, ◌∙◌}
use mathlib.Core.Logic.{◌≢◌}
use mathlib.Core.Bool.{true, true≢false}
use mathlib.Core.List.{List, Memᴰ}
use lib.ListN.{length}
use Rattle.model.specs.declared.Id.{Id}
use Rattle.model.specs.declared.Read.{Read}
use Rattle.model.specs.Types.{Entry, Station}
use Rattle.model.specs.Lives.{reads_of}
use Rattle.model.specs.Entries.{wrote, wrote_as}
use Rattle.model.specs.Stations.{live_at, entry_at}
use Rattle.model.specs.Slots.{seen}
use Rattle.model.specs.Sound.{sound}
use Rattle.model.proofs.SlotLaws.{committed-injective}
use Rattle.model.proofs.ReadingLaws.{wrote_as_lem, as-wrote}
use Rattle.model.proofs.StationLaws.{entry-get, entry_in}
use Rattle.model.proofs.SoundFacts.{wrote-held, held_below}
use Rattle.history.specs.Ledger.{Draft, Committed, Ledger}
use Rattle.history.specs.Matches.{Matches}
use Rattle.history.specs.CutRule.{committed_in, Wrote}
use Rattle.history.proofs.Invariant.{Sure, Lasting, Inv}
use Rattle.history.proofs.Reading.{read_named}
use Rattle.history.proofs.CommittedLaws.{stands-in, stands, committed-wrote, wrote-committed, committed-id}

module _ (st : Station) (s : List ℕ) (b : Ledger) (h : sound st ≡ true) (inv : Inv st s b) where
  -- the standing transaction that a live one's read names
  read-stands : (i : ℕ) (r : Read) → Memᴰ r (reads_of (live_at st i))
      → (d : ℕ) × ((entry_at st d).id ≡ r.id) × (wrote (entry_at st d) r.key ≡ true) × Memᴰ (committed_in st.kind s d (entry_at st d)) b.standing
  read-stands i r m =
      let f = wrote_as_lem st.entries r.id r.key (read_named st h i r m) in
      let g = subst (λ (e : Entry). (e.id ≡ r.id) × (wrote e r.key ≡ true)) (entry-get st f.0 f.1) (f.2, f.3) in
      (f.0, g.0, g.1, stands st.kind s b.standing inv.core.found f.0 (entry_at st f.0) (held_below st h f.0 (wrote-held st h f.0 r.key g.1)) (inv.slots.entered f.0 (wrote-held st h f.0 r.key g.1)))

  -- a standing transaction with the id of an entry wrote what the entry wrote
  same_writer : (d : ℕ) (j : Committed) (k : ℕ) → (entry_at st d).id.txn ≢ 0 → Memᴰ j b.standing → j.id ≡ (entry_at st d).id → Wrote j k → wrote_as st.entries j.id k ≡ true
  same_writer d j k nz m e w =
      let x = stands-in st.kind s b.standing inv.core.found j m in
      let hd = inv.slots.entered d nz in
      let o : d < st.kind.slots = held_below st h d nz in
      let et : x.2.id.txn ≡ (entry_at st d).id.txn = sym (ap (λ (y : Committed). y.id.txn) x.4 ∙ ap (λ (y : Id). y.txn) (committed-id st.kind s x.0 x.2)) ∙ ap (λ (y : Id). y.txn) e in
      let dd : x.0 ≡ d = inv.core.single x.0 d x.2 (entry_at st d) x.1 o x.3 hd et in
      let ee : x.2 ≡ entry_at st d = committed-injective x.2 (entry_at st d) (sym x.3 ∙ (ap (seen st.kind s) dd ∙ hd)) in
      let wk : wrote (entry_at st d) k ≡ true = subst (λ (y : Entry). wrote y k ≡ true) ee (committed-wrote st.kind s x.0 x.2 k (subst (λ (y : Committed). Wrote y k) x.4 w)) in
      let i : d < length st.entries = entry_in st d nz in
      subst (λ (y : Id). wrote_as st.entries y k ≡ true) (ap (λ (y : Entry). y.id) (entry-get st d i) ∙ sym e)
      (as-wrote st.entries k d i (subst (λ (y : Entry). wrote y k ≡ true) (sym (entry-get st d i)) wk))

  pub lasting : Lasting st.kind s b
  lasting = record {
    core = inv.core;
    sure = λ t p e. sure (inv.drafts.live t p e);
  }
    where
      sure : {t : ℕ} {p : Draft} → (t ≢ 0) × (i : ℕ) × ((live_at st i).txn ≡ t) × Matches p (live_at st i) → Sure b.standing p
      sure {p = p} l r m =
          let f = read-stands l.1 r ((l.3.reads r).0 m) in
          let j : Committed = committed_in st.kind s f.0 (entry_at st f.0) in
          let ej : j.id ≡ r.id = committed-id st.kind s f.0 (entry_at st f.0) ∙ f.1 in
          let nz = wrote-held st h f.0 r.key f.2 in (
            j,
            f.3,
            ej,
            (_, wrote-committed st.kind s f.0 (entry_at st f.0) r.key f.2),
            λ q mq w nw. true≢false (sym nw ∙ inv.reads l.1 r q ((l.3.reads r).0 m) ((l.3.reads q).0 mq)
                (subst (λ (y : Id). wrote_as st.entries y q.key ≡ true) ej (same_writer f.0 j q.key nz f.3 (ej ∙ sym f.1) w))),
          )
