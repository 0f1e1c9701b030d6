-- 01 'The cut rule': what is claimed of a store and a ledger.
use Rattle.std.specs.Prelude.{ℕ, suc, ◌≡◌, true, cond, eqb, length}
use mathlib.Core.List.{List, [], ◌∷◌, ◌++◌, Permᴰ, Memᴰ}
use Rattle.std.proofs.Math.Option.{some, none}
use Rattle.model.specs.declared.Id.{Id}
use Rattle.model.specs.declared.Read.{Read}
use Rattle.model.specs.Types.{Entry}
use Rattle.model.specs.declared.Answer.TheVariants as A
use Rattle.model.specs.Kinds.{Kind, KindFits}
use Rattle.model.specs.Ids.{older}
use Rattle.model.specs.Entries.{wrote, record_of}
use Rattle.model.specs.Records.{value_in, record_at}
use Rattle.model.specs.Scan.{scan}
use Rattle.history.specs.Ledger.{Draft, Committed, Ledger, draft_of}
use Rattle.history.specs.Histories.{Event, begin, run, AllInRange}

-- the transaction that slot d of the store holds under entry e: "ticket, clock and keys from the entry, values from the version slips"
unfoldable pub committed_in : Kind → List ℕ → ℕ → Entry → Committed
committed_in κ s d e = record { id = e.id; values = λ k. cond (wrote e k) (some (value_in (record_at κ s d (record_of e k)))) none }

-- those of all entries, the slots counted from d; none of an unused entry
unfoldable pub committed_here : Kind → List ℕ → ℕ → Entry → List Committed
committed_here κ s d e = cond (eqb e.id.txn 0) [] (committed_in κ s d e ∷ [])

unfoldable pub committed_found : Kind → List ℕ → ℕ → List Entry → List Committed
committed_found κ s d [] = []
committed_found κ s d (e ∷ es) = committed_here κ s d e ++ committed_found κ s (suc d) es

abbrev pub Wrote : Committed → ℕ → Type 0
Wrote j k = (v : ℕ) × (j.values k ≡ some v)

abbrev pub Newer : Id → Id → Type 0
Newer i j = older j i ≡ true

pub record CutRule (κ : Kind) (s : List ℕ) (b : Ledger) : Type 0 where
  -- "The scan after the list isn't refused. .. found's figure is their number."
  pub figure : (scan κ s).answer ≡ A.Found (length b.standing)
  -- "It finds exactly the standing jobs, one drawer each"
  pub exactly : Permᴰ (committed_found κ s 0 (scan κ s).station.entries) b.standing
  -- "For each key in past jobs, the newest past job that wrote it is standing.": one is newest, and whichever is, stands
  pub newest : (k : ℕ) (j : Committed) → Memᴰ j b.past → Wrote j k
      → (i : Committed) × Memᴰ i b.standing × Wrote i k × ((h : Committed) → Memᴰ h b.past → Wrote h k → Newer h.id i.id → ⊥)
  pub stands : (k : ℕ) (j : Committed) → Memᴰ j b.past → Wrote j k
      → ((h : Committed) → Memᴰ h b.past → Wrote h k → Newer h.id j.id → ⊥) → Memᴰ j b.standing
  -- "After each call, every id in a page's reads is a standing job's that wrote the key read"
  pub reads : (t : ℕ) (p : Draft) (r : Read) → draft_of t b.drafts ≡ some p → Memᴰ r p.reads
      → (j : Committed) × Memᴰ j b.standing × (j.id ≡ r.id) × Wrote j r.key
  -- "and the reads are an Atomic Readset, i's transaction being that job."
  pub atomic : (t : ℕ) (p : Draft) (r q : Read) (j : Committed) → draft_of t b.drafts ≡ some p → Memᴰ r p.reads → Memᴰ q p.reads
      → Memᴰ j b.standing → j.id ≡ r.id → Wrote j q.key → Newer r.id q.id → ⊥

-- Demand 3: one claim about every list of calls and cuts, refused calls included and clocks in any order; so also of one that ends with a cut,
-- before its scan. 02 §6: "shown over drawer count and width": of every kind that fits, of which narrow and wide are two. `cut-rule` proves it.
abbrev pub Demand3 : Type 0
Demand3 = (κ : Kind) → KindFits κ → (vs : List Event) → AllInRange vs → CutRule κ (run vs (begin κ)).store (run vs (begin κ)).ledger
