-- "A ticket is live while it has a page.": a live transaction and a draft that are one another's.
use Rattle.std.specs.Prelude.{ℕ, ◌≡◌, ◌↔◌, ◌≢◌, cond, eqb}
use mathlib.Core.List.{List, [], ◌∷◌, Memᴰ}
use Rattle.std.proofs.Math.Option.{Option, some, none}
use Rattle.model.specs.declared.Read.{Read}
use Rattle.model.specs.Types.{Write, Live, Station}
use Rattle.model.specs.Lives.{writes_of, reads_of, closing_clock}
use Rattle.model.specs.Stations.{live_at}
use Rattle.history.specs.Ledger.{Draft}

-- the value under a key of a write set, if any
unfoldable pub lookup : ℕ → List Write → Option ℕ
lookup k [] = none
lookup k (w ∷ ws) = cond (eqb k w.key) (some w.value) (lookup k ws)

pub record Matches (p : Draft) (l : Live) : Type 0 where
  -- the same values by key
  pub values : (k : ℕ) → p.values k ≡ lookup k (writes_of l)
  -- the clock of a closing transaction; none of any other
  pub clock : p.clock ≡ closing_clock l.phase
  -- the same reads
  pub reads : (r : Read) → Memᴰ r p.reads ↔ Memᴰ r (reads_of l)

-- each draft is that of a live transaction, and each live transaction has one
pub record Correspond (st : Station) (drafts : ℕ → Option Draft) : Type 0 where
  pub live : (t : ℕ) (p : Draft) → drafts t ≡ some p → (t ≢ 0) × (i : ℕ) × ((live_at st i).txn ≡ t) × Matches p (live_at st i)
  pub drafted : (i : ℕ) → (live_at st i).txn ≢ 0 → (p : Draft) × (drafts (live_at st i).txn ≡ some p)
