-- 01 'The cut rule': the ledger (01's book). "The book is fed each call with its answer. It holds pages, standing jobs and past jobs,
-- at first none."
use Rattle.std.specs.Prelude.{ℕ, cond, List, [], ◌∷◌, ◌++◌, map, eqb}
use Rattle.std.proofs.Math.Option.{Option, some, none}
use Rattle.model.specs.declared.Id.{Id}
use Rattle.model.specs.declared.Read.{Read}
use Rattle.model.specs.declared.Phase.TheVariants.{Closing}
use Rattle.model.specs.declared.Answer.{Answer}
use Rattle.model.specs.declared.Answer.TheVariants as A
use Rattle.model.specs.Clocks.{clock_above}
use Rattle.model.specs.Calls.{Call, txn_of, key_of, number_of}

-- the draft (page) of a live transaction: its clock once it closes, its values by key, its reads
pub record Draft : Type 0 where
  pub txn : ℕ
  pub clock : ℕ
  pub values : ℕ → Option ℕ
  pub reads : List Read

-- a committed transaction (job): "ticket, clock and values by key"
pub record Committed : Type 0 where
  pub id : Id
  pub values : ℕ → Option ℕ

pub record Ledger : Type 0 where
  pub drafts : List Draft
  pub standing : List Committed
  pub past : List Committed

unfoldable pub empty_ledger : Ledger
empty_ledger = record { drafts = []; standing = []; past = [] }

-- ── drafts ──
-- that of a transaction, if it has one
unfoldable pub draft_of : ℕ → List Draft → Option Draft
draft_of t [] = none
draft_of t (p ∷ ps) = cond (eqb t p.txn) (some p) (draft_of t ps)

-- those but its own
unfoldable pub without : ℕ → List Draft → List Draft
without t [] = []
without t (p ∷ ps) = cond (eqb t p.txn) (without t ps) (p ∷ without t ps)

-- all of them, its own revised
unfoldable pub revised : ℕ → (Draft → Draft) → List Draft → List Draft
revised t f [] = []
revised t f (p ∷ ps) = cond (eqb t p.txn) (f p) p ∷ revised t f ps

unfoldable pub with_drafts : List Draft → Ledger → Ledger
with_drafts ps b = record { drafts = ps; standing = b.standing; past = b.past }

-- ── parts of the rules ──
-- a function with x at n
unfoldable pub at : {A : Type 0} → ℕ → A → (ℕ → A) → ℕ → A
at n x f m = cond (eqb m n) x (f m)

abbrev pub blank_draft : ℕ → Draft
blank_draft t = record { txn = t; clock = 0; values = λ k. none; reads = [] }

abbrev pub keeping : ℕ → ℕ → Draft → Draft
keeping k v p = record { txn = p.txn; clock = p.clock; values = at k (some v) p.values; reads = p.reads }

abbrev pub reading : ℕ → Id → Draft → Draft
reading k i p = record { txn = p.txn; clock = p.clock; values = p.values; reads = record { key = k; id = i } ∷ p.reads }

abbrev pub closing_at : ℕ → Draft → Draft
closing_at c p = record { txn = p.txn; clock = c; values = p.values; reads = p.reads }

-- "the page's ticket, clock and values by key"
abbrev pub committed_of : Draft → Committed
committed_of p = record { id = record { clock = p.clock; txn = p.txn }; values = p.values }

unfoldable pub committed_from : Option Draft → List Committed
committed_from none = []
committed_from (some p) = committed_of p ∷ []

unfoldable pub strike : ℕ → List Committed → List Committed
strike t [] = []
strike t (j ∷ js) = cond (eqb j.id.txn t) (strike t js) (j ∷ strike t js)

-- 02 §3: "The book reckons the same over its standing jobs and its pages with a clock.": their clocks; a draft that has none yet has 0
unfoldable pub clocks_in : Ledger → List ℕ
clocks_in b = map (λ (j : Committed). j.id.clock) b.standing ++ map (λ (p : Draft). p.clock) b.drafts

-- ── the rules, a row for each answer, in 01's order ──
unfoldable pub feed : Answer → Call → Ledger → Ledger
-- "started: a blank page for the ticket."
feed A.Started c b = with_drafts (blank_draft (txn_of c) ∷ without (txn_of c) b.drafts) b
-- "kept: the value goes on its page under the key, over any older one."
feed A.Kept c b = with_drafts (revised (txn_of c) (keeping (key_of c) (number_of c)) b.drafts) b
-- "version: the key asked and the id answered join the page's reads."
feed (A.Version v i) c b = with_drafts (revised (txn_of c) (reading (key_of c) i) b.drafts) b
-- "closing: the clock given goes on the page.": by 02 §3 the greater of it and one more than the greatest
feed (A.Closing d) c b = with_drafts (revised (txn_of c) (closing_at (clock_above (number_of c) (clocks_in b))) b.drafts) b
-- "slipped: the page's ticket, clock and values by key become a job, standing and past; the page stays."
feed (A.Slipped d) c b =
    let j : List Committed = committed_from (draft_of (txn_of c) b.drafts) in
    record { drafts = b.drafts; standing = j ++ b.standing; past = j ++ b.past }
-- "empty, dropped, done: the ticket's page, if any, is torn out."
feed A.Empty c b = with_drafts (without (txn_of c) b.drafts) b
feed A.Dropped c b = with_drafts (without (txn_of c) b.drafts) b
feed (A.Done i) c b = with_drafts (without (txn_of c) b.drafts) b
-- "collected: the standing job of the ticket answered is struck."
feed (A.Collected i) c b = record { drafts = b.drafts; standing = strike i.txn b.standing; past = b.past }
-- "found: every page is torn out."
feed (A.Found n) c b = with_drafts [] b
-- "Any other answer, a refusal too: nothing."
feed (A.Own v) c b = b
feed A.None c b = b
feed (A.Nofit k) c b = b
feed (A.Stored k) c b = b
feed (A.Refused n d) c b = b
-- (a sweep is fed as its collects: Histories, `reports`)
feed (A.Swept n) c b = b
-- (no call of a station is answered so: Moves)
feed (A.Moved n) c b = b
