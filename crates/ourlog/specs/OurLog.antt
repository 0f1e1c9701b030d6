-- 02 §10: the log that our own desk would send: a history's answers, as lines. Our store is judged by the same rule as the partner's.
use Rattle.std.specs.Prelude.{ℕ, ◌≤◌, ◌≡◌, true, List, [], ◌∷◌, ◌++◌, map, length}
use Rattle.std.proofs.Math.Option.{Option, some, none}
use Rattle.model.specs.declared.Phase.TheVariants.{Closing}
use Rattle.model.specs.declared.Answer.{Answer}
use Rattle.model.specs.declared.Answer.TheVariants as A
use Rattle.model.specs.Types.{Station}
use Rattle.model.specs.Kinds.{Kind, KindFits}
use Rattle.model.specs.Lists.{distinct}
use Rattle.model.specs.Calls.{Call, does, txn_of, key_of}
use Rattle.history.specs.Ledger.{Committed, Ledger, draft_of, committed_from, feed}
use Rattle.history.specs.Histories.{Event, called, cut, World, begin, handed, Report, reports, given_after, next, AllInRange}
use Rattle.shoplog.specs.declared.Verdict.TheVariants.{Clean}
use Rattle.shoplog.specs.Lines.{Line, write, commit, read}
use Rattle.shoplog.specs.Verdicts.{actors, write_set, keys_read, once, ticket_limit, keys_written_limit, keys_read_limit}
use Rattle.shoplog.specs.Logs.{verdict_of}
use Rattle.shoplog.specs.Written.{log_written}

-- ── the lines of one answer, with the ledger before it ──
-- the commit line of a transaction
abbrev pub commit_line : Committed → Line
commit_line j = commit j.id.txn j.id.clock

-- kept: a write. version: a read. slipped: the commit, with the clock of its draft; from here on a scan finds it. No other answer is a line: a
-- transaction's own value is no version, and one that is aborted, or commits nothing, has no commit line.
unfoldable pub logged : Answer → Call → Ledger → List Line
logged A.Kept c b = write (txn_of c) (key_of c) ∷ []
logged (A.Version v i) c b = read (txn_of c) (key_of c) i ∷ []
logged (A.Slipped d) c b = map commit_line (committed_from (draft_of (txn_of c) b.drafts))
logged A.Started c b = []
logged (A.Own v) c b = []
logged A.None c b = []
logged (A.Nofit k) c b = []
logged (A.Closing d) c b = []
logged A.Empty c b = []
logged (A.Done i) c b = []
logged (A.Stored k) c b = []
logged A.Dropped c b = []
logged (A.Collected i) c b = []
logged (A.Found n) c b = []
logged (A.Refused n d) c b = []
logged (A.Swept n) c b = []
logged (A.Moved n) c b = []

-- ── of a history: what its ledger is fed, in order ──
unfoldable pub reports_for : Option Station → Call → World → List Report
reports_for none c w = []
reports_for (some st) c w = reports c (does c st w.store).answer st w.store

-- a call's answer, or what of it counts as given when power goes after n stores
unfoldable pub reports_of : Event → World → List Report
reports_of (called c) w = reports_for (handed w.kind c w.node) c w
reports_of (cut c n) w = given_after n (reports_for (handed w.kind c w.node) c w)

unfoldable pub lines_of : List Report → Ledger → List Line
lines_of [] b = []
lines_of (r ∷ rs) b = logged r.answer r.call b ++ lines_of rs (feed r.answer r.call b)

unfoldable pub log_of : List Event → World → List Line
log_of [] w = []
log_of (v ∷ vs) w = lines_of (reports_of v w) w.ledger ++ log_of vs (next v w)

-- ── the hypotheses ──
-- the numbers that were answered started
unfoldable pub started_in : Answer → Call → List ℕ
started_in A.Started c = txn_of c ∷ []
started_in A.Kept c = []
started_in (A.Own v) c = []
started_in (A.Version v i) c = []
started_in A.None c = []
started_in (A.Nofit k) c = []
started_in (A.Closing d) c = []
started_in A.Empty c = []
started_in (A.Done i) c = []
started_in (A.Stored k) c = []
started_in (A.Slipped d) c = []
started_in A.Dropped c = []
started_in (A.Collected i) c = []
started_in (A.Found n) c = []
started_in (A.Refused n d) c = []
started_in (A.Swept n) c = []
started_in (A.Moved n) c = []

unfoldable pub starts_in : List Report → List ℕ
starts_in [] = []
starts_in (r ∷ rs) = started_in r.answer r.call ++ starts_in rs

unfoldable pub starts_of : List Event → World → List ℕ
starts_of [] w = []
starts_of (v ∷ vs) w = starts_in (reports_of v w) ++ starts_of vs (next v w)

-- "no number is started twice": a log knows a transaction by its number alone
abbrev pub StartedOnce : Kind → List Event → Type 0
StartedOnce κ vs = distinct (starts_of vs (begin κ)) ≡ true

-- the log's limits: 64 transactions that write or read, 8 keys written and 16 read by each
pub record KeepsLimits (ls : List Line) : Type 0 where
  pub tickets : length (once (actors ls)) ≤ ticket_limit
  pub writes : (t : ℕ) → length (once (write_set t ls)) ≤ keys_written_limit
  pub reads : (t : ℕ) → length (once (keys_read t ls)) ≤ keys_read_limit

-- the claim: the bytes of our log are clean
abbrev pub OursIsClean : Type 0
OursIsClean = (κ : Kind) → KindFits κ → (vs : List Event) → AllInRange vs → StartedOnce κ vs → KeepsLimits (log_of vs (begin κ)) → verdict_of (log_written (log_of vs (begin κ))) ≡ Clean
