-- 02 §10: our own log is clean (specs/OurLog).
use Prim.Native.Nat.{ℕ, zero, suc, ◌-◌}
use mathlib.Core.Path.{◌≡◌, refl, sym, ap, subst, ◌∙◌}
use mathlib.Core.Logic.{◌⊎◌, inl, inr, ⊎_elim}
use mathlib.Core.Bool.{true, false}
use mathlib.Core.List.Memᴰ
use mathlib.Core.List.{List, [], ◌∷◌, ◌++◌, map, append_assoc}
use mathlib.Core.Option.{Option, some, none}
use lib.Dec.{leb, lit<}
use Rattle.model.specs.Types.{Station}
use Rattle.model.specs.Kinds.{Kind}
use Rattle.model.specs.Sound.{sound}
use Rattle.model.specs.Effects.{stored}
use Rattle.model.specs.Sweep.{collections}
use Rattle.model.specs.Calls.{Call, Collect, Scan, does, is_sweep, txn_of, number_of, InRange}
use Rattle.model.proofs.RefusalLaws.{cond-rule}
use Rattle.model.proofs.SoundKept.{sound-scan, sound-kept}
use Rattle.model.proofs.CollectionLaws.{Ends, Goes, ends-or-goes, ends, next_station, next_store, goes}
use Rattle.history.specs.Ledger.{Ledger, feed}
use Rattle.history.specs.Histories.{Event, called, cut, Node, running, down, World, begin, handed, Report, report_of, reports, fed, given_after, after_call, after_cut, next, run, call_in, AllInRange}
use Rattle.history.proofs.Invariant.{Core, Inv}
use Rattle.history.proofs.DraftLaws.{some_inj}
use Rattle.history.proofs.Lasting.{lasting}
use Rattle.history.proofs.Collecting.{collect-keeps}
use Rattle.history.proofs.Recovering.{scan-keeps}
use Rattle.history.proofs.Theorem.{call-keeps, only-scan, down-kind, Running, State, next-keeps, begin-state}
use Rattle.shoplog.specs.Lines.{Line}
use Rattle.shoplog.specs.Logs.{verdict_from, verdict_of}
use Rattle.shoplog.specs.Claims.{onto}
use Rattle.shoplog.proofs.CleanLines.{fine-from}
use Rattle.shoplog.proofs.WrittenLaws.{log_back}
use Rattle.ourlog.specs.OurLog.{reports_for, reports_of, lines_of, log_of, started_in, starts_in, starts_of, logged, OursIsClean}
use Rattle.ourlog.proofs.Lines.{onto-append, onto-mem, every-onto}
use Rattle.ourlog.proofs.Agrees.{Agrees, agrees-empty}
use Rattle.ourlog.proofs.Limits.{within-limits}
use Rattle.ourlog.proofs.TransactionLines.{Answered}
use Rattle.ourlog.proofs.Answering.{scanned, answers}

-- ── what the ledger is fed for a call, and for one cut short ──
-- all of it leaves ledger and lines agreed
pub record Passes (rs : List Report) (b : Ledger) : Type 0 where
  pub agreed : (ls : List Line) (ns : List ℕ) → Agrees b ls (starts_in rs ++ ns) → Agrees (fed rs b) (onto ls (lines_of rs b)) ns

record AllPass (rs : List Report) (b : Ledger) : Type 0 where
  whole : Passes rs b
  cut_short : (n : ℕ) → Passes (given_after n rs) b

none_passes : (b : Ledger) → Passes [] b
unfolding fed lines_of starts_in onto
none_passes b = record { agreed = λ ls ns ag. ag }

more-passes : (r : Report) (rs : List Report) (b : Ledger) → Answered b r.call r.answer → Passes rs (feed r.answer r.call b) → Passes (r ∷ rs) b
unfolding fed lines_of starts_in
more-passes r rs b a f = record {
  agreed = λ ls ns ag. rw (onto-append ls (logged r.answer r.call b) (lines_of rs (feed r.answer r.call b)))
      (f.agreed _ ns (a.agreed ls (starts_in rs ++ ns) (subst (Agrees b ls) (append_assoc (started_in r.answer r.call) (starts_in rs) ns) ag)));
}

nothing : (b : Ledger) → AllPass [] b
unfolding given_after
nothing b = record { whole = none_passes b; cut_short = λ n. none_passes b }

one_more : (r : Report) (rs : List Report) (b : Ledger) → Answered b r.call r.answer → AllPass rs (feed r.answer r.call b) → AllPass (r ∷ rs) b
unfolding given_after
one_more r rs b a f = record {
  whole = more-passes r rs b a f.whole;
  cut_short = λ n. cond-rule (λ (x : List Report). Passes x b) (leb r.stores n) _ _ (λ y. more-passes r _ b a (f.cut_short (n - r.stores))) (λ y. none_passes b);
}

-- ── each call ──
-- a collect's numbers are in their ranges
collect-range : (d : ℕ) → InRange (Collect d)
unfolding txn_of number_of
collect-range d = (lit< tt, lit< tt)

-- what lasts after a collect
collect-answered : (st : Station) (s : List ℕ) (b : Ledger) (d : ℕ) → sound st ≡ true → Inv st s b → Answered b (Collect d) (does (Collect d) st s).answer
unfolding does
collect-answered st s b d h inv = (answers st s b inv h (Collect d) (collect-range d)).leaves _ _ (lasting _ _ _ (sound-kept (Collect d) st s h) (collect-keeps st s b d inv h).after)

collects : (n : ℕ) (st : Station) (s : List ℕ) (b : Ledger) → sound st ≡ true → Inv st s b → AllPass (map report_of (collections n st s)) b
unfolding report_of
collects zero st s b h inv = unfold collections in nothing b
collects (suc n) st s b h inv = go (ends-or-goes st s) (λ st₁ s₁ b₁ h₁ i₁. collects n st₁ s₁ b₁ h₁ i₁)
  where
    go : Ends st s ⊎ Goes st s → ((st₁ : Station) (s₁ : List ℕ) (b₁ : Ledger) → sound st₁ ≡ true → Inv st₁ s₁ b₁ → AllPass (map report_of (collections n st₁ s₁)) b₁)
        → AllPass (map report_of (collections (suc n) st s)) b
    go (inl e) ih = rw (ends st s e (suc n)) (nothing b)
    go (inr g) ih = rw (goes st s g n) (one_more _ _ b (unfold does in collect-answered st s b g.slot h inv)
        (ih (next_station st s g) (next_store st s g) _ (unfold does in sound-kept (Collect g.slot) st s h) (collect-keeps st s b g.slot inv h).after))

all_pass : (c : Call) (st : Station) (s : List ℕ) (b : Ledger) → InRange c → sound st ≡ true → Inv st s b → AllPass (reports c (does c st s).answer st s) b
unfolding reports fed
all_pass c st s b f h inv = cond-rule (λ (rs : List Report). AllPass rs b) (is_sweep c) _ _ (λ y. collects _ st s b h inv)
    (λ y. one_more _ [] b ((answers st s b inv h c f).leaves _ _ (lasting _ _ _ (sound-kept c st s h) (after y))) (nothing _))
  where
    after : is_sweep c ≡ false → Inv (does c st s).station (stored (does c st s).stores s) (feed (does c st s).answer c b)
    after y = rw y at (call-keeps c st s b f h inv).after

-- a scan needs no station
scan-passes : (st : Station) (s : List ℕ) (b : Ledger) → Core st.kind s b.standing b.past → AllPass (reports Scan (does Scan st s).answer st s) b
unfolding reports is_sweep does
scan-passes st s b core = one_more _ [] b ((scanned st.kind s b core).leaves _ _ (lasting _ _ _ (sound-scan st.kind s) (scan-keeps st.kind s b core).after)) (nothing _)

-- ── a history ──
handed-passes : (κ : Kind) (c : Call) (n : Node Station) (st : Station) (s : List ℕ) (b : Ledger) → InRange c → Core κ s b.standing b.past → Running κ n s b → handed κ c n ≡ some st
    → AllPass (reports c (does c st s).answer st s) b
unfolding handed
handed-passes κ c (running st₀) st s b f core r e = subst (λ (x : Station). AllPass (reports c (does c x s).answer x s) b) (some_inj e) (all_pass c st₀ s b f r.0 r.1)
handed-passes κ c down st s b f core r e = subst (λ (x : Call). AllPass (reports x (does x st s).answer st s) b) (sym (only-scan κ c st e)) (scan-passes st s b (subst (λ (x : Kind). Core x s b.standing b.past) (sym (down-kind κ c st e)) core))

next-agrees : (v : Event) (w : World) → InRange (call_in v) → State w → (ls : List Line) (ns : List ℕ) → Agrees w.ledger ls (starts_in (reports_of v w) ++ ns)
    → Agrees (next v w).ledger (onto ls (lines_of (reports_of v w) w.ledger)) ns
unfolding next call_in reports_of
next-agrees (called c) w f sw = go (handed w.kind c w.node) refl
  where
    go : (x : Option Station) → handed w.kind c w.node ≡ x → (ls : List Line) (ns : List ℕ) → Agrees w.ledger ls (starts_in (reports_for x c w) ++ ns)
        → Agrees (after_call x c w).ledger (onto ls (lines_of (reports_for x c w) w.ledger)) ns
    go none e = unfold after_call reports_for fed in (none_passes w.ledger).agreed
    go (some st) e = unfold after_call reports_for in (handed-passes w.kind c w.node st w.store w.ledger f sw.lasts.core sw.runs e).whole.agreed
next-agrees (cut c n) w f sw = go (handed w.kind c w.node) refl
  where
    go : (x : Option Station) → handed w.kind c w.node ≡ x → (ls : List Line) (ns : List ℕ) → Agrees w.ledger ls (starts_in (given_after n (reports_for x c w)) ++ ns)
        → Agrees (after_cut x c n w).ledger (onto ls (lines_of (given_after n (reports_for x c w)) w.ledger)) ns
    go none e = unfold after_cut reports_for given_after fed in (none_passes w.ledger).agreed
    go (some st) e = unfold after_cut reports_for in ((handed-passes w.kind c w.node st w.store w.ledger f sw.lasts.core sw.runs e).cut_short n).agreed

run-agrees : (vs : List Event) (w : World) → AllInRange vs → State w → (ls : List Line) → Agrees w.ledger ls (starts_of vs w) → Agrees (run vs w).ledger (onto ls (log_of vs w)) []
unfolding run AllInRange starts_of log_of onto
run-agrees [] w f sw ls ag = ag
run-agrees (v ∷ vs) w f sw ls ag = rw (onto-append ls (lines_of (reports_of v w) w.ledger) (log_of vs (next v w)))
    (run-agrees vs (next v w) f.1 (next-keeps v w f.0 sw) _ (next-agrees v w f.0 sw ls (starts_of vs (next v w)) ag))

pub ours-is-clean : OursIsClean
unfolding verdict_of
ours-is-clean κ φ vs f once limits = ap (verdict_from [] 1) (log_back log (every-onto _ [] log ag.fits).1)
    ∙ fine-from [] log 1 (within-limits log limits (onto [] log) (λ x m. ⊎_elim (λ y. absurd (Memᴰ.not-nil y)) (λ y. y) (onto-mem [] log x m)) ag.good)
  where
    log : List Line
    log = log_of vs (begin κ)

    ag : Agrees (run vs (begin κ)).ledger (onto [] log) []
    ag = run-agrees vs (begin κ) f (begin-state κ φ) [] (unfold begin in agrees-empty _ once)
