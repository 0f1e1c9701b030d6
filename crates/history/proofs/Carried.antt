-- The cut rule carried to the code: it holds of every history that is run by functions which meet the public calls' contracts. A history
-- stays within the types, so what the contracts say of typed values is enough.
use Prim.Native.Nat.{ℕ}
use mathlib.Core.Path.{◌≡◌, refl, sym, ap, subst, ◌∙◌}
use mathlib.Core.Bool.{Bool, true, false, cond}
use mathlib.Core.List.{List, [], ◌∷◌}
use mathlib.Core.Option.{Option, some, none}
use Rattle.model.specs.declared as machine
use Rattle.model.specs.declared.Kind.TheVariants.{Narrow, Wide}
use Rattle.model.specs.Scan.{scan}
use Rattle.model.specs.Types.{Station}
use Rattle.model.specs.Kinds.{Kind, store_size, KindFits}
use Rattle.model.specs.Listed.{kind_of, listed, listed_outcome, numbered}
use Rattle.model.specs.Stations.{empty_station}
use Rattle.model.specs.Ranges.{Every, IsByte, StationFits, ListsFit}
use Rattle.model.specs.Effects.{RecordWrite, outcome_of, stored}
use Rattle.model.specs.Calls.{Call, Start, Put, Get, Commit, Step, Abort, Collect, Scan, Sweep, does, is_scan, txn_of, key_of, number_of, IsTyped}
use Rattle.model.proofs.ListedLaws.{kind_fits, station-there, listed-fits, numbered-fits}
use Rattle.model.proofs.StoreLaws.{start-stores-nothing, put-stores-nothing, get-stores-nothing, commit-stores-nothing, abort-stores-nothing, scan-stores-nothing}
use Rattle.model.proofs.RangesKept.{fits-empty, bytes-zeros, fits_kept, bytes-kept, bytes-kept-all}
use Rattle.history.specs.Ledger.{Ledger}
use Rattle.history.specs.Histories.{Event, called, cut, Node, running, down, World, begin, handed, reports, fed, after_call, after_cut, next, run, call_in, AllInRange}
use Rattle.history.specs.CutRule.{CutRule}
use Rattle.history.specs.CallContracts.{Functions, Meets, scan_by, returned, Host, host_begin, listed_node, listed_host, lent, after_return, next_by, run_by, AllTyped}
use Rattle.history.proofs.DraftLaws.{some_inj}
use Rattle.history.proofs.Theorem.{only-scan, next-kind, cut-rule}

-- ── a history stays within the types ──
abbrev pub TypedNode : Node Station → Type 0
TypedNode (running st) = ListsFit st
TypedNode down = Unit {0}

pub record Typed (w : World) : Type 0 where
  pub kind : KindFits w.kind
  pub node : TypedNode w.node
  pub store : Every IsByte w.store

handed-fits : (κ : Kind) → KindFits κ → (c : Call) (k : Node Station) (st : Station) → TypedNode k → handed κ c k ≡ some st → ListsFit st
unfolding handed is_scan
handed-fits κ φ c (running st₀) st f e = subst ListsFit (some_inj e) f
handed-fits κ φ c down st f e = scan-fits (subst (λ (x : Call). handed κ x down ≡ some st) (only-scan κ c st e) e)
  where
    scan-fits : handed κ Scan down ≡ some st → ListsFit st
    scan-fits q = subst ListsFit (some_inj q) (fits-empty κ φ)

typed-next : (v : Event) (w : World) → IsTyped (call_in v) → Typed w → Typed (next v w)
unfolding next call_in
typed-next (called c) w r tw = go (handed w.kind c w.node) refl
  where
    go : (x : Option Station) → handed w.kind c w.node ≡ x → Typed (after_call x c w)
    go none e = unfold after_call in tw
    go (some st) e =
        let f = handed-fits w.kind tw.kind c w.node st tw.node e in
        unfold after_call in record { kind = tw.kind; node = fits_kept c st w.store r f tw.store; store = bytes-kept-all c st w.store r f tw.store }
typed-next (cut c n) w r tw = go (handed w.kind c w.node) refl
  where
    go : (x : Option Station) → handed w.kind c w.node ≡ x → Typed (after_cut x c n w)
    go none e = unfold after_cut in tw
    go (some st) e = unfold after_cut in record { kind = tw.kind; node = tt; store = bytes-kept c st w.store r (handed-fits w.kind tw.kind c w.node st tw.node e) tw.store n }

pub typed-begin : (κ : Kind) → KindFits κ → Typed (begin κ)
unfolding begin
typed-begin κ φ = record { kind = φ; node = fits-empty κ φ; store = bytes-zeros (store_size κ) }

pub typed-run : (vs : List Event) (w : World) → AllTyped vs → Typed w → Typed (run vs w)
unfolding run AllTyped
typed-run [] w r tw = tw
typed-run (v ∷ vs) w r tw = typed-run vs (next v w) r.1 (typed-next v w r.0 tw)

pub all-in-range : (vs : List Event) → AllTyped vs → AllInRange vs
unfolding AllTyped AllInRange
all-in-range [] r = tt
all-in-range (v ∷ vs) r = (r.0.0, all-in-range vs r.1)

-- ── and a host ──
abbrev NodeFits : Node machine.Station.Station → Type 0
NodeFits (running st) = StationFits st
NodeFits down = Unit {0}

record HostFits (h : Host) : Type 0 where
  pub node : NodeFits h.node
  pub store : Every IsByte h.store

listed-typed : (h : Host) → HostFits h → Typed (listed_host h)
listed-typed h t = record { kind = kind_fits h.kind; node = go h.node t.node; store = t.store }
  where
    go : (k : Node machine.Station.Station) → NodeFits k → TypedNode (listed_node k)
    go (running st) f = listed-fits st f
    go down f = tt

-- ── what a function is handed ──
abbrev LentFits : Option machine.Station.Station → Type 0
LentFits none = Unit {0}
LentFits (some st) = StationFits st

lent_fits : (k : machine.Kind.Kind) (c : Call) (n : Node machine.Station.Station) → NodeFits n → LentFits (lent k c n)
unfolding lent
lent_fits k c (running st) f = f
lent_fits k c down f = go (is_scan c)
  where
    go : (b : Bool) → LentFits (cond b (some (numbered (empty_station (kind_of k)))) none)
    go true = numbered-fits (empty_station (kind_of k)) (fits-empty (kind_of k) (kind_fits k))
    go false = tt

abbrev listed_lent : Option machine.Station.Station → Option Station
listed_lent none = none
listed_lent (some st) = some (listed st)

-- the empty station of a kind, there and back
empty-there : (k : machine.Kind.Kind) → listed (numbered (empty_station (kind_of k))) ≡ empty_station (kind_of k)
empty-there k = station-there k (empty_station (kind_of k)) (unfold empty_station in refl) (fits-empty (kind_of k) (kind_fits k))

lent_is : (k : machine.Kind.Kind) (c : Call) (n : Node machine.Station.Station) → listed_lent (lent k c n) ≡ handed (kind_of k) c (listed_node n)
unfolding lent handed
lent_is k c (running st) = refl
lent_is k c down = go (is_scan c)
  where
    go : (b : Bool) → listed_lent (cond b (some (numbered (empty_station (kind_of k)))) none) ≡ cond b (some (empty_station (kind_of k))) none
    go true = ap some (empty-there k)
    go false = refl

-- ── after a cut no station runs ──
cut_down : (κ : Kind) (c : Call) (n : ℕ) (k : Node Station) (s : List ℕ) (b : Ledger) → (next (cut c n) (record { kind = κ; node = k; store = s; ledger = b })).node ≡ down
unfolding next handed after_cut
cut_down κ c n (running st) s b = refl
cut_down κ c n down s b = go (is_scan c)
  where
    go : (x : Bool) → (after_cut (cond x (some (empty_station κ)) none) c n (record { kind = κ; node = down; store = s; ledger = b })).node ≡ down
    go true = refl
    go false = refl

-- ── a contract met is the definition ──
none-stored : (ws : List RecordWrite) (s : List ℕ) → ws ≡ [] → s ≡ stored ws s
unfolding stored
none-stored ws s e = sym (ap (λ (x : List RecordWrite). stored x s) e)

module _ (f : Functions) (m : Meets f) where
  pub returned-is : (c : Call) (st : machine.Station.Station) (s : List ℕ) → IsTyped c → StationFits st → Every IsByte s
      → (listed_outcome (returned f c st s).outcome ≡ outcome_of (does c (listed st) s)) × ((returned f c st s).store ≡ stored (does c (listed st) s).stores s)
  unfolding returned does txn_of key_of number_of
  returned-is (Start t) st s r o b = (m.start st t o r.0.0, none-stored _ s (start-stores-nothing (listed st) t))
  returned-is (Put t k v) st s r o b = (m.put st t k v o r.0.0 r.1 r.0.1, none-stored _ s (put-stores-nothing (listed st) t k v))
  returned-is (Get t k) st s r o b = (m.get st s t k o b r.0.0 r.1, none-stored _ s (get-stores-nothing (listed st) s t k))
  returned-is (Commit t c) st s r o b = (m.commit st t c o r.0.0 r.0.1, none-stored _ s (commit-stores-nothing (listed st) t c))
  returned-is (Step t) st s r o b = m.step st s t o b r.0.0
  returned-is (Abort t) st s r o b = (m.abort st t o r.0.0, none-stored _ s (abort-stores-nothing (listed st) t))
  returned-is (Collect d) st s r o b = m.collect st s d o b r.1
  returned-is Scan st s r o b = (scanned st.kind, none-stored _ s (scan-stores-nothing (kind_of st.kind) s))
    where
      scanned : (k : machine.Kind.Kind) → listed_outcome (scan_by f k s) ≡ outcome_of (scan (kind_of k) s)
      scanned Narrow = unfold scan_by kind_of in m.scan s b
      scanned Wide = unfold scan_by kind_of in m.scan-wide s b
  returned-is (Sweep n) st s r o b = m.sweep st s n o b r.0.1

  call-is : (c : Call) (h : Host) (x : Option machine.Station.Station) → IsTyped c → LentFits x → Every IsByte h.store → listed_host (after_return f x c h) ≡ after_call (listed_lent x) c (listed_host h)
  unfolding after_return after_call
  call-is c h none r o b = refl
  call-is c h (some st) r o b =
      let p = returned-is c st h.store r o b in
      unfold outcome_of in λ i. record { kind = kind_of h.kind; node = running (p.0 i).station; store = p.1 i; ledger = fed (reports c (p.0 i).answer (listed st) h.store) h.ledger }

  next-is : (v : Event) (h : Host) → IsTyped (call_in v) → HostFits h → listed_host (next_by f v h) ≡ next v (listed_host h)
  unfolding next_by call_in
  next-is (called c) h r t = call-is c h (lent h.kind c h.node) r (lent_fits h.kind c h.node t.node) t.store ∙ (unfold next in ap (λ (x : Option Station). after_call x c (listed_host h)) (lent_is h.kind c h.node))
  next-is (cut c n) h r t = λ i. record { kind = sym (next-kind (cut c n) (listed_host h)) i; node = sym (cut_down (kind_of h.kind) c n (listed_node h.node) h.store h.ledger) i; store = (next (cut c n) (listed_host h)).store; ledger = (next (cut c n) (listed_host h)).ledger }

  fits_next : (v : Event) (h : Host) → IsTyped (call_in v) → HostFits h → HostFits (next_by f v h)
  fits_next v h r t = record { node = node v r; store = subst (λ (w : World). Every IsByte w.store) (sym (next-is v h r t)) (typed-next v (listed_host h) r (listed-typed h t)).store }
    where
      after : (c : Call) → IsTyped c → (x : Option machine.Station.Station) → LentFits x → NodeFits (after_return f x c h).node
      after c r none o = unfold after_return in t.node
      after c r (some st) o = unfold after_return in m.fits c st h.store r o t.store

      node : (v : Event) → IsTyped (call_in v) → NodeFits (next_by f v h).node
      node (called c) r = unfold next_by call_in in after c r (lent h.kind c h.node) (lent_fits h.kind c h.node t.node)
      node (cut c n) r = unfold next_by in tt

  run-from : (vs : List Event) (h : Host) → AllTyped vs → HostFits h → listed_host (run_by f vs h) ≡ run vs (listed_host h)
  unfolding run_by run AllTyped
  run-from [] h r t = refl
  run-from (v ∷ vs) h r t = run-from vs (next_by f v h) r.1 (fits_next v h r.0 t) ∙ ap (run vs) (next-is v h r.0 t)

  -- a history run by the functions is the definitions' own
  pub run_is : (k : machine.Kind.Kind) (vs : List Event) → AllTyped vs → listed_host (run_by f vs (host_begin k)) ≡ run vs (begin (kind_of k))
  unfolding host_begin begin
  run_is k vs r = run-from vs (host_begin k) r (record { node = numbered-fits (empty_station (kind_of k)) (fits-empty (kind_of k) (kind_fits k)); store = bytes-zeros (store_size (kind_of k)) })
      ∙ ap (λ (st : Station). run vs (record { kind = kind_of k; node = running st; store = (begin (kind_of k)).store; ledger = (begin (kind_of k)).ledger })) (empty-there k)

  -- the cut rule, of whatever meets the contracts
  pub cut-rule-of-calls : (k : machine.Kind.Kind) (vs : List Event) → AllTyped vs → CutRule (kind_of k) (run_by f vs (host_begin k)).store (run_by f vs (host_begin k)).ledger
  cut-rule-of-calls k vs r = subst (λ (w : World). CutRule (kind_of k) w.store w.ledger) (sym (run_is k vs r)) (cut-rule (kind_of k) (kind_fits k) vs (all-in-range vs r))
