-- A request carried out, and requests one after the other.
use Prim.Native.Nat.{ℕ, ◌+◌, ◌*◌, ◌-◌, ◌<◌, ◌≤◌}
use mathlib.Core.Path.{◌≡◌, refl, sym, ap, ap₂, ◌∙◌}
use mathlib.Core.Bool.{Bool, true, false, cond}
use mathlib.Core.List.{List, ◌++◌, append-nil, append_assoc}
use lib.ListN.{length, take, drop}
use lib.Seq.{take_all}
use native.Mathlib.Omega.{arith}
use borrow.Rule.Slice.PartMut.{put_mid}
use Rattle.model.specs.declared.Station as machine
use Rattle.model.specs.Types.{Outcome}
use Rattle.model.specs.Listed.{kind_of, listed, listed_outcome}
use Rattle.model.specs.Lists.{◌or◌}
use Rattle.model.specs.Sound.{sound}
use Rattle.model.specs.Effects.{stored, outcome_of}
use Rattle.model.specs.Sweep.{sweep}
use Rattle.model.specs.Calls.{is_scan}
use Rattle.model.specs.Scan.{scan}
use Rattle.model.proofs.Tests.{or-intro-right, or-false}
use Rattle.stations.specs.declared.Change.{Change}
use Rattle.stations.specs.Changes.{changed_by, IsChange}
use Rattle.stations.proofs.Changes.{comes-to}
use Rattle.sheet.specs.declared.Command.{Command}
use Rattle.sheet.specs.declared.Command.TheVariants as C
use Rattle.sheet.specs.Commands.{command_of}
use Rattle.sheet.specs.Sheets.{line_effect}
use Rattle.desk.specs.declared.Request.{Request}
use Rattle.desk.specs.Acts.{call_of, asks_scan, effect_of, acted, kept}
use Rattle.desk.proofs.ActLaws.{call-is, acted-is, kept-is, scan-acts, sweep-acts, acted-tested}
use Rattle.image.specs.Layout.{parts}
use Rattle.image.specs.Images.{station_in, is_image}
use Rattle.image.proofs.PartLaws.{next_place, part-is, parts_next, put_front}
use Rattle.interface.specs.declared.Current.{Current}
use Rattle.interface.specs.Exchange.{request_size, answer_size, request_call, answer_bytes, Held, unsound_station, held_in, request_effect, after_request, after_requests, answers_to, image_of, image_after, requests_in, after_run, answers_in}
use Rattle.interface.specs.Parts.{held_of}
use Rattle.interface.proofs.LengthLaws.{one-part}

-- ── one request ──
module _ (q : List ℕ) (h : Current) (s : List ℕ) (r : Request) (e : r.command ≡ command_of (request_call q)) where
  scan-of : asks_scan (call_of r.command) ≡ asks_scan (request_call q)
  scan-of = ap asks_scan (call-is r (request_call q) e)

  module _ (o : Outcome) (p : o ≡ acted (listed h.station) s r) where
    outcome-is : o ≡ outcome_of (line_effect (request_call q) (listed h.station) s)
    outcome-is = p ∙ acted-is r (request_call q) e (listed h.station) s

    request-run : (l : Current) → l.whole ≡ (h.whole or asks_scan (request_call q)) → listed l.station ≡ o.station → (s' : List ℕ) → s' ≡ kept (listed h.station) s r
        → held_of l s' ≡ after_request q (held_of h s)
    unfolding held_of after_request request_effect outcome_of
    request-run l w g s' k = λ i. record { whole = w i; station = (g ∙ ap (λ (x : Outcome). x.station) outcome-is) i; store = (k ∙ kept-is r (request_call q) e (listed h.station) s) i }

    request-answered : answer_bytes o.answer ≡ answer_bytes (request_effect q (held_of h s)).answer
    unfolding held_of request_effect outcome_of
    request-answered = ap (λ (x : Outcome). answer_bytes x.answer) outcome-is

  -- a scan, and its station
  module _ (n : asks_scan (call_of r.command) ≡ true) where
    scan-is : outcome_of (scan (kind_of h.station.kind) s) ≡ acted (listed h.station) s r
    scan-is = (scan-acts (listed h.station) s r n _ refl).0

    pub scan-run : (l : Current) → l.whole ≡ true → listed l.station ≡ (scan (kind_of h.station.kind) s).station → held_of l s ≡ after_request q (held_of h s)
    unfolding outcome_of
    scan-run l w g = request-run _ scan-is l (w ∙ sym (or-intro-right h.whole _ (sym scan-of ∙ n))) g s (scan-acts (listed h.station) s r n _ refl).1

    pub scan-answered : answer_bytes (scan (kind_of h.station.kind) s).answer ≡ answer_bytes (request_effect q (held_of h s)).answer
    unfolding outcome_of
    scan-answered = request-answered _ scan-is

  -- a sweep, and its station
  module _ (n : ℕ) (c : r.command ≡ C.Sweep n) where
    no-scan : asks_scan (call_of r.command) ≡ false
    unfolding call_of asks_scan is_scan
    no-scan = ap (λ (x : Command). asks_scan (call_of x)) c

    sweep-is : outcome_of (sweep (listed h.station) s n) ≡ acted (listed h.station) s r
    sweep-is = (sweep-acts (listed h.station) s r n c _ refl _ refl).0

    pub sweep-run : (t : Bool) (st : machine.Station) → listed st ≡ (sweep (listed h.station) s n).station → (s' : List ℕ) → s' ≡ stored (sweep (listed h.station) s n).stores s
        → held_of (record { whole = h.whole; tested = t; station = st }) s' ≡ after_request q (held_of h s)
    unfolding outcome_of
    sweep-run t st g s' k = request-run _ sweep-is _ (sym (ap (λ (b : Bool). h.whole or b) (sym scan-of ∙ no-scan) ∙ or-false h.whole)) g s' (sweep-acts (listed h.station) s r n c _ refl s' k).1

    pub sweep-answered : answer_bytes (sweep (listed h.station) s n).answer ≡ answer_bytes (request_effect q (held_of h s)).answer
    unfolding outcome_of
    sweep-answered = request-answered _ sweep-is

    pub sweep-tested : h.tested ≡ sound (listed h.station) → (st : machine.Station) → listed st ≡ (sweep (listed h.station) s n).station → h.tested ≡ sound (listed st)
    unfolding ◌or◌ outcome_of
    sweep-tested t st g = t ∙ sym (acted-tested (listed h.station) s r ∙ ap (λ (b : Bool). b or sound (listed h.station)) no-scan) ∙ ap (λ (x : Outcome). sound x.station) (sym sweep-is) ∙ ap sound (sym g)

  -- any other request: a change
  module _ (n : asks_scan (call_of r.command) ≡ false) (c : Change) (d : IsChange h.station (effect_of (listed h.station) s r) c) where
    change-is : listed_outcome (changed_by h.station c) ≡ acted (listed h.station) s r
    unfolding acted
    change-is = comes-to _ _ _ d

    pub change-run : (t : Bool) (s' : List ℕ) → s' ≡ kept (listed h.station) s r
        → held_of (record { whole = h.whole; tested = t; station = (changed_by h.station c).station }) s' ≡ after_request q (held_of h s)
    change-run t s' k = request-run _ change-is _ (sym (ap (λ (b : Bool). h.whole or b) (sym scan-of ∙ n) ∙ or-false h.whole)) refl s' k

    pub change-answered : answer_bytes c.answer ≡ answer_bytes (request_effect q (held_of h s)).answer
    unfolding changed_by
    change-answered = request-answered _ change-is

    -- the soundness test says of the station what it did
    pub change-tested : h.tested ≡ sound (listed h.station) → h.tested ≡ sound (listed (changed_by h.station c).station)
    unfolding ◌or◌
    change-tested t = t ∙ sym (acted-tested (listed h.station) s r ∙ ap (λ (b : Bool). b or sound (listed h.station)) n) ∙ ap (λ (x : Outcome). sound x.station) (sym change-is)

-- ── one after the other ──
-- what is left of n requests after the first i
abbrev pub left : ℕ → List ℕ → ℕ → List (List ℕ)
left n b i = parts request_size (n - i) (drop (request_size * i) b)

-- the first i are answered, and what is left gives the rest of what all come to
pub record Passed (n : ℕ) (b : List ℕ) (done : Held) (said : List ℕ) (i : ℕ) (h : Held) (out : List ℕ) : Type 0 where
  pub after_is : after_requests (left n b i) h ≡ done
  pub answers-are : take (answer_size * i) out ++ answers_to (left n b i) h ≡ said

pub passed_none : (n : ℕ) (b : List ℕ) (h : Held) (out : List ℕ) → Passed n b (after_requests (parts request_size n b) h) (answers_to (parts request_size n b) h) 0 h out
passed_none n b h out =
    let e : n - 0 ≡ n = omega arith in
    record { after_is = ap (λ (m : ℕ). after_requests (parts request_size m b) h) e; answers-are = ap (λ (m : ℕ). answers_to (parts request_size m b) h) e }

module _ (n : ℕ) (b : List ℕ) (done : Held) (said : List ℕ) (i : ℕ) (h : Held) (out : List ℕ) (p : Passed n b done said i h out) where
  pub passed-more : i < n → answer_size * i + answer_size ≤ length out → (h' : Held) (y : List ℕ) → length y ≡ answer_size
      → h' ≡ after_request (take (request_size * i + request_size - request_size * i) (drop (request_size * i) b)) h
      → y ≡ answer_bytes (request_effect (take (request_size * i + request_size - request_size * i) (drop (request_size * i) b)) h).answer
      → Passed n b done said (i + 1) h' (put_mid (answer_size * i) (answer_size * i + answer_size - answer_size * i) out y)
  unfolding after_requests answers_to
  passed-more o l h' y k e f =
      let q = part-is b (request_size * i) request_size in
      record {
        after_is = ap (after_requests (left n b (i + 1))) (e ∙ ap (λ (x : List ℕ). after_request x h) q) ∙ sym (ap (λ (x : List (List ℕ)). after_requests x h) (parts_next request_size n i b o)) ∙ p.after_is;
        answers-are =
            ap (λ (x : List ℕ). x ++ answers_to (left n b (i + 1)) h') (ap (λ (m : ℕ). take m (put_mid (answer_size * i) (answer_size * i + answer_size - answer_size * i) out y)) (next_place answer_size i) ∙ put_front out y (answer_size * i) answer_size l k)
            ∙ append_assoc (take (answer_size * i) out) y (answers_to (left n b (i + 1)) h')
            ∙ ap₂ (λ (x : List ℕ) (z : Held). take (answer_size * i) out ++ (x ++ answers_to (left n b (i + 1)) z)) (f ∙ ap (λ (x : List ℕ). answer_bytes (request_effect x h).answer) q) (e ∙ ap (λ (x : List ℕ). after_request x h) q)
            ∙ sym (ap (λ (x : List (List ℕ)). take (answer_size * i) out ++ answers_to x h) (parts_next request_size n i b o))
            ∙ p.answers-are;
      }

  pub passed-all : n ≤ i → length out ≤ answer_size * i → (h ≡ done) × (out ≡ said)
  unfolding after_requests answers_to parts
  passed-all o l =
      let e : n - i ≡ 0 = omega arith in (
        sym (ap (λ (m : ℕ). after_requests (parts request_size m (drop (request_size * i) b)) h) e) ∙ p.after_is,
        sym (take_all (answer_size * i) out l) ∙ sym (append-nil _) ∙ sym (ap (λ (m : ℕ). take (answer_size * i) out ++ answers_to (parts request_size m (drop (request_size * i) b)) h) e) ∙ p.answers-are,
      )

-- ── bytes handed over ──
module _ (image s b : List ℕ) (f : Current) (e : f.whole ≡ is_image image) (g : listed f.station ≡ cond (is_image image) (listed (station_in image)) unsound_station) where
  first-held : held_of f s ≡ held_in image s
  unfolding held_of held_in
  first-held = λ i. record { whole = e i; station = g i; store = s }

  pub run-answers : answers_to (requests_in b) (held_of f s) ≡ answers_in image s b
  unfolding answers_in
  run-answers = ap (answers_to (requests_in b)) first-held

  pub run-held : (l : Current) (s' : List ℕ) → held_of l s' ≡ after_requests (requests_in b) (held_of f s) → held_of l s' ≡ after_run image s b
  unfolding after_run
  run-held l s' h = h ∙ ap (after_requests (requests_in b)) first-held

  -- one request
  module _ (l : length b ≡ request_size) where
    pub one-held : (c : Current) (s' : List ℕ) → held_of c s' ≡ after_requests (requests_in b) (held_of f s) → held_of c s' ≡ after_request b (held_in image s)
    unfolding after_requests
    one-held c s' h = h ∙ ap₂ after_requests (one-part b l) first-held

    pub one-answered : answers_to (requests_in b) (held_of f s) ≡ answer_bytes (request_effect b (held_in image s)).answer
    unfolding answers_to
    one-answered = ap₂ answers_to (one-part b l) first-held ∙ append-nil _

pub run_store : (l : Current) (s' : List ℕ) (h : Held) → held_of l s' ≡ h → s' ≡ h.store
unfolding held_of
run_store l s' h e = ap (λ (x : Held). x.store) e

pub run-image : (image : List ℕ) (l : Current) (s' : List ℕ) (h : Held) → held_of l s' ≡ h → cond l.whole (image_of (listed l.station)) image ≡ image_after image h
unfolding held_of image_after
run-image image l s' h e = ap (image_after image) e
