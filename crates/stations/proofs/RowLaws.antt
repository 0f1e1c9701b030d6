-- The first row that applies, as the code finds it, against a call's list of refusals; and what holds where none applies.
use Prim.Native.Nat.{ℕ, suc, ◌<◌, ◌≤◌}
use mathlib.Core.Path.{◌≡◌, refl, sym, ap, subst, ◌∙◌}
use mathlib.Core.Logic.{◌≢◌}
use mathlib.Core.Bool.{Bool, true, false, not}
use mathlib.Core.List.{List, [], ◌∷◌, ◌++◌, map}
use lib.Dec.{eqb, leb}
use lib.ListN.{length, length-map}
use native.Mathlib.Decide.{dec_lt}
use native.Mathlib.Nat.{lt_irrefl}
use native.Mathlib.Omega.{arith}
use borrow.Author.Tests.{not-false, eqb-false, leb-true, leb-false, le-leb, lt-leb}
use Rattle.model.specs.Types.{Live}
use Rattle.model.specs.declared.Phase.{Phase}
use Rattle.model.specs.Types.{Station}
use Rattle.model.specs.declared.Answer.TheVariants as A
use Rattle.model.specs.Lists.{first, all, any}
use Rattle.model.specs.Limits.{keys, live_places}
use Rattle.model.specs.Lives.{is_closing}
use Rattle.model.specs.Stations.{live_at, is_live, place_of, live_txns}
use Rattle.model.specs.Sound.{sound}
use Rattle.model.specs.Effects.{Effect, Row, says, ◌when◌, refusals, unsound}
use Rattle.model.specs.declared.refusal.Refusal.{Refusal}
use Rattle.model.specs.declared.refusal.Refusal.TheVariants as R
use Rattle.model.specs.Refusals.{number_of}
use Rattle.model.proofs.ListLaws.{all_head, all_tail, any-no}
use Rattle.model.proofs.RefusalLaws.{row-off}
use Rattle.model.proofs.SoundFacts.{live_facts}
use Rattle.model.proofs.SoundLaws.{Used}
use Rattle.model.proofs.StationLaws.{place-hit}
use Rattle.stations.specs.Found.{live_txn, live_in, place_in, is_live_in, first_row, named_rows, open_rows}
use Rattle.stations.proofs.Search.{member-hit, member-miss}

-- a row's number is not 0, which stands for none
abbrev pub is_numbered : Row → Bool
is_numbered r = leb 1 r.returned

abbrev pub applies : Row → Bool
applies r = r.applies

ne_zero : (n : ℕ) → suc n ≢ 0
ne_zero n z = lt_irrefl 0 (omega arith)

-- a refusal's number is not 0, which stands for none
pub numbered : (r : Refusal) → number_of r ≢ 0
numbered R.StoreLength = λ z. ne_zero 0 z
numbered R.Unsound = λ z. ne_zero 1 z
numbered R.TransactionZero = λ z. ne_zero 2 z
numbered R.KeyRange = λ z. ne_zero 3 z
numbered R.ClockZero = λ z. ne_zero 4 z
numbered R.Taken = λ z. ne_zero 5 z
numbered R.LiveFull = λ z. ne_zero 6 z
numbered R.NotLive = λ z. ne_zero 7 z
numbered R.IsClosing = λ z. ne_zero 8 z
numbered R.NotClosing = λ z. ne_zero 9 z
numbered R.WritesFull = λ z. ne_zero 10 z
numbered R.ReadsFull = λ z. ne_zero 11 z
numbered R.SlotsFull = λ z. ne_zero 12 z
numbered R.NotHeld = λ z. ne_zero 13 z
numbered R.Newest = λ z. ne_zero 14 z
numbered R.IsRead = λ z. ne_zero 15 z
numbered R.RecordChanged = λ z. ne_zero 16 z
numbered R.Damaged = λ z. ne_zero 17 z
numbered R.Malformed = λ z. ne_zero 18 z
numbered R.LimitRange = λ z. ne_zero 19 z
numbered R.NoClock = λ z. ne_zero 20 z
numbered R.TooManySlots = λ z. ne_zero 21 z
numbered R.TooManyKeys = λ z. ne_zero 22 z
numbered R.NotAStream = λ z. ne_zero 26 z
numbered R.LogLimits = λ z. ne_zero 27 z

-- ── the first row that applies ──
first-hit : (rs : List Row) (st : Station) (e : Effect) → first_row rs ≢ 0 → refusals rs st e ≡ says (A.Refused (first_row rs) 0) st
unfolding first_row refusals
first-hit [] st e h = absurd (h refl)
first-hit (r ∷ rs) st e h = go r.applies refl (first-hit rs st e)
  where
    go : (b : Bool) → r.applies ≡ b → (first_row rs ≢ 0 → refusals rs st e ≡ says (A.Refused (first_row rs) 0) st) → refusals (r ∷ rs) st e ≡ says (A.Refused (first_row (r ∷ rs)) 0) st
    go true q ih = rw q
    go false q ih = rw q (ih (rw q at h))

first-none : (rs : List Row) → all is_numbered rs ≡ true → first_row rs ≡ 0 → any applies rs ≡ false
unfolding first_row any
first-none [] n h = refl
first-none (r ∷ rs) n h = go r.applies refl (first-none rs (all_tail is_numbered r rs n))
  where
    go : (b : Bool) → r.applies ≡ b → (first_row rs ≡ 0 → any applies rs ≡ false) → any applies (r ∷ rs) ≡ false
    go true q ih = absurd (lt_irrefl 0 (omega (arith, leb-true 1 r.returned (all_head is_numbered r rs n), z)))
      where
        z : r.returned ≡ 0
        z = rw q at h
    go false q ih = any-no applies r rs q ∙ ih (rw q at h)

none-skipped : (rs : List Row) (st : Station) (e : Effect) → any applies rs ≡ false → refusals rs st e ≡ e
unfolding refusals
none-skipped [] st e h = refl
none-skipped (r ∷ rs) st e h =
    let f = row-off r.returned r.applies rs h in
    rw f.0 (none-skipped rs st e f.1)

-- more rows after some
pub first-append : (rs ms : List Row) → first_row rs ≢ 0 → first_row rs ≡ first_row (rs ++ ms)
unfolding first_row
first-append [] ms h = absurd (h refl)
first-append (r ∷ rs) ms h = go r.applies refl (first-append rs ms)
  where
    go : (b : Bool) → r.applies ≡ b → (first_row rs ≢ 0 → first_row rs ≡ first_row (rs ++ ms)) → first_row (r ∷ rs) ≡ first_row (r ∷ rs ++ ms)
    go true q ih = rw q
    go false q ih = rw q (ih (rw q at h))

pub first-beyond : (rs ms : List Row) → any applies rs ≡ false → first_row ms ≡ first_row (rs ++ ms)
unfolding first_row
first-beyond [] ms h = refl
first-beyond (r ∷ rs) ms h =
    let f = row-off r.returned r.applies rs h in
    rw f.0 (first-beyond rs ms f.1)

-- ── row 2 alone ──
pub is-unsound : (st : Station) → sound st ≡ false → unsound st ≡ true
unfolding unsound
is-unsound st h = ap not h

pub not-unsound : (st : Station) → sound st ≡ true → unsound st ≡ false
unfolding unsound
not-unsound st h = ap not h

-- ── rows by what the soundness test says: the code was told b ──
module _ (st : Station) (rows : Bool → List Row) (b : Bool) (tested : b ≡ sound st) (r : ℕ) (e : r ≡ first_row (rows b)) where
  rows-first : r ≡ first_row (rows (sound st))
  rows-first = e ∙ ap (λ (x : Bool). first_row (rows x)) tested

  pub rows-refused : r ≢ 0 → (x : Effect) → refusals (rows (sound st)) st x ≡ says (A.Refused r 0) st
  rows-refused n x = first-hit (rows (sound st)) st x (λ z. n (rows-first ∙ z)) ∙ ap (λ (m : ℕ). says (A.Refused m 0) st) (sym rows-first)

  pub rows-off : all is_numbered (rows (sound st)) ≡ true → r ≡ 0 → any applies (rows (sound st)) ≡ false
  rows-off n z = first-none (rows (sound st)) n (sym rows-first ∙ z)

-- the same of what the code answers: the refusal, or that no row applies
module _ (st : Station) (rows : Bool → List Row) (b : Bool) (tested : b ≡ sound st) where
  pub refusal-comes : (r : Refusal) → number_of r ≡ first_row (rows b) → (x : Effect) → refusals (rows (sound st)) st x ≡ says (A.Refused (number_of r) 0) st
  refusal-comes r e x = rows-refused st rows b tested (number_of r) e (numbered r) x

  module _ (e : first_row (rows b) ≡ 0) (n : all is_numbered (rows (sound st)) ≡ true) where
    pub none-applies : any applies (rows (sound st)) ≡ false
    none-applies = rows-off st rows b tested 0 (sym e) n refl

    pub rows-passed : (x : Effect) → refusals (rows (sound st)) st x ≡ x
    rows-passed x = none-skipped (rows (sound st)) st x none-applies

pub named-numbered : (ls : List Live) (t k : ℕ) (b : Bool) → all is_numbered (named_rows ls t k b) ≡ true
unfolding all named_rows
named-numbered ls t k b = refl

pub open-numbered : (ls : List Live) (t k : ℕ) (b : Bool) → all is_numbered (open_rows ls t k b) ≡ true
unfolding all named_rows open_rows
open-numbered ls t k b = refl

-- ── a call's transaction: t is live at place i of a sound station, and the key k is one ──
pub record Placed (st : Station) (t k i : ℕ) : Type 0 where
  pub right : sound st ≡ true
  pub number : t ≢ 0
  pub key : k < keys
  pub low : i < live_places
  pub place : i ≡ place_of t st
  pub live : is_live t st ≡ true

module _ (st : Station) (t k i : ℕ) (p : i ≡ place_in t st.live) (o : i < live_places) where
  found : (ms : List Row) → any applies (named_rows st.live t k (sound st) ++ ms) ≡ false → Placed st t k i × (any applies ms ≡ false)
  unfolding named_rows is_live live_txns place_of
  found ms h =
      let a = row-off 2 _ _ h in
      let b = row-off 3 _ _ a.1 in
      let c = row-off 4 _ _ b.1 in
      let d = row-off 8 _ _ c.1 in
      (record { right = not-false _ a.0; number = eqb-false t 0 b.0; key = leb-false keys k c.0; low = o; place = p; live = not-false _ d.0 }, d.1)

  module _ (b : Bool) (tested : b ≡ sound st) where
    pub named-found : first_row (named_rows st.live t k b) ≡ 0 → Placed st t k i
    unfolding named_rows
    named-found e = (found [] (none-applies st (named_rows st.live t k) b tested e (named-numbered st.live t k (sound st)))).0

    -- past row 9 it is open
    pub open-found : first_row (open_rows st.live t k b) ≡ 0 → Placed st t k i
    unfolding open_rows
    open-found e = (found (9 when is_closing (live_in st.live (place_in t st.live)).phase ∷ []) (none-applies st (open_rows st.live t k) b tested e (open-numbered st.live t k (sound st)))).0

-- its transaction keeps the rules of one in use
module _ (st : Station) (t k i : ℕ) (f : Placed st t k i) where
  pub place-numbered : (live_at st i).txn ≢ 0
  place-numbered = subst (λ (j : ℕ). (live_at st j).txn ≢ 0) (sym f.place) (λ e. f.number (sym (place-hit st t f.live).1 ∙ e))

  pub place-used : Used st.kind st.entries (live_at st i)
  place-used = live_facts st f.right i place-numbered

-- ── from the place that was found ──
pub place-row : (ls : List Live) (t i : ℕ) → length ls ≡ 8 → i ≡ first (eqb t) (map live_txn ls) → leb live_places i ≡ not (is_live_in t ls)
place-row ls t i n at = go (dec_lt i 8)
  where
    go : Dec (i < 8) → leb live_places i ≡ not (is_live_in t ls)
    go (yes y) = lt-leb 8 i y ∙ sym (ap not (member-hit t i (map live_txn ls) (sym at) (rw (length-map ls live_txn, n) y)))
    go (no y) = let o : 8 ≤ i = omega (arith, y) in le-leb 8 i o ∙ sym (ap not (member-miss t i (map live_txn ls) (sym at) (rw (length-map ls live_txn, n) o)))

-- row 9 after the others
module _ (ls : List Live) (t k : ℕ) (b : Bool) where
  pub open-early : (r : Refusal) → number_of r ≡ first_row (named_rows ls t k b) → number_of r ≡ first_row (open_rows ls t k b)
  unfolding open_rows
  open-early r e = e ∙ first-append (named_rows ls t k b) _ (λ z. numbered r (e ∙ z))

  module _ (z : first_row (named_rows ls t k b) ≡ 0) (i : ℕ) (p : i ≡ place_in t ls) (h : Phase) (f : h ≡ (live_in ls i).phase) where
    open-late : first_row (9 when is_closing h ∷ []) ≡ first_row (open_rows ls t k b)
    unfolding open_rows
    open-late =
        ap (λ (x : Phase). first_row (9 when is_closing x ∷ [])) (f ∙ ap (λ (j : ℕ). (live_in ls j).phase) p)
        ∙ first-beyond (named_rows ls t k b) _ (first-none (named_rows ls t k b) (named-numbered ls t k b) z)

    pub open-closing : is_closing h ≡ true → 9 ≡ first_row (open_rows ls t k b)
    unfolding first_row
    open-closing c = sym (ap (λ (x : Bool). first_row (9 when x ∷ [])) c) ∙ open-late

    pub open_none : is_closing h ≡ false → first_row (open_rows ls t k b) ≡ 0
    unfolding first_row
    open_none c = sym open-late ∙ ap (λ (x : Bool). first_row (9 when x ∷ [])) c
