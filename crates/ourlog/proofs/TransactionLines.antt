-- The lines that a live transaction's answers give: none is bad, and ledger and lines stay agreed.
use Prim.Native.Nat.{ℕ, ◌<◌, ◌≤◌}
use mathlib.Core.Path.{◌≡◌, refl, sym, ap, subst, ◌∙◌}
use mathlib.Core.Logic.{◌≢◌, ⊎_elim}
use mathlib.Core.Bool.{Bool, true, false, cond}
use mathlib.Core.List.{List, [], ◌∷◌, ◌++◌, map, Memᴰ}
use mathlib.Core.Option.{Option, some, none, none-ne-some}
use native.Mathlib.Decide.{ℕ_discrete}
use native.Mathlib.Nat.{lt_irrefl}
use native.Mathlib.Omega.{arith}
use Rattle.model.specs.declared.Id.{Id}
use Rattle.model.specs.declared.Read.{Read}
use Rattle.model.specs.Types.{Entry, Live, Station}
use Rattle.model.specs.declared.Phase.TheVariants.{Closing}
use Rattle.model.specs.declared.Answer.{Answer}
use Rattle.model.specs.declared.Answer.TheVariants as A
use Rattle.model.specs.Kinds.{Kind}
use Rattle.model.specs.Limits.{keys, txn_range, number_range}
use Rattle.model.specs.Ids.{older}
use Rattle.model.specs.Lives.{writes_of, reads_of, write_count, has_written, value_under, is_closing}
use Rattle.model.specs.Stations.{live_at, entry_at, is_live, place_of}
use Rattle.model.specs.Slots.{committed, seen}
use Rattle.model.specs.Ranges.{Every}
use Rattle.model.specs.Sound.{sound}
use Rattle.model.specs.Reading.{own, version, choose}
use Rattle.model.specs.Get.{choice_of}
use Rattle.model.specs.Calls.{Call, Put, Get, Commit, Step, txn_of, key_of, number_of}
use Rattle.model.proofs.IdLaws.{older-total}
use Rattle.model.proofs.StationLaws.{place-hit, open-clock, clock-closing}
use Rattle.model.proofs.SoundFacts.{closing-facts}
use Rattle.history.specs.Ledger.{Draft, Committed, Ledger, draft_of, revised, with_drafts, reading, committed_of, committed_from, feed}
use Rattle.history.specs.CutRule.{Wrote}
use Rattle.history.specs.Matches.{Matches}
use Rattle.history.proofs.Invariant.{Lasting, Inv, draft_in}
use Rattle.history.proofs.DraftLaws.{mapped, at_same, draft-txn, draft-revised, draft-of, matches-at}
use Rattle.history.proofs.CommittedLaws.{stands-in, committed-id}
use Rattle.history.proofs.SlotOwners.{not_free, unseen}
use Rattle.history.proofs.Storing.{lookup_first}
use Rattle.shoplog.specs.Lines as L
use Rattle.shoplog.specs.Lines.{Line}
use Rattle.shoplog.specs.Verdicts.{read_set}
use Rattle.shoplog.specs.Claims.{onto}
use Rattle.shoplog.specs.Written.{LineFits, IsTxn, IsClock}
use Rattle.shoplog.proofs.GatheredLaws.{read_above}
use Rattle.ourlog.specs.OurLog.{commit_line, logged, started_in}
use Rattle.ourlog.proofs.Agrees.{Uncommitted, Agrees}
use Rattle.ourlog.proofs.Findings.{refuted, write-good, commit-good, read-good}
use Rattle.ourlog.proofs.Rows.{agrees-kept, agrees-read, agrees-closing, agrees-slipped}

-- what an answer leaves, with its lines and the numbers that it starts
pub record Answered (b : Ledger) (c : Call) (a : Answer) : Type 0 where
  pub agreed : (ls : List Line) (ns : List ℕ) → Agrees b ls (started_in a c ++ ns) → Agrees (feed a c b) (onto ls (logged a c b)) ns

-- a commit line's id is in range
committed-fits : (ls : List Line) (t c : ℕ) → Memᴰ (L.commit t c) ls → Every LineFits ls → IsTxn t × IsClock c
committed-fits [] t c m f = absurd (mathlib.Core.List.Memᴰ.not-nil m)
committed-fits (l ∷ ls) t c m f = ⊎_elim (λ e. subst LineFits (sym e) f.0) (λ x. committed-fits ls t c x f.1) (mathlib.Core.List.Memᴰ.cases_cons m)

-- ── a live transaction ──
module _ (st : Station) (s : List ℕ) (b : Ledger) (inv : Inv st s b) (h : sound st ≡ true) (t : ℕ) (nz : t ≢ 0) (z : is_live t st ≡ true) where
  abbrev l : Live
  l = live_at st (place_of t st)

  drafted : (p : Draft) × (draft_of t b.drafts ≡ some p)
  drafted = draft-of st (draft_in b) inv.drafts t (place_of t st) (place-hit st t z).1 nz

  abbrev p : Draft
  p = drafted.0

  same : Matches p l
  same = matches-at st (draft_in b) h inv.drafts t z p drafted.1

  -- one that is open has no commit line
  open-uncommitted : is_closing l.phase ≡ false → (ls : List Line) (ns : List ℕ) → Agrees b ls ns → Uncommitted ls t
  open-uncommitted nc ls ns ag = (ag.drafts t p drafted.1).open-still (same.clock ∙ open-clock l.phase nc)

  -- nor has one whose commit record is not stored yet: where it stood, a slot would have it
  unstored : (d c n : ℕ) → l.phase ≡ Closing d c n → n ≤ write_count l → (j : Committed) → Memᴰ j b.standing → j.id.txn ≡ t → ⊥
  unstored d c n q o j m e =
      let r = stands-in st.kind s b.standing inv.core.found j m in
      let same-txn : r.2.id.txn ≡ l.txn = sym (ap (λ (x : Committed). x.id.txn) r.4 ∙ ap (λ (x : Id). x.txn) (committed-id st.kind s r.0 r.2)) ∙ (e ∙ sym (place-hit st t z).1) in
      go r.0 r.2 r.1 r.3 same-txn (ℕ_discrete r.0 d)
    where
      go : (d' : ℕ) (x : Entry) → d' < st.kind.slots → seen st.kind s d' ≡ committed x → x.id.txn ≡ l.txn → Dec (d' ≡ d) → ⊥
      go d' x low y et (yes w) = not_free (seen st.kind s d') x y (ap (seen st.kind s) w ∙ (inv.slots.closing (place_of t st) d c n q).unmarked o)
      go d' x low y et (no w) = unseen st s inv.slots h (place_of t st) d c n d' x q w low y et

  closing-uncommitted : (d c n : ℕ) → l.phase ≡ Closing d c n → n ≤ write_count l → (ls : List Line) (ns : List ℕ) → Agrees b ls ns → Uncommitted ls t
  closing-uncommitted d c n q o ls ns ag x m = let r = (ag.drafts t p drafted.1).stands x m in unstored d c n q o r.0 r.1 r.2

  -- ── its lines ──
  pub kept-answered : (k v : ℕ) → is_closing l.phase ≡ false → k < keys → t < txn_range → Answered b (Put t k v) A.Kept
  unfolding feed logged started_in onto txn_of key_of number_of
  kept-answered k v nc ok ot = record {
    agreed = λ ls ns ag. let un = open-uncommitted nc ls ns ag in agrees-kept b ls ns ag t p drafted.1 un k v (write-good ls t k un) ((nz, ot), ok);
  }

  pub closing-answered : (c d : ℕ) → is_closing l.phase ≡ false → Answered b (Commit t c) (A.Closing d)
  unfolding feed logged started_in onto txn_of key_of number_of
  closing-answered c d nc = record { agreed = λ ls ns ag. agrees-closing b ls ns ag t p drafted.1 (open-uncommitted nc ls ns ag) _ }

  -- a version: its author is a past transaction, and the reads with it are an Atomic Readset
  module _ (k d : ℕ) (nc : is_closing l.phase ≡ false) (ok : k < keys) (ot : t < txn_range) (ch : choice_of st l k ≡ version d)
      (κ : Kind) (s' : List ℕ) (lasts : Lasting κ s' (with_drafts (revised t (reading k (entry_at st d).id) b.drafts) b)) where
    abbrev i : Id
    i = (entry_at st d).id

    abbrev new : Read
    new = record { key = k; id = (entry_at st d).id }

    not_own : has_written k l ≡ false
    unfolding choice_of
    not_own = go (has_written k l) refl ch
      where
        go : (w : Bool) → has_written k l ≡ w → cond w (own (value_under k (writes_of l))) (choose st.entries (reads_of l) k) ≡ version d → has_written k l ≡ false
        go true e q = absurd (let y : ◌≡◌ {A = ℕ} 0 1 = cc in omega arith)
        go false e q = e

    no_value : p.values k ≡ none
    unfolding has_written
    no_value = same.values k ∙ (lookup_first (writes_of l) k ∙ (rw not_own))

    sure : (r : Read) → Memᴰ r (new ∷ p.reads)
        → (j : Committed) × Memᴰ j b.standing × (j.id ≡ r.id) × Wrote j r.key × ((q : Read) → Memᴰ q (new ∷ p.reads) → Wrote j q.key → older q.id r.id ≡ true → ⊥)
    unfolding with_drafts mapped
    sure = lasts.sure t (reading k i p) (draft-revised t (reading k i) (λ q. refl) b.drafts t ∙ (at_same t _ (λ x. draft_of x b.drafts) ∙ ap (mapped (reading k i)) drafted.1))

    module _ (ls : List Line) (ns : List ℕ) (ag : Agrees b ls ns) where
      was_read : (r : Read) → Memᴰ r (read_set t ls) → Memᴰ r p.reads
      was_read r m = ((ag.drafts t p drafted.1).reads r).1 (read_above ls t r m)

      is_read : (r : Read) → Memᴰ r (new ∷ read_set t ls) → Memᴰ r (new ∷ p.reads)
      is_read r m = ⊎_elim (λ e. mathlib.Core.List.Memᴰ.head e) (λ x. mathlib.Core.List.Memᴰ.tail (was_read r x)) (mathlib.Core.List.Memᴰ.cases_cons m)

      author : (r : Read) → Memᴰ r (new ∷ p.reads) → Memᴰ (L.commit r.id.txn r.id.clock) ls × Memᴰ (L.write r.id.txn r.key) ls
      author r m =
          let f = sure r m in
          let g = ag.past f.0 (inv.core.kept f.0 f.1) in
          (subst (λ (x : Id). Memᴰ (L.commit x.txn x.clock) ls) f.2 g.committed, subst (λ (x : Id). Memᴰ (L.write x.txn r.key) ls) f.2 ((g.wrote r.key).0 f.3))

      atomic : (r q : Read) → Memᴰ r (new ∷ p.reads) → Memᴰ q (new ∷ p.reads) → Memᴰ (L.write r.id.txn q.key) ls → older q.id r.id ≡ true → ⊥
      atomic r q mr mq w o =
          let f = sure r mr in
          let g = ag.past f.0 (inv.core.kept f.0 f.1) in
          f.4 q mq ((g.wrote q.key).1 (subst (λ (x : Id). Memᴰ (L.write x.txn q.key) ls) (sym f.2) w)) o

      one-version : (r : Read) → Memᴰ r (read_set t ls) → r.key ≡ k → r.id ≡ i
      one-version r m e =
          let mr : Memᴰ r (new ∷ p.reads) = mathlib.Core.List.Memᴰ.tail (was_read r m) in
          let mi : Memᴰ new (new ∷ p.reads) = mathlib.Core.List.Memᴰ.head refl in
          older-total r.id i
          (refuted _ (λ o. atomic new r mi mr (subst (λ (x : ℕ). Memᴰ (L.write i.txn x) ls) (sym e) (author new mi).1) o))
          (refuted _ (λ o. atomic r new mr mi (subst (λ (x : ℕ). Memᴰ (L.write r.id.txn x) ls) e (author r mr).1) o))

      read-line : Agrees (with_drafts (revised t (reading k i) b.drafts) b) (L.read t k i ∷ ls) ns
      read-line =
          let un = open-uncommitted nc ls ns ag in
          let a = author new (mathlib.Core.List.Memᴰ.head refl) in
          let f = committed-fits ls i.txn i.clock a.0 ag.fits in
          agrees-read b ls ns ag t p drafted.1 un k i
          (read-good ls t k i un a.0 a.1 (λ m. let w = ((ag.drafts t p drafted.1).wrote k).1 m in none-ne-some w.0 (sym no_value ∙ w.1))
          (λ r q mr mq. atomic r q (is_read r mr) (is_read q mq)) one-version)
          ((nz, ot), ok, f.1, f.0)

    pub version-answered : (v : ℕ) → Answered b (Get t k) (A.Version v (entry_at st d).id)
    unfolding feed logged started_in onto txn_of key_of
    version-answered v = record { agreed = read-line }

  -- the commit record: the transaction is closing, has a clock and wrote a key
  module _ (d c n : ℕ) (q : l.phase ≡ Closing d c n) (o : n ≤ write_count l) (ot : t < txn_range) (x : ℕ) (κ : Kind) (s' : List ℕ) (lasts : Lasting κ s' (feed (A.Slipped x) (Step t) b)) where
    recorded : (p.clock < number_range) × (k : ℕ) × Wrote (committed_of p) k
    unfolding feed txn_of committed_from
    recorded = lasts.core.recorded (committed_of p) (subst (λ (y : Option Draft). Memᴰ (committed_of p) (committed_from y ++ b.past)) (sym drafted.1) (mathlib.Core.List.Memᴰ.head refl))

    clocked : p.clock ≢ 0
    clocked e = lt_irrefl 0 (omega (arith, e, same.clock, clock-closing l.phase d c n q, (closing-facts st h (place_of t st) d c n q).clocked))

    commits : (ls : List Line) (ns : List ℕ) → Agrees b ls ns
        → Agrees (record { drafts = b.drafts; standing = committed_of p ∷ b.standing; past = committed_of p ∷ b.past }) (L.commit p.txn p.clock ∷ ls) ns
    commits ls ns ag =
        let un = closing-uncommitted d c n q o ls ns ag in
        subst (λ (u : ℕ). Agrees (record { drafts = b.drafts; standing = committed_of p ∷ b.standing; past = committed_of p ∷ b.past }) (L.commit u p.clock ∷ ls) ns) (sym (draft-txn t b.drafts p drafted.1))
        (agrees-slipped b ls ns ag t p drafted.1 un clocked (commit-good ls t p.clock recorded.1 un (((ag.drafts t p drafted.1).wrote recorded.1).0 recorded.2)) ((nz, ot), (clocked, recorded.0)))

    pub slipped-answered : Answered b (Step t) (A.Slipped x)
    unfolding feed logged started_in onto txn_of committed_from
    slipped-answered = record {
      agreed = λ ls ns ag. subst (λ (y : Option Draft). Agrees (record { drafts = b.drafts; standing = committed_from y ++ b.standing; past = committed_from y ++ b.past }) (onto ls (map commit_line (committed_from y))) ns)
          (sym drafted.1) (commits ls ns ag);
    }
