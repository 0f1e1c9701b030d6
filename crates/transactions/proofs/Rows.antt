-- What start, abort and put come to, row by row of their refusals and after them, for a sound station: in the terms that their code tests.
use Prim.Native.Nat.{ℕ, ◌<◌, ◌≤◌}
use mathlib.Core.Path.{◌≡◌, refl, sym, ap, ◌∙◌}
use mathlib.Core.Logic.{◌≢◌, ◌⊎◌, ⊎_elim}
use mathlib.Core.Bool.{Bool, true, false, not}
use mathlib.Core.List.{[], ◌∷◌, map}
use lib.Dec.{eqb, leb}
use lib.ListN.{length}
use borrow.Author.Tests.{le-leb, lt-leb, eq-eqb, ne_eqb}
use Rattle.model.specs.Types.{Live}
use Rattle.model.specs.Types.{Station}
use Rattle.model.specs.declared.Answer.{Answer}
use Rattle.model.specs.declared.Answer.TheVariants as A
use Rattle.model.specs.Lists.{◌and◌, ◌or◌, first}
use Rattle.model.specs.Lives.{no_live, has_written}
use Rattle.model.specs.Stations.{live_at, set_live, live_txns, is_live, is_held, place_of}
use Rattle.model.specs.Sound.{sound}
use Rattle.model.specs.Effects.{Effect, says, ◌when◌, refusals, unsound}
use Rattle.model.specs.declared.refusal.Refusal.{Refusal}
use Rattle.model.specs.Refusals.{number_of}
use Rattle.model.specs.Start.{opened, start}
use Rattle.model.specs.Put.{with_write, put}
use Rattle.model.specs.Abort.{abort}
use Rattle.model.proofs.RefusalLaws.{refusals-none, skipped, hit}
use Rattle.model.proofs.Tests.{and_intro, or-none, or-intro-left, or-intro-right, not_of_false, not-of-true, and-none-left, and-none-right}
use Rattle.stations.specs.Found.{live_txn, entry_txn, live_in, place_in, first_row, named_rows, open_rows}
use Rattle.stations.proofs.Callers.{place_none, slot-none}
use Rattle.stations.proofs.RowLaws.{is-unsound, not-unsound, refusal-comes, rows-passed, open-numbered}

-- with the answer and the transaction that the code made
pub placed : (a a' : Answer) (st : Station) (i : ℕ) (l l' : Live) (e : Effect) → a ≡ a' → l ≡ l' → e ≡ says a' (set_live st i l') → e ≡ says a (set_live st i l)
placed a a' st i l l' e p q h = h ∙ sym (λ z. says (p z) (set_live st i (q z)))

-- the slot and the place of a transaction, as the code found them
pub record Sought (st : Station) (t j i : ℕ) : Type 0 where
  pub slot_at : j ≡ first (eqb t) (map entry_txn st.entries)
  pub place_at : i ≡ first (eqb t) (map live_txn st.live)
  pub entries64 : length st.entries ≡ 64
  pub live8 : length st.live ≡ 8

-- ── start ──
pub start-2 : (st : Station) → sound st ≡ false → (t : ℕ) → start st t ≡ says (A.Refused 2 0) st
unfolding start
start-2 st h t = hit 2 _ _ st _ (is-unsound st h)

module _ (st : Station) (h : sound st ≡ true) (t : ℕ) where
  pub start-3 : t ≡ 0 → start st t ≡ says (A.Refused 3 0) st
  unfolding start
  start-3 e = skipped 2 _ _ st _ (not-unsound st h) ∙ hit 3 _ _ st _ (eq-eqb t 0 e)

  module _ (n : t ≢ 0) where
    pub start-6 : (is_live t st ≡ true) ⊎ (is_held t st ≡ true) → start st t ≡ says (A.Refused 6 0) st
    unfolding start
    start-6 x = skipped 2 _ _ st _ (not-unsound st h) ∙ (skipped 3 _ _ st _ (ne_eqb t 0 n) ∙ hit 6 _ _ st _ (⊎_elim (or-intro-left _ _) (or-intro-right _ _) x))

module _ (st : Station) (t j i : ℕ) (y : Sought st t j i) (h : sound st ≡ true) (n : t ≢ 0) (l : 8 ≤ i) (g : 64 ≤ j) where
  nowhere : (is_live t st or is_held t st) ≡ false
  nowhere = or-none _ _ (place_none st t i y.place_at y.live8 l) (slot-none st t j y.slot_at y.entries64 g)

  pub start-7 : is_live 0 st ≡ false → start st t ≡ says (A.Refused 7 0) st
  unfolding start
  start-7 z =
      skipped 2 _ _ st _ (not-unsound st h)
      ∙ (skipped 3 _ _ st _ (ne_eqb t 0 n) ∙ (skipped 6 _ _ st _ nowhere ∙ hit 7 _ _ st _ (not_of_false _ z)))

  pub start-done : is_live 0 st ≡ true → (k : ℕ) → k ≡ place_of 0 st → start st t ≡ says A.Started (set_live st k (opened t))
  unfolding start
  start-done z k at =
      skipped 2 _ _ st _ (not-unsound st h)
      ∙ (skipped 3 _ _ st _ (ne_eqb t 0 n)
      ∙ (skipped 6 _ _ st _ nowhere
      ∙ (skipped 7 _ _ st _ (not-of-true _ z)
      ∙ (refusals-none st _ ∙ ap (λ (m : ℕ). says A.Started (set_live st m (opened t))) (sym at)))))

-- ── abort ──
module _ (st : Station) (t : ℕ) (b : Bool) (tested : b ≡ sound st) where
  abort-rows : abort st t ≡ refusals (open_rows st.live t 0 (sound st)) st (says A.Dropped (set_live st (place_of t st) no_live))
  unfolding abort refusals open_rows named_rows unsound is_live live_txns place_of live_at
  abort-rows = refl

  pub abort_refused : (r : Refusal) → number_of r ≡ first_row (open_rows st.live t 0 b) → abort st t ≡ says (A.Refused (number_of r) 0) st
  abort_refused r e = abort-rows ∙ refusal-comes st (open_rows st.live t 0) b tested r e _

  pub abort-done : first_row (open_rows st.live t 0 b) ≡ 0 → (i : ℕ) → i ≡ place_in t st.live → abort st t ≡ says A.Dropped (set_live st i no_live)
  unfolding place_of live_txns
  abort-done e i p =
      abort-rows ∙ (rows-passed st (open_rows st.live t 0) b tested e (open-numbered st.live t 0 (sound st)) _
      ∙ ap (λ (j : ℕ). says A.Dropped (set_live st j no_live)) (sym p))

-- ── put ──
module _ (st : Station) (t k v : ℕ) (b : Bool) (tested : b ≡ sound st) where
  -- row 11 and the effect, of transaction l at place i
  abbrev put_rest : ℕ → Live → Effect
  put_rest i l = refusals (11 when (not (has_written k l) and leb st.kind.write_limit l.write_count) ∷ []) st (says A.Kept (set_live st i (with_write k v l)))

  put-rows : put st t k v ≡ refusals (open_rows st.live t k (sound st)) st (put_rest (place_of t st) (live_at st (place_of t st)))
  unfolding put refusals open_rows named_rows unsound is_live live_txns place_of live_at
  put-rows = refl

  pub put_refused : (r : Refusal) → number_of r ≡ first_row (open_rows st.live t k b) → put st t k v ≡ says (A.Refused (number_of r) 0) st
  put_refused r e = put-rows ∙ refusal-comes st (open_rows st.live t k) b tested r e _

  module _ (e : first_row (open_rows st.live t k b) ≡ 0) (i : ℕ) (p : i ≡ place_in t st.live) (l : Live) (f : l ≡ live_in st.live i) where
    put-passed : put st t k v ≡ put_rest i l
    unfolding live_at place_of live_txns
    put-passed =
        put-rows ∙ (rows-passed st (open_rows st.live t k) b tested e (open-numbered st.live t k (sound st)) _
        ∙ (ap (λ (j : ℕ). put_rest j (live_at st j)) (sym p) ∙ ap (put_rest i) (sym f)))

    pub put-11 : st.kind.write_limit ≤ l.write_count → has_written k l ≡ false → put st t k v ≡ says (A.Refused 11 0) st
    put-11 w h = put-passed ∙ hit 11 _ _ st _ (and_intro _ _ (not_of_false _ h) (le-leb st.kind.write_limit _ w))

    pub put-done : (not (has_written k l) and leb st.kind.write_limit l.write_count) ≡ false → put st t k v ≡ says A.Kept (set_live st i (with_write k v l))
    put-done h = put-passed ∙ (skipped 11 _ _ st _ h ∙ refusals-none st _)

-- row 11 does not apply: there is room, or the key is there
pub room : (n k : ℕ) (l : Live) → (l.write_count < n) ⊎ (has_written k l ≡ true) → (not (has_written k l) and leb n l.write_count) ≡ false
room n k l x = ⊎_elim (λ o. and-none-right _ _ (lt-leb n _ o)) (λ e. and-none-left _ _ (not-of-true _ e)) x
