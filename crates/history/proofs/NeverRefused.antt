-- In a history no call is refused with 1, 2, 17 or 18.
use Prim.Native.Nat.{ℕ}
use mathlib.Core.Path.{◌≡◌, refl}
use mathlib.Core.Bool.{Bool, true, false}
use mathlib.Core.List.{List, [], ◌∷◌}
use lib.Dec.{eqb, ltb}
use lib.ListN.{length}
use borrow.Author.Tests.{not-false, eq-eqb}
use Rattle.model.specs.Types.{Station}
use Rattle.model.specs.Kinds.{Kind, store_size, KindFits}
use Rattle.model.specs.declared.Answer.{Answer}
use Rattle.model.specs.declared.Answer.TheVariants as A
use Rattle.model.specs.Lists.{any, member}
use Rattle.model.specs.Lives.{write_count, records_stored}
use Rattle.model.specs.Stations.{live_at, entry_at, is_held, place_of}
use Rattle.model.specs.Sound.{sound}
use Rattle.model.specs.Reading.{Choice, own, absent, nofit, version}
use Rattle.model.specs.Effects.{RecordWrite, Effect, says, says_storing, says_storing_all, Row, ◌when◌, refusals, wrong_length, unsound}
use Rattle.model.specs.Start.{start}
use Rattle.model.specs.Put.{put}
use Rattle.model.specs.Get.{choice_of, version_at, not_carried, answered, get}
use Rattle.model.specs.Commit.{commit}
use Rattle.model.specs.Step.{stepped, step}
use Rattle.model.specs.Abort.{abort}
use Rattle.model.specs.Collect.{collect}
use Rattle.model.specs.Sweep.{sweep}
use Rattle.model.specs.Calls.{Call, Start, Put, Get, Commit, Step, Abort, Collect, Scan, Sweep, does}
use Rattle.model.specs.Answers.{refused_with}
use Rattle.model.proofs.Tests.{or_right, not-of-true}
use Rattle.model.proofs.RefusalLaws.{guard, unguarded, cond-rule, skipped}
use Rattle.model.proofs.SlotLaws.{committed-carries, committed-version}
use Rattle.model.proofs.StationLaws.{held-txn}
use Rattle.model.proofs.GetLaws.{version-entry}
use Rattle.model.proofs.SoundFacts.{wrote-held}
use Rattle.history.specs.Ledger.{Ledger}
use Rattle.history.specs.Histories.{Event, running, begin, run, AllInRange}
use Rattle.history.proofs.Invariant.{Inv}
use Rattle.history.proofs.Recovering.{scan-is}
use Rattle.history.proofs.Theorem.{running-keeps}

-- the numbers of a store or a station that is not as it should be
abbrev pub faults : List ℕ
faults = 1 ∷ 2 ∷ 17 ∷ 18 ∷ []

unfoldable pub Calm : Effect → Type 0
Calm e = member (refused_with e.answer) faults ≡ false

calm-says : (a : Answer) (st : Station) → member (refused_with a) faults ≡ false → Calm (says a st)
unfolding Calm says
calm-says a st h = h

calm-stores : (a : Answer) (st : Station) (d n : ℕ) (r : List ℕ) → member (refused_with a) faults ≡ false → Calm (says_storing a st d n r)
unfolding Calm says_storing
calm-stores a st d n r h = h

calm-stores-all : (a : Answer) (st : Station) (ws : List RecordWrite) → member (refused_with a) faults ≡ false → Calm (says_storing_all a st ws)
unfolding Calm
calm-stores-all a st ws h = h

-- a row with another number
row : (n : ℕ) (b : Bool) (rs : List Row) (st : Station) (e : Effect) → member n faults ≡ false → (b ≡ false → Calm (refusals rs st e)) → Calm (refusals (n when b ∷ rs) st e)
unfolding refused_with
row n b rs st e h f = guard Calm n b rs st e (calm-says (A.Refused n 0) st h) f

-- a row that does not apply
off : (n : ℕ) (b : Bool) (rs : List Row) (st : Station) (e : Effect) → b ≡ false → Calm (refusals rs st e) → Calm (refusals (n when b ∷ rs) st e)
off n b rs st e h c = rw (skipped n b rs st e h) c

module _ (st : Station) (s : List ℕ) (b : Ledger) (h : sound st ≡ true) (inv : Inv st s b) where
  pub off1 : wrong_length st.kind s ≡ false
  unfolding wrong_length
  off1 = not-of-true _ (eq-eqb (length s) (store_size st.kind) inv.core.size)

  pub off2 : unsound st ≡ false
  unfolding unsound
  off2 = not-of-true _ h

  -- the version record of an entry carries it
  pub off17 : (i k : ℕ) (ch : Choice) → choice_of st (live_at st i) k ≡ ch → not_carried st s k ch ≡ false
  unfolding not_carried version_at
  off17 i k (own v) e = refl
  off17 i k absent e = refl
  off17 i k (nofit x) e = refl
  off17 i k (version d) e =
      let r = version-entry st (live_at st i) k d e in
      not-of-true _ (committed-version st.kind s d (entry_at st d) (inv.slots.entered d (wrote-held st h d k r.1)) k r.1)

  pub calm : (c : Call) → Calm (does c st s)
  unfolding does start put get commit step abort collect sweep stepped answered member any refused_with
  calm (Start t) = off 2 _ _ st _ off2 (row 3 _ _ st _ refl λ h3. row 6 _ _ st _ refl λ h6. row 7 _ _ st _ refl λ h7. unguarded Calm st _ (calm-says _ _ refl))
  calm (Put t k v) = off 2 _ _ st _ off2 (row 3 _ _ st _ refl λ h3. row 4 _ _ st _ refl λ h4. row 8 _ _ st _ refl λ h8. row 9 _ _ st _ refl λ h9. row 11 _ _ st _ refl λ h11. unguarded Calm st _ (calm-says _ _ refl))
  calm (Get t k) = off 1 _ _ st _ off1 (off 2 _ _ st _ off2 (row 3 _ _ st _ refl λ h3. row 4 _ _ st _ refl λ h4. row 8 _ _ st _ refl λ h8. row 9 _ _ st _ refl λ h9. row 12 _ _ st _ refl λ h12.
      off 17 _ _ st _ (off17 (place_of t st) k _ refl) (unguarded Calm st _ (by-choice (choice_of st (live_at st (place_of t st)) k)))))
    where
      by-choice : (ch : Choice) → Calm (answered st s (place_of t st) k ch)
      by-choice (own v) = calm-says _ _ refl
      by-choice absent = calm-says _ _ refl
      by-choice (nofit x) = calm-says _ _ refl
      by-choice (version d) = calm-says _ _ refl
  calm (Commit t c) = off 2 _ _ st _ off2 (row 3 _ _ st _ refl λ h3. row 5 _ _ st _ refl λ h5. row 8 _ _ st _ refl λ h8. row 9 _ _ st _ refl λ h9. row 13 _ _ st _ refl λ h13. row 21 _ _ st _ refl λ h21.
      unguarded Calm st _ (cond-rule Calm (is_held t st) _ _ (λ y. calm-says _ _ refl) λ y. cond-rule Calm (eqb (write_count (live_at st (place_of t st))) 0) _ _ (λ w. calm-says _ _ refl) λ w. calm-says _ _ refl))
  calm (Step t) = off 1 _ _ st _ off1 (off 2 _ _ st _ off2 (row 3 _ _ st _ refl λ h3. row 8 _ _ st _ refl λ h8. row 10 _ _ st _ refl λ h10.
      unguarded Calm st _ (cond-rule Calm (ltb (records_stored (live_at st (place_of t st)).phase) (write_count (live_at st (place_of t st)))) _ _ (λ y. calm-stores _ _ _ _ _ refl) λ y.
      cond-rule Calm (eqb (records_stored (live_at st (place_of t st)).phase) (write_count (live_at st (place_of t st)))) _ _ (λ w. calm-stores _ _ _ _ _ refl) λ w. calm-says _ _ refl)))
  calm (Abort t) = off 2 _ _ st _ off2 (row 3 _ _ st _ refl λ h3. row 8 _ _ st _ refl λ h8. row 9 _ _ st _ refl λ h9. unguarded Calm st _ (calm-says _ _ refl))
  calm (Collect d) = off 1 _ _ st _ off1 (off 2 _ _ st _ off2 (row 14 _ _ st _ refl λ h14. row 15 _ _ st _ refl λ h15. row 16 _ _ st _ refl λ h16.
      off 17 _ _ st _ (not-of-true _ (committed-carries st.kind s d (entry_at st d) (inv.slots.entered d (held-txn st d (not-false _ (or_right _ _ h14)))))) (unguarded Calm st _ (calm-stores _ _ _ _ _ refl))))
  calm (Sweep n) = off 1 _ _ st _ off1 (off 2 _ _ st _ off2 (row 20 _ _ st _ refl λ h20. unguarded Calm st _ (calm-stores-all _ _ _ refl)))
  calm Scan = rw (scan-is st.kind s b.standing b.past inv.core) (calm-says _ _ refl)

pub never-refused : (κ : Kind) → KindFits κ → (vs : List Event) → AllInRange vs → (st : Station) → (run vs (begin κ)).node ≡ running st → (c : Call) → member (refused_with (does c st (run vs (begin κ)).store).answer) faults ≡ false
unfolding Calm
never-refused κ φ vs f st e c = let r = running-keeps κ φ vs f st e in calm _ _ _ r.0 r.1 c
